pub mod ClientLemmas
pub mod LastLemmas
pub mod TagsLemmas
pub mod ValueLemmas
