pub mod Owed
pub mod Text
pub mod Growth
pub mod Shown
pub mod Items
pub mod Base
pub mod Going
