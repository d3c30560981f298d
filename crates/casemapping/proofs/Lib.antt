pub mod FoldLemmas
pub mod SameNames
pub mod Fits
pub mod MaskLemmas
