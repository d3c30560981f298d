pub mod Fold
pub mod Mask
pub mod MaskSteps
pub mod Names
