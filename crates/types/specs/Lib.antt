pub mod Base
pub mod Refusals
pub mod MulDiv
pub mod Wide
pub mod BoolArray
