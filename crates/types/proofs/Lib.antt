pub mod Below
pub mod ListLaws
pub mod MulDivLaws
pub mod WideLaws
pub mod BoolArrayLaws
pub mod OutcomeLaws
pub mod Fixed
