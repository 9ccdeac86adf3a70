pub mod CallsLaws
pub mod FieldsLaws
pub mod Fixed
pub mod NumberLaws
