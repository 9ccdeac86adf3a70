pub mod InputLaws
pub mod RefusalLaws
