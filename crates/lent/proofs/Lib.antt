pub mod RecordLaws
pub mod PaymentLaws
