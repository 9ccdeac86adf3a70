pub mod HeadLaws
pub mod SidesLaws
pub mod RowLaws
pub mod EventLaws
pub mod RingLaws
pub mod WriteLaws
