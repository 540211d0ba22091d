pub mod Parts
pub mod WrappingLaws
pub mod StoredLaws
