pub mod Refusal
pub mod Suite
pub mod SetName
pub mod ShortNames
pub mod SnapName
pub mod Tree
pub mod RecordBytes
