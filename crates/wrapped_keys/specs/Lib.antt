pub mod Aead
pub mod Values
pub mod Wrapping
pub mod Stored
pub mod PaddedKey
pub mod PaddedRecord
