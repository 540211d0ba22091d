pub mod SealedBytes
