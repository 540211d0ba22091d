pub mod Gcm
pub mod Multiples
