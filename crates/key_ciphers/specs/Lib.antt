pub mod Ciphers
pub mod Calls
