pub mod Xor
pub mod Cut
