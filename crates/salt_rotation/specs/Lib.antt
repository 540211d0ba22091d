pub mod SeedWords
pub mod Places
pub mod Salts
pub mod SaltState
pub mod SaltsFields
