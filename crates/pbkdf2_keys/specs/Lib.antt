pub mod Pbkdf2
