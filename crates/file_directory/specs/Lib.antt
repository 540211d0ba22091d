pub mod Entries
pub mod Form
pub mod Reading
