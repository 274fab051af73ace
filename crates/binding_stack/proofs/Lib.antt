pub mod Entries
pub mod Together
