pub mod Lying
pub mod Rests
pub mod Fine
