pub mod Skipped
pub mod Ends
pub mod Beside
