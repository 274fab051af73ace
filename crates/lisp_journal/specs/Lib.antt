pub mod Line
pub mod Journal
pub mod Report
pub mod Refusal
pub mod Lines
