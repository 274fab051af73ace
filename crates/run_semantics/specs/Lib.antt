pub mod Replay
pub mod Over
pub mod Report
pub mod Run
pub mod Rows
