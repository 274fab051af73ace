pub mod State
pub mod Acts
pub mod Step
