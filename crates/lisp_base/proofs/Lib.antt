mod Classes
mod Refusals
pub mod Writing
pub mod Words
