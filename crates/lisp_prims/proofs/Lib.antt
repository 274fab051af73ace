pub mod Floors
pub mod Same
