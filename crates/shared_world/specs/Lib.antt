pub mod Doing
pub mod inside
