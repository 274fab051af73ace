pub mod Scoping
pub mod Unused
pub mod inside
