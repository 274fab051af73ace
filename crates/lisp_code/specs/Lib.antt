pub mod Held
pub mod Lines
pub mod Parts
pub mod CodeOf
pub mod Validity
pub mod Resting
pub mod inside
pub mod Rows
