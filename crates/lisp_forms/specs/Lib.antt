pub mod Trees
pub mod Blocks
pub mod Parts
pub mod Rows
pub mod Expansion
pub mod Program
pub mod Laws
pub mod inside
