pub mod Points
pub mod Operands
pub mod Table
pub mod Primitives
