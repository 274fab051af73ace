-- What stands for a program is well made.
pub mod Standing
pub mod Lowered
pub mod Rows
pub mod Frames
pub mod Operators
pub mod Shapes
pub mod Reading
pub mod Made
pub mod Names
pub mod Programs
