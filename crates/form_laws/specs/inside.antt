-- What only proofs use.
pub mod Openings
pub mod Marks
pub mod Parts
pub mod Read
