-- What only proofs use.
pub mod Nodes
pub mod Steps
pub mod Flatten
