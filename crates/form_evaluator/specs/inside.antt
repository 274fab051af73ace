-- What only proofs use.
pub mod Evaluator
pub mod Moves
pub mod Globals
pub mod Running
pub mod Lists
