-- What only proofs use.
pub mod Globals
