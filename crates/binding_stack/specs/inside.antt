-- What only proofs use.
pub mod Entries
