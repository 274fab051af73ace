-- What only proofs use.
pub mod Ends
pub mod Reading
