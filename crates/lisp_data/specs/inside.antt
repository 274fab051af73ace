-- What only proofs use.
pub mod Splitting
pub mod DataCode
