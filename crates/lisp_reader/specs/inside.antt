-- What only proofs use.
pub mod Scanning
pub mod Marking
pub mod Build
pub mod Stack
