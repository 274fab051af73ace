-- What only proofs use.
pub mod One
pub mod Contexts
pub mod Sizes
pub mod Keys
