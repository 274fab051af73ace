-- What only proofs use.
pub mod Firsts
pub mod Known
pub mod Flat
pub mod Made
pub mod Lowering
pub mod Written
pub mod Functions
pub mod Standing
