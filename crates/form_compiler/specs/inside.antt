-- What only proofs use.
pub mod Lengths
pub mod Seats
pub mod Unbuilt
pub mod Extents
pub mod Gives
pub mod Reaches
pub mod Marks
pub mod Tasks
pub mod Steps
pub mod Lists
pub mod Fits
pub mod Sound
pub mod Sheets
pub mod Seconds
pub mod Programs
