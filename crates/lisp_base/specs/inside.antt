-- How values are held.
pub mod Words
