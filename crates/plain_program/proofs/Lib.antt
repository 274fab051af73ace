pub mod Flatly
pub mod Tables
pub mod Joined
pub mod Closed
pub mod Flattened
