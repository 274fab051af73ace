pub mod Advances
pub mod Bound
pub mod Shown
pub mod Variables
pub mod Turned
pub mod Reported
