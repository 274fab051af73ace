pub mod Machine
pub mod Links
pub mod Ran
pub mod Answered
pub mod Relation
