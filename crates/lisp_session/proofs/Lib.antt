pub mod Once
pub mod Wholes
pub mod Read
pub mod Sent
pub mod Answered
pub mod Promised
