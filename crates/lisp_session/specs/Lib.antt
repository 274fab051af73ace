pub mod Programs
pub mod Headline
pub mod Answers
pub mod Texts
pub mod inside
