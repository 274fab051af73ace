pub mod Data
pub mod First
pub mod inside
