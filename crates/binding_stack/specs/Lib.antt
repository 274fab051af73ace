pub mod Stack
pub mod Calls
pub mod inside
pub use Rattle.environment_semantics.specs.Environment
