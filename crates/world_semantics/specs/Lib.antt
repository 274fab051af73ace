pub mod World
pub mod Effect
pub use Rattle.lisp_base.specs.Value
