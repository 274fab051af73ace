pub mod Forms
pub mod Program
pub mod WellMade
pub use Rattle.lisp_base.specs.Forest
pub use Rattle.lisp_base.specs.Value
