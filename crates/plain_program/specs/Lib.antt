pub mod Forms
pub mod Plain
pub mod Points
pub mod Program
pub mod Table
pub mod inside
pub use Rattle.lisp_base.specs.Forest
pub use Rattle.lisp_base.specs.Value
