-- What reading a program answers.
use Rattle.std.specs.Prelude.{◌≡◌, ℕ, List, Some, None}
use Rattle.lisp_base.specs.declared.refusal.Refusal.TheVariants.{NotBuilt}
use Rattle.lisp_base.specs.declared.refusal.Rejection.{Rejection}
use Rattle.lisp_base.specs.declared.refusal.Rejection.TheVariants.{Refused, Memory}
use Rattle.lisp_program.specs.Program.{Program}
use Rattle.lisp_data.specs.Data.{Data}
use Rattle.lisp_reader.specs.Reading.{Reads as ReadsData}
use Rattle.lisp_reader.specs.Tables.{Tables}
use Rattle.lisp_forms.specs.Program.{Expands}
use Rattle.plain_program.specs.Plain.{first_unbuilt, plain_forms}
use Rattle.plain_program.specs.Forms.{PlainForms, forms_of}
use Rattle.plain_program.specs.Program.{PlainProgram}
use Rattle.lisp_session.specs.declared.program.Reading.{Reading}
use Rattle.lisp_session.specs.Programs.{IsRefused, first_tables}

-- a refusal says why the bytes are no program; memory that ran out says nothing
abbrev pub IsRefusal : List ℕ → Rejection → Type 0
IsRefusal bytes (Refused refusal place) = IsRefused bytes refusal place
IsRefusal bytes Memory = Unit {0}

-- the bytes read as data that stand for this whole program, with these symbols and string literals
pub record IsWhole (bytes : List ℕ) (tables : Tables) (whole : Program) : Type 0 where
  pub read : List Data
  pub reads : ReadsData bytes first_tables tables read
  pub expands : Expands tables.symbols tables.literals read whole

-- all forms of a whole program are run, and these are those of main in the kinds that are run
pub record IsPlain (whole : Program) (forms : PlainForms) : Type 0 where
  pub built : first_unbuilt whole.forms ≡ None
  pub is : forms ≡ plain_forms whole.forms

-- the first form of a whole program that is not run yet; memory that ran out says nothing
abbrev pub IsUnbuilt : Program → Rejection → Type 0
IsUnbuilt whole (Refused refusal place) = (first_unbuilt whole.forms ≡ Some place) × (refusal ≡ NotBuilt)
IsUnbuilt whole Memory = Unit {0}

-- the program that was read, in the kinds that are run
abbrev pub program_in : Reading → PlainProgram
program_in reading = record { forms = forms_of reading.forms.items; specials = reading.program.specials }
