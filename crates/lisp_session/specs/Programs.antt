-- Which texts are programs, and why others are refused.
use Rattle.std.specs.Prelude.{◌≡◌, ◌⊎◌, ℕ, List, [], Some, None}
use Rattle.lisp_base.specs.declared.refusal.Refusal.{Refusal}
use Rattle.lisp_base.specs.declared.refusal.Refusal.TheVariants.{NotBuilt}
use Rattle.symbol_table.specs.Names.{first_symbols}
use Rattle.lisp_program.specs.Program.{Program}
use Rattle.lisp_data.specs.Data.{Data}
use Rattle.lisp_reader.specs.Reading.{Reads as ReadsData, IsRefused as IsRefusedText}
use Rattle.lisp_reader.specs.Tables.{Tables, tables_of}
use Rattle.lisp_forms.specs.Program.{Expands, IsRefused as IsRefusedData}
use Rattle.plain_program.specs.Plain.{first_unbuilt, plain_program}
use Rattle.plain_program.specs.Program.{PlainProgram}

-- the tables that are there at first: five symbols, and no string literals
abbrev pub first_tables : Tables
first_tables = tables_of first_symbols []

-- The bytes are a program with these symbols and string literals: they read as data, these stand for a whole program, all of
-- whose forms are run, and the program is that one, in the kinds that are run.
pub record Reads (bytes : List ℕ) (tables : Tables) (program : PlainProgram) : Type 0 where
  pub read : List Data
  pub reads : ReadsData bytes first_tables tables read
  pub whole : Program
  pub expands : Expands tables.symbols tables.literals read whole
  pub built : first_unbuilt whole.forms ≡ None
  pub is : program ≡ plain_program whole

-- The bytes are refused for this reason at this place: as a text, or for what the data are that they read as, or for the
-- first form of their whole program that is not run yet.
pub data IsRefused (bytes : List ℕ) (refusal : Refusal) (place : ℕ) : Type 0 where
  as_text : (tables : Tables) → IsRefusedText bytes first_tables tables refusal place → IsRefused bytes refusal place
  as_data : (tables : Tables) (read : List Data) → ReadsData bytes first_tables tables read
      → IsRefusedData tables.symbols tables.literals read refusal place → IsRefused bytes refusal place
  as_unbuilt : (tables : Tables) (read : List Data) (whole : Program) → ReadsData bytes first_tables tables read
      → Expands tables.symbols tables.literals read whole → first_unbuilt whole.forms ≡ Some place → refusal ≡ NotBuilt → IsRefused bytes refusal place

-- the bytes are some program
pub record IsProgram (bytes : List ℕ) : Type 0 where
  pub tables : Tables
  pub program : PlainProgram
  pub reads : Reads bytes tables program

-- the bytes are refused for some reason at some place
pub record IsNoProgram (bytes : List ℕ) : Type 0 where
  pub refusal : Refusal
  pub place : ℕ
  pub refused : IsRefused bytes refusal place

-- all bytes are a program or are refused
abbrev pub ProgramOrRefused : Type 0
ProgramOrRefused = (bytes : List ℕ) → IsProgram bytes ⊎ IsNoProgram bytes

-- bytes are at most one program
abbrev pub OneProgram : Type 0
OneProgram = (bytes : List ℕ) (t u : Tables) (p q : PlainProgram) → Reads bytes t p → Reads bytes u q → (t ≡ u) × (p ≡ q)

-- bytes are refused for one reason at one place
abbrev pub OneRefusal : Type 0
OneRefusal = (bytes : List ℕ) (m n : Refusal) (p q : ℕ) → IsRefused bytes m p → IsRefused bytes n q → (m ≡ n) × (p ≡ q)

-- no bytes are both
abbrev pub NeverBoth : Type 0
NeverBoth = (bytes : List ℕ) (tables : Tables) (program : PlainProgram) (refusal : Refusal) (place : ℕ) → Reads bytes tables program → IsRefused bytes refusal place → ⊥
