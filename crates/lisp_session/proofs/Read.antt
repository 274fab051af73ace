-- Why there is no program, from what reader and expander say.
use Rattle.std.proofs.Common.{◌≡◌, ℕ, List, [], Result, Ok, Err, IfOk, IsErrAnd, IfErr}
use Rattle.lisp_base.specs.declared.refusal.Rejection.{Rejection}
use Rattle.lisp_base.specs.declared.refusal.Rejection.TheVariants.{Refused, Memory}
use Rattle.symbol_table.specs.Names.{first_symbols}
use Rattle.lisp_data.specs.Data.{Data}
use Rattle.lisp_reader.specs.Reading.{IsRefusal as IsRefusalOfText, Reads}
use Rattle.lisp_reader.specs.Tables.{Tables, tables_of}
use Rattle.lisp_program.specs.Program.{Program}
use Rattle.lisp_forms.specs.Program.{Expands, IsRefusal as IsRefusalOfData}
use Rattle.lisp_session.specs.Programs.{as_data, as_text, as_unbuilt, first_tables}
use Rattle.lisp_session.specs.inside.Reading.{IsRefusal, IsUnbuilt, IsWhole}

-- the error that `?` passes on is the same
passed_on : {T : Type 0} (result : Result T Rejection) (rejection : Rejection) (P : Rejection → Type 0) → IsErrAnd result (λ e. e ≡ rejection)
    → P rejection → IfErr result P
passed_on (Ok x) rejection P h p = tt
passed_on (Err e) rejection P h p = rw h p

-- a text that is refused is no program
text_refused : (bytes : List ℕ) (after : Tables) (r : Rejection) → IsRefusalOfText bytes first_tables after r → IsRefusal bytes r
text_refused bytes after (Refused refusal place) h = as_text after h
text_refused bytes after Memory h = tt

-- nor are data of which something is refused
data_refused : (bytes : List ℕ) (after : Tables) (read : List Data) (r : Rejection) → Reads bytes first_tables after read
    → IsRefusalOfData after.symbols after.literals read r → IsRefusal bytes r
data_refused bytes after read (Refused refusal place) reads h = as_data after read reads h
data_refused bytes after read Memory reads h = tt

-- the same with the first tables as they were made
pub text_passed : {T : Type 0} (result : Result T Rejection) (bytes : List ℕ) (symbols literals symbols' literals' : List (List ℕ)) (r : Rejection)
    → symbols ≡ first_symbols → literals ≡ [] → IsErrAnd result (λ e. e ≡ r)
    → IsRefusalOfText bytes (tables_of symbols literals) (tables_of symbols' literals') r → IfErr result (IsRefusal bytes)
text_passed result bytes symbols literals symbols' literals' r s l is h =
    let first = rw (s, l) at h in passed_on result r (IsRefusal bytes) is (text_refused bytes (tables_of symbols' literals') r first)

-- what data stand for, and what they are refused for, is so of the bytes that read as them
pub data_read : {T : Type 0} (result : Result T Rejection) (of : T → Program) (bytes : List ℕ) (symbols literals symbols' literals' : List (List ℕ)) (read : List Data)
    → symbols ≡ first_symbols → literals ≡ [] → Reads bytes (tables_of symbols literals) (tables_of symbols' literals') read
    → IfOk result (λ p. Expands symbols' literals' read (of p)) → IfOk result (λ p. IsWhole bytes (tables_of symbols' literals') (of p))
data_read (Ok p) of bytes symbols literals symbols' literals' read s l reads h =
    let first = rw (s, l) at reads in record { read = read; reads = first; expands = h }
data_read (Err r) of bytes symbols literals symbols' literals' read s l reads h = tt

pub data_told : {T : Type 0} (result : Result T Rejection) (bytes : List ℕ) (symbols literals symbols' literals' : List (List ℕ)) (read : List Data)
    → symbols ≡ first_symbols → literals ≡ [] → Reads bytes (tables_of symbols literals) (tables_of symbols' literals') read
    → IfErr result (IsRefusalOfData symbols' literals' read) → IfErr result (IsRefusal bytes)
data_told (Ok p) bytes symbols literals symbols' literals' read s l reads h = tt
data_told (Err r) bytes symbols literals symbols' literals' read s l reads h =
    let first = rw (s, l) at reads in data_refused bytes (tables_of symbols' literals') read r first h

-- nor is a whole program with a form that is not run yet
unbuilt_refused : (bytes : List ℕ) (tables : Tables) (whole : Program) (r : Rejection) → IsWhole bytes tables whole → IsUnbuilt whole r → IsRefusal bytes r
unbuilt_refused bytes tables whole (Refused refusal place) reads found = as_unbuilt tables reads.read whole reads.reads reads.expands found.0 found.1
unbuilt_refused bytes tables whole Memory reads found = tt

pub unbuilt_passed : {T : Type 0} (result : Result T Rejection) (bytes : List ℕ) (tables : Tables) (whole : Program) (r : Rejection) → IsWhole bytes tables whole
    → IsErrAnd result (λ e. e ≡ r) → IsUnbuilt whole r → IfErr result (IsRefusal bytes)
unbuilt_passed result bytes tables whole r reads is found = passed_on result r (IsRefusal bytes) is (unbuilt_refused bytes tables whole r reads found)
