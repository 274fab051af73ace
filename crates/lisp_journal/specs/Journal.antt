-- The text of the journal.
use Rattle.std.specs.Prelude.{ℕ, List, ◌++◌, Option, Some, None, Bool, true, false, codes}
use Rattle.std.specs.Fmt.{decimal}
use Rattle.std.specs.List.{flat_map}
use Rattle.lisp_base.specs.declared.condition.Condition.{Condition}
use Rattle.lisp_base.specs.declared.value.Node.TheVariants.{Symbol, Cond}
use Rattle.lisp_base.specs.declared.id.Actor.{Actor}
use Rattle.lisp_base.specs.declared.id.Actor.TheVariants.{Thread, Runner}
use Rattle.world_semantics.specs.declared.entry.Entry.{Entry}
use Rattle.world_semantics.specs.declared.op.Op.{Op}
use Rattle.world_semantics.specs.declared.op.Op.TheVariants.{Get, Set, Boundp, Out, Finish}
use Rattle.world_semantics.specs.declared.op.Printed.{Printed}
use Rattle.world_semantics.specs.declared.op.Printed.TheVariants.{Print}
use Rattle.world_semantics.specs.declared.op.Reply.{Reply}
use Rattle.world_semantics.specs.declared.op.Reply.TheVariants.{Okay, Value, Unbound, Truth}
use Rattle.world_semantics.specs.declared.phase.Ending.{Ending}
use Rattle.world_semantics.specs.declared.phase.Ending.TheVariants.{Returned, Aborted}
use Rattle.lisp_reader.specs.Printing.{escaped_string, printed}
use Rattle.lisp_journal.specs.Line.{on_line, value_text}

-- `t` and its number for a thread, `clk` for the runner
abbrev pub actor_text : Actor → List ℕ
actor_text (Thread t) = codes "t" ++ decimal t
actor_text Runner = codes "clk"

-- the condition with which a thread was aborted, or NIL
abbrev pub cause_text : (symbols literals : List (List ℕ)) → Option Condition → List ℕ
cause_text symbols literals None = codes "NIL"
cause_text symbols literals (Some c) = value_text symbols literals (Cond c)

-- how a thread ended
abbrev pub ending_text : (symbols literals : List (List ℕ)) → Ending → List ℕ
ending_text symbols literals (Returned v) = codes "returned " ++ value_text symbols literals v
ending_text symbols literals (Aborted cause) = codes "aborted " ++ cause_text symbols literals cause

-- the characters that are printed: `print` writes a newline, the escaped value and a space
abbrev pub printed_characters : (symbols literals : List (List ℕ)) → Printed → List ℕ
printed_characters symbols literals (Print v) = codes "\n" ++ printed true symbols literals v ++ codes " "

-- What is printed, as a string with these characters is written on a line: a newline as `\n`, and a `\` before `"` and `\`.
abbrev pub printed_text : (symbols literals : List (List ℕ)) → Printed → List ℕ
printed_text symbols literals p = on_line (escaped_string (printed_characters symbols literals p))

-- an operation with its values
abbrev pub op_text : (symbols literals : List (List ℕ)) → Op → List ℕ
op_text symbols literals (Get s) = codes "get " ++ value_text symbols literals (Symbol s)
op_text symbols literals (Set s v) = codes "set " ++ value_text symbols literals (Symbol s) ++ codes " " ++ value_text symbols literals v
op_text symbols literals (Boundp s) = codes "boundp " ++ value_text symbols literals (Symbol s)
op_text symbols literals (Out p) = codes "out " ++ printed_text symbols literals p
op_text symbols literals (Finish ending) = codes "finish " ++ ending_text symbols literals ending

-- whether something holds
abbrev pub truth_text : Bool → List ℕ
truth_text true = codes "T"
truth_text false = codes "NIL"

-- a reply with its value
abbrev pub reply_text : (symbols literals : List (List ℕ)) → Reply → List ℕ
reply_text symbols literals Okay = codes "ok"
reply_text symbols literals (Value v) = value_text symbols literals v
reply_text symbols literals Unbound = codes "unbound"
reply_text symbols literals (Truth b) = truth_text b

-- one line for an entry: ticket, actor, point, operation, arrow, reply
abbrev pub entry_text : (symbols literals : List (List ℕ)) → Entry → List ℕ
entry_text symbols literals e =
    decimal e.ticket ++ codes " " ++ actor_text e.actor ++ codes " " ++ decimal e.point ++ codes " " ++ op_text symbols literals e.op ++ codes " -> " ++ reply_text symbols literals e.reply ++ codes "\n"

-- the journal: its first line, and a line for each entry
abbrev pub journal_text : (symbols literals : List (List ℕ)) → List Entry → List ℕ
journal_text symbols literals entries = codes "sbcl-journal 1\n" ++ flat_map (entry_text symbols literals) entries

-- what is left to write of it, with its first line or without
abbrev pub journal_left : (is_begun : Bool) → (symbols literals : List (List ℕ)) → List Entry → List ℕ
journal_left false symbols literals entries = journal_text symbols literals entries
journal_left true symbols literals entries = flat_map (entry_text symbols literals) entries
