-- How many values a call holds at each of its points.
use Rattle.std.specs.Prelude.{ℕ, zero, suc, pred, ◌+◌, max}
use Rattle.form_points.specs.Operands.{act_takes, opening_takes, question_takes}
use Rattle.form_points.specs.Points.{Points, Done, Do, Ask, Test, Choose, Loop, Turn, Enter, Protect, Handle, When}
use Rattle.form_points.specs.declared.act.Act.{Act}
use Rattle.form_points.specs.declared.act.Act.TheVariants.{ReadLocal, WriteLocal, BindLocal, ForgetLocal, Discard, ReturnFrom, Throw, Signal, AbortThread, ReturnFromThread}
use Rattle.form_points.specs.declared.act.Opening.{Opening}
use Rattle.form_points.specs.declared.act.Opening.TheVariants.{Bind, Block, WithoutInterrupts, AllowWithInterrupts}
use Rattle.form_points.specs.declared.act.Question.{Question}
use Rattle.form_points.specs.declared.act.Question.TheVariants.{Serve}
use Rattle.form_points.specs.declared.act.Step.TheVariants.{Clock, Begin}

-- what a call holds: how many variables, bindings, entries of blocks and remembered flags are open, and how many operands there are
pub record Holding : Type 0 where
  pub opened : ℕ
  pub height : ℕ

-- how many values these are
abbrev pub total : Holding → ℕ
total h = h.opened + h.height

-- so many fewer, or none
abbrev pub fewer : ℕ → ℕ → ℕ
fewer zero n = n
fewer (suc k) n = pred (fewer k n)

-- with so many operands fewer
abbrev pub without : ℕ → Holding → Holding
without k h = record { opened = h.opened; height = fewer k h.height }

-- with one operand more
abbrev pub one_more : Holding → Holding
one_more h = record { opened = h.opened; height = suc h.height }

-- with the first operand open as a variable, or as a binding
abbrev pub bound : Holding → Holding
bound h = record { opened = suc h.opened; height = pred h.height }

-- with one thing more that is open
abbrev pub one_open : Holding → Holding
one_open h = record { opened = suc h.opened; height = h.height }

-- without the variable that was opened last
abbrev pub one_closed : Holding → Holding
one_closed h = record { opened = pred h.opened; height = h.height }

-- What is held after an act. One after which the thread goes on elsewhere counts as one that gives a value.
abbrev pub after_act : Act → Holding → Holding
after_act (BindLocal x above) h = bound h
after_act ForgetLocal h = one_closed h
after_act Discard h = without 1 h
after_act a h = one_more (without (act_takes a) h)

-- What is held after a question, where a `Test` settles the matter: one value in place of the operands; the clock's reading and the beginning
-- of a wait, after which a service goes on, keep the operands.
abbrev pub after_question : Question → Holding → Holding
after_question (Serve service Clock) h = h
after_question (Serve service Begin) h = h
after_question q h = one_more (without (question_takes q) h)

-- what is held in the frame that is opened
abbrev pub inside : Opening → Holding → Holding
inside (Bind s above) h = bound h
inside (Block b) h = one_open h
inside (WithoutInterrupts r) h = one_open h
inside o h = without (opening_takes o) h

-- what is held round it, without the value of its body, which takes away all operands that a binding gives it
abbrev pub outside : Opening → Holding → Holding
outside o h = without (opening_takes o) h

-- a variable that is named counts as open
abbrev pub named : ℕ → ℕ → ℕ
named x held = max (suc x) held

-- How many values are held by an act: those after it, with the value that it gives. An act after which the thread goes on elsewhere gives
-- none. So each value is counted where it is given, and a form that never gives a value holds none.
abbrev pub held_by : Act → Holding → ℕ
held_by (ReadLocal x) h = named x (total (one_more h))
held_by (WriteLocal x) h = named x (total (one_more (without 1 h)))
held_by (BindLocal x above) h = named x (total (bound h))
held_by (ReturnFrom b) h = named b (total (without 1 h))
held_by Throw h = total (without 2 h)
held_by (Signal condition) h = total h
held_by AbortThread h = total h
held_by ReturnFromThread h = total (without 1 h)
held_by a h = total (after_act a h)

-- How many values are held by a question: those after it, with the value that it gives. The clock's reading and the beginning of a wait
-- give none, and their operands were counted where they were given.
abbrev pub held_at : Question → Holding → ℕ
held_at (Serve service Clock) h = total (without (question_takes (Serve service Clock)) h)
held_at (Serve service Begin) h = total (without (question_takes (Serve service Begin)) h)
held_at q h = total (after_question q h)

-- how many values are held in a frame that is opened
abbrev pub held_in : Opening → Holding → ℕ
held_in (Block b) h = named b (total (one_open h))
held_in (WithoutInterrupts r) h = named r (total (one_open h))
held_in (AllowWithInterrupts r) h = named r (total h)
held_in o h = total (inside o h)

-- What is held after these points, before which this is held. A form whose points are chosen, repeated, or done in a frame gives one value.
abbrev pub rise : Holding → Points → Holding
rise h Done = h
rise h (Do a p after) = rise (after_act a h) after
rise h (Ask q p after) = rise (after_question q h) after
rise h (Test q p more after) = rise (after_question q h) after
rise h (Choose p x y after) = rise (one_more (without 1 h)) after
rise h (Loop p test body after) = rise (one_more h) after
rise h (Turn p test body after) = rise h after
rise h (Enter o p body after) = rise (one_more (outside o h)) after
rise h (Protect p body cleanup after) = rise (one_more h) after
rise h (Handle p body clauses after) = rise (one_more h) after
rise h (When class is_given chosen others) = rise h others
