-- Worked programs, whose main comes by local points alone to its end. Places of forms are left out, as 0.
use Rattle.std.specs.Prelude.{◌≡◌, ℕ, pos, [], ◌∷◌}
use Rattle.lisp_base.specs.Forest.{NoTrees, Tree}
use Rattle.lisp_base.specs.declared.condition.Class.TheVariants.{ControlError}
use Rattle.lisp_base.specs.declared.id.FunctionName.TheVariants.{Named}
use Rattle.lisp_base.specs.declared.value.Node.TheVariants.{Int, Symbol}
use Rattle.lisp_program.specs.Forms.{Forms}
use Rattle.lisp_program.specs.Program.{Program}
use Rattle.lisp_program.specs.declared.form.CoreKind.{CoreKind}
use Rattle.lisp_program.specs.declared.form.CoreKind.TheVariants as k
use Rattle.lisp_program.specs.declared.function.Primitive.{Primitive}
use Rattle.lisp_program.specs.declared.function.Primitive.TheVariants.{Abs, Add, Equals, Multiply, Subtract}
use Rattle.thread_semantics.specs.Next.{Next, next_of}
use Rattle.thread_semantics.specs.Replies.{closed}
use Rattle.thread_semantics.specs.Start.{first_state, setting_of}
use Rattle.thread_semantics.specs.State.{Setting, ThreadState}

-- so many points for each thread
abbrev pub setting_with : ℕ → Program → Setting
setting_with steps p = setting_of (record { steps = steps; look = 16; workers = 1 }) p

-- where main is after its local points
abbrev pub main_after : ℕ → Program → ThreadState
main_after steps p = closed (setting_with steps p) (first_state p)

-- main takes so many local points, and then this comes next
pub record ComesTo (steps : ℕ) (p : Program) (points : ℕ) (next : Next) : Type 0 where
  pub taken : (main_after steps p).points ≡ points
  pub comes : next_of (setting_with steps p) (main_after steps p) ≡ next

-- a form of this kind, before others
abbrev pub form : CoreKind → Forms → Forms → Forms
form kind under beside = Tree kind 0 under beside

-- a number, a symbol, and the lexical variable with a number, before others
abbrev pub number : ℕ → Forms → Forms
number n beside = form (k.Constant (Int (pos n))) NoTrees beside

abbrev pub quoted : ℕ → Forms → Forms
quoted s beside = form (k.Constant (Symbol s)) NoTrees beside

abbrev pub local : ℕ → Forms → Forms
local x beside = form (k.Local x) NoTrees beside

-- a function of the language of two arguments
abbrev pub apply : Primitive → Forms → Forms → Forms
apply f args beside = form (k.Apply f) args beside

-- a program without functions and special variables
abbrev pub main_of : Forms → Program
main_of forms = record { forms = forms; functions = []; specials = [] }

-- `(defun sq (x) (* x x)) (sq 7)`, where SQ is symbol 5
abbrev pub square : Program
square = record {
  forms = form (k.Defun 5) NoTrees (form (k.Call 5) (number 7 NoTrees) NoTrees);
  functions = record { name = Named 5; place = 0; params = 1; body = apply Multiply (local 0 (local 0 NoTrees)) NoTrees } ∷ [];
  specials = [];
}

-- `(abs 'a)`
abbrev pub absolute : Program
absolute = main_of (apply Abs (quoted 6 NoTrees) NoTrees)

-- `(loop 1)`
abbrev pub endless : Program
endless = main_of (form k.While (quoted 1 (number 1 NoTrees)) NoTrees)

-- `(defun f (n) (if (= n 0) 0 (+ 1 (f (- n 1))))) (f 2)`, where F is symbol 5
abbrev pub recursive : Program
recursive = record {
  forms = form (k.Defun 5) NoTrees (form (k.Call 5) (number 2 NoTrees) NoTrees);
  functions =
      record {
        name = Named 5;
        place = 0;
        params = 1;
        body = form k.If
            (apply Equals (local 0 (number 0 NoTrees)) (number 0 (apply Add (number 1 (form (k.Call 5) (apply Subtract (local 0 (number 1 NoTrees)) NoTrees) NoTrees)) NoTrees))) NoTrees;
      }
      ∷ [];
  specials = [];
}

-- `(sq 7 8)`, with too many arguments
abbrev pub wrong_count : Program
wrong_count = record square { forms = form (k.Call 5) (number 7 (number 8 NoTrees)) NoTrees }

-- `(catch 'a (block b (unwind-protect (throw 'a 1) (return-from b 2))))`
abbrev pub passed_over_block : Program
passed_over_block =
    main_of (form k.Catch (quoted 5 (form (k.Block 0)
    (form k.UnwindProtect (form k.Throw (quoted 5 (number 1 NoTrees)) (form (k.ReturnFrom 0) (number 2 NoTrees) NoTrees)) NoTrees) NoTrees)) NoTrees)

-- `(catch 'a (catch 'b (unwind-protect (throw 'a 1) (handler-case (throw 'b 2) (control-error () 3)))))`
abbrev pub passed_over_tag : Program
passed_over_tag =
    main_of (form k.Catch (quoted 5 (form k.Catch (quoted 6 (form k.UnwindProtect
    (form k.Throw (quoted 5 (number 1 NoTrees))
    (form k.HandlerCase (form k.Throw (quoted 6 (number 2 NoTrees)) (form (k.Clause ControlError) (number 3 NoTrees) NoTrees)) NoTrees)) NoTrees)) NoTrees)) NoTrees)

-- `(setq r (+ n (* 10 r)))`, where r is variable 0
abbrev pub noted : ℕ → Forms → Forms
noted n beside = form (k.SetLocal 0) (apply Add (number n (apply Multiply (number 10 (local 0 NoTrees)) NoTrees)) NoTrees) beside

-- `(let ((r 0)) (catch 'a (unwind-protect (unwind-protect (throw 'a 1) (setq r (+ 1 (* 10 r)))) (setq r (+ 2 (* 10 r))))) r)`
abbrev pub two_cleanups : Program
two_cleanups =
    main_of (form k.Let (number 0 (form (k.BindLocal 0 0)
    (form k.Catch (quoted 5 (form k.UnwindProtect
    (form k.UnwindProtect (form k.Throw (quoted 5 (number 1 NoTrees)) (noted 1 NoTrees)) (noted 2 NoTrees)) NoTrees))
    (local 0 NoTrees)) NoTrees)) NoTrees)
