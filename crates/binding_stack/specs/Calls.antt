-- Lists of calls, on the stack and on the map and the store: a symbol has the same word in both.
use Rattle.std.specs.Prelude.{◌≡◌, ℕ, List, [], ◌∷◌, length, if◌then◌else◌, nat_lt}
use Rattle.binding_stack.specs.declared.bindings.TheConstants.{BINDINGS}
use Rattle.environment_semantics.specs.Environment.{Binding, value_of, bound, written, outer}
use Rattle.binding_stack.specs.Stack.{Bound, word_of, with_binding, with_word, kept}

-- a call that changes the bindings
pub data Call : Type 0 where
  Bind : (symbol word : ℕ) → Call
  Set : (symbol word : ℕ) → Call
  UnbindTo : (height : ℕ) → Call

-- the stack after a call; it is the same where there is no room, or where there are no more bindings than are to be left
abbrev pub stack_after : Call → List Bound → List Bound
stack_after (Bind symbol word) bs = if nat_lt (length bs) BINDINGS then with_binding symbol word bs else bs
stack_after (Set symbol word) bs = with_word symbol word bs
stack_after (UnbindTo height) bs = kept height bs

-- the stack after these calls, in their order
abbrev pub stack_after_all : List Call → List Bound → List Bound
stack_after_all [] bs = bs
stack_after_all (c ∷ calls) bs = stack_after_all calls (stack_after c bs)

-- the map and the store after a call
abbrev pub environment_after : Call → List Binding × List ℕ → List Binding × List ℕ
environment_after (Bind symbol word) e = if nat_lt (length e.0) BINDINGS then bound symbol word e.0 e.1 else e
environment_after (Set symbol word) e = (e.0, written symbol word e.0 e.1)
environment_after (UnbindTo height) e = (outer height e.0, e.1)

-- the map and the store after these calls, in their order
abbrev pub environment_after_all : List Call → List Binding × List ℕ → List Binding × List ℕ
environment_after_all [] e = e
environment_after_all (c ∷ calls) e = environment_after_all calls (environment_after c e)

-- after any calls, a symbol has the word that its place holds
abbrev pub GetIsMapAndStore : Type 0
GetIsMapAndStore = (calls : List Call) (symbol : ℕ)
    → let e = environment_after_all calls ([], []) in word_of symbol (stack_after_all calls []) ≡ value_of symbol e.0 e.1
