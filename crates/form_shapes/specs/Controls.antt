-- String literals that forms hold: controls of `format`, and texts of `error`.
use Rattle.std.specs.Prelude.{ℕ, suc, List, [], ◌∷◌, Bool, true, false, ◌||◌, ◌==◌, Option, Some, None, if◌then◌else◌, slice_get, unwrap_or}
use Rattle.lisp_base.specs.Bytes.{percent_sign, tilde}
use Rattle.std.specs.List.{list_any}

-- the text of a string literal
abbrev pub text_of : List (List ℕ) → ℕ → List ℕ
text_of texts x = unwrap_or (slice_get texts x) []

-- a text has a `~`
abbrev pub has_tilde : List ℕ → Bool
has_tilde text = list_any (λ c. c == tilde) text

-- a directive takes an argument: `a`, `s` or `d`, in either case
abbrev pub takes_argument : ℕ → Bool
takes_argument c = (c == 97) || (c == 65) || (c == 115) || (c == 83) || (c == 100) || (c == 68)

-- a directive takes none: `%`, or another `~`
abbrev pub takes_nothing : ℕ → Bool
takes_nothing c = (c == percent_sign) || (c == tilde)

-- one more argument
abbrev pub one_more : Option ℕ → Option ℕ
one_more None = None
one_more (Some n) = Some (suc n)

-- How many arguments the rest of a control takes, where all its directives are known; `true` where a `~` stands directly before the rest.
abbrev pub taken_by : Bool → List ℕ → Option ℕ
taken_by false [] = Some 0
taken_by true [] = None
taken_by false (c ∷ cs) = if c == tilde then taken_by true cs else taken_by false cs
taken_by true (c ∷ cs) =
    if takes_argument c then one_more (taken_by false cs)
    else if takes_nothing c then taken_by false cs
    else None
