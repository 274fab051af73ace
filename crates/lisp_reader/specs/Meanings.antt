-- What a token means.
use Rattle.std.specs.Prelude.{ℕ, pos, neg_ℤ, ◌+◌, ◌-◌, ◌*◌, ◌^◌, List, Bool, not, ◌&&◌, ◌||◌, ◌==◌, if◌then◌else◌, nat_lt, nat_le, length, map, take, drop, get_or, codes}
use Rattle.lisp_base.specs.Bytes.{colon, dot, minus_sign, plus_sign}
use Rattle.std.specs.Char.{is_ascii_digit, is_ascii_alphanumeric, to_ascii_uppercase}
use Rattle.std.specs.List.{list_all, list_any, prefix_len}
use Rattle.std.specs.Str.{bytes_eq}
use Rattle.std.specs.Str.Parse.{digits_value}
use Rattle.lisp_reader.specs.declared.meaning.Meaning.{Meaning}
use Rattle.lisp_reader.specs.declared.meaning.Meaning.TheVariants.{Integer, Time, Symbol, Keyword, TooLarge, Bad}

-- one or more digits
abbrev pub are_digits : List ℕ → Bool
are_digits ds = nat_lt 0 (length ds) && list_all is_ascii_digit ds

-- a plus or a minus
abbrev pub is_sign : ℕ → Bool
is_sign b = (b == plus_sign) || (b == minus_sign)

-- the letters after the sign, where there is a sign; else all letters
abbrev pub unsigned : List ℕ → List ℕ
unsigned letters = if is_sign (get_or letters 0 0) then drop 1 letters else letters

-- an integer of this size, below zero or not, from -2^62 to 2^62 - 1
abbrev pub integer_of : (below : Bool) → ℕ → Meaning
integer_of below size =
    if below then (if nat_le size (2 ^ 62) then Integer (neg_ℤ (pos size)) else TooLarge)
    else if nat_lt size (2 ^ 62) then Integer (pos size) else TooLarge

-- how many digits the letters begin with
abbrev pub digits_before : List ℕ → ℕ
digits_before letters = prefix_len is_ascii_digit letters

-- the letters after the first digits and the dot
abbrev pub behind_dot : List ℕ → List ℕ
behind_dot letters = drop (digits_before letters + 1) letters

-- digits, a dot, one to six digits
abbrev pub is_time : List ℕ → Bool
is_time letters =
    nat_lt 0 (digits_before letters) && (get_or letters (digits_before letters) 0 == dot) && are_digits (behind_dot letters)
    && nat_lt (length (behind_dot letters)) 7

-- the microseconds of a time
abbrev pub micros_in : List ℕ → ℕ
micros_in letters =
    digits_value 10 (take (digits_before letters) letters) * 1000000 + digits_value 10 (behind_dot letters) * 10 ^ (6 - length (behind_dot letters))

-- a time of so many microseconds, up to 4,000,000,000 seconds
abbrev pub time_of : ℕ → Meaning
time_of micros = if nat_le micros 4000000000000000 then Time micros else TooLarge

-- a token that begins as a number does
abbrev pub begins_as_number : List ℕ → Bool
begins_as_number letters =
    is_ascii_digit (get_or letters 0 0) || (get_or letters 0 0 == dot) || (is_sign (get_or letters 0 0) && is_ascii_digit (get_or letters 1 0))

-- the characters of names
abbrev pub is_name_letter : ℕ → Bool
is_name_letter b = is_ascii_alphanumeric b || list_any (λ c. b == c) (codes "+-*/<>=!?$%&_^~@.")

-- one or more characters of names
abbrev pub is_symbol_name : List ℕ → Bool
is_symbol_name name = nat_lt 0 (length name) && list_all is_name_letter name

-- names are folded to upper case
abbrev pub upper : List ℕ → List ℕ
upper letters = map to_ascii_uppercase letters

-- the packages whose symbols may be written with a prefix
abbrev pub is_package : List ℕ → Bool
is_package prefix =
    bytes_eq prefix (codes "CL") || bytes_eq prefix (codes "COMMON-LISP") || bytes_eq prefix (codes "SB-THREAD") || bytes_eq prefix (codes "SB-SYS")
    || bytes_eq prefix (codes "SB-EXT") || bytes_eq prefix (codes "SB-CONCURRENCY")

-- how many letters are before the first colon
abbrev pub before_colon : List ℕ → ℕ
before_colon letters = prefix_len (λ b. not (b == colon)) letters

-- where the name begins after a prefix and one or two colons
abbrev pub behind_colons : List ℕ → ℕ
behind_colons letters = if get_or letters (before_colon letters + 1) 0 == colon then before_colon letters + 2 else before_colon letters + 1

-- a symbol whose name begins there, where that is a name
abbrev pub symbol_at : ℕ → List ℕ → Meaning
symbol_at start letters = if is_symbol_name (drop start letters) then Symbol start else Bad

-- a token with a name, a prefix and a name, or anything else
abbrev pub named : List ℕ → Meaning
named letters =
    if before_colon letters == length letters then symbol_at 0 letters
    else if is_package (upper (take (before_colon letters) letters)) then symbol_at (behind_colons letters) letters
    else Bad

-- a token that begins with a colon: a keyword, where a name follows
abbrev pub keyword_in : List ℕ → Meaning
keyword_in letters = if is_symbol_name (drop 1 letters) then Keyword else Bad

-- What a token means: an integer, a time, the symbols `1+` and `1-`, nothing where it begins as a number does in another way, a
-- keyword, or a symbol with or without a prefix. A symbol has the place of its name in the token.
abbrev pub meaning_in : List ℕ → Meaning
meaning_in letters =
    if are_digits (unsigned letters) then integer_of (get_or letters 0 0 == minus_sign) (digits_value 10 (unsigned letters))
    else if is_time letters then time_of (micros_in letters)
    else if bytes_eq letters (codes "1+") || bytes_eq letters (codes "1-") then Symbol 0
    else if begins_as_number letters then Bad
    else if get_or letters 0 0 == colon then keyword_in letters
    else named letters

-- the name of the symbol that a token means, where its name begins there
abbrev pub symbol_name : ℕ → List ℕ → List ℕ
symbol_name start letters = upper (drop start letters)

-- the name of the keyword that a token means, which keeps its colon
abbrev pub keyword_name : List ℕ → List ℕ
keyword_name letters = upper letters
