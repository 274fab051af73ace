-- No two refusals have one number.
use Rattle.std.proofs.Common.{◌≡◌, refl, sym, ap, ◌∙◌, ℕ, ◌==◌, if◌then◌else◌}
use Rattle.lisp_base.specs.Refusals.{NumbersDiffer, refusal_number}
use Rattle.lisp_base.specs.declared.refusal.Refusal.{Refusal}
use Rattle.lisp_base.specs.declared.refusal.Refusal.TheVariants.{NotUtf8, EndInside, UnmatchedClose, BadToken, NumberTooLarge, TooDeep, TooLong, TooManySymbols, TooManyTexts, NotBuilt, UnknownOperator, BadForm, UnknownVariable, FunctionPlace, RegionOutside, NoSuchBlock, TooMany, DefinedTwice, CodeTooLong, HeightTooLarge}

-- the refusal with this number
abbrev with_number : ℕ → Refusal
with_number n =
    if n == 1 then NotUtf8
    else if n == 2 then EndInside
    else if n == 3 then UnmatchedClose
    else if n == 4 then BadToken
    else if n == 5 then NumberTooLarge
    else if n == 6 then TooDeep
    else if n == 7 then TooLong
    else if n == 8 then TooManySymbols
    else if n == 9 then TooManyTexts
    else if n == 10 then NotBuilt
    else if n == 11 then UnknownOperator
    else if n == 12 then BadForm
    else if n == 13 then UnknownVariable
    else if n == 14 then FunctionPlace
    else if n == 15 then RegionOutside
    else if n == 16 then NoSuchBlock
    else if n == 17 then TooMany
    else if n == 18 then DefinedTwice
    else if n == 21 then CodeTooLong
    else HeightTooLarge

-- a refusal is the one with its number
back : (a : Refusal) → with_number (refusal_number a) ≡ a
back NotUtf8 = refl
back EndInside = refl
back UnmatchedClose = refl
back BadToken = refl
back NumberTooLarge = refl
back TooDeep = refl
back TooLong = refl
back TooManySymbols = refl
back TooManyTexts = refl
back NotBuilt = refl
back UnknownOperator = refl
back BadForm = refl
back UnknownVariable = refl
back FunctionPlace = refl
back RegionOutside = refl
back NoSuchBlock = refl
back TooMany = refl
back DefinedTwice = refl
back CodeTooLong = refl
back HeightTooLarge = refl

pub numbers_differ : NumbersDiffer
numbers_differ a b h = sym (back a) ∙ ap with_number h ∙ back b
