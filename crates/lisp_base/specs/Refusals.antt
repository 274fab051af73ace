-- The numbers and the names of refusals.
use Rattle.std.specs.Prelude.{◌≡◌, ℕ, List, Bool, ◌==◌, codes}
use Rattle.lisp_base.specs.declared.refusal.Refusal.{Refusal}
use Rattle.lisp_base.specs.declared.refusal.Refusal.TheVariants.{NotUtf8, EndInside, UnmatchedClose, BadToken, NumberTooLarge, TooDeep, TooLong, TooManySymbols, TooManyTexts, NotBuilt, UnknownOperator, BadForm, UnknownVariable, FunctionPlace, RegionOutside, NoSuchBlock, TooMany, DefinedTwice, CodeTooLong, HeightTooLarge}

-- the number of a refusal, which is written before its name
abbrev pub refusal_number : Refusal → ℕ
refusal_number NotUtf8 = 1
refusal_number EndInside = 2
refusal_number UnmatchedClose = 3
refusal_number BadToken = 4
refusal_number NumberTooLarge = 5
refusal_number TooDeep = 6
refusal_number TooLong = 7
refusal_number TooManySymbols = 8
refusal_number TooManyTexts = 9
refusal_number NotBuilt = 10
refusal_number UnknownOperator = 11
refusal_number BadForm = 12
refusal_number UnknownVariable = 13
refusal_number FunctionPlace = 14
refusal_number RegionOutside = 15
refusal_number NoSuchBlock = 16
refusal_number TooMany = 17
refusal_number DefinedTwice = 18
refusal_number CodeTooLong = 21
refusal_number HeightTooLarge = 22

-- the name of a refusal, as it is written
abbrev pub refusal_name : Refusal → List ℕ
refusal_name NotUtf8 = codes "NotUtf8"
refusal_name EndInside = codes "EndInside"
refusal_name UnmatchedClose = codes "UnmatchedClose"
refusal_name BadToken = codes "BadToken"
refusal_name NumberTooLarge = codes "NumberTooLarge"
refusal_name TooDeep = codes "TooDeep"
refusal_name TooLong = codes "TooLong"
refusal_name TooManySymbols = codes "TooManySymbols"
refusal_name TooManyTexts = codes "TooManyTexts"
refusal_name NotBuilt = codes "NotBuilt"
refusal_name UnknownOperator = codes "UnknownOperator"
refusal_name BadForm = codes "BadForm"
refusal_name UnknownVariable = codes "UnknownVariable"
refusal_name FunctionPlace = codes "FunctionPlace"
refusal_name RegionOutside = codes "RegionOutside"
refusal_name NoSuchBlock = codes "NoSuchBlock"
refusal_name TooMany = codes "TooMany"
refusal_name DefinedTwice = codes "DefinedTwice"
refusal_name CodeTooLong = codes "CodeTooLong"
refusal_name HeightTooLarge = codes "HeightTooLarge"

-- two refusals are the same: they have one number
abbrev pub are_same : Refusal → Refusal → Bool
are_same a b = refusal_number a == refusal_number b

-- no two refusals have one number
abbrev pub NumbersDiffer : Type 0
NumbersDiffer = (a b : Refusal) → refusal_number a ≡ refusal_number b → a ≡ b
