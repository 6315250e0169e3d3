-- The refusals, as a caller is told them. Assumes nothing.
use Rattle.std.specs.Prelude.{ℕ, List, [], ◌∷◌, ◌++◌, codes, Ok, Err, Result}
use Rattle.std.specs.Fmt.{decimal}
use Rattle.datapoint.specs.declared.refusal.Refusal.{Refusal}
use Rattle.datapoint.specs.declared.refusal.Refusal.TheVariants.{NoSuchPoint, AlreadyPlaced, NotPlaced, UnknownType, Overridden, NotOverridden, Silent, WrongLength, IllegalPayload, IllegalReading, ShortBuffer, BrokenLine}

-- each refusal: its number, and the values that come with it
abbrev pub told : Refusal → ℕ × List ℕ
told NoSuchPoint = (1, [])
told AlreadyPlaced = (2, [])
told NotPlaced = (3, [])
told UnknownType = (4, [])
told Overridden = (5, [])
told NotOverridden = (6, [])
told Silent = (7, [])
told (WrongLength due) = (8, due ∷ [])
told IllegalPayload = (9, [])
told IllegalReading = (10, [])
told (ShortBuffer needed) = (11, needed ∷ [])
told BrokenLine = (12, [])

-- what is printed behind the number: the count that comes with it, if there is one
abbrev pub counted : Refusal → List ℕ
counted (WrongLength due) = codes ", " ++ decimal due ++ codes " due"
counted (ShortBuffer needed) = codes ", " ++ decimal needed ++ codes " needed"
counted _ = []

-- a refusal as it is printed
abbrev pub printed : Refusal → List ℕ
printed e = decimal (told e).0 ++ counted e

-- a call's answer: what it returns when granted, or the refusal as it is told
abbrev pub answer : {A : Type 0} → Result A Refusal → Result A (ℕ × List ℕ)
answer (Ok a) = Ok a
answer (Err e) = Err (told e)
