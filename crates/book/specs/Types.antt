-- What a book means, and what its calls deliver. Assumes nothing.
use Rattle.std.specs.Prelude.{◌≡◌, ℕ, List, ℤ, Some, None, Ok, Err, Option, Result}
use Rattle.std.specs.Option.{option_or}
use Rattle.datapoint.specs.declared.datapoint_type.Counts.{Counts}
use Rattle.datapoint.specs.declared.refusal.Refusal.TheVariants.{UnknownType}
use Rattle.datapoint.specs.Refusals.{told}
use Rattle.datapoint.specs.Meaning.{Meaning, Lawful}
use Rattle.datapoint.specs.Calls.{Outcome, refuse, counts_of, read_out, write_out}
use Rattle.book.specs.declared.number.TypeNumber.{TypeNumber}

-- a book: for each type number no type, or one type's meaning
abbrev pub Types : Type 0
Types = TypeNumber → Option Meaning

-- every type in it is lawful
abbrev pub LawfulTypes : Types → Type 0
LawfulTypes types = (n : TypeNumber) (m : Meaning) → types n ≡ Some m → Lawful m

-- a call of a book is the call of the type that has the number, if any has
abbrev pub counts_in : Option Meaning → Result Counts (ℕ × List ℕ)
counts_in None = Err (told UnknownType)
counts_in (Some m) = Ok (counts_of m)

abbrev pub read_in : Option Meaning → List ℕ → List ℤ → Outcome ℤ
read_in None p out = refuse UnknownType out
read_in (Some m) p out = read_out m p out

abbrev pub write_in : Option Meaning → List ℤ → List ℕ → Outcome ℕ
write_in None xs out = refuse UnknownType out
write_in (Some m) xs out = write_out m xs out

-- two books bound as one: for each type number the first one's type, if it has one, and otherwise the second one's
abbrev pub bound : Types → Types → Types
bound first second n = option_or (first n) (second n)
