-- The marks, and which calls a point takes as it stands. Assumes nothing.
use Rattle.std.specs.Prelude.{ℕ, Some, None, Ok, Err, Option, Result}
use Rattle.datapoint.specs.declared.refusal.Refusal.{Refusal}
use Rattle.datapoint.specs.declared.refusal.Refusal.TheVariants.{Overridden, NotOverridden}
use Rattle.points.specs.declared.mark.Call.{Call}
use Rattle.points.specs.declared.mark.Call.TheVariants.{Receive, Set, Release}
use Rattle.points.specs.declared.mark.Mark.{Mark}
use Rattle.points.specs.declared.mark.Mark.TheVariants.{Silent, Normal, Forced}

-- each mark with its number
abbrev pub mark_number : Mark → ℕ
mark_number Silent = 0
mark_number Normal = 1
mark_number Forced = 2

-- the mark of a point with these readings
abbrev pub mark_of : {A : Type 0} → Option A → Option A → Mark
mark_of normal (Some xs) = Forced
mark_of (Some xs) None = Normal
mark_of None None = Silent

-- a forced point takes no normal write, and one with no forced reading no release
abbrev pub permitted : Mark → Call → Result (Unit {0}) Refusal
permitted Silent Receive = Ok tt
permitted Silent Set = Ok tt
permitted Silent Release = Err NotOverridden
permitted Normal Receive = Ok tt
permitted Normal Set = Ok tt
permitted Normal Release = Err NotOverridden
permitted Forced Receive = Err Overridden
permitted Forced Set = Err Overridden
permitted Forced Release = Ok tt
