-- The front of a buffer. Assumes nothing.
use Rattle.std.specs.Prelude.{ℕ, List, take, Ok, Err, Result}
use Rattle.datapoint.specs.declared.refusal.Refusal.{Refusal}

-- what a buffer holds up to the place that was answered
abbrev pub front : {X : Type 0} → Result ℕ Refusal → List X → Result (List X) Refusal
front (Ok end) buffer = Ok (take end buffer)
front (Err e) buffer = Err e
