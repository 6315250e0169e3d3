-- What is added to a page. Assumes nothing.
use Rattle.std.specs.Prelude.{ℕ, ◌+◌, Bool, true, false, List, ◌++◌, length, Ok, Err, Result, nat_le}
use Rattle.arrayvec.specs.declared.errors.CapacityError.{CapacityError}

-- an answer, and a text after it
abbrev pub Added : Type 0
Added = Result (Unit {0}) (CapacityError (Unit {0})) × List ℕ

abbrev pub added : Bool → List ℕ → List ℕ → Added
added true text more = (Ok tt, text ++ more)
added false text more = (Err (record { element = tt }), text)

-- more comes behind a text; where there is no room for all of it, the text stays as it was
abbrev pub with_all : ℕ → List ℕ → List ℕ → Added
with_all room text more = added (nat_le (length text + length more) room) text more

-- a line comes behind what is on the page
abbrev pub with_line : List ℕ → List ℕ → Added
with_line text line = with_all 36864 text line
