-- What the code finds at the front of a text. Assumes nothing.
use Rattle.std.specs.Prelude.{ℕ, List, Some, None, Option}
use Rattle.std.specs.Borrow.{Bor}
use Rattle.listing.specs.Read.{Got, got, bad}

-- a value and the rest of the text
abbrev pub found : {A : Type 0} → Option (A × Bor (List ℕ)) → Got A
found None = bad
found (Some p) = got p.0 p.1.now

-- the rest alone
abbrev pub passed : Option (Bor (List ℕ)) → Got (Unit {0})
passed None = bad
passed (Some rest) = got tt rest.now
