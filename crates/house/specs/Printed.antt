-- What houseboard prints. Assumes nothing.
use Rattle.std.specs.Prelude.{ℕ, Bool, true, false, List, length, Ok, Err, Result, nat_le}
use Rattle.book.specs.Types.{Types}
use Rattle.listing.specs.Show.{show_fault}
use Rattle.model.specs.Points.{Point, empty, list_of}
use Rattle.model.specs.Load.{Fault, loading}

-- the board's list after a load that was granted, and else the faulty line with its cause
abbrev pub after_load : Result ℕ Fault → List Point → List ℕ
after_load (Ok n) points = list_of points
after_load (Err f) points = show_fault f.line f.cause

-- a text of more than 32,768 octets is not loaded: line 0, cause 11
abbrev pub printed_if : Bool → Types → List ℕ → List ℕ
printed_if true types text = after_load (loading types text empty).0 (loading types text empty).1
printed_if false types text = show_fault 0 11

abbrev pub printed : Types → List ℕ → List ℕ
printed types text = printed_if (nat_le (length text) 32768) types text
