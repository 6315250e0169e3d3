-- Series of calls on one board, and what the caller sees of them. Assumes nothing.
use Rattle.std.specs.Prelude.{◌≡◌, ℕ, ◌≤◌, List, [], ◌∷◌, ℤ, Result}
use Rattle.std.specs.List.{AllByRecursion}
use Rattle.datapoint.specs.Meaning.{Octets}
use Rattle.datapoint.specs.Calls.{Outcome}
use Rattle.book.specs.declared.number.TypeNumber.{TypeNumber}
use Rattle.book.specs.Types.{Types}
use Rattle.model.specs.Points.{Point, empty}
use Rattle.model.specs.Calls.{Answer, Told, at_point, look_at, placing, removing, receiving, setting, overriding, releasing, reading_out, sending_out, listing_out}
use Rattle.model.specs.Load.{Fault, loading}

-- the ten calls with what they are given: numbers, octets, a text, and the contents of the caller's buffer
pub data Call : Type 0 where
  Place : ℕ → TypeNumber → Call
  Remove : ℕ → Call
  Receive : ℕ → List ℕ → Call
  Set : ℕ → List ℤ → Call
  Override : ℕ → List ℤ → Call
  Release : ℕ → Call
  Read : ℕ → List ℤ → Call
  Send : ℕ → List ℕ → Call
  ListOut : List ℕ → Call
  Load : List ℕ → Call

-- what a program can pass: type numbers up to 65,535, and payloads made of octets
abbrev pub Passable : Call → Type 0
Passable (Place p n) = (n.main ≤ 65535) × (n.sub ≤ 65535)
Passable (Remove p) = Unit {0}
Passable (Receive p payload) = Octets payload
Passable (Set p xs) = Unit {0}
Passable (Override p xs) = Unit {0}
Passable (Release p) = Unit {0}
Passable (Read p out) = Unit {0}
Passable (Send p out) = Unit {0}
Passable (ListOut out) = Unit {0}
Passable (Load text) = Unit {0}

-- all that a call returns
pub data Reply : Type 0 where
  counts : Answer ℕ → Reply
  tells : Answer Told → Reply
  loads : Result ℕ Fault → Reply

-- what the caller sees of a call: what it returns, and the contents of its buffer, of numbers or of octets
pub record Seen : Type 0 where
  pub reply : Reply
  pub numbers : List ℤ
  pub octets : List ℕ

-- what a call does: what the caller sees, and the board afterwards
abbrev pub Effect : Type 0
Effect = Seen × List Point

abbrev pub changes : Answer ℕ × List Point → Effect
changes e = (record { reply = counts e.0; numbers = []; octets = [] }, e.1)

abbrev pub tells_numbers : Answer Told × List ℤ → List Point → Effect
tells_numbers e points = (record { reply = tells e.0; numbers = e.1; octets = [] }, points)

abbrev pub gives_octets : Outcome ℕ → List Point → Effect
gives_octets e points = (record { reply = counts e.0; numbers = []; octets = e.1 }, points)

abbrev pub replaces : Result ℕ Fault × List Point → Effect
replaces e = (record { reply = loads e.0; numbers = []; octets = [] }, e.1)

abbrev pub perform : Types → Call → List Point → Effect
perform types (Place p n) points = changes (at_point p (placing types n) points)
perform types (Remove p) points = changes (at_point p removing points)
perform types (Receive p payload) points = changes (at_point p (receiving types payload) points)
perform types (Set p xs) points = changes (at_point p (setting types xs) points)
perform types (Override p xs) points = changes (at_point p (overriding types xs) points)
perform types (Release p) points = changes (at_point p releasing points)
perform types (Read p out) points = tells_numbers (look_at p reading_out points out) points
perform types (Send p out) points = gives_octets (look_at p (sending_out types) points out) points
perform types (ListOut out) points = gives_octets (listing_out points out) points
perform types (Load text) points = replaces (loading types text points)

-- a series: one call after another, and nothing else changes the board
abbrev pub seen : Types → List Call → List Point → List Seen
seen types [] points = []
seen types (c ∷ cs) points = (perform types c points).0 ∷ seen types cs (perform types c points).1

abbrev pub after : Types → List Call → List Point → List Point
after types [] points = points
after types (c ∷ cs) points = after types cs (perform types c points).1

-- a board that some series reaches from an empty board
abbrev pub Reached : Types → List Point → Type 0
Reached types points = (cs : List Call) × AllByRecursion Passable cs × (after types cs empty ≡ points)
