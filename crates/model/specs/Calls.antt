-- What each of the ten calls does: its answer, the caller's buffer and the board afterwards. Assumes nothing.
use Rattle.std.specs.Prelude.{ℕ, ◌-◌, Bool, true, false, ◌&&◌, List, length, ℤ, Some, None, Ok, Err, Option, Result, ◌==◌, nat_le, slice_index_or, slice_set}
use Rattle.datapoint.specs.declared.refusal.Refusal.{Refusal}
use Rattle.datapoint.specs.declared.refusal.Refusal.TheVariants.{NoSuchPoint, AlreadyPlaced, NotPlaced, UnknownType, Overridden, NotOverridden, Silent, WrongLength, IllegalPayload, IllegalReading}
use Rattle.datapoint.specs.Refusals.{told}
use Rattle.datapoint.specs.Meaning.{Meaning}
use Rattle.datapoint.specs.Calls.{Outcome, refuse, delivered}
use Rattle.book.specs.declared.number.TypeNumber.{TypeNumber}
use Rattle.book.specs.Types.{Types, write_in}
use Rattle.model.specs.Points.{Point, unplaced, placed, telling, list_of}

-- a granted call's answer, or the refusal as it is told
abbrev pub Answer : Type 0 → Type 0
Answer A = Result A (ℕ × List ℕ)

-- a refusal at a point leaves the point as it is
abbrev pub deny : {A : Type 0} → Refusal → Point → Answer A × Point
deny e s = (Err (told e), s)

-- place: an unplaced point gets a type number of the book, and is silent
abbrev pub place_as : Option Meaning → TypeNumber → Answer ℕ × Point
place_as None n = deny UnknownType unplaced
place_as (Some m) n = (Ok 0, placed n None None)

abbrev pub placing : Types → TypeNumber → Point → Answer ℕ × Point
placing types n unplaced = place_as (types n) n
placing types n (placed m normal forced) = deny AlreadyPlaced (placed m normal forced)

-- remove: the point is unplaced
abbrev pub removing : Point → Answer ℕ × Point
removing unplaced = deny NotPlaced unplaced
removing (placed n normal forced) = (Ok 0, unplaced)

-- a value of the right length that is legal, or why it is refused
abbrev pub legal_or : {A : Type 0} → Refusal → Option A → Answer A
legal_or e None = Err (told e)
legal_or e (Some a) = Ok a

abbrev pub sized_or : {A : Type 0} → Bool → ℕ → Answer A → Answer A
sized_or true due a = a
sized_or false due a = Err (told (WrongLength due))

-- the reading of a payload, or why it is refused
abbrev pub understood : Option Meaning → List ℕ → Answer (List ℤ)
understood None p = Err (told UnknownType)
understood (Some m) p = sized_or (length p == m.octets) m.octets (legal_or IllegalPayload (m.reading p))

-- a reading that is taken as it is, or why it is refused
abbrev pub kept : {A B : Type 0} → Option A → B → Option B
kept None b = None
kept (Some a) b = Some b

abbrev pub accepted : Option Meaning → List ℤ → Answer (List ℤ)
accepted None xs = Err (told UnknownType)
accepted (Some m) xs = sized_or (length xs == m.fields) m.fields (legal_or IllegalReading (kept (m.payload xs) xs))

-- receive and set: what arrives becomes the normal reading of a point that is not overridden
abbrev pub become_normal : TypeNumber → Option (List ℤ) → Answer (List ℤ) → Answer ℕ × Point
become_normal n normal (Err e) = (Err e, placed n normal None)
become_normal n normal (Ok xs) = (Ok 0, placed n (Some xs) None)

abbrev pub receiving : Types → List ℕ → Point → Answer ℕ × Point
receiving types p unplaced = deny NotPlaced unplaced
receiving types p (placed n normal (Some xs)) = deny Overridden (placed n normal (Some xs))
receiving types p (placed n normal None) = become_normal n normal (understood (types n) p)

abbrev pub setting : Types → List ℤ → Point → Answer ℕ × Point
setting types xs unplaced = deny NotPlaced unplaced
setting types xs (placed n normal (Some ys)) = deny Overridden (placed n normal (Some ys))
setting types xs (placed n normal None) = become_normal n normal (accepted (types n) xs)

-- override: what arrives becomes the forced reading, in place of an earlier one
abbrev pub become_forced : TypeNumber → Option (List ℤ) → Option (List ℤ) → Answer (List ℤ) → Answer ℕ × Point
become_forced n normal forced (Err e) = (Err e, placed n normal forced)
become_forced n normal forced (Ok xs) = (Ok 0, placed n normal (Some xs))

abbrev pub overriding : Types → List ℤ → Point → Answer ℕ × Point
overriding types xs unplaced = deny NotPlaced unplaced
overriding types xs (placed n normal forced) = become_forced n normal forced (accepted (types n) xs)

-- release: the forced reading is dropped
abbrev pub releasing : Point → Answer ℕ × Point
releasing unplaced = deny NotPlaced unplaced
releasing (placed n normal None) = deny NotOverridden (placed n normal None)
releasing (placed n normal (Some xs)) = (Ok 0, placed n normal None)

-- a call that changes one point of the board
abbrev pub changed : {A : Type 0} → ℕ → List Point → Answer A × Point → Answer A × List Point
changed p points e = (e.0, slice_set points (p - 1) e.1)

abbrev pub numbered : {A : Type 0} → Bool → ℕ → (Point → Answer A × Point) → List Point → Answer A × List Point
numbered true p f points = changed p points (f (slice_index_or points (p - 1) unplaced))
numbered false p f points = (Err (told NoSuchPoint), points)

abbrev pub on_board : ℕ → Bool
on_board p = nat_le 1 p && nat_le p 48

abbrev pub at_point : {A : Type 0} → ℕ → (Point → Answer A × Point) → List Point → Answer A × List Point
at_point p f points = numbered (on_board p) p f points

-- read: the type number, the mark (0 silent, 1 normal, 2 forced) and the count of fields written
pub record Told : Type 0 where
  pub number : TypeNumber
  pub mark : ℕ
  pub fields : ℕ

-- what a delivery answers, beside the type number and the mark
abbrev pub marked : TypeNumber → ℕ → Outcome ℤ → Answer Told × List ℤ
marked n mark o = (counted o.0, o.1)
  where
    counted : Answer ℕ → Answer Told
    counted (Err e) = Err e
    counted (Ok k) = Ok (record { number = n; mark = mark; fields = k })

abbrev pub reading_out : Point → List ℤ → Answer Told × List ℤ
reading_out unplaced out = (Err (told NotPlaced), out)
reading_out (placed n normal (Some xs)) out = marked n 2 (delivered xs out)
reading_out (placed n (Some xs) None) out = marked n 1 (delivered xs out)
reading_out (placed n None None) out = (Ok (record { number = n; mark = 0; fields = 0 }), out)

-- send: the proper payload of the told reading
abbrev pub send_told : Types → TypeNumber → Option (List ℤ) → List ℕ → Outcome ℕ
send_told types n None out = refuse Silent out
send_told types n (Some xs) out = write_in (types n) xs out

abbrev pub sending_out : Types → Point → List ℕ → Outcome ℕ
sending_out types unplaced out = refuse NotPlaced out
sending_out types (placed n normal forced) out = send_told types n (telling normal forced) out

-- a call that looks at one point of the board
abbrev pub looked : {A X : Type 0} → Bool → ℕ → (Point → List X → Answer A × List X) → List Point → List X → Answer A × List X
looked true p f points out = f (slice_index_or points (p - 1) unplaced) out
looked false p f points out = (Err (told NoSuchPoint), out)

abbrev pub look_at : {A X : Type 0} → ℕ → (Point → List X → Answer A × List X) → List Point → List X → Answer A × List X
look_at p f points out = looked (on_board p) p f points out

-- list: the board's list
abbrev pub listing_out : List Point → List ℕ → Outcome ℕ
listing_out points out = delivered (list_of points) out
