-- What a type's calls deliver: the answer, and the caller's buffer afterwards. Assumes nothing.
use Rattle.std.specs.Prelude.{ℕ, Bool, true, false, List, ◌++◌, length, drop, ℤ, Some, None, Ok, Err, Option, Result, ◌==◌, nat_le}
use Rattle.datapoint.specs.declared.datapoint_type.Counts.{Counts}
use Rattle.datapoint.specs.declared.refusal.Refusal.{Refusal}
use Rattle.datapoint.specs.declared.refusal.Refusal.TheVariants.{WrongLength, IllegalPayload, IllegalReading, ShortBuffer}
use Rattle.datapoint.specs.Refusals.{told}
use Rattle.datapoint.specs.Meaning.{Meaning}

-- an answer, and the caller's buffer after the call
abbrev pub Outcome : Type 0 → Type 0
Outcome X = Result ℕ (ℕ × List ℕ) × List X

-- a refusal leaves the buffer as it was
abbrev pub refuse : {X : Type 0} → Refusal → List X → Outcome X
refuse e out = (Err (told e), out)

module _ {X : Type 0} where
  abbrev pub fitting : Bool → List X → List X → Outcome X
  fitting true xs out = (Ok (length xs), xs ++ drop (length xs) out)
  fitting false xs out = refuse (ShortBuffer (length xs)) out

  -- xs fill the front of the buffer and the rest keeps its contents, or the buffer is too short
  abbrev pub delivered : List X → List X → Outcome X
  delivered xs out = fitting (nat_le (length xs) (length out)) xs out

  -- what is to be delivered, or why there is nothing
  abbrev pub delivered_or : Refusal → Option (List X) → List X → Outcome X
  delivered_or e None out = refuse e out
  delivered_or e (Some xs) out = delivered xs out

  -- the length is looked at before anything else
  abbrev pub sized_or : Bool → ℕ → Outcome X → List X → Outcome X
  sized_or true due o out = o
  sized_or false due o out = refuse (WrongLength due) out

-- read: the payload's length, then its legality, then the buffer's length
abbrev pub read_out : Meaning → List ℕ → List ℤ → Outcome ℤ
read_out m p out = sized_or (length p == m.octets) m.octets (delivered_or IllegalPayload (m.reading p) out) out

-- write: the reading's length, then its legality, then the buffer's length
abbrev pub write_out : Meaning → List ℤ → List ℕ → Outcome ℕ
write_out m xs out = sized_or (length xs == m.fields) m.fields (delivered_or IllegalReading (m.payload xs) out) out

-- counts: what the meaning counts
abbrev pub counts_of : Meaning → Counts
counts_of m = record { octets = m.octets; fields = m.fields }
