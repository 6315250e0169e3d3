-- What the book's calls tell the board of a payload and of a reading. Assumes nothing.
use Rattle.std.proofs.Common.{◌≡◌, ℕ, ◌<◌, ◌≤◌, List, length, get_or, take, ℤ, Some, None, Ok, Err, Option, refl, arith}
use Rattle.std.proofs.ByRecursion.{All-from_get_or}
use Rattle.std.proofs.lemmas.List.{take_at}
use Rattle.std.proofs.lemmas.Bool.Decides.{nat_tests}
use Rattle.datapoint.specs.Meaning.{Meaning, Lawful, Octets}
use Rattle.book.specs.Types.{read_in, write_in}
use Rattle.model.specs.Calls.{Answer, understood, accepted}

-- every type that the number may have is lawful
abbrev pub LawfulAt : Option Meaning → Type 0
LawfulAt o = (m : Meaning) → o ≡ Some m → Lawful m

-- the fields that a read wrote, or its refusal
abbrev pub fields_read : Answer ℕ → List ℤ → Answer (List ℤ)
fields_read (Ok n) out = Ok (take n out)
fields_read (Err e) out = Err e

read_by : (m : Meaning) → Lawful m → (p : List ℕ) → Octets p → (out after : List ℤ) (a : Answer ℕ) → length out ≡ 16 → (a, after) ≡ read_in (Some m) p out → fields_read a after ≡ understood (Some m) p
read_by m law p made out after a room h = grind (arith, nat_tests, law.counted p, law.fields_most, take_at)

-- the reading itself where it was written, or the refusal
abbrev pub reading_kept : Answer ℕ → List ℤ → Answer (List ℤ)
reading_kept (Ok n) xs = Ok xs
reading_kept (Err e) xs = Err e

written_by : (m : Meaning) → Lawful m → (xs : List ℤ) (out after : List ℕ) (a : Answer ℕ) → length out ≡ 14 → (a, after) ≡ write_in (Some m) xs out → reading_kept a xs ≡ accepted (Some m) xs
written_by m law xs out after a room h =
    let short : (q : List ℕ) → m.payload xs ≡ Some q → length q ≤ 14 = λ q e. omega (arith, law.sized q xs (law.octets_made xs q e) (law.back xs q e), law.octets_most) in
    grind (arith, nat_tests, short)

module _ (o : Option Meaning) (law : LawfulAt o) where
  -- a read into sixteen places gives what is understood of the payload
  pub as_understood : (p : List ℕ) → ((i : ℕ) → get_or p i 0 < 256) → (out after : List ℤ) (a : Answer ℕ) → length out ≡ 16 → (a, after) ≡ read_in o p out → fields_read a after ≡ understood o p
  as_understood p made out after a room h = by o law h
    where
      octets : Octets p
      octets = All-from_get_or (λ b. b < 256) p 0 (λ i h. made i)

      by : (o : Option Meaning) → LawfulAt o → (a, after) ≡ read_in o p out → fields_read a after ≡ understood o p
      by None law h = grind arith
      by (Some m) law h = read_by m (law m refl) p octets out after a room h

  -- a write into fourteen octets tells whether the reading is accepted
  pub as_accepted : (xs : List ℤ) (out after : List ℕ) (a : Answer ℕ) → length out ≡ 14 → (a, after) ≡ write_in o xs out → reading_kept a xs ≡ accepted o xs
  as_accepted xs out after a room h = by o law h
    where
      by : (o : Option Meaning) → LawfulAt o → (a, after) ≡ write_in o xs out → reading_kept a xs ≡ accepted o xs
      by None law h = grind arith
      by (Some m) law h = written_by m (law m refl) xs out after a room h
