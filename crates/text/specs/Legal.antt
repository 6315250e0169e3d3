-- What is known of a payload that has a reading, and of a reading that has a payload. Assumes nothing.
use Rattle.std.specs.Prelude.{◌≡◌, ℕ, true, ◌&&◌, List, map, length, pos, ℤ, Some}
use Rattle.std.proofs.Common.{arith}
use Rattle.std.proofs.lemmas.Bool.Decides.{nat_tests}
use Rattle.datapoint.specs.Shapes.{when}
use Rattle.text.specs.Text.{within, legal, cleared, ended, text}
use Rattle.text.specs.Naturals.{naturals_pos, from_naturals}

pub record Legal (highest : ℕ) (p : List ℕ) : Type 0 where
  pub long : length p ≡ 14
  pub low : within highest p ≡ true

-- p reads as xs
pub record Read (highest : ℕ) (p : List ℕ) (xs : List ℤ) : Type 0 where
  pub allowed : Legal highest p
  pub is : map pos (cleared p) ≡ xs

-- xs goes out as p
pub record Written (highest : ℕ) (xs : List ℤ) (p : List ℕ) : Type 0 where
  pub allowed : Legal highest p
  pub over : ended p ≡ true
  pub is : map pos p ≡ xs

module _ (highest : ℕ) where
  pub reading_of : (p : List ℕ) → Legal highest p → (text highest).reading p ≡ Some (map pos (cleared p))
  reading_of p h = grind (arith, nat_tests)

  pub from_reading : (p : List ℕ) (xs : List ℤ) → (text highest).reading p ≡ Some xs → Read highest p xs
  from_reading p xs e = grind (arith, nat_tests)

  pub payload_of : (p : List ℕ) → Legal highest p → (text highest).payload (map pos p) ≡ when (ended p) p
  payload_of p h = let e = naturals_pos (λ q. when (legal highest q && ended q) q) p in grind (arith, nat_tests)

  pub from_payload : (xs : List ℤ) (p : List ℕ) → (text highest).payload xs ≡ Some p → Written highest xs p
  from_payload xs p e =
      let found = from_naturals (λ q. when (legal highest q && ended q) q) xs p e in
      grind (arith, nat_tests)
