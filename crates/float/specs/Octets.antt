-- The two octets of a mantissa and an exponent. Assumes nothing.
use Rattle.std.specs.Prelude.{◌≡◌, ℕ, ◌+◌, ◌*◌, ◌/◌, ◌%◌, ◌<◌, ◌≤◌, true, ℤ, pos, negsuc, Some}
use Rattle.std.proofs.Common.{sym, ap₂, ◌∙◌, arith}
use Rattle.std.proofs.lemmas.Int.{ints}
use Rattle.std.proofs.lemmas.Bool.Decides.{nat_tests}
use Rattle.float.specs.LeastLemmas.{IsLeast}
use Rattle.float.specs.Float.{exponent_of, mantissa_of, value_of, valid, scaled, mantissa_at, held, fraction, packed}
use Rattle.float.specs.Exponents.{Mantissa, mantissa_scaled, held_scaled, held_mantissa, scaled_held}

-- a mantissa and an exponent come back from their octets
mantissa_packed : (m : ℤ) (e : ℕ) → Mantissa m → e < 16 → mantissa_of (packed m e).0 (packed m e).1 ≡ m
mantissa_packed (pos n) e l s = omega (arith, ints)
mantissa_packed (negsuc n) e l s = omega (arith, ints)

exponent_packed : (m : ℤ) (e : ℕ) → Mantissa m → e < 16 → exponent_of (packed m e).0 ≡ e
exponent_packed (pos n) e l s = omega (arith, ints)
exponent_packed (negsuc n) e l s = omega (arith, ints)

pub octets_packed : (m : ℤ) (e : ℕ) → Mantissa m → e < 16 → ((packed m e).0 < 256) × ((packed m e).1 < 256)
octets_packed (pos n) e l s = omega (arith, ints)
octets_packed (negsuc n) e l s = omega (arith, ints)

-- two octets come back from their mantissa and exponent
packed_mantissa : (high low : ℕ) (m : ℤ) → high < 256 → low < 256 → mantissa_of high low ≡ m → ((packed m (exponent_of high)).0 ≡ high) × ((packed m (exponent_of high)).1 ≡ low)
packed_mantissa high low (pos n) h l q =
    let s : high / 128 ≡ 0 = omega (arith, ints) in
    let f : n ≡ 256 * (high % 8) + low = omega (arith, ints) in
    omega (arith, ints)
packed_mantissa high low (negsuc n) h l q =
    let s : high / 128 ≡ 1 = omega (arith, ints) in
    let f : fraction (negsuc n) ≡ 256 * (high % 8) + low = omega (arith, ints) in
    let g : fraction (negsuc n) / 256 ≡ high % 8 = omega arith in
    (omega arith, omega arith)

-- of a reading x and an exponent e that holds it
module _ (x : ℤ) (e : ℕ) (holds : held x e ≡ true) (below : e < 16) where
  pub value_packed : value_of (packed (mantissa_at x e) e).0 (packed (mantissa_at x e) e).1 ≡ x
  value_packed =
      let l = held_mantissa x e holds in
      ap₂ scaled (mantissa_packed (mantissa_at x e) e l below) (exponent_packed (mantissa_at x e) e l below) ∙ scaled_held x e holds

  pub exponent_held : exponent_of (packed (mantissa_at x e) e).0 ≡ e
  exponent_held = exponent_packed (mantissa_at x e) e (held_mantissa x e holds) below

-- of two octets
module _ (high low : ℕ) (h : high < 256) (l : low < 256) where
  pub mantissa_lies : Mantissa (mantissa_of high low)
  mantissa_lies = omega (arith, ints)

  -- their exponent holds their reading
  pub value_held : held (value_of high low) (exponent_of high) ≡ true
  value_held = held_scaled (mantissa_of high low) (exponent_of high) mantissa_lies

  -- they are the octets of their reading at their exponent
  pub packed_value : (e : ℕ) → e ≡ exponent_of high → ((packed (mantissa_at (value_of high low) e) e).0 ≡ high) × ((packed (mantissa_at (value_of high low) e) e).1 ≡ low)
  packed_value e q =
      rw q (packed_mantissa high low (mantissa_at (value_of high low) (exponent_of high)) h l (sym (mantissa_scaled (mantissa_of high low) (exponent_of high))))

  -- the least exponent that holds their reading is no greater than theirs
  pub exponent_least : (e : ℕ) → IsLeast (held (value_of high low)) 16 (Some e) → e ≤ exponent_of high
  exponent_least e t = let h = value_held in grind arith

-- 7F FF has the greatest exponent, so a reading that has other octets does not go out so
pub smallest_valid : (high low e : ℕ) → high < 256 → low < 256 → IsLeast (held (value_of high low)) 16 (Some e) → valid high low ≡ true → valid (packed (mantissa_at (value_of high low) e) e).0 (packed (mantissa_at (value_of high low) e) e).1 ≡ true
smallest_valid high low e h l t passes =
    let x = value_of high low in
    let at = exponent_held x e t.1 t.0 in
    let least = exponent_least high low h l e t in
    let same = packed_value high low h l e in
    grind (arith, nat_tests)
