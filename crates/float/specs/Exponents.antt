-- The exponents that hold a reading. Assumes nothing.
use Rattle.std.specs.Prelude.{◌≡◌, ℕ, zero, suc, ◌*◌, ◌/◌, ◌^◌, ◌<◌, true, cond, ℤ, pos, negsuc, neg_ℤ, ◌≤ℤ◌, Some, int_div, refl}
use Rattle.std.specs.List.{find, range_with_len}
use Rattle.std.proofs.Common.{ap, ◌∙◌, arith, pow_mono}
use Rattle.std.proofs.Math.Nat.{zero-div}
use Rattle.std.proofs.lemmas.Int.{ints}
use Rattle.std.proofs.lemmas.Bool.Decides.{nat_tests}
use Rattle.std.proofs.lemmas.Nat.{shl-shr, mul-le}
use Rattle.datapoint.specs.Meaning.{InRange}
use Rattle.float.specs.Float.{scaled, mantissa_at, held, packed, packed_at, least_exponent, smallest}

-- a mantissa lies from -2048 to 2047
abbrev pub Mantissa : ℤ → Type 0
Mantissa m = (negsuc 2047 ≤ℤ m) × (m ≤ℤ pos 2047)

quotient_neg : (n d : ℕ) → int_div (neg_ℤ (pos n)) (pos d) ≡ neg_ℤ (pos (n / d))
quotient_neg zero d = rw zero-div
quotient_neg (suc n) d = refl

pub mantissa_scaled : (m : ℤ) (e : ℕ) → mantissa_at (scaled m e) e ≡ m
mantissa_scaled (pos n) e = ap pos (shl-shr n e)
mantissa_scaled (negsuc n) e = quotient_neg (suc n * 2 ^ e) (2 ^ e) ∙ ap (λ k. neg_ℤ (pos k)) (shl-shr (suc n) e)

-- what is M × 2^e is held at e, and what is held at e is M × 2^e
pub held_scaled : (m : ℤ) (e : ℕ) → Mantissa m → held (scaled m e) e ≡ true
held_scaled m e l =
    let r = mantissa_scaled m e in grind (arith, ints, nat_tests)

pub held_mantissa : (x : ℤ) (e : ℕ) → held x e ≡ true → Mantissa (mantissa_at x e)
held_mantissa x e h = grind (arith, ints, nat_tests)

pub scaled_held : (x : ℤ) (e : ℕ) → held x e ≡ true → scaled (mantissa_at x e) e ≡ x
scaled_held x e h = grind (arith, ints, nat_tests)

-- what is held lies in the range of a field
pub scaled_lies : (m : ℤ) (e : ℕ) → Mantissa m → e < 16 → InRange (scaled m e)
scaled_lies (pos n) e l s = omega (arith, ints, mul-le n (2 ^ e) 2048 32768 (omega (arith, ints)) (pow_mono {j = 15} (omega arith)))
scaled_lies (negsuc n) e l s = omega (arith, ints, mul-le (suc n) (2 ^ e) 2048 32768 (omega (arith, ints)) (pow_mono {j = 15} (omega arith)))

-- the exponent 0 holds every mantissa
pub smallest_plain : (x : ℤ) → Mantissa x → smallest x ≡ Some (packed x 0)
unfolding least_exponent
smallest_plain x l =
    let s : scaled x 0 ≡ x = omega (arith, ints) in
    let m : mantissa_at x 0 ≡ x = rw s at (mantissa_scaled x 0) in
    let h : held x 0 ≡ true = rw s at (held_scaled x 0 l) in
    ap (λ b. packed_at x (cond b (Some 0) (find (held x) (range_with_len 1 15)))) h ∙ ap (λ m. Some (packed m 0)) m
