-- The float of two octets: a sign bit S, four bits of exponent E and eleven bits of fraction F. Assumes nothing.
use Rattle.std.specs.Prelude.{◌≡◌, ℕ, ◌+◌, ◌*◌, ◌/◌, ◌%◌, ◌^◌, ◌≤◌, Bool, not, ◌&&◌, List, [], ◌∷◌, ℤ, pos, negsuc, ◌+ℤ◌, ◌-ℤ◌, ◌*ℤ◌, Some, None, Option, ◌==◌, int_div, int_le, unsigned_abs}
use Rattle.std.specs.List.{find, range_with_len}
use Rattle.datapoint.specs.Meaning.{Meaning, Octets}
use Rattle.datapoint.specs.Shapes.{when, one, two}

-- E is bits 6 to 3 of the first octet
abbrev pub exponent_of : ℕ → ℕ
exponent_of high = high / 8 % 16

-- M is F - 2048 × S: S is bit 7 of the first octet, and F is its bits 2 to 0 and the second octet
abbrev pub mantissa_of : ℕ → ℕ → ℤ
mantissa_of high low = pos (256 * (high % 8) + low) -ℤ pos (2048 * (high / 128))

-- M × 2^E
abbrev pub scaled : ℤ → ℕ → ℤ
scaled m e = m *ℤ pos (2 ^ e)

-- what a payload reads
abbrev pub value_of : ℕ → ℕ → ℤ
value_of high low = scaled (mantissa_of high low) (exponent_of high)

-- 7F FF is invalid data
abbrev pub valid : ℕ → ℕ → Bool
valid high low = not (high == 127 && low == 255)

-- a reading x of the payload is no less than the lowest, and the payload is valid
abbrev pub legal : ℤ → ℤ → ℕ → ℕ → Bool
legal lowest x high low = int_le lowest x && valid high low

-- M of a reading at the exponent e
abbrev pub mantissa_at : ℤ → ℕ → ℤ
mantissa_at x e = int_div x (pos (2 ^ e))

-- the two are equal
abbrev pub same : ℤ → ℤ → Bool
same x y = int_le x y && int_le y x

-- the reading is M × 2^e with M from -2048 to 2047
abbrev pub held : ℤ → ℕ → Bool
held x e = same x (scaled (mantissa_at x e) e) && (int_le (negsuc 2047) (mantissa_at x e) && int_le (mantissa_at x e) (pos 2047))

-- S is 1 where M is less than 0
abbrev pub sign : ℤ → ℕ
sign (pos n) = 0
sign (negsuc n) = 1

-- F is M + 2048 × S
abbrev pub fraction : ℤ → ℕ
fraction m = unsigned_abs (m +ℤ pos (2048 * sign m))

-- the two octets of M and E
abbrev pub packed : ℤ → ℕ → ℕ × ℕ
packed m e = (128 * sign m + 8 * e + fraction m / 256, fraction m % 256)

-- the two octets of a reading at an exponent, where there is one
abbrev pub packed_at : ℤ → Option ℕ → Option (ℕ × ℕ)
packed_at x None = None
packed_at x (Some e) = Some (packed (mantissa_at x e) e)

-- the smallest exponent that holds a reading, of 0 to 15
unfoldable pub least_exponent : ℤ → Option ℕ
least_exponent x = find (held x) (range_with_len 0 16)

-- the two octets of a reading at that exponent
abbrev pub smallest : ℤ → Option (ℕ × ℕ)
smallest x = packed_at x (least_exponent x)

-- the two octets as a payload, where it is legal
abbrev pub when_legal : ℤ → ℤ → Option (ℕ × ℕ) → Option (List ℕ)
when_legal lowest x None = None
when_legal lowest x (Some p) = when (legal lowest x p.0 p.1) (p.0 ∷ (p.1 ∷ []))

-- a float that reads no less than the lowest
abbrev pub float : ℤ → Meaning
float lowest = record {
  octets = 2;
  fields = 1;
  reading = two (λ high low. when (legal lowest (value_of high low) high low) (value_of high low ∷ []));
  payload = one (λ x. when_legal lowest x (smallest x));
}

-- of all legal payloads with one reading the proper one has the smallest exponent, and no other has that exponent
abbrev pub SmallestExponent : Type 0
SmallestExponent =
    (lowest : ℤ) (high low proper_high proper_low : ℕ) (xs : List ℤ) →
    Octets (high ∷ (low ∷ [])) →
    (float lowest).reading (high ∷ (low ∷ [])) ≡ Some xs →
    (float lowest).payload xs ≡ Some (proper_high ∷ (proper_low ∷ [])) →
    (exponent_of proper_high ≤ exponent_of high) × (exponent_of proper_high ≡ exponent_of high → (proper_high ≡ high) × (proper_low ≡ low))
