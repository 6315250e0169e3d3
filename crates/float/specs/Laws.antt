-- The laws of the float. Assumes nothing.
use Rattle.std.specs.Prelude.{◌≡◌, ℕ, ◌<◌, ◌≤◌, Bool, true, List, [], ◌∷◌, ℤ, is_some, Some, None, Option, int_le, refl}
use Rattle.std.proofs.Common.{arith}
use Rattle.std.proofs.lemmas.Bool.{and_parts, and_from}
use Rattle.datapoint.specs.Meaning.{Lawful, Octets}
use Rattle.datapoint.specs.Shapes.{when}
use Rattle.float.specs.Float.{float, exponent_of, mantissa_of, value_of, valid, legal, mantissa_at, held, packed, packed_at, least_exponent, when_legal, SmallestExponent}
use Rattle.float.specs.LeastLemmas.{IsLeast, least_is}
use Rattle.float.specs.Exponents.{held_mantissa, scaled_lies}
use Rattle.float.specs.Octets.{octets_packed, value_packed, exponent_held, mantissa_lies, value_held, packed_value, exponent_least, smallest_valid}

when_some : {A : Type 0} (b : Bool) (a : A) {c : A} → when b a ≡ Some c → (b ≡ true) × (c ≡ a)
when_some b a q = grind arith

module _ (lowest : ℤ) where
  -- a legal payload and its reading
  record Legal (p : List ℕ) (xs : List ℤ) : Type 0 where
    high : ℕ
    low : ℕ
    payload : p ≡ high ∷ (low ∷ [])
    high_octet : high < 256
    low_octet : low < 256
    reading : xs ≡ value_of high low ∷ []
    passes : legal lowest (value_of high low) high low ≡ true

  legal_payload : (p : List ℕ) (xs : List ℤ) → Octets p → (float lowest).reading p ≡ Some xs → Legal p xs
  legal_payload [] xs o q = cc
  legal_payload (high ∷ []) xs o q = cc
  legal_payload (high ∷ (low ∷ [])) xs o q =
      let t = when_some (legal lowest (value_of high low) high low) (value_of high low ∷ []) q in
      record { high = high; low = low; payload = refl; high_octet = o.0; low_octet = o.1.0; reading = t.1; passes = t.0 }
  legal_payload (high ∷ (low ∷ (more ∷ rest))) xs o q = cc

  -- a legal reading and its proper payload
  record Proper (xs : List ℤ) (p : List ℕ) : Type 0 where
    x : ℤ
    e : ℕ
    reading : xs ≡ x ∷ []
    found : IsLeast (held x) 16 (Some e)
    payload : p ≡ (packed (mantissa_at x e) e).0 ∷ ((packed (mantissa_at x e) e).1 ∷ [])
    passes : legal lowest x (packed (mantissa_at x e) e).0 (packed (mantissa_at x e) e).1 ≡ true

  proper_from : (x : ℤ) (p : List ℕ) (o : Option ℕ) → IsLeast (held x) 16 o → when_legal lowest x (packed_at x o) ≡ Some p → Proper (x ∷ []) p
  proper_from x p None t q = cc
  proper_from x p (Some e) t q =
      let (high, low) = packed (mantissa_at x e) e in
      let u = when_some (legal lowest x high low) (high ∷ (low ∷ [])) q in
      record { x = x; e = e; reading = refl; found = t; payload = u.1; passes = u.0 }

  proper_payload : (xs : List ℤ) (p : List ℕ) → (float lowest).payload xs ≡ Some p → Proper xs p
  unfolding least_exponent
  proper_payload [] p q = cc
  proper_payload (x ∷ []) p q = proper_from x p (least_exponent x) (least_is (held x) 16) q
  proper_payload (x ∷ (y ∷ rest)) p q = cc

  -- the reading of a legal payload has a proper one
  payload_some : (high low : ℕ) → high < 256 → low < 256 → legal lowest (value_of high low) high low ≡ true → (o : Option ℕ) → IsLeast (held (value_of high low)) 16 o → is_some (when_legal lowest (value_of high low) (packed_at (value_of high low) o)) ≡ true
  payload_some high low h l passes (Some e) t =
      let x = value_of high low in
      let (first, second) = packed (mantissa_at x e) e in
      let u = and_parts (int_le lowest x) (valid high low) passes in
      rw (and_from (int_le lowest x) (valid first second) u.0 (smallest_valid high low e h l t u.1))
  payload_some high low h l passes None t = let held = value_held high low h l in grind arith

  -- a proper payload is made of octets, and reads back
  octets_made : (xs : List ℤ) (p : List ℕ) → Proper xs p → Octets p
  octets_made xs p r =
      let o = octets_packed (mantissa_at r.x r.e) r.e (held_mantissa r.x r.e r.found.1) r.found.0 in
      rw r.payload (o.0, (o.1, tt))

  back : (xs : List ℤ) (p : List ℕ) → Proper xs p → (float lowest).reading p ≡ Some xs
  back xs p r =
      let v = value_packed r.x r.e r.found.1 r.found.0 in
      rw (r.payload, r.reading, v, r.passes)

  pub lawful : Lawful (float lowest)
  unfolding least_exponent
  lawful = record {
    octets_some = omega arith;
    octets_most = omega arith;
    fields_some = omega arith;
    fields_most = omega arith;
    sized = λ p xs o q. let r = legal_payload p xs o q in rw r.payload;
    counted = λ p xs o q. let r = legal_payload p xs o q in rw r.reading;
    ranged = λ p xs o q.
        let r = legal_payload p xs o q in
        rw r.reading (scaled_lies (mantissa_of r.high r.low) (exponent_of r.high) (mantissa_lies r.high r.low r.high_octet r.low_octet) (omega arith), tt);
    legal = λ p xs o q.
        let r = legal_payload p xs o q in
        let x = value_of r.high r.low in
        rw r.reading (payload_some r.high r.low r.high_octet r.low_octet r.passes (least_exponent x) (least_is (held x) 16));
    octets_made = λ xs p q. octets_made xs p (proper_payload xs p q);
    back = λ xs p q. back xs p (proper_payload xs p q);
  }

smallest_from : (lowest : ℤ) (high low proper_high proper_low : ℕ) → high < 256 → low < 256 → (o : Option ℕ) → IsLeast (held (value_of high low)) 16 o →
    when_legal lowest (value_of high low) (packed_at (value_of high low) o) ≡ Some (proper_high ∷ (proper_low ∷ [])) →
    (exponent_of proper_high ≤ exponent_of high) × (exponent_of proper_high ≡ exponent_of high → (proper_high ≡ high) × (proper_low ≡ low))
smallest_from lowest high low proper_high proper_low h l None t q = cc
smallest_from lowest high low proper_high proper_low h l (Some e) t q =
    let at = exponent_held (value_of high low) e t.1 t.0 in
    let least = exponent_least high low h l e t in
    let same = packed_value high low h l e in
    grind (arith, when_some)

pub smallest_exponent : SmallestExponent
unfolding least_exponent
smallest_exponent lowest high low proper_high proper_low xs o q s =
    let x = value_of high low in
    let u = when_some (legal lowest x high low) (x ∷ []) q in
    smallest_from lowest high low proper_high proper_low o.0 o.1.0 (least_exponent x) (least_is (held x) 16) (rw u.1 at s)
