-- Octets, the number that they write and its value, over the count of octets. Assumes nothing.
use Rattle.std.specs.Prelude.{◌≡◌, ℕ, zero, suc, ◌*◌, ◌/◌, ◌%◌, ◌^◌, ◌<◌, ◌≤◌, List, [], ◌∷◌, All, length, ℤ, pos, negsuc, Some, None, Option, refl}
use Rattle.std.proofs.Common.{ap, ◌∙◌, pow-suc, arith, lit<}
use Rattle.std.proofs.Math.Nat.{pow-le-pow_right}
use Rattle.std.proofs.lemmas.Int.Digits.{number_push, number_lt}
use Rattle.std.proofs.lemmas.List.Elements.{All-nil, All-push, recursion_from_All}
use Rattle.std.proofs.lemmas.List.{length_push}
use Rattle.std.proofs.lemmas.Int.{ints}
use Rattle.std.proofs.lemmas.Bool.Decides.{nat_tests}
use Rattle.datapoint.specs.Meaning.{Octets, InRange, Lawful}
use Rattle.whole.specs.declared.whole.Width.{Width}
use Rattle.whole.specs.declared.whole.Sign.{Sign}
use Rattle.whole.specs.Whole.{count, number_in, negative_from, value_of, number_of, octets_of, written, in_octets, whole}

-- a number of at most four octets is at most 4,294,967,295
below_four : (n : ℕ) → n ≤ 4 → 256 ^ n ≤ 4294967296
below_four n few = pow-le-pow_right {n = 256} (lit< tt) few

length_octets : (n x : ℕ) → length (octets_of n x) ≡ n
length_octets zero x = refl
length_octets (suc n) x = length_push (octets_of n (x / 256)) (x % 256) ∙ omega (arith, length_octets n (x / 256))

all_octets : (n x : ℕ) → All (λ b. b < 256) (octets_of n x)
all_octets zero x = All-nil (λ b. b < 256)
all_octets (suc n) x = All-push (λ b. b < 256) (octets_of n (x / 256)) (x % 256) (all_octets n (x / 256)) (omega arith)

are_octets : (n x : ℕ) → Octets (octets_of n x)
are_octets n x = recursion_from_All (λ b. b < 256) (octets_of n x) (all_octets n x)

number_octets : (n x : ℕ) → x < 256 ^ n → number_in (octets_of n x) ≡ x
number_octets zero x below = omega arith
number_octets (suc n) x below =
    let high = number_octets n (x / 256) (omega (arith, pow-suc 256 n)) in
    number_push 256 (octets_of n (x / 256)) (x % 256) ∙ omega arith

-- n octets, whose numbers from `from` on stand for negative values
module _ (n from : ℕ) (within : from ≤ 256 ^ n) where
  number_value : (x : ℕ) → x < 256 ^ n → number_of n from (value_of n from x) ≡ Some x
  number_value x below = grind (arith, ints, nat_tests)

  value_number : (z : ℤ) (x : ℕ) → number_of n from z ≡ Some x → (x < 256 ^ n) × (value_of n from x ≡ z)
  value_number (pos a) x is = grind (arith, ints, nat_tests)
  value_number (negsuc a) x is = grind (arith, ints, nat_tests)

  value_ranged : n ≤ 4 → 256 ^ n ≤ 2 * from → (x : ℕ) → x < 256 ^ n → InRange (value_of n from x)
  value_ranged few half x below = let most = below_four n few in grind (arith, ints, nat_tests)

  -- a legal payload reads the value of the number that its octets write
  reads : (p : List ℕ) (xs : List ℤ) → Octets p → (in_octets n from).reading p ≡ Some xs → (length p ≡ n) × (number_in p < 256 ^ n) × (xs ≡ value_of n from (number_in p) ∷ [])
  reads p xs each is = let below = number_lt 256 p each in grind (arith, nat_tests)

  -- a legal reading is the value of a number, whose octets are its payload
  writes : (xs : List ℤ) (p : List ℕ) → (in_octets n from).payload xs ≡ Some p → (x : ℕ) × (x < 256 ^ n) × (p ≡ octets_of n x) × (xs ≡ value_of n from x ∷ [])
  writes [] p is = cc
  writes (z ∷ []) p is = found (number_of n from z) refl is
    where
      found : (o : Option ℕ) → number_of n from z ≡ o → written n o ≡ Some p → (x : ℕ) × (x < 256 ^ n) × (p ≡ octets_of n x) × (z ∷ [] ≡ value_of n from x ∷ [])
      found None e is = cc
      found (Some x) e is = let v = value_number z x e in (x, v.0, cc, cc)
  writes (z ∷ (y ∷ zs)) p is = cc

  lawful : 1 ≤ n → n ≤ 4 → 256 ^ n ≤ 2 * from → Lawful (in_octets n from)
  lawful some few half = record {
    octets_some = some;
    octets_most = omega arith;
    fields_some = omega arith;
    fields_most = omega arith;
    sized = λ p xs each is. (reads p xs each is).0;
    counted = λ p xs each is. ap length (reads p xs each is).2;
    ranged = λ p xs each is. let r = reads p xs each is in rw r.2 (value_ranged few half (number_in p) r.1, tt);
    legal = λ p xs each is. let r = reads p xs each is in let v = number_value (number_in p) r.1 in grind arith;
    octets_made = λ xs p is. let w = writes xs p is in rw w.2 (are_octets n w.0);
    back = λ xs p is. let w = writes xs p is in grind (arith, nat_tests, length_octets, number_octets);
  }

-- at most half of the numbers stand for negative values
negative_half : (sign : Sign) (n : ℕ) → 1 ≤ n → (negative_from sign n ≤ 256 ^ n) × (256 ^ n ≤ 2 * negative_from sign n)
negative_half sign zero some = absurd (omega arith)
negative_half sign (suc n) some = let even = pow-suc 256 n in grind arith

pub whole_lawful : (width : Width) (sign : Sign) → Lawful (whole width sign)
whole_lawful width sign =
    let some : 1 ≤ count width = grind arith in
    let few : count width ≤ 4 = grind arith in
    let half = negative_half sign (count width) some in
    lawful (count width) (negative_from sign (count width)) half.0 some few half.1
