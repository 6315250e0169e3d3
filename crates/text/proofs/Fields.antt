-- What an array of fields and one of octets have in common. Assumes nothing.
use Rattle.std.proofs.Common.{◌≡◌, ◌≢◌, ℕ, suc, ◌+◌, ◌-◌, ◌<◌, ◌≤◌, true, List, [], ◌∷◌, ◌++◌, map, length, get_or, take, set, replicate, get_or-set_other, get_or-set_same, below_more, ℤ, pos, Some, None, Option, sym, refl, ap, ◌∙◌, append_assoc, arith}
use Rattle.std.specs.List.{Any}
use Rattle.std.proofs.lemmas.List.{ext_get_or, get_or-map, length-map, length-set, length-take, length-take-le, get_or-take, map-set, set_at, take_more}
use Rattle.std.proofs.lemmas.List.Elements.{All-from_get_or}
use Rattle.std.proofs.lemmas.Int.{ints}
use Rattle.datapoint.specs.Shapes.{when}
use Rattle.text.specs.Text.{within, ended, text, UpTo}
use Rattle.text.specs.Legal.{from_payload, payload_of}
use Rattle.text.specs.Within.{all_within, within_all}

-- `fields`: the first i octets as fields, and then 0
abbrev pub shown : List ℕ → ℕ → List ℤ
shown p i = map pos (take i p ++ replicate (14 - i) 0)

pub shown_more : (p : List ℕ) (fields : List ℤ) (n i : ℕ) (x : ℤ) → length p ≡ 14 → i < length (take n p) → fields ≡ shown p i → x ≡ pos (get_or (take n p) i 0) → set fields i x ≡ shown p (i + 1)
shown_more p fields n i x long inside so_far is =
    let short : i < n = omega (arith, length-take {A = ℕ}) in
    let there : i < length p = omega (arith, length-take {A = ℕ}) in
    let left : 14 - i ≡ suc (14 - (i + 1)) = omega arith in
    let after : List ℕ = replicate (14 - (i + 1)) 0 in
    ap (λ q. set q i x) so_far
    ∙ ap (set (shown p i) i) (is ∙ ap pos (get_or-take n p i 0 short))
    ∙ sym (map-set pos (take i p ++ replicate (14 - i) 0) i (get_or p i 0))
    ∙ ap (λ n. map pos (set (take i p ++ replicate n 0) i (get_or p i 0))) left
    ∙ ap (map pos) (set_at (take i p) 0 after (get_or p i 0) i (length-take-le i p (omega arith)))
    ∙ ap (map pos) (sym (append_assoc (take i p) (get_or p i 0 ∷ []) after))
    ∙ ap (λ q. map pos (q ++ after)) (sym (take_more p i 0 there))

-- `as_octets`: the first i octets are the first i fields, and none is above the highest
pub record Taken (highest : ℕ) (xs : List ℤ) (octets : List ℕ) (i : ℕ) : Type 0 where
  pub long : length octets ≡ 14
  pub below : (k : ℕ) → k < i → (get_or xs k (pos 0) ≡ pos (get_or octets k 0)) × (get_or octets k 0 ≤ highest)

module _ (highest : ℕ) (xs : List ℤ) (octets : List ℕ) where
  pub taken_none : length octets ≡ 14 → Taken highest xs octets 0
  taken_none long = record { long = long; below = λ k h. absurd (omega arith) }

  pub taken_more : (i n : ℕ) → i < 14 → Taken highest xs octets i → (get_or xs i (pos 0) ≡ pos n) × (n ≤ highest) → Taken highest xs (set octets i n) (i + 1)
  taken_more i n inside t here =
      let there : i < length octets = omega (arith, t.long) in
      record {
        long = length-set octets i n ∙ t.long;
        below = below_more (λ k. (get_or xs k (pos 0) ≡ pos (get_or (set octets i n) k 0)) × (get_or (set octets i n) k 0 ≤ highest)) i
            (λ k h. let other : k ≢ i = omega arith in rw get_or-set_other (t.below k h))
            (rw get_or-set_same here);
      }

  pub taken_all : (i : ℕ) → length xs ≡ 14 → 14 ≤ i → Taken highest xs octets i → (xs ≡ map pos octets) × (within highest octets ≡ true)
  taken_all i due past t = (
    ext_get_or (pos 0) xs (map pos octets) (due ∙ sym t.long ∙ sym (length-map octets pos))
        (λ k inside. (t.below k (omega arith)).0 ∙ sym (get_or-map pos octets k 0 (pos 0) (omega (arith, t.long)))),
    within_all highest octets (All-from_get_or (λ b. b ≤ highest) octets 0 (λ k inside. (t.below k (omega (arith, t.long))).1)),
  )

-- the proper payload of octets up to the highest
pub payload_of_octets : (highest : ℕ) (p : List ℕ) → length p ≡ 14 → within highest p ≡ true → (text highest).payload (map pos p) ≡ when (ended p) p
payload_of_octets highest p long low = payload_of highest p (record { long = long; low = low })

-- a field that is no octet up to the highest leaves the reading without a payload
pub payload_of_other : (highest : ℕ) (xs : List ℤ) → Any (λ x. ¬ UpTo highest x) xs → (text highest).payload xs ≡ None
payload_of_other highest xs other = go ((text highest).payload xs) refl
  where
    go : (o : Option (List ℕ)) → (text highest).payload xs ≡ o → (text highest).payload xs ≡ None
    go None e = e
    go (Some p) e =
        let w = from_payload highest xs p e in
        let i = other.0 in
        let x = other.1 in
        let inside : i < length p = omega (arith, other.2, ap length w.is, length-map p pos) in
        let is : x ≡ pos (get_or p i 0) = sym other.3 ∙ ap (λ l. get_or l i x) (sym w.is) ∙ get_or-map pos p i 0 x inside in
        let low : get_or p i 0 ≤ highest = all_within highest p w.allowed.low i 0 inside in
        absurd (other.4 (rw is (omega (arith, ints), omega (arith, ints))))
