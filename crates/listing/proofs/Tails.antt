-- The fields behind the first. Assumes nothing.
use Rattle.std.proofs.Common.{◌≡◌, ℕ, ◌+◌, ◌*◌, ◌<◌, ◌≤◌, List, [], ◌∷◌, ◌++◌, length, get_or, take, ℤ, pos, codes, flat_map, sym, ap, append_assoc, arith, length-append}
use Rattle.std.specs.Fmt.{signed_decimal}
use Rattle.std.proofs.lemmas.List.{append-nil, take_more, take_all}
use Rattle.std.proofs.lemmas.Grind.{flat_map-append}
use Rattle.listing.specs.Show.{show_fields}
use Rattle.listing.proofs.Written.{cut_again}

-- a field behind a comma
abbrev pub behind_comma : ℤ → List ℕ
behind_comma x = codes "," ++ signed_decimal x

abbrev pub tails : List ℤ → List ℕ
tails xs = flat_map behind_comma xs

first_tails : (x : ℤ) (xs : List ℤ) → show_fields (x ∷ xs) ≡ signed_decimal x ++ tails xs
first_tails x [] = sym (append-nil (signed_decimal x))
first_tails x (y ∷ xs) = ap (λ t. signed_decimal x ++ (codes "," ++ t)) (first_tails y xs)

more_tails : (rest : List ℤ) (i : ℕ) → i < length rest → tails (take (i + 1) rest) ≡ tails (take i rest) ++ behind_comma (get_or rest i (pos 0))
more_tails rest i h = rw (take_more rest i (pos 0) h, flat_map-append) (simp append-nil)

-- one more field, of at most 20 octets, and all of them
pub tails_room : (rest : List ℤ) (i : ℕ) → i < length rest → length (signed_decimal (get_or rest i (pos 0))) ≤ 20 → length (tails (take i rest)) ≤ 21 * i → length (tails (take (i + 1) rest)) ≤ 21 * (i + 1)
tails_room rest i h short room = rw (more_tails rest i h) (simp length-append (omega arith))

pub fields_room : (fields : List ℤ) (x : ℤ) (rest : List ℤ) (i : ℕ) → fields ≡ x ∷ rest → length rest ≤ i → i ≤ length rest → length (signed_decimal x) ≤ 20 → length (tails (take i rest)) ≤ 21 * i → length (show_fields fields) ≤ 21 * length fields
fields_room fields x rest i e above below short room =
    let all = rw (take_all i rest above) at room in
    rw (e, first_tails x rest) (simp length-append (omega arith))

module _ (n : ℕ) (t : List ℕ) where
  -- one more field
  pub tail_written : (rest : List ℤ) (i : ℕ) (t₁ t₂ : List ℕ) → i < length rest → t₁ ≡ take n (t ++ tails (take i rest)) →
      t₂ ≡ take n (t₁ ++ behind_comma (get_or rest i (pos 0))) → t₂ ≡ take n (t ++ tails (take (i + 1) rest))
  tail_written rest i t₁ t₂ h e₁ e₂ = rw (e₂, e₁, more_tails rest i h) (simp (cut_again, append_assoc))

  -- the first field and all the others
  pub fields_written : (key : List ℕ) (fields : List ℤ) (x : ℤ) (rest : List ℤ) (i : ℕ) (t₁ t₂ : List ℕ) → fields ≡ x ∷ rest → length rest ≤ i →
      t₁ ≡ take n (t ++ (key ++ signed_decimal x)) → t₂ ≡ take n (t₁ ++ tails (take i rest)) → t₂ ≡ take n (t ++ (key ++ show_fields fields))
  fields_written key fields x rest i t₁ t₂ e h e₁ e₂ = rw (e₂, e₁, take_all i rest h, e, first_tails x rest) (simp (cut_again, append_assoc))
