-- Two lawful types joined are a lawful type.
use Rattle.std.specs.Prelude.{◌≡◌, ℕ, ◌+◌, true, List, ◌++◌, length, take, drop, ℤ, is_some, Some, None, Option, slice_index, refl}
use Rattle.std.proofs.Common.{sym, ap, ap₂, ◌∙◌, arith, lit≤, Fits}
use Rattle.std.specs.Int.{w8}
use Rattle.std.proofs.lemmas.List.{length-append, take_at, drop_at, take-append-drop}
use Rattle.std.proofs.ByRecursion.{All-append, All-from_get_or, All-take, All-drop}
use Rattle.std.proofs.lemmas.Bool.{and_parts, leb-true, cond_both}
use Rattle.std.specs.List.{AllByRecursion}
use Rattle.datapoint.specs.Meaning.{Meaning, Lawful, Octets, InRange}
use Rattle.joined.specs.Joined.{both, halves, appended, none_legal, fit, joined}

module _ {A : Type 0} where
  -- what both halves give, in its two parts
  record Parts (o q : Option (List A)) (l : List A) : Type 0 where
    first : List A
    second : List A
    first_is : o ≡ Some first
    second_is : q ≡ Some second
    whole : l ≡ first ++ second

  parts : (o q : Option (List A)) (l : List A) → both o q ≡ Some l → Parts o q l
  parts None q l h = cc
  parts (Some xs) None l h = cc
  parts (Some xs) (Some ys) l h = record { first = xs; second = ys; first_is = refl; second_is = refl; whole = cc }

  both_some : (o q : Option (List A)) → is_some o ≡ true → is_some q ≡ true → is_some (both o q) ≡ true
  both_some None q h k = h
  both_some (Some xs) None h k = k
  both_some (Some xs) (Some ys) h k = refl

-- a list that was put together falls into its two parts again
halves_at : {A B : Type 0} (n : ℕ) (f g : List A → Option (List B)) (xs ys : List A) → length xs ≡ n → halves n f g (xs ++ ys) ≡ both (f xs) (g ys)
halves_at n f g xs ys h = rw (take_at xs ys n h, drop_at xs ys n h)

length_parts : {A : Type 0} (n : ℕ) (l : List A) → length l ≡ length (take n l) + length (drop n l)
length_parts n l = ap length (sym (take-append-drop n l)) ∙ length-append (take n l) (drop n l)

-- the reading of a `&[u8]` has the counted fields
pub reading_sized : (m : Meaning) → Lawful m → (p : List ℕ) → ((i : ℕ) → Fits w8 (slice_index p i)) → (xs : List ℤ) → m.reading p ≡ Some xs → length xs ≡ m.fields
reading_sized m l p octets xs h = l.counted p xs (All-from_get_or _ p 0 (λ i _. (octets i).fits)) h

-- a proper payload has the counted octets
pub proper_sized : (m : Meaning) → Lawful m → (xs : List ℤ) (p : List ℕ) → m.payload xs ≡ Some p → length p ≡ m.octets
proper_sized m l xs p h = l.sized p xs (l.octets_made xs p h) (l.back xs p h)

module _ (a b : Meaning) (la : Lawful a) (lb : Lawful b) where
  module _ (p : List ℕ) (xs : List ℤ) (o : Octets p) (h : (appended a b).reading p ≡ Some xs) where
    read : Parts (a.reading (take a.octets p)) (b.reading (drop a.octets p)) xs
    read = parts _ _ xs h

    in_first : Octets (take a.octets p)
    in_first = All-take _ a.octets p o

    in_second : Octets (drop a.octets p)
    in_second = All-drop _ a.octets p o

    sized : length p ≡ a.octets + b.octets
    sized = length_parts a.octets p ∙ ap₂ ◌+◌ (la.sized _ _ in_first read.first_is) (lb.sized _ _ in_second read.second_is)

    counted : length xs ≡ a.fields + b.fields
    counted = ap length read.whole ∙ (length-append _ _ ∙ ap₂ ◌+◌ (la.counted _ _ in_first read.first_is) (lb.counted _ _ in_second read.second_is))

    ranged : AllByRecursion InRange xs
    ranged = rw read.whole (All-append InRange _ _ (la.ranged _ _ in_first read.first_is) (lb.ranged _ _ in_second read.second_is))

    legal : is_some ((appended a b).payload xs) ≡ true
    legal =
        rw (read.whole, halves_at a.fields a.payload b.payload read.first read.second (la.counted _ _ in_first read.first_is))
        (both_some _ _ (la.legal _ _ in_first read.first_is) (lb.legal _ _ in_second read.second_is))

  module _ (xs : List ℤ) (p : List ℕ) (h : (appended a b).payload xs ≡ Some p) where
    written : Parts (a.payload (take a.fields xs)) (b.payload (drop a.fields xs)) p
    written = parts _ _ p h

    octets_made : Octets p
    octets_made = rw written.whole (All-append _ _ _ (la.octets_made _ _ written.first_is) (lb.octets_made _ _ written.second_is))

    back : (appended a b).reading p ≡ Some xs
    back =
        rw (written.whole, halves_at a.octets a.reading b.reading written.first written.second (proper_sized a la _ _ written.first_is), la.back _ _ written.first_is, lb.back _ _ written.second_is)
        (ap Some (take-append-drop a.fields xs))

  appended_lawful : fit a b ≡ true → Lawful (appended a b)
  appended_lawful fits = record {
    octets_some = omega (arith, la.octets_some);
    octets_most = leb-true _ _ (and_parts _ _ fits).0;
    fields_some = omega (arith, la.fields_some);
    fields_most = leb-true _ _ (and_parts _ _ fits).1;
    sized = sized;
    counted = counted;
    ranged = ranged;
    legal = legal;
    octets_made = octets_made;
    back = back;
  }

none_legal_lawful : Lawful none_legal
none_legal_lawful = record {
  octets_some = lit≤ tt;
  octets_most = lit≤ tt;
  fields_some = lit≤ tt;
  fields_most = lit≤ tt;
  sized = λ p xs o h. cc;
  counted = λ p xs o h. cc;
  ranged = λ p xs o h. cc;
  legal = λ p xs o h. cc;
  octets_made = λ xs p h. cc;
  back = λ xs p h. cc;
}

pub joined_lawful : (a b : Meaning) → Lawful a → Lawful b → Lawful (joined a b)
joined_lawful a b la lb = cond_both (fit a b) (appended a b) none_legal Lawful (λ e. appended_lawful a b la lb e) (λ e. none_legal_lawful)
