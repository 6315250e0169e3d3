-- Reading fields one after another. Assumes nothing.
use Rattle.std.proofs.Common.{◌≡◌, ℕ, zero, suc, ◌<◌, ◌≤◌, Bool, true, false, leb, List, [], ◌∷◌, ◌++◌, length, ℤ, Some, None, codes, Option, sym, refl, ap, ◌∙◌, append_assoc, arith, length-append}
use Rattle.std.proofs.lemmas.Bool.{leb-false, lt-leb}
use Rattle.datapoint.specs.Shapes.{when}
use Rattle.listing.specs.Fields.{kept, lengthened}
use Rattle.listing.specs.Line.{got_as}
use Rattle.listing.specs.Read.{Got, got, bad, ◌⨟◌, if_came, read_literal, read_field, read_fields_by, read_fields}
use Rattle.listing.proofs.Law.{literal}
use Rattle.listing.proofs.Field.{field}
use Rattle.listing.proofs.Readings.{listed, field_some}

field_shorter : (s : List ℕ) (x : ℤ) (rest : List ℕ) → read_field s ≡ got x rest → length rest < length s
field_shorter s x rest e =
    let r = field.only s x rest e in
    omega (arith, simp length-append at (ap length r.0), field_some x r.1)

comma_shorter : (s : List ℕ) (u : Unit {0}) (rest : List ℕ) → read_literal (codes ",") s ≡ got u rest → length rest < length s
comma_shorter s u rest e = omega (arith, ap length ((literal (codes ",")).only s u rest e).0)

pub both_shorter : (s : List ℕ) (x : ℤ) (rest : List ℕ) (u : Unit {0}) (more : List ℕ) → got x rest ≡ read_field s → got u more ≡ read_literal (codes ",") rest → length more < length s
both_shorter s x rest u more e f = omega (arith, field_shorter s x rest (sym e), comma_shorter rest u more (sym f))

-- two readers that agree on shorter texts agree behind a field
agree : (s : List ℕ) (p q : List ℕ → Got (List ℤ)) → ((t : List ℕ) → length t < length s → p t ≡ q t) → (read_field s ⨟ listed p) ≡ (read_field s ⨟ listed q)
agree s p q same = by (read_field s) refl
  where
    comma : (x : ℤ) (rest : List ℕ) → read_field s ≡ got x rest → (c : Got (Unit {0})) → read_literal (codes ",") rest ≡ c →
        if_came c (λ more. p more ⨟ λ xs end. got (x ∷ xs) end) (got (x ∷ []) rest) ≡ if_came c (λ more. q more ⨟ λ xs end. got (x ∷ xs) end) (got (x ∷ []) rest)
    comma x rest e (got u more) f = ap (λ g. g ⨟ λ xs end. got (x ∷ xs) end) (same more (both_shorter s x rest u more (sym e) (sym f)))
    comma x rest e bad f = refl

    by : (g : Got ℤ) → read_field s ≡ g → (g ⨟ listed p) ≡ (g ⨟ listed q)
    by (got x rest) e = comma x rest e (read_literal (codes ",") rest) refl
    by bad e = refl

-- more turns than octets make no difference
turns : (j k : ℕ) (s : List ℕ) → length s ≤ j → length s ≤ k → read_fields_by j s ≡ read_fields_by k s
turns zero zero s a b = refl
turns zero (suc k) [] a b = refl
turns zero (suc k) (c ∷ s) a b = absurd (omega arith)
turns (suc j) zero [] a b = refl
turns (suc j) zero (c ∷ s) a b = absurd (omega arith)
turns (suc j) (suc k) s a b = agree s (read_fields_by j) (read_fields_by k) (λ t l. turns j k t (omega arith) (omega arith))

fields_step : (s : List ℕ) → read_fields s ≡ (read_field s ⨟ listed read_fields)
fields_step [] = refl
fields_step (c ∷ s) = agree (c ∷ s) (read_fields_by (length s)) read_fields (λ t l. turns (length s) (length t) t (omega arith) (omega arith))

-- the fields so far and then more
abbrev pub further : Option (List ℤ) → List ℤ → Option (List ℤ)
further None xs = None
further (Some ys) xs = kept (ys ++ xs)

further_more : (k : Option (List ℤ)) (x : ℤ) (xs : List ℤ) → further (lengthened k x) xs ≡ further k (x ∷ xs)
further_more None x xs = refl
further_more (Some ys) x xs = by (leb (length (ys ++ (x ∷ []))) 16) refl
  where
    by : (t : Bool) → leb (length (ys ++ (x ∷ []))) 16 ≡ t → further (when t (ys ++ (x ∷ []))) xs ≡ kept (ys ++ (x ∷ xs))
    by true t = ap kept (append_assoc ys (x ∷ []) xs)
    by false t =
        let long = leb-false (length (ys ++ (x ∷ []))) 16 t in
        sym (ap (λ u. when u (ys ++ (x ∷ xs))) (lt-leb (length (ys ++ (x ∷ xs))) 16 (omega (arith, length-append ys (x ∷ []), length-append ys (x ∷ xs), long))))

over : (k : Option (List ℤ)) (x : ℤ) (g : Got (List ℤ)) → got_as (further (lengthened k x)) g ≡ got_as (further k) (g ⨟ λ xs end. got (x ∷ xs) end)
over k x (got xs end) = ap (λ o. got o end) (further_more k x xs)
over k x bad = refl

-- a field and a comma leave the fields behind it to be read
pub fields_again : (k : Option (List ℤ)) (s : List ℕ) (x : ℤ) (rest : List ℕ) → got x rest ≡ read_field s → (u : Unit {0}) (more : List ℕ) → got u more ≡ read_literal (codes ",") rest →
    got_as (further (lengthened k x)) (read_fields more) ≡ got_as (further k) (read_fields s)
fields_again k s x rest e u more f =
    over k x (read_fields more) ∙ sym (ap (got_as (further k)) (fields_step s ∙ rw (← e, ← f) refl))
