-- A whole number up to a limit is read just where it is shown. Assumes nothing.
use Rattle.std.proofs.Common.{◌≡◌, ℕ, zero, suc, ◌+◌, ◌-◌, ◌*◌, ◌^◌, ◌<◌, ◌≤◌, Bool, true, false, cond, eqb, leb, List, [], ◌∷◌, ◌++◌, length, get_or, decimal, sym, refl, ap, ◌∙◌, arith, rules}
use Rattle.std.specs.Char.{is_ascii_digit}
use Rattle.std.specs.Str.{all_ascii_digits}
use Rattle.std.proofs.lemmas.Bool.{eqb-true, eqb-false, ne_eqb, leb-true, le-leb, cond-true, cond-false, and_parts, and_from}
use Rattle.std.proofs.lemmas.Str.Parse.{IsNumeralModel, numerals_by_fold}
use Rattle.std.proofs.lemmas.Fmt.{digits_decimal, digits_value-decimal, decimal-digits_value, decimal_nonempty, first_decimal, decimal_digit}
use Rattle.listing.specs.Read.{got, bad, read_literal, read_digits, read_whole}
use Rattle.listing.proofs.Law.{Reads, NoDigit, ended}

-- the number that digits write behind n
abbrev pub value_on : ℕ → List ℕ → ℕ
value_on n [] = n
value_on n (c ∷ cs) = value_on (10 * n + (c - 48)) cs

pub own : IsNumeralModel (λ ds. all_ascii_digits ds ≡ true) (value_on 0)
own = numerals_by_fold _ (search rules) value_on (search rules)

value_ge : (n : ℕ) (ds : List ℕ) → n ≤ value_on n ds
value_ge n [] = omega arith
value_ge n (c ∷ cs) = omega (arith, value_ge (10 * n + (c - 48)) cs)

digits_back : (limit n : ℕ) (ds rest : List ℕ) → all_ascii_digits ds ≡ true → value_on n ds ≤ limit → NoDigit rest → read_digits limit n (ds ++ rest) ≡ got (value_on n ds) rest
digits_back limit n [] [] all most stop = refl
digits_back limit n [] (c ∷ s) all most stop = cond-false (is_ascii_digit c) _ _ stop
digits_back limit n (d ∷ ds) rest all most stop =
    let m = 10 * n + (d - 48) in
    let h = and_parts (is_ascii_digit d) (all_ascii_digits ds) all in
    cond-true (is_ascii_digit d) _ _ h.0
    ∙ cond-true (leb m limit) _ _ (le-leb m limit (omega (arith, value_ge m ds)))
    ∙ digits_back limit m ds rest h.1 most stop

-- what was read: digits, and the number that they write
pub record DigitsRead (limit n : ℕ) (s : List ℕ) (m : ℕ) (rest : List ℕ) : Type 0 where
  pub digits : List ℕ
  pub text : s ≡ digits ++ rest
  pub all : all_ascii_digits digits ≡ true
  pub value : value_on n digits ≡ m
  pub most : m ≤ limit

digits_only : (limit n : ℕ) (s : List ℕ) (m : ℕ) (rest : List ℕ) → n ≤ limit → read_digits limit n s ≡ got m rest → DigitsRead limit n s m rest
digits_only limit n [] m rest h e =
    let same : n ≡ m = cc in
    record { digits = []; text = cc; all = refl; value = same; most = omega arith }
digits_only limit n (c ∷ s) m rest h e = by (is_ascii_digit c) refl (leb k limit) refl (digits_only limit k s m rest) e
  where
    k : ℕ
    k = 10 * n + (c - 48)

    by : (d : Bool) → is_ascii_digit c ≡ d → (l : Bool) → leb k limit ≡ l → (k ≤ limit → read_digits limit k s ≡ got m rest → DigitsRead limit k s m rest) →
        cond d (cond l (read_digits limit k s) bad) (got n (c ∷ s)) ≡ got m rest → DigitsRead limit n (c ∷ s) m rest
    by true digit true within ih e =
        let r = ih (leb-true k limit within) e in
        record { digits = c ∷ r.digits; text = ap (λ t. c ∷ t) r.text; all = and_from (is_ascii_digit c) (all_ascii_digits r.digits) digit r.all; value = r.value; most = r.most }
    by true digit false over ih e = cc
    by false other l t ih e =
        let same : n ≡ m = cc in
        record { digits = []; text = cc; all = refl; value = same; most = omega arith }

-- digits that begin with another than 0
plain_back : (limit : ℕ) (ds rest : List ℕ) → all_ascii_digits ds ≡ true → 0 < length ds → 48 < get_or ds 0 0 → value_on 0 ds ≤ limit → NoDigit rest → read_whole limit (ds ++ rest) ≡ got (value_on 0 ds) rest
plain_back limit [] rest all some first most stop = absurd (omega arith)
plain_back limit (c ∷ ds) rest all some first most stop =
    cond-false (eqb c 48) _ _ (ne_eqb c 48 (λ e. omega arith))
    ∙ cond-true (is_ascii_digit c) _ _ (and_parts (is_ascii_digit c) (all_ascii_digits ds) all).0
    ∙ digits_back limit 0 (c ∷ ds) rest all most stop

whole_back : (limit : ℕ) → limit < 2 ^ 64 → (n : ℕ) (rest : List ℕ) → n ≤ limit → NoDigit rest → read_whole limit (decimal n ++ rest) ≡ got n rest
whole_back limit few zero rest most stop = rw (decimal_digit 0 (omega arith)) refl
whole_back limit few (suc n) rest most stop =
    let fits : suc n < 2 ^ 64 = omega arith in
    let v = digits_value-decimal own (suc n) fits in
    plain_back limit (decimal (suc n)) rest (digits_decimal own (suc n) fits) (decimal_nonempty (suc n) fits) (first_decimal (suc n) (omega arith) fits) (omega (arith, v)) stop
    ∙ ap (λ m. got m rest) v

whole_only : (limit : ℕ) → limit < 2 ^ 64 → (s : List ℕ) (n : ℕ) (rest : List ℕ) → read_whole limit s ≡ got n rest → (s ≡ decimal n ++ rest) × (n ≤ limit)
whole_only limit few [] n rest e = cc
whole_only limit few (c ∷ s) n rest e = by (eqb c 48) refl (is_ascii_digit c) refl (leb (10 * 0 + (c - 48)) limit) refl e
  where
    k : ℕ
    k = 10 * 0 + (c - 48)

    by : (z : Bool) → eqb c 48 ≡ z → (d : Bool) → is_ascii_digit c ≡ d → (l : Bool) → leb k limit ≡ l →
        cond z (got 0 s) (cond d (cond d (cond l (read_digits limit k s) bad) (got 0 (c ∷ s))) bad) ≡ got n rest → ((c ∷ s) ≡ decimal n ++ rest) × (n ≤ limit)
    by true zero_digit d g l t e =
        let c_is = eqb-true c 48 zero_digit in
        let shown = decimal_digit 0 (omega arith) in
        ended decimal (λ n. n ≤ limit) e (rw shown cc, omega arith)
    by false other false g l t e = cc
    by false other true g false t e = cc
    by false other true g true t e =
        let r = digits_only limit k s n rest (leb-true k limit t) e in
        let ds : List ℕ = c ∷ r.digits in
        let back : decimal (value_on 0 ds) ≡ ds =
        decimal-digits_value own ds (and_from (is_ascii_digit c) (all_ascii_digits r.digits) g r.all) (omega arith) (λ z. absurd (eqb-false c 48 other z)) (omega (arith, r.value, r.most)) in
        let shown : decimal n ≡ ds = ap decimal (sym r.value) ∙ back in
        (rw shown (ap (λ t. c ∷ t) r.text), r.most)

-- a number begins no literal that begins with another octet than a digit
pub no_number : (k : ℕ) (key : List ℕ) (n : ℕ) (rest : List ℕ) → is_ascii_digit k ≡ false → n < 2 ^ 64 → read_literal (k ∷ key) (decimal n ++ rest) ≡ bad
no_number k key n rest other fits = by (decimal n) (digits_decimal own n fits) (decimal_nonempty n fits)
  where
    by : (ds : List ℕ) → all_ascii_digits ds ≡ true → 0 < length ds → read_literal (k ∷ key) (ds ++ rest) ≡ bad
    by [] all some = absurd (omega arith)
    by (c ∷ ds) all some =
        let digit = (and_parts (is_ascii_digit c) (all_ascii_digits ds) all).0 in
        cond-false (eqb c k) _ bad (ne_eqb c k (λ e. cc))

pub whole : (limit : ℕ) → limit < 2 ^ 64 → Reads (read_whole limit) decimal (λ n. n ≤ limit) NoDigit
whole limit few = record { back = whole_back limit few; only = whole_only limit few }
