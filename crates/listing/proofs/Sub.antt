-- A sub number is read just where it is shown. Assumes nothing.
use Rattle.std.proofs.Common.{◌≡◌, ℕ, ◌+◌, ◌-◌, ◌*◌, ◌/◌, ◌%◌, ◌^◌, ◌<◌, ◌≤◌, Bool, true, false, cond, eqb, ltb, leb, List, [], ◌∷◌, ◌++◌, length, get_or, codes, decimal, refl, ap, ◌∙◌, inl, inr, arith}
use Rattle.std.specs.Char.{is_ascii_digit}
use Rattle.std.proofs.lemmas.Bool.{leb-true, le-leb, ne_eqb, lt-ltb, le-ltb, cond-true, cond-false, cases_lt, and_parts, and_from}
use Rattle.std.proofs.lemmas.Fmt.{decimal_digit, decimal_step, decimal_nonempty, first_decimal}
use Rattle.listing.specs.Show.{show_sub}
use Rattle.listing.specs.Read.{Got, got, bad, ◌⨟◌, if_came, read_literal, read_whole, read_digit, read_sub}
use Rattle.listing.proofs.Law.{Reads, NoDigit, ended, step, taken, literal}
use Rattle.listing.proofs.Whole.{whole}

-- a small sub number shows as a 0 and two digits
pub small : (n : ℕ) → n < 100 → show_sub n ≡ 48 ∷ ((48 + n / 10) ∷ ((48 + n % 10) ∷ []))
small n h = elim (cases_lt n 10) [ inl l ↦ one l | inr l ↦ two l ]
  where
    one : n < 10 → show_sub n ≡ 48 ∷ ((48 + n / 10) ∷ ((48 + n % 10) ∷ []))
    one l =
        let q : 48 + n / 10 ≡ 48 = omega arith in
        let r : 48 + n % 10 ≡ 48 + n = omega arith in
        rw (cond-true (ltb n 10) (codes "00") _ (lt-ltb n 10 l), decimal_digit n l) cc

    two : 10 ≤ n → show_sub n ≡ 48 ∷ ((48 + n / 10) ∷ ((48 + n % 10) ∷ []))
    two l =
        let d = decimal_digit (n / 10) (omega arith) in
        rw (cond-false (ltb n 10) (codes "00") _ (le-ltb n 10 l), cond-true (ltb n 100) (codes "0") [] (lt-ltb n 100 h), decimal_step n l (omega arith), d) refl

pub large : (n : ℕ) → 100 ≤ n → show_sub n ≡ decimal n
large n h = rw (cond-false (ltb n 10) (codes "00") _ (le-ltb n 10 (omega arith)), cond-false (ltb n 100) (codes "0") [] (le-ltb n 100 h)) refl

digit_back : (d : ℕ) (rest : List ℕ) → d < 10 → Unit {0} → read_digit ((48 + d) ∷ rest) ≡ got d rest
digit_back d rest h u =
    let is_digit = and_from (leb 48 (48 + d)) (leb (48 + d) 57) (le-leb 48 (48 + d) (omega arith)) (le-leb (48 + d) 57 (omega arith)) in
    let value : (48 + d) - 48 ≡ d = omega arith in
    cond-true (is_ascii_digit (48 + d)) _ bad is_digit ∙ ap (λ n. got n rest) value

digit_only : (s : List ℕ) (d : ℕ) (rest : List ℕ) → read_digit s ≡ got d rest → (s ≡ (48 + d) ∷ rest) × (d < 10)
digit_only [] d rest e = cc
digit_only (c ∷ s) d rest e = by (is_ascii_digit c) refl e
  where
    by : (t : Bool) → is_ascii_digit c ≡ t → cond t (got (c - 48) s) bad ≡ got d rest → ((c ∷ s) ≡ (48 + d) ∷ rest) × (d < 10)
    by true t e =
        let parts = and_parts (leb 48 c) (leb c 57) t in
        let low = leb-true 48 c parts.0 in
        let high = leb-true c 57 parts.1 in
        let d_is : c - 48 ≡ d = cc in
        let c_is : c ≡ 48 + d = omega arith in
        (cc, omega arith)
    by false t e = cc

digit : Reads read_digit (λ d. (48 + d) ∷ []) (λ d. d < 10) (λ _. Unit {0})
digit = record { back = digit_back; only = digit_only }

abbrev tens_ones : ℕ → List ℕ → Got ℕ
tens_ones tens rest = read_digit rest ⨟ λ ones rest. got (10 * tens + ones) rest

-- a number of three digits begins with no 0
no_zero : (ds rest : List ℕ) → 0 < length ds → 48 < get_or ds 0 0 → read_literal (codes "0") (ds ++ rest) ≡ bad
no_zero [] rest some first = absurd (omega arith)
no_zero (c ∷ ds) rest some first = cond-false (eqb c 48) _ _ (ne_eqb c 48 (λ e. omega arith))

abbrev keep : ℕ → List ℕ → Got ℕ
keep n rest = cond (leb 100 n) (got n rest) bad

sub_back : (n : ℕ) (rest : List ℕ) → n ≤ 65535 → NoDigit rest → read_sub (show_sub n ++ rest) ≡ got n rest
sub_back n rest most stop = elim (cases_lt n 100) [ inl l ↦ pair l | inr l ↦ more l ]
  where
    pair : n < 100 → read_sub (show_sub n ++ rest) ≡ got n rest
    pair l =
        let value : 10 * (n / 10) + n % 10 ≡ n = omega arith in
        ap (λ s. read_sub (s ++ rest)) (small n l)
        ∙ step digit tens_ones (n / 10) ((48 + n % 10) ∷ rest) (omega arith) tt
        ∙ step digit (λ ones rest. got (10 * (n / 10) + ones) rest) (n % 10) rest (omega arith) tt
        ∙ ap (λ m. got m rest) value

    more : 100 ≤ n → read_sub (show_sub n ++ rest) ≡ got n rest
    more l =
        let fits : n < 2 ^ 64 = omega arith in
        rw (large n l, no_zero (decimal n) rest (decimal_nonempty n fits) (first_decimal n (omega arith) fits))
        (step (whole 65535 (omega arith)) keep n rest most stop ∙ cond-true (leb 100 n) _ _ (le-leb 100 n l))

pair_only : (s : List ℕ) (n : ℕ) (rest : List ℕ) → (read_digit s ⨟ tens_ones) ≡ got n rest → (n < 100) × (s ≡ (48 + n / 10) ∷ ((48 + n % 10) ∷ rest))
pair_only s n rest e =
    taken digit _ s n rest e λ tens t text₁ tens_small e.
    taken digit _ t n rest e λ ones u text₂ ones_small e.
    let value : 10 * tens + ones ≡ n = cc in
    let end : u ≡ rest = cc in
    let tens_is : tens ≡ n / 10 = omega arith in
    let ones_is : ones ≡ n % 10 = omega arith in
    (omega arith, cc)

sub_only : (s : List ℕ) (n : ℕ) (rest : List ℕ) → read_sub s ≡ got n rest → (s ≡ show_sub n ++ rest) × (n ≤ 65535)
sub_only s n rest e = by (read_literal (codes "0") s) refl e
  where
    kept : (m : ℕ) (t : List ℕ) → s ≡ decimal m ++ t → m ≤ 65535 → (l : Bool) → leb 100 m ≡ l → cond l (got m t) bad ≡ got n rest → (s ≡ show_sub n ++ rest) × (n ≤ 65535)
    kept m t text most true l e =
        let shown = large m (omega (arith, leb-true 100 m l)) in
        ended show_sub (λ n. n ≤ 65535) e (rw shown text, most)
    kept m t text most false l e = cc

    by : (c : Got (Unit {0})) → read_literal (codes "0") s ≡ c → if_came c (λ rest. read_digit rest ⨟ tens_ones) (read_whole 65535 s ⨟ keep) ≡ got n rest → (s ≡ show_sub n ++ rest) × (n ≤ 65535)
    by (got u t) c e =
        let p = pair_only t n rest e in
        let before = ((literal (codes "0")).only s u t c).0 in
        let tail = p.1 in
        (rw (small n p.0) cc, omega (arith, p.0))
    by bad c e = taken (whole 65535 (omega arith)) keep s n rest e λ m t text most e. kept m t text most (leb 100 m) refl e

pub sub : Reads read_sub show_sub (λ n. n ≤ 65535) NoDigit
sub = record { back = sub_back; only = sub_only }
