-- A field is read just where it is shown. Assumes nothing.
use Rattle.std.proofs.Common.{◌≡◌, ℕ, zero, suc, ◌≤◌, List, [], ◌++◌, ℤ, pos, negsuc, codes, decimal, refl, ap, ◌∙◌, arith}
use Rattle.std.specs.Fmt.{signed_decimal}
use Rattle.std.proofs.lemmas.Int.{ints}
use Rattle.datapoint.specs.Meaning.{InRange}
use Rattle.listing.specs.Read.{Got, got, bad, ◌⨟◌, if_came, read_literal, read_whole, read_field, negated}
use Rattle.listing.proofs.Law.{Reads, NoDigit, ended, step, taken, literal}
use Rattle.listing.proofs.Whole.{whole, no_number}

abbrev plain : ℕ → List ℕ → Got ℤ
plain n rest = got (pos n) rest

field_back : (z : ℤ) (rest : List ℕ) → InRange z → NoDigit rest → read_field (signed_decimal z ++ rest) ≡ got z rest
field_back (pos n) rest good stop =
    let most : n ≤ 4294967295 = omega (arith, ints) in
    rw (no_number 45 [] n rest refl (omega arith)) (step (whole 4294967295 (omega arith)) plain n rest most stop)
field_back (negsuc n) rest good stop = step (whole 2147483648 (omega arith)) negated (suc n) rest (omega (arith, ints)) stop

field_only : (s : List ℕ) (z : ℤ) (rest : List ℕ) → read_field s ≡ got z rest → (s ≡ signed_decimal z ++ rest) × InRange z
field_only s z rest e = by (read_literal (codes "-") s) refl e
  where
    minus : (m t : List ℕ) (n : ℕ) → s ≡ codes "-" ++ m → m ≡ decimal n ++ t → n ≤ 2147483648 → negated n t ≡ got z rest → (s ≡ signed_decimal z ++ rest) × InRange z
    minus m t zero before text most e = cc
    minus m t (suc n) before text most e =
        ended signed_decimal InRange e (before ∙ ap (λ t. codes "-" ++ t) text, (omega (arith, ints), omega (arith, ints)))

    by : (c : Got (Unit {0})) → read_literal (codes "-") s ≡ c → if_came c (λ rest. read_whole 2147483648 rest ⨟ negated) (read_whole 4294967295 s ⨟ plain) ≡ got z rest → (s ≡ signed_decimal z ++ rest) × InRange z
    by (got u m) c e =
        taken (whole 2147483648 (omega arith)) negated m z rest e λ n t text most e.
        minus m t n ((literal (codes "-")).only s u m c).0 text most e
    by bad c e =
        taken (whole 4294967295 (omega arith)) plain s z rest e λ n t text most e.
        ended signed_decimal InRange e (text, (omega (arith, ints), omega (arith, ints)))

pub field : Reads read_field signed_decimal InRange NoDigit
field = record { back = field_back; only = field_only }
