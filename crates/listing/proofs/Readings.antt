-- A reading is read just where it is shown. Assumes nothing.
use Rattle.std.proofs.Common.{◌≡◌, ℕ, zero, suc, ◌<◌, ◌≤◌, false, eqb, List, [], ◌∷◌, ◌++◌, length, ℤ, pos, negsuc, Some, None, codes, Option, refl, ap, ◌∙◌, append_assoc, arith, length-append}
use Rattle.std.specs.Char.{is_ascii_digit}
use Rattle.std.specs.List.{AllByRecursion}
use Rattle.std.specs.Fmt.{signed_decimal}
use Rattle.std.proofs.lemmas.Int.{ints}
use Rattle.std.proofs.lemmas.Bool.{cond-false}
use Rattle.std.proofs.lemmas.Fmt.{decimal_nonempty}
use Rattle.datapoint.specs.Meaning.{InRange}
use Rattle.listing.specs.Row.{Writable}
use Rattle.listing.specs.Show.{show_fields, show_reading}
use Rattle.listing.specs.Read.{Got, got, bad, ◌⨟◌, if_came, read_literal, read_fields_by, read_fields, read_reading}
use Rattle.listing.proofs.Law.{Reads, NoDigit, ended, step, taken, literal}
use Rattle.listing.proofs.Whole.{no_number}
use Rattle.listing.proofs.Field.{field}

-- the text goes on with neither a digit nor a comma
abbrev pub Ends : List ℕ → Type 0
Ends [] = Unit {0}
Ends (c ∷ s) = (is_ascii_digit c ≡ false) × (eqb c 44 ≡ false)

no_digit : (s : List ℕ) → Ends s → NoDigit s
no_digit [] h = tt
no_digit (c ∷ s) h = h.0

no_comma : (s : List ℕ) → Ends s → read_literal (codes ",") s ≡ bad
no_comma [] h = refl
no_comma (c ∷ s) h = cond-false (eqb c 44) (got tt s) bad h.1

-- what follows a field, with p for the fields behind a comma
abbrev pub listed : (List ℕ → Got (List ℤ)) → ℤ → List ℕ → Got (List ℤ)
listed p x rest = if_came (read_literal (codes ",") rest) (λ more. p more ⨟ λ xs end. got (x ∷ xs) end) (got (x ∷ []) rest)

abbrev pub Fields : List ℤ → Type 0
Fields xs = (1 ≤ length xs) × AllByRecursion InRange xs

fields_back : (turns : ℕ) (xs : List ℤ) (rest : List ℕ) → length xs ≤ turns → Fields xs → Ends rest → read_fields_by turns (show_fields xs ++ rest) ≡ got xs rest
fields_back zero [] rest few good ends = absurd (omega (arith, good.0))
fields_back zero (x ∷ xs) rest few good ends = absurd (omega arith)
fields_back (suc turns) [] rest few good ends = absurd (omega (arith, good.0))
fields_back (suc turns) (x ∷ []) rest few good ends =
    step field (listed (read_fields_by turns)) x rest good.1.0 (no_digit rest ends) ∙ rw (no_comma rest ends) refl
fields_back (suc turns) (x ∷ (y ∷ xs)) rest few good ends =
    let tail : List ℕ = show_fields (y ∷ xs) ++ rest in
    ap (read_fields_by (suc turns)) (append_assoc (signed_decimal x) (codes "," ++ show_fields (y ∷ xs)) rest)
    ∙ step field (listed (read_fields_by turns)) x (44 ∷ tail) good.1.0 refl
    ∙ ap (λ g. g ⨟ λ xs end. got (x ∷ xs) end) (fields_back turns (y ∷ xs) rest (omega arith) (omega arith, good.1.1) ends)

fields_only : (turns : ℕ) (s : List ℕ) (xs : List ℤ) (rest : List ℕ) → read_fields_by turns s ≡ got xs rest → (s ≡ show_fields xs ++ rest) × Fields xs
fields_only zero s xs rest e = cc
fields_only (suc turns) s xs rest e =
    taken field (listed (read_fields_by turns)) s xs rest e λ x t text good e.
    after (fields_only turns) x t text good (read_literal (codes ",") t) refl e
  where
    longer : (x : ℤ) (ys : List ℤ) (t more end : List ℕ) → s ≡ signed_decimal x ++ t → InRange x → t ≡ codes "," ++ more → (more ≡ show_fields ys ++ end) × Fields ys → (s ≡ show_fields (x ∷ ys) ++ end) × Fields (x ∷ ys)
    longer x [] t more end text good comma h = absurd (omega (arith, h.1.0))
    longer x (y ∷ ys) t more end text good comma h = (rw append_assoc cc, (omega arith, (good, h.1.1)))

    further : (x : ℤ) (t more : List ℕ) → s ≡ signed_decimal x ++ t → InRange x → t ≡ codes "," ++ more → ((xs : List ℤ) (rest : List ℕ) → read_fields_by turns more ≡ got xs rest → (more ≡ show_fields xs ++ rest) × Fields xs) →
        (g : Got (List ℤ)) → read_fields_by turns more ≡ g → (g ⨟ λ xs end. got (x ∷ xs) end) ≡ got xs rest → (s ≡ show_fields xs ++ rest) × Fields xs
    further x t more text good comma ih (got ys end) g e =
        ended show_fields Fields e (longer x ys t more end text good comma (ih ys end g))
    further x t more text good comma ih bad g e = cc

    after : ((s : List ℕ) (xs : List ℤ) (rest : List ℕ) → read_fields_by turns s ≡ got xs rest → (s ≡ show_fields xs ++ rest) × Fields xs) →
        (x : ℤ) (t : List ℕ) → s ≡ signed_decimal x ++ t → InRange x → (c : Got (Unit {0})) → read_literal (codes ",") t ≡ c →
        if_came c (λ more. read_fields_by turns more ⨟ λ xs end. got (x ∷ xs) end) (got (x ∷ []) t) ≡ got xs rest → (s ≡ show_fields xs ++ rest) × Fields xs
    after ih x t text good (got u more) c e =
        further x t more text good ((literal (codes ",")).only t u more c).0 (ih more) (read_fields_by turns more) refl e
    after ih x t text good bad c e =
        ended show_fields Fields e (text, (omega arith, (good, tt)))

field_no_none : (x : ℤ) (rest : List ℕ) → InRange x → read_literal (codes "none") (signed_decimal x ++ rest) ≡ bad
field_no_none (pos n) rest good = no_number 110 (codes "one") n rest refl (omega (arith, ints))
field_no_none (negsuc n) rest good = refl

fields_no_none : (xs : List ℤ) (rest : List ℕ) → Fields xs → read_literal (codes "none") (show_fields xs ++ rest) ≡ bad
fields_no_none [] rest good = absurd (omega (arith, good.0))
fields_no_none (x ∷ []) rest good = field_no_none x rest good.1.0
fields_no_none (x ∷ (y ∷ xs)) rest good =
    ap (read_literal (codes "none")) (append_assoc (signed_decimal x) (codes "," ++ show_fields (y ∷ xs)) rest)
    ∙ field_no_none x (codes "," ++ show_fields (y ∷ xs) ++ rest) good.1.0

pub field_some : (x : ℤ) → InRange x → 0 < length (signed_decimal x)
field_some (pos n) good = decimal_nonempty n (omega (arith, ints))
field_some (negsuc n) good = omega arith

-- a text of fields has an octet for each of them
fields_long : (xs : List ℤ) → AllByRecursion InRange xs → length xs ≤ length (show_fields xs)
fields_long [] good = omega arith
fields_long (x ∷ []) good = omega (arith, field_some x good.0)
fields_long (x ∷ (y ∷ xs)) good =
    simp length-append (omega (arith, field_some x good.0, fields_long (y ∷ xs) good.1))

reading_back : (o : Option (List ℤ)) (rest : List ℕ) → Writable o → Ends rest → read_reading (show_reading o ++ rest) ≡ got o rest
reading_back None rest good ends = refl
reading_back (Some xs) rest good ends =
    let long = fields_long xs good.1 in
    rw (fields_no_none xs rest good, fields_back (length (show_fields xs ++ rest)) xs rest (simp length-append (omega arith)) good ends) refl

reading_only : (s : List ℕ) (o : Option (List ℤ)) (rest : List ℕ) → read_reading s ≡ got o rest → (s ≡ show_reading o ++ rest) × Writable o
reading_only s o rest e = by (read_literal (codes "none") s) refl (read_fields s) refl e
  where
    by : (c : Got (Unit {0})) → read_literal (codes "none") s ≡ c → (g : Got (List ℤ)) → read_fields s ≡ g →
        if_came c (λ rest. got None rest) (g ⨟ λ xs rest. got (Some xs) rest) ≡ got o rest → (s ≡ show_reading o ++ rest) × Writable o
    by (got u t) c g f e =
        ended show_reading Writable e (((literal (codes "none")).only s u t c).0, tt)
    by bad c (got xs t) f e =
        ended show_reading Writable e (fields_only (length s) s xs t f)
    by bad c bad f e = cc

pub reading : Reads read_reading show_reading Writable Ends
reading = record { back = reading_back; only = reading_only }
