-- A line is read just where it is shown, and how long a line is. Assumes nothing.
use Rattle.std.proofs.Common.{◌≡◌, ℕ, suc, ◌+◌, ◌-◌, ◌*◌, ◌<◌, ◌≤◌, List, [], ◌∷◌, ◌++◌, length, ℤ, pos, negsuc, Some, None, codes, decimal, Option, sym, refl, ap, ◌∙◌, inl, inr, append_assoc, arith, length-append}
use Rattle.std.specs.List.{AllByRecursion}
use Rattle.std.specs.Fmt.{signed_decimal}
use Rattle.std.proofs.lemmas.Int.{ints}
use Rattle.std.proofs.lemmas.Bool.{cases_lt}
use Rattle.std.proofs.lemmas.Fmt.{length-decimal-le}
use Rattle.datapoint.specs.Meaning.{InRange}
use Rattle.book.specs.declared.number.TypeNumber.{TypeNumber}
use Rattle.listing.specs.Row.{Row, Writable, Few, Sayable}
use Rattle.listing.specs.Show.{show_fields, show_reading, show_sub, show_number, show_row}
use Rattle.listing.specs.Read.{got, read_number, read_reading, read_placed, read_readings, read_row}
use Rattle.listing.specs.Promise.{ReadsJustWhatItShows}
use Rattle.listing.proofs.Law.{Reads, NoDigit, ended, step, taken, literal}
use Rattle.listing.proofs.Whole.{whole}
use Rattle.listing.proofs.Sub.{sub, small, large}
use Rattle.listing.proofs.Readings.{reading}

abbrev Numbered : TypeNumber → Type 0
Numbered n = (n.main ≤ 65535) × (n.sub ≤ 65535)

number_text : (a k b rest : List ℕ) → (a ++ (k ++ b)) ++ rest ≡ a ++ (k ++ (b ++ rest))
number_text a k b rest = simp append_assoc

number_back : (n : TypeNumber) (rest : List ℕ) → Numbered n → NoDigit rest → read_number (show_number n ++ rest) ≡ got n rest
number_back n rest good stop =
    ap read_number (number_text (decimal n.main) (codes ".") (show_sub n.sub) rest)
    ∙ step (whole 65535 (omega arith)) _ n.main (codes "." ++ (show_sub n.sub ++ rest)) good.0 refl
    ∙ step sub _ n.sub rest good.1 stop

number_only : (s : List ℕ) (n : TypeNumber) (rest : List ℕ) → read_number s ≡ got n rest → (s ≡ show_number n ++ rest) × Numbered n
number_only s n rest e =
    taken (whole 65535 (omega arith)) _ s n rest e λ main t₁ text₁ main_most e.
    taken (literal (codes ".")) _ t₁ n rest e λ u t₂ text₂ good e.
    taken sub _ t₂ n rest e λ part t₃ text₃ sub_most e.
    ended show_number Numbered e (
      text₁ ∙ ap (λ t. decimal main ++ t) (text₂ ∙ ap (λ t. codes "." ++ t) text₃) ∙ sym (number_text (decimal main) (codes ".") (show_sub part) t₃),
      (main_most, sub_most),
    )

number : Reads read_number show_number Numbered NoDigit
number = record { back = number_back; only = number_only }

-- the two halves of a line
abbrev Placed : ℕ × TypeNumber → Type 0
Placed p = (p.0 ≤ 65535) × Numbered p.1

abbrev show_placed : ℕ × TypeNumber → List ℕ
show_placed p = codes "point=" ++ (decimal p.0 ++ (codes " type=" ++ show_number p.1))

placed_text : (k₁ a k₂ b rest : List ℕ) → (k₁ ++ (a ++ (k₂ ++ b))) ++ rest ≡ k₁ ++ (a ++ (k₂ ++ (b ++ rest)))
placed_text k₁ a k₂ b rest = simp append_assoc

placed_back : (p : ℕ × TypeNumber) (rest : List ℕ) → Placed p → NoDigit rest → read_placed (show_placed p ++ rest) ≡ got p rest
placed_back p rest good stop =
    ap read_placed (placed_text (codes "point=") (decimal p.0) (codes " type=") (show_number p.1) rest)
    ∙ step (whole 65535 (omega arith)) _ p.0 (codes " type=" ++ (show_number p.1 ++ rest)) good.0 refl
    ∙ step number _ p.1 rest good.1 stop

placed_only : (s : List ℕ) (p : ℕ × TypeNumber) (rest : List ℕ) → read_placed s ≡ got p rest → (s ≡ show_placed p ++ rest) × Placed p
placed_only s p rest e =
    taken (literal (codes "point=")) _ s p rest e λ u₁ t₁ e₁ g₁ e.
    taken (whole 65535 (omega arith)) _ t₁ p rest e λ point t₂ e₂ point_most e.
    taken (literal (codes " type=")) _ t₂ p rest e λ u₃ t₃ e₃ g₃ e.
    taken number _ t₃ p rest e λ n t₄ e₄ n_good e.
    ended show_placed Placed e (
      e₁ ∙ ap (λ t. codes "point=" ++ t) (e₂ ∙ ap (λ t. decimal point ++ t) (e₃ ∙ ap (λ t. codes " type=" ++ t) e₄))
          ∙ sym (placed_text (codes "point=") (decimal point) (codes " type=") (show_number n) t₄),
      (point_most, n_good),
    )

placed : Reads read_placed show_placed Placed NoDigit
placed = record { back = placed_back; only = placed_only }

abbrev Two : Option (List ℤ) × Option (List ℤ) → Type 0
Two v = Writable v.0 × Writable v.1

abbrev show_readings : Option (List ℤ) × Option (List ℤ) → List ℕ
show_readings v = codes " normal=" ++ (show_reading v.0 ++ (codes " forced=" ++ (show_reading v.1 ++ codes "\n")))

readings_text : (k₁ a k₂ b k₃ rest : List ℕ) → (k₁ ++ (a ++ (k₂ ++ (b ++ k₃)))) ++ rest ≡ k₁ ++ (a ++ (k₂ ++ (b ++ (k₃ ++ rest))))
readings_text k₁ a k₂ b k₃ rest = simp append_assoc

readings_back : (v : Option (List ℤ) × Option (List ℤ)) (rest : List ℕ) → Two v → Unit {0} → read_readings read_reading (show_readings v ++ rest) ≡ got v rest
readings_back v rest good stop =
    ap (read_readings read_reading) (readings_text (codes " normal=") (show_reading v.0) (codes " forced=") (show_reading v.1) (codes "\n") rest)
    ∙ step reading _ v.0 (codes " forced=" ++ (show_reading v.1 ++ (codes "\n" ++ rest))) good.0 (refl, refl)
    ∙ step reading _ v.1 (codes "\n" ++ rest) good.1 (refl, refl)

readings_only : (s : List ℕ) (v : Option (List ℤ) × Option (List ℤ)) (rest : List ℕ) → read_readings read_reading s ≡ got v rest → (s ≡ show_readings v ++ rest) × Two v
readings_only s v rest e =
    taken (literal (codes " normal=")) _ s v rest e λ u₁ t₁ e₁ g₁ e.
    taken reading _ t₁ v rest e λ normal t₂ e₂ normal_good e.
    taken (literal (codes " forced=")) _ t₂ v rest e λ u₃ t₃ e₃ g₃ e.
    taken reading _ t₃ v rest e λ forced t₄ e₄ forced_good e.
    taken (literal (codes "\n")) _ t₄ v rest e λ u₅ t₅ e₅ g₅ e.
    ended show_readings Two e (
      e₁ ∙ ap (λ t. codes " normal=" ++ t) (e₂ ∙ ap (λ t. show_reading normal ++ t) (e₃ ∙ ap (λ t. codes " forced=" ++ t) (e₄ ∙ ap (λ t. show_reading forced ++ t) e₅)))
          ∙ sym (readings_text (codes " normal=") (show_reading normal) (codes " forced=") (show_reading forced) (codes "\n") t₅),
      (normal_good, forced_good),
    )

readings : Reads (read_readings read_reading) show_readings Two (λ _. Unit {0})
readings = record { back = readings_back; only = readings_only }

row_text : (k₁ a k₂ b v rest : List ℕ) → (k₁ ++ (a ++ (k₂ ++ (b ++ v)))) ++ rest ≡ (k₁ ++ (a ++ (k₂ ++ b))) ++ (v ++ rest)
row_text k₁ a k₂ b v rest = simp append_assoc

pub row_back : (r : Row) (rest : List ℕ) → Sayable r → read_row (show_row r ++ rest) ≡ got r rest
unfolding read_row
row_back r rest good =
    let values = show_readings (r.normal, r.forced) in
    ap read_row (row_text (codes "point=") (decimal r.point) (codes " type=") (show_number r.number) values rest)
    ∙ step placed _ (r.point, r.number) (values ++ rest) (good.point_most, (good.main_most, good.sub_most)) refl
    ∙ step readings _ (r.normal, r.forced) rest (good.normal_good, good.forced_good) tt

pub row_only : (s : List ℕ) (r : Row) (rest : List ℕ) → read_row s ≡ got r rest → (s ≡ show_row r ++ rest) × Sayable r
unfolding read_row
row_only s r rest e =
    taken placed _ s r rest e λ p t e₁ p_good e.
    taken readings _ t r rest e λ v u e₂ v_good e.
    ended show_row Sayable e (
      e₁ ∙ ap (λ t. show_placed p ++ t) e₂ ∙ sym (row_text (codes "point=") (decimal p.0) (codes " type=") (show_number p.1) (show_readings v) u),
      record { point_most = p_good.0; main_most = p_good.1.0; sub_most = p_good.1.1; normal_good = v_good.0; forced_good = v_good.1 },
    )

field_length : (x : ℤ) → InRange x → length (signed_decimal x) ≤ 11
field_length (pos n) good = omega (arith, length-decimal-le 10 n (omega arith) (omega (arith, ints)) (omega (arith, ints)))
field_length (negsuc n) good = omega (arith, length-decimal-le 10 (suc n) (omega arith) (omega (arith, ints)) (omega (arith, ints)))

fields_length : (xs : List ℤ) → AllByRecursion InRange xs → length (show_fields xs) ≤ 12 * length xs - 1
fields_length [] good = omega arith
fields_length (x ∷ []) good = omega (arith, field_length x good.0)
fields_length (x ∷ (y ∷ xs)) good = simp length-append (omega (arith, field_length x good.0, fields_length (y ∷ xs) good.1))

reading_length : (o : Option (List ℤ)) → Writable o → Few o → length (show_reading o) ≤ 191
reading_length None good few = omega arith
reading_length (Some xs) good few = omega (arith, fields_length xs good.1)

sub_length : (n : ℕ) → n ≤ 65535 → length (show_sub n) ≤ 5
sub_length n h =
    elim (cases_lt n 100) [
      | inl l ↦ omega (arith, ap length (small n l))
      | inr l ↦ omega (arith, ap length (large n l), length-decimal-le 5 n (omega arith) (omega arith) (omega arith))
    ]

number_sum : (a k b : List ℕ) → length (a ++ (k ++ b)) ≡ length a + (length k + length b)
number_sum a k b = simp length-append

row_sum : (k₁ a k₂ b k₃ c k₄ d k₅ : List ℕ) → length (k₁ ++ (a ++ (k₂ ++ (b ++ (k₃ ++ (c ++ (k₄ ++ (d ++ k₅)))))))) ≡ length k₁ + (length a + (length k₂ + (length b + (length k₃ + (length c + (length k₄ + (length d + length k₅)))))))
row_sum k₁ a k₂ b k₃ c k₄ d k₅ = simp length-append

pub row_length : (r : Row) → Sayable r → Few r.normal → Few r.forced → length (show_row r) ≤ 427
row_length r good normal_few forced_few =
    let point_long = length-decimal-le 5 r.point (omega arith) (omega (arith, good.point_most)) (omega (arith, good.point_most)) in
    let main_long = length-decimal-le 5 r.number.main (omega arith) (omega (arith, good.main_most)) (omega (arith, good.main_most)) in
    let sub_long = sub_length r.number.sub good.sub_most in
    let normal_long = reading_length r.normal good.normal_good normal_few in
    let forced_long = reading_length r.forced good.forced_good forced_few in
    let number_long = number_sum (decimal r.number.main) (codes ".") (show_sub r.number.sub) in
    let all = row_sum (codes "point=") (decimal r.point) (codes " type=") (show_number r.number) (codes " normal=") (show_reading r.normal) (codes " forced=") (show_reading r.forced) (codes "\n") in
    omega arith

-- a line is not empty
pub row_shorter : (s : List ℕ) (r : Row) (rest : List ℕ) → read_row s ≡ got r rest → length rest < length s
row_shorter s r rest e = omega (arith, simp length-append at (ap length (row_only s r rest e).0))

pub reads_just_what_it_shows : ReadsJustWhatItShows
reads_just_what_it_shows text r rest =
    (λ e. ((row_only text r rest e).1, (row_only text r rest e).0), λ h. ap read_row h.1 ∙ row_back r rest h.0)
