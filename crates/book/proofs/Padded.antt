-- What the hole {:03} writes of a number. Assumes nothing.
use Rattle.std.proofs.Common.{◌≡◌, ℕ, ◌-◌, ◌/◌, ◌^◌, ◌<◌, ◌≤◌, false, List, [], length, codes, decimal, refl, inl, inr, arith, length-append, ltb}
use Rattle.std.specs.Fmt.{padded_integral, format_spec, char_count}
use Rattle.std.proofs.lemmas.Bool.{lt-ltb, le-ltb, cond-true, cond-false, cases_lt}
use Rattle.std.proofs.lemmas.List.{append-nil}
use Rattle.std.proofs.lemmas.Fmt.{decimal_digit, decimal_step, decimal_nonempty}
use Rattle.book.specs.Number.{show_sub}

three_wide : List ℕ → List ℕ
three_wide = padded_integral (format_spec 32 0 4 3 (2 ^ 64 - 1)) false []

-- three digits get no zeros before them
wide_enough : (digits : List ℕ) → 3 ≤ length digits → three_wide digits ≡ digits
unfolding three_wide padded_integral char_count
wide_enough digits long = let none : 3 - length digits ≡ 0 = omega arith in rw none (append-nil digits)

padded_small : (n : ℕ) → n < 100 → three_wide (decimal n) ≡ show_sub n
unfolding three_wide padded_integral char_count
padded_small n l = elim (cases_lt n 10) [
  | inl m ↦ rw (cond-true (ltb n 10) (codes "00") _ (lt-ltb n 10 m), decimal_digit n m) refl
  | inr m ↦ rw (cond-false (ltb n 10) (codes "00") _ (le-ltb n 10 m), cond-true (ltb n 100) (codes "0") [] (lt-ltb n 100 l), decimal_step n m (omega arith), decimal_digit (n / 10) (omega arith)) refl
]

padded_large : (n : ℕ) → 100 ≤ n → n < 2 ^ 64 → three_wide (decimal n) ≡ show_sub n
padded_large n l fits =
    let tens = decimal_step n (omega arith) fits in
    let hundreds = decimal_step (n / 10) (omega arith) (omega arith) in
    let long : 3 ≤ length (decimal n) = rw (tens, hundreds) (omega (arith, length-append {A = ℕ}, decimal_nonempty (n / 10 / 10) (omega arith))) in
    rw (cond-false (ltb n 10) (codes "00") _ (le-ltb n 10 (omega arith)), cond-false (ltb n 100) (codes "0") [] (le-ltb n 100 l)) (wide_enough (decimal n) long)

-- a sub number stands as it is shown
pub padded_sub : (n : ℕ) → n < 2 ^ 64 → padded_integral (format_spec 32 0 4 3 (2 ^ 64 - 1)) false [] (decimal n) ≡ show_sub n
unfolding three_wide
padded_sub n fits = elim (cases_lt n 100) [ inl l ↦ padded_small n l | inr l ↦ padded_large n l fits ]
