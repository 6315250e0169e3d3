-- The longest line has room. Assumes nothing.
use Rattle.std.proofs.Common.{ℕ, ◌^◌, ◌<◌, ◌≤◌, length, ℤ, decimal, w64, SFits, arith, length-append}
use Rattle.std.specs.Fmt.{signed_decimal}
use Rattle.std.proofs.lemmas.Bool.Decides.{nat_tests}
use Rattle.std.proofs.lemmas.Fmt.{length_signed_le, length-decimal-le}
use Rattle.book.specs.declared.number.TypeNumber.{TypeNumber}
use Rattle.listing.specs.Row.{Row}
use Rattle.listing.specs.Show.{padding, show_number, show_reading, show_row, show_fault}

-- a field has at most a minus and nineteen digits
pub field_room : (x : ℤ) → SFits w64 x → length (signed_decimal x) ≤ 20
field_room x fits = length_signed_le 19 x (omega (arith, fits.sfits)) (omega (arith, fits.sfits))

-- the padding of a sub number
padding_room : (n : ℕ) → length (padding n) ≤ 2
padding_room n = grind (arith, nat_tests)

-- a type number, from its two numbers
pub number_room : (n : TypeNumber) → length (decimal n.main) ≤ 5 → length (decimal n.sub) ≤ 5 → length (show_number n) ≤ 13
number_room n main sub = simp length-append (omega (arith, padding_room n.sub))

-- a line, from its parts
pub row_room : (r : Row) → length (decimal r.point) ≤ 5 → length (show_number r.number) ≤ 13 → length (show_reading r.normal) ≤ 336 → length (show_reading r.forced) ≤ 336 → length (show_row r) ≤ 768
row_room r point number normal forced =
    let parts = simp length-append at number in
    simp length-append (omega arith)

-- what is said of a faulty line
pub fault_room : (line cause : ℕ) → line < 2 ^ 64 → cause < 2 ^ 8 → length (show_fault line cause) ≤ 768
fault_room line cause line_fits cause_fits =
    simp length-append (omega (arith, length-decimal-le 20 line (omega arith) (omega arith) line_fits, length-decimal-le 3 cause (omega arith) (omega arith) (omega arith)))
