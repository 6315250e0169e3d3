-- Reading a line from the front of a text. Assumes nothing.
use Rattle.std.specs.Prelude.{ℕ, zero, suc, ◌+◌, ◌-◌, ◌*◌, cond, List, [], ◌∷◌, length, ℤ, pos, negsuc, Some, None, codes, Option, ◌==◌, nat_le}
use Rattle.std.specs.Char.{is_ascii_digit}
use Rattle.book.specs.declared.number.TypeNumber.{TypeNumber}
use Rattle.listing.specs.Row.{Row}

infixr 20 ◌⨟◌
-- a value and the rest of the text, or a text that breaks the form
pub data Got (A : Type 0) : Type 0 where
  got : A → List ℕ → Got A
  bad : Got A

-- goes on with the value and the rest
abbrev pub ◌⨟◌ : {A B : Type 0} → Got A → (A → List ℕ → Got B) → Got B
got a text ⨟ next = next a text
bad ⨟ next = bad

-- just these octets
abbrev pub read_literal : List ℕ → List ℕ → Got (Unit {0})
read_literal [] text = got tt text
read_literal (k ∷ key) [] = bad
read_literal (k ∷ key) (c ∷ text) = cond (c == k) (read_literal key text) bad

-- where a literal came, one way with what follows it, and else another
abbrev pub if_came : {A : Type 0} → Got (Unit {0}) → (List ℕ → Got A) → Got A → Got A
if_came (got u text) yes_way no_way = yes_way text
if_came bad yes_way no_way = no_way

-- the digits that come next, behind a number n, as long as the number stays within the limit
abbrev pub read_digits : ℕ → ℕ → List ℕ → Got ℕ
read_digits limit n [] = got n []
read_digits limit n (c ∷ text) =
    let m = 10 * n + (c - 48) in
    cond (is_ascii_digit c) (cond (nat_le m limit) (read_digits limit m text) bad) (got n (c ∷ text))

-- a whole number up to the limit: 0, or digits of which the first is not 0
abbrev pub read_whole : ℕ → List ℕ → Got ℕ
read_whole limit [] = bad
read_whole limit (c ∷ text) =
    cond (c == 48) (got 0 text) (cond (is_ascii_digit c) (read_digits limit 0 (c ∷ text)) bad)

-- zero has no minus
abbrev pub negated : ℕ → List ℕ → Got ℤ
negated zero text = bad
negated (suc n) text = got (negsuc n) text

-- a field from -2,147,483,648 to 4,294,967,295
abbrev pub read_field : List ℕ → Got ℤ
read_field text =
    if_came (read_literal (codes "-") text)
    (λ rest. read_whole 2147483648 rest ⨟ negated)
    (read_whole 4294967295 text ⨟ λ n rest. got (pos n) rest)

abbrev pub read_digit : List ℕ → Got ℕ
read_digit [] = bad
read_digit (c ∷ text) = cond (is_ascii_digit c) (got (c - 48) text) bad

-- a sub number: a 0 and two digits, or a number of three digits or more
abbrev pub read_sub : List ℕ → Got ℕ
read_sub text =
    if_came (read_literal (codes "0") text)
    (λ rest. read_digit rest ⨟ λ tens rest. read_digit rest ⨟ λ ones rest. got (10 * tens + ones) rest)
    (read_whole 65535 text ⨟ λ n rest. cond (nat_le 100 n) (got n rest) bad)

-- a type number: main, a point, sub
abbrev pub read_number : List ℕ → Got TypeNumber
read_number text =
    read_whole 65535 text ⨟ λ main text.
    read_literal (codes ".") text ⨟ λ _ text.
    read_sub text ⨟ λ sub text.
    got (record { main = main; sub = sub }) text

-- one field or more, with commas
abbrev pub read_fields_by : ℕ → List ℕ → Got (List ℤ)
read_fields_by zero text = bad
read_fields_by (suc turns) text =
    read_field text ⨟ λ x rest.
    if_came (read_literal (codes ",") rest)
    (λ more. read_fields_by turns more ⨟ λ xs end. got (x ∷ xs) end)
    (got (x ∷ []) rest)

-- a text has no more fields than octets
abbrev pub read_fields : List ℕ → Got (List ℤ)
read_fields text = read_fields_by (length text) text

-- `none`, or fields
abbrev pub read_reading : List ℕ → Got (Option (List ℤ))
read_reading text =
    if_came (read_literal (codes "none") text)
    (λ rest. got None rest)
    (read_fields text ⨟ λ xs rest. got (Some xs) rest)

-- the keys and values of a point and its type number
abbrev pub read_placed : List ℕ → Got (ℕ × TypeNumber)
read_placed text =
    read_literal (codes "point=") text ⨟ λ _ text.
    read_whole 65535 text ⨟ λ point text.
    read_literal (codes " type=") text ⨟ λ _ text.
    read_number text ⨟ λ number text.
    got (point, number) text

-- those of its normal and its forced reading, each read by `reading`, and the octet 0A
abbrev pub read_readings : {V : Type 0} → (List ℕ → Got V) → List ℕ → Got (V × V)
read_readings reading text =
    read_literal (codes " normal=") text ⨟ λ _ text.
    reading text ⨟ λ normal text.
    read_literal (codes " forced=") text ⨟ λ _ text.
    reading text ⨟ λ forced text.
    read_literal (codes "\n") text ⨟ λ _ text.
    got (normal, forced) text

-- a line
unfoldable pub read_row : List ℕ → Got Row
read_row text =
    read_placed text ⨟ λ placed text.
    read_readings read_reading text ⨟ λ readings text.
    got (record { point = placed.0; number = placed.1; normal = readings.0; forced = readings.1 }) text
