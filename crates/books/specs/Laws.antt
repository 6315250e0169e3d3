-- The types of both books are lawful. Assumes nothing.
use Rattle.std.specs.Prelude.{◌≡◌, Bool, true, false, List, [], ◌∷◌, pos, negsuc, Some}
use Rattle.std.proofs.Common.{lit<}
use Rattle.std.proofs.lemmas.Option.{none-some}
use Rattle.std.specs.List.{AllByRecursion}
use Rattle.datapoint.specs.Meaning.{Meaning, Lawful}
use Rattle.datapoint.specs.Shapes.{when}
use Rattle.book.specs.Types.{LawfulTypes}
use Rattle.book.specs.Lawful.{bound_lawful}
use Rattle.octet.specs.Range.{up_to}
use Rattle.octet.specs.declared.scene.Flag.TheVariants.{Bit6, Bit7}
use Rattle.octet.specs.Laws.{up_to_lawful, controlled_lawful, stepped_lawful, flagged_lawful}
use Rattle.whole.specs.Whole.{whole}
use Rattle.whole.specs.declared.whole.Width.{Width}
use Rattle.whole.specs.declared.whole.Width.TheVariants.{One, Two, Four}
use Rattle.whole.specs.declared.whole.Sign.TheVariants.{Unsigned, TwosComplement}
use Rattle.whole.specs.Octets.{whole_lawful}
use Rattle.float.specs.Laws.{lawful as float_lawful}
use Rattle.text.specs.Laws.{lawful as text_lawful}
use Rattle.clock.specs.TimeLaws.{lawful as time_lawful}
use Rattle.clock.specs.DateLaws.{lawful as date_lawful}
use Rattle.moment.specs.DateTimeLaws.{lawful as date_time_lawful}
use Rattle.joined.specs.Laws.{joined_lawful}
use Rattle.books.specs.Rows.{Row, in_row, in_rows}
use Rattle.books.specs.General.{general, general_rows}
use Rattle.books.specs.Heating.{heating, heating_rows, with_status}
use Rattle.books.specs.Standard.{meaning_of}
use Rattle.books.specs.declared.standard.StandardType.{StandardType}
use Rattle.books.specs.declared.standard.StandardType.TheVariants.{UpTo, Controlled, Stepped, FlaggedScene, Whole, Float, TimeOfDay, DateOnly, DateAndTime, Text, Colour, WithStatus}

infixr 10 ◌and◌
pub standard_lawful : (t : StandardType) → Lawful (meaning_of t)
standard_lawful (UpTo t) = up_to_lawful t.highest t.octet
standard_lawful (Controlled t) = controlled_lawful
standard_lawful (Stepped t) = stepped_lawful
standard_lawful (FlaggedScene t) = flagged_lawful t.flag
standard_lawful (Whole t) = whole_lawful t.width t.sign
standard_lawful (Float t) = float_lawful t.lowest
standard_lawful (TimeOfDay t) = time_lawful
standard_lawful (DateOnly t) = date_lawful
standard_lawful (DateAndTime t) = date_time_lawful
standard_lawful (Text t) = text_lawful t.highest t.octet
standard_lawful (Colour t) =
    joined_lawful _ _ (whole_lawful t.first.width t.first.sign)
    (joined_lawful _ _ (whole_lawful t.second.first.width t.second.first.sign) (whole_lawful t.second.second.width t.second.second.sign))
standard_lawful (WithStatus t) = joined_lawful _ _ (up_to_lawful t.first.highest t.first.octet) (up_to_lawful t.second.highest t.second.octet)

when_lawful : (test : Bool) (a m : Meaning) → Lawful a → when test a ≡ Some m → Lawful m
when_lawful true a m l h = let same : a ≡ m = cc in rw (← same) l
when_lawful false a m l h = absurd (none-some m h)

-- a table of lawful types is a lawful book
in_rows_lawful : (rs : List Row) → AllByRecursion (λ r. Lawful r.meaning) rs → LawfulTypes (in_rows rs)
in_rows_lawful [] ls n m h = absurd (none-some m h)
in_rows_lawful (r ∷ rest) ls n m h = bound_lawful {a = in_row r} {b = in_rows rest} (λ n m. when_lawful _ _ m ls.0) (in_rows_lawful rest ls.1) n m h

-- one row after another
◌and◌ : {P Q : Type 0} → P → Q → P × Q
◌and◌ p q = (p, q)

unsigned : (width : Width) → Lawful (whole width Unsigned)
unsigned width = whole_lawful width Unsigned

signed : (width : Width) → Lawful (whole width TwosComplement)
signed width = whole_lawful width TwosComplement

pub general_lawful : LawfulTypes general
general_lawful =
    in_rows_lawful general_rows (
    up_to_lawful 1 (lit< tt) and
    controlled_lawful and
    stepped_lawful and
    up_to_lawful 127 (lit< tt) and
    up_to_lawful 255 (lit< tt) and
    unsigned One and
    unsigned One and
    unsigned One and
    signed One and
    signed One and
    unsigned Two and
    signed Two and
    float_lawful (negsuc 27299) and
    float_lawful (negsuc 67108863) and
    float_lawful (pos 0) and
    time_lawful and
    date_lawful and
    unsigned Four and
    signed Four and
    text_lawful 127 (lit< tt) and
    text_lawful 255 (lit< tt) and
    up_to_lawful 63 (lit< tt) and
    flagged_lawful Bit7 and
    date_time_lawful and
    up_to_lawful 3 (lit< tt) and
    up_to_lawful 2 (lit< tt) and
    up_to_lawful 3 (lit< tt) and
    flagged_lawful Bit6 and
    joined_lawful _ _ (unsigned One) (joined_lawful _ _ (unsigned One) (unsigned One)) and tt)

with_status_lawful : {m : Meaning} → Lawful m → Lawful (with_status m)
with_status_lawful {m} l = joined_lawful m (up_to 31) l (up_to_lawful 31 (lit< tt))

pub heating_lawful : LawfulTypes heating
heating_lawful =
    in_rows_lawful heating_rows (
    up_to_lawful 3 (lit< tt) and
    up_to_lawful 4 (lit< tt) and
    up_to_lawful 2 (lit< tt) and
    with_status_lawful (up_to_lawful 1 (lit< tt)) and
    with_status_lawful (up_to_lawful 4 (lit< tt)) and
    with_status_lawful (up_to_lawful 4 (lit< tt)) and tt)
