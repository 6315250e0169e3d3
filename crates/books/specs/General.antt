-- The general book (KNX Standard, Datapoint Types, 02.02.01). Assumes nothing.
use Rattle.std.specs.Prelude.{List, [], ◌∷◌, pos, negsuc}
use Rattle.datapoint.specs.Meaning.{Meaning}
use Rattle.book.specs.Types.{Types}
use Rattle.octet.specs.Range.{up_to}
use Rattle.octet.specs.Control.{controlled}
use Rattle.octet.specs.Step.{stepped}
use Rattle.octet.specs.Scene.{flagged}
use Rattle.octet.specs.declared.scene.Flag.TheVariants.{Bit6, Bit7}
use Rattle.whole.specs.Whole.{whole}
use Rattle.whole.specs.declared.whole.Width.TheVariants.{One, Two, Four}
use Rattle.whole.specs.declared.whole.Sign.TheVariants.{Unsigned, TwosComplement}
use Rattle.float.specs.Float.{float}
use Rattle.text.specs.Text.{text}
use Rattle.clock.specs.Time.{time_of_day}
use Rattle.clock.specs.Date.{date_only}
use Rattle.moment.specs.DateTime.{date_time}
use Rattle.joined.specs.Joined.{joined}
use Rattle.books.specs.Rows.{Row, row, in_rows}

-- red, green and blue, each a count of one octet
abbrev pub colour : Meaning
colour = joined (whole One Unsigned) (joined (whole One Unsigned) (whole One Unsigned))

-- main number, first and last sub number, type; negsuc n is -(n + 1)
abbrev pub general_rows : List Row
general_rows =
    row 1 1 19 (up_to 1) ∷
    row 2 1 12 controlled ∷
    row 3 7 8 stepped ∷
    row 4 1 1 (up_to 127) ∷
    row 4 2 2 (up_to 255) ∷
    row 5 1 1 (whole One Unsigned) ∷
    row 5 3 4 (whole One Unsigned) ∷
    row 5 10 10 (whole One Unsigned) ∷
    row 6 1 1 (whole One TwosComplement) ∷
    row 6 10 10 (whole One TwosComplement) ∷
    row 7 1 1 (whole Two Unsigned) ∷
    row 8 1 1 (whole Two TwosComplement) ∷
    row 9 1 1 (float (negsuc 27299)) ∷
    row 9 2 2 (float (negsuc 67108863)) ∷
    row 9 4 7 (float (pos 0)) ∷
    row 10 1 1 time_of_day ∷
    row 11 1 1 date_only ∷
    row 12 1 1 (whole Four Unsigned) ∷
    row 13 1 1 (whole Four TwosComplement) ∷
    row 16 0 0 (text 127) ∷
    row 16 1 1 (text 255) ∷
    row 17 1 1 (up_to 63) ∷
    row 18 1 1 (flagged Bit7) ∷
    row 19 1 1 date_time ∷
    row 23 1 1 (up_to 3) ∷
    row 23 2 2 (up_to 2) ∷
    row 23 3 3 (up_to 3) ∷
    row 26 1 1 (flagged Bit6) ∷
    row 232 600 600 colour ∷ []

abbrev pub general : Types
general = in_rows general_rows
