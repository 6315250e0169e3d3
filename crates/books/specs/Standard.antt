-- What a standard type means. Assumes nothing.
use Rattle.datapoint.specs.Meaning.{Meaning}
use Rattle.octet.specs.Range.{up_to}
use Rattle.octet.specs.Control.{controlled}
use Rattle.octet.specs.Step.{stepped}
use Rattle.octet.specs.Scene.{flagged}
use Rattle.whole.specs.Whole.{whole}
use Rattle.float.specs.Float.{float}
use Rattle.text.specs.Text.{text}
use Rattle.clock.specs.Time.{time_of_day}
use Rattle.clock.specs.Date.{date_only}
use Rattle.moment.specs.DateTime.{date_time}
use Rattle.joined.specs.Joined.{joined}
use Rattle.books.specs.declared.standard.StandardType.{StandardType}
use Rattle.books.specs.declared.standard.StandardType.TheVariants.{UpTo, Controlled, Stepped, FlaggedScene, Whole, Float, TimeOfDay, DateOnly, DateAndTime, Text, Colour, WithStatus}

abbrev pub meaning_of : StandardType → Meaning
meaning_of (UpTo t) = up_to t.highest
meaning_of (Controlled t) = controlled
meaning_of (Stepped t) = stepped
meaning_of (FlaggedScene t) = flagged t.flag
meaning_of (Whole t) = whole t.width t.sign
meaning_of (Float t) = float t.lowest
meaning_of (TimeOfDay t) = time_of_day
meaning_of (DateOnly t) = date_only
meaning_of (DateAndTime t) = date_time
meaning_of (Text t) = text t.highest
meaning_of (Colour t) = joined (whole t.first.width t.first.sign) (joined (whole t.second.first.width t.second.first.sign) (whole t.second.second.width t.second.second.sign))
meaning_of (WithStatus t) = joined (up_to t.first.highest) (up_to t.second.highest)
