-- Which dates there are. Assumes nothing.
use Rattle.std.specs.Prelude.{ℕ, Bool, ◌&&◌, Option, nat_le}
use Rattle.datapoint.specs.Shapes.{when}

-- a day of a month, the same in every year and where the year is not told
abbrev pub on_calendar : ℕ → ℕ → Option ℕ → Bool
on_calendar day month year = (nat_le 1 day && nat_le day 31) && (nat_le 1 month && nat_le month 12)

-- a day, a month, and a year where it is told
abbrev pub DayMonthYear : Type 0
DayMonthYear = ℕ × ℕ × Option ℕ

-- the date, where there is such a date
abbrev pub calendar_date : ℕ → ℕ → Option ℕ → Option DayMonthYear
calendar_date day month year = when (on_calendar day month year) (day, month, year)
