-- The flags of a date and time. Assumes nothing.
use Rattle.std.specs.Prelude.{ℕ, ◌+◌, ◌*◌, ◌%◌, Bool, false, cond, not, ◌&&◌, List, [], ◌∷◌, ℤ, pos, Some, None, Option, unwrap_or, is_none, ◌==◌, nat_le}
use Rattle.datapoint.specs.Shapes.{when, natural}
use Rattle.moment.specs.declared.flags.Flags.{Flags}
use Rattle.moment.specs.declared.flags.Voids.{Voids}
use Rattle.moment.specs.Bits.{bit, digit}
use Rattle.clock.specs.Fields.{next, end, ◌>>=◌}

-- the bit of a field, which is 0 or 1
abbrev pub flag_of : ℤ → Option Bool
flag_of = natural (λ n. when (nat_le n 1) (n == 1))

-- what WD tells, unless NWD voids it
abbrev pub workday_told : Bool → Bool → Option Bool
workday_told wd nwd = cond nwd None (Some wd)

-- a void WD is 0
abbrev pub workday_of : List ℤ → Option (Option Bool)
workday_of = next λ wd. next λ nwd. end do
  w ← flag_of wd
  n ← flag_of nwd
  when (not (w && n)) (workday_told w n)

abbrev pub voids_in : ℕ → Voids
voids_in octet = record { year = bit 4 octet; date = bit 3 octet; weekday = bit 2 octet; time = bit 1 octet }

abbrev pub voids_of : List ℤ → Option Voids
voids_of = next λ ny. next λ nd. next λ ndow. next λ nt. end do
  year ← flag_of ny
  date ← flag_of nd
  weekday ← flag_of ndow
  time ← flag_of nt
  Some (record { year = year; date = date; weekday = weekday; time = time })

-- F, WD, NWD, NY, ND, NDoW, NT and SUTI from bit 7 down, and CLQ in bit 7 of the next octet, whose other bits are zero
abbrev pub flags_in : ℕ → ℕ → Option Flags
flags_in octet quality =
    when (quality % 128 == 0)
    (record {
      voids = voids_in octet;
      status = record { fault = bit 7 octet; workday = workday_told (bit 6 octet) (bit 5 octet); summer = bit 0 octet; synchronized = bit 7 quality };
    })

abbrev pub flags_octet : Flags → ℕ
flags_octet flags =
    128 * digit flags.status.fault + 64 * digit (unwrap_or flags.status.workday false) + 32 * digit (is_none flags.status.workday)
    + 16 * digit flags.voids.year + 8 * digit flags.voids.date + 4 * digit flags.voids.weekday + 2 * digit flags.voids.time
    + digit flags.status.summer

abbrev pub flags_octets : Flags → List ℕ
flags_octets flags = flags_octet flags ∷ (128 * digit flags.status.synchronized ∷ [])

-- the nine flags of a reading, in the same order
abbrev pub flags_of : List ℤ → Option Flags
flags_of = next λ f. next λ wd. next λ nwd. next λ ny. next λ nd. next λ ndow. next λ nt. next λ suti. next λ clq. end do
  fault ← flag_of f
  workday ← workday_of (wd ∷ (nwd ∷ []))
  voids ← voids_of (ny ∷ (nd ∷ (ndow ∷ (nt ∷ []))))
  summer ← flag_of suti
  synchronized ← flag_of clq
  Some (record { voids = voids; status = record { fault = fault; workday = workday; summer = summer; synchronized = synchronized } })

abbrev pub flags_fields : Flags → List ℤ
flags_fields flags =
    pos (digit flags.status.fault) ∷ (pos (digit (unwrap_or flags.status.workday false)) ∷ (pos (digit (is_none flags.status.workday)) ∷
    (pos (digit flags.voids.year) ∷ (pos (digit flags.voids.date) ∷ (pos (digit flags.voids.weekday) ∷ (pos (digit flags.voids.time) ∷
    (pos (digit flags.status.summer) ∷ (pos (digit flags.status.synchronized) ∷ []))))))))
