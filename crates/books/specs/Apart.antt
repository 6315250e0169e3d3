-- The two books beside each other. Assumes nothing.
use Rattle.std.specs.Prelude.{◌≡◌, ℕ, true, negsuc, is_some, Some, None}
use Rattle.book.specs.declared.number.TypeNumber.{TypeNumber}
use Rattle.book.specs.Types.{bound}
use Rattle.octet.specs.Range.{up_to}
use Rattle.whole.specs.Whole.{whole}
use Rattle.whole.specs.declared.whole.Width.TheVariants.{One}
use Rattle.whole.specs.declared.whole.Sign.TheVariants.{Unsigned}
use Rattle.float.specs.Float.{float}
use Rattle.joined.specs.Joined.{joined}
use Rattle.books.specs.General.{general}
use Rattle.books.specs.Heating.{heating}

-- no type number has a type in both books, so that either may be bound first; and the books are not the same
pub record Apart : Type 0 where
  pub in_one : (n : TypeNumber) → is_some (general n) ≡ true → heating n ≡ None
  pub either_first : (n : TypeNumber) → bound general heating n ≡ bound heating general n
  pub differ : general ≡ heating → ⊥

abbrev pub numbered : ℕ → ℕ → TypeNumber
numbered main sub = record { main = main; sub = sub }

-- some numbers that have a type, and some that have none
pub record Named : Type 0 where
  pub temperature : general (numbered 9 1) ≡ Some (float (negsuc 27299))
  pub colour : general (numbered 232 600) ≡ Some (joined (whole One Unsigned) (joined (whole One Unsigned) (whole One Unsigned)))
  pub mode_with_status : heating (numbered 201 100) ≡ Some (joined (up_to 4) (up_to 31))
  pub no_9_003 : bound general heating (numbered 9 3) ≡ None
  pub no_1_020 : bound general heating (numbered 1 20) ≡ None
