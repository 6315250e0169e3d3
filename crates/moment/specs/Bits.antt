-- The bits of an octet. Assumes nothing.
use Rattle.std.specs.Prelude.{ℕ, ◌/◌, ◌%◌, ◌^◌, Bool, true, false, ◌==◌}

-- bit k of an octet
abbrev pub bit : ℕ → ℕ → Bool
bit k octet = octet / 2 ^ k % 2 == 1

-- the bits of an octet from bit k up are zero
abbrev pub zero_from : ℕ → ℕ → Bool
zero_from k octet = octet / 2 ^ k == 0

-- the digit of a bit
abbrev pub digit : Bool → ℕ
digit false = 0
digit true = 1
