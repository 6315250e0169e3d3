-- Up to four octets at the end of a word of four. Assumes nothing.
use Rattle.std.proofs.Common.{◌≡◌, ℕ, ◌-◌, ◌≤◌, List, [], ◌∷◌, length, arith}
use Rattle.std.specs.Int.{from_be_bytes, w32}
use borrow.Rule.Slice.PartMut.{put_mid}
use Rattle.whole.specs.Whole.{number_in}

-- 0 before the octets changes no number
pub number_in_word : (p : List ℕ) → length p ≤ 4 → number_in p ≡ from_be_bytes w32 (put_mid (4 - length p) (4 - (4 - length p)) (0 ∷ (0 ∷ (0 ∷ (0 ∷ [])))) p)
number_in_word [] few = omega arith
number_in_word (a ∷ []) few = omega arith
number_in_word (a ∷ (b ∷ [])) few = omega arith
number_in_word (a ∷ (b ∷ (c ∷ []))) few = omega arith
number_in_word (a ∷ (b ∷ (c ∷ (d ∷ [])))) few = omega arith
number_in_word (a ∷ (b ∷ (c ∷ (d ∷ (e ∷ rest))))) few = absurd (omega arith)
