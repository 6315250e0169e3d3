-- What holds of octets of which none is above the highest. Assumes nothing.
use Rattle.std.specs.Prelude.{◌≡◌, ℕ, ◌≤◌, true, List, [], ◌∷◌, All, length, replicate, nat_le, refl}
use Rattle.std.proofs.Common.{ap₂, arith}
use Rattle.std.proofs.lemmas.Bool.{leb-true, le-leb, and_parts}
use Rattle.std.proofs.lemmas.List.Elements.{All-weaker}
use Rattle.std.proofs.lemmas.List.Sums.{AllPass-from_list_all, list_all-from_AllPass}
use Rattle.text.specs.Text.{within}

module _ (highest : ℕ) (p : List ℕ) where
  pub all_within : within highest p ≡ true → All (λ b. b ≤ highest) p
  all_within h =
      All-weaker (λ b. nat_le b highest ≡ true) (λ b. b ≤ highest) (λ b. leb-true b highest) p (AllPass-from_list_all (λ b. nat_le b highest) p h)

  pub within_all : All (λ b. b ≤ highest) p → within highest p ≡ true
  within_all h =
      list_all-from_AllPass (λ b. nat_le b highest) p (All-weaker (λ b. b ≤ highest) (λ b. nat_le b highest ≡ true) (λ b. le-leb b highest) p h)

pub zeros : (p : List ℕ) → within 0 p ≡ true → replicate (length p) 0 ≡ p
zeros [] h = refl
zeros (b ∷ rest) h =
    let both = and_parts (nat_le b 0) (within 0 rest) h in
    let here : 0 ≡ b = omega (arith, leb-true b 0 both.0) in
    ap₂ ◌∷◌ here (zeros rest both.1)
