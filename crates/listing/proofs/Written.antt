-- A text grows by what is written behind it, as far as there is room. Assumes nothing.
use Rattle.std.proofs.Common.{◌≡◌, ℕ, zero, suc, ◌≤◌, List, [], ◌∷◌, ◌++◌, length, take, refl, ap, ◌∙◌, append_assoc}
use Rattle.std.proofs.lemmas.List.{take_all}

-- what is cut off before more is written would be cut off behind it
pub cut_again : (n : ℕ) (a b : List ℕ) → take n (take n a ++ b) ≡ take n (a ++ b)
cut_again zero a b = refl
cut_again (suc n) [] b = refl
cut_again (suc n) (x ∷ a) b = ap (λ t. x ∷ t) (cut_again n a b)

-- pieces one behind another
pub ruleset pieces = (append_assoc, cut_again)

-- what has room stands whole on an empty sheet
pub whole : (n : ℕ) (t₀ t xs : List ℕ) → t₀ ≡ [] → t ≡ take n (t₀ ++ xs) → length xs ≤ n → t ≡ xs
whole n t₀ t xs empty written room = written ∙ ap (λ s. take n (s ++ xs)) empty ∙ take_all n xs room
