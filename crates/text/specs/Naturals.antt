-- What holds of fields that are no less than 0. Assumes nothing.
use Rattle.std.specs.Prelude.{◌≡◌, ℕ, List, [], ◌∷◌, map, ℤ, pos, negsuc, Some, Option, refl}
use Rattle.std.proofs.Common.{ap}
use Rattle.text.specs.Text.{naturals}

pub naturals_pos : {B : Type 0} (f : List ℕ → Option B) (p : List ℕ) → naturals f (map pos p) ≡ f p
naturals_pos f [] = refl
naturals_pos f (n ∷ rest) = naturals_pos (λ ns. f (n ∷ ns)) rest

pub from_naturals : {B : Type 0} (f : List ℕ → Option B) (xs : List ℤ) (b : B) → naturals f xs ≡ Some b → (p : List ℕ) × (xs ≡ map pos p) × (f p ≡ Some b)
from_naturals f [] b e = ([], refl, e)
from_naturals f (pos n ∷ rest) b e =
    let found = from_naturals (λ ns. f (n ∷ ns)) rest b e in
    (n ∷ found.0, ap (λ xs. pos n ∷ xs) found.1, found.2)
from_naturals f (negsuc n ∷ rest) b e = cc
