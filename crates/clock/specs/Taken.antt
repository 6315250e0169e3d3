-- What a list or a field was, where something was made of it. Assumes nothing.
use Rattle.std.specs.Prelude.{◌≡◌, ℕ, Bool, true, false, List, [], ◌∷◌, ℤ, pos, negsuc, Some, None, Option, refl}
use Rattle.std.proofs.Common.{subst}
use Rattle.std.proofs.lemmas.Option.{same_Some}
use Rattle.datapoint.specs.Shapes.{when}
use Rattle.std.specs.Option.{option_map}
use Rattle.clock.specs.Fields.{next, field, end, ◌>>=◌}

module _ {B : Type 0} where
  module _ {A : Type 0} where
    pub by_next :
        (f : A → List A → Option B) (P : List A → B → Type 0) → ((a : A) (rest : List A) (b : B) → f a rest ≡ Some b → P (a ∷ rest) b) →
        (p : List A) (b : B) → next f p ≡ Some b → P p b
    by_next f P k [] b e = cc
    by_next f P k (a ∷ rest) b e = k a rest b e

    pub by_end : (o : Option B) (P : List A → B → Type 0) → ((b : B) → o ≡ Some b → P [] b) → (p : List A) (b : B) → end o p ≡ Some b → P p b
    by_end o P k [] b e = k b e
    by_end o P k (a ∷ rest) b e = cc

  pub by_field :
      (f : ℕ → List ℤ → Option B) (P : List ℤ → B → Type 0) → ((n : ℕ) (rest : List ℤ) (b : B) → f n rest ≡ Some b → P (pos n ∷ rest) b) →
      (xs : List ℤ) (b : B) → field f xs ≡ Some b → P xs b
  by_field f P k [] b e = cc
  by_field f P k (pos n ∷ rest) b e = k n rest b e
  by_field f P k (negsuc n ∷ rest) b e = cc

  pub by_when : (t : Bool) (a : B) (P : B → Type 0) → (t ≡ true → P a) → (b : B) → when t a ≡ Some b → P b
  by_when true a P k b e = subst P (same_Some a b e) (k refl)
  by_when false a P k b e = cc

  pub by_some : (a : B) (P : B → Type 0) → P a → (b : B) → Some a ≡ Some b → P b
  by_some a P k b e = subst P (same_Some a b e) k

  module _ {A : Type 0} where
    pub by_bind :
        (o : Option A) (f : A → Option B) (P : B → Type 0) → ((a : A) → o ≡ Some a → (b : B) → f a ≡ Some b → P b) → (b : B) → (o >>= f) ≡ Some b → P b
    by_bind None f P k b e = cc
    by_bind (Some a) f P k b e = k a refl b e

    pub by_mapped : (f : A → B) (o : Option A) (P : B → Type 0) → ((a : A) → o ≡ Some a → P (f a)) → (b : B) → option_map f o ≡ Some b → P b
    by_mapped f None P k b e = cc
    by_mapped f (Some a) P k b e = subst P (same_Some (f a) b e) (k a refl)
