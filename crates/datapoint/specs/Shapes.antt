-- Lists of a known length, and fields that are no less than 0. Assumes nothing.
use Rattle.std.specs.Prelude.{ℕ, Bool, true, false, List, [], ◌∷◌, ℤ, pos, negsuc, Some, None, Option}

-- a, where the test holds
abbrev pub when : {A : Type 0} → Bool → A → Option A
when true a = Some a
when false a = None

module _ {A B : Type 0} where
  -- of a list of just one element
  abbrev pub one : (A → Option B) → List A → Option B
  one f [] = None
  one f (a ∷ []) = f a
  one f (a ∷ (b ∷ rest)) = None

  -- of a list of just two elements
  abbrev pub two : (A → A → Option B) → List A → Option B
  two f [] = None
  two f (a ∷ []) = None
  two f (a ∷ (b ∷ [])) = f a b
  two f (a ∷ (b ∷ (c ∷ rest))) = None

-- of a field that is no less than 0
abbrev pub natural : {B : Type 0} → (ℕ → Option B) → ℤ → Option B
natural f (pos n) = f n
natural f (negsuc n) = None
