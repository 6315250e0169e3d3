-- Octets and fields taken one by one. Assumes nothing.
use Rattle.std.specs.Prelude.{ℕ, List, [], ◌∷◌, ℤ, Some, None, Option, nat_lt}
use Rattle.datapoint.specs.Shapes.{when, natural}

infixr 10 ◌>>=◌
module _ {A B : Type 0} where
  -- of the first element and the rest
  abbrev pub next : (A → List A → Option B) → List A → Option B
  next f [] = None
  next f (a ∷ rest) = f a rest

  -- of no more elements
  abbrev pub end : Option B → List A → Option B
  end b [] = b
  end b (a ∷ rest) = None

  -- of what there is
  abbrev pub ◌>>=◌ : Option A → (A → Option B) → Option B
  ◌>>=◌ None f = None
  ◌>>=◌ (Some a) f = f a

-- of the first field, which is no less than 0, and the rest
abbrev pub field : {B : Type 0} → (ℕ → List ℤ → Option B) → List ℤ → Option B
field f = next (λ x rest. natural (λ n. f n rest) x)

-- the number of a field from 0 to 255
abbrev pub octet_of : ℤ → Option ℕ
octet_of = natural (λ n. when (nat_lt n 256) n)
