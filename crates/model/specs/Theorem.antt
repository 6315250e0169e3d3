-- What a board's list says of the board. Assumes nothing.
use Rattle.std.specs.Prelude.{◌≡◌, ℕ, ◌≤◌, ◌⊎◌, List, [], ◌∷◌, length, ℤ, Ok, ◌≢◌}
use Rattle.std.specs.List.{AllByRecursion}
use Rattle.book.specs.Types.{Types}
use Rattle.model.specs.Points.{Point, empty, list_of}
use Rattle.model.specs.Load.{loading}
use Rattle.model.specs.Series.{Call, Place, Set, Override, Remove, Receive, Release, Read, Send, ListOut, Load, Passable, seen, after, Reached}

-- nothing done later tells two boards apart: every series made alike on both is seen alike
abbrev pub Alike : Types → List Point → List Point → Type 0
Alike types a b = (cs : List Call) → AllByRecursion Passable cs → seen types cs a ≡ seen types cs b

-- a read of the point p into sixteen places, whatever they held, is seen to differ
abbrev pub ReadTells : Types → ℕ → List Point → List Point → Type 0
ReadTells types p a b = (out : List ℤ) → length out ≡ 16 → seen types (Read p out ∷ []) a ≢ seen types (Read p out ∷ []) b

-- a release of the point p and then that read are seen to differ
abbrev pub ReleaseTells : Types → ℕ → List Point → List Point → Type 0
ReleaseTells types p a b = (out : List ℤ) → length out ≡ 16 → seen types (Release p ∷ (Read p out ∷ [])) a ≢ seen types (Release p ∷ (Read p out ∷ [])) b

-- calls that put a board together
abbrev pub Builds : Call → Type 0
Builds (Place p n) = Passable (Place p n)
Builds (Set p xs) = Unit {0}
Builds (Override p xs) = Unit {0}
Builds (Remove p) = ⊥
Builds (Receive p payload) = ⊥
Builds (Release p) = ⊥
Builds (Read p out) = ⊥
Builds (Send p out) = ⊥
Builds (ListOut out) = ⊥
Builds (Load text) = ⊥

-- the text is the list of a board that some series of place, set and override reaches from empty
abbrev pub ListOfBuilt : Types → List ℕ → Type 0
ListOfBuilt types text = (cs : List Call) × AllByRecursion Builds cs × (list_of (after types cs empty) ≡ text)

abbrev pub Loads : Types → List ℕ → List Point → Type 0
Loads types text points = (loading types text points).0 ≡ Ok 0

-- the list theorem, for two boards over one book that began empty
pub record ListTheorem (types : Types) : Type 0 where
  -- equal lists: nothing done later tells the boards apart
  pub same_list_alike : (a b : List Point) → Reached types a → Reached types b → list_of a ≡ list_of b → Alike types a b
  -- and only then
  pub alike_same_list : (a b : List Point) → Reached types a → Reached types b → Alike types a b → list_of a ≡ list_of b
  -- unequal lists: at some point a read, or a release and then that read, already differs
  pub told_apart : (a b : List Point) → Reached types a → Reached types b → (list_of a ≢ list_of b)
      → (p : ℕ) × ((1 ≤ p) × (p ≤ 48)) × (ReadTells types p a b ⊎ ReleaseTells types p a b)
  -- a text loads exactly when it is the list of a board that is put together by place, set and override
  pub loads_lists : (text : List ℕ) (points : List Point) → Reached types points → Loads types text points → ListOfBuilt types text
  pub lists_load : (text : List ℕ) (points : List Point) → Reached types points → ListOfBuilt types text → Loads types text points
  -- and the loaded board prints that text
  pub prints_back : (text : List ℕ) (points : List Point) → Reached types points → Loads types text points → list_of (loading types text points).1 ≡ text
