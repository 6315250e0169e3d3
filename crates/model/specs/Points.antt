-- What a board holds, and how it is listed. Assumes nothing.
use Rattle.std.specs.Prelude.{ℕ, suc, List, [], ◌∷◌, ◌++◌, replicate, ℤ, Some, None, Option}
use Rattle.book.specs.declared.number.TypeNumber.{TypeNumber}
use Rattle.listing.specs.Show.{show_row}

-- a point: unplaced, or with a type number, perhaps a normal reading and perhaps a forced reading
pub data Point : Type 0 where
  unplaced : Point
  placed : TypeNumber → Option (List ℤ) → Option (List ℤ) → Point

-- a board is its 48 points, the point 1 first
unfoldable pub empty : List Point
empty = replicate 48 unplaced

-- the forced reading tells, or else the normal one, or else the point is silent
abbrev pub telling : Option (List ℤ) → Option (List ℤ) → Option (List ℤ)
telling normal (Some xs) = Some xs
telling normal None = normal

-- the line of the point k, where it is placed
abbrev pub show_point : ℕ → Point → List ℕ
show_point k unplaced = []
show_point k (placed n normal forced) = show_row (record { point = k; number = n; normal = normal; forced = forced })

-- the lines of the points from k on, in rising order
abbrev pub show_from : ℕ → List Point → List ℕ
show_from k [] = []
show_from k (s ∷ points) = show_point k s ++ show_from (suc k) points

-- a board's list
abbrev pub list_of : List Point → List ℕ
list_of points = show_from 1 points
