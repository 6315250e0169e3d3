-- A board as its calls see it. Assumes nothing.
use Rattle.std.specs.Prelude.{List}
use Rattle.model.specs.Points.{Point}

-- its book, which never changes, and its points
pub record Board (B : Type 0) : Type 0 where
  pub book : B
  pub points : List Point

-- an answer, and the board with these points
abbrev pub with_points : {A B : Type 0} → B → A × List Point → A × Board B
with_points book r = (r.0, record { book = book; points = r.1 })

-- a call that changes nothing but the points
abbrev pub on_points : {A B : Type 0} → (List Point → A × List Point) → Board B → A × Board B
on_points f b = with_points b.book (f b.points)
