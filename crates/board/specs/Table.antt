-- The points of a table, one that is looked at, and one that a step changes. Assumes nothing.
use denote.Ref.{Bor}
use Rattle.std.specs.Prelude.{◌≡◌, ℕ, ◌-◌, Bool, true, false, List, map, Ok, Err, Option, Result, slice_index_or}
use Rattle.datapoint.specs.declared.refusal.Refusal.{Refusal}
use Rattle.datapoint.specs.declared.refusal.Refusal.TheVariants.{NoSuchPoint, NotPlaced}
use Rattle.datapoint.specs.Refusals.{answer}
use Rattle.model.specs.Points.{Point, unplaced, placed}
use Rattle.model.specs.Calls.{Answer, deny, at_point, on_board}
use Rattle.points.specs.Model.{placed_point, point_of}
use Rattle.points.specs.declared.placed.Placed.{Placed}

-- the points that a table holds
abbrev pub points_of : List (Option Placed) → List Point
points_of table = map point_of table

-- the place in the table of the point p, if it has one
abbrev pub index_if : Bool → ℕ → Result ℕ Refusal
index_if true p = Ok (p - 1)
index_if false p = Err NoSuchPoint

abbrev pub indexed : ℕ → Result ℕ Refusal
indexed p = index_if (on_board p) p

-- the placed point of the number p, or why there is none
abbrev pub if_placed : Point → Result Point Refusal
if_placed unplaced = Err NotPlaced
if_placed (placed n normal forced) = Ok (placed n normal forced)

abbrev pub placed_if : Bool → ℕ → List Point → Result Point Refusal
placed_if true p points = if_placed (slice_index_or points (p - 1) unplaced)
placed_if false p points = Err NoSuchPoint

abbrev pub placed_in : ℕ → List Point → Result Point Refusal
placed_in p points = placed_if (on_board p) p points

abbrev pub seen : Result (Bor Placed) Refusal → Result Point Refusal
seen (Ok p) = Ok (placed_point p.now)
seen (Err e) = Err e

-- a step does to a placed point what f does
abbrev pub Does : (Placed → Result ℕ Refusal → Placed → Type 0) → (Point → Answer ℕ × Point) → Type 0
Does step f = (s t : Placed) (r : Result ℕ Refusal) → step s r t → (answer r, placed_point t) ≡ f (placed_point s)

-- a call takes the step at the point p: it does there what f does, where f refuses a point that is not placed
abbrev pub StepsAt : ℕ → (Placed → Result ℕ Refusal → Placed → Type 0) → List (Option Placed) → Result ℕ Refusal → List (Option Placed) → Type 0
StepsAt p step old r new = (f : Point → Answer ℕ × Point) → f unplaced ≡ deny NotPlaced unplaced → Does step f → (answer r, points_of new) ≡ at_point p f (points_of old)
