-- A point of the table that is looked at or changed. Assumes nothing.
use Rattle.std.proofs.Common.{◌≡◌, ℕ, ◌-◌, ◌<◌, Bool, true, leb, List, length, get_or, set, Ok, Option, sym, arith}
use Rattle.std.proofs.lemmas.List.{map-set, get_or-map}
use Rattle.std.proofs.lemmas.Bool.{and_parts, leb-true}
use Rattle.model.specs.Points.{Point, unplaced}
use Rattle.model.specs.Calls.{Answer, at_point, on_board}
use Rattle.points.specs.declared.placed.Placed.{Placed}
use Rattle.points.specs.Model.{point_of}
use Rattle.board.specs.Table.{points_of, index_if, indexed}

-- a number that has a place in the table
index_is : (b : Bool) (p at : ℕ) → index_if b p ≡ Ok at → (b ≡ true) × (at ≡ p - 1)
index_is b p at h = grind arith

index_low : (p at : ℕ) → indexed p ≡ Ok at → at < 48
index_low p at h =
    let i = index_is (on_board p) p at h in
    let ends = and_parts (leb 1 p) (leb p 48) i.0 in
    omega (arith, i.1, leb-true 1 p ends.0, leb-true p 48 ends.1)

-- the place there, whatever stands for one outside the table
here : (table : List (Option Placed)) (p at : ℕ) (d : Option Placed) → Ok at ≡ indexed p → length table ≡ 48 → get_or (points_of table) (p - 1) unplaced ≡ point_of (get_or table at d)
here table p at d found full =
    let i = index_is (on_board p) p at (sym found) in
    let low = index_low p at (sym found) in
    rw (← i.1) (get_or-map point_of table at d unplaced (omega (arith, low, full)))

-- the table after a call that changed the place there from s to t
pub changed_at : {A : Type 0} (table : List (Option Placed)) (p at : ℕ) (d s t : Option Placed) (f : Point → Answer A × Point) (a : Answer A) → Ok at ≡ indexed p → length table ≡ 48 → get_or table at d ≡ s → (a, point_of t) ≡ f (point_of s) → (a, points_of (set table at t)) ≡ at_point p f (points_of table)
changed_at table p at d s t f a found full is e =
    let i = index_is (on_board p) p at (sym found) in
    let w = here table p at d found full in
    rw (i.0, w, is, ← e, ← i.1, map-set)
