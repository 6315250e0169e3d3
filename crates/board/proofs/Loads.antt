-- Loading a text line by line. Assumes nothing.
use Rattle.std.proofs.Common.{◌≡◌, ℕ, suc, ◌+◌, ◌-◌, ◌<◌, ◌≤◌, true, ltb, List, [], ◌∷◌, length, set, Some, None, Ok, Err, Option, Result, sym, refl, ap, ◌∙◌, add-one, arith}
use Rattle.std.proofs.lemmas.List.{map-set}
use Rattle.std.proofs.lemmas.Bool.Decides.{nat_tests}
use Rattle.datapoint.specs.Meaning.{Meaning, Lawful}
use Rattle.book.specs.Types.{Types, LawfulTypes}
use Rattle.listing.specs.Row.{Row}
use Rattle.listing.specs.Read.{Got, got, bad, read_row}
use Rattle.listing.specs.Line.{Said, row_said, got_as}
use Rattle.model.specs.Points.{Point, empty}
use Rattle.model.specs.Calls.{on_board}
use Rattle.model.specs.Load.{Fault, typed_as, said_by, taken, line_by, load_lines, loaded}
use Rattle.points.specs.declared.placed.Placed.{Placed}
use Rattle.points.specs.Model.{placed_point}
use Rattle.board.specs.Table.{points_of}
use Rattle.board.specs.Load.{typed_held, with_front, front_said}

-- more fields than any type has are a wrong length, and only the number of a cause is told
typed_by : (m : Meaning) → Lawful m → (r : Row) → typed_held (Some m) (row_said r) ≡ typed_as (Some m) r
typed_by m law r = grind (arith, nat_tests, law.fields_most)

same_typed : (o : Option Meaning) → ((m : Meaning) → o ≡ Some m → Lawful m) → (r : Row) → typed_held o (row_said r) ≡ typed_as o r
same_typed None law r = refl
same_typed (Some m) law r = typed_by m (law m refl) r

-- on the board and above the last point, a line says what it says of its type
said_here : (types : Types) (last : ℕ) (r : Row) → on_board r.point ≡ true → ltb last r.point ≡ true → said_by types last r ≡ typed_as (types r.number) r
said_here types last r inside above = rw (inside, above)

-- the line at the front of a text, as the code keeps it
pub front_as : (types : Types) → LawfulTypes types → (last : ℕ) (s : Said) (rest : List ℕ) (x : Got Row) → got s rest ≡ got_as row_said x → on_board s.point ≡ true → ltb last s.point ≡ true → with_front s.point rest (typed_held (types s.number) s) ≡ front_said types last x
front_as types lawful last s rest bad h inside above = cc
front_as types lawful last s rest (got r more) h inside above =
    let same : s ≡ row_said r = cc in
    let behind : rest ≡ more = cc in
    let inside' : on_board r.point ≡ true = cc in
    let above' : ltb last r.point ≡ true = cc in
    rw (same, behind) (ap (with_front r.point more) (same_typed (types r.number) (lawful r.number) r ∙ sym (said_here types last r inside' above')))

-- what is left of a text of so many octets: each line before took one at least
unfoldable pub left : Types → (octets line last : ℕ) → List ℕ → List Point → Result (List Point) Fault
left types octets line last text points = load_lines (octets + 1 - line) types line last text points

pub left_all : (types : Types) (text : List ℕ) (points : List Point) → points ≡ empty → left types (length text) 1 0 text points ≡ loaded types text
unfolding left
left_all types text points e =
    let turns : length text + 1 - 1 ≡ length text = omega arith in
    rw (turns, e)

module _ (types : Types) (octets line last : ℕ) where
  pub left_none : (text : List ℕ) (points : List Point) → length text ≤ 0 → left types octets line last text points ≡ Ok points
  unfolding left load_lines
  left_none [] points h = refl
  left_none (c ∷ text) points h = absurd (omega (arith, h))

  -- one line, and what is left behind it
  behind : List Point → Result (ℕ × Point × List ℕ) ℕ → Result (List Point) Fault
  behind points (Err cause) = Err (record { line = line; cause = cause })
  behind points (Ok f) = left types octets (suc line) f.0 f.2 (set points (f.0 - 1) f.1)

  by_row : (points : List Point) (x : Got Row) → line_by (λ p rest now. left types octets (suc line) p rest now) types line last points x ≡ behind points (front_said types last x)
  unfolding behind
  by_row points bad = refl
  by_row points (got r rest) = of (said_by types last r)
    where
      of : (x : Result Point ℕ) → taken (left types octets (suc line) r.point rest) line points r.point x ≡ behind points (with_front r.point rest x)
      of (Err k) = refl
      of (Ok s) = refl

  left_line : (text : List ℕ) (points : List Point) → 0 < length text → line + length text ≤ octets + 1 → left types octets line last text points ≡ behind points (front_said types last (read_row text))
  unfolding left load_lines
  left_line [] points h short = absurd (omega (arith, h))
  left_line (c ∷ text) points h short =
      let turns : octets + 1 - line ≡ suc (octets + 1 - suc line) = omega (arith, short) in
      rw turns (by_row points (read_row (c ∷ text)))

  pub left_faulty : (text : List ℕ) (points : List Point) (k : ℕ) → 0 < length text → line + length text ≤ octets + 1 → Err k ≡ front_said types last (read_row text) → Err (record { line = line; cause = k }) ≡ left types octets line last text points
  unfolding behind
  left_faulty text points k some short h = rw (left_line text points some short, ← h)

  pub left_more : (text : List ℕ) (table : List (Option Placed)) (p : ℕ) (s : Placed) (rest : List ℕ) → 0 < length text → line + length text ≤ octets + 1 → Ok (p, placed_point s, rest) ≡ front_said types last (read_row text) → left types octets (line + 1) p rest (points_of (set table (p - 1) (Some s))) ≡ left types octets line last text (points_of table)
  unfolding behind
  left_more text table p s rest some short h = rw (left_line text (points_of table) some short, ← h, add-one, map-set)
