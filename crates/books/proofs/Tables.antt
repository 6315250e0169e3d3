-- The tables of the two books have no main number in common. Assumes nothing.
use Rattle.std.proofs.Common.{◌≡◌, ℕ, Bool, true, not, eqb, List, [], ◌∷◌, is_some, Some, None, Option, refl, ap, inl, inr}
use Rattle.std.specs.List.{list_all}
use Rattle.std.specs.Option.{option_or}
use Rattle.std.proofs.lemmas.Bool.{true≢false, and_parts, not-true}
use Rattle.std.proofs.lemmas.Bool.Decides.{eqb_tells}
use Rattle.datapoint.specs.Meaning.{Meaning}
use Rattle.book.specs.declared.number.TypeNumber.{TypeNumber}
use Rattle.book.specs.Types.{Types}
use Rattle.books.specs.Rows.{Row, in_rows}
use Rattle.books.specs.General.{general, general_rows}
use Rattle.books.specs.Heating.{heating, heating_rows}
use Rattle.books.specs.Apart.{Apart, Named, numbered}

-- no row has the main number
abbrev lacks : ℕ → List Row → Bool
lacks main rs = list_all (λ r. not (eqb main r.main)) rs

lacks_none : (n : TypeNumber) (rs : List Row) → lacks n.main rs ≡ true → in_rows rs n ≡ None
lacks_none n [] h = refl
lacks_none n (r ∷ rest) h =
    let parts = and_parts (not (eqb n.main r.main)) (lacks n.main rest) h in
    rw (not-true _ parts.0) (lacks_none n rest parts.1)

-- no row of the one has a main number of the other
abbrev strange : List Row → List Row → Bool
strange a b = list_all (λ r. lacks r.main b) a

-- either the row has the main number, or what there is stands in the rest
strange_none : (n : TypeNumber) (a b : List Row) → strange a b ≡ true → is_some (in_rows a n) ≡ true → in_rows b n ≡ None
strange_none n [] b e h = cc
strange_none n (r ∷ rest) b e h =
    let parts = and_parts (lacks r.main b) (strange rest b) e in
    elim (eqb_tells n.main r.main) [
      | inl same ↦ lacks_none n b (rw same.1 parts.0)
      | inr other ↦ strange_none n rest b parts.1 (rw other.0 at h)
    ]

either_first : (a b : Option Meaning) → (is_some a ≡ true → b ≡ None) → option_or a b ≡ option_or b a
either_first None None h = refl
either_first None (Some m) h = refl
either_first (Some m) b h = rw (h refl)

pub apart : Apart
apart =
    let in_one : (n : TypeNumber) → is_some (general n) ≡ true → heating n ≡ None = λ n. strange_none n general_rows heating_rows refl in
    record {
      in_one = in_one;
      either_first = λ n. either_first (general n) (heating n) (in_one n);
      differ = λ e. true≢false (ap (λ (t : Types). is_some (t (numbered 1 1))) e);
    }

pub named : Named
named = record { temperature = refl; colour = refl; mode_with_status = refl; no_9_003 = refl; no_1_020 = refl }
