-- What a reading keeps. Assumes nothing.
use Rattle.std.proofs.Common.{◌≡◌, ℕ, ◌+◌, ◌<◌, ◌≤◌, List, [], ◌∷◌, ◌++◌, length, take, set, ℤ, Some, sym, ap, ◌∙◌, arith}
use Rattle.std.proofs.lemmas.List.{take_at, take_more_set, length_push, length-take}
use Rattle.std.proofs.lemmas.Bool.{le-leb}
use Rattle.datapoint.specs.Shapes.{when}
use Rattle.listing.specs.Fields.{kept}

pub kept_few : (xs : List ℤ) → length xs ≤ 16 → Some xs ≡ kept xs
kept_few xs h = ap (λ t. when t xs) (sym (le-leb (length xs) 16 h))

pub kept_new : (xs ys post : List ℤ) → ys ≡ xs → length xs ≤ 16 → Some (take (length xs) (ys ++ post)) ≡ kept xs
kept_new xs ys post e h = ap Some (take_at ys post (length xs) (ap length e) ∙ e) ∙ kept_few xs h

pub kept_with : (count : ℕ) (places : List ℤ) (x : ℤ) → count < 16 → length places ≡ 16 → Some (take (count + 1) (set places count x)) ≡ kept (take count places ++ (x ∷ []))
kept_with count places x h l =
    ap Some (take_more_set places count x (omega arith))
    ∙ kept_few (take count places ++ (x ∷ [])) (omega (arith, length_push (take count places) x, length-take count places))
