-- A half that is granted fills the front of the buffer that was lent to it, and one that is refused is not legal.
use Rattle.std.proofs.Common.{◌≡◌, ℕ, ◌+◌, ◌≤◌, eqb, List, ◌++◌, length, take, drop, Some, None, Ok, Err, Option, Result, IfOk, sym, refl, ap, ◌∙◌, arith}
use Rattle.std.specs.Option.{ok_or}
use Rattle.std.specs.Result.{result_or}
use Rattle.std.proofs.Math.Seq.{take-append-add}
use Rattle.std.proofs.lemmas.List.{length-take-le, take-append-le, take_at}
use Rattle.std.proofs.lemmas.Bool.{eq-eqb, le-leb}
use Rattle.datapoint.specs.declared.refusal.Refusal.{Refusal}
use Rattle.datapoint.specs.Calls.{Outcome, delivered_or, sized_or}
use Rattle.datapoint.specs.Refusals.{told, answer}
use Rattle.joined.specs.Joined.{both}
use Rattle.joined.specs.Front.{front}

module _ {X : Type 0} (e : Refusal) where
  -- of a type's call with as many items as are due and room for those that it makes
  module _ (size due count : ℕ) (out last : List X) (sized : size ≡ due) (room : count ≤ length out) where
    abbrev call : Option (List X) → Outcome X
    call o = sized_or (eqb size due) due (delivered_or e o out) out

    fills : (xs : List X) → length xs ≡ count → call (Some xs) ≡ (Ok (length xs), xs ++ drop (length xs) out)
    fills xs h =
        let fits : length xs ≤ length out = omega arith in
        rw (eq-eqb size due sized, le-leb (length xs) (length out) fits)

    denies : call None ≡ (Err (told e), out)
    denies = rw (eq-eqb size due sized)

    pub filled :
        (o : Option (List X)) (r : Result ℕ Refusal) → ((xs : List X) → o ≡ Some xs → length xs ≡ count) → ◌≡◌ {A = Outcome X} (answer r, last) (call o) →
        record { holds : front (result_or r (Err e)) last ≡ ok_or o e; ends : IfOk (result_or r (Err e)) (λ n. n ≡ count) }
    filled None (Ok n) counted h = let sent = ap (λ r. r.0) (h ∙ denies) in cc
    filled None (Err t) counted h = record { holds = refl; ends = tt }
    filled (Some xs) (Err t) counted h = let sent = ap (λ r. r.0) (h ∙ fills xs (counted xs refl)) in cc
    filled (Some xs) (Ok n) counted h =
        let sent = h ∙ fills xs (counted xs refl) in
        let answer : Ok n ≡ Ok (length xs) = ap (λ r. r.0) sent in
        let all : length xs ≡ n = cc in
        let now : last ≡ xs ++ drop (length xs) out = ap (λ r. r.1) sent in
        record { holds = rw now (ap Ok (take_at xs _ n all)); ends = omega (arith, counted xs refl) }

  -- of two halves, the second in the part of the buffer after the first
  pub one_after_other :
      (o q : Option (List X)) (m r : ℕ) (out last past : List X) → m ≤ length out → r ≤ length last → Ok (take m out) ≡ ok_or o e → Ok (take r last) ≡ ok_or q e →
      Ok (take (m + r) (take m out ++ (last ++ past))) ≡ ok_or (both o q) e
  one_after_other None q m r out last past f g h k = cc
  one_after_other (Some xs) None m r out last past f g h k = cc
  one_after_other (Some xs) (Some ys) m r out last past f g h k =
      let first : take m out ≡ xs = cc in
      let second : take r last ≡ ys = cc in
      let size : length xs ≡ m = ap length (sym first) ∙ length-take-le m out f in
      rw (first, sym size, take-append-add xs (last ++ past) r, take-append-le r last past g, second)
