-- What holds of the characters of a list of octets. Assumes nothing.
use Rattle.std.specs.Prelude.{◌≡◌, ℕ, zero, suc, ◌-◌, ◌≤◌, true, List, [], ◌∷◌, ◌++◌, length, drop, replicate, not, ◌==◌, refl}
use Rattle.std.specs.List.{position_or_len}
use Rattle.std.proofs.Common.{sym, ap, ◌∙◌, arith}
use Rattle.std.proofs.lemmas.Bool.Decides.{nat_tests}
use Rattle.std.proofs.lemmas.List.{length-append, length-replicate, length-take, length-take-le, length-drop, take-append-drop}
use Rattle.std.proofs.lemmas.List.Elements.{All-append, All-replicate, All-take}
use Rattle.std.proofs.lemmas.List.Sums.{prefix_len-le-length, take_while-cons}
use Rattle.text.specs.Text.{within, characters, cleared, ended}
use Rattle.text.specs.Within.{all_within, within_all, zeros}

-- an octet that is not 00 is a character
on : (n : ℕ) (rest : List ℕ) → characters (suc n ∷ rest) ≡ suc n ∷ characters rest
on n rest = let e = take_while-cons (λ b. not (b == 0)) (suc n) rest in grind (arith, nat_tests)

cleared_on : (n : ℕ) (rest : List ℕ) → cleared (suc n ∷ rest) ≡ suc n ∷ cleared rest
cleared_on n rest =
    ap (λ q. q ++ replicate (length (suc n ∷ rest) - length q) 0) (on n rest)
    ∙ ap (λ k. suc n ∷ (characters rest ++ replicate k 0)) (omega arith)

ended_on : (n : ℕ) (rest : List ℕ) → ended (suc n ∷ rest) ≡ ended rest
ended_on n rest = ap (λ q. within 0 (drop (length q) (suc n ∷ rest))) (on n rest)

pub length_characters : (p : List ℕ) → length (characters p) ≤ length p
length_characters p = omega (arith, length-take {A = ℕ})

pub length_cleared : (p : List ℕ) → length (cleared p) ≡ length p
length_cleared p = simp (length-append, length-replicate) (omega (arith, length_characters p))

pub within_cleared : (highest : ℕ) (p : List ℕ) → within highest p ≡ true → within highest (cleared p) ≡ true
within_cleared highest p h =
    let P : ℕ → Type 0 = λ b. b ≤ highest in
    within_all highest (cleared p) (All-append P (characters p) _ (All-take P _ p (all_within highest p h)) (All-replicate P _ 0 (omega arith)))

pub ended_cleared : (p : List ℕ) → ended (cleared p) ≡ true
ended_cleared [] = refl
ended_cleared (zero ∷ rest) =
    let whole : suc (length rest) - 0 ≡ suc (length rest) = omega arith in
    ap (λ k. ended (replicate k 0)) whole ∙ within_all 0 (replicate (suc (length rest)) 0) (All-replicate (λ b. b ≤ 0) (suc (length rest)) 0 (omega arith))
ended_cleared (suc n ∷ rest) = ap ended (cleared_on n rest) ∙ ended_on n (cleared rest) ∙ ended_cleared rest

-- what is ended has nothing to clear
pub cleared_ended : (p : List ℕ) → ended p ≡ true → cleared p ≡ p
cleared_ended p h =
    let n = length (characters p) in
    let end = position_or_len (λ b. b == 0) p in
    ap (λ k. characters p ++ replicate k 0) (sym (length-drop n p))
    ∙ ap (λ q. characters p ++ q) (zeros (drop n p) h)
    ∙ ap (λ k. characters p ++ drop k p) (length-take-le end p (prefix_len-le-length _ p))
    ∙ take-append-drop end p
