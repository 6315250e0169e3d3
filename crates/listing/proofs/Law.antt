-- What it means that a reader reads just what is shown. Assumes nothing.
use Rattle.std.proofs.Common.{◌≡◌, ℕ, Bool, true, false, cond, eqb, List, [], ◌∷◌, ◌++◌, refl, ap, ◌∙◌}
use Rattle.std.specs.Char.{is_ascii_digit}
use Rattle.std.proofs.lemmas.Bool.{eqb-true, eq-eqb, cond-true}
use Rattle.listing.specs.Read.{Got, got, bad, ◌⨟◌, read_literal}

-- the text does not go on with a digit
abbrev pub NoDigit : List ℕ → Type 0
NoDigit [] = Unit {0}
NoDigit (c ∷ s) = is_ascii_digit c ≡ false

-- read takes from the front of a text what show shows of a good value, before a rest at which it stops
pub record Reads {A : Type 0} (read : List ℕ → Got A) (show : A → List ℕ) (Good : A → Type 0) (Stop : List ℕ → Type 0) : Type 0 where
  pub back : (a : A) (rest : List ℕ) → Good a → Stop rest → read (show a ++ rest) ≡ got a rest
  pub only : (s : List ℕ) (a : A) (rest : List ℕ) → read s ≡ got a rest → (s ≡ show a ++ rest) × Good a

-- what was read ends in this value and this rest
pub ended : {A : Type 0} (show : A → List ℕ) (Good : A → Type 0) {s : List ℕ} {a b : A} {t rest : List ℕ} → got a t ≡ got b rest → (s ≡ show a ++ t) × Good a → (s ≡ show b ++ rest) × Good b
ended {A} show Good {s} {a} {b} {t} {rest} e h =
    let same : a ≡ b = cc in
    let end : t ≡ rest = cc in
    rw (← same, ← end) h

module _ {A B : Type 0} {read : List ℕ → Got A} {show : A → List ℕ} {Good : A → Type 0} {Stop : List ℕ → Type 0} where
  -- one step of a longer reader, there and back
  pub step : Reads read show Good Stop → (next : A → List ℕ → Got B) (a : A) (rest : List ℕ) → Good a → Stop rest → (read (show a ++ rest) ⨟ next) ≡ next a rest
  step law next a rest good stop = ap (λ g. g ⨟ next) (law.back a rest good stop)

  pub taken : Reads read show Good Stop → (next : A → List ℕ → Got B) (s : List ℕ) (b : B) (end : List ℕ) {G : Type 0} → (read s ⨟ next) ≡ got b end →
      ((a : A) (rest : List ℕ) → s ≡ show a ++ rest → Good a → next a rest ≡ got b end → G) → G
  taken law next s b end {G} = by (read s) refl
    where
      by : (g : Got A) → read s ≡ g → (g ⨟ next) ≡ got b end → ((a : A) (rest : List ℕ) → s ≡ show a ++ rest → Good a → next a rest ≡ got b end → G) → G
      by (got a rest) e f so = so a rest (law.only s a rest e).0 (law.only s a rest e).1 f
      by bad e f so = cc

literal_back : (key rest : List ℕ) → read_literal key (key ++ rest) ≡ got tt rest
literal_back [] rest = refl
literal_back (k ∷ key) rest = cond-true (eqb k k) (read_literal key (key ++ rest)) bad (eq-eqb k k refl) ∙ literal_back key rest

literal_only : (key s : List ℕ) (rest : List ℕ) → read_literal key s ≡ got tt rest → s ≡ key ++ rest
literal_only [] s rest e = cc
literal_only (k ∷ key) [] rest e = cc
literal_only (k ∷ key) (c ∷ s) rest e = by (eqb c k) refl (literal_only key s rest) e
  where
    by : (t : Bool) → eqb c k ≡ t → (read_literal key s ≡ got tt rest → s ≡ key ++ rest) → cond t (read_literal key s) bad ≡ got tt rest → ◌≡◌ {A = List ℕ} (c ∷ s) (k ∷ (key ++ rest))
    by true same ih e = let a = eqb-true c k same in let b = ih e in cc
    by false other ih e = cc

pub literal : (key : List ℕ) → Reads (read_literal key) (λ _. key) (λ _. Unit {0}) (λ _. Unit {0})
literal key = record { back = λ a rest g s. literal_back key rest; only = λ s a rest e. (literal_only key s rest e, tt) }
