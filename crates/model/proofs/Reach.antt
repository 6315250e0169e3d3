-- Every board that a series reaches is good, and every good board is reached by place, set and override. Assumes nothing.
use Rattle.std.proofs.Common.{◌≡◌, ℕ, zero, suc, ◌+◌, ◌-◌, ◌<◌, Bool, List, [], ◌∷◌, ◌++◌, length, set, replicate, ℤ, Some, None, Ok, Err, Option, Result, sym, refl, ap, ◌∙◌, subst, append_assoc, arith, length-append}
use Rattle.std.proofs.lemmas.List.{set_at, get_or_at}
use Rattle.std.proofs.ByRecursion.{All-append}
use Rattle.std.specs.List.{AllByRecursion}
use Rattle.datapoint.specs.Meaning.{Meaning}
use Rattle.book.specs.declared.number.TypeNumber.{TypeNumber}
use Rattle.book.specs.Types.{Types, LawfulTypes}
use Rattle.model.specs.Points.{Point, unplaced, placed, empty}
use Rattle.model.specs.Calls.{Answer, at_point, numbered, placing, place_as, removing, receiving, setting, overriding, releasing, become_normal, become_forced, accepted}
use Rattle.model.specs.Load.{Fault, loaded, replaced}
use Rattle.model.specs.Series.{Call, Place, Remove, Receive, Set, Override, Release, Read, Send, ListOut, Load, Passable, perform, after, Reached}
use Rattle.model.specs.Theorem.{Builds}
use Rattle.model.specs.Sound.{LegalIn}
use Rattle.model.proofs.Good.{Good, GoodBoard, good_changed, placing_good, removing_good, receiving_good, setting_good, overriding_good, releasing_good}
use Rattle.model.proofs.Lists.{loaded_lists, legal_accepted, on_board_true}

good_none : (types : Types) (n : ℕ) → AllByRecursion (Good types) (replicate n unplaced)
good_none types zero = tt
good_none types (suc n) = (tt, good_none types n)

pub good_empty : (types : Types) → GoodBoard types empty
unfolding empty
good_empty types = record { count = refl; each = good_none types 48 }

pub after_append : (types : Types) (cs ds : List Call) (points : List Point) → after types (cs ++ ds) points ≡ after types ds (after types cs points)
after_append types [] ds points = refl
after_append types (c ∷ cs) ds points = after_append types cs ds (perform types c points).1

module _ (types : Types) (lawful : LawfulTypes types) where
  load_good : (text : List ℕ) (points : List Point) (r : Result (List Point) Fault) → loaded types text ≡ r → GoodBoard types points → GoodBoard types (replaced r points).1
  load_good text points (Err f) e g = g
  load_good text points (Ok new) e g = (loaded_lists types lawful text new e).0

  perform_good : (c : Call) → Passable c → (points : List Point) → GoodBoard types points → GoodBoard types (perform types c points).1
  perform_good (Place p n) h points g = good_changed types p (placing types n) points (placing_good types lawful n h.0 h.1) g
  perform_good (Remove p) h points g = good_changed types p removing points (removing_good types lawful) g
  perform_good (Receive p payload) h points g = good_changed types p (receiving types payload) points (receiving_good types lawful payload h) g
  perform_good (Set p xs) h points g = good_changed types p (setting types xs) points (setting_good types lawful xs) g
  perform_good (Override p xs) h points g = good_changed types p (overriding types xs) points (overriding_good types lawful xs) g
  perform_good (Release p) h points g = good_changed types p releasing points (releasing_good types lawful) g
  perform_good (Read p out) h points g = g
  perform_good (Send p out) h points g = g
  perform_good (ListOut out) h points g = g
  perform_good (Load text) h points g = load_good text points (loaded types text) refl g

  pub after_good : (cs : List Call) → AllByRecursion Passable cs → (points : List Point) → GoodBoard types points → GoodBoard types (after types cs points)
  after_good [] h points g = g
  after_good (c ∷ cs) h points g = after_good cs h.1 (perform types c points).1 (perform_good c h.0 points g)

  pub reached_good : (points : List Point) → Reached types points → GoodBoard types points
  reached_good points r = subst (GoodBoard types) r.2 (after_good r.0 r.1 empty (good_empty types))

  -- the calls that put a point and a board together
  build_set : ℕ → Option (List ℤ) → List Call
  build_set k None = []
  build_set k (Some xs) = Set k xs ∷ []

  build_force : ℕ → Option (List ℤ) → List Call
  build_force k None = []
  build_force k (Some xs) = Override k xs ∷ []

  build_point : ℕ → Point → List Call
  build_point k unplaced = []
  build_point k (placed n normal forced) = Place k n ∷ (build_set k normal ++ build_force k forced)

  pub build_from : ℕ → List Point → List Call
  build_from k [] = []
  build_from k (s ∷ points) = build_point k s ++ build_from (suc k) points

  builds_set : (k : ℕ) (o : Option (List ℤ)) → AllByRecursion Builds (build_set k o)
  unfolding build_set
  builds_set k None = tt
  builds_set k (Some xs) = (tt, tt)

  builds_force : (k : ℕ) (o : Option (List ℤ)) → AllByRecursion Builds (build_force k o)
  unfolding build_force
  builds_force k None = tt
  builds_force k (Some xs) = (tt, tt)

  builds_point : (k : ℕ) (s : Point) → Good types s → AllByRecursion Builds (build_point k s)
  unfolding build_point
  builds_point k unplaced g = tt
  builds_point k (placed n normal forced) g = ((g.main_most, g.sub_most), All-append Builds (build_set k normal) (build_force k forced) (builds_set k normal) (builds_force k forced))

  pub builds_from : (k : ℕ) (points : List Point) → AllByRecursion (Good types) points → AllByRecursion Builds (build_from k points)
  unfolding build_from
  builds_from k [] g = tt
  builds_from k (s ∷ points) g = All-append Builds (build_point k s) (build_from (suc k) points) (builds_point k s g.0) (builds_from (suc k) points g.1)

  -- a call at the point behind those that are done
  at_next : (k : ℕ) (done rest : List Point) (s t : Point) (f : Point → Answer ℕ × Point) → length done ≡ k → k < 48 → (f s).1 ≡ t → (at_point (suc k) f (done ++ s ∷ rest)).1 ≡ done ++ t ∷ rest
  at_next k done rest s t f size high e =
      let here : length done ≡ suc k - 1 = omega arith in
      ap (λ (b : Bool). (numbered b (suc k) f (done ++ s ∷ rest)).1) (on_board_true types lawful (suc k) (omega arith) (omega arith))
      ∙ ap (λ (x : Point). set (done ++ s ∷ rest) (suc k - 1) (f x).1) (get_or_at done s rest unplaced (suc k - 1) here)
      ∙ set_at done s rest (f s).1 (suc k - 1) here
      ∙ ap (λ (x : Point). done ++ x ∷ rest) e

  module _ (k : ℕ) (done rest : List Point) (size : length done ≡ k) (high : k < 48) (n : TypeNumber) (m : Meaning) (has : types n ≡ Some m) where
    accepts : (xs : List ℤ) → LegalIn m (Some xs) → accepted (types n) xs ≡ Ok xs
    accepts xs h = ap (λ (o : Option Meaning). accepted o xs) has ∙ legal_accepted m (lawful n m has) xs h

    placed_next : (at_point (suc k) (placing types n) (done ++ unplaced ∷ rest)).1 ≡ done ++ placed n None None ∷ rest
    placed_next = at_next k done rest unplaced (placed n None None) (placing types n) size high (ap (λ (o : Option Meaning). (place_as o n).1) has)

    set_next : (normal : Option (List ℤ)) → LegalIn m normal → after types (build_set (suc k) normal) (done ++ placed n None None ∷ rest) ≡ done ++ placed n normal None ∷ rest
    unfolding build_set
    set_next None h = refl
    set_next (Some xs) h = at_next k done rest (placed n None None) (placed n (Some xs) None) (setting types xs) size high (ap (λ (a : Answer (List ℤ)). (become_normal n None a).1) (accepts xs h))

    force_next : (normal forced : Option (List ℤ)) → LegalIn m forced → after types (build_force (suc k) forced) (done ++ placed n normal None ∷ rest) ≡ done ++ placed n normal forced ∷ rest
    unfolding build_force
    force_next normal None h = refl
    force_next normal (Some xs) h = at_next k done rest (placed n normal None) (placed n normal (Some xs)) (overriding types xs) size high (ap (λ (a : Answer (List ℤ)). (become_forced n normal None a).1) (accepts xs h))

  point_next : (k : ℕ) (done rest : List Point) (s : Point) → length done ≡ k → k < 48 → Good types s → after types (build_point (suc k) s) (done ++ unplaced ∷ rest) ≡ done ++ s ∷ rest
  unfolding build_point
  point_next k done rest unplaced size high g = refl
  point_next k done rest (placed n normal forced) size high g =
      ap (after types (build_set (suc k) normal ++ build_force (suc k) forced)) (placed_next k done rest size high n g.meaning g.has)
      ∙ after_append types (build_set (suc k) normal) (build_force (suc k) forced) (done ++ placed n None None ∷ rest)
      ∙ ap (after types (build_force (suc k) forced)) (set_next k done rest size high n g.meaning g.has normal g.normal_legal)
      ∙ force_next k done rest size high n g.meaning g.has normal forced g.forced_legal

  build_next : (k : ℕ) (done ys : List Point) → length done ≡ k → k + length ys ≡ 48 → AllByRecursion (Good types) ys → after types (build_from (suc k) ys) (done ++ replicate (length ys) unplaced) ≡ done ++ ys
  unfolding build_from
  build_next k done [] size all g = refl
  build_next k done (s ∷ ys) size all g =
      let shift : (zs : List Point) → done ++ s ∷ zs ≡ (done ++ s ∷ []) ++ zs = λ zs. sym (append_assoc done (s ∷ []) zs) in
      after_append types (build_point (suc k) s) (build_from (suc (suc k)) ys) (done ++ unplaced ∷ replicate (length ys) unplaced)
      ∙ ap (after types (build_from (suc (suc k)) ys)) (point_next k done (replicate (length ys) unplaced) s size (omega arith) g.0 ∙ shift (replicate (length ys) unplaced))
      ∙ build_next (suc k) (done ++ s ∷ []) ys (length-append done (s ∷ []) ∙ omega arith) (omega arith) g.1
      ∙ sym (shift ys)

  pub built : (points : List Point) → GoodBoard types points → after types (build_from 1 points) empty ≡ points
  unfolding empty
  built points g =
      ap (λ (n : ℕ). after types (build_from 1 points) (replicate n unplaced)) (sym g.count)
      ∙ build_next 0 [] points refl (omega (arith, g.count)) g.each
