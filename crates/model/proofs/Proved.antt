-- The list theorem and the soundness of every reached board, for every book of lawful types. Assumes nothing.
use Rattle.std.proofs.Common.{◌≡◌, ℕ, ◌+◌, ◌≤◌, List, [], ◌∷◌, length, drop, replicate, Ok, Err, Result, sym, refl, ap, ◌∙◌, arith}
use Rattle.std.proofs.lemmas.List.{length-replicate}
use Rattle.std.proofs.ByRecursion.{All-weaker}
use Rattle.std.specs.List.{AllByRecursion}
use Rattle.book.specs.Types.{Types, LawfulTypes}
use Rattle.model.specs.Points.{Point, unplaced, placed, empty, list_of}
use Rattle.model.specs.Calls.{Answer}
use Rattle.model.specs.Load.{Fault, loaded, loading, replaced}
use Rattle.model.specs.Series.{Call, Place, Remove, Receive, Set, Override, Release, Read, Send, ListOut, Load, Passable, Seen, Reply, counts, tells, loads, seen, after}
use Rattle.model.specs.Sound.{Stored, Soundness}
use Rattle.model.specs.Theorem.{Alike, Builds, ListOfBuilt, Loads, ListTheorem}
use Rattle.model.proofs.Good.{Good, GoodBoard}
use Rattle.model.proofs.Lists.{good_loads, loaded_lists}
use Rattle.model.proofs.Reach.{reached_good, after_good, good_empty, build_from, builds_from, built}
use Rattle.model.proofs.Apart.{same_front, delivered_room, told_apart, same_ok}
use Rattle.model.proofs.Refusals.{list_fits, refused_by}

good_stored : (types : Types) (s : Point) → Good types s → Stored types s
good_stored types unplaced g = tt
good_stored types (placed n normal forced) g = (g.meaning, g.has, g.normal_legal, g.forced_legal)

builds_passable : (cs : List Call) → AllByRecursion Builds cs → AllByRecursion Passable cs
builds_passable [] h = tt
builds_passable (Place p n ∷ cs) h = (h.0, builds_passable cs h.1)
builds_passable (Set p xs ∷ cs) h = (tt, builds_passable cs h.1)
builds_passable (Override p xs ∷ cs) h = (tt, builds_passable cs h.1)
builds_passable (Remove p ∷ cs) h = absurd h.0
builds_passable (Receive p payload ∷ cs) h = absurd h.0
builds_passable (Release p ∷ cs) h = absurd h.0
builds_passable (Read p out ∷ cs) h = absurd h.0
builds_passable (Send p out ∷ cs) h = absurd h.0
builds_passable (ListOut out ∷ cs) h = absurd h.0
builds_passable (Load text ∷ cs) h = absurd h.0

-- what the caller sees of a list
abbrev count_of : Reply → Answer ℕ
count_of (counts a) = a
count_of (tells a) = Err (0, [])
count_of (loads a) = Err (0, [])

abbrev octets_seen : List Seen → Answer ℕ × List ℕ
octets_seen [] = (Err (0, []), [])
octets_seen (s ∷ more) = (count_of s.reply, s.octets)

module _ (types : Types) (lawful : LawfulTypes types) where
  -- good boards with one list are one board
  same_board : (a b : List Point) → GoodBoard types a → GoodBoard types b → list_of a ≡ list_of b → a ≡ b
  same_board a b ga gb e = same_ok (sym (good_loads types lawful a ga) ∙ ap (loaded types) e ∙ good_loads types lawful b gb)

  alike_lists : (a b : List Point) → Alike types a b → list_of a ≡ list_of b
  alike_lists a b alike =
      let out : List ℕ = replicate (length (list_of a) + length (list_of b)) 0 in
      let long : length out ≡ length (list_of a) + length (list_of b) = length-replicate (length (list_of a) + length (list_of b)) 0 in
      let room_a : length (list_of a) ≤ length out = omega (arith, long) in
      let room_b : length (list_of b) ≤ length out = omega (arith, long) in
      let e = sym (delivered_room (list_of a) out room_a) ∙ ap octets_seen (alike (ListOut out ∷ []) (tt, tt)) ∙ delivered_room (list_of b) out room_b in
      same_front (list_of a) (list_of b) (drop (length (list_of a)) out) (drop (length (list_of b)) out) (same_ok (ap (λ p. p.0) e)) (ap (λ p. p.1) e)

  granted : (r : Result (List Point) Fault) (points : List Point) → (replaced r points).0 ≡ Ok 0 → (b : List Point) × (r ≡ Ok b) × ((replaced r points).1 ≡ b)
  granted (Err f) points h = absurd (let z : ◌≡◌ {A = ℕ} 0 1 = cc in omega arith)
  granted (Ok b) points h = (b, refl, refl)

  loads_lists : (text : List ℕ) (points : List Point) → Loads types text points → ListOfBuilt types text
  loads_lists text points h =
      let g = granted (loaded types text) points h in
      let l = loaded_lists types lawful text g.0 g.1 in
      (build_from types lawful 1 g.0, builds_from types lawful 1 g.0 l.0.each, ap list_of (built types lawful g.0 l.0) ∙ l.1)

  lists_load : (text : List ℕ) (points : List Point) → ListOfBuilt types text → Loads types text points
  lists_load text points h =
      let good = after_good types lawful h.0 (builds_passable h.0 h.1) empty (good_empty types) in
      ap (λ (r : Result (List Point) Fault). (replaced r points).0) (ap (loaded types) (sym h.2) ∙ good_loads types lawful (after types h.0 empty) good)

  prints_back : (text : List ℕ) (points : List Point) → Loads types text points → list_of (loading types text points).1 ≡ text
  prints_back text points h =
      let g = granted (loaded types text) points h in
      ap list_of g.2 ∙ (loaded_lists types lawful text g.0 g.1).1

  pub list_theorem : ListTheorem types
  list_theorem = record {
    same_list_alike = λ a b ra rb e cs h. ap (seen types cs) (same_board a b (reached_good types lawful a ra) (reached_good types lawful b rb) e);
    alike_same_list = λ a b ra rb alike. alike_lists a b alike;
    told_apart = λ a b ra rb ne. told_apart types lawful a b (reached_good types lawful a ra) (reached_good types lawful b rb) ne;
    loads_lists = λ text points r h. loads_lists text points h;
    lists_load = λ text points r h. lists_load text points h;
    prints_back = λ text points r h. prints_back text points h;
  }

  pub soundness : Soundness types
  soundness = record {
    stored = λ points r. All-weaker (Good types) (Stored types) (good_stored types) points (reached_good types lawful points r).each;
    refused = λ points r c h. refused_by types lawful points (reached_good types lawful points r) c h;
    fits = λ points r. list_fits types lawful points (reached_good types lawful points r);
  }
