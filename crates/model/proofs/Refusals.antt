-- With which numbers the calls are refused on a good board, and how long its list is. Assumes nothing.
use Rattle.std.proofs.Common.{◌≡◌, ℕ, zero, suc, ◌+◌, ◌-◌, ◌*◌, ◌≤◌, Bool, true, false, eqb, ltb, leb, List, [], ◌∷◌, length, get_or, ℤ, Some, None, Ok, Err, Option, Result, sym, refl, ap, ◌∙◌, subst, inl, inr, arith, length-append}
use Rattle.std.proofs.lemmas.Bool.{eq-eqb}
use Rattle.std.specs.List.{AllByRecursion}
use Rattle.datapoint.specs.declared.refusal.Refusal.{Refusal}
use Rattle.datapoint.specs.declared.refusal.Refusal.TheVariants.{IllegalPayload, IllegalReading}
use Rattle.datapoint.specs.Refusals.{told}
use Rattle.datapoint.specs.Meaning.{Meaning}
use Rattle.datapoint.specs.Calls.{Outcome, delivered, fitting, write_out}
use Rattle.book.specs.declared.number.TypeNumber.{TypeNumber}
use Rattle.book.specs.Types.{Types, LawfulTypes, write_in}
use Rattle.listing.specs.Row.{Row, Few}
use Rattle.listing.specs.Read.{Got, got, bad, read_row}
use Rattle.listing.proofs.Rows.{row_length}
use Rattle.model.specs.Points.{Point, unplaced, placed, empty, show_point, show_from, list_of}
use Rattle.model.specs.Calls.{Answer, Told, at_point, numbered, on_board, look_at, looked, placing, place_as, removing, receiving, setting, overriding, releasing, become_normal, become_forced, understood, accepted, sized_or, legal_or, kept, marked, reading_out, sending_out, listing_out}
use Rattle.model.specs.Load.{Fault, accepted_some, accepted_if, placed_as, typed_as, above_or, on_board_or, said_by, taken, line_by, load_lines, loaded, replaced}
use Rattle.model.specs.Series.{Call, Place, Remove, Receive, Set, Override, Release, Read, Send, ListOut, Load, Passable, counts, tells, loads, perform}
use Rattle.model.specs.Sound.{LegalIn, refusals, OneOf, RefusedBy}
use Rattle.model.proofs.Good.{Good, GoodBoard, good_at}
use Rattle.model.proofs.Lists.{legal_fields, good_sayable, proper}

-- an answer is granted, or refused with one of these numbers
abbrev AnswerBy : {A : Type 0} → List ℕ → Answer A → Type 0
AnswerBy ns (Ok a) = Unit {0}
AnswerBy ns (Err e) = OneOf ns e.0

-- a value is refused for its length or since it is not legal
sized_by : {A : Type 0} (ns : List ℕ) (b : Bool) (due : ℕ) (e : Refusal) (o : Option A) → OneOf ns 8 → OneOf ns (told e).0 → AnswerBy ns (sized_or b due (legal_or e o))
sized_by ns true due e None h k = k
sized_by ns true due e (Some a) h k = tt
sized_by ns false due e o h k = h

accepted_by : (ns : List ℕ) (m : Meaning) (xs : List ℤ) → OneOf ns 8 → OneOf ns 10 → AnswerBy ns (accepted (Some m) xs)
accepted_by ns m xs h k = sized_by ns (eqb (length xs) m.fields) m.fields IllegalReading (kept (m.payload xs) xs) h k

understood_by : (ns : List ℕ) (m : Meaning) (p : List ℕ) → OneOf ns 8 → OneOf ns 9 → AnswerBy ns (understood (Some m) p)
understood_by ns m p h k = sized_by ns (eqb (length p) m.octets) m.octets IllegalPayload (m.reading p) h k

normal_by : (ns : List ℕ) (n : TypeNumber) (normal : Option (List ℤ)) (a : Answer (List ℤ)) → AnswerBy ns a → AnswerBy ns (become_normal n normal a).0
normal_by ns n normal (Err e) h = h
normal_by ns n normal (Ok xs) h = tt

forced_by : (ns : List ℕ) (n : TypeNumber) (normal forced : Option (List ℤ)) (a : Answer (List ℤ)) → AnswerBy ns a → AnswerBy ns (become_forced n normal forced a).0
forced_by ns n normal forced (Err e) h = h
forced_by ns n normal forced (Ok xs) h = tt

-- what is delivered is refused only for the buffer's length
delivered_by : {X : Type 0} (ns : List ℕ) (xs out : List X) → OneOf ns 11 → AnswerBy ns (delivered xs out).0
delivered_by ns xs out h = by (leb (length xs) (length out))
  where
    by : (b : Bool) → AnswerBy ns (fitting b xs out).0
    by true = tt
    by false = h

-- a legal reading is written as its proper payload
write_legal : (m : Meaning) (xs : List ℤ) (p out : List ℕ) → length xs ≡ m.fields → m.payload xs ≡ Some p → write_out m xs out ≡ delivered p out
write_legal m xs p out n e = rw (eq-eqb (length xs) m.fields n, e)

counts_by : (ns : List ℕ) (a : Answer ℕ) → AnswerBy ns a → RefusedBy ns (counts a)
counts_by ns (Ok k) h = tt
counts_by ns (Err e) h = h

tells_by : (ns : List ℕ) (a : Answer Told) → AnswerBy ns a → RefusedBy ns (tells a)
tells_by ns (Ok k) h = tt
tells_by ns (Err e) h = h

marked_by : (ns : List ℕ) (n : TypeNumber) (i : ℕ) (o : Outcome ℤ) → AnswerBy ns o.0 → AnswerBy ns (marked n i o).0
marked_by ns n i o h = by o.0 h
  where
    by : (a : Answer ℕ) → AnswerBy ns a → AnswerBy ns (marked n i (a, o.1)).0
    by (Ok k) h = tt
    by (Err e) h = h

module _ (types : Types) (lawful : LawfulTypes types) where
  few : (n : TypeNumber) (m : Meaning) → types n ≡ Some m → (o : Option (List ℤ)) → LegalIn m o → Few o
  few n m has None h = tt
  few n m has (Some xs) h = omega (arith, legal_fields m (lawful n m has) xs h, (lawful n m has).fields_most)

  point_length : (k : ℕ) (s : Point) → k ≤ 48 → Good types s → length (show_point k s) ≤ 427
  point_length k unplaced high g = omega arith
  point_length k (placed n a f) high g = row_length (record { point = k; number = n; normal = a; forced = f }) (good_sayable types lawful k n a f high g) (few n g.meaning g.has a g.normal_legal) (few n g.meaning g.has f g.forced_legal)

  from_length : (k : ℕ) (points : List Point) → k + length points ≤ 49 → AllByRecursion (Good types) points → length (show_from k points) ≤ 427 * length points
  from_length k [] high g = omega arith
  from_length k (s ∷ points) high g = omega (arith, length-append (show_point k s) (show_from (suc k) points), point_length k s (omega arith) g.0, from_length (suc k) points (omega arith) g.1)

  pub list_fits : (points : List Point) → GoodBoard types points → length (list_of points) ≤ 32768
  list_fits points g = omega (arith, from_length 1 points (omega (arith, g.count)) g.each, g.count)

  changed_by : (ns : List ℕ) (p : ℕ) (f : Point → Answer ℕ × Point) (points : List Point) → OneOf ns 1 → ((s : Point) → Good types s → AnswerBy ns (f s).0) → GoodBoard types points → RefusedBy ns (counts (at_point p f points).0)
  changed_by ns p f points h each g = by (on_board p)
    where
      by : (b : Bool) → RefusedBy ns (counts (numbered b p f points).0)
      by true = counts_by ns (f (get_or points (p - 1) unplaced)).0 (each (get_or points (p - 1) unplaced) (good_at types points (p - 1) g.each))
      by false = h

  looked_by : {A X : Type 0} (ns : List ℕ) (b : Bool) (p : ℕ) (f : Point → List X → Answer A × List X) (points : List Point) (out : List X) → OneOf ns 1 → ((s : Point) → Good types s → AnswerBy ns (f s out).0) → GoodBoard types points → AnswerBy ns (looked b p f points out).0
  looked_by ns true p f points out h each g = each (get_or points (p - 1) unplaced) (good_at types points (p - 1) g.each)
  looked_by ns false p f points out h each g = h

  place_as_by : (n : TypeNumber) (o : Option Meaning) → AnswerBy (1 ∷ (2 ∷ (4 ∷ []))) (place_as o n).0
  place_as_by n None = inr (inr (inl refl))
  place_as_by n (Some m) = tt

  placing_by : (n : TypeNumber) (s : Point) → Good types s → AnswerBy (1 ∷ (2 ∷ (4 ∷ []))) (placing types n s).0
  placing_by n unplaced g = place_as_by n (types n)
  placing_by n (placed m a f) g = inr (inl refl)

  removing_by : (s : Point) → Good types s → AnswerBy (1 ∷ (3 ∷ [])) (removing s).0
  removing_by unplaced g = inr (inl refl)
  removing_by (placed n a f) g = tt

  receiving_by : (payload : List ℕ) (s : Point) → Good types s → AnswerBy (1 ∷ (3 ∷ (5 ∷ (8 ∷ (9 ∷ []))))) (receiving types payload s).0
  receiving_by payload unplaced g = inr (inl refl)
  receiving_by payload (placed n a (Some f)) g = inr (inr (inl refl))
  receiving_by payload (placed n a None) g =
      let ns = 1 ∷ (3 ∷ (5 ∷ (8 ∷ (9 ∷ [])))) in
      normal_by ns n a (understood (types n) payload)
      (subst (λ (o : Option Meaning). AnswerBy ns (understood o payload)) (sym g.has) (understood_by ns g.meaning payload (inr (inr (inr (inl refl)))) (inr (inr (inr (inr (inl refl)))))))

  accepting_by : (ns : List ℕ) (n : TypeNumber) (m : Meaning) → types n ≡ Some m → (xs : List ℤ) → OneOf ns 8 → OneOf ns 10 → AnswerBy ns (accepted (types n) xs)
  accepting_by ns n m has xs h k = subst (λ (o : Option Meaning). AnswerBy ns (accepted o xs)) (sym has) (accepted_by ns m xs h k)

  setting_by : (xs : List ℤ) (s : Point) → Good types s → AnswerBy (1 ∷ (3 ∷ (5 ∷ (8 ∷ (10 ∷ []))))) (setting types xs s).0
  setting_by xs unplaced g = inr (inl refl)
  setting_by xs (placed n a (Some f)) g = inr (inr (inl refl))
  setting_by xs (placed n a None) g =
      let ns = 1 ∷ (3 ∷ (5 ∷ (8 ∷ (10 ∷ [])))) in
      normal_by ns n a (accepted (types n) xs) (accepting_by ns n g.meaning g.has xs (inr (inr (inr (inl refl)))) (inr (inr (inr (inr (inl refl))))))

  overriding_by : (xs : List ℤ) (s : Point) → Good types s → AnswerBy (1 ∷ (3 ∷ (8 ∷ (10 ∷ [])))) (overriding types xs s).0
  overriding_by xs unplaced g = inr (inl refl)
  overriding_by xs (placed n a f) g =
      let ns = 1 ∷ (3 ∷ (8 ∷ (10 ∷ []))) in
      forced_by ns n a f (accepted (types n) xs) (accepting_by ns n g.meaning g.has xs (inr (inr (inl refl))) (inr (inr (inr (inl refl)))))

  releasing_by : (s : Point) → Good types s → AnswerBy (1 ∷ (3 ∷ (6 ∷ []))) (releasing s).0
  releasing_by unplaced g = inr (inl refl)
  releasing_by (placed n a None) g = inr (inr (inl refl))
  releasing_by (placed n a (Some f)) g = tt

  reading_by : (out : List ℤ) (s : Point) → Good types s → AnswerBy (1 ∷ (3 ∷ (11 ∷ []))) (reading_out s out).0
  reading_by out unplaced g = inr (inl refl)
  reading_by out (placed n a (Some xs)) g = let ns = 1 ∷ (3 ∷ (11 ∷ [])) in marked_by ns n 2 (delivered xs out) (delivered_by ns xs out (inr (inr (inl refl))))
  reading_by out (placed n (Some xs) None) g = let ns = 1 ∷ (3 ∷ (11 ∷ [])) in marked_by ns n 1 (delivered xs out) (delivered_by ns xs out (inr (inr (inl refl))))
  reading_by out (placed n None None) g = tt

  -- a stored reading is legal, so sending it is refused only for the buffer's length
  written_by : (ns : List ℕ) (n : TypeNumber) (m : Meaning) → types n ≡ Some m → (xs : List ℤ) (out : List ℕ) → LegalIn m (Some xs) → OneOf ns 11 → AnswerBy ns (write_in (types n) xs out).0
  written_by ns n m has xs out legal h =
      let law = lawful n m has in
      let p = proper m law xs (m.payload xs) refl legal in
      let e = ap (λ (o : Option Meaning). write_in o xs out) has ∙ write_legal m xs p.0 out (legal_fields m law xs legal) p.1 in
      subst (λ (o : Outcome ℕ). AnswerBy ns o.0) (sym e) (delivered_by ns p.0 out h)

  sending_by : (out : List ℕ) (s : Point) → Good types s → AnswerBy (1 ∷ (3 ∷ (7 ∷ (11 ∷ [])))) (sending_out types s out).0
  sending_by out unplaced g = inr (inl refl)
  sending_by out (placed n a (Some xs)) g = written_by (1 ∷ (3 ∷ (7 ∷ (11 ∷ [])))) n g.meaning g.has xs out g.forced_legal (inr (inr (inr (inl refl))))
  sending_by out (placed n (Some xs) None) g = written_by (1 ∷ (3 ∷ (7 ∷ (11 ∷ [])))) n g.meaning g.has xs out g.normal_legal (inr (inr (inr (inl refl))))
  sending_by out (placed n None None) g = inr (inr (inl refl))

  abbrev causes : List ℕ
  causes = 12 ∷ (1 ∷ (2 ∷ (4 ∷ (8 ∷ (10 ∷ [])))))

  -- what a load's result is refused with
  abbrev LoadBy : Result (List Point) Fault → Type 0
  LoadBy (Ok b) = Unit {0}
  LoadBy (Err f) = OneOf causes f.cause

  abbrev CauseBy : Result Point ℕ → Type 0
  CauseBy (Ok s) = Unit {0}
  CauseBy (Err k) = OneOf causes k

  accepted_some_by : (a : Answer (List ℤ)) → AnswerBy causes a → AnswerBy causes (accepted_some a)
  accepted_some_by (Ok xs) h = tt
  accepted_some_by (Err e) h = h

  accepted_if_by : (m : Meaning) (o : Option (List ℤ)) → AnswerBy causes (accepted_if (Some m) o)
  accepted_if_by m None = tt
  accepted_if_by m (Some xs) = accepted_some_by (accepted (Some m) xs) (accepted_by causes m xs (inr (inr (inr (inr (inl refl))))) (inr (inr (inr (inr (inr (inl refl)))))))

  placed_as_by : (n : TypeNumber) (a b : Answer (Option (List ℤ))) → AnswerBy causes a → AnswerBy causes b → CauseBy (placed_as n a b)
  placed_as_by n (Err e) b ha hb = ha
  placed_as_by n (Ok x) (Err e) ha hb = hb
  placed_as_by n (Ok x) (Ok y) ha hb = tt

  typed_as_by : (o : Option Meaning) (r : Row) → CauseBy (typed_as o r)
  typed_as_by None r = inr (inr (inr (inl refl)))
  typed_as_by (Some m) r = placed_as_by r.number (accepted_if (Some m) r.normal) (accepted_if (Some m) r.forced) (accepted_if_by m r.normal) (accepted_if_by m r.forced)

  said_refused : (x y : Bool) (t : Result Point ℕ) → CauseBy t → CauseBy (on_board_or x (above_or y t))
  said_refused true true t h = h
  said_refused true false t h = inr (inr (inl refl))
  said_refused false y t h = inr (inl refl)

  taken_by : (rest : List Point → Result (List Point) Fault) (line : ℕ) (points : List Point) (p : ℕ) (x : Result Point ℕ) → ((now : List Point) → LoadBy (rest now)) → CauseBy x → LoadBy (taken rest line points p x)
  taken_by rest line points p (Ok s) more h = more _
  taken_by rest line points p (Err k) more h = h

  line_refused : (next : ℕ → List ℕ → List Point → Result (List Point) Fault) (line last : ℕ) (points : List Point) (g : Got Row) → ((p : ℕ) (rest : List ℕ) (now : List Point) → LoadBy (next p rest now)) → LoadBy (line_by next types line last points g)
  line_refused next line last points bad more = inl refl
  line_refused next line last points (got r rest) more =
      taken_by (next r.point rest) line points r.point (said_by types last r) (more r.point rest)
      (said_refused (on_board r.point) (ltb last r.point) (typed_as (types r.number) r) (typed_as_by (types r.number) r))

  lines_by : (turns line last : ℕ) (text : List ℕ) (points : List Point) → LoadBy (load_lines turns types line last text points)
  unfolding load_lines
  lines_by turns line last [] points = tt
  lines_by zero line last (c ∷ text) points = inl refl
  lines_by (suc turns) line last (c ∷ text) points =
      line_refused (λ p rest now. load_lines turns types (suc line) p rest now) line last points (read_row (c ∷ text)) (λ p rest now. lines_by turns (suc line) p rest now)

  replaced_by : (r : Result (List Point) Fault) (points : List Point) → LoadBy r → RefusedBy causes (loads (replaced r points).0)
  replaced_by (Ok b) points h = tt
  replaced_by (Err f) points h = h

  pub refused_by : (points : List Point) → GoodBoard types points → (c : Call) → Passable c → RefusedBy (refusals c) (perform types c points).0.reply
  refused_by points g (Place p n) h = changed_by (refusals (Place p n)) p (placing types n) points (inl refl) (placing_by n) g
  refused_by points g (Remove p) h = changed_by (refusals (Remove p)) p removing points (inl refl) removing_by g
  refused_by points g (Receive p payload) h = changed_by (refusals (Receive p payload)) p (receiving types payload) points (inl refl) (receiving_by payload) g
  refused_by points g (Set p xs) h = changed_by (refusals (Set p xs)) p (setting types xs) points (inl refl) (setting_by xs) g
  refused_by points g (Override p xs) h = changed_by (refusals (Override p xs)) p (overriding types xs) points (inl refl) (overriding_by xs) g
  refused_by points g (Release p) h = changed_by (refusals (Release p)) p releasing points (inl refl) releasing_by g
  refused_by points g (Read p out) h =
      tells_by (refusals (Read p out)) (look_at p reading_out points out).0 (looked_by (refusals (Read p out)) (on_board p) p reading_out points out (inl refl) (reading_by out) g)
  refused_by points g (Send p out) h =
      counts_by (refusals (Send p out)) (look_at p (sending_out types) points out).0 (looked_by (refusals (Send p out)) (on_board p) p (sending_out types) points out (inl refl) (sending_by out) g)
  refused_by points g (ListOut out) h = counts_by (refusals (ListOut out)) (listing_out points out).0 (delivered_by (refusals (ListOut out)) (list_of points) out (inl refl))
  refused_by points g (Load text) h = replaced_by (loaded types text) points (lines_by (length text) 1 0 text empty)
