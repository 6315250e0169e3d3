-- A good board's list loads as that board, and what loads is the list of the loaded board. Assumes nothing.
use Rattle.std.proofs.Common.{◌≡◌, ℕ, zero, suc, ◌+◌, ◌-◌, ◌<◌, ◌≤◌, Bool, true, ltb, leb, List, [], ◌∷◌, ◌++◌, length, set, replicate, ℤ, is_some, Some, None, Ok, Err, Option, Result, sym, refl, ap, ◌∙◌, subst, append_assoc, append-nil, arith, length-append}
use Rattle.std.proofs.lemmas.List.{set_at, length-replicate, replicate-append-replicate}
use Rattle.std.proofs.lemmas.Bool.{lt-ltb, le-leb, eq-eqb, ltb-true, leb-true, and_parts}
use Rattle.std.specs.List.{AllByRecursion}
use Rattle.datapoint.specs.Meaning.{Meaning, Lawful}
use Rattle.book.specs.declared.number.TypeNumber.{TypeNumber}
use Rattle.book.specs.Types.{Types, LawfulTypes}
use Rattle.listing.specs.Row.{Row, Sayable, Writable}
use Rattle.listing.specs.Show.{show_row}
use Rattle.listing.specs.Read.{Got, got, bad, read_row}
use Rattle.listing.proofs.Rows.{row_back, row_only}
use Rattle.model.specs.Points.{Point, unplaced, placed, empty, show_point, show_from, list_of}
use Rattle.model.specs.Calls.{Answer, on_board, accepted}
use Rattle.model.specs.Load.{accepted_some, accepted_if, on_board_or, above_or, placed_as, typed_as, said_by, taken, line_by, load_lines, loaded}
use Rattle.model.specs.Sound.{LegalIn}
use Rattle.model.proofs.Good.{GoodPlaced, Good, GoodBoard, accepted_legal}

-- a legal reading has the counted fields, each in range
module _ (m : Meaning) (lawful : Lawful m) where
  pub proper : (xs : List ℤ) (o : Option (List ℕ)) → m.payload xs ≡ o → is_some o ≡ true → (p : List ℕ) × (m.payload xs ≡ Some p)
  proper xs None e h = absurd (let z : ◌≡◌ {A = ℕ} 0 1 = cc in omega arith)
  proper xs (Some p) e h = (p, e)

  pub legal_fields : (xs : List ℤ) → LegalIn m (Some xs) → length xs ≡ m.fields
  legal_fields xs h =
      let p = proper xs (m.payload xs) refl h in
      lawful.counted p.0 xs (lawful.octets_made xs p.0 p.1) (lawful.back xs p.0 p.1)

  legal_writable : (o : Option (List ℤ)) → LegalIn m o → Writable o
  legal_writable None h = tt
  legal_writable (Some xs) h =
      let p = proper xs (m.payload xs) refl h in
      (omega (arith, legal_fields xs h, lawful.fields_some), lawful.ranged p.0 xs (lawful.octets_made xs p.0 p.1) (lawful.back xs p.0 p.1))

  pub legal_accepted : (xs : List ℤ) → LegalIn m (Some xs) → accepted (Some m) xs ≡ Ok xs
  legal_accepted xs h =
      let p = proper xs (m.payload xs) refl h in
      rw (eq-eqb (length xs) m.fields (legal_fields xs h), p.1)

  pub legal_accepted_if : (o : Option (List ℤ)) → LegalIn m o → accepted_if (Some m) o ≡ Ok o
  legal_accepted_if None h = refl
  legal_accepted_if (Some xs) h = rw (legal_accepted xs h)

module _ (types : Types) (lawful : LawfulTypes types) where
  row_of : ℕ → TypeNumber → Option (List ℤ) → Option (List ℤ) → Row
  row_of k n normal forced = record { point = k; number = n; normal = normal; forced = forced }

  pub good_sayable : (k : ℕ) (n : TypeNumber) (normal forced : Option (List ℤ)) → k ≤ 48 → GoodPlaced types n normal forced → Sayable (record { point = k; number = n; normal = normal; forced = forced })
  good_sayable k n normal forced low g = record {
    point_most = omega arith;
    main_most = g.main_most;
    sub_most = g.sub_most;
    normal_good = legal_writable g.meaning (lawful n g.meaning g.has) normal g.normal_legal;
    forced_good = legal_writable g.meaning (lawful n g.meaning g.has) forced g.forced_legal;
  }

  pub on_board_true : (k : ℕ) → 1 ≤ k → k ≤ 48 → on_board k ≡ true
  on_board_true k low high = rw (le-leb 1 k low, le-leb k 48 high)

  good_said : (last k : ℕ) (n : TypeNumber) (normal forced : Option (List ℤ)) → last < k → k ≤ 48 → GoodPlaced types n normal forced → said_by types last (record { point = k; number = n; normal = normal; forced = forced }) ≡ Ok (placed n normal forced)
  good_said last k n normal forced above high g =
      let law = lawful n g.meaning g.has in
      rw (on_board_true k (omega arith) high, lt-ltb last k above, g.has, legal_accepted_if g.meaning law normal g.normal_legal, legal_accepted_if g.meaning law forced g.forced_legal)

  -- the points behind those that are done load from their lines
  load_shown : (turns line last k : ℕ) (done ys : List Point) → length done ≡ k → k + length ys ≡ 48 → last ≤ k → AllByRecursion (Good types) ys → length (show_from (suc k) ys) ≤ turns → load_lines turns types line last (show_from (suc k) ys) (done ++ replicate (length ys) unplaced) ≡ Ok (done ++ ys)
  unfolding load_lines
  load_shown turns line last k done [] size all low good short = refl
  load_shown turns line last k done (unplaced ∷ ys) size all low good short =
      let shift : (zs : List Point) → done ++ unplaced ∷ zs ≡ (done ++ unplaced ∷ []) ++ zs = λ zs. sym (append_assoc done (unplaced ∷ []) zs) in
      ap (load_lines turns types line last (show_from (suc (suc k)) ys)) (shift (replicate (length ys) unplaced))
      ∙ load_shown turns line last (suc k) (done ++ unplaced ∷ []) ys (length-append done (unplaced ∷ []) ∙ omega arith) (omega arith) (omega arith) good.1 short
      ∙ ap Ok (sym (shift ys))
  load_shown zero line last k done (placed n normal forced ∷ ys) size all low good short = absurd (omega (arith, short))
  load_shown (suc turns) line last k done (placed n normal forced ∷ ys) size all low good short =
      let r : Row = record { point = suc k; number = n; normal = normal; forced = forced } in
      let s = placed n normal forced in
      let rest = show_from (suc (suc k)) ys in
      let points = done ++ unplaced ∷ replicate (length ys) unplaced in
      let next = λ (p : ℕ) (more : List ℕ) (here : List Point). load_lines turns types (suc line) p more here in
      let shift : (zs : List Point) → done ++ s ∷ zs ≡ (done ++ s ∷ []) ++ zs = λ zs. sym (append_assoc done (s ∷ []) zs) in
      ap (line_by next types line last points) (row_back r rest (good_sayable (suc k) n normal forced (omega arith) good.0))
      ∙ ap (taken (next (suc k) rest) line points (suc k)) (good_said last (suc k) n normal forced (omega arith) (omega arith) good.0)
      ∙ ap (load_lines turns types (suc line) (suc k) rest) (set_at done unplaced (replicate (length ys) unplaced) s (suc k - 1) (omega arith) ∙ shift (replicate (length ys) unplaced))
      ∙ load_shown turns (suc line) (suc k) (suc k) (done ++ s ∷ []) ys (length-append done (s ∷ []) ∙ omega arith) (omega arith) (omega arith) good.1 (omega (arith, short, length-append (show_row r) rest))
      ∙ ap Ok (sym (shift ys))

  pub good_loads : (points : List Point) → GoodBoard types points → loaded types (list_of points) ≡ Ok points
  unfolding empty
  good_loads points g =
      ap (λ n. load_lines (length (list_of points)) types 1 0 (list_of points) (replicate n unplaced)) (sym g.count)
      ∙ load_shown (length (list_of points)) 1 0 0 [] points refl (omega (arith, g.count)) (omega arith) g.each (omega arith)

-- points that are not placed have no line
show_none : (k j : ℕ) (zs : List Point) → show_from k (replicate j unplaced ++ zs) ≡ show_from (k + j) zs
show_none k zero zs = ap (λ i. show_from i zs) (omega arith)
show_none k (suc j) zs = show_none (suc k) j zs ∙ ap (λ i. show_from i zs) (omega arith)

show_unplaced : (k j : ℕ) → show_from k (replicate j unplaced) ≡ []
show_unplaced k zero = refl
show_unplaced k (suc j) = show_unplaced (suc k) j

module _ (types : Types) (lawful : LawfulTypes types) where
  good_unplaced : (j : ℕ) (zs : List Point) → AllByRecursion (Good types) zs → AllByRecursion (Good types) (replicate j unplaced ++ zs)
  good_unplaced zero zs h = h
  good_unplaced (suc j) zs h = (tt, good_unplaced j zs h)

  -- what a line said: its point is the row's, and it is good
  typed_said : (r : Row) (s : Point) (o : Option Meaning) → types r.number ≡ o → typed_as o r ≡ Ok s → (m : Meaning) × (types r.number ≡ Some m) × (placed_as r.number (accepted_if (Some m) r.normal) (accepted_if (Some m) r.forced) ≡ Ok s)
  typed_said r s None e h = absurd (let z : ◌≡◌ {A = ℕ} 0 1 = cc in omega arith)
  typed_said r s (Some m) e h = (m, e, h)

  some_legal : (m : Meaning) (xs : List ℤ) (q : Option (List ℤ)) (a : Answer (List ℤ)) → accepted (Some m) xs ≡ a → accepted_some a ≡ Ok q → (Some xs ≡ q) × LegalIn m (Some xs)
  some_legal m xs q (Err e) is h = absurd (let z : ◌≡◌ {A = ℕ} 0 1 = cc in omega arith)
  some_legal m xs q (Ok ys) is h = let l = accepted_legal m xs ys is in (cc l.0, l.1)

  accepted_if_legal : (m : Meaning) (o q : Option (List ℤ)) → accepted_if (Some m) o ≡ Ok q → (o ≡ q) × LegalIn m o
  accepted_if_legal m None q h = (cc, tt)
  accepted_if_legal m (Some xs) q h = some_legal m xs q (accepted (Some m) xs) refl h

  placed_said : (m : Meaning) (r : Row) (s : Point) (a b : Answer (Option (List ℤ))) → accepted_if (Some m) r.normal ≡ a → accepted_if (Some m) r.forced ≡ b → placed_as r.number a b ≡ Ok s → (s ≡ placed r.number r.normal r.forced) × LegalIn m r.normal × LegalIn m r.forced
  placed_said m r s (Err e) b ea eb h = absurd (let z : ◌≡◌ {A = ℕ} 0 1 = cc in omega arith)
  placed_said m r s (Ok x) (Err e) ea eb h = absurd (let z : ◌≡◌ {A = ℕ} 0 1 = cc in omega arith)
  placed_said m r s (Ok x) (Ok y) ea eb h =
      let n = accepted_if_legal m r.normal x ea in
      let f = accepted_if_legal m r.forced y eb in
      (cc (n.0, f.0), n.1, f.1)

  -- what a granted line says of its row
  record Said (last : ℕ) (r : Row) (s : Point) : Type 0 where
    low : 1 ≤ r.point
    high : r.point ≤ 48
    above : last < r.point
    is : s ≡ placed r.number r.normal r.forced
    good : Good types s

  checked : (x y : Bool) (t s : Result Point ℕ) (p : Point) → on_board_or x (above_or y t) ≡ Ok p → (x ≡ true) × (y ≡ true) × (t ≡ Ok p)
  checked x y t s p h = grind arith

  said_good : (last : ℕ) (r : Row) (s : Point) → Sayable r → said_by types last r ≡ Ok s → Said last r s
  said_good last r s say h =
      let c = checked (on_board r.point) (ltb last r.point) (typed_as (types r.number) r) (Err 0) s h in
      let ends = and_parts (leb 1 r.point) (leb r.point 48) c.0 in
      let t = typed_said r s (types r.number) refl c.2 in
      let p = placed_said t.0 r s (accepted_if (Some t.0) r.normal) (accepted_if (Some t.0) r.forced) refl refl t.2 in
      record {
        low = leb-true 1 r.point ends.0;
        high = leb-true r.point 48 ends.1;
        above = ltb-true last r.point c.1;
        is = p.0;
        good = subst (Good types) (sym p.0) (record { meaning = t.0; has = t.1; normal_legal = p.1; forced_legal = p.2; main_most = say.main_most; sub_most = say.sub_most });
      }

  -- what is left of a text, where it loads: the lines of the points behind those that are done
  record Rest (last : ℕ) (done : List Point) (text : List ℕ) (b : List Point) : Type 0 where
    ys : List Point
    count : length ys ≡ 48 - last
    is : b ≡ done ++ ys
    shown : text ≡ show_from (suc last) ys
    good : AllByRecursion (Good types) ys

  abbrev Only : ℕ → Type 0
  Only turns = (line last : ℕ) (done : List Point) (text : List ℕ) (b : List Point) → length done ≡ last → last ≤ 48 → load_lines turns types line last text (done ++ replicate (48 - last) unplaced) ≡ Ok b → Rest last done text b

  -- the point p stands on the board, behind points that are not placed
  set_behind : (last p : ℕ) (done : List Point) (s : Point) → length done ≡ last → last < p → p ≤ 48 → set (done ++ replicate (48 - last) unplaced) (p - 1) s ≡ ((done ++ replicate (p - 1 - last) unplaced) ++ s ∷ []) ++ replicate (48 - p) unplaced
  set_behind last p done s size above high =
      let j = p - 1 - last in
      let split : replicate (48 - last) unplaced ≡ replicate j unplaced ++ unplaced ∷ replicate (48 - p) unplaced = ap (λ n. replicate n unplaced) (omega arith) ∙ sym (replicate-append-replicate j (suc (48 - p)) unplaced) in
      ap (λ zs. set (done ++ zs) (p - 1) s) split
      ∙ ap (λ zs. set zs (p - 1) s) (sym (append_assoc done (replicate j unplaced) (unplaced ∷ replicate (48 - p) unplaced)))
      ∙ set_at (done ++ replicate j unplaced) unplaced (replicate (48 - p) unplaced) s (p - 1) (length-append done (replicate j unplaced) ∙ omega (arith, length-replicate j unplaced))
      ∙ sym (append_assoc (done ++ replicate j unplaced) (s ∷ []) (replicate (48 - p) unplaced))

  line_only : (turns : ℕ) → Only turns → (line last : ℕ) (done : List Point) (text : List ℕ) (b : List Point) → length done ≡ last → last ≤ 48 → (r : Row) (rest : List ℕ) (s : Point) → (text ≡ show_row r ++ rest) → Said last r s → load_lines turns types (suc line) r.point rest (set (done ++ replicate (48 - last) unplaced) (r.point - 1) s) ≡ Ok b → Rest last done text b
  line_only turns only line last done text b size high r rest s is said h =
      let p = r.point in
      let j = p - 1 - last in
      let gap = replicate j unplaced in
      let full = (done ++ gap) ++ s ∷ [] in
      let long : length full ≡ p = length-append (done ++ gap) (s ∷ []) ∙ omega (arith, said.above, length-append done gap, length-replicate j unplaced) in
      let more = only (suc line) p full rest b long said.high (subst (λ (zs : List Point). load_lines turns types (suc line) p rest zs ≡ Ok b) (set_behind last p done s size said.above said.high) h) in
      let line_is : show_point p s ≡ show_row r = ap (show_point p) said.is in
      record {
        ys = gap ++ s ∷ more.ys;
        count = length-append gap (s ∷ more.ys) ∙ omega (arith, length-replicate j unplaced, more.count, said.above, said.high);
        is = more.is ∙ append_assoc (done ++ gap) (s ∷ []) more.ys ∙ append_assoc done gap (s ∷ more.ys);
        shown =
            is ∙ ap (λ zs. show_row r ++ zs) more.shown ∙ ap (λ zs. zs ++ show_from (suc p) more.ys) (sym line_is)
            ∙ ap (λ k. show_from k (s ∷ more.ys)) (let e : p ≡ suc last + j = omega (arith, said.above) in e)
            ∙ sym (show_none (suc last) j (s ∷ more.ys));
        good = good_unplaced j (s ∷ more.ys) (said.good, more.good);
      }

  said_only : (turns : ℕ) → Only turns → (line last : ℕ) (done : List Point) (text : List ℕ) (b : List Point) → length done ≡ last → last ≤ 48 → (r : Row) (rest : List ℕ) → read_row text ≡ got r rest → (x : Result Point ℕ) → said_by types last r ≡ x → taken (λ (now : List Point). load_lines turns types (suc line) r.point rest now) line (done ++ replicate (48 - last) unplaced) r.point x ≡ Ok b → Rest last done text b
  said_only turns only line last done text b size high r rest e (Err cause) x h = absurd (let z : ◌≡◌ {A = ℕ} 0 1 = cc in omega arith)
  said_only turns only line last done text b size high r rest e (Ok s) x h =
      let l = row_only text r rest e in
      line_only turns only line last done text b size high r rest s l.0 (said_good last r s l.1 x) h

  read_only : (turns : ℕ) → Only turns → (line last : ℕ) (done : List Point) (text : List ℕ) (b : List Point) → length done ≡ last → last ≤ 48 → (g : Got Row) → read_row text ≡ g → line_by (λ (p : ℕ) (rest : List ℕ) (now : List Point). load_lines turns types (suc line) p rest now) types line last (done ++ replicate (48 - last) unplaced) g ≡ Ok b → Rest last done text b
  read_only turns only line last done text b size high bad e h = absurd (let z : ◌≡◌ {A = ℕ} 0 1 = cc in omega arith)
  read_only turns only line last done text b size high (got r rest) e h = said_only turns only line last done text b size high r rest e (said_by types last r) refl h

  -- nothing is left: the points behind are not placed
  none_only : (last : ℕ) (done b : List Point) → done ++ replicate (48 - last) unplaced ≡ b → Rest last done [] b
  none_only last done b e = record {
    ys = replicate (48 - last) unplaced;
    count = length-replicate (48 - last) unplaced;
    is = sym e;
    shown = sym (show_unplaced (suc last) (48 - last));
    good = subst (AllByRecursion (Good types)) (append-nil (replicate (48 - last) unplaced)) (good_unplaced (48 - last) [] tt);
  }

  load_only : (turns : ℕ) → Only turns
  unfolding load_lines
  load_only turns line last done [] b size high h = none_only last done b (let e : done ++ replicate (48 - last) unplaced ≡ b = cc in e)
  load_only zero line last done (c ∷ text) b size high h = absurd (let z : ◌≡◌ {A = ℕ} 0 1 = cc in omega arith)
  load_only (suc turns) line last done (c ∷ text) b size high h =
      read_only turns (load_only turns) line last done (c ∷ text) b size high (read_row (c ∷ text)) refl h

  -- what loads is the list of the board that it gives, and that board is good
  pub loaded_lists : (text : List ℕ) (b : List Point) → loaded types text ≡ Ok b → GoodBoard types b × (list_of b ≡ text)
  unfolding empty
  loaded_lists text b h =
      let r = load_only (length text) 1 0 [] text b refl (omega arith) h in
      (record { count = ap length r.is ∙ r.count; each = subst (AllByRecursion (Good types)) (sym r.is) r.good }, ap list_of r.is ∙ sym r.shown)
