-- Two good boards with unequal lists are told apart at one point. Assumes nothing.
use Rattle.std.proofs.Common.{◌≡◌, ℕ, suc, ◌-◌, ◌<◌, ◌≤◌, Bool, ◌⊎◌, List, [], ◌∷◌, ◌++◌, length, get_or, take, drop, set, ℤ, Some, None, Ok, Err, Option, Result, sym, refl, ap, ◌∙◌, inl, inr, ⊎_elim, arith}
use mathlib.Core.List.{List-discrete}
use native.Mathlib.Decide.{ℕ_discrete}
use lib.IntN.{ℤ_discrete}
use Rattle.std.proofs.lemmas.List.{take_at, get_or-set_same}
use Rattle.std.proofs.lemmas.Bool.{le-leb}
use Rattle.datapoint.specs.Calls.{delivered, fitting}
use Rattle.book.specs.declared.number.TypeNumber.{TypeNumber}
use Rattle.book.specs.Types.{Types, LawfulTypes}
use Rattle.model.specs.Points.{Point, unplaced, placed, show_point, show_from, list_of}
use Rattle.model.specs.Calls.{Answer, Told, at_point, numbered, reading_out, releasing, marked, look_at, looked}
use Rattle.model.specs.Series.{Seen, Reply, tells, counts, loads}
use Rattle.model.specs.Theorem.{ReadTells, ReleaseTells}
use Rattle.model.proofs.Good.{GoodPlaced, Good, GoodBoard, good_at, releasing_good}
use Rattle.model.proofs.Lists.{legal_fields, on_board_true}

-- two fronts of one buffer, of one length, are the same
pub same_front : {X : Type 0} (xs ys us vs : List X) → length xs ≡ length ys → xs ++ us ≡ ys ++ vs → xs ≡ ys
same_front xs ys us vs n e = sym (take_at xs us (length ys) n) ∙ ap (take (length ys)) e ∙ take_at ys vs (length ys) refl

-- what is delivered into a buffer with room
pub delivered_room : {X : Type 0} (xs out : List X) → length xs ≤ length out → delivered xs out ≡ (Ok (length xs), xs ++ drop (length xs) out)
delivered_room xs out h = ap (λ (b : Bool). fitting b xs out) (le-leb (length xs) (length out) h)

-- what a read tells of a reading, into sixteen places
reads_marked : (n : TypeNumber) (mark : ℕ) (xs out : List ℤ) → length xs ≤ 16 → length out ≡ 16 → marked n mark (delivered xs out) ≡ (Ok (record { number = n; mark = mark; fields = length xs }), xs ++ drop (length xs) out)
reads_marked n mark xs out short room = ap (marked n mark) (delivered_room xs out (omega arith))

pub same_ok : {A E : Type 0} {a b : A} → ◌≡◌ {A = Result A E} (Ok a) (Ok b) → a ≡ b
same_ok e = cc

same_marked : (n k : TypeNumber) (i j : ℕ) (xs ys out : List ℤ) → length xs ≤ 16 → length ys ≤ 16 → length out ≡ 16 → marked n i (delivered xs out) ≡ marked k j (delivered ys out) → (n ≡ k) × (i ≡ j) × (xs ≡ ys)
same_marked n k i j xs ys out sx sy room e =
    let f = sym (reads_marked n i xs out sx room) ∙ e ∙ reads_marked k j ys out sy room in
    let t = same_ok (ap (λ p. p.0) f) in
    (ap (λ x. x.number) t, ap (λ x. x.mark) t, same_front xs ys (drop (length xs) out) (drop (length ys) out) (ap (λ x. x.fields) t) (ap (λ p. p.1) f))

-- the mark and the fields that a read shows of a placed point
abbrev mark_of : Option (List ℤ) → Option (List ℤ) → ℕ
mark_of a (Some xs) = 2
mark_of (Some xs) None = 1
mark_of None None = 0

abbrev shown : Option (List ℤ) → Option (List ℤ) → List ℤ
shown a (Some xs) = xs
shown (Some xs) None = xs
shown None None = []

reads_shown : (n : TypeNumber) (a f : Option (List ℤ)) (out : List ℤ) → length out ≡ 16 → reading_out (placed n a f) out ≡ marked n (mark_of a f) (delivered (shown a f) out)
reads_shown n a (Some xs) out room = refl
reads_shown n (Some xs) None out room = refl
reads_shown n None None out room = sym (reads_marked n 0 [] out (omega arith) room)

-- what a read shows of a point: all of it but a normal reading under a forced one
abbrev Faced : Point → Point → Type 0
Faced unplaced unplaced = Unit {0}
Faced unplaced (placed k b g) = ⊥
Faced (placed n a f) unplaced = ⊥
Faced (placed n a None) (placed k b None) = (n ≡ k) × (a ≡ b)
Faced (placed n a None) (placed k b (Some ys)) = ⊥
Faced (placed n a (Some xs)) (placed k b None) = ⊥
Faced (placed n a (Some xs)) (placed k b (Some ys)) = (n ≡ k) × (xs ≡ ys)

faced : (n k : TypeNumber) (a f b g : Option (List ℤ)) → n ≡ k → mark_of a f ≡ mark_of b g → shown a f ≡ shown b g → Faced (placed n a f) (placed k b g)
faced n k None None None None e m s = (e, refl)
faced n k (Some xs) None (Some ys) None e m s = (e, ap Some s)
faced n k None None (Some ys) None e m s = absurd (omega (arith, m))
faced n k (Some xs) None None None e m s = absurd (omega (arith, m))
faced n k None None b (Some ys) e m s = omega (arith, m)
faced n k (Some xs) None b (Some ys) e m s = omega (arith, m)
faced n k a (Some xs) None None e m s = omega (arith, m)
faced n k a (Some xs) (Some ys) None e m s = omega (arith, m)
faced n k a (Some xs) b (Some ys) e m s = (e, s)

refused_told : {A B : Type 0} {e : A} {b : B} → ◌≡◌ {A = Result B A} (Err e) (Ok b) → ⊥
refused_told h = let z : ◌≡◌ {A = ℕ} 0 1 = cc in omega arith

told_marked : (n : TypeNumber) (i : ℕ) (xs out : List ℤ) → length xs ≤ 16 → length out ≡ 16 → (e : ℕ × List ℕ) → ◌≡◌ {A = Answer Told × List ℤ} (Err e, out) (marked n i (delivered xs out)) → ⊥
told_marked n i xs out sx room e h = refused_told (ap (λ p. p.0) (h ∙ reads_marked n i xs out sx room))

module _ (types : Types) (lawful : LawfulTypes types) where
  few : (n : TypeNumber) (a f : Option (List ℤ)) → GoodPlaced types n a f → length (shown a f) ≤ 16
  few n a (Some xs) g = let law = lawful n g.meaning g.has in omega (arith, legal_fields g.meaning law xs g.forced_legal, law.fields_most)
  few n (Some xs) None g = let law = lawful n g.meaning g.has in omega (arith, legal_fields g.meaning law xs g.normal_legal, law.fields_most)
  few n None None g = omega arith

  same_read : (s t : Point) → Good types s → Good types t → (out : List ℤ) → length out ≡ 16 → reading_out s out ≡ reading_out t out → Faced s t
  same_read unplaced unplaced gs gt out room e = tt
  same_read unplaced (placed k b g) gs gt out room e = told_marked k (mark_of b g) (shown b g) out (few k b g gt) room _ (e ∙ reads_shown k b g out room)
  same_read (placed n a f) unplaced gs gt out room e = told_marked n (mark_of a f) (shown a f) out (few n a f gs) room _ (sym e ∙ reads_shown n a f out room)
  same_read (placed n a f) (placed k b g) gs gt out room e =
      let m = same_marked n k (mark_of a f) (mark_of b g) (shown a f) (shown b g) out (few n a f gs) (few k b g gt) room (sym (reads_shown n a f out room) ∙ e ∙ reads_shown k b g out room) in
      faced n k a f b g m.0 m.1 m.2

  -- two points that differ: a read, or a release and then a read, shows it
  abbrev ReadDiffers : Point → Point → Type 0
  ReadDiffers s t = (out : List ℤ) → length out ≡ 16 → reading_out s out ≡ reading_out t out → ⊥

  abbrev ReleaseDiffers : Point → Point → Type 0
  ReleaseDiffers s t = ReadDiffers (releasing s).1 (releasing t).1

  -- both are forced: if type numbers and forced readings are the same, the normal readings differ
  forced_apart : (n k : TypeNumber) (a b : Option (List ℤ)) (xs ys : List ℤ) → Good types (placed n a (Some xs)) → Good types (placed k b (Some ys)) → (placed n a (Some xs) ≡ placed k b (Some ys) → ⊥) → Dec (n ≡ k) → Dec (xs ≡ ys) → ReadDiffers (placed n a (Some xs)) (placed k b (Some ys)) ⊎ ReleaseDiffers (placed n a (Some xs)) (placed k b (Some ys))
  forced_apart n k a b xs ys gs gt ne (no p) d = inl (λ out room e. p (same_read (placed n a (Some xs)) (placed k b (Some ys)) gs gt out room e).0)
  forced_apart n k a b xs ys gs gt ne (yes p) (no q) = inl (λ out room e. q (same_read (placed n a (Some xs)) (placed k b (Some ys)) gs gt out room e).1)
  forced_apart n k a b xs ys gs gt ne (yes p) (yes q) =
      inr (λ out room e.
      let f = same_read (placed n a None) (placed k b None) (releasing_good types lawful (placed n a (Some xs)) gs) (releasing_good types lawful (placed k b (Some ys)) gt) out room e in
      ne (λ i. placed (p i) (f.1 i) (Some (q i))))

  number_dec : (n k : TypeNumber) → Dec (n.main ≡ k.main) → Dec (n.sub ≡ k.sub) → Dec (n ≡ k)
  number_dec n k (no p) d = no (λ e. p (ap (λ x. x.main) e))
  number_dec n k (yes p) (no q) = no (λ e. q (ap (λ x. x.sub) e))
  number_dec n k (yes p) (yes q) = yes (λ i. record { main = p i; sub = q i })

  point_apart : (s t : Point) → Good types s → Good types t → (s ≡ t → ⊥) → ReadDiffers s t ⊎ ReleaseDiffers s t
  point_apart unplaced unplaced gs gt ne = absurd (ne refl)
  point_apart unplaced (placed k b g) gs gt ne = inl (λ out room e. same_read unplaced (placed k b g) gs gt out room e)
  point_apart (placed n a f) unplaced gs gt ne = inl (λ out room e. same_read (placed n a f) unplaced gs gt out room e)
  point_apart (placed n a None) (placed k b None) gs gt ne =
      inl (λ out room e. let f = same_read (placed n a None) (placed k b None) gs gt out room e in ne (λ i. placed (f.0 i) (f.1 i) None))
  point_apart (placed n a None) (placed k b (Some ys)) gs gt ne = inl (λ out room e. same_read (placed n a None) (placed k b (Some ys)) gs gt out room e)
  point_apart (placed n a (Some xs)) (placed k b None) gs gt ne = inl (λ out room e. same_read (placed n a (Some xs)) (placed k b None) gs gt out room e)
  point_apart (placed n a (Some xs)) (placed k b (Some ys)) gs gt ne =
      forced_apart n k a b xs ys gs gt ne (number_dec n k (ℕ_discrete n.main k.main) (ℕ_discrete n.sub k.sub)) (List-discrete ℤ_discrete xs ys)

  -- unequal lists have a point that differs
  find_apart : (k : ℕ) (a b : List Point) → length a ≡ length b → (show_from k a ≡ show_from k b → ⊥) → (i : ℕ) × (i < length a) × (get_or a i unplaced ≡ get_or b i unplaced → ⊥)
  find_apart k [] [] n ne = absurd (ne refl)
  find_apart k [] (t ∷ b) n ne = absurd (omega (arith, n))
  find_apart k (s ∷ a) [] n ne = absurd (omega (arith, n))
  find_apart k (s ∷ a) (t ∷ b) n ne = by (find_apart (suc k) a b (omega (arith, n))) (List-discrete ℕ_discrete (show_point k s) (show_point k t))
    where
      by : ((show_from (suc k) a ≡ show_from (suc k) b → ⊥) → (i : ℕ) × (i < length a) × (get_or a i unplaced ≡ get_or b i unplaced → ⊥)) → Dec (show_point k s ≡ show_point k t) → (i : ℕ) × (i < length (s ∷ a)) × (get_or (s ∷ a) i unplaced ≡ get_or (t ∷ b) i unplaced → ⊥)
      by more (no p) = (0, omega arith, λ e. p (ap (show_point k) e))
      by more (yes p) = let r = more (λ e. ne (λ i. p i ++ e i)) in (suc r.0, omega (arith, r.1), r.2)

  -- what the caller sees of a read, and back
  of_read : Answer Told × List ℤ → Seen
  of_read e = record { reply = tells e.0; numbers = e.1; octets = [] }

  abbrev answer_of : Reply → Answer Told
  answer_of (tells a) = a
  answer_of (counts a) = Err (0, [])
  answer_of (loads a) = Err (0, [])

  abbrev first_seen : List Seen → Answer Told × List ℤ
  first_seen [] = (Err (0, []), [])
  first_seen (s ∷ more) = (answer_of s.reply, s.numbers)

  abbrev second_seen : List Seen → Answer Told × List ℤ
  second_seen [] = (Err (0, []), [])
  second_seen (s ∷ more) = first_seen more

  module _ (i : ℕ) (low : i < 48) where
    look : (out : List ℤ) (points : List Point) → look_at (suc i) reading_out points out ≡ reading_out (get_or points i unplaced) out
    look out points =
        ap (λ (b : Bool). looked b (suc i) reading_out points out) (on_board_true types lawful (suc i) (omega arith) (omega arith))
        ∙ ap (λ (j : ℕ). reading_out (get_or points j unplaced) out) (omega arith)

    release : (points : List Point) → i < length points → get_or (at_point (suc i) releasing points).1 i unplaced ≡ (releasing (get_or points i unplaced)).1
    release points here =
        ap (λ (b : Bool). get_or (numbered b (suc i) releasing points).1 i unplaced) (on_board_true types lawful (suc i) (omega arith) (omega arith))
        ∙ ap (λ (j : ℕ). get_or (set points j (releasing (get_or points j unplaced)).1) i unplaced) (let e : suc i - 1 ≡ i = omega arith in e)
        ∙ get_or-set_same points i (releasing (get_or points i unplaced)).1 unplaced here

    read_tells : (a b : List Point) → ReadDiffers (get_or a i unplaced) (get_or b i unplaced) → ReadTells types (suc i) a b
    read_tells a b d out room e = d out room (sym (look out a) ∙ ap first_seen e ∙ look out b)

    release_tells : (a b : List Point) → i < length a → i < length b → ReleaseDiffers (get_or a i unplaced) (get_or b i unplaced) → ReleaseTells types (suc i) a b
    release_tells a b ha hb d out room e =
        let gone = λ (points : List Point). (at_point (suc i) releasing points).1 in
        let seen_in = λ (points : List Point) (h : i < length points). look out (gone points) ∙ ap (λ (s : Point). reading_out s out) (release points h) in
        d out room (sym (seen_in a ha) ∙ ap second_seen e ∙ seen_in b hb)

  pub told_apart : (a b : List Point) → GoodBoard types a → GoodBoard types b → (list_of a ≡ list_of b → ⊥) → (p : ℕ) × ((1 ≤ p) × (p ≤ 48)) × (ReadTells types p a b ⊎ ReleaseTells types p a b)
  told_apart a b ga gb ne =
      let f = find_apart 1 a b (ga.count ∙ sym gb.count) ne in
      let i = f.0 in
      let low : i < 48 = omega (arith, f.1, ga.count) in (
        suc i,
        (omega arith, omega arith),
        ⊎_elim
            (λ d. inl (read_tells i low a b d))
            (λ d. inr (release_tells i low a b f.1 (omega (arith, gb.count)) d))
            (point_apart (get_or a i unplaced) (get_or b i unplaced) (good_at types a i ga.each) (good_at types b i gb.each) f.2),
      )
