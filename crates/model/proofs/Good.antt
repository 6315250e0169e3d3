-- What every call keeps true of each point. Assumes nothing.
use Rattle.std.proofs.Common.{◌≡◌, ℕ, zero, suc, ◌-◌, ◌≤◌, Bool, true, false, eqb, List, [], ◌∷◌, length, get_or, ℤ, is_some, Some, None, Ok, Err, Option, refl, ◌∙◌, subst, arith, length-set}
use Rattle.std.proofs.ByRecursion.{All-set}
use Rattle.std.specs.List.{AllByRecursion}
use Rattle.datapoint.specs.declared.refusal.Refusal.{Refusal}
use Rattle.datapoint.specs.declared.refusal.Refusal.TheVariants.{IllegalPayload, IllegalReading}
use Rattle.datapoint.specs.Meaning.{Meaning, Lawful, Octets}
use Rattle.book.specs.declared.number.TypeNumber.{TypeNumber}
use Rattle.book.specs.Types.{Types, LawfulTypes}
use Rattle.model.specs.Points.{Point, unplaced, placed}
use Rattle.model.specs.Calls.{Answer, placing, place_as, removing, receiving, setting, overriding, releasing, become_normal, become_forced, understood, accepted, sized_or, legal_or, kept, at_point, numbered, on_board}
use Rattle.model.specs.Sound.{LegalIn}

-- a placed point: its type is the book's, its readings are legal, and its number can be written
pub record GoodPlaced (types : Types) (n : TypeNumber) (normal forced : Option (List ℤ)) : Type 0 where
  pub meaning : Meaning
  pub has : types n ≡ Some meaning
  pub normal_legal : LegalIn meaning normal
  pub forced_legal : LegalIn meaning forced
  pub main_most : n.main ≤ 65535
  pub sub_most : n.sub ≤ 65535

abbrev pub Good : Types → Point → Type 0
Good types unplaced = Unit {0}
Good types (placed n normal forced) = GoodPlaced types n normal forced

-- a payload or a reading that is taken was legal
taken : {A : Type 0} (b : Bool) (due : ℕ) (e : Refusal) (o : Option A) (a : A) → sized_or b due (legal_or e o) ≡ Ok a → o ≡ Some a
taken b due e o a h = grind arith

-- what is understood or accepted is legal
module _ (m : Meaning) (lawful : Lawful m) where
  understood_legal : (p : List ℕ) (xs : List ℤ) → Octets p → understood (Some m) p ≡ Ok xs → LegalIn m (Some xs)
  understood_legal p xs made h = lawful.legal p xs made (taken (eqb (length p) m.octets) m.octets IllegalPayload (m.reading p) xs h)

kept_legal : {B : Type 0} (o : Option (List ℕ)) (x y : B) → kept o x ≡ Some y → (x ≡ y) × (is_some o ≡ true)
kept_legal o x y h = grind arith

pub accepted_legal : (m : Meaning) (xs ys : List ℤ) → accepted (Some m) xs ≡ Ok ys → (xs ≡ ys) × LegalIn m (Some xs)
accepted_legal m xs ys h =
    kept_legal (m.payload xs) xs ys (taken (eqb (length xs) m.fields) m.fields IllegalReading (kept (m.payload xs) xs) ys h)

module _ (types : Types) (lawful : LawfulTypes types) where
  place_good : (n : TypeNumber) (o : Option Meaning) → types n ≡ o → n.main ≤ 65535 → n.sub ≤ 65535 → Good types (place_as o n).1
  place_good n None e main sub = tt
  place_good n (Some m) e main sub = record { meaning = m; has = e; normal_legal = tt; forced_legal = tt; main_most = main; sub_most = sub }

  pub placing_good : (n : TypeNumber) → n.main ≤ 65535 → n.sub ≤ 65535 → (s : Point) → Good types s → Good types (placing types n s).1
  placing_good n main sub unplaced g = place_good n (types n) refl main sub
  placing_good n main sub (placed m normal forced) g = g

  pub removing_good : (s : Point) → Good types s → Good types (removing s).1
  removing_good unplaced g = tt
  removing_good (placed n normal forced) g = tt

  normal_good : (n : TypeNumber) (normal : Option (List ℤ)) (g : GoodPlaced types n normal None) (a : Answer (List ℤ)) → ((xs : List ℤ) → a ≡ Ok xs → LegalIn g.meaning (Some xs)) → Good types (become_normal n normal a).1
  normal_good n normal g (Err e) legal = g
  normal_good n normal g (Ok xs) legal = record { meaning = g.meaning; has = g.has; normal_legal = legal xs refl; forced_legal = tt; main_most = g.main_most; sub_most = g.sub_most }

  pub receiving_good : (p : List ℕ) → Octets p → (s : Point) → Good types s → Good types (receiving types p s).1
  receiving_good p made unplaced g = tt
  receiving_good p made (placed n normal (Some xs)) g = g
  receiving_good p made (placed n normal None) g =
      normal_good n normal g (understood (types n) p)
      (λ xs h. understood_legal g.meaning (lawful n g.meaning g.has) p xs made (subst (λ o. understood o p ≡ Ok xs) g.has h))

  accepts : (n : TypeNumber) (m : Meaning) → types n ≡ Some m → (xs ys : List ℤ) → accepted (types n) xs ≡ Ok ys → LegalIn m (Some ys)
  accepts n m has xs ys h =
      let e = accepted_legal m xs ys (subst (λ o. accepted o xs ≡ Ok ys) has h) in
      subst (λ zs. LegalIn m (Some zs)) e.0 e.1

  pub setting_good : (xs : List ℤ) (s : Point) → Good types s → Good types (setting types xs s).1
  setting_good xs unplaced g = tt
  setting_good xs (placed n normal (Some ys)) g = g
  setting_good xs (placed n normal None) g = normal_good n normal g (accepted (types n) xs) (accepts n g.meaning g.has xs)

  forced_good : (n : TypeNumber) (normal forced : Option (List ℤ)) (g : GoodPlaced types n normal forced) (a : Answer (List ℤ)) → ((xs : List ℤ) → a ≡ Ok xs → LegalIn g.meaning (Some xs)) → Good types (become_forced n normal forced a).1
  forced_good n normal forced g (Err e) legal = g
  forced_good n normal forced g (Ok xs) legal = record { meaning = g.meaning; has = g.has; normal_legal = g.normal_legal; forced_legal = legal xs refl; main_most = g.main_most; sub_most = g.sub_most }

  pub overriding_good : (xs : List ℤ) (s : Point) → Good types s → Good types (overriding types xs s).1
  overriding_good xs unplaced g = tt
  overriding_good xs (placed n normal forced) g = forced_good n normal forced g (accepted (types n) xs) (accepts n g.meaning g.has xs)

  pub releasing_good : (s : Point) → Good types s → Good types (releasing s).1
  releasing_good unplaced g = tt
  releasing_good (placed n normal None) g = g
  releasing_good (placed n normal (Some xs)) g = record { meaning = g.meaning; has = g.has; normal_legal = g.normal_legal; forced_legal = tt; main_most = g.main_most; sub_most = g.sub_most }

-- a board of 48 good points
pub record GoodBoard (types : Types) (points : List Point) : Type 0 where
  pub count : length points ≡ 48
  pub each : AllByRecursion (Good types) points

pub good_at : (types : Types) (points : List Point) (i : ℕ) → AllByRecursion (Good types) points → Good types (get_or points i unplaced)
good_at types [] i h = tt
good_at types (s ∷ points) zero h = h.0
good_at types (s ∷ points) (suc i) h = good_at types points i h.1

good_numbered : {A : Type 0} (types : Types) (b : Bool) (p : ℕ) (f : Point → Answer A × Point) (points : List Point) → ((s : Point) → Good types s → Good types (f s).1) → GoodBoard types points → GoodBoard types (numbered b p f points).1
good_numbered types false p f points keeps g = g
good_numbered types true p f points keeps g = record {
  count = length-set points (p - 1) (f (get_or points (p - 1) unplaced)).1 ∙ g.count;
  each = All-set (Good types) points (p - 1) (f (get_or points (p - 1) unplaced)).1 (keeps (get_or points (p - 1) unplaced) (good_at types points (p - 1) g.each)) g.each;
}

pub good_changed : {A : Type 0} (types : Types) (p : ℕ) (f : Point → Answer A × Point) (points : List Point) → ((s : Point) → Good types s → Good types (f s).1) → GoodBoard types points → GoodBoard types (at_point p f points).1
good_changed types p f points keeps g = good_numbered types (on_board p) p f points keeps g
