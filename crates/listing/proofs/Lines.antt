-- What the code found, as a row. Assumes nothing.
use Rattle.std.proofs.Common.{◌≡◌, ℕ, ◌<◌, List, length, ℤ, IfSome, Some, None, codes, Option, Bor, refl, ap, ◌∙◌}
use Rattle.listing.specs.declared.line.Line.{Line}
use Rattle.listing.specs.Fields.{kept}
use Rattle.listing.specs.Found.{found}
use Rattle.listing.specs.Line.{Held, Kept, held, held_fields, line_said, row_said, got_as, read_held, read_said}
use Rattle.listing.specs.Row.{Row}
use Rattle.listing.specs.Read.{Got, got, bad, ◌⨟◌, read_literal, read_reading, read_placed, read_readings, read_row}
use Rattle.listing.proofs.Rows.{row_shorter}

-- reading on with a value, or with its other form, comes to the same
module _ {A B D : Type 0} (h : B → D) where
  past : (g : Got A) (next : A → List ℕ → Got B) (other : A → List ℕ → Got D) → ((a : A) (t : List ℕ) → other a t ≡ got_as h (next a t)) → (g ⨟ other) ≡ got_as h (g ⨟ next)
  past (got a t) next other same = same a t
  past bad next other same = refl

  along : {C : Type 0} (f : A → C) (g : Got A) (next : A → List ℕ → Got B) (other : C → List ℕ → Got D) → ((a : A) (t : List ℕ) → other (f a) t ≡ got_as h (next a t)) → (got_as f g ⨟ other) ≡ got_as h (g ⨟ next)
  along f (got a t) next other same = same a t
  along f bad next other same = refl

-- a reading that is not `none`
pub held_these : (g : Got (List ℤ)) → got_as held (g ⨟ λ xs rest. got (Some xs) rest) ≡ got_as held_fields (got_as kept g)
held_these (got xs rest) = refl
held_these bad = refl

abbrev both : Option (List ℤ) × Option (List ℤ) → Held × Held
both o = (held o.0, held o.1)

readings_as : (s : List ℕ) → read_readings read_held s ≡ got_as both (read_readings read_reading s)
readings_as s =
    past both (read_literal (codes " normal=") s) _ _ λ _ t.
    along both held (read_reading t) _ _ λ n t.
    past both (read_literal (codes " forced=") t) _ _ λ _ t.
    along both held (read_reading t) _ _ λ m t.
    past both (read_literal (codes "\n") t) _ _ λ _ t. refl

-- a line with its readings held is the line of its row
pub said_row : (s : List ℕ) → read_said s ≡ got_as row_said (read_row s)
unfolding read_row
said_row s =
    past row_said (read_placed s) _ _ λ p t.
    ap (λ g. g ⨟ λ v t. got (record { point = p.0; number = p.1; normal = v.0; forced = v.1 }) t) (readings_as t)
    ∙ along row_said both (read_readings read_reading t) _ _ λ v t. refl

-- the rest is shorter than the text
pub onward : (text : List ℕ) (r : Option (Line Kept × Bor (List ℕ))) → got_as line_said (found r) ≡ got_as row_said (read_row text) → IfSome r (λ p. length p.1.now < length text)
onward text r e = by r (read_row text) refl e
  where
    by : (r : Option (Line Kept × Bor (List ℕ))) (g : Got Row) → read_row text ≡ g → got_as line_said (found r) ≡ got_as row_said g → IfSome r (λ p. length p.1.now < length text)
    by None g f e = tt
    by (Some p) (got row rest) f e =
        let end : rest ≡ p.1.now = cc in
        rw (← end) (row_shorter text row rest f)
    by (Some p) bad f e = cc
