-- Two types one after the other. Assumes nothing.
use Rattle.std.specs.Prelude.{ℕ, ◌+◌, Bool, cond, ◌&&◌, List, ◌++◌, take, drop, Some, None, Option, nat_le}
use Rattle.datapoint.specs.Meaning.{Meaning}

-- both lists, one after the other; None where either is None
abbrev pub both : {A : Type 0} → Option (List A) → Option (List A) → Option (List A)
both None ys = None
both (Some xs) None = None
both (Some xs) (Some ys) = Some (xs ++ ys)

-- what f makes of the first n elements, then what g makes of the others
abbrev pub halves : {A B : Type 0} → ℕ → (List A → Option (List B)) → (List A → Option (List B)) → List A → Option (List B)
halves n f g l = both (f (take n l)) (g (drop n l))

-- the octets and fields of a before those of b
abbrev pub appended : Meaning → Meaning → Meaning
appended a b = record {
  octets = a.octets + b.octets;
  fields = a.fields + b.fields;
  reading = halves a.octets a.reading b.reading;
  payload = halves a.fields a.payload b.payload;
}

-- 14 octets and 16 fields, with no legal payload and no legal reading
abbrev pub none_legal : Meaning
none_legal = record { octets = 14; fields = 16; reading = λ p. None; payload = λ xs. None }

-- a payload has at most 14 octets, and a reading at most 16 fields
abbrev pub fit : Meaning → Meaning → Bool
fit a b = nat_le (a.octets + b.octets) 14 && nat_le (a.fields + b.fields) 16

-- the joined type; one that would be too long has nothing legal
abbrev pub joined : Meaning → Meaning → Meaning
joined a b = cond (fit a b) (appended a b) none_legal
