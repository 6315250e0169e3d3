-- A direction with a step code. Assumes nothing.
use Rattle.std.specs.Prelude.{◌&&◌, cond, [], ◌∷◌, ◌+◌, ◌*◌, ◌/◌, ◌%◌, nat_le, nat_lt, ◌==◌, pos}
use Rattle.datapoint.specs.Meaning.{Meaning}
use Rattle.datapoint.specs.Shapes.{when, one, two, natural}

-- bit 3 is the direction and bits 2 to 0 are the step code; code 0 is a break, and its direction reads 0
abbrev pub stepped : Meaning
stepped = record {
  octets = 1;
  fields = 2;
  reading = one (λ b. when (nat_lt b 16) (pos (cond (b % 8 == 0) 0 (b / 8)) ∷ (pos (b % 8) ∷ [])));
  payload = two (λ x y. natural (λ direction. natural (λ code. when (nat_le direction (cond (code == 0) 0 1) && nat_lt code 8) ((8 * direction + code) ∷ [])) y) x);
}
