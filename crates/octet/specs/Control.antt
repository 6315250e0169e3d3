-- A control bit with a value bit. Assumes nothing.
use Rattle.std.specs.Prelude.{◌&&◌, cond, [], ◌∷◌, ◌+◌, ◌*◌, ◌/◌, ◌%◌, nat_le, nat_lt, ◌==◌, pos}
use Rattle.datapoint.specs.Meaning.{Meaning}
use Rattle.datapoint.specs.Shapes.{when, one, two, natural}

-- bit 1 is the control and bit 0 the value, which reads 0 without control; the other bits are zero
abbrev pub controlled : Meaning
controlled = record {
  octets = 1;
  fields = 2;
  reading = one (λ b. when (nat_lt b 4) (pos (b / 2) ∷ (pos (cond (b / 2 == 0) 0 (b % 2)) ∷ [])));
  payload = two (λ x y. natural (λ control. natural (λ value. when (nat_le control 1 && nat_le value control) ((2 * control + value) ∷ [])) y) x);
}
