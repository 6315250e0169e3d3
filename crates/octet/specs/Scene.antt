-- A scene number with one flag bit. Assumes nothing.
use Rattle.std.specs.Prelude.{◌&&◌, cond, [], ◌∷◌, ℕ, ◌+◌, ◌*◌, ◌/◌, ◌%◌, nat_le, nat_lt, ◌==◌, pos}
use Rattle.datapoint.specs.Meaning.{Meaning}
use Rattle.datapoint.specs.Shapes.{when, one, two, natural}
use Rattle.octet.specs.declared.scene.Flag.{Flag}
use Rattle.octet.specs.declared.scene.Flag.TheVariants.{Bit6, Bit7}

-- what the flag's bit adds to the octet
abbrev pub weight : Flag → ℕ
weight Bit6 = 64
weight Bit7 = 128

-- the flag, then the scene in bits 5 to 0; the other bits are zero
abbrev pub flagged : Flag → Meaning
flagged flag = record {
  octets = 1;
  fields = 2;
  reading = one (λ b. when (nat_lt b (2 * weight flag) && nat_lt (b % weight flag) 64) (pos (b / weight flag) ∷ (pos (b % weight flag) ∷ [])));
  payload = two (λ x y. natural (λ set. natural (λ scene. when (nat_le set 1 && nat_lt scene 64) ((cond (set == 1) (weight flag) 0 + scene) ∷ [])) y) x);
}
