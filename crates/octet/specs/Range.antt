-- One octet from 0 to a highest value. Assumes nothing.
use Rattle.std.specs.Prelude.{[], ◌∷◌, ℕ, nat_le, pos}
use Rattle.datapoint.specs.Meaning.{Meaning}
use Rattle.datapoint.specs.Shapes.{when, one, natural}

abbrev pub up_to : ℕ → Meaning
up_to highest = record {
  octets = 1;
  fields = 1;
  reading = one (λ b. when (nat_le b highest) (pos b ∷ []));
  payload = one (natural (λ n. when (nat_le n highest) (n ∷ [])));
}
