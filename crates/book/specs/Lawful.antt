-- A type of either of two books is lawful, and so is a book bound of two lawful books. Assumes nothing.
use Rattle.std.specs.Prelude.{◌≡◌, Some, None, Option}
use Rattle.std.specs.Option.{option_or}
use Rattle.datapoint.specs.Meaning.{Meaning, Lawful}
use Rattle.either.specs.declared.Either.{Either}
use Rattle.either.specs.declared.Either.TheVariants.{Left, Right}
use Rattle.either.specs.Either.{either}
use Rattle.book.specs.Types.{Types, LawfulTypes, bound}

pub either_lawful : {A B : Type 0} {f : A → Meaning} {g : B → Meaning} → ((a : A) → Lawful (f a)) → ((b : B) → Lawful (g b)) → (e : Either A B) → Lawful (either f g e)
either_lawful l m (Left a) = l a
either_lawful l m (Right b) = m b

or_lawful : (a b : Option Meaning) → ((m : Meaning) → a ≡ Some m → Lawful m) → ((m : Meaning) → b ≡ Some m → Lawful m) → (m : Meaning) → option_or a b ≡ Some m → Lawful m
or_lawful None b f g = g
or_lawful (Some a) b f g = f

pub bound_lawful : {a b : Types} → LawfulTypes a → LawfulTypes b → LawfulTypes (bound a b)
bound_lawful {a} {b} f g n = or_lawful (a n) (b n) (f n) (g n)
