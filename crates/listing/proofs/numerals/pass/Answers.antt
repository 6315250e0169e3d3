use Rattle.std.proofs.Common.{◌≡◌, ◌≢◌, ℕ, List, ◌++◌, Some, None, Option, MatchOption, Bor, sym, refl, ap, ◌∙◌}
use Rattle.std.proofs.lemmas.Bool.Decides.{Decides-eqb}
use Rattle.std.proofs.lemmas.Slice.Eq.{strip_prefix_is}
use Rattle.listing.specs.Read.{Got, got, bad, read_literal}
use Rattle.listing.specs.Found.{passed}
use Rattle.listing.proofs.Law.{literal}
use Rattle.listing.proofs.numerals.pass.Goals as goal

stripped : (key s : List ℕ) (r : Option (Bor (List ℕ))) → MatchOption r ((rest : List ℕ) → s ≢ key ++ rest) (λ x. s ≡ key ++ x.now) → (g : Got (Unit {0})) → read_literal key s ≡ g → passed r ≡ read_literal key s
stripped key s None h (got u rest) e = absurd (h rest ((literal key).only s u rest e).0)
stripped key s None h bad e = sym e
stripped key s (Some x) h g e = sym (ap (read_literal key) h ∙ (literal key).back tt x.now tt tt)

pub returns : goal.returns
returns c =
    let key = c.args.key.now in
    let s = c.args.text.now in
    stripped key s _ (strip_prefix_is Decides-eqb s key _ c.strip_prefix.ensures.cases) (read_literal key s) refl
