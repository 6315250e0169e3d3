use Rattle.std.proofs.Common.{refl, rules}
use Rattle.std.proofs.lemmas.Iterator.{YieldsList-from_range, YieldsList-from_map_by}
use Rattle.std.proofs.lemmas.Iterator.Search.{find_from_yields_List}
use Rattle.float.specs.Float.{held, least_exponent}
use Rattle.float.specs.declared.two_octets.Exponent.{Exponent}
use Rattle.float.proofs.two_octets.Exponent.smallest.Goals as goal

pub returns-clause-least : goal.returns-clause-least
unfolding least_exponent
returns-clause-least c =
    find_from_yields_List (held c.args.reading) _ _ c.find.result c.find.ensures.ran
    (YieldsList-from_map_by _ (λ (e : Exponent). e.power) (λ power. power) (YieldsList-from_range 0 16 16 c.map.ensures.source refl) c.map.ensures.closure (λ x e q k. search rules))
    (λ x b q k. search rules)
