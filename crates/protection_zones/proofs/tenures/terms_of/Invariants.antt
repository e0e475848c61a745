use Rattle.std.proofs.Common.{◌≡◌, ◌++◌, ◌∷◌, [], drop, map}
use Rattle.protection_zones.specs.Exchanges.{shown_exchange, tenures_then}
use Rattle.protection_zones.specs.Terms.{shown_term}
use Rattle.zone_stretches.specs.Tenures.{first_tenure}
use Rattle.protection_zones.proofs.tenures.terms_of.Given as goal

abbrev pub invariant-loop-exchange : goal.invariant-loop-exchange
invariant-loop-exchange l =
    map shown_term l.terms.items ++ tenures_then l.zone (λ t. t ∷ []) (shown_term l.current) (map shown_exchange (drop l.exchange-index l.exchanges))
    ≡ tenures_then l.zone (λ t. t ∷ []) (first_tenure l.job l.zone) (map shown_exchange l.exchanges)
