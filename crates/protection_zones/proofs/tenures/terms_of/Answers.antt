use Rattle.std.proofs.Common.{◌∙◌, ◌+◌, ◌++◌, ◌∷◌, [], List, ap, sym, append_assoc, map, drop}
use Rattle.std.proofs.lemmas.List.{map-append}
use Rattle.protection_zones.specs.Exchanges.{HandOverView, shown_exchange}
use Rattle.zone_stretches.specs.Tenures.{TenureView}
use Rattle.protection_zones.specs.Terms.{shown_term}
use Rattle.protection_zones.proofs.TenureLaws.{hands_change, hands_stay, next_exchange}
use Rattle.protection_zones.proofs.tenures.terms_of.Goals as goal
use Rattle.protection_zones.proofs.tenures.terms_of.Goals.{then-changes+in_ok-push, else-changes}

pub loop-exchange-preserved : goal.loop-exchange-preserved
loop-exchange-preserved c =
    let rest : List HandOverView = map shown_exchange (drop (c.loop-exchange.exchange-index + 1) c.args.exchanges.now) in
    let only : TenureView → List TenureView = λ t. t ∷ [] in
    let next = next_exchange c.args.zone.now only (shown_term c.loop-exchange.current) c.args.exchanges.now c.loop-exchange.exchange-index c.exchange-item.result c.loop-exchange-test.true c.exchange-item.is in
    elim c.if-changes.branch [
      | then-changes+in_ok-push w ↦
          rw (w.terms-is, w.current-is, w.in_ok-push.ensures.items, map-append shown_term c.loop-exchange.terms.items (w.term_until.result ∷ []), w.term_until.ensures, w.term_after-current.ensures)
          (append_assoc (map shown_term c.loop-exchange.terms.items) (_ ∷ []) _
          ∙ (ap (λ (ts : List TenureView). map shown_term c.loop-exchange.terms.items ++ ts)
          (sym (next ∙ hands_change c.args.zone.now only (shown_term c.loop-exchange.current) c.exchange-item.result rest (sym c.changes.ensures ∙ w.if-changes.true)))
          ∙ c.loop-exchange.invariant))
      | else-changes w ↦
          rw (w.terms-is, w.current-is)
          (ap (λ (ts : List TenureView). map shown_term c.loop-exchange.terms.items ++ ts)
          (sym (next ∙ hands_stay c.args.zone.now only (shown_term c.loop-exchange.current) c.exchange-item.result rest (sym c.changes.ensures ∙ w.if-changes.false)))
          ∙ c.loop-exchange.invariant)
    ]
