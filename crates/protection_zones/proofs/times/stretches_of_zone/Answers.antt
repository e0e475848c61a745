use Rattle.std.proofs.Common.{◌≡◌, ◌∙◌, ◌∷◌, [], ap, map, List}
use Rattle.std.specs.List.{flat_map}
use Rattle.std.proofs.lemmas.Result.{IfOk-weaker}
use Rattle.job_types.specs.Job.{JobView}
use Rattle.job_types.specs.declared.job.ZoneLine.{ZoneLine}
use Rattle.protection_zones.specs.Beginnings.{all_items}
use Rattle.protection_zones.specs.Exchanges.{shown_exchange, tenures_then}
use Rattle.zone_stretches.specs.Spans.{spans_of}
use Rattle.zone_stretches.specs.Stretches.{stretches_in_tenure, stretches_of_zone}
use Rattle.zone_stretches.specs.Tenures.{TenureView, first_tenure, tenures_of}
use Rattle.protection_zones.specs.Terms.{shown_term}
use Rattle.protection_zones.specs.declared.exchanges.HandOver.{HandOver}
use Rattle.protection_zones.specs.declared.tenures.Tenure.{Tenure}
use Rattle.protection_zones.proofs.ExchangeLaws.{tenures_by}
use Rattle.protection_zones.proofs.times.stretches_of_zone.Goals as goal

pub returns : goal.returns
unfolding stretches_of_zone
returns c = λ os is.
    let job : JobView = c.args.scene.now.job.now in
    let zone : ZoneLine = c.args.scene.now.zone.now in
    let terms : map shown_term c.in_ok-terms.terms.items ≡ tenures_of job os zone =
    c.in_ok-terms.ensures
    ∙ (ap (λ (es : List HandOver). tenures_then zone (λ t. t ∷ []) (first_tenure job zone) (map shown_exchange es)) c.as_slice.ensures.value
    ∙ tenures_by job os zone (map shown_exchange c.args.log.now.exchanges.items) is.exchanges) in
    let some : map shown_term c.as_slice-3.result.now ≡ tenures_of job os zone = ap (λ (ts : List Tenure). map shown_term ts) c.as_slice-3.ensures.value ∙ terms in
    IfOk-weaker c.stretches.result _ _ (λ stretches told. told ∙ ap (λ (ts : List TenureView). flat_map (stretches_in_tenure job zone (spans_of job (all_items c.args.scene.now.items.now) os)) ts) some)
    (c.stretches.ensures os (rw c.as_slice-2.ensures.value is.outsets))
