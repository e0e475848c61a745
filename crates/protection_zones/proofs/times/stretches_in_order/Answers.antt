use Rattle.std.proofs.Common.{◌==◌, ◌∙◌, ◌∷◌, [], ℕ, List, Option, find, map, sym}
use Rattle.std.specs.Prelude.{Vec}
use Rattle.std.specs.Global.{Global}
use Rattle.std.proofs.lemmas.List.{map-append}
use Rattle.job_types.specs.declared.job.ZoneLine.{ZoneLine}
use Rattle.number_laws.proofs.Lists.{map-range_some, map-range_none}
use Rattle.protection_zones.specs.Beginnings.{all_items}
use Rattle.zone_stretches.specs.Stretches.{StretchView, stretches_of_zone}
use Rattle.zone_stretches.specs.declared.stretches.Stretch.{Stretch}
use Rattle.protection_zones.proofs.times.stretches_in_order.Goals as goal
use Rattle.protection_zones.proofs.times.stretches_in_order.Goals.{in-Some+in_ok-stretches+in_ok-push, in_default}

pub loop-index-preserved : goal.loop-index-preserved
loop-index-preserved c = λ os is.
    let told : ZoneLine → List StretchView = stretches_of_zone c.args.job.now (all_items c.args.items.now) os in
    let numbered : ℕ → Option ZoneLine = λ number. find (λ zone. zone.zone == number) c.args.job.now.zones in
    let lists : List (Vec Stretch Global) → List (List StretchView) = map (λ s. s.items) in
    elim c.match-zone_line.branch [
      | in-Some+in_ok-stretches+in_ok-push w ↦
          rw (w.zones-is, w.in_ok-push.ensures.items, map-append (λ (s : Vec Stretch Global). s.items) c.loop-index.zones.items (w.in_ok-stretches.stretches ∷ []), w.in_ok-stretches.ensures os is)
          (map-range_some told numbered 1 c.loop-index.index w.in-Some.zone (lists c.loop-index.zones.items) (c.loop-index.invariant os is) (sym c.zone_line.ensures ∙ w.in-Some.is))
      | in_default w ↦ rw w.zones-is (map-range_none told numbered 1 c.loop-index.index (lists c.loop-index.zones.items) (c.loop-index.invariant os is) (sym c.zone_line.ensures ∙ w.in_default.is))
    ]
