use Rattle.std.proofs.Common.{◌∙◌, List, [], map, refl, sym, ap, subst, arith}
use Rattle.std.proofs.lemmas.List.{take_all}
use Rattle.explain_meetings.proofs.GroupLaws.{named_at_place, named_none}
use Rattle.explain_meetings.specs.GroupSteps.{AreNamed, key_of}
use Rattle.explain_meetings.specs.declared.groups.Named.{Named}
use Rattle.explain_places.specs.declared.place.Meeting.{Meeting}
use Rattle.explain_meetings.proofs.groups.named_of.Goals as goal

pub loop-place-init : goal.loop-place-init
loop-place-init c = (
  subst (λ (rows : List Named). AreNamed [] rows) (sym c.new-rows.ensures.items) named_none,
  c.new-keys.ensures.empty ∙ ap (λ (rows : List Named). map key_of rows) (sym c.new-rows.ensures.items),
)

pub loop-place-preserved : goal.loop-place-preserved
loop-place-preserved c = (
  named_at_place c.args.met.now c.loop-place.place _ c.index-met-place.result c.index-met-place.result c.named_at.result c.loop-place.rows.items _ (omega arith) refl c.index-met-place.is c.named_at.ensures
      c.in_ok-put.ensures.rows c.loop-place.invariant.0,
  c.in_ok-put.ensures.keys,
)

pub returns : goal.returns
returns c = subst (λ (met : List Meeting). AreNamed met c.loop-place.rows.items) (take_all c.loop-place.place c.args.met.now (omega arith)) c.loop-place.invariant.0
