use Rattle.std.proofs.Common.{◌≡◌, ◌∙◌, ◌+◌, get_or, drop, take, refl, sym, ap, subst, Bool, false, Option, arith}
use Rattle.std.specs.Option.{option_or}
use Rattle.order_clocks.specs.Tells.{is_before_in}
use Rattle.zone_stretches.proofs.ChainLaws.{passing_at}
use Rattle.clash_check.proofs.FirstLaws.{first_some-drop_more}
use Rattle.clash_check.proofs.NearLaws.{first_of_part}
use Rattle.clash_check.proofs.PassedLaws.{empty_memory}
use Rattle.zone_stretches.proofs.WalkLaws.{places_of, walk_on}
use Rattle.zone_stretches.specs.Ascents.{IsBetween, PassFirst, passes}
use Rattle.clash_check.specs.FirstAnswer.{first_some}
use Rattle.clash_check.specs.Meetings.{Names, first_against}
use Rattle.zone_stretches.specs.Cases.{Case}
use Rattle.zone_stretches.specs.Stretches.{StretchView}
use Rattle.clash_check.proofs.meetings.first_of_ascending.Goals as goal

pub range_of-range-requires-clause-known : goal.range_of-range-requires-clause-known
range_of-range-requires-clause-known c on =
    subst (λ (x : StretchView). IsBetween (is_before_in c.args.scene.now.clocks.now.rows) x c.args.other.now.stretches.now c.loop-stretch.walk.range c.loop-stretch.walk.limit) (sym c.stretch-item.is)
    ((c.loop-stretch.invariant.2 on).1 c.loop-stretch.stretch-index c.stretch-item.result (omega arith) c.loop-stretch-test.true)

pub range_of-range-requires-clause-passing : goal.range_of-range-requires-clause-passing
range_of-range-requires-clause-passing c =
    subst (λ (x : StretchView). (ended : Bool) → PassFirst (passes (is_before_in c.args.scene.now.clocks.now.rows) ended x) c.args.other.now.stretches.now) (sym c.stretch-item.is)
    (passing_at (is_before_in c.args.scene.now.clocks.now.rows) c.args.own.now c.args.other.now.stretches.now c.loop-stretch.stretch-index c.stretch-item.result c.requires.timed c.requires.ascend c.loop-stretch-test.true)

pub returns-in-Some : goal.returns-in-Some
returns-in-Some c =
    let case : Case = record { job = c.args.scene.now.job.now; run = c.args.scene.now.run.now; before = is_before_in c.args.scene.now.clocks.now.rows } in
    let found : StretchView → Option Names = first_against case c.args.zone.now (record { zone = c.args.other.now.zone.now; stretches = c.args.other.now.stretches.now }) in
    let first : PassFirst (passes case.before false c.stretch-item.result) c.args.other.now.stretches.now =
    subst (λ (x : StretchView). PassFirst (passes case.before false x) c.args.other.now.stretches.now) (sym c.stretch-item.is)
    (passing_at case.before c.args.own.now c.args.other.now.stretches.now c.loop-stretch.stretch-index c.stretch-item.result c.requires.timed c.requires.ascend c.loop-stretch-test.true false) in
    let here : c.first_in_range.result ≡ found c.stretch-item.result =
    c.first_in_range.ensures.names ∙ first_of_part case c.args.zone.now c.stretch-item.result c.args.other.now.zone.now c.args.other.now.stretches.now (drop c.range_of-range.result.from (take c.range_of-range.result.upto c.args.other.now.stretches.now)) c.range_of-range.result.from c.range_of-range.result.upto first
    c.range_of-range.ensures.from c.range_of-range.ensures.upto refl in
    ap (λ (r : Option Names). option_or r (first_some found (drop (c.loop-stretch.stretch-index + 1) c.args.own.now))) (sym c.in-Some.is ∙ here)
    ∙ sym (first_some-drop_more found c.args.own.now c.loop-stretch.stretch-index c.stretch-item.result c.loop-stretch-test.true c.stretch-item.is) ∙ c.loop-stretch.invariant.0

pub loop-stretch-preserved : goal.loop-stretch-preserved
loop-stretch-preserved c =
    let case : Case = record { job = c.args.scene.now.job.now; run = c.args.scene.now.run.now; before = is_before_in c.args.scene.now.clocks.now.rows } in
    let found : StretchView → Option Names = first_against case c.args.zone.now (record { zone = c.args.other.now.zone.now; stretches = c.args.other.now.stretches.now }) in
    let first : PassFirst (passes case.before false c.stretch-item.result) c.args.other.now.stretches.now =
    subst (λ (x : StretchView). PassFirst (passes case.before false x) c.args.other.now.stretches.now) (sym c.stretch-item.is)
    (passing_at case.before c.args.own.now c.args.other.now.stretches.now c.loop-stretch.stretch-index c.stretch-item.result c.requires.timed c.requires.ascend c.loop-stretch-test.true false) in
    let here : c.first_in_range.result ≡ found c.stretch-item.result =
    c.first_in_range.ensures.names ∙ first_of_part case c.args.zone.now c.stretch-item.result c.args.other.now.zone.now c.args.other.now.stretches.now (drop c.range_of-range.result.from (take c.range_of-range.result.upto c.args.other.now.stretches.now)) c.range_of-range.result.from c.range_of-range.result.upto first
    c.range_of-range.ensures.from c.range_of-range.ensures.upto refl in (
      ap (λ (r : Option Names). option_or r (first_some found (drop (c.loop-stretch.stretch-index + 1) c.args.own.now))) (sym c.in_default.is ∙ here)
          ∙ sym (first_some-drop_more found c.args.own.now c.loop-stretch.stretch-index c.stretch-item.result c.loop-stretch-test.true c.stretch-item.is) ∙ c.loop-stretch.invariant.0,
      c.first_in_range.ensures.memory,
      walk_on case.before c.args.own.now c.args.other.now.stretches.now c.requires.timed c.loop-stretch.walk _ c.loop-stretch.stretch-index c.stretch-item.result c.loop-stretch-test.true refl refl
          (places_of case.before c.args.own.now c.args.other.now.stretches.now c.requires.timed c.stretch-item.result (get_or c.args.own.now c.loop-stretch.stretch-index c.stretch-item.result) c.range_of-range.result
          c.stretch-item.is c.range_of-range.ensures.from c.range_of-range.ensures.upto)
          c.loop-stretch.invariant.2,
    )

pub loop-stretch-init : goal.loop-stretch-init
loop-stretch-init c = (
  refl,
  λ k d below at. empty_memory c.args.scene.now.job.now c.args.scene.now.run.now c.args.zone.now c.args.other.now.zone.now (get_or c.args.other.now.stretches.now k d) c.new_memory-memory.result
      c.new_memory-memory.ensures.covers c.new_memory-memory.ensures.pieces c.new_memory-memory.ensures.passed,
  c.start_walk-walk.ensures,
)
