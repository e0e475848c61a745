use Rattle.std.proofs.Common.{◌≡◌, ◌∙◌, ◌+◌, ◌<◌, ◌≤◌, ℕ, drop, take, get_or, length, Option, sym, ap, subst, arith}
use Rattle.std.proofs.lemmas.List.{get_or_default}
use Rattle.std.specs.Option.{option_or}
use Rattle.order_clocks.specs.Tells.{is_before_in}
use Rattle.clash_check.proofs.ShownLaws.{next_within, skip, skip_one}
use Rattle.clash_check.specs.FirstAnswer.{first_some}
use Rattle.clash_check.specs.Meetings.{Names, first_in_stretches}
use Rattle.zone_stretches.specs.Cases.{Case}
use Rattle.clash_check.specs.Passing.{IsMemory, IsMemoryOfAny}
use Rattle.clash_check.specs.Shown.{next_shown}
use Rattle.zone_stretches.specs.Stretches.{StretchView}
use Rattle.clash_check.proofs.meetings.first_of_shown.Goals as goal

pub loop-place-init : goal.loop-place-init
loop-place-init c =
    let case : Case = record { job = c.args.scene.now.job.now; run = c.args.scene.now.run.now; before = is_before_in c.args.scene.now.clocks.now.rows } in
    let next_is : get_or c.args.other.now.next.now c.args.range.from 0 ≡ next_shown c.args.other.now.stretches.now c.args.range.from = c.requires.next.1 c.args.range.from c.requires.within_from in
    let within = next_within c.args.other.now.stretches.now c.args.range.from c.requires.within_from in (
      ap (λ (n : ℕ). first_some (first_in_stretches case c.args.left.now.zone.now c.args.left.now.stretch.now c.args.other.now.zone.now) (drop n (take c.args.range.upto c.args.other.now.stretches.now))) next_is
          ∙ sym (skip case c.args.left.now.zone.now c.args.left.now.stretch.now c.args.other.now.zone.now c.args.other.now.stretches.now c.args.range.upto c.args.range.from),
      subst (λ (n : ℕ). n ≤ length c.args.other.now.stretches.now) (sym next_is) within.1,
      c.requires.memory,
    )

pub returns-in-Some-clause-names : goal.returns-in-Some-clause-names
returns-in-Some-clause-names c =
    let case : Case = record { job = c.args.scene.now.job.now; run = c.args.scene.now.run.now; before = is_before_in c.args.scene.now.clocks.now.rows } in
    let found : StretchView → Option Names = first_in_stretches case c.args.left.now.zone.now c.args.left.now.stretch.now c.args.other.now.zone.now in
    let next : ℕ = get_or c.args.other.now.next.now (c.loop-place.place + 1) 0 in
    let here : c.loop-place.place + 1 ≤ length c.args.other.now.stretches.now = (let test = c.loop-place-test.true in let within = c.requires.within in omega (arith, test, within)) in
    let next_is : next ≡ next_shown c.args.other.now.stretches.now (c.loop-place.place + 1) = c.requires.next.1 (c.loop-place.place + 1) here in
    let at_place : c.first_in_stretches.result ≡ found (get_or c.args.other.now.stretches.now c.loop-place.place c.index-others-place.result) = c.first_in_stretches.ensures.names ∙ ap found c.index-others-place.is in
    let all = ap (λ (r : Option Names). option_or r (first_some found (drop next (take c.args.range.upto c.args.other.now.stretches.now)))) (sym c.in-Some.is ∙ at_place)
    ∙ sym (skip_one case c.args.left.now.zone.now c.args.left.now.stretch.now c.args.other.now.zone.now c.args.other.now.stretches.now c.args.range.upto c.loop-place.place next c.index-others-place.result c.loop-place-test.true
    (omega (arith, here)) next_is) ∙ c.loop-place.invariant.0 in
    all

pub loop-place-preserved : goal.loop-place-preserved
loop-place-preserved c =
    let case : Case = record { job = c.args.scene.now.job.now; run = c.args.scene.now.run.now; before = is_before_in c.args.scene.now.clocks.now.rows } in
    let found : StretchView → Option Names = first_in_stretches case c.args.left.now.zone.now c.args.left.now.stretch.now c.args.other.now.zone.now in
    let next : ℕ = get_or c.args.other.now.next.now (c.loop-place.place + 1) 0 in
    let here : c.loop-place.place + 1 ≤ length c.args.other.now.stretches.now = (let test = c.loop-place-test.true in let within = c.requires.within in omega (arith, test, within)) in
    let next_is : next ≡ next_shown c.args.other.now.stretches.now (c.loop-place.place + 1) = c.requires.next.1 (c.loop-place.place + 1) here in
    let at_place : c.first_in_stretches.result ≡ found (get_or c.args.other.now.stretches.now c.loop-place.place c.index-others-place.result) = c.first_in_stretches.ensures.names ∙ ap found c.index-others-place.is in
    let all = ap (λ (r : Option Names). option_or r (first_some found (drop next (take c.args.range.upto c.args.other.now.stretches.now)))) (sym c.in_default.is ∙ at_place)
    ∙ sym (skip_one case c.args.left.now.zone.now c.args.left.now.stretch.now c.args.other.now.zone.now c.args.other.now.stretches.now c.args.range.upto c.loop-place.place next c.index-others-place.result c.loop-place-test.true
    (omega (arith, here)) next_is) ∙ c.loop-place.invariant.0 in
    let stays : IsMemoryOfAny c.args.scene.now.job.now c.args.scene.now.run.now c.args.left.now.zone.now c.args.other.now.zone.now c.args.other.now.stretches.now c.first_in_stretches.new.memory =
    λ k d below at. c.first_in_stretches.ensures.memory k (get_or c.args.other.now.stretches.now k d)
    (λ same. ap (λ (n : ℕ). get_or c.args.other.now.stretches.now n d) same ∙ get_or_default c.args.other.now.stretches.now c.loop-place.place d c.index-others-place.result (omega (arith, here)) ∙ sym c.index-others-place.is)
    (c.loop-place.invariant.2 k d below) at in
    (all, subst (λ (n : ℕ). n ≤ length c.args.other.now.stretches.now) (sym next_is) (let within = next_within c.args.other.now.stretches.now (c.loop-place.place + 1) here in within.1), stays)

pub first_in_stretches-requires-clause-memory : goal.first_in_stretches-requires-clause-memory
first_in_stretches-requires-clause-memory c at =
    let below : c.loop-place.place < length c.args.other.now.stretches.now = (let test = c.loop-place-test.true in let within = c.requires.within in omega (arith, test, within)) in
    subst (λ (s : StretchView). IsMemory c.args.scene.now.job.now c.args.scene.now.run.now c.args.left.now.zone.now c.args.other.now.zone.now s c.loop-place.memory) (sym c.index-others-place.is)
    (c.loop-place.invariant.2 c.loop-place.place c.index-others-place.result below at)

pub returns-in-Some-clause-memory : goal.returns-in-Some-clause-memory
returns-in-Some-clause-memory c k d below at =
    let here : c.loop-place.place < length c.args.other.now.stretches.now = (let test = c.loop-place-test.true in let within = c.requires.within in omega (arith, test, within)) in
    c.first_in_stretches.ensures.memory k (get_or c.args.other.now.stretches.now k d)
    (λ same. ap (λ (n : ℕ). get_or c.args.other.now.stretches.now n d) same ∙ get_or_default c.args.other.now.stretches.now c.loop-place.place d c.index-others-place.result here ∙ sym c.index-others-place.is)
    (c.loop-place.invariant.2 k d below) at
