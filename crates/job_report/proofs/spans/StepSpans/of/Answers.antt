use Rattle.std.proofs.Common.{◌≡◌, ◌∙◌, ℕ, zero, suc, if◌then◌else◌, Bool, List, [], ◌∷◌, length, get_or, replicate, le_antisymm, eq-eqb, refl, ap, sym, subst}
use Rattle.axis_sets.specs.declared.limits.TheConstants.{CHANNEL_PLACES}
use Rattle.job_report.proofs.SpanLemmas.{AreBetween-next, Between-fresh, Between-more, Between-none}
use Rattle.job_report.proofs.spans.StepSpans.of.Goals as goal
use Rattle.job_report.proofs.spans.StepSpans.of.Goals.{then-place_of-eq0, else-place_of-eq0}
use Rattle.job_report.specs.Spans.{StandBetween}

-- of many times one number each is that number
all_alike : (number n c : ℕ) → get_or (replicate n number) c number ≡ number
all_alike number zero c = refl
all_alike number (suc n) zero = refl
all_alike number (suc n) (suc c) = all_alike number n c

pub loop-place-init : goal.loop-place-init
loop-place-init c channel known =
    subst (λ (n : ℕ). StandBetween c.args.entries.now 0 channel n n) (sym (all_alike 0 CHANNEL_PLACES channel)) (Between-none c.args.entries.now channel)

pub loop-place-preserved : goal.loop-place-preserved
loop-place-preserved c =
    let entries = c.args.entries.now in
    let place = c.loop-place.place in
    let channel = c.channel-channel.result in
    let first = c.loop-place.first in
    let end = c.loop-place.end in
    let ends = c.set_place-in-loop-place.new.places in
    let old : StandBetween entries place channel (get_or first channel 0) (get_or end channel 0) = c.loop-place.invariant channel c.place_of.ensures.known in
    elim c.if-place_of-eq0.branch [
      | then-place_of-eq0 w ↦
          let firsts = w.set_place.new.places in
          let none : get_or end channel 0 ≡ 0 = sym c.place_of.ensures.value ∙ w.if-place_of-eq0.true in
          let fresh : StandBetween entries place channel (get_or first channel 0) 0 = rw none at old in
          let at : get_or firsts channel 0 ≡ place =
          w.set_place.ensures channel ∙ ap (λ (b : Bool). if b then place else get_or first channel 0) (eq-eqb channel channel refl) in
          rw w.first-is
          (AreBetween-next entries place channel first end firsts ends c.index-entries-place.result c.loop-place-test.true (sym c.index-entries-place.is)
          c.channel-channel.ensures c.set_place-in-loop-place.ensures
          (λ d other. w.set_place.ensures d ∙ ap (λ (b : Bool). if b then place else get_or first d 0) other)
          (rw at (Between-fresh entries place channel (get_or first channel 0) fresh)) c.loop-place.invariant)
      | else-place_of-eq0 w ↦
          rw w.first-is
          (AreBetween-next entries place channel first end first ends c.index-entries-place.result c.loop-place-test.true (sym c.index-entries-place.is)
          c.channel-channel.ensures c.set_place-in-loop-place.ensures (λ d other. refl)
          (Between-more entries place channel (get_or first channel 0) (get_or end channel 0) old) c.loop-place.invariant)
    ]

pub returns : goal.returns
returns c =
    let all : c.loop-place.place ≡ length c.args.entries.now = le_antisymm c.loop-place.auto.place-end c.loop-place-test.false in
    rw (← all) c.loop-place.invariant
