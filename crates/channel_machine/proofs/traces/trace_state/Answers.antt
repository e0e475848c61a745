use Rattle.std.proofs.Common.{◌∙◌, ap, subst, sym}
use Rattle.channel_machine.specs.Kept.{Advances, Keeps, state_view}
use Rattle.channel_machine.specs.declared.local.State.{State}
use Rattle.channel_machine.proofs.Segments.{alarms_so, ends_so, goes_so, setting_kept}
use Rattle.channel_machine.proofs.traces.trace_state.Goals as goal

pub returns-in-Some-clause-told : goal.returns-in-Some-clause-told
returns-in-Some-clause-told c s c' set keeps =
    let was = c.loop-items.invariant.told s c' set keeps in
    let state = c.deref_mut.result.now in
    let same = c.deref_mut.ensures.value in
    let kept = state_view c.loop-items.state.value in
    let advanced : Advances s was.next c.loop-items.items.items c.advance.new.halt c.advance.new.items.items (state_view c.advance.new.state) =
    c.in_ok-advance.ensures.told s was.next (setting_kept c.args.job.now s (state_view c.args.start.value) (state_view state) set (ap (λ (old : State). old.channel) same ∙ c.loop-items.invariant.channel))
    (subst (λ (old : State). Keeps s was.next (state_view old)) (sym same) was.keeps) in
    record {
      segment = ends_so s c' c.loop-items.items.items c.advance.new.items.items kept (state_view c.advance.new.state) was c.advance.new.halt c.in-Some.step c.in-Some.is advanced;
      levels = λ placed.
          c.levels_at_step-levels.ensures
          ∙ alarms_so s c' c.loop-items.items.items c.advance.new.items.items kept (state_view c.advance.new.state) was c.advance.new.halt c.in-Some.step c.in-Some.is advanced c.copied_some-before.result
          (c.copied_some-before.ensures ∙ ap (λ (old : State). old.levels) c.deref.ensures) placed;
    }

pub loop-items-preserved : goal.loop-items-preserved
loop-items-preserved c =
    let state = c.deref_mut.result.now in
    let same = c.deref_mut.ensures.value in
    let channel = ap (λ (old : State). old.channel) same ∙ c.loop-items.invariant.channel in
    record {
      fit = c.in_ok-advance.ensures.fit;
      few = c.in_ok-advance.ensures.few;
      goes = c.in-None.is;
      channel = c.in_ok-advance.ensures.channel ∙ channel;
      told = λ s c' set keeps.
          let was = c.loop-items.invariant.told s c' set keeps in
          goes_so s c' c.loop-items.items.items c.advance.new.items.items (state_view c.loop-items.state.value) (state_view c.advance.new.state) was c.advance.new.halt c.in-None.is
          (c.in_ok-advance.ensures.told s was.next (setting_kept c.args.job.now s (state_view c.args.start.value) (state_view state) set channel)
          (subst (λ (old : State). Keeps s was.next (state_view old)) (sym same) was.keeps));
    }
