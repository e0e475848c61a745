use Rattle.std.proofs.Common.{ℕ, ◌==◌, Bool, List, None, ap, ◌∙◌, refl}
use Rattle.std.specs.Prelude.{slice_index_or}
use Rattle.axis_sets.specs.Sets.{has}
use Rattle.order_clocks.specs.Happenings.{happening_of}
use Rattle.order_clocks.specs.Watching.{IsLawful, IsRead, WaitIsSound}
use Rattle.order_clocks.proofs.PartnerLaws.{AreRead, pairs_all, groups_are, given_below, sound_begun}
use Rattle.order_clocks.proofs.ReadLaws.{IsChange, changes_are}
use Rattle.order_clocks.proofs.TellLaws.{keeps_part, keeps_goings, goes_from, going_read}
use Rattle.order_clocks.proofs.watch.BoardReplay.tell.Goals as goal
use Rattle.sync_types.specs.BoardActions.{after_own_part}
use Rattle.sync_types.specs.Events.{pairs_of}
use Rattle.sync_types.specs.Turns.{goings_in_step}

pub returns-clause-reads : goal.returns-clause-reads
returns-clause-reads c = λ b keeps given.
    let lawful : IsLawful b c.channel-channel.result c.step-step.result.now c.goes.result.now c.args.alarms = rw (c.channel-channel.ensures, c.step-step.ensures, c.goes.ensures.goes) given in
    let own = λ (m : ℕ). ap (λ (s : List Bool). has s m) c.own.ensures ∙ keeps.marks c.channel-channel.result m in
    let change : IsChange c.changes_of-act.result (happening_of b c.channel-channel.result c.step-step.result.now) =
    changes_are b c.channel-channel.result c.step-step.result.now (has c.own.result) c.changes_of-act.result c.args.alarms lawful.alarm own c.changes_of-act.ensures.none c.changes_of-act.ensures.act in
    let part = keeps_part c.args.self.now c.open.new.self b c.channel-channel.result c.step-step.result.now c.changes_of-act.result keeps lawful.running change c.open.ensures.marks c.open.ensures.holds in
    let sound : (d : ℕ) → WaitIsSound (slice_index_or c.open.new.self.holds d None) = λ d. rw (c.open.ensures.holds d) (sound_begun (d == c.channel-channel.result) c.changes_of-act.result.begins c.step-step.result.now.line (slice_index_or c.args.self.now.holds d None) (c.requires.sound.holds d) c.changes_of-act.ensures.sound) in
    let going = λ (d : ℕ). going_read c.open.new.self b c.channel-channel.result c.step-step.result.now c.goes.result.now d (slice_index_or c.depart.new.gone d None) lawful.running part (sound d) lawful.goings (c.depart.ensures.goes d) in
    let are : AreRead c.depart.new.gone (goings_in_step b c.channel-channel.result c.step-step.result.now) (after_own_part b c.channel-channel.result c.step-step.result.now) = record {
      from = λ g within. (goes_from b c.channel-channel.result c.step-step.result.now g lawful.running within).from;
      read = going;
      size = c.depart.ensures.size;
      none = c.depart.ensures.none;
    } in
    let read : IsRead c.put_act.new.deed (happening_of b c.channel-channel.result c.step-step.result.now) = rw c.put_act.ensures (record {
      channel = refl;
      line = refl;
      raises = change.raises;
      lowers = change.lowers;
      frees = change.frees;
      starts = change.starts;
      ends = change.ends;
      touches = c.touches_of-touches.ensures;
      begins = change.begins;
      goings = going;
      group = λ d e d_on e_on. groups_are c.depart.new.gone (goings_in_step b c.channel-channel.result c.step-step.result.now) (after_own_part b c.channel-channel.result c.step-step.result.now) c.depart.new.group are
          (c.depart.ensures.joined d d_on)
          (c.depart.ensures.linked d d_on (pairs_of (goings_in_step b c.channel-channel.result c.step-step.result.now)) (pairs_all c.depart.new.gone (goings_in_step b c.channel-channel.result c.step-step.result.now) (after_own_part b c.channel-channel.result c.step-step.result.now) are))
          d e (given_below c.depart.new.gone d c.depart.ensures.size d_on) (given_below c.depart.new.gone e c.depart.ensures.size e_on);
    }) in
    rw (c.channel-channel.ensures, c.step-step.ensures) at read

pub returns-clause-keeps : goal.returns-clause-keeps
returns-clause-keeps c = λ b keeps given.
    let lawful : IsLawful b c.channel-channel.result c.step-step.result.now c.goes.result.now c.args.alarms = rw (c.channel-channel.ensures, c.step-step.ensures, c.goes.ensures.goes) given in
    let own = λ (m : ℕ). ap (λ (s : List Bool). has s m) c.own.ensures ∙ keeps.marks c.channel-channel.result m in
    let change : IsChange c.changes_of-act.result (happening_of b c.channel-channel.result c.step-step.result.now) =
    changes_are b c.channel-channel.result c.step-step.result.now (has c.own.result) c.changes_of-act.result c.args.alarms lawful.alarm own c.changes_of-act.ensures.none c.changes_of-act.ensures.act in
    let part = keeps_part c.args.self.now c.open.new.self b c.channel-channel.result c.step-step.result.now c.changes_of-act.result keeps lawful.running change c.open.ensures.marks c.open.ensures.holds in
    rw (c.channel-channel.ensures, c.step-step.ensures) at (
    keeps_goings c.open.new.self c.depart.new.self b c.channel-channel.result c.step-step.result.now c.goes.result.now lawful.running part lawful.goings c.depart.ensures.holds c.depart.ensures.marks)
