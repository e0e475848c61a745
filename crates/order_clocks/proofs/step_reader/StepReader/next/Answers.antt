use Rattle.std.proofs.Common.{◌≡◌, ℕ, List, ap, sym, ◌∙◌}
use Rattle.order_clocks.specs.Clocked.{moves_in}
use Rattle.order_clocks.specs.Happenings.{board_at}
use Rattle.order_clocks.specs.StepReading.{IsAtStep}
use Rattle.order_clocks.specs.Stops.{channel_at, channels_of, is_alarm_in, alarm_at}
use Rattle.order_clocks.specs.Watching.{IsLawful}
use Rattle.order_clocks.proofs.StopLaws.{entry_channel}
use Rattle.order_clocks.proofs.WholeLaws.{EntryAt, entry_at, moves_size, same_channels}
use Rattle.order_clocks.proofs.step_reader.StepReader.next.Goals as goal
use Rattle.sync_types.specs.Boards.{Board}
use Rattle.sync_types.specs.Views.{EntryView}

at_place : (c : goal.After-tell) (b : Board) → IsAtStep b c.args.entries.now c.args.place c.args.self.now → EntryAt b (moves_in c.args.entries.now) c.args.place c.index-entries-place.result
at_place c b at = rw (sym c.index-entries-place.is) at (entry_at c.args.entries.now b c.args.place c.index-entries-place.result c.requires.place at.entries)

alarms_alike : (c : goal.After-tell) (b : Board) → IsAtStep b c.args.entries.now c.args.place c.args.self.now → c.is_at-alarms.result ≡ alarm_at b (moves_in c.args.entries.now) c.args.place
alarms_alike c b at =
    let es : List EntryView = c.args.entries.now in
    let place : ℕ = c.args.place in
    let channel : channel_at (channels_of (moves_in es)) place ≡ c.index-entries-place.result.channel =
    ap (λ (cs : List ℕ). channel_at cs place) (same_channels es) ∙ (entry_channel es place c.index-entries-place.result c.requires.place ∙ ap (λ (e : EntryView). e.channel) (sym c.index-entries-place.is)) in
    c.is_at-alarms.ensures ∙ (ap (λ (d : ℕ). is_alarm_in c.args.self.now.stops place d) (sym channel) ∙ at.alarms.alarm place (rw (moves_size es) c.requires.place))

lawful : (c : goal.After-tell) (b : Board) → IsAtStep b c.args.entries.now c.args.place c.args.self.now
    → IsLawful (board_at b (moves_in c.args.entries.now) c.args.place) c.index-entries-place.result.channel c.index-entries-place.result.step c.index-entries-place.result.goes c.is_at-alarms.result
lawful c b at =
    let here = at_place c b at in
    record {
      running = here.running;
      goings = ap (λ (e : EntryView). e.goes) here.entry;
      alarm = alarms_alike c b at ∙ here.alarm;
    }

pub returns-clause-next : goal.returns-clause-next
returns-clause-next c = λ b at. record {
  entries = at.entries;
  sound = c.tell.ensures.sound;
  alarms = at.alarms;
  keeps = rw (at_place c b at).next (c.tell.ensures.keeps (board_at b (moves_in c.args.entries.now) c.args.place) at.keeps (lawful c b at));
}

pub returns-clause-read : goal.returns-clause-read
returns-clause-read c = λ b at. record {
  deed = rw (at_place c b at).happening (c.tell.ensures.reads (board_at b (moves_in c.args.entries.now) c.args.place) at.keeps (lawful c b at));
  alarms = alarms_alike c b at;
}
