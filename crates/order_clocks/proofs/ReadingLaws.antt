-- One entry more is read.
use Rattle.axis_sets.specs.declared.limits.TheConstants.{CHANNEL_PLACES}
use Rattle.std.proofs.Common.{◌≡◌, ℕ, suc, ◌<◌, Bool, false, List, length, slice_index_or, sym, ap, ◌∙◌}
use Rattle.counter_rows.specs.declared.table.StepClocks.{StepClocks}
use Rattle.order_clocks.specs.Clocked.{moves_in}
use Rattle.order_clocks.specs.Counters.{last_rows}
use Rattle.order_clocks.specs.CourseOf.{course_of}
use Rattle.order_clocks.specs.Happenings.{board_at, happening_at, happening_of}
use Rattle.order_clocks.specs.Reading.{IsReadAt, IsReaderAt}
use Rattle.order_clocks.specs.Steps.{AreRows, IsStep, Shows}
use Rattle.order_clocks.specs.Stops.{channel_at, channels_of, is_alarm_in}
use Rattle.order_clocks.specs.Watching.{IsLawful, IsRead, Keeps, WatchIsSound}
use Rattle.step_deeds.specs.declared.deed.StepEvents.{StepEvents}
use Rattle.order_clocks.specs.declared.reader.ClockReader.{ClockReader}
use Rattle.order_clocks.specs.declared.times.LastClocks.{LastClocks}
use Rattle.order_clocks.specs.declared.watch.BoardReplay.{BoardReplay}
use Rattle.order_clocks.proofs.StopLaws.{entry_channel}
use Rattle.order_clocks.proofs.TellLaws.{only_one}
use Rattle.order_clocks.proofs.TrackLaws.{read_known}
use Rattle.order_clocks.proofs.WholeLaws.{EntryAt, entry_at, moves_size, read_step, same_channels}
use Rattle.sync_types.specs.Boards.{Board}
use Rattle.sync_types.specs.Turns.{after_step}
use Rattle.sync_types.specs.Views.{EntryView}
use Rattle.step_deeds.specs.Holds.{goes_in}

-- what is known of the entry of a place
pub record EntryRead (b : Board) (es : List EntryView) (place : ℕ) (one : EntryView) (alarms : Bool) : Type 0 where
  pub at : EntryAt b (moves_in es) place one
  pub lawful : IsLawful (board_at b (moves_in es) place) one.channel one.step one.goes alarms

pub entry_read : (b : Board) (es : List EntryView) (place : ℕ) (one : EntryView) (r : ClockReader) (alarms : Bool) → place < length es → one ≡ slice_index_or es place one → IsReaderAt b es place r → alarms ≡ is_alarm_in r.stops place one.channel
    → EntryRead b es place one alarms
entry_read b es place one r alarms within is reader found = record {
  at = there;
  lawful = record {
    running = there.running;
    goings = ap (λ (e : EntryView). e.goes) there.entry;
    alarm = found ∙ (ap (λ (d : ℕ). is_alarm_in r.stops place d) (sym channel) ∙ (reader.alarms.alarm place (rw (moves_size es) within) ∙ there.alarm));
  };
}
  where
    there : EntryAt b (moves_in es) place one
    there = rw (sym is) at (entry_at es b place one within reader.entries)

    channel : channel_at (channels_of (moves_in es)) place ≡ one.channel
    channel = ap (λ (cs : List ℕ). channel_at cs place) (same_channels es) ∙ (entry_channel es place one within ∙ ap (λ (e : EntryView). e.channel) (sym is))

-- the deed is what happens
pub deed_read : (b : Board) (es : List EntryView) (place : ℕ) (one : EntryView) (alarms : Bool) (deed : StepEvents) → EntryRead b es place one alarms
    → IsRead deed (happening_of (board_at b (moves_in es) place) one.channel one.step) → IsRead deed (happening_at b (moves_in es) place)
deed_read b es place one alarms deed entry read = rw entry.at.happening read

pub next_reader : (b : Board) (es : List EntryView) (place : ℕ) (one : EntryView) (alarms : Bool) (deed : StepEvents) (r : ClockReader) (watch : BoardReplay) (times : LastClocks) → EntryRead b es place one alarms → IsReaderAt b es place r
    → IsRead deed (happening_of (board_at b (moves_in es) place) one.channel one.step)
    → WatchIsSound watch → Keeps watch (after_step (board_at b (moves_in es) place) one.channel one.step)
    → (IsStep (course_of b (moves_in es)) place deed → Shows times (last_rows (course_of b (moves_in es)) (suc place)))
    → IsReaderAt b es (suc place) (record { stops = r.stops; watch = watch; times = times })
next_reader b es place one alarms deed r watch times entry reader read sound keeps shows = record {
  entries = reader.entries;
  sound = sound;
  alarms = reader.alarms;
  keeps = rw entry.at.next keeps;
  shows = shows (read_step b (moves_in es) place deed (deed_read b es place one alarms deed entry read));
}

pub read_at : (b : Board) (es : List EntryView) (place : ℕ) (one : EntryView) (alarms : Bool) (deed : StepEvents) (rows : StepClocks) (watch : BoardReplay) → EntryRead b es place one alarms
    → IsRead deed (happening_of (board_at b (moves_in es) place) one.channel one.step)
    → WatchIsSound watch → Keeps watch (after_step (board_at b (moves_in es) place) one.channel one.step)
    → goes_in deed 0 ≡ false → length deed.goes ≡ CHANNEL_PLACES
    → (IsStep (course_of b (moves_in es)) place deed → AreRows (course_of b (moves_in es)) place rows)
    → IsReadAt b (moves_in es) place (record { deed = deed; rows = rows }) watch
read_at b es place one alarms deed rows watch entry read sound keeps none size are =
    let here = deed_read b es place one alarms deed entry read in
    record {
      deed = here;
      alone = λ g within. rw entry.at.happening (only_one (board_at b (moves_in es) place) one.channel one.step g entry.at.running (rw entry.at.happening at within));
      known = read_known b (moves_in es) place deed rows here (are (read_step b (moves_in es) place deed here)) none size;
      holds = record { hold = λ c. rw entry.at.happening (keeps.holds c); none = sound.none };
    }
