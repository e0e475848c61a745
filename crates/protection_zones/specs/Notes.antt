-- Steps. The events of a run as the code keeps them, in few words.
use Rattle.std.specs.Prelude.{ℕ, ℤ, ◌==◌, ◌&&◌, ◌||◌, Bool, false, true, is_some, if◌then◌else◌, List, [], ◌∷◌, map, filter, slice_index, slice_index_or, Option, Some, None, unwrap_or}
use Rattle.axis_sets.specs.Sets.{has}
use Rattle.step_deeds.specs.Holds.{departure_of, goes_in}
use Rattle.step_deeds.specs.declared.deed.StepEvents.{StepEvents}
use Rattle.step_deeds.specs.declared.deed.Wakeup.{Wakeup}
use Rattle.order_clocks.specs.declared.step_reader.ReadStep.{ReadStep}
use Rattle.zone_stretches.specs.Occurrences.{OccurrenceView}
use Rattle.protection_zones.specs.declared.notes.Occurrence.{Occurrence}
use Rattle.sync_types.specs.Boards.{channel_numbers}
use Rattle.sync_types.specs.GoingOn.{first_of}
use Rattle.sync_types.specs.Views.{EntryView}
use Rattle.sync_types.specs.declared.Action.TheVariants.{End as Ends}
use Rattle.sync_types.specs.declared.Step.{Step}
use Rattle.sync_types.specs.declared.runs.Go.{Go}
use Rattle.sync_types.specs.declared.verdicts.StretchKind.{StretchKind}
use Rattle.sync_types.specs.declared.verdicts.StretchKind.TheVariants.{Run, Hold, End}

abbrev pub no_step : Step
no_step = record { line = 0; action = Ends; at = []; on = [] }

abbrev pub no_entry : EntryView
no_entry = record { channel = 0; step = no_step; goes = [] }

abbrev pub entry_in : List EntryView → ℕ → EntryView
entry_in es i = slice_index_or es i no_entry

-- the event of a note, where axes of its channel stand so
unfoldable pub shown_note : Occurrence → List (Option ℤ) → OccurrenceView
shown_note note at = record {
  name = note.name;
  channel = note.channel;
  kind = note.kind;
  line = note.line;
  at = at;
  on = note.on;
  frees = if note.name.go then (λ axis. false) else has note.axes;
  takes = if note.name.go then has note.axes else (λ axis. false);
}

-- what a channel does after its act
unfoldable pub kind_of_act : ReadStep → StretchKind
kind_of_act read = if is_some read.deed.begins then Hold else if read.deed.ends || read.alarms then End else Run

-- the lowest channel of those that go on as one event with this one
abbrev pub is_with : StepEvents → ℕ → ℕ → Bool
is_with deed c d = goes_in deed d && (slice_index deed.group d == slice_index deed.group c)

unfoldable pub lowest_of : StepEvents → ℕ → ℕ
lowest_of deed c = unwrap_or (first_of (filter (is_with deed c) channel_numbers)) c

-- the axes that it took
abbrev pub took_in : Option Wakeup → ℕ → Bool
took_in (Some gone) x = has gone.took x
took_in None x = false

-- the events of a step as the code reads it
abbrev pub read_act : ℕ → ReadStep → Step → OccurrenceView
read_act i read step = record {
  name = record { step = i; channel = read.deed.channel; go = false };
  channel = read.deed.channel;
  kind = kind_of_act read;
  line = Some step.line;
  at = step.at;
  on = step.on;
  frees = has read.deed.frees;
  takes = λ axis. false;
}

abbrev pub read_going : ℕ → StepEvents → Go → OccurrenceView
read_going i deed go = record {
  name = record { step = i; channel = lowest_of deed go.channel; go = true };
  channel = go.channel;
  kind = Run;
  line = None;
  at = go.grant.at;
  on = go.grant.on;
  frees = λ axis. false;
  takes = took_in (departure_of deed go.channel);
}

abbrev pub read_step : ℕ → ReadStep → EntryView → List OccurrenceView
read_step i read entry = read_act i read entry.step ∷ map (read_going i read.deed) entry.goes
