-- Meaning. The state of a channel that an alarm stops, as text.
use Rattle.std.specs.Prelude.{ℕ, List, [], ◌∷◌, ◌++◌, codes}
use Rattle.std.specs.List.{flat_map}
use Rattle.explain_readings.specs.Numbers.{readings_text}
use Rattle.explain_readings.specs.declared.readings.Reading.{Reading}
use Rattle.job_types.specs.Job.{JobView}
use Rattle.explain_places.specs.Lines.{block_text}
use Rattle.explain_alarms.specs.declared.calls.Call.{Call}
use Rattle.explain_alarms.specs.declared.state.AlarmState.{AlarmState}

-- what the block reads; nothing where it reads no parameter
unfoldable pub reads_text : List Reading → List ℕ
reads_text [] = []
reads_text (reading ∷ readings) = codes "  It reads " ++ (readings_text (reading ∷ readings) ++ codes "\n")

-- the block of a call, in a line of its own
unfoldable pub call_text : List ℕ → JobView → Call → List ℕ
call_text input job call = codes "  Called in " ++ (block_text input job call.line ++ codes "\n")

-- what the alarmed block reads, and the calls that lead to it, that of the main program first
abbrev pub state_text : List ℕ → JobView → AlarmState → List ℕ
state_text input job state = reads_text state.readings.items ++ flat_map (call_text input job) state.calls.items
