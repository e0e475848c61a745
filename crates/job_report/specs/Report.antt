-- Meaning. The report of a job, and the line of a refused input. Each line ends with a line feed, and its words are separated by one blank.
use Rattle.std.specs.Prelude.{ℕ, Bool, if◌then◌else◌, List, [], ◌++◌, slice_get, codes}
use Rattle.std.specs.Fmt.{decimal}
use Rattle.std.specs.List.{enumerate_from, flat_map}
use Rattle.std.specs.Option.{option_map_or}
use Rattle.job_types.specs.Job.{JobView}
use Rattle.nc_faults.specs.Texts.{refusal_text_of}
use Rattle.fault_codes.specs.declared.Refusal.{Refusal}
use Rattle.sync_types.specs.Views.{RunView}
use Rattle.sync_types.specs.declared.verdicts.Verdict.{Verdict}
use Rattle.job_report.specs.Channels.{channels_of, channel_lines}
use Rattle.job_report.specs.Verdicts.{verdict_line}

-- a job whose blocks may compensate the radius of a tool has a line that says so: its contour is judged, and not the tool's path
unfoldable pub note_line : Bool → List ℕ
note_line compensation = if compensation then codes "NOTE COMPENSATION CONTOUR\n" else []

-- the lines of a channel by its place among the channels of the job, at which its end stands among those of the run
unfoldable pub lines_at : JobView → RunView → ℕ × ℕ → List ℕ
lines_at job run numbered = option_map_or (channel_lines job run numbered.1) (slice_get run.ends numbered.0) []

-- the lines of all channels, the lowest first
unfoldable pub all_lines : JobView → RunView → List ℕ
all_lines job run = flat_map (lines_at job run) (enumerate_from 0 (channels_of job))

-- the first line, and the note
unfoldable pub head_lines : Bool → List ℕ
head_lines compensation = codes "TURNMILL 1\n" ++ note_line compensation

-- the report of a job
unfoldable pub report_bytes : JobView → RunView → Verdict → List ℕ
report_bytes job run verdict = head_lines job.compensation ++ (all_lines job run ++ verdict_line verdict)

-- the line of a refused input
unfoldable pub refusal_bytes : Refusal → List ℕ
refusal_bytes refusal = codes "REFUSED " ++ (decimal refusal.code ++ (codes " " ++ (decimal refusal.line ++ (codes " " ++ (refusal_text_of refusal.code ++ codes "\n")))))
