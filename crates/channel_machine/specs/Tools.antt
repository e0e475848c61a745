-- Meaning. The tools of a channel of a job.
use Rattle.std.specs.Prelude.{ℕ, ◌==◌, List, find, Option, option_map}
use Rattle.job_types.specs.Job.{JobView}
use Rattle.tool_offsets.specs.declared.tools.ToolEdge.{ToolEdge}

-- the edges of the tools of a channel; none where no line gives it a tool
abbrev pub tools_of : JobView → ℕ → Option (List ToolEdge)
tools_of job channel = option_map (λ tools. tools.1) (find (λ tools. tools.0 == channel) job.tools)
