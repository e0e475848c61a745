-- Meaning. The edge of a tool that a job line gives.
use Rattle.std.specs.Prelude.{ℕ, List, Result, Ok, Err}
use Rattle.job_lines.specs.declared.code.Code.{Code}
use Rattle.job_lines.specs.declared.code.Code.TheVariants.{OutOfRange}
use Rattle.job_lines.specs.declared.limits.TheConstants.{EDGE_LIMIT, TOOL_LIMIT}
use Rattle.job_lines.specs.Code.{◌>>=◌, or_code}
use Rattle.job_lines.specs.Length.{length_of}
use Rattle.job_lines.specs.Numbers.{number_within}
use Rattle.job_lines.specs.declared.tool_lines.GivenEdge.{GivenEdge}

-- the number of a tool
unfoldable pub tool_of : List ℕ → Result ℕ Code
tool_of word = or_code OutOfRange (number_within 1 TOOL_LIMIT word)

-- the number of an edge
unfoldable pub edge_of : List ℕ → Result ℕ Code
edge_of word = or_code OutOfRange (number_within 1 EDGE_LIMIT word)

-- the edge of a tool, with its lengths along X and Z
unfoldable pub given_edge_of : List ℕ → List ℕ → List ℕ → List ℕ → Result GivenEdge Code
given_edge_of tool edge x z = do
  tool ← tool_of tool
  edge ← edge_of edge
  x ← length_of x
  z ← length_of z
  Ok (record { tool = tool; edge = edge; x = x; z = z })
