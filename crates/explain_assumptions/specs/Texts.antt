-- Meaning. What a run takes for granted, as text.
use Rattle.std.specs.Prelude.{ℕ, List, [], ◌∷◌, ◌++◌, codes}
use Rattle.std.specs.Fmt.{decimal}
use Rattle.std.specs.List.{flat_map}
use Rattle.job_types.specs.Job.{JobView}
use Rattle.explain_places.specs.Lines.{block_text, channel_first_text}
use Rattle.explain_places.specs.Motions.{axis_text}
use Rattle.explain_assumptions.specs.declared.rows.Assumed.{Assumed}
use Rattle.explain_assumptions.specs.declared.rows.Assumption.{Assumption}
use Rattle.explain_assumptions.specs.declared.rows.Assumption.TheVariants.{Radius, NoOffset, UnusedOffset, Zero, Standing, Tools, ToolOffsets}

-- the parameter of a number
unfoldable pub parameter_text : ℕ → List ℕ
parameter_text number = codes "R" ++ decimal number

-- words of this letter stand in so many executed blocks, and move nothing
unfoldable pub count_text : ℕ → List ℕ → List ℕ
count_text count letter =
    codes " has words " ++ (letter ++ (codes ", which move nothing here, in " ++ (decimal count ++ codes " of the blocks that it executed")))

-- which parameter is 0
unfoldable pub zero_text : List ℕ → JobView → ℕ → ℕ → List ℕ
zero_text input job number line = codes " begins with " ++ (parameter_text number ++ (codes " = 0, which no block sets before this one reads it: " ++ block_text input job line))

-- up to which block an axis stands
unfoldable pub standing_text : List ℕ → JobView → ℕ → ℕ → List ℕ
standing_text input job axis line = codes " has " ++ (axis_text job axis ++ (codes " at its AXIS position up to this block, the first that moves it: " ++ block_text input job line))

-- what is taken for granted, after the channel
unfoldable pub assumption_text : List ℕ → JobView → Assumption → List ℕ
assumption_text input job (Radius line) = codes " takes X for a radius, since no block says DIAMON, DIAM90 or DIAMOF before this one programs X: " ++ block_text input job line
assumption_text input job (NoOffset line) = codes " has OFFSET lines, and moves without them (G500) first in this block: " ++ block_text input job line
assumption_text input job (UnusedOffset line) = codes " moves nowhere under the word of this OFFSET line: " ++ block_text input job line
assumption_text input job (Zero number line) = zero_text input job number line
assumption_text input job (Standing axis line) = standing_text input job axis line
assumption_text input job (Tools count) = count_text count (codes "T")
assumption_text input job (ToolOffsets count) = count_text count (codes "D")

-- in a line of its own
unfoldable pub assumed_text : List ℕ → JobView → Assumed → List ℕ
assumed_text input job assumed = codes "  " ++ (channel_first_text assumed.channel ++ (assumption_text input job assumed.what ++ codes "\n"))

-- under a line that heads them; or that there is nothing
unfoldable pub assumptions_text : List ℕ → JobView → List Assumed → List ℕ
assumptions_text input job [] = codes "Nothing is taken for granted but what the job list says.\n"
assumptions_text input job (assumed ∷ rest) = codes "Taken for granted:\n" ++ flat_map (assumed_text input job) (assumed ∷ rest)
