-- Meaning. The first line of an explanation: the verdict.
use Rattle.std.specs.Prelude.{◌≡◌, ℕ, if◌then◌else◌, List, ◌++◌, Option, None, Some, codes}
use Rattle.std.specs.Fmt.{decimal}
use Rattle.sync_types.specs.declared.verdicts.PlaceName.{PlaceName}
use Rattle.sync_types.specs.declared.verdicts.Verdict.{Verdict}
use Rattle.sync_types.specs.declared.verdicts.Verdict.TheVariants.{Alarm, No, Race, Stuck, Undecided, Yes}
use Rattle.explain_pairs.specs.Reasons.{is_none_compared, none_compared_text}
use Rattle.explain_pairs.specs.declared.pairs.ZonePair.{ZonePair}

-- who holds a zone
unfoldable pub holder_text : Option ℕ → List ℕ
holder_text (Some channel) = codes " of channel " ++ decimal channel
holder_text None = codes " held by nobody"

-- a zone and who holds it
unfoldable pub name_text : PlaceName → List ℕ
name_text name = codes "zone " ++ (decimal name.zone ++ holder_text name.channel)

-- two zones that can meet
unfoldable pub pair_text : PlaceName → PlaceName → List ℕ
pair_text left right = codes "NO: " ++ (name_text left ++ (codes " and " ++ (name_text right ++ codes " can meet.\n")))

-- more pairs than the budget
unfoldable pub count_text : ℕ → ℕ → List ℕ
count_text count budget = codes "UNDECIDED: " ++ (decimal count ++ (codes " pairs of boxes are to be compared, and the budget is " ++ (decimal budget ++ codes ".\n")))

-- something stops a channel
unfoldable pub stop_text : List ℕ → ℕ → List ℕ → List ℕ
stop_text front channel back = front ++ (decimal channel ++ back)

-- the verdict in one line
unfoldable pub headline : Verdict → List ℕ
headline (Race race) = codes "RACE: nothing says which of two places comes first, and what follows may depend on it.\n"
headline (Alarm channel alarm) = stop_text (codes "ALARM: the control would stop channel ") channel (codes ", and so no boxes are compared.\n")
headline (Stuck channel line) = stop_text (codes "STUCK: channel ") channel (codes " waits for good, and so no boxes are compared.\n")
headline (Undecided count budget) = count_text count budget
headline (No left right) = pair_text left right
headline Yes = codes "YES: no two zones of different groups can meet, at whatever speed each channel runs.\n"

-- the verdict YES in one line; where no boxes of any two zones were compared it says so, and why
unfoldable pub yes_line : List ZonePair → List ℕ
yes_line zones = if is_none_compared zones then none_compared_text zones else headline Yes

-- the verdict in one line, where this is told of each two zones
unfoldable pub first_line : Verdict → List ZonePair → List ℕ
first_line (Race race) zones = headline (Race race)
first_line (Alarm channel alarm) zones = headline (Alarm channel alarm)
first_line (Stuck channel line) zones = headline (Stuck channel line)
first_line (Undecided count budget) zones = headline (Undecided count budget)
first_line (No left right) zones = headline (No left right)
first_line Yes zones = yes_line zones

-- a text that begins so
pub record BeginsWith (front text : List ℕ) : Type 0 where
  pub rest : List ℕ
  pub whole : text ≡ front ++ rest
