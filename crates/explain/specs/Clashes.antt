-- Meaning. How the verdict NO is said: the first two boxes that meet, by what they would be apart, and all pairs of lines that meet.
use Rattle.std.specs.Prelude.{◌≡◌, ℕ, ◌==◌, if◌then◌else◌, List, [], ◌∷◌, ◌++◌, codes, slice_get, Option, None, Some}
use Rattle.std.specs.Fmt.{decimal}
use Rattle.std.specs.List.{flat_map}
use Rattle.job_types.specs.Job.{JobView}
use Rattle.explain_clashes.specs.Clashes.{IsClash}
use Rattle.explain_meetings.specs.Groups.{AreGroups}
use Rattle.explain_clashes.specs.declared.clashes.Clash.{Clash}
use Rattle.explain_meetings.specs.declared.groups.Group.{Group}
use Rattle.sync_types.specs.Views.{RunView}
use Rattle.explain_places.specs.Lines.{line_place_text}
use Rattle.explain_places.specs.Places.{zone_text}
use Rattle.explain_places.specs.declared.place.Meeting.{Meeting}
use Rattle.explain_places.specs.declared.place.Place.{Place}
use Rattle.explain_texts.specs.BoxTexts.{boxes_text, depth_text, head_text, holders_text, margin_text, shift_text, stays_text, times_text}

-- ---- two boxes

-- by what they would be apart: room, a margin, a depth; or one group where one channel holds both
unfoldable pub ways_text : JobView → Meeting → Clash → List ℕ
ways_text job met clash =
    shift_text clash.way ++ (margin_text job.margin clash.margin ++ (depth_text job.depth clash.depth ++ holders_text met.left.name.channel met.right.name.channel))

unfoldable pub first_text : List ℕ → JobView → RunView → Meeting → Clash → List ℕ
first_text input job run met clash = head_text input job run met clash.common ++ (boxes_text met ++ (times_text input job run met ++ ways_text job met clash))

-- ---- pairs of lines

-- a zone, and the line of its block; a zone that no block moves has none
unfoldable pub at_text : List ℕ → JobView → ℕ → List ℕ
at_text input job line = if line == 0 then [] else (codes " " ++ line_place_text input job line)

unfoldable pub short_text : List ℕ → JobView → Place → List ℕ
short_text input job place = zone_text place ++ (at_text input job place.name.line ++ stays_text place.name.kind)

-- a pair, and how often it meets
unfoldable pub pair_text : List ℕ → JobView → Meeting → ℕ → List ℕ
pair_text input job met count =
    codes "  " ++ (short_text input job met.left ++ (codes " and " ++ (short_text input job met.right ++ (codes ": " ++ (decimal count ++ codes "\n")))))

abbrev pub found_text : List ℕ → JobView → ℕ → Option Meeting → List ℕ
found_text input job count (Some met) = pair_text input job met count
found_text input job count None = []

unfoldable pub group_text : List ℕ → JobView → List Meeting → Group → List ℕ
group_text input job met group = found_text input job group.count (slice_get met group.first)

unfoldable pub groups_text : List ℕ → JobView → List Meeting → List Group → List ℕ
groups_text input job met groups = codes "All pairs of lines that meet, each with how often:\n" ++ flat_map (group_text input job met) groups

-- ---- the verdict

-- the first of these boxes by what they have in common, and all by their lines
pub record IsNoText (input : List ℕ) (job : JobView) (run : RunView) (first : Meeting) (others : List Meeting) (text : List ℕ) : Type 0 where
  pub clash : Clash
  pub groups : List Group
  pub clashes : IsClash job run first clash
  pub grouped : AreGroups (first ∷ others) groups
  pub told : text ≡ first_text input job run first clash ++ groups_text input job (first ∷ others) groups

-- nothing is said where there are none
abbrev pub IsMetText : List ℕ → JobView → RunView → List Meeting → List ℕ → Type 0
IsMetText input job run [] text = text ≡ []
IsMetText input job run (first ∷ others) text = IsNoText input job run first others text
