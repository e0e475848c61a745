-- Meaning. What a channel does during a box of a zone.
use Rattle.std.specs.Prelude.{ℕ, ◌==◌, Bool, true, false, List, [], ◌++◌, if◌then◌else◌, Option, None, Some, codes}
use Rattle.std.specs.Fmt.{decimal}
use Rattle.std.specs.Option.{option_and_then, option_map_or}
use Rattle.job_types.specs.Job.{JobView}
use Rattle.job_types.specs.Zones.{zone_line}
use Rattle.path_geometry.specs.declared.motion.Motion.{Motion}
use Rattle.sync_types.specs.Items.{motion_at}
use Rattle.sync_types.specs.Views.{RunView}
use Rattle.sync_types.specs.declared.verdicts.StretchKind.{StretchKind}
use Rattle.sync_types.specs.declared.verdicts.StretchKind.TheVariants.{Idle, Run, Hold, End, Free}
use Rattle.explain_places.specs.Executions.{execution_at}
use Rattle.explain_places.specs.Lines.{block_text, channel_text}
use Rattle.explain_places.specs.Motions.{motion_text}
use Rattle.explain_places.specs.declared.executions.Execution.{Execution}
use Rattle.explain_places.specs.declared.place.Place.{Place}

-- the motion of a box; none where it stands
abbrev pub place_motion : RunView → Place → Option Motion
place_motion run place = option_and_then (motion_at run place.entry) place.motion

-- who holds a zone
unfoldable pub held_text : Option ℕ → List ℕ
held_text (Some channel) = codes " of " ++ channel_text channel
held_text None = codes " held by nobody"

-- a zone, and who holds it
unfoldable pub zone_text : Place → List ℕ
zone_text place = codes "zone " ++ (decimal place.name.zone ++ held_text place.name.channel)

-- the channel that holds a zone, if one does
unfoldable pub holder_text : Place → List ℕ
holder_text place = option_map_or channel_text place.name.channel []

-- which execution of its block a motion is
unfoldable pub execution_text : RunView → Place → List ℕ
execution_text run place =
    option_map_or (λ execution. codes "execution " ++ (decimal execution.which ++ (codes " of " ++ (decimal execution.of ++ codes ": ")))) (execution_at run place) []

-- the block that moves a zone, and its motion in a line of its own
unfoldable pub moving_text : List ℕ → JobView → RunView → Place → Motion → List ℕ
moving_text input job run place motion =
    codes " moves in " ++ (block_text input job place.name.line ++ (codes "\n    " ++ (execution_text run place ++ (motion_text job motion ++ codes "\n"))))

-- where a zone is declared
unfoldable pub declared_text : List ℕ → JobView → ℕ → List ℕ
declared_text input job number = option_map_or (λ zone. block_text input job zone.line) (zone_line job number) []

-- that a zone stands still, by what its channel does; from the start on, where this is true
unfoldable pub still_words : StretchKind → Bool → List ℕ
still_words Idle first = codes " stands still, since "
still_words Run true = codes " stands still from the start of "
still_words Run false = codes " stands still after "
still_words Hold first = codes " stands still while "
still_words End first = codes " stands still after the end of "
still_words Free true = codes " stands still, and nobody holds it from the start on; it is declared in "
still_words Free false = codes " stands still since it was let go in "

-- whose channel has not started
unfoldable pub idle_text : Place → List ℕ
idle_text place = holder_text place ++ codes " has not started"

-- whose channel runs: from whose start on, or after which block
unfoldable pub running_text : List ℕ → JobView → Place → List ℕ
running_text input job place = if place.name.line == 0 then holder_text place ++ codes " on" else block_text input job place.name.line

-- whose channel waits, and in which block
unfoldable pub waiting_text : List ℕ → JobView → Place → List ℕ
waiting_text input job place = holder_text place ++ (codes " waits in " ++ block_text input job place.name.line)

-- whose channel has ended, and in which block
unfoldable pub ended_text : List ℕ → JobView → Place → List ℕ
ended_text input job place = holder_text place ++ (codes " in " ++ block_text input job place.name.line)

-- in which line a zone is declared that nobody holds from the start on, or which block let it go
unfoldable pub free_text : List ℕ → JobView → Place → List ℕ
free_text input job place = if place.name.line == 0 then declared_text input job place.name.zone else block_text input job place.name.line

-- the channel and the block of the reason
unfoldable pub reason_text : List ℕ → JobView → Place → StretchKind → List ℕ
reason_text input job place Idle = idle_text place
reason_text input job place Run = running_text input job place
reason_text input job place Hold = waiting_text input job place
reason_text input job place End = ended_text input job place
reason_text input job place Free = free_text input job place

-- why a zone stands still
unfoldable pub standing_text : List ℕ → JobView → Place → List ℕ
standing_text input job place = still_words place.name.kind (place.name.line == 0) ++ (reason_text input job place place.name.kind ++ codes "\n")

-- the motion of a block, or why the zone stands still
unfoldable pub doing_text : List ℕ → JobView → RunView → Place → Option Motion → List ℕ
doing_text input job run place (Some motion) = moving_text input job run place motion
doing_text input job run place None = standing_text input job place

-- what happens during a box of a zone
unfoldable pub place_text : List ℕ → JobView → RunView → Place → List ℕ
place_text input job run place = codes "Zone " ++ (decimal place.name.zone ++ doing_text input job run place (place_motion run place))
