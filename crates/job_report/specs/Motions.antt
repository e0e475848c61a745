-- Meaning. The trace line of a block that moves axes or switches a zone.
use Rattle.std.specs.Prelude.{ℕ, nat_lt, Bool, if◌then◌else◌, List, ◌++◌, codes}
use Rattle.std.specs.Fmt.{decimal}
use Rattle.std.specs.List.{flat_map}
use Rattle.job_types.specs.Job.{JobView}
use Rattle.path_geometry.specs.declared.motion.Arc.{Arc}
use Rattle.path_geometry.specs.declared.motion.Motion.{Motion}
use Rattle.path_geometry.specs.declared.motion.Motion.TheVariants.{Line, Rapid}
use Rattle.path_geometry.specs.declared.motion.Motion.TheVariants as kind
use Rattle.sync_types.specs.declared.Item.{Item}
use Rattle.sync_types.specs.declared.Part.{Part}
use Rattle.sync_types.specs.declared.Part.TheVariants.{Move, Switch}
use Rattle.job_report.specs.Positions.{axis_text, end_text}

-- the centre of an arc, its axes in the order of the AXIS lines
unfoldable pub centre_text : JobView → Arc → List ℕ
centre_text job arc =
    if nat_lt arc.first arc.second
    then end_text job (arc.first, arc.centre.0, arc.centre.0) ++ end_text job (arc.second, arc.centre.1, arc.centre.1)
    else end_text job (arc.second, arc.centre.1, arc.centre.1) ++ end_text job (arc.first, arc.centre.0, arc.centre.0)

-- an arc: the axes of its turn, where it ends, and its centre
unfoldable pub arc_text : JobView → Arc → List ℕ
arc_text job arc =
    codes "ARC " ++ (axis_text job arc.first ++ (codes " " ++ (axis_text job arc.second
    ++ (flat_map (end_text job) arc.ends.axes ++ (codes " CENTRE" ++ centre_text job arc)))))

-- what a motion is, and where it ends
unfoldable pub motion_text : JobView → Motion → List ℕ
motion_text job (Line ends) = codes "LINE" ++ flat_map (end_text job) ends.axes
motion_text job (Rapid ends) = codes "RAPID" ++ flat_map (end_text job) ends.axes
motion_text job (kind.Arc arc) = arc_text job arc

-- a zone that is switched, with its new state: 2 is on, and 0 is off
unfoldable pub switch_text : ℕ → Bool → List ℕ
switch_text zone on = codes "CPROT " ++ (decimal zone ++ (codes " " ++ decimal (if on then 2 else 0)))

-- what an item does
unfoldable pub part_text : JobView → Part → List ℕ
part_text job (Move motion) = motion_text job motion
part_text job (Switch zone on) = switch_text zone on

-- the trace line of an item
unfoldable pub item_line : JobView → Item → List ℕ
item_line job item = decimal item.line ++ (codes " " ++ (part_text job item.part ++ codes "\n"))
