-- Meaning. How two boxes that meet are said: where and when they do, and by what they would be apart.
use Rattle.std.specs.Prelude.{ℕ, ℤ, pos, ◌+ℤ◌, ◌==◌, if◌then◌else◌, List, [], ◌++◌, codes, Option, None, Some}
use Rattle.std.specs.Fmt.{decimal}
use Rattle.std.specs.Int.{w64, saturate_signed}
use Rattle.std.specs.Ordering.{int_eq}
use Rattle.explain_reach.specs.declared.ways.Way.{Way}
use Rattle.growing_text.specs.Lengths.{millimetres_text}
use Rattle.job_types.specs.Job.{JobView}
use Rattle.swept_boxes.specs.declared.Box3.{Box3}
use Rattle.sync_types.specs.Views.{RunView}
use Rattle.sync_types.specs.declared.verdicts.StretchKind.{StretchKind}
use Rattle.sync_types.specs.declared.verdicts.StretchKind.TheVariants.{Idle, Run, Hold, End, Free}
use Rattle.explain_places.specs.Boxes.{box_text, direction_text}
use Rattle.explain_places.specs.Places.{place_text}
use Rattle.explain_places.specs.Spans.{span_text}
use Rattle.explain_places.specs.declared.place.Meeting.{Meeting}
use Rattle.explain_places.specs.declared.place.Place.{Place}

-- ---- where and when

-- both zones with their blocks, and where both can be
unfoldable pub head_text : List ℕ → JobView → RunView → Meeting → Box3 → List ℕ
head_text input job run met common =
    place_text input job run met.left ++ (place_text input job run met.right ++ (codes "Both can be in " ++ (box_text common ++ codes ".\n")))

-- the box of a zone
unfoldable pub own_text : Place → List ℕ
own_text place = codes "  Zone " ++ (decimal place.name.zone ++ (codes ": " ++ (box_text place.cover ++ codes "\n")))

unfoldable pub boxes_text : Meeting → List ℕ
boxes_text met = codes "\nThe boxes that they sweep\n" ++ (own_text met.left ++ own_text met.right)

-- from when to when each zone is there
unfoldable pub times_text : List ℕ → JobView → RunView → Meeting → List ℕ
times_text input job run met = codes "When\n" ++ (span_text input job run met.left ++ span_text input job run met.right)

-- ---- by what they would be apart

-- the room that they need in the direction in which axes can give the least, and a micrometre more
unfoldable pub shift_text : Way → List ℕ
shift_text way = codes "What would keep them apart\n  "
    ++ (millimetres_text (saturate_signed w64 (way.shift +ℤ pos 1)) ++ (codes " mm more between them in " ++ (direction_text way.direction ++ codes "\n")))

-- the greatest margin
unfoldable pub smaller_text : ℤ → ℤ → List ℕ
smaller_text margin less = codes "  MARGIN " ++ (millimetres_text less ++ (codes " or less; it is " ++ (millimetres_text margin ++ codes "\n")))

unfoldable pub less_text : ℤ → Option ℤ → List ℕ
less_text margin (Some less) = smaller_text margin less
less_text margin None = codes "  no smaller MARGIN: they meet with MARGIN 0 too\n"

-- of a job that has a margin
unfoldable pub margin_text : ℤ → Option ℤ → List ℕ
margin_text margin less = if int_eq margin (pos 0) then [] else less_text margin less

-- the least depth
unfoldable pub depth_text : ℕ → Option ℕ → List ℕ
depth_text depth (Some more) = codes "  DEPTH " ++ (decimal more ++ (codes "; it is " ++ (decimal depth ++ codes "\n")))
depth_text depth None = codes "  no greater DEPTH\n"

-- that both zones are of one channel
unfoldable pub one_channel_text : ℕ → List ℕ
one_channel_text channel = codes "  one group for both, if they may touch: both are of channel " ++ (decimal channel ++ codes "\n")

-- where one channel holds both zones
unfoldable pub holders_text : Option ℕ → Option ℕ → List ℕ
holders_text None other = []
holders_text (Some one) None = []
holders_text (Some one) (Some other) = if one == other then one_channel_text one else []

-- that a zone only stands where its channel has left it, since that has ended
unfoldable pub stays_text : StretchKind → List ℕ
stays_text Idle = []
stays_text Run = []
stays_text Hold = []
stays_text End = codes " (stands there until the end)"
stays_text Free = []
