-- What job lines tell that break no rule is sound.
use Rattle.axis_sets.specs.declared.limits.TheConstants.{AXIS_LIMIT, CHANNEL_LIMIT, ZONE_LIMIT}
use Rattle.std.proofs.Common.{◌≡◌, ◌≢◌, ◌∙◌, ℕ, zero, suc, ◌+◌, ◌<◌, ◌≤◌, ℤ, Bool, true, false, ◌&&◌, ◌||◌, not, ◌==◌, nat_le, nat_lt, if◌then◌else◌, true≢false, position, List, [], ◌∷◌, ◌++◌, length, slice_get, Option, Some, None, IfSome, IsSome, get_or, subst, refl, sym, ap, arith, length-append, rules}
use Rattle.std.specs.List.{All, AllPairs, position_or_len}
use Rattle.std.specs.Option.{option_and_then, option_map}
use Rattle.std.proofs.lemmas.Bool.{eqb-true, eqb-false, eq-eqb}
use Rattle.std.proofs.lemmas.Option.{slice_get_within}
use Rattle.std.proofs.lemmas.List.Elements.{All-nil, All-cons, All-push, All-weaker}
use Rattle.std.proofs.lemmas.List.Kept.{AllPairs-cons}
use Rattle.std.proofs.lemmas.List.Quantifiers.{all_pairs_push}
use Rattle.job_lines.proofs.ExtentLaws.{few_axes}
use Rattle.job_lines.specs.Extent.{extent_of}
use Rattle.job_lines.specs.declared.code.Code.TheVariants.{NotDeclared, DeclaredTwice, OwnerDiffers, TooMany}
use Rattle.job_lines.specs.declared.declaration.AxisName.{AxisName}
use Rattle.job_lines.specs.declared.declaration.NamedSide.{NamedSide}
use Rattle.job_lines.specs.declared.declaration.NamedZone.{NamedZone}
use Rattle.job_types.specs.declared.job.AxisLine.{AxisLine}
use Rattle.job_types.specs.declared.job.ChannelLine.{ChannelLine}
use Rattle.job_types.specs.declared.job.GeoLine.{GeoLine}
use Rattle.job_types.specs.declared.job.OffsetLine.{OffsetLine}
use Rattle.job_types.specs.declared.job.Side.{Side}
use Rattle.job_types.specs.declared.job.ZoneLine.{ZoneLine}
use Rattle.tape_job.specs.Draft.{nothing_told}
use Rattle.job_types.specs.Job.{JobView, ProgramView}
use Rattle.tape_job.specs.Rules as rule
use Rattle.micro_units.specs.Position.{IsPosition}
use Rattle.job_types.specs.SoundJob.{IsDeclared, HaveOtherNames, HaveOtherSlots, HaveOtherPlaces, IsSettable, IsSoundOffset, IsCarriedBy, HaveOtherCarriers, IsSoundRange, IsSoundZone, IsSoundEdge, AreSoundTools, IsSoundMargin}
use Rattle.tape_job.proofs.LineLemmas.{place}
use Rattle.tool_offsets.specs.Tools.{has_edge}
use Rattle.tool_offsets.specs.declared.tools.ToolEdge.{ToolEdge}
use Rattle.tape_job.specs.Steps.{with_edge}
use Rattle.job_lines.specs.declared.tool_lines.GivenEdge.{GivenEdge}
use Rattle.tape_job.specs.Told.{tool_edge}
use Rattle.tape_job.proofs.SoundReadings.{IsEdge, IsGivenEdge}
use Rattle.tape_job.proofs.SoundTools.{IsBefore, all_with, ascends_with, sound_push, sound_none}
use Rattle.tape_job.proofs.SoundLists.{unbroken, not_false, or_fails, and_holds, differs, none_pass, Any-more, found, slice_get-more}
use Rattle.job_types.specs.Axes.{axis_at, first_owner}

-- what holds of the job list so far
pub record ChannelFacts (channels : List ChannelLine) : Type 0 where
  pub numbers : AllPairs (λ line other. line.channel ≢ other.channel) channels
  pub low : All (λ line. 1 ≤ line.channel) channels
  pub high : All (λ line. line.channel ≤ CHANNEL_LIMIT) channels
  pub selecting : All (λ line. line.starts ≡ true → IsSome line.program) channels

pub record AxisFacts (axes : List AxisLine) : Type 0 where
  pub few : length axes ≤ AXIS_LIMIT
  pub names : AllPairs HaveOtherNames axes
  pub positions : All (λ line. IsPosition line.at) axes

pub record SlotFacts (count : ℕ) (geo : List GeoLine) : Type 0 where
  pub numbers : AllPairs HaveOtherSlots geo
  pub axes : All (λ g. g.axis < count) geo

pub record OptionFacts (margin : ℤ) (depth budget : ℕ) : Type 0 where
  pub sound_margin : IsSoundMargin margin
  pub sound_depth : depth ≤ 4
  pub sound_budget : (1 ≤ budget) × (budget ≤ 100000000)

-- what holds of lines that name channels and axes of the job
pub record Linked (job : JobView) (axis_lines : List AxisLine) (offset_lines : List OffsetLine) (zone_lines : List ZoneLine) (tool_lines : List (ℕ × List ToolEdge)) : Type 0 where
  pub owners : All (λ line. IfSome line.owner (IsDeclared job)) axis_lines
  pub offsets : All (IsSoundOffset job) offset_lines
  pub zones : All (IsSoundZone job) zone_lines
  pub tools : All (AreSoundTools job) tool_lines

pub record ListFacts (job : JobView) : Type 0 where
  pub channels : ChannelFacts job.channels
  pub axes : AxisFacts job.axes
  pub slots : SlotFacts (length job.axes) job.geo
  pub places : AllPairs HaveOtherPlaces job.offsets
  pub numbers : AllPairs (λ zone other. zone.zone ≢ other.zone) job.zones
  pub options : OptionFacts job.margin job.depth job.budget
  pub ascend : AllPairs IsBefore job.tools
  pub linked : Linked job job.axes job.offsets job.zones job.tools

-- what is declared stays declared
record Extends (old new : JobView) : Type 0 where
  declared : (channel : ℕ) → IsDeclared old channel → IsDeclared new channel
  owned : (axis : ℕ) (owner : Option ℕ) → (axis < length old.axes) × (first_owner old axis ≡ owner) → (axis < length new.axes) × (first_owner new axis ≡ owner)

carrier_extends : (old new : JobView) → Extends old new → (holder : Option ℕ) (carrier : Option (ℕ × Bool))
    → IfSome carrier (λ c. (c.0 < length old.axes) × (first_owner old c.0 ≡ holder)) → IfSome carrier (λ c. (c.0 < length new.axes) × (first_owner new c.0 ≡ holder))
carrier_extends old new extends holder None carried = tt
carrier_extends old new extends holder (Some c) carried = extends.owned c.0 holder carried

held_extends : (old new : JobView) → Extends old new → (holder : Option ℕ) → IfSome holder (IsDeclared old) → IfSome holder (IsDeclared new)
held_extends old new extends None held = tt
held_extends old new extends (Some holder) held = extends.declared holder held

zone_extends : (old new : JobView) → Extends old new → (zone : ZoneLine) → IsSoundZone old zone → IsSoundZone new zone
zone_extends old new extends zone sound = record {
  low_number = sound.low_number;
  high_number = sound.high_number;
  low_group = sound.low_group;
  high_group = sound.high_group;
  held = held_extends old new extends zone.holder sound.held;
  directions = sound.directions;
  carried = All-weaker (IsCarriedBy old zone.holder) (IsCarriedBy new zone.holder) (λ side. carrier_extends old new extends zone.holder side.carrier) zone.sides sound.carried;
  carriers = sound.carriers;
  ranges = sound.ranges;
}

offset_extends : (old new : JobView) → Extends old new → (line : OffsetLine) → IsSoundOffset old line → IsSoundOffset new line
offset_extends old new extends line sound = record {
  declared = extends.declared line.channel sound.declared;
  word = sound.word;
  slot = sound.slot;
  by = sound.by;
}

tools_extend : (old new : JobView) → Extends old new → (one : ℕ × List ToolEdge) → AreSoundTools old one → AreSoundTools new one
tools_extend old new extends one sound = record {
  declared = extends.declared one.0 sound.declared;
  some = sound.some;
  once = sound.once;
  edges = sound.edges;
}

linked_extends : (old new : JobView) → Extends old new → (axes : List AxisLine) (offsets : List OffsetLine) (zones : List ZoneLine) (tools : List (ℕ × List ToolEdge))
    → Linked old axes offsets zones tools → Linked new axes offsets zones tools
linked_extends old new extends axes offsets zones tools linked = record {
  owners = All-weaker (λ (l : AxisLine). IfSome l.owner (IsDeclared old)) (λ (l : AxisLine). IfSome l.owner (IsDeclared new))
      (λ l. held_extends old new extends l.owner) axes linked.owners;
  offsets = All-weaker (IsSoundOffset old) (IsSoundOffset new) (offset_extends old new extends) offsets linked.offsets;
  zones = All-weaker (IsSoundZone old) (IsSoundZone new) (zone_extends old new extends) zones linked.zones;
  tools = All-weaker (AreSoundTools old) (AreSoundTools new) (tools_extend old new extends) tools linked.tools;
}

-- the owner of an axis
same_owner : (owner other : Option ℕ) → rule.is_same_owner owner other ≡ true → owner ≡ other
same_owner None None same = refl
same_owner None (Some other) same = absurd cc
same_owner (Some owner) None same = absurd cc
same_owner (Some owner) (Some other) same = ap Some (eqb-true owner other same)

line_owner : (owner : Option ℕ) (line : Option AxisLine) → rule.is_owned_line owner line ≡ true → option_and_then (λ l. l.owner) line ≡ owner
line_owner owner None owned = absurd cc
line_owner owner (Some line) owned = same_owner line.owner owner owned

line_there : (axes : List AxisLine) (axis : ℕ) (owner : Option ℕ) (line : Option AxisLine) → slice_get axes axis ≡ line → rule.is_owned_line owner line ≡ true → axis < length axes
line_there axes axis owner None at owned = absurd cc
line_there axes axis owner (Some line) at owned = slice_get_within axes axis line at

owns_first : (job : JobView) (owner : Option ℕ) (axis : ℕ) → rule.owns job owner axis ≡ true → (axis < length job.axes) × (first_owner job axis ≡ owner)
unfolding rule.owns first_owner
owns_first job owner axis owned = (line_there job.axes axis owner (slice_get job.axes axis) refl owned, line_owner owner (slice_get job.axes axis) owned)

declared_from : (job : JobView) (channel : ℕ) → rule.has_channel job channel ≡ true → IsDeclared job channel
unfolding rule.has_channel
declared_from job channel has = found (λ line. line.channel ≡ channel) (λ line. line.channel == channel) (λ line. eqb-true line.channel channel) job.channels has

owner_declared : (job : JobView) (owner : Option ℕ) → rule.has_owner job owner ≡ true → IfSome owner (IsDeclared job)
unfolding rule.has_owner
owner_declared job None has = tt
owner_declared job (Some channel) has = declared_from job channel has

-- a CHANNEL line
abbrev pub with_channel : JobView → ChannelLine → JobView
with_channel job line = record job { channels = job.channels ++ line ∷ [] }

channel_extends : (job : JobView) (line : ChannelLine) → Extends job (with_channel job line)
unfolding first_owner
channel_extends job line = record {
  declared = λ channel. Any-more (λ l. l.channel ≡ channel) job.channels line;
  owned = λ axis owner owned. owned;
}

channel_differs : (job : JobView) (channel : ℕ) → rule.channel_rule job channel ≡ None → All (λ line. line.channel ≢ channel) job.channels
unfolding rule.channel_rule rule.has_channel
channel_differs job channel none =
    let new = unbroken (rule.has_channel job channel) DeclaredTwice None none in
    All-weaker (λ line. (line.channel == channel) ≡ false) (λ line. line.channel ≢ channel) (λ line. eqb-false line.channel channel) job.channels
    (none_pass (λ line. line.channel == channel) job.channels new.0)

pub channel_told : (job : JobView) (number channel : ℕ) (program : Option (List ℕ)) (starts : Bool) → ListFacts job → rule.channel_rule job channel ≡ None
    → ((1 ≤ channel) × (channel ≤ CHANNEL_LIMIT)) × (starts ≡ true → IsSome program)
    → ListFacts (with_channel job (record { line = number; channel = channel; program = program; starts = starts }))
channel_told job number channel program starts facts none sound =
    let line : ChannelLine = record { line = number; channel = channel; program = program; starts = starts } in
    let new : JobView = with_channel job line in
    record {
      channels = record {
        numbers = all_pairs_push (λ (l other : ChannelLine). l.channel ≢ other.channel) job.channels line facts.channels.numbers (channel_differs job channel none);
        low = All-push (λ (l : ChannelLine). 1 ≤ l.channel) job.channels line facts.channels.low sound.0.0;
        high = All-push (λ (l : ChannelLine). l.channel ≤ CHANNEL_LIMIT) job.channels line facts.channels.high sound.0.1;
        selecting = All-push (λ (l : ChannelLine). l.starts ≡ true → IsSome l.program) job.channels line facts.channels.selecting sound.1;
      };
      axes = facts.axes;
      slots = facts.slots;
      places = facts.places;
      numbers = facts.numbers;
      options = facts.options;
      ascend = facts.ascend;
      linked = linked_extends job new (channel_extends job line) job.axes job.offsets job.zones job.tools facts.linked;
    }

-- an AXIS line
abbrev pub with_axis : JobView → AxisLine → JobView
with_axis job line = record job { axes = job.axes ++ line ∷ [] }

owner_more : (axes : List AxisLine) (line : AxisLine) (axis : ℕ) (owner : Option ℕ) (at : Option AxisLine) → slice_get axes axis ≡ at → axis < length axes
    → option_and_then (λ l. l.owner) at ≡ owner → option_and_then (λ l. l.owner) (slice_get (axes ++ line ∷ []) axis) ≡ owner
owner_more axes line axis owner None at within owned = absurd (none_there axes axis at within)
  where
    none_there : (axes : List AxisLine) (axis : ℕ) → slice_get axes axis ≡ None → axis < length axes → ⊥
    none_there [] axis at within = omega arith
    none_there (l ∷ ls) zero at within = cc
    none_there (l ∷ ls) (suc i) at within = none_there ls i at (omega arith)
owner_more axes line axis owner (Some there) at within owned = rw (slice_get-more axes axis there line at) owned

axis_extends : (job : JobView) (line : AxisLine) → Extends job (with_axis job line)
unfolding first_owner
axis_extends job line =
    let further : length (job.axes ++ line ∷ []) ≡ length job.axes + 1 = length-append job.axes (line ∷ []) in
    record {
      declared = λ channel declared. declared;
      owned = λ axis owner owned. (omega (arith, owned.0), owner_more job.axes line axis owner (slice_get job.axes axis) refl owned.0 owned.1);
    }

axis_differs : (job : JobView) (name : AxisName) → rule.has_axis job name ≡ false → (line : AxisLine) → line.letter ≡ name.letter → line.number ≡ name.number
    → All (λ other. HaveOtherNames other line) job.axes
unfolding rule.has_axis
axis_differs job name none line letter number =
    All-weaker (λ other. rule.is_named name other ≡ false) (λ other. HaveOtherNames other line)
    (λ other fails same. let equal : other.letter ≡ name.letter = same ∙ letter in
    (λ also. differs other.letter name.letter other.number name.number fails equal (also ∙ number)))
    job.axes (none_pass (rule.is_named name) job.axes none)

below_widest : (count most : ℕ) → nat_le most count ≡ false → most ≤ AXIS_LIMIT → count < AXIS_LIMIT
below_widest count most fails few =
    let below : count < most = search (rules, fails) in
    omega (arith, below, few)

pub axis_told : (job : JobView) (number : ℕ) (name : AxisName) (owner : Option ℕ) (at : ℤ) → ListFacts job → rule.axis_rule job name owner ≡ None
    → IsPosition at
    → ListFacts (with_axis job (record { line = number; letter = name.letter; number = name.number; owner = owner; at = at }))
unfolding rule.axis_rule
axis_told job number name owner at facts none near =
    let line : AxisLine = record { line = number; letter = name.letter; number = name.number; owner = owner; at = at } in
    let new : JobView = with_axis job line in
    let extends : Extends job new = axis_extends job line in
    let first = unbroken (not (rule.has_owner job owner)) NotDeclared _ none in
    let second = unbroken (rule.has_axis job name) DeclaredTwice _ first.1 in
    let third = unbroken (nat_le (extent_of job.version).axes (length job.axes)) TooMany None second.1 in
    let few : length job.axes < AXIS_LIMIT = below_widest (length job.axes) (extent_of job.version).axes third.0 (few_axes job.version) in
    let further : length (job.axes ++ line ∷ []) ≡ length job.axes + 1 = length-append job.axes (line ∷ []) in
    let linked : Linked new job.axes job.offsets job.zones job.tools = linked_extends job new extends job.axes job.offsets job.zones job.tools facts.linked in
    record {
      channels = facts.channels;
      axes = record {
        few = omega arith;
        names = all_pairs_push HaveOtherNames job.axes line facts.axes.names (axis_differs job name second.0 line refl refl);
        positions = All-push (λ (l : AxisLine). IsPosition l.at) job.axes line facts.axes.positions near;
      };
      slots = record {
        numbers = facts.slots.numbers;
        axes = All-weaker (λ (g : GeoLine). g.axis < length job.axes) (λ (g : GeoLine). g.axis < length (job.axes ++ line ∷ [])) (λ g within. omega arith) job.geo facts.slots.axes;
      };
      places = facts.places;
      numbers = facts.numbers;
      options = facts.options;
      ascend = facts.ascend;
      linked = record {
        owners = All-push (λ (l : AxisLine). IfSome l.owner (IsDeclared new)) job.axes line linked.owners
            (held_extends job new extends owner (owner_declared job owner (not_false (rule.has_owner job owner) first.0)));
        offsets = linked.offsets;
        zones = linked.zones;
        tools = linked.tools;
      };
    }

-- a GEO line
abbrev pub with_geo : JobView → GeoLine → JobView
with_geo job line = record job { geo = job.geo ++ line ∷ [] }

-- a line that declares neither a channel nor an axis
lines_extend : (old new : JobView) → new.channels ≡ old.channels → new.axes ≡ old.axes → Extends old new
unfolding first_owner
lines_extend old new channels axes = record {
  declared = λ channel declared. rw channels declared;
  owned = λ axis owner owned. rw axes owned;
}

-- the axis of a name is one of the list
axis_place : (place : ℕ) (axes : List AxisLine) (few : Bool) → place < length axes → IfSome (if few then Some place else None) (λ axis. axis < length axes)
axis_place place axes true within = within
axis_place place axes false within = tt

axis_found : (axes : List AxisLine) (name : AxisName) (place : Option ℕ) → position (rule.is_named name) axes ≡ place
    → IfSome (option_and_then axis_at place) (λ axis. axis < length axes)
axis_found axes name None at = tt
axis_found axes name (Some i) at =
    let found = place (nat_lt (position_or_len (rule.is_named name) axes) (length axes)) (position_or_len (rule.is_named name) axes) (length axes) i refl at in
    axis_place i axes (nat_lt i AXIS_LIMIT) (omega (arith, found.0, found.1))

pub axis_within : (axes : List AxisLine) (name : AxisName) → IfSome (rule.axis_of axes name) (λ axis. axis < length axes)
unfolding rule.axis_of
axis_within axes name = axis_found axes name (position (rule.is_named name) axes) refl

slot_differs : (job : JobView) (channel slot axis : ℕ) → rule.has_slot job channel slot ≡ false → rule.has_slot_axis job channel axis ≡ false
    → (line : GeoLine) → line.channel ≡ channel → line.slot ≡ slot → line.axis ≡ axis → (k : ℕ) (d : GeoLine) → k < length job.geo → HaveOtherSlots (get_or job.geo k d) line
unfolding rule.has_slot rule.has_slot_axis
slot_differs job channel slot axis slots axes line is_channel is_slot is_axis k d within same =
    let other : GeoLine = get_or job.geo k d in
    let equal : other.channel ≡ channel = same ∙ is_channel in
    let no_slot = none_pass (λ (l : GeoLine). (l.channel == channel) && (l.slot == slot)) job.geo slots k d within in
    let no_axis = none_pass (λ (l : GeoLine). (l.channel == channel) && (l.axis == axis)) job.geo axes k d within in (
      λ also. differs other.channel channel other.slot slot no_slot equal (also ∙ is_slot),
      λ also. differs other.channel channel other.axis axis no_axis equal (also ∙ is_axis),
    )

pub geo_told : (job : JobView) (number channel slot axis : ℕ) → ListFacts job → rule.slot_rule job channel slot (Some axis) ≡ None → axis < length job.axes
    → ListFacts (with_geo job (record { line = number; channel = channel; slot = slot; axis = axis }))
unfolding rule.slot_rule
geo_told job number channel slot axis facts none within =
    let line : GeoLine = record { line = number; channel = channel; slot = slot; axis = axis } in
    let first = unbroken (not (rule.has_channel job channel)) NotDeclared _ none in
    let second = unbroken (rule.has_slot job channel slot || rule.has_slot_axis job channel axis) DeclaredTwice _ first.1 in
    let free = or_fails (rule.has_slot job channel slot) (rule.has_slot_axis job channel axis) second.0 in
    record {
      channels = facts.channels;
      axes = facts.axes;
      slots = record {
        numbers = all_pairs_push HaveOtherSlots job.geo line facts.slots.numbers (slot_differs job channel slot axis free.0 free.1 line refl refl refl);
        axes = All-push (λ (g : GeoLine). g.axis < length job.axes) job.geo line facts.slots.axes within;
      };
      places = facts.places;
      numbers = facts.numbers;
      options = facts.options;
      ascend = facts.ascend;
      linked = linked_extends job (with_geo job line) (lines_extend job (with_geo job line) refl refl) job.axes job.offsets job.zones job.tools facts.linked;
    }

-- an OFFSET line
abbrev pub with_offset : JobView → OffsetLine → JobView
with_offset job line = record job { offsets = job.offsets ++ line ∷ [] }

-- a failed test of three equations
differs_last : (a b c d e f : ℕ) → (a == b) && (c == d) && (e == f) ≡ false → a ≡ b → c ≡ d → e ≢ f
differs_last a b c d e f fails same also last = true≢false (sym (rw (eq-eqb a b same, eq-eqb c d also, eq-eqb e f last) refl) ∙ fails)

offset_differs : (job : JobView) (channel g slot : ℕ) → rule.has_offset job channel g slot ≡ false
    → (line : OffsetLine) → line.channel ≡ channel → line.g ≡ g → line.slot ≡ slot → (k : ℕ) (d : OffsetLine) → k < length job.offsets → HaveOtherPlaces (get_or job.offsets k d) line
unfolding rule.has_offset
offset_differs job channel g slot none line is_channel is_g is_slot k d within same also last =
    let other : OffsetLine = get_or job.offsets k d in
    let fails = none_pass (λ (l : OffsetLine). (l.channel == channel) && (l.g == g) && (l.slot == slot)) job.offsets none k d within in
    differs_last other.channel channel other.g g other.slot slot fails (same ∙ is_channel) (also ∙ is_g) (last ∙ is_slot)

pub offset_told : (job : JobView) (number channel g slot : ℕ) (by : ℤ) → ListFacts job → rule.offset_rule job channel g slot ≡ None
    → IsSettable g × (slot < 3) × IsPosition by → ListFacts (with_offset job (record { line = number; channel = channel; g = g; slot = slot; by = by }))
unfolding rule.offset_rule
offset_told job number channel g slot by facts none sound =
    let line : OffsetLine = record { line = number; channel = channel; g = g; slot = slot; by = by } in
    let new : JobView = with_offset job line in
    let first = unbroken (not (rule.has_channel job channel)) NotDeclared _ none in
    let second = unbroken (rule.has_offset job channel g slot) DeclaredTwice None first.1 in
    let linked : Linked new job.axes job.offsets job.zones job.tools =
    linked_extends job new (lines_extend job new refl refl) job.axes job.offsets job.zones job.tools facts.linked in
    record {
      channels = facts.channels;
      axes = facts.axes;
      slots = facts.slots;
      places = all_pairs_push HaveOtherPlaces job.offsets line facts.places (offset_differs job channel g slot second.0 line refl refl refl);
      numbers = facts.numbers;
      options = facts.options;
      ascend = facts.ascend;
      linked = record {
        owners = linked.owners;
        offsets = All-push (IsSoundOffset new) job.offsets line linked.offsets (record {
          declared = declared_from job channel (not_false (rule.has_channel job channel) first.0);
          word = sound.0;
          slot = sound.1;
          by = sound.2;
        });
        zones = linked.zones;
        tools = linked.tools;
      };
    }

-- a ZONE line
abbrev pub with_zone : JobView → ZoneLine → JobView
with_zone job line = record job { zones = job.zones ++ line ∷ [] }

carrier_owned : (job : JobView) (holder : Option ℕ) (carrier : Option (ℕ × Bool)) → rule.is_owned_carrier job holder carrier ≡ true
    → IfSome carrier (λ c. (c.0 < length job.axes) × (first_owner job c.0 ≡ holder))
carrier_owned job holder None owned = tt
carrier_owned job holder (Some c) owned = owns_first job holder c.0 owned

side_owned : (job : JobView) (holder : Option ℕ) (side : Side) → rule.owns_carrier job holder side ≡ true → IsCarriedBy job holder side
unfolding rule.owns_carrier
side_owned job holder side owned = carrier_owned job holder side.carrier owned

carriers_differ : (a b : Option (ℕ × Bool)) → rule.same_carrier a b ≡ false → IfSome a (λ c. IfSome b (λ d. c.0 ≢ d.0))
carriers_differ None b differ = tt
carriers_differ (Some c) None differ = tt
carriers_differ (Some c) (Some d) differ = λ same. eqb-false d.0 c.0 differ (sym same)

sides_differ : (a b : Side) → rule.same_axis a b ≡ false → HaveOtherCarriers a b
unfolding rule.same_axis
sides_differ a b differ = carriers_differ a.carrier b.carrier differ

All-three : {A : Type 0} (P : A → Type 0) (x y z : A) → P x → P y → P z → All P (x ∷ y ∷ z ∷ [])
All-three P x y z px py pz = All-cons P x (y ∷ z ∷ []) px (All-cons P y (z ∷ []) py (All-cons P z [] pz (All-nil P)))

pub no_pairs : {A : Type 0} (R : A → A → Type 0) → AllPairs R []
no_pairs R i j d before within = absurd (omega arith)

AllPairs-three : {A : Type 0} (R : A → A → Type 0) (x y z : A) → R x y → R x z → R y z → AllPairs R (x ∷ y ∷ z ∷ [])
AllPairs-three R x y z xy xz yz =
    AllPairs-cons R x (y ∷ z ∷ []) (All-cons (R x) y (z ∷ []) xy (All-cons (R x) z [] xz (All-nil (R x))))
    (AllPairs-cons R y (z ∷ []) (All-cons (R y) z [] yz (All-nil (R y)))
    (AllPairs-cons R z [] (All-nil (R z)) (no_pairs R)))

-- a named side keeps its range
abbrev pub HasRange : NamedSide → Side → Type 0
HasRange named side = (named.lo ≡ side.lo) × (named.hi ≡ side.hi)

named_range : (side : NamedSide) (minus : Bool) (axis : Option ℕ) → IfSome (option_map (λ a. rule.side_with side (Some (a, minus))) axis) (HasRange side)
named_range side minus None = tt
named_range side minus (Some a) = (refl, refl)

carried_range : (axes : List AxisLine) (side : NamedSide) (carrier : Option (AxisName × Bool)) → IfSome (rule.carried_side axes side carrier) (HasRange side)
unfolding rule.side_of
carried_range axes side None = (refl, refl)
carried_range axes side (Some (name, minus)) = named_range side minus (rule.axis_of axes name)

pub side_range : (axes : List AxisLine) (side : NamedSide) → IfSome (rule.side_of axes side) (HasRange side)
unfolding rule.side_of
side_range axes side = carried_range axes side side.carrier

pub sound_range : (named : NamedSide) (side : Side) → HasRange named side → IsSoundRange named.lo named.hi → IsSoundRange side.lo side.hi
sound_range named side same sound = subst (λ lo. IsSoundRange lo side.hi) same.0 (subst (λ hi. IsSoundRange named.lo hi) same.1 sound)

zone_differs : (job : JobView) (zone : ℕ) → rule.has_zone job zone ≡ false → (line : ZoneLine) → line.zone ≡ zone → (k : ℕ) (d : ZoneLine) → k < length job.zones
    → (get_or job.zones k d).zone ≢ line.zone
unfolding rule.has_zone
zone_differs job zone none line is_zone k d within same =
    eqb-false (get_or job.zones k d).zone zone (none_pass (λ (l : ZoneLine). l.zone == zone) job.zones none k d within) (same ∙ is_zone)

-- what the rules say of the directions of a zone
record SidesPass (job : JobView) (holder : Option ℕ) (x y z : Side) : Type 0 where
  declared : IfSome holder (IsDeclared job)
  carried : All (IsCarriedBy job holder) (x ∷ y ∷ z ∷ [])
  carriers : AllPairs HaveOtherCarriers (x ∷ y ∷ z ∷ [])

sides_pass : (job : JobView) (zone : ℕ) (holder : Option ℕ) (x y z : Side) → rule.zone_rule job zone holder (Some x) (Some y) (Some z) ≡ None
    → (rule.has_zone job zone ≡ false) × SidesPass job holder x y z
unfolding rule.zone_rule rule.sides_rule
sides_pass job zone holder x y z none =
    let first = unbroken (not (rule.has_owner job holder)) NotDeclared _ none in
    let second = unbroken (rule.has_zone job zone) DeclaredTwice _ first.1 in
    let third = unbroken (rule.same_axis x y || rule.same_axis x z || rule.same_axis y z) DeclaredTwice _ second.1 in
    let apart = or_fails (rule.same_axis x y || rule.same_axis x z) (rule.same_axis y z) third.0 in
    let apart_x = or_fails (rule.same_axis x y) (rule.same_axis x z) apart.0 in
    let fourth = unbroken (not (rule.owns_carrier job holder x && rule.owns_carrier job holder y && rule.owns_carrier job holder z)) OwnerDiffers None third.1 in
    let owned = not_false (rule.owns_carrier job holder x && rule.owns_carrier job holder y && rule.owns_carrier job holder z) fourth.0 in
    let owned_z = and_holds (rule.owns_carrier job holder x && rule.owns_carrier job holder y) (rule.owns_carrier job holder z) owned in
    let owned_xy = and_holds (rule.owns_carrier job holder x) (rule.owns_carrier job holder y) owned_z.0 in (
      second.0,
      record {
        declared = owner_declared job holder (not_false (rule.has_owner job holder) first.0);
        carried = All-three (IsCarriedBy job holder) x y z (side_owned job holder x owned_xy.0) (side_owned job holder y owned_xy.1) (side_owned job holder z owned_z.1);
        carriers = AllPairs-three HaveOtherCarriers x y z (sides_differ x y apart_x.0) (sides_differ x z apart_x.1) (sides_differ y z apart.1);
      },
    )

pub zone_told : (job : JobView) (number : ℕ) (zone : NamedZone) (x y z : Side) → ListFacts job → rule.zone_rule job zone.zone zone.holder (Some x) (Some y) (Some z) ≡ None
    → (1 ≤ zone.zone) × (zone.zone ≤ ZONE_LIMIT) → (1 ≤ zone.group) × (zone.group ≤ ZONE_LIMIT) → IsSoundRange x.lo x.hi → IsSoundRange y.lo y.hi → IsSoundRange z.lo z.hi
    → ListFacts (with_zone job (record { line = number; zone = zone.zone; group = zone.group; holder = zone.holder; on = zone.on; sides = x ∷ y ∷ z ∷ [] }))
zone_told job number zone x y z facts none zone_range group_range x_range y_range z_range =
    let line : ZoneLine = record { line = number; zone = zone.zone; group = zone.group; holder = zone.holder; on = zone.on; sides = x ∷ y ∷ z ∷ [] } in
    let new : JobView = with_zone job line in
    let extends : Extends job new = lines_extend job new refl refl in
    let passed = sides_pass job zone.zone zone.holder x y z none in
    let sound : IsSoundZone job line = record {
      low_number = zone_range.0;
      high_number = zone_range.1;
      low_group = group_range.0;
      high_group = group_range.1;
      held = passed.1.declared;
      directions = refl;
      carried = passed.1.carried;
      carriers = passed.1.carriers;
      ranges = All-three (λ (side : Side). IsSoundRange side.lo side.hi) x y z x_range y_range z_range;
    } in
    let linked : Linked new job.axes job.offsets job.zones job.tools = linked_extends job new extends job.axes job.offsets job.zones job.tools facts.linked in
    record {
      channels = facts.channels;
      axes = facts.axes;
      slots = facts.slots;
      places = facts.places;
      numbers = all_pairs_push (λ (l other : ZoneLine). l.zone ≢ other.zone) job.zones line facts.numbers (zone_differs job zone.zone passed.0 line refl);
      options = facts.options;
      ascend = facts.ascend;
      linked = record {
        owners = linked.owners;
        offsets = linked.offsets;
        zones = All-push (IsSoundZone new) job.zones line linked.zones (zone_extends job new extends line sound);
        tools = linked.tools;
      };
    }

-- a TOOL line
abbrev pub with_tools : JobView → List (ℕ × List ToolEdge) → JobView
with_tools job tools = record job { tools = tools }

-- one that gives an edge anew
abbrev is_fresh : ℕ → ToolEdge → ℕ × List ToolEdge → Bool
is_fresh channel edge one = (one.0 == channel) && has_edge one.1 edge.tool edge.edge

fresh_edges : (edges : List ToolEdge) (edge : ToolEdge) → has_edge edges edge.tool edge.edge ≡ false → All (λ (l : ToolEdge). l.tool == edge.tool && l.edge == edge.edge ≡ false) edges
unfolding has_edge
fresh_edges edges edge none = none_pass (λ (l : ToolEdge). l.tool == edge.tool && l.edge == edge.edge) edges none

other_edges : (one : ℕ × List ToolEdge) (channel : ℕ) (edge : ToolEdge) → one.0 ≡ channel → is_fresh channel edge one ≡ false → has_edge one.1 edge.tool edge.edge ≡ false
other_edges one channel edge same fresh = rw (eq-eqb one.0 channel same) at fresh

abbrev IsInRange : ToolEdge → Type 0
IsInRange edge = IsEdge edge.tool edge.edge edge.lengths.x edge.lengths.z

sound_edge : (edge : ToolEdge) → IsInRange edge → IsSoundEdge edge
sound_edge edge given = record { tool = given.tool_range.1; edge = given.edge_range.1; x = given.near_x; z = given.near_z }

tools_grow : (job : JobView) (channel : ℕ) (edge : ToolEdge) → IsInRange edge → (one : ℕ × List ToolEdge) → AreSoundTools job one → one.0 ≡ channel → is_fresh channel edge one ≡ false
    → AreSoundTools job (one.0, one.1 ++ edge ∷ [])
tools_grow job channel edge given one sound same fresh =
    let further : length (one.1 ++ edge ∷ []) ≡ length one.1 + 1 = length-append one.1 (edge ∷ []) in
    record {
      declared = sound.declared;
      some = omega arith;
      once = sound_push one.1 edge given.tool_range.0 given.edge_range.0 (fresh_edges one.1 edge (other_edges one channel edge same fresh)) sound.once;
      edges = All-push IsSoundEdge one.1 edge sound.edges (sound_edge edge given);
    }

tools_begin : (job : JobView) (channel : ℕ) (edge : ToolEdge) → IsInRange edge → IsDeclared job channel → AreSoundTools job (channel, edge ∷ [])
tools_begin job channel edge given declared = record {
  declared = declared;
  some = omega arith;
  once = sound_push [] edge given.tool_range.0 given.edge_range.0 (All-nil (λ (l : ToolEdge). l.tool == edge.tool && l.edge == edge.edge ≡ false)) sound_none;
  edges = All-cons IsSoundEdge edge [] (sound_edge edge given) (All-nil IsSoundEdge);
}

none_given : (tools : List (ℕ × List ToolEdge)) (channel : ℕ) (edge : ToolEdge) → rule.has_edge tools channel edge.tool edge.edge ≡ false → All (λ one. is_fresh channel edge one ≡ false) tools
unfolding rule.has_edge
none_given tools channel edge none = none_pass (is_fresh channel edge) tools none

pub tool_told : (job : JobView) (channel : ℕ) (line : GivenEdge) → ListFacts job → rule.tool_rule job channel line ≡ None → IsGivenEdge line
    → ListFacts (with_tools job (with_edge job.tools channel (tool_edge line)))
unfolding rule.tool_rule
tool_told job channel line facts none given =
    let edge : ToolEdge = tool_edge line in
    let tools : List (ℕ × List ToolEdge) = with_edge job.tools channel edge in
    let new : JobView = with_tools job tools in
    let extends : Extends job new = lines_extend job new refl refl in
    let first = unbroken (not (rule.has_channel job channel)) NotDeclared _ none in
    let second = unbroken (rule.has_edge job.tools channel edge.tool edge.edge) DeclaredTwice None first.1 in
    let declared : IsDeclared job channel = declared_from job channel (not_false (rule.has_channel job channel) first.0) in
    let fresh = none_given job.tools channel edge second.0 in
    let linked : Linked new job.axes job.offsets job.zones job.tools = linked_extends job new extends job.axes job.offsets job.zones job.tools facts.linked in
    record {
      channels = facts.channels;
      axes = facts.axes;
      slots = facts.slots;
      places = facts.places;
      numbers = facts.numbers;
      options = facts.options;
      ascend = ascends_with job.tools channel edge fresh facts.ascend;
      linked = record {
        owners = linked.owners;
        offsets = linked.offsets;
        zones = linked.zones;
        tools = all_with (AreSoundTools new) channel edge job.tools (tools_grow new channel edge given) (tools_begin new channel edge given (extends.declared channel declared)) fresh linked.tools;
      };
    }

-- options and programs
abbrev pub with_options : JobView → ℤ → ℕ → ℕ → Bool → Bool → JobView
with_options job margin depth budget compensation skip = record job { margin = margin; depth = depth; budget = budget; compensation = compensation; skip = skip }

pub options_told : (job : JobView) (margin : ℤ) (depth budget : ℕ) (compensation skip : Bool) → ListFacts job → OptionFacts margin depth budget
    → ListFacts (with_options job margin depth budget compensation skip)
options_told job margin depth budget compensation skip facts options =
    let new : JobView = with_options job margin depth budget compensation skip in
    record {
      channels = facts.channels;
      axes = facts.axes;
      slots = facts.slots;
      places = facts.places;
      numbers = facts.numbers;
      options = options;
      ascend = facts.ascend;
      linked = linked_extends job new (lines_extend job new refl refl) job.axes job.offsets job.zones job.tools facts.linked;
    }

abbrev pub with_programs : JobView → List (List ℕ × ProgramView) → JobView
with_programs job programs = record job { programs = programs }

pub list_kept : (job : JobView) (programs : List (List ℕ × ProgramView)) → ListFacts job → ListFacts (with_programs job programs)
list_kept job programs facts =
    let new : JobView = with_programs job programs in
    record {
      channels = facts.channels;
      axes = facts.axes;
      slots = facts.slots;
      places = facts.places;
      numbers = facts.numbers;
      options = facts.options;
      ascend = facts.ascend;
      linked = linked_extends job new (lines_extend job new refl refl) job.axes job.offsets job.zones job.tools facts.linked;
    }

-- the job line
abbrev pub with_job_line : JobView → ℕ → JobView
with_job_line job line = record job { line = line }

pub job_line_told : (job : JobView) (line : ℕ) → ListFacts job → ListFacts (with_job_line job line)
job_line_told job line facts =
    let new : JobView = with_job_line job line in
    record {
      channels = facts.channels;
      axes = facts.axes;
      slots = facts.slots;
      places = facts.places;
      numbers = facts.numbers;
      options = facts.options;
      ascend = facts.ascend;
      linked = linked_extends job new (lines_extend job new refl refl) job.axes job.offsets job.zones job.tools facts.linked;
    }

-- of nothing
pub nothing_listed : ListFacts nothing_told
nothing_listed = record {
  channels = record {
    numbers = no_pairs (λ (l other : ChannelLine). l.channel ≢ other.channel);
    low = All-nil (λ (l : ChannelLine). 1 ≤ l.channel);
    high = All-nil (λ (l : ChannelLine). l.channel ≤ CHANNEL_LIMIT);
    selecting = All-nil (λ (l : ChannelLine). l.starts ≡ true → IsSome l.program);
  };
  axes = record { few = omega arith; names = no_pairs HaveOtherNames; positions = All-nil (λ (l : AxisLine). IsPosition l.at) };
  slots = record { numbers = no_pairs HaveOtherSlots; axes = All-nil (λ (g : GeoLine). g.axis < 0) };
  places = no_pairs HaveOtherPlaces;
  numbers = no_pairs (λ (z other : ZoneLine). z.zone ≢ other.zone);
  options = record { sound_margin = (omega arith, omega arith); sound_depth = omega arith; sound_budget = (omega arith, omega arith) };
  ascend = no_pairs IsBefore;
  linked = record {
    owners = All-nil (λ (l : AxisLine). IfSome l.owner (IsDeclared nothing_told));
    offsets = All-nil (IsSoundOffset nothing_told);
    zones = All-nil (IsSoundZone nothing_told);
    tools = All-nil (AreSoundTools nothing_told);
  };
}
