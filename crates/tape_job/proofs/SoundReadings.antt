-- What holds of all that a line can say by itself.
use Rattle.axis_sets.specs.declared.limits.TheConstants.{CHANNEL_LIMIT, ZONE_LIMIT}
use Rattle.std.specs.Bool.{⊤}
use Rattle.std.proofs.Common.{◌≡◌, inl, inr, ℕ, zero, suc, ◌≤◌, ◌<◌, ℤ, pos, negsuc, neg_ℤ, unsigned_abs, Bool, true, false, ◌&&◌, ◌||◌, not, if◌then◌else◌, nat_le, nat_lt, int_le, length, ◌==◌, codes, List, [], ◌∷◌, Result, Ok, Err, IfOk, Option, Some, None, IfSome, IsSome, refl, rules, arith}
use Rattle.std.specs.List.{list_any}
use Rattle.std.specs.Option.{option_and_then, option_map}
use Rattle.std.specs.Str.{bytes_eq}
use Rattle.std.proofs.lemmas.Bool.{leb-true}
use Rattle.micro_units.specs.Rounding.{half_away}
use Rattle.micro_units.specs.NumberText.{number_of}
use Rattle.block_scanner.specs.Tokens.{tokens_of}
use Rattle.block_scanner.specs.declared.ScanFault.{ScanFault}
use Rattle.block_scanner.specs.declared.ScanFault.TheVariants as fault
use Rattle.block_scanner.specs.declared.Token.{Token}
use Rattle.job_lines.specs.declared.code.Code.{Code}
use Rattle.job_lines.specs.declared.code.Code.TheVariants.{OutOfRange}
use Rattle.job_lines.specs.declared.declaration.AxisName.{AxisName}
use Rattle.job_lines.specs.declared.declaration.NamedSide.{NamedSide}
use Rattle.job_lines.specs.declared.declaration.ZoneHead.{ZoneHead}
use Rattle.job_lines.specs.declared.declaration.Declaration.{Declaration}
use Rattle.job_lines.specs.declared.declaration.Declaration.TheVariants.{Channel, Axis, Offset, Zone, Tool, Margin, Depth, Budget}
use Rattle.job_lines.specs.Code.{◌>>=◌, or_code}
use Rattle.job_lines.specs.Header.{header_of}
use Rattle.job_lines.specs.Declaration as declaration
use Rattle.job_lines.specs.Extent.{extent_of}
use Rattle.job_lines.proofs.ExtentLaws.{few_channels}
use Rattle.job_lines.specs.OptionLines as option
use Rattle.job_lines.specs.ToolLines as tool_line
use Rattle.job_lines.specs.declared.limits.TheConstants.{EDGE_LIMIT, TOOL_LIMIT}
use Rattle.job_lines.specs.declared.tool_lines.GivenEdge.{GivenEdge}
use Rattle.job_lines.specs.Numbers.{whole_of, number_in_range, number_within}
use Rattle.job_lines.specs.Length.{in_reach, size_of, is_size, signed_size_of, length_of}
use Rattle.nc_expressions.specs.NameTexts.{upper, name_of}
use Rattle.nc_blocks.specs.Statement.{BlockView}
use Rattle.nc_syntax.specs.Blocks.{statement_of}
use Rattle.tape_job.specs.Lines.{words, is_visible, begins_with_percent, text_of, before_comment}
use Rattle.tape_job.specs.declared.draft.TheConstants.{VERSION}
use Rattle.tape_job.specs.Reading as reading
use Rattle.tape_job.specs.Reading.{ReadingView, DeclarationLine, Header, BlockLine}
use Rattle.micro_units.specs.Position.{IsPosition}
use Rattle.job_types.specs.SoundJob.{IsSettable, IsSoundRange, IsSoundMargin}

-- what holds of each result of a reading holds of the next reading's
then_ok : {A B : Type 0} (P : A → Type 0) (Q : B → Type 0) (read : Result A Code) (next : A → Result B Code)
    → IfOk read P → ((a : A) → P a → IfOk (next a) Q) → IfOk (read >>= next) Q
then_ok P Q (Ok a) next holds goes = goes a holds
then_ok P Q (Err code) next holds goes = tt

then_any : {A B : Type 0} (Q : B → Type 0) (read : Result A Code) (next : A → Result B Code) → ((a : A) → IfOk (next a) Q) → IfOk (read >>= next) Q
then_any Q (Ok a) next goes = goes a
then_any Q (Err code) next goes = tt

if_ok : {A : Type 0} (P : A → Type 0) (test : Bool) (first second : Result A Code) → (test ≡ true → IfOk first P) → IfOk second P → IfOk (if test then first else second) P
if_ok P true first second holds fails = holds refl
if_ok P false first second holds fails = fails

or_ok : {A : Type 0} (P : A → Type 0) (code : Code) (found : Option A) → IfSome found P → IfOk (or_code code found) P
or_ok P code None holds = tt
or_ok P code (Some a) holds = holds

-- numbers
abbrev pub IsWithin : ℕ → ℕ → ℕ → Type 0
IsWithin low high number = (low ≤ number) × (number ≤ high)

within_sound : (above below : Bool) (low high number : ℕ) → nat_le low number ≡ above → nat_le number high ≡ below
    → IfSome (if above && below then Some number else None) (IsWithin low high)
within_sound true true low high number above below = (leb-true low number above, leb-true number high below)
within_sound true false low high number above below = tt
within_sound false right low high number above below = tt

found_within : (low high : ℕ) (found : Option ℕ) → IfSome (option_and_then (number_in_range low high) found) (IsWithin low high)
found_within low high None = tt
found_within low high (Some number) = within_sound (nat_le low number) (nat_le number high) low high number refl refl

number_sound : (low high : ℕ) (word : List ℕ) → IfSome (number_within low high word) (IsWithin low high)
unfolding number_within
number_sound low high word = found_within low high (whole_of word)

no_higher : (low high limit : ℕ) (found : Option ℕ) → high ≤ limit → IfSome found (IsWithin low high) → IfSome found (IsWithin low limit)
no_higher low high limit None few within = tt
no_higher low high limit (Some number) few within = (within.0, omega (arith, within.1, few))

channel_sound : (greatest : ℕ) → greatest ≤ CHANNEL_LIMIT → (word : List ℕ) → IfOk (declaration.channel_of greatest word) (IsWithin 1 CHANNEL_LIMIT)
unfolding declaration.channel_of
channel_sound greatest few word =
    or_ok (IsWithin 1 CHANNEL_LIMIT) OutOfRange (number_within 1 greatest word) (no_higher 1 greatest CHANNEL_LIMIT (number_within 1 greatest word) few (number_sound 1 greatest word))

zone_sound : (word : List ℕ) → IfOk (declaration.zone_of word) (IsWithin 1 ZONE_LIMIT)
unfolding declaration.zone_of
zone_sound word = or_ok (IsWithin 1 ZONE_LIMIT) OutOfRange (number_within 1 ZONE_LIMIT word) (number_sound 1 ZONE_LIMIT word)

-- lengths
reach_by : (near : Bool) (z : ℤ) → nat_le (unsigned_abs z) 10000000 ≡ near → IfSome (if near then Some z else None) IsPosition
reach_by true z near = leb-true (unsigned_abs z) 10000000 near
reach_by false z near = tt

reach_of : (millionths : Option ℤ) → IfSome (option_and_then (λ m. in_reach (half_away m 1000)) millionths) IsPosition
unfolding in_reach
reach_of None = tt
reach_of (Some m) = reach_by (nat_le (unsigned_abs (half_away m 1000)) 10000000) (half_away m 1000) refl

size_by : (size : Bool) (text : List ℕ) → IfSome (if size then option_and_then (λ m. in_reach (half_away m 1000)) (number_of text) else None) IsPosition
size_by true text = reach_of (number_of text)
size_by false text = tt

size_sound : (text : List ℕ) → IfSome (size_of text) IsPosition
unfolding size_of
size_sound text = size_by (is_size text) text

abs_neg : (z : ℤ) → unsigned_abs (neg_ℤ z) ≡ unsigned_abs z
abs_neg (pos zero) = refl
abs_neg (pos (suc n)) = refl
abs_neg (negsuc n) = refl

negative_sound : (size : Option ℤ) → IfSome size IsPosition → IfSome (option_map neg_ℤ size) IsPosition
negative_sound None near = tt
negative_sound (Some z) near = rw (abs_neg z) near

signed_by : (minus plus : Bool) (sign : ℕ) (text : List ℕ)
    → IfSome (if minus then option_map neg_ℤ (size_of text) else if plus then size_of text else size_of (sign ∷ text)) IsPosition
signed_by true plus sign text = negative_sound (size_of text) (size_sound text)
signed_by false true sign text = size_sound text
signed_by false false sign text = size_sound (sign ∷ text)

signed_sound : (word : List ℕ) → IfSome (signed_size_of word) IsPosition
unfolding signed_size_of
signed_sound [] = size_sound []
signed_sound (sign ∷ text) = signed_by (sign == 45) (sign == 43) sign text

length_sound : (word : List ℕ) → IfOk (length_of word) IsPosition
unfolding length_of
length_sound word = or_ok IsPosition OutOfRange (signed_size_of word) (signed_sound word)

-- G words, slots
settable_by : (low high : Bool) (number : ℕ) → nat_le number 57 ≡ low → nat_le 505 number ≡ high → IsWithin 54 599 number
    → IfSome (if low || high then Some number else None) IsSettable
settable_by true high number low high_is range = inl (range.0, leb-true number 57 low)
settable_by false true number low high range = inr (leb-true 505 number high, range.1)
settable_by false false number low high range = tt

settable_sound : (found : Option ℕ) → IfSome found (IsWithin 54 599) → IfSome (option_and_then declaration.settable_code found) IsSettable
settable_sound None range = tt
settable_sound (Some number) range = settable_by (nat_le number 57) (nat_le 505 number) number refl refl range

g_sound : (word : List ℕ) → IfOk (declaration.g_of word) IsSettable
unfolding declaration.g_of
g_sound [] = tt
g_sound (letter ∷ digits) =
    if_ok IsSettable (letter == 71) _ _
    (λ _. or_ok IsSettable OutOfRange (option_and_then declaration.settable_code (number_within 54 599 digits)) (settable_sound (number_within 54 599 digits) (number_sound 54 599 digits))) tt

slot_sound : (word : List ℕ) → IfOk (declaration.slot_of word) (λ slot. slot < 3)
unfolding declaration.slot_of
slot_sound word =
    if_ok (λ slot. slot < 3) (bytes_eq word (codes "X")) _ _ (λ _. omega arith)
    (if_ok (λ slot. slot < 3) (bytes_eq word (codes "Y")) _ _ (λ _. omega arith)
    (if_ok (λ slot. slot < 3) (bytes_eq word (codes "Z")) _ _ (λ _. omega arith) tt))

-- job lines
abbrev pub IsSoundSide : NamedSide → Type 0
IsSoundSide side = IsSoundRange side.lo side.hi

range_by : (ordered : Bool) (carrier : Option (AxisName × Bool)) (lo hi : ℤ) → int_le lo hi ≡ ordered → IsPosition lo → IsPosition hi
    → IfOk (if ordered then Ok (record { carrier = carrier; lo = lo; hi = hi }) else Err OutOfRange) IsSoundSide
range_by true carrier lo hi ordered low high = record { ordered = search (rules, ordered); low = low; high = high }
range_by false carrier lo hi ordered low high = tt

side_sound : (carrier lo hi : List ℕ) → IfOk (declaration.named_side_of carrier lo hi) IsSoundSide
unfolding declaration.named_side_of
side_sound carrier lo hi =
    then_any IsSoundSide (declaration.carrier_of carrier) _ (λ c.
    then_ok IsPosition IsSoundSide (length_of lo) _ (length_sound lo) (λ l low.
    then_ok IsPosition IsSoundSide (length_of hi) _ (length_sound hi) (λ h high. range_by (int_le l h) c l h refl low high)))

-- tools
tool_sound : (word : List ℕ) → IfOk (tool_line.tool_of word) (IsWithin 1 TOOL_LIMIT)
unfolding tool_line.tool_of
tool_sound word = or_ok (IsWithin 1 TOOL_LIMIT) OutOfRange (number_within 1 TOOL_LIMIT word) (number_sound 1 TOOL_LIMIT word)

edge_sound : (word : List ℕ) → IfOk (tool_line.edge_of word) (IsWithin 1 EDGE_LIMIT)
unfolding tool_line.edge_of
edge_sound word = or_ok (IsWithin 1 EDGE_LIMIT) OutOfRange (number_within 1 EDGE_LIMIT word) (number_sound 1 EDGE_LIMIT word)

-- what holds of an edge of a tool
pub record IsEdge (tool edge : ℕ) (x z : ℤ) : Type 0 where
  pub tool_range : IsWithin 1 TOOL_LIMIT tool
  pub edge_range : IsWithin 1 EDGE_LIMIT edge
  pub near_x : IsPosition x
  pub near_z : IsPosition z

abbrev pub IsGivenEdge : GivenEdge → Type 0
IsGivenEdge given = IsEdge given.tool given.edge given.x given.z

given_edge_sound : (tool edge x z : List ℕ) → IfOk (tool_line.given_edge_of tool edge x z) IsGivenEdge
unfolding tool_line.given_edge_of
given_edge_sound tool edge x z =
    then_ok (IsWithin 1 TOOL_LIMIT) IsGivenEdge (tool_line.tool_of tool) _ (tool_sound tool) (λ t is_tool.
    then_ok (IsWithin 1 EDGE_LIMIT) IsGivenEdge (tool_line.edge_of edge) _ (edge_sound edge) (λ e is_edge.
    then_ok IsPosition IsGivenEdge (length_of x) _ (length_sound x) (λ a near_x.
    then_ok IsPosition IsGivenEdge (length_of z) _ (length_sound z) (λ b near_z.
    record { tool_range = is_tool; edge_range = is_edge; near_x = near_x; near_z = near_z }))))

-- what holds of a job line
abbrev pub IsSoundDeclaration : Declaration → Type 0
IsSoundDeclaration (Channel channel program starts) = IsWithin 1 CHANNEL_LIMIT channel × (starts ≡ true → IsSome program)
IsSoundDeclaration (Axis name owner at) = IsPosition at
IsSoundDeclaration (Offset channel g slot by) = IsSettable g × (slot < 3) × IsPosition by
IsSoundDeclaration (Zone zone) = IsWithin 1 ZONE_LIMIT zone.zone × IsWithin 1 ZONE_LIMIT zone.group × IsSoundSide zone.x × IsSoundSide zone.y × IsSoundSide zone.z
IsSoundDeclaration (Tool channel edge) = IsWithin 1 CHANNEL_LIMIT channel × IsGivenEdge edge
IsSoundDeclaration (Margin margin) = IsSoundMargin margin
IsSoundDeclaration (Depth depth) = depth ≤ 4
IsSoundDeclaration (Budget budget) = IsWithin 1 100000000 budget
IsSoundDeclaration declaration = ⊤

channel_declaration_sound : (greatest : ℕ) → greatest ≤ CHANNEL_LIMIT → (channel : List ℕ) (program : Option (List ℕ)) (starts : Bool) → (starts ≡ true → IsSome program) → IfOk (declaration.channel_declaration_of greatest channel program starts) IsSoundDeclaration
unfolding declaration.channel_declaration_of
channel_declaration_sound greatest few channel program starts named =
    then_ok (IsWithin 1 CHANNEL_LIMIT) IsSoundDeclaration (declaration.channel_of greatest channel) _ (channel_sound greatest few channel) (λ number range. (range, named))

starting_declaration_sound : (greatest : ℕ) → greatest ≤ CHANNEL_LIMIT → (channel program start : List ℕ) → IfOk (declaration.starting_declaration_of greatest channel program start) IsSoundDeclaration
unfolding declaration.starting_declaration_of
starting_declaration_sound greatest few channel program start =
    if_ok IsSoundDeclaration (bytes_eq start (codes "START")) _ _ (λ _. channel_declaration_sound greatest few channel (Some (name_of program)) true (λ _. refl)) tt

channel_line_sound : (greatest : ℕ) → greatest ≤ CHANNEL_LIMIT → (args : List (List ℕ)) → IfOk (declaration.channel_line greatest args) IsSoundDeclaration
unfolding declaration.channel_line
channel_line_sound greatest few (channel ∷ []) = channel_declaration_sound greatest few channel None false (λ starts. absurd cc)
channel_line_sound greatest few (channel ∷ program ∷ []) = channel_declaration_sound greatest few channel (Some (name_of program)) false (λ starts. absurd cc)
channel_line_sound greatest few (channel ∷ program ∷ start ∷ []) = starting_declaration_sound greatest few channel program start
channel_line_sound greatest few args = tt

axis_declaration_sound : (greatest : ℕ) (name owner at : List ℕ) → IfOk (declaration.axis_declaration_of greatest name owner at) IsSoundDeclaration
unfolding declaration.axis_declaration_of
axis_declaration_sound greatest name owner at =
    then_any IsSoundDeclaration (declaration.axis_name_of name) _ (λ n. then_any IsSoundDeclaration (declaration.owner_of greatest owner) _ (λ o.
    then_ok IsPosition IsSoundDeclaration (length_of at) _ (length_sound at) (λ z near. near)))

axis_line_sound : (greatest : ℕ) (args : List (List ℕ)) → IfOk (declaration.axis_line greatest args) IsSoundDeclaration
unfolding declaration.axis_line
axis_line_sound greatest (name ∷ owner ∷ at ∷ []) = axis_declaration_sound greatest name owner at
axis_line_sound greatest args = tt

geo_declaration_sound : (greatest : ℕ) (channel slot axis : List ℕ) → IfOk (declaration.geo_declaration_of greatest channel slot axis) IsSoundDeclaration
unfolding declaration.geo_declaration_of
geo_declaration_sound greatest channel slot axis =
    then_any IsSoundDeclaration (declaration.channel_of greatest channel) _ (λ c. then_any IsSoundDeclaration (declaration.slot_of slot) _ (λ s.
    then_any IsSoundDeclaration (declaration.axis_name_of axis) _ (λ a. tt)))

geo_line_sound : (greatest : ℕ) (args : List (List ℕ)) → IfOk (declaration.geo_line greatest args) IsSoundDeclaration
unfolding declaration.geo_line
geo_line_sound greatest (channel ∷ slot ∷ axis ∷ []) = geo_declaration_sound greatest channel slot axis
geo_line_sound greatest args = tt

offset_declaration_sound : (greatest : ℕ) (channel g slot by : List ℕ) → IfOk (declaration.offset_declaration_of greatest channel g slot by) IsSoundDeclaration
unfolding declaration.offset_declaration_of
offset_declaration_sound greatest channel g slot by =
    then_any IsSoundDeclaration (declaration.channel_of greatest channel) _ (λ c.
    then_ok IsSettable IsSoundDeclaration (declaration.g_of g) _ (g_sound g) (λ w settable.
    then_ok (λ n. n < 3) IsSoundDeclaration (declaration.slot_of slot) _ (slot_sound slot) (λ s low.
    then_ok IsPosition IsSoundDeclaration (length_of by) _ (length_sound by) (λ l near. (settable, low, near)))))

offset_line_sound : (greatest : ℕ) (args : List (List ℕ)) → IfOk (declaration.offset_line greatest args) IsSoundDeclaration
unfolding declaration.offset_line
offset_line_sound greatest (channel ∷ g ∷ slot ∷ by ∷ []) = offset_declaration_sound greatest channel g slot by
offset_line_sound greatest args = tt

-- a zone without its directions
abbrev IsSoundHead : ZoneHead → Type 0
IsSoundHead head = IsWithin 1 ZONE_LIMIT head.zone × IsWithin 1 ZONE_LIMIT head.group

zone_head_sound : (greatest : ℕ) (zone group holder state : List ℕ) → IfOk (declaration.zone_head_of greatest zone group holder state) IsSoundHead
unfolding declaration.zone_head_of
zone_head_sound greatest zone group holder state =
    then_any IsSoundHead (declaration.state_of state) _ (λ on.
    then_ok (IsWithin 1 ZONE_LIMIT) IsSoundHead (declaration.zone_of zone) _ (zone_sound zone) (λ z zone_range.
    then_ok (IsWithin 1 ZONE_LIMIT) IsSoundHead (declaration.zone_of group) _ (zone_sound group) (λ g group_range.
    then_any IsSoundHead (declaration.owner_of greatest holder) _ (λ h. (zone_range, group_range)))))

zone_declaration_sound : (head : Result ZoneHead Code) (x y z : Result NamedSide Code) → IfOk head IsSoundHead → IfOk x IsSoundSide → IfOk y IsSoundSide → IfOk z IsSoundSide
    → IfOk (declaration.zone_declaration_of head x y z) IsSoundDeclaration
unfolding declaration.zone_declaration_of
zone_declaration_sound head x y z is_head is_x is_y is_z =
    then_ok IsSoundHead IsSoundDeclaration head _ is_head (λ h ranges.
    then_ok IsSoundSide IsSoundDeclaration x _ is_x (λ a x_range.
    then_ok IsSoundSide IsSoundDeclaration y _ is_y (λ b y_range.
    then_ok IsSoundSide IsSoundDeclaration z _ is_z (λ c z_range.
    (ranges.0, ranges.1, x_range, y_range, z_range)))))

zone_line_sound : (greatest : ℕ) (args : List (List ℕ)) → IfOk (declaration.zone_line greatest args) IsSoundDeclaration
unfolding declaration.zone_line
zone_line_sound greatest (zone ∷ group ∷ holder ∷ state ∷ cx ∷ lx ∷ hx ∷ cy ∷ ly ∷ hy ∷ cz ∷ lz ∷ hz ∷ []) =
    zone_declaration_sound (declaration.zone_head_of greatest zone group holder state) (declaration.named_side_of cx lx hx) (declaration.named_side_of cy ly hy)
    (declaration.named_side_of cz lz hz) (zone_head_sound greatest zone group holder state) (side_sound cx lx hx) (side_sound cy ly hy) (side_sound cz lz hz)
zone_line_sound greatest args = tt

tool_declaration_sound : (channel : Result ℕ Code) (edge : Result GivenEdge Code) → IfOk channel (IsWithin 1 CHANNEL_LIMIT) → IfOk edge IsGivenEdge
    → IfOk (declaration.tool_declaration_of channel edge) IsSoundDeclaration
unfolding declaration.tool_declaration_of
tool_declaration_sound channel edge is_channel is_edge =
    then_ok (IsWithin 1 CHANNEL_LIMIT) IsSoundDeclaration channel _ is_channel (λ c range.
    then_ok IsGivenEdge IsSoundDeclaration edge _ is_edge (λ e given. (range, given)))

tool_line_sound : (greatest : ℕ) → greatest ≤ CHANNEL_LIMIT → (args : List (List ℕ)) → IfOk (declaration.tool_line greatest args) IsSoundDeclaration
unfolding declaration.tool_line
tool_line_sound greatest few (channel ∷ tool ∷ edge ∷ x ∷ z ∷ []) =
    tool_declaration_sound (declaration.channel_of greatest channel) (tool_line.given_edge_of tool edge x z) (channel_sound greatest few channel) (given_edge_sound tool edge x z)
tool_line_sound greatest few args = tt

job_line_sound : (args : List (List ℕ)) → IfOk (declaration.job_line args) IsSoundDeclaration
unfolding declaration.job_line
job_line_sound (version ∷ []) = tt
job_line_sound args = tt

margin_by : (low high : Bool) (margin : ℤ) → int_le (pos 0) margin ≡ low → int_le margin (pos 1000000) ≡ high
    → IfOk {T = Declaration} {E = Code} (if low && high then Ok (Margin margin) else Err OutOfRange) IsSoundDeclaration
margin_by true true margin low high = (search (rules, low), search (rules, high))
margin_by true false margin low high = tt
margin_by false high margin low high_is = tt

margin_sound : (word : List ℕ) → IfOk (option.margin_of word) IsSoundDeclaration
unfolding option.margin_of
margin_sound word = then_any IsSoundDeclaration (length_of word) _ (λ m. margin_by (int_le (pos 0) m) (int_le m (pos 1000000)) m refl refl)

margin_line_sound : (args : List (List ℕ)) → IfOk (option.margin_line args) IsSoundDeclaration
unfolding option.margin_line
margin_line_sound (margin ∷ []) = margin_sound margin
margin_line_sound args = tt

depth_sound : (word : List ℕ) → IfOk (option.depth_of word) IsSoundDeclaration
unfolding option.depth_of
depth_sound word =
    then_ok (IsWithin 0 4) IsSoundDeclaration (or_code OutOfRange (number_within 0 4 word)) _
    (or_ok (IsWithin 0 4) OutOfRange (number_within 0 4 word) (number_sound 0 4 word)) (λ depth range. range.1)

depth_line_sound : (args : List (List ℕ)) → IfOk (option.depth_line args) IsSoundDeclaration
unfolding option.depth_line
depth_line_sound (depth ∷ []) = depth_sound depth
depth_line_sound args = tt

budget_sound : (word : List ℕ) → IfOk (option.budget_of word) IsSoundDeclaration
unfolding option.budget_of
budget_sound word =
    then_ok (IsWithin 1 100000000) IsSoundDeclaration (or_code OutOfRange (number_within 1 100000000 word)) _
    (or_ok (IsWithin 1 100000000) OutOfRange (number_within 1 100000000 word) (number_sound 1 100000000 word)) (λ budget range. range)

budget_line_sound : (args : List (List ℕ)) → IfOk (option.budget_line args) IsSoundDeclaration
unfolding option.budget_line
budget_line_sound (budget ∷ []) = budget_sound budget
budget_line_sound args = tt

compensation_sound : (word : List ℕ) → IfOk (option.compensation_of word) IsSoundDeclaration
unfolding option.compensation_of
compensation_sound word = if_ok IsSoundDeclaration (bytes_eq word (codes "CONTOUR")) _ _ (λ _. tt) tt

compensation_line_sound : (args : List (List ℕ)) → IfOk (option.compensation_line args) IsSoundDeclaration
unfolding option.compensation_line
compensation_line_sound (word ∷ []) = compensation_sound word
compensation_line_sound args = tt

skip_sound : (word : List ℕ) → IfOk (option.skip_of word) IsSoundDeclaration
unfolding option.skip_of
skip_sound word = if_ok IsSoundDeclaration (bytes_eq word (codes "ON")) _ _ (λ _. tt) tt

skip_line_sound : (args : List (List ℕ)) → IfOk (option.skip_line args) IsSoundDeclaration
unfolding option.skip_line
skip_line_sound (word ∷ []) = skip_sound word
skip_line_sound args = tt

option_declaration_sound : (kind : List ℕ) (args : List (List ℕ)) → IfOk (option.option_declaration_of kind args) IsSoundDeclaration
unfolding option.option_declaration_of
option_declaration_sound kind args =
    if_ok IsSoundDeclaration (bytes_eq kind (codes "MARGIN")) _ _ (λ _. margin_line_sound args)
    (if_ok IsSoundDeclaration (bytes_eq kind (codes "DEPTH")) _ _ (λ _. depth_line_sound args)
    (if_ok IsSoundDeclaration (bytes_eq kind (codes "BUDGET")) _ _ (λ _. budget_line_sound args)
    (if_ok IsSoundDeclaration (bytes_eq kind (codes "COMPENSATION")) _ _ (λ _. compensation_line_sound args)
    (if_ok IsSoundDeclaration (bytes_eq kind (codes "SKIP")) _ _ (λ _. skip_line_sound args) tt))))

declaration_sound : (greatest : ℕ) → greatest ≤ CHANNEL_LIMIT → (kind : List ℕ) (args : List (List ℕ)) → IfOk (declaration.declaration_of greatest kind args) IsSoundDeclaration
unfolding declaration.declaration_of
declaration_sound greatest few kind args =
    if_ok IsSoundDeclaration (bytes_eq kind (codes "CHANNEL")) _ _ (λ _. channel_line_sound greatest few args)
    (if_ok IsSoundDeclaration (bytes_eq kind (codes "AXIS")) _ _ (λ _. axis_line_sound greatest args)
    (if_ok IsSoundDeclaration (bytes_eq kind (codes "GEO")) _ _ (λ _. geo_line_sound greatest args)
    (if_ok IsSoundDeclaration (bytes_eq kind (codes "OFFSET")) _ _ (λ _. offset_line_sound greatest args)
    (if_ok IsSoundDeclaration (bytes_eq kind (codes "ZONE")) _ _ (λ _. zone_line_sound greatest args)
    (if_ok IsSoundDeclaration (bytes_eq kind (codes "TOOL")) _ _ (λ _. tool_line_sound greatest few args)
    (if_ok IsSoundDeclaration (bytes_eq kind (codes "JOB")) _ _ (λ _. job_line_sound args) (option_declaration_sound kind args)))))))

-- what holds of what a line says that begins with '%' or not
abbrev pub IsSoundReading : Bool → ReadingView → Type 0
IsSoundReading percent (DeclarationLine declaration) = IsSoundDeclaration declaration
IsSoundReading percent (Header name) = percent ≡ true
IsSoundReading percent _ = ⊤

entry_sound : (percent : Bool) (words : List (List ℕ)) → IfOk (reading.declaration_line words) (IsSoundReading percent)
unfolding reading.declaration_line
entry_sound percent [] = tt
entry_sound percent (kind ∷ args) =
    let greatest : ℕ = (extent_of VERSION).channels in
    then_ok IsSoundDeclaration (IsSoundReading percent) (declaration.declaration_of greatest kind args) _ (declaration_sound greatest (few_channels VERSION) kind args) (λ i sound. sound)

header_sound : (words : List (List ℕ)) → IfOk (reading.header_line words) (IsSoundReading true)
unfolding reading.header_line
header_sound words = then_any (IsSoundReading true) (header_of words) _ (λ name. refl)

form_sound : (seen percent : Bool) (words : List (List ℕ)) → IfOk (reading.form_of seen percent words) (IsSoundReading percent)
unfolding reading.form_of
form_sound false percent words = if_ok (IsSoundReading percent) (reading.is_job_line words) _ _ (λ _. tt) tt
form_sound true true words = header_sound words
form_sound true false words = entry_sound false words

shown_sound : (percent : Bool) (read : Result ReadingView Code) → IfOk read (IsSoundReading percent) → IfOk (reading.with_shown read) (IsSoundReading percent)
shown_sound percent (Ok r) sound = sound
shown_sound percent (Err code) sound = tt

entry_reading_sound : (seen percent : Bool) (content : List ℕ) → IfOk (reading.entry_reading seen percent content) (IsSoundReading percent)
unfolding reading.entry_reading
entry_reading_sound seen percent content =
    if_ok (IsSoundReading percent) (list_any reading.is_bad_byte content) _ _ (λ _. tt)
    (if_ok (IsSoundReading percent) (is_visible content) _ _ (λ _. form_sound seen percent (words (upper content))) tt)

step_sound : (percent : Bool) (read : Result BlockView ℕ) → IfOk (reading.block_line read) (IsSoundReading percent)
unfolding reading.block_line
step_sound percent (Ok block) = tt
step_sound percent (Err code) = tt

tokens_sound : (percent compensation : Bool) (text : List ℕ) (tokens : Result (List Token) ScanFault) → IfOk (reading.tokens_reading compensation text tokens) (IsSoundReading percent)
tokens_sound percent compensation text (Ok []) = tt
tokens_sound percent compensation text (Ok (token ∷ tokens)) = step_sound percent (statement_of (reading.words_of text (token ∷ tokens)) compensation)
tokens_sound percent compensation text (Err (fault.OpenText place)) = tt
tokens_sound percent compensation text (Err _) = tt

block_sound : (percent compensation : Bool) (text : List ℕ) → IfOk (reading.block_reading compensation text) (IsSoundReading percent)
unfolding reading.block_reading
block_sound percent compensation text = tokens_sound percent compensation text (tokens_of text)

either_sound : (percent test : Bool) (first second : Result ReadingView ℕ) → IfOk first (IsSoundReading percent) → IfOk second (IsSoundReading percent) → IfOk (if test then first else second) (IsSoundReading percent)
either_sound percent true first second sound other = sound
either_sound percent false first second other sound = sound

pub reading_sound : (seen in_programs compensation : Bool) (raw : List ℕ) → IfOk (reading.reading_of seen in_programs compensation raw) (IsSoundReading (begins_with_percent raw))
unfolding reading.reading_of
reading_sound seen in_programs compensation raw =
    let percent : Bool = begins_with_percent raw in
    either_sound percent (nat_lt 512 (length raw)) _ _ tt
    (either_sound percent (in_programs && not percent) _ _ (block_sound percent compensation (text_of raw))
    (shown_sound percent (reading.entry_reading seen percent (before_comment (text_of raw)))
    (entry_reading_sound seen percent (before_comment (text_of raw)))))
