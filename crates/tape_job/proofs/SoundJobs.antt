-- Every accepted job is sound.
use Rattle.std.proofs.Common.{◌≡◌, ◌≢◌, ◌∙◌, ℕ, ◌≤◌, ◌<◌, Bool, true, false, ◌||◌, not, nat_le, if◌then◌else◌, List, [], ◌∷◌, ◌++◌, length, Result, Ok, Err, IfOk, Option, Some, None, IfSome, find, get_or, subst, refl, sym, arith, length-append, rules}
use Rattle.std.specs.List.{All, Any, AllPairs, enumerate_from}
use Rattle.std.specs.Map.{keys_of}
use Rattle.std.specs.Option.{option_map, option_or}
use Rattle.std.proofs.Math.ListN.{get_or-map}
use Rattle.std.proofs.lemmas.List.{length-map}
use Rattle.std.proofs.lemmas.List.Quantifiers.{all_pairs_push}
use Rattle.job_lines.specs.Code.{refusal_code}
use Rattle.job_lines.specs.declared.code.Code.TheVariants.{NameRepeated, TooMany, NotInLibrary}
use Rattle.job_lines.specs.declared.declaration.Declaration.{Declaration}
use Rattle.job_lines.specs.declared.declaration.Declaration.TheVariants.{Channel, Axis, Geo, Offset, Zone, Tool, Margin, Depth, Budget, Compensation, Skip}
use Rattle.job_lines.specs.declared.declaration.NamedZone.{NamedZone}
use Rattle.nc_blocks.specs.Statement.{BlockView}
use Rattle.fault_codes.specs.declared.Refusal.{Refusal}
use Rattle.job_types.specs.declared.job.ChannelLine.{ChannelLine}
use Rattle.job_types.specs.declared.job.Side.{Side}
use Rattle.job_types.specs.Job.{JobView, ProgramView, program_of}
use Rattle.tape_job.specs.Lines.{Line, has_token, begins_with_percent, raw_lines}
use Rattle.tape_job.specs.Reading.{ReadingView, Blank, First, DeclarationLine, Header, BlockLine, reading_of}
use Rattle.tape_job.specs.Rules as rule
use Rattle.tape_job.specs.Told.{Told, facts_of, accept_compensation, by_channel, geo_line, zone_line}
use Rattle.tape_job.specs.Read.{code_by, line_trial, end_of_program, trial, end_trial, answer, read_of}
use Rattle.tape_job.specs.declared.draft.GivenOptions.{GivenOptions}
use Rattle.tape_job.specs.Steps.{options_with, with_entry, with_line, with_block, tell, unless_refused, run, finish}
use Rattle.job_types.specs.SoundJob.{IsSoundJob}
use Rattle.tape_job.proofs.SoundLists.{unbroken, not_false, none_found}
use Rattle.tape_job.proofs.SoundReadings.{IsSoundDeclaration, IsSoundReading, reading_sound}
use Rattle.tape_job.proofs.SoundJobLines.{ListFacts, HasRange, no_pairs, list_kept, job_line_told, nothing_listed, side_range, sound_range, axis_within, channel_told, axis_told, geo_told, offset_told, zone_told, tool_told, options_told}
use Rattle.tape_job.proofs.SoundPrograms.{NestedSoFar, nested_block, nested_header, all_nested, keys-with_block, length-with_block, keys-push, names_differ, program_found}
use Rattle.tape_job.proofs.TellingLemmas.{read_of_is}

-- what holds of all that lines told
record Sound (facts_of : Told) : Type 0 where
  list : ListFacts facts_of.job
  names : AllPairs (λ name other. name ≢ other) (keys_of facts_of.job.programs)
  few : length facts_of.job.programs ≤ 256
  nested : NestedSoFar facts_of.job.programs

-- where neither of two gives a refusal
neither : {A : Type 0} (a b : Option A) → option_or a b ≡ None → (a ≡ None) × (b ≡ None)
neither None b none = (refl, none)
neither (Some a) b none = absurd cc

-- a job line
abbrev with_declaration : JobView → ℕ → Declaration → JobView
with_declaration job number declaration = with_line job number (Ok (DeclarationLine declaration))

geo_declaration_told : (job : JobView) (number channel slot : ℕ) (axis : Option ℕ) → ListFacts job → rule.slot_rule job channel slot axis ≡ None
    → IfSome axis (λ a. a < length job.axes) → ListFacts (record job { geo = with_entry job.geo (geo_line number channel slot axis) })
unfolding rule.slot_rule
geo_declaration_told job number channel slot None facts none within = absurd cc
geo_declaration_told job number channel slot (Some axis) facts none within = geo_told job number channel slot axis facts none within

zone_declaration_told : (job : JobView) (number : ℕ) (zone : NamedZone) (a b c : Option Side) → ListFacts job → rule.zone_rule job zone.zone zone.holder a b c ≡ None
    → IsSoundDeclaration (Zone zone) → IfSome a (HasRange zone.x) → IfSome b (HasRange zone.y) → IfSome c (HasRange zone.z)
    → ListFacts (record job { zones = with_entry job.zones (zone_line number zone a b c) })
unfolding rule.zone_rule
zone_declaration_told job number zone (Some a) (Some b) (Some c) facts none sound is_x is_y is_z =
    zone_told job number zone a b c facts none sound.0 sound.1 (sound_range zone.x a is_x sound.2) (sound_range zone.y b is_y sound.3) (sound_range zone.z c is_z sound.4)
zone_declaration_told job number zone a b c facts none sound is_x is_y is_z = absurd cc

declared_told : (options : GivenOptions) (job : JobView) (number : ℕ) (declaration : Declaration) → ListFacts job → rule.declaration_rule options job declaration ≡ None → IsSoundDeclaration declaration
    → ListFacts (with_declaration job number declaration)
unfolding rule.declaration_rule with_line
declared_told options job number (Channel channel program starts) facts none sound = channel_told job number channel program starts facts none sound
declared_told options job number (Axis name owner at) facts none sound = axis_told job number name owner at facts none sound
declared_told options job number (Geo channel slot axis) facts none sound =
    geo_declaration_told job number channel slot (rule.axis_of job.axes axis) facts none (axis_within job.axes axis)
declared_told options job number (Offset channel g slot by) facts none sound = offset_told job number channel g slot by facts none sound
declared_told options job number (Zone zone) facts none sound =
    zone_declaration_told job number zone (rule.side_of job.axes zone.x) (rule.side_of job.axes zone.y) (rule.side_of job.axes zone.z) facts none sound
    (side_range job.axes zone.x) (side_range job.axes zone.y) (side_range job.axes zone.z)
declared_told options job number (Tool channel edge) facts none sound = tool_told job channel edge facts none sound.1
declared_told options job number (Margin margin) facts none sound =
    options_told job margin job.depth job.budget job.compensation job.skip facts
    (record { sound_margin = sound; sound_depth = facts.options.sound_depth; sound_budget = facts.options.sound_budget })
declared_told options job number (Depth depth) facts none sound =
    options_told job job.margin depth job.budget job.compensation job.skip facts
    (record { sound_margin = facts.options.sound_margin; sound_depth = sound; sound_budget = facts.options.sound_budget })
declared_told options job number (Budget budget) facts none sound =
    options_told job job.margin job.depth budget job.compensation job.skip facts
    (record { sound_margin = facts.options.sound_margin; sound_depth = facts.options.sound_depth; sound_budget = sound })
declared_told options job number Compensation facts none sound = options_told job job.margin job.depth job.budget true job.skip facts facts.options
declared_told options job number Skip facts none sound = options_told job job.margin job.depth job.budget job.compensation true facts facts.options

unmapped : {A B : Type 0} (f : A → B) (a : Option A) → option_map f a ≡ None → a ≡ None
unmapped f None none = refl
unmapped f (Some a) none = absurd cc

-- a job line
entry_told : (facts_of : Told) (number : ℕ) (seen late : Bool) (options : GivenOptions) (declaration : Declaration) → Sound facts_of → rule.declaration_rule facts_of.options facts_of.job declaration ≡ None → IsSoundDeclaration declaration
    → Sound (record { seen = seen; in_programs = late; options = options; job = with_declaration facts_of.job number declaration })
unfolding with_line
entry_told facts_of number seen late options declaration sound none fits = record {
  list = declared_told facts_of.options facts_of.job number declaration sound.list none fits;
  names = sound.names;
  few = sound.few;
  nested = sound.nested;
}

-- a header
header_line_told : (facts_of : Told) (number : ℕ) (seen late : Bool) (options : GivenOptions) (name : List ℕ) → Sound facts_of
    → rule.header_rule facts_of.job name ≡ None → rule.left_open facts_of.job.programs ≡ None
    → Sound (record { seen = seen; in_programs = late; options = options; job = with_line facts_of.job number (Ok (Header name)) })
unfolding rule.header_rule with_line
header_line_told facts_of number seen late options name sound none ended =
    let program : List ℕ × ProgramView = (name, program_of number []) in
    let first = unbroken (rule.has_program facts_of.job.programs name) NameRepeated _ none in
    let second = unbroken (nat_le 256 (length facts_of.job.programs)) TooMany None first.1 in
    let below : length facts_of.job.programs < 256 = search (rules, second.0) in
    let further = length-append facts_of.job.programs (program ∷ []) in
    let all : List (List ℕ × ProgramView) = facts_of.job.programs ++ program ∷ [] in
    record {
      list = list_kept facts_of.job all sound.list;
      names = subst (AllPairs (λ name other. name ≢ other)) (sym (keys-push facts_of.job.programs program))
          (all_pairs_push (λ name other. name ≢ other) (keys_of facts_of.job.programs) name sound.names (names_differ facts_of.job.programs name first.0));
      few = omega arith;
      nested = nested_header facts_of.job.programs number name sound.nested ended;
    }

-- a block
block_line_told : (facts_of : Told) (number : ℕ) (seen late : Bool) (options : GivenOptions) (block : BlockView) → Sound facts_of
    → rule.structure_rule facts_of.job.programs (number, block) ≡ None → Sound (record { seen = seen; in_programs = late; options = options; job = with_line facts_of.job number (Ok (BlockLine block)) })
unfolding with_line
block_line_told facts_of number seen late options block sound matches =
    let all : List (List ℕ × ProgramView) = with_block facts_of.job.programs (number, block) in
    record {
      list = list_kept facts_of.job all sound.list;
      names = subst (AllPairs (λ name other. name ≢ other)) (sym (keys-with_block facts_of.job.programs (number, block))) sound.names;
      few = subst (λ n. n ≤ 256) (sym (length-with_block facts_of.job.programs (number, block))) sound.few;
      nested = nested_block facts_of.job.programs (number, block) sound.nested matches;
    }

line_told : (facts_of : Told) (number : ℕ) (seen late percent : Bool) (options : GivenOptions) (read : Result ReadingView ℕ) → Sound facts_of → code_by facts_of.options facts_of.job number read ≡ None
    → (percent ≡ true → rule.left_open facts_of.job.programs ≡ None) → IfOk read (IsSoundReading percent)
    → Sound (record { seen = seen; in_programs = late; options = options; job = with_line facts_of.job number read })
unfolding with_line rule.rule_of
line_told facts_of number seen late percent options (Err code) sound none ended fits = absurd cc
line_told facts_of number seen late percent options (Ok Blank) sound none ended fits =
    record { list = sound.list; names = sound.names; few = sound.few; nested = sound.nested }
line_told facts_of number seen late percent options (Ok First) sound none ended fits =
    record { list = job_line_told facts_of.job number sound.list; names = sound.names; few = sound.few; nested = sound.nested }
line_told facts_of number seen late percent options (Ok (DeclarationLine declaration)) sound none ended fits =
    entry_told facts_of number seen late options declaration sound (unmapped refusal_code (rule.declaration_rule facts_of.options facts_of.job declaration) none) fits
line_told facts_of number seen late percent options (Ok (Header name)) sound none ended fits =
    header_line_told facts_of number seen late options name sound (unmapped refusal_code (rule.header_rule facts_of.job name) none) (ended fits)
line_told facts_of number seen late percent options (Ok (BlockLine block)) sound none ended fits = block_line_told facts_of number seen late options block sound none

none_open : (job : JobView) → rule.open_structure_refusal job ≡ None → rule.left_open job.programs ≡ None
unfolding rule.open_structure_refusal
none_open job none = unmapped _ (rule.left_open job.programs) none

-- a line that begins with '%' leaves no structure open
program_ends : (percent : Bool) (job : JobView) → (if percent then rule.open_structure_refusal job else None) ≡ None → percent ≡ true → rule.left_open job.programs ≡ None
program_ends true job none is = none_open job none
program_ends false job none is = absurd cc

tell_sound : (facts_of : Told) (line : Line) → Sound facts_of → trial facts_of line ≡ None → Sound (tell facts_of line)
unfolding trial line_trial end_of_program tell
tell_sound facts_of line sound none =
    let both = neither (end_of_program facts_of.job line.1) (line_trial facts_of line) none in
    line_told facts_of line.0 (facts_of.seen || has_token line.1) (facts_of.in_programs || begins_with_percent line.1) (begins_with_percent line.1)
    (options_with facts_of.options (reading_of facts_of.seen facts_of.in_programs facts_of.job.compensation line.1))
    (reading_of facts_of.seen facts_of.in_programs facts_of.job.compensation line.1) sound
    (unmapped _ (code_by facts_of.options facts_of.job line.0 (reading_of facts_of.seen facts_of.in_programs facts_of.job.compensation line.1)) both.1)
    (program_ends (begins_with_percent line.1) facts_of.job both.0)
    (reading_sound facts_of.seen facts_of.in_programs facts_of.job.compensation line.1)

run_sound : (now : Told) (lines : List Line) (end : Told) → Sound now → run now lines ≡ Ok end → Sound end
run_sound now [] end sound ran = let same : now ≡ end = cc in subst Sound same sound
run_sound now (line ∷ lines) end sound ran = by (trial now line) refl (λ none. run_sound (tell now line) lines end (tell_sound now line sound none)) ran
  where
    by : (refused : Option Refusal) → trial now line ≡ refused → (trial now line ≡ None → run (tell now line) lines ≡ Ok end → Sound end)
        → unless_refused refused (run (tell now line) lines) ≡ Ok end → Sound end
    by None none goes ran = goes none ran
    by (Some refused) some goes ran = absurd cc

nothing_told : Sound (facts_of [])
unfolding facts_of accept_compensation by_channel
nothing_told = record {
  list = nothing_listed;
  names = no_pairs (λ (name other : List ℕ). name ≢ other);
  few = omega arith;
  nested = tt;
}

-- each channel's program is in the library
known_program : (programs : List (List ℕ × ProgramView)) (program : Option (List ℕ)) → rule.is_known programs program ≡ true
    → IfSome program (λ name. Any (λ (p : List ℕ × ProgramView). p.0 ≡ name) programs)
known_program programs None known = tt
known_program programs (Some name) known = program_found programs name known

selected : (job : JobView) (channels : List ChannelLine) → find (λ line. not (rule.is_known job.programs line.program)) channels ≡ None
    → All (λ (l : ChannelLine). IfSome l.program (λ name. Any (λ (p : List ℕ × ProgramView). p.0 ≡ name) job.programs)) channels
selected job channels none k d within =
    let line : ChannelLine = get_or channels k d in
    known_program job.programs line.program
    (not_false (rule.is_known job.programs line.program) (none_found (λ (l : ChannelLine). not (rule.is_known job.programs l.program)) channels none k d within))

-- names of programs as pairs
program_names : (programs : List (List ℕ × ProgramView)) → AllPairs (λ name other. name ≢ other) (keys_of programs)
    → AllPairs (λ (p other : List ℕ × ProgramView). p.0 ≢ other.0) programs
program_names programs names i j d before within same =
    let name : List ℕ × ProgramView → List ℕ = λ p. p.0 in
    let short : length (keys_of programs) ≡ length programs = length-map programs name in
    names i j d.0 before (omega arith) (get_or-map name programs i d ∙ same ∙ sym (get_or-map name programs j d))

-- what is told is sound at the end
told_sound : (now : Told) → Sound now → end_trial now ≡ None → IsSoundJob now.job
unfolding end_trial rule.missing_program_refusal
told_sound now sound none =
    let matched = neither (rule.open_structure_refusal now.job) _ none in
    let first = neither (rule.missing_program_refusal now.job) _ matched.1 in
    let nested = all_nested now.job.programs sound.nested (none_open now.job matched.0) in
    let all_known = unmapped (λ (l : ChannelLine). rule.refusal NotInLibrary l.line) _ first.0 in
    record {
      channel_numbers = sound.list.channels.numbers;
      low_channels = sound.list.channels.low;
      high_channels = sound.list.channels.high;
      selecting = sound.list.channels.selecting;
      selected = selected now.job now.job.channels all_known;
      few_axes = sound.list.axes.few;
      axis_names = sound.list.axes.names;
      owners = sound.list.linked.owners;
      positions = sound.list.axes.positions;
      slot_numbers = sound.list.slots.numbers;
      slot_axes = sound.list.slots.axes;
      offset_places = sound.list.places;
      offsets = sound.list.linked.offsets;
      zone_numbers = sound.list.numbers;
      zones = sound.list.linked.zones;
      margin = sound.list.options.sound_margin;
      depth = sound.list.options.sound_depth;
      budget = sound.list.options.sound_budget;
      tool_channels = sound.list.ascend;
      tools = sound.list.linked.tools;
      few_programs = sound.few;
      program_names = program_names now.job.programs sound.names;
      programs = nested;
    }

answered : (refused : Option Refusal) (facts_of job : JobView) → answer refused facts_of ≡ Ok job → (refused ≡ None) × (facts_of ≡ job)
answered None facts_of job same = (refl, cc)
answered (Some refused) facts_of job same = absurd cc

finished_sound : (ran : Result Told Refusal) (lines : List Line) (job : JobView) → run (facts_of []) lines ≡ ran → finish ran ≡ Ok job → IsSoundJob job
unfolding finish
finished_sound (Err refused) lines job ran same = absurd cc
finished_sound (Ok now) lines job ran same =
    let end = answered (end_trial now) now.job job same in
    subst IsSoundJob end.1 (told_sound now (run_sound (facts_of []) lines now nothing_told ran) end.0)

pub accepted_sound : (input : List ℕ) (job : JobView) → read_of input ≡ Ok job → IsSoundJob job
accepted_sound input job accepted =
    let lines : List Line = enumerate_from 1 (raw_lines input) in
    finished_sound (run (facts_of []) lines) lines job refl (sym (read_of_is input) ∙ accepted)

-- what an input is read as is a job in which all this holds, or no job
pub read_sound : (input : List ℕ) → IfOk (read_of input) IsSoundJob
read_sound input = by_answer (read_of input) refl
  where
    by_answer : (read : Result JobView Refusal) → read_of input ≡ read → IfOk (read_of input) IsSoundJob
    by_answer (Ok job) e = rw e (accepted_sound input job e)
    by_answer (Err refused) e = rw e tt
