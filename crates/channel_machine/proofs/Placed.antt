-- What stands where control is, and what it finds, by what is kept.
use Rattle.std.proofs.Common.{◌≡◌, ◌∙◌, ℕ, zero, suc, ◌+◌, ◌-◌, ◌<◌, ◌≤◌, nat_lt, ℤ, Bool, true, false, List, [], ◌∷◌, map, length, slice_get, Option, None, Some, unwrap_or, refl, sym, ap, arith}
use mathlib.Core.Path.{fun_ext}
use Rattle.std.proofs.lemmas.Bool.Decides.{nat_tests}
use Rattle.std.proofs.lemmas.List.{length-map}
use Rattle.axis_sets.specs.Positions.{stands}
use Rattle.block_effects.specs.Effects.{Course, SituationView, effect_of}
use Rattle.block_effects.specs.Words.{SetupView, values_in}
use Rattle.channel_machine.specs.Coordination.{request_in, setting_in}
use Rattle.coordination_words.specs.Settings.{SettingView}
use Rattle.frames.specs.Maps.{Map}
use Rattle.g_groups.specs.declared.GWord.{GWord}
use Rattle.nc_blocks.specs.Statement.{BlockView, Statement, statement_view, view_of}
use Rattle.nc_blocks.specs.declared.blocks.Block.{Block}
use Rattle.nc_control_flow.proofs.Resolving.{opening_below}
use Rattle.nc_control_flow.specs.Parts.{statement_at, views}
use Rattle.nc_control_flow.specs.Structures.{opening}
use Rattle.nc_subprograms.specs.declared.Place.{Place}
use Rattle.job_types.specs.Job.{JobView, ProgramView}
use Rattle.channel_machine.specs.Kept.{StateView, IsSettingIn, Keeps}
use Rattle.channel_machine.specs.declared.levels.Levels.{Levels}
use Rattle.channel_machine.specs.Levels.{lines_of, program_blocks, levels_after}
use Rattle.channel_machine.specs.Run.{SurroundingsView, Channel, setup_after, setting_after, parameters_after, words_after, chain_after, choices_after, edges_in, stands_after, found_after, block_at, opener_at}
use Rattle.job_types.specs.Slots.{offset_of}
use Rattle.channel_machine.specs.Tools.{tools_of}
use Rattle.tool_offsets.specs.Choices.{Choice, in_use_after}
use Rattle.tool_offsets.specs.declared.tools.ToolEdge.{ToolEdge}
use Rattle.job_types.specs.Axes.{axis_named}

-- what the blocks find in a job, by what is kept
abbrev pub equipment_in : JobView → StateView → SetupView
equipment_in job k = record {
  names = map (λ p. p.0) job.programs;
  axis_named = axis_named job.axes;
  offset = offset_of job k.channel;
  tools = tools_of job k.channel;
  slots = k.slots;
  owned = k.axes;
}

abbrev pub found_with : List (List GWord) → List Map → List Choice → List ℤ → (ℕ → ℤ) → SituationView
found_with words chain choices parameters at = record { parameters = parameters; words = words; chain = chain; choices = choices; at = at }

pub viewed : {X Y : Type 0} (view : X → Y) (xs : List X) (k : ℕ) (x : X) → slice_get xs k ≡ Some x → slice_get (map view xs) k ≡ Some (view x)
viewed view [] zero x is = absurd cc
viewed view [] (suc k) x is = absurd cc
viewed view (y ∷ ys) zero x is = let same : y ≡ x = cc in ap (λ z. Some (view z)) same
viewed view (y ∷ ys) (suc k) x is = viewed view ys k x is

pub viewed_none : {X Y : Type 0} (view : X → Y) (xs : List X) (k : ℕ) → slice_get xs k ≡ None → slice_get (map view xs) k ≡ None
viewed_none view [] zero is = refl
viewed_none view [] (suc k) is = refl
viewed_none view (y ∷ ys) zero is = absurd cc
viewed_none view (y ∷ ys) (suc k) is = viewed_none view ys k is

pub statement_found : (flow : List (ℕ × Block)) (k : ℕ) (e : ℕ × Block) → slice_get flow k ≡ Some e → statement_view e.1.stmt ≡ statement_at k (views flow)
statement_found [] zero e is = absurd cc
statement_found [] (suc k) e is = absurd cc
statement_found (x ∷ xs) zero e is = let same : x ≡ e = cc in ap (λ (y : ℕ × Block). statement_view y.1.stmt) (sym same)
statement_found (x ∷ xs) (suc k) e is = statement_found xs k e is

-- the beginning of the structure round a place stands in the program
pub opening_there : (flow : List (ℕ × Block)) (pc k : ℕ) → pc < length flow → k ≡ opening pc (views flow) → k < length flow
opening_there flow pc k here is =
    let long : length (views flow) ≡ length flow = length-map flow (λ (e : ℕ × Block). view_of e.1) in
    let below : opening pc (views flow) < length (views flow) = opening_below pc (views flow) (omega (arith, here, long)) in
    omega (arith, below, long, is)

module _ (s : SurroundingsView) (programs : List (List ℕ × ProgramView)) (same : s.programs ≡ programs) (here : Place) where
  -- the block that comes
  pub block_there : (o : Option (ℕ × BlockView)) → slice_get (lines_of programs here.program) here.pc ≡ o → block_at s here ≡ o
  block_there o is = ap (λ (ps : List (List ℕ × ProgramView)). slice_get (lines_of ps here.program) here.pc) same ∙ is

  -- the beginning of the structure round it
  pub opener_there : (opener : Statement) → opener ≡ statement_at (opening here.pc (program_blocks programs here.program)) (program_blocks programs here.program)
      → opener_at s here ≡ opener
  opener_there opener is = ap (λ (ps : List (List ℕ × ProgramView)). statement_at (opening here.pc (program_blocks ps here.program)) (program_blocks ps here.program)) same ∙ sym is

module _ (job : JobView) (s : SurroundingsView) (c : Channel) (k : StateView) (set : IsSettingIn job s k) (keeps : Keeps s c k) where
  equipment_is : setup_after s c.past ≡ equipment_in job k
  equipment_is = rw (set.programs, set.axes, set.offset, set.tools, keeps.slots, keeps.axes) refl

  -- what is in use, by the tools of the job
  pub tool_there : k.tool ≡ in_use_after (unwrap_or (tools_of job k.channel) []) (choices_after c.past)
  tool_there = keeps.tool ∙ ap (λ (tools : Option (List ToolEdge)). in_use_after (unwrap_or tools []) (choices_after c.past)) set.tools

  pub edges_there : edges_in s ≡ unwrap_or (tools_of job k.channel) []
  edges_there = ap (λ (tools : Option (List ToolEdge)). unwrap_or tools []) set.tools

  found_is : found_after s c.past ≡ found_with (words_after c.past) (chain_after c.past) (choices_after c.past) k.parameters (stands k.at)
  found_is =
      ap (λ (ps : List ℤ). found_with (words_after c.past) (chain_after c.past) (choices_after c.past) ps (stands_after s c.past)) (sym keeps.parameters)
      ∙ ap (λ (at : ℕ → ℤ). found_with (words_after c.past) (chain_after c.past) (choices_after c.past) k.parameters at) (sym (fun_ext keeps.at))

  -- what the block does, by what is kept
  pub effect_there : (here : Place) (line : ℕ) (opener statement : Statement) → opener_at s here ≡ opener
      → effect_of (equipment_in job k) (found_with (words_after c.past) (chain_after c.past) (choices_after c.past) k.parameters (stands k.at)) line opener statement
      ≡ effect_of (setup_after s c.past) (found_after s c.past) line (opener_at s here) statement
  effect_there here line opener statement is =
      ap (λ (e : SetupView). effect_of e (found_with (words_after c.past) (chain_after c.past) (choices_after c.past) k.parameters (stands k.at)) line opener statement) (sym equipment_is)
      ∙ ap (λ (f : SituationView). effect_of (setup_after s c.past) f line opener statement) (sym found_is) ∙ ap (λ (o : Statement). effect_of (setup_after s c.past) (found_after s c.past) line o statement) (sym is)

  -- what the block asks for, by what is kept
  pub request_there : (statement : Statement)
      → request_in (setting_in job k.channel k.slots k.axes) (values_in k.parameters) statement ≡ request_in (setting_after s c.past) (values_in (parameters_after c.past)) statement
  request_there statement =
      ap (λ (v : SettingView). request_in v (values_in k.parameters) statement) (sym setting_is)
      ∙ ap (λ (ps : List ℤ). request_in (setting_after s c.past) (values_in ps) statement) keeps.parameters
    where
      setting_is : setting_after s c.past ≡ setting_in job k.channel k.slots k.axes
      setting_is = rw (set.version, set.channel, set.channels, set.programs, set.axes, set.zones, keeps.slots, keeps.axes) refl

-- where a block leads, in the job of the setting
pub followed_there : (s : SurroundingsView) (skip : Bool) (programs : List (List ℕ × ProgramView)) → s.skip ≡ skip → s.programs ≡ programs
    → (levels : Levels) (course : Course) → levels_after skip programs levels course ≡ levels_after s.skip s.programs levels course
followed_there s skip programs same_skip same levels course =
    ap (λ (b : Bool). levels_after b programs levels course) (sym same_skip) ∙ ap (λ (ps : List (List ℕ × ProgramView)). levels_after s.skip ps levels course) (sym same)

-- a channel that has not executed all its blocks may execute one more
pub room : (n : ℕ) → n ≤ 100000 → (n ≡ 100000 → ⊥) → n + suc (99999 - n) ≡ 100000
room n few not = by_test (nat_lt n 100000) refl
  where
    below : nat_lt n 100000 ≡ true → n < 100000
    below is = grind (arith, nat_tests)

    reached : nat_lt n 100000 ≡ false → 100000 ≤ n
    reached is = grind (arith, nat_tests)

    by_test : (t : Bool) → nat_lt n 100000 ≡ t → n + suc (99999 - n) ≡ 100000
    by_test true is = let less : n < 100000 = below is in omega (arith, less)
    by_test false is = let more : 100000 ≤ n = reached is in absurd (not (omega (arith, more, few)))

pub room_below : (n : ℕ) → n < 100000 → n + suc (99999 - n) ≡ 100000
room_below n below = room n (omega (arith, below)) (λ e. omega (arith, below, e))
