-- A channel that executes its blocks again: one block more, one segment more, one grant more.
use Rattle.std.proofs.Common.{◌≡◌, ◌∙◌, ℕ, ◌+◌, ◌<◌, ℤ, Bool, true, false, List, [], ◌∷◌, ◌++◌, append-nil, get_or, length, take, slice_get, slice_index, arith, is_some, IfSome, Option, None, Some, refl, sym, ap, ap₂, subst}
use Rattle.std.specs.Option.{option_map_or}
use Rattle.std.proofs.lemmas.List.{take_more, take_all}
use Rattle.block_effects.specs.Words.{values_in}
use Rattle.channel_machine.proofs.NextSegments.{first_segment, later_segment}
use Rattle.channel_machine.proofs.Pasts.{blocks_of-did}
use Rattle.channel_machine.proofs.PlacedChannels.{placed_grant, placed_start}
use Rattle.channel_machine.specs.Kept.{IsThere, Keeps, StateView, StoodAtControl, deeds_of}
use Rattle.channel_machine.specs.Levels.{lines_of}
use Rattle.channel_machine.specs.Passing.{Comes, IsPassing, IsRest, NoneComes}
use Rattle.channel_machine.specs.Run.{SurroundingsView, Executed, Channel, SegmentView, blocks_of, channel_after_grant, channel_at_start, does_move, segment_of, surroundings_of}
use Rattle.channel_machine.specs.Scripts.{segment_after}
use Rattle.channel_machine.specs.declared.levels.Levels.{Levels}
use Rattle.channel_machine.specs.declared.passing.Passing.{Passing}
use Rattle.g_groups.specs.Groups.{HasModalValue, holding_of}
use Rattle.job_types.specs.Job.{JobView, ProgramView, names_of}
use Rattle.nc_blocks.specs.Indices.{StatementFits}
use Rattle.nc_blocks.specs.Statement.{BlockView, Statement}
use Rattle.sync_types.specs.declared.Grant.{Grant}
use Rattle.explain_assumptions.proofs.RemarkLaws.{remarks_got, remarks_push}
use Rattle.explain_assumptions.specs.Remarks.{block_says, levels_left, offset_word_left, opener_on, parameters_left, remark_if, remarks_after, remarks_in, remarks_of, remarks_with}
use Rattle.explain_assumptions.specs.Walks.{IsAlong, IsComing, IsStep, IsWalked, opener_in}
use Rattle.explain_assumptions.specs.declared.remarks.Remark.{Remark}
use Rattle.explain_assumptions.specs.declared.remarks.RemarkKind.TheVariants.{MovesUnder}
use Rattle.explain_assumptions.specs.declared.walks.Coming.{Coming}

-- ---- the block that comes
-- the names of the variables of the program in which control is
abbrev names_at : List (List ℕ × ProgramView) → Option Levels → List (List ℕ)
names_at programs None = []
names_at programs (Some levels) = names_of (lines_of programs levels.here.program)

pub fits : (programs : List (List ℕ × ProgramView)) (levels : Option Levels) (line : ℕ) (block : BlockView) (opener : Statement) → Comes programs levels line block opener
    → StatementFits (names_at programs levels) opener × StatementFits (names_at programs levels) block.statement
fits programs None line block opener is = absurd is
fits programs (Some levels) line block opener is = (is.opener_fits, is.fits)

module _ (programs : List (List ℕ × ProgramView)) (kept : StateView) where
  pub coming_there : (line : ℕ) (block : BlockView) (opener : Statement) (items : List Remark) → Comes programs kept.levels line block opener
      → items ≡ block_says (values_in kept.parameters) line opener block.statement
      → (levels : Levels) (other : ℕ) (found_block : BlockView) → kept.levels ≡ Some levels → slice_get (lines_of programs levels.here.program) levels.here.pc ≡ Some (other, found_block)
      → (line ≡ other) × (items ≡ block_says (values_in kept.parameters) other (opener_in programs levels.here) found_block.statement)
  coming_there line block opener items is says levels other found_block at found =
      let there : IsThere programs levels.here line block opener = subst (λ (o : Option Levels). Comes programs o line block opener) at is in
      let both : Some (line, block) ≡ Some (other, found_block) = sym there.found ∙ found in
      let same : (line, block) ≡ (other, found_block) = cc in (
        ap (λ (e : ℕ × BlockView). e.0) same,
        says ∙ ap (λ (e : ℕ × BlockView). block_says (values_in kept.parameters) e.0 opener e.1.statement) same
            ∙ ap (λ (o : Statement). block_says (values_in kept.parameters) other o found_block.statement) there.opens,
      )

  pub coming_none : NoneComes programs kept.levels → (levels : Levels) (line : ℕ) (block : BlockView) → kept.levels ≡ Some levels
      → slice_get (lines_of programs levels.here.program) levels.here.pc ≡ Some (line, block) → ⊥
  coming_none none levels line block at found =
      let is : slice_get (lines_of programs levels.here.program) levels.here.pc ≡ None = subst (NoneComes programs) at none in
      absurd cc

-- ---- a block more
has_offset_group : HasModalValue 8
unfolding holding_of
has_offset_group = refl

module _ (s : SurroundingsView) (c : Channel) (kept new : StateView) (remarks later : List Remark) (w : IsWalked s c kept remarks) (passing : Passing) (p : IsPassing s c passing new) where
  abbrev blocks : List Executed
  blocks = blocks_of c.past

  module _ (programs : List (List ℕ × ProgramView)) (same : s.programs ≡ programs) (coming : Coming) (comes : IsComing programs kept coming)
      (added : later ≡ remarks ++ (coming.remarks.items ++ remark_if passing.moves coming.line (MovesUnder (slice_index new.modal 8)))) where
    module _ (done : Executed) (past : p.next.past ≡ c.past ++ deeds_of (Some done)) (there : StoodAtControl s c done) (moves : passing.moves ≡ does_move done) where
      blocks_are : blocks_of p.next.past ≡ blocks ++ done ∷ []
      blocks_are = ap blocks_of past ∙ blocks_of-did c.past done

      opener_is : opener_in programs there.levels.here ≡ opener_on s (levels_left s blocks)
      opener_is =
          ap (λ (ps : List (List ℕ × ProgramView)). opener_in ps there.levels.here) (sym same)
          ∙ ap (opener_on s) (sym (w.placed there.levels there.control))

      word_is : slice_index new.modal 8 ≡ offset_word_left (blocks ++ done ∷ [])
      word_is = p.keeps.modal 8 has_offset_group ∙ ap offset_word_left blocks_are

      added_here : coming.remarks.items ++ remark_if passing.moves coming.line (MovesUnder (slice_index new.modal 8)) ≡ remarks_in s blocks done
      unfolding remarks_in
      added_here =
          let found : slice_get (lines_of programs there.levels.here.program) there.levels.here.pc ≡ Some (done.line, done.block) =
          ap (λ (ps : List (List ℕ × ProgramView)). slice_get (lines_of ps there.levels.here.program) there.levels.here.pc) (sym same) ∙ there.found in
          let said = comes there.levels done.line done.block (w.keeps.levels ∙ there.control) found in
          let says : coming.remarks.items ≡ block_says (values_in (parameters_left blocks)) done.line (opener_on s (levels_left s blocks)) done.block.statement =
          said.1
          ∙ ap (λ (ps : List ℤ). block_says (values_in ps) done.line (opener_in programs there.levels.here) done.block.statement) w.keeps.parameters
          ∙ ap (λ (o : Statement). block_says (values_in (parameters_left blocks)) done.line o done.block.statement) opener_is in
          let under : remark_if passing.moves coming.line (MovesUnder (slice_index new.modal 8)) ≡ remark_if (does_move done) done.line (MovesUnder (offset_word_left (blocks ++ done ∷ []))) =
          ap (λ (t : Bool). remark_if t coming.line (MovesUnder (slice_index new.modal 8))) moves
          ∙ ap (λ (n : ℕ). remark_if (does_move done) n (MovesUnder (slice_index new.modal 8))) said.0
          ∙ ap (λ (n : ℕ). remark_if (does_move done) done.line (MovesUnder n)) word_is in
          ap₂ (λ (xs ys : List Remark). xs ++ ys) says under

      more_remarks : later ≡ remarks_of s p.next.past
      more_remarks =
          added ∙ ap₂ (λ (xs ys : List Remark). xs ++ ys) w.told added_here
          ∙ sym (remarks_push s [] blocks done) ∙ ap (remarks_after s []) (sym blocks_are)

    pub step_done : passing.executed ≡ true → IsStep s c passing.ends new later
    step_done was = record { next = p.next; walked = record { keeps = p.keeps; placed = p.placed w.placed; told = by_done p.done p.past p.there p.executed p.moves }; rest = p.rest }
      where
        by_done : (done : Option Executed) → p.next.past ≡ c.past ++ deeds_of done → IfSome done (StoodAtControl s c) → passing.executed ≡ is_some done → passing.moves ≡ option_map_or does_move done false
            → later ≡ remarks_of s p.next.past
        by_done None past there executed moves = let both : true ≡ false = sym was ∙ executed in absurd cc
        by_done (Some done) past there executed moves = more_remarks done past there moves

  pub step_not : later ≡ remarks → passing.executed ≡ false → IsStep s c passing.ends new later
  step_not still was = record { next = p.next; walked = record { keeps = p.keeps; placed = p.placed w.placed; told = by_done p.done p.past p.executed }; rest = p.rest }
    where
      by_done : (done : Option Executed) → p.next.past ≡ c.past ++ deeds_of done → passing.executed ≡ is_some done → later ≡ remarks_of s p.next.past
      by_done None past executed = still ∙ w.told ∙ ap (remarks_of s) (sym (past ∙ append-nil c.past))
      by_done (Some done) past executed = let both : false ≡ true = sym was ∙ executed in absurd cc

-- ---- along a segment
pub along_first : (s : SurroundingsView) (c : Channel) (kept : StateView) (remarks : List Remark) → IsWalked s c kept remarks → IsAlong s c kept remarks
along_first s c kept remarks w = record { next = c; walked = w; rest = refl }

pub along_more : (s : SurroundingsView) (c : Channel) (kept new : StateView) (remarks later : List Remark) (ends : Bool) (so : IsAlong s c kept remarks) → ends ≡ false → IsStep s so.next ends new later
    → IsAlong s c new later
along_more s c kept new remarks later ends so goes step = record {
  next = step.next;
  walked = step.walked;
  rest = so.rest ∙ subst (λ (t : Bool). IsRest s so.next t step.next) goes step.rest;
}

pub along_last : (s : SurroundingsView) (c : Channel) (kept new : StateView) (remarks later : List Remark) (ends : Bool) (so : IsAlong s c kept remarks) → ends ≡ true → IsStep s so.next ends new later
    → IsWalked s (segment_of s c).after new later
along_last s c kept new remarks later ends so ended step =
    subst (λ (d : Channel). IsWalked s d new later) (sym (so.rest ∙ subst (λ (t : Bool). IsRest s so.next t step.next) ended step.rest)) step.walked

-- ---- with grants
pub walked_start : (s : SurroundingsView) (kept : StateView) (remarks : List Remark) → Keeps s (channel_at_start s) kept → remarks ≡ [] → IsWalked s (channel_at_start s) kept remarks
walked_start s kept remarks keeps none = record { keeps = keeps; placed = placed_start s; told = none }

pub walked_grant : (s : SurroundingsView) (c : Channel) (grant : Grant) (kept new : StateView) (remarks : List Remark) → IsWalked s c kept remarks → Keeps s (channel_after_grant c grant) new
    → IsWalked s (channel_after_grant c grant) new remarks
walked_grant s c grant kept new remarks w keeps = record { keeps = keeps; placed = placed_grant s c grant w.placed; told = w.told ∙ sym (remarks_got s c.past grant) }

module _ (job : JobView) (c : ℕ) (first : Grant) where
  abbrev pub setting : SurroundingsView
  setting = surroundings_of job c first

  pub first_walked : (kept : StateView) (remarks : List Remark) → IsWalked setting (segment_of setting (channel_at_start setting)).after kept remarks
      → IsWalked setting (segment_after job c (first ∷ [])).after kept remarks
  first_walked kept remarks w = subst (λ (g : SegmentView). IsWalked setting g.after kept remarks) (sym (first_segment job c first)) w

  pub next_walked : (rest : List Grant) (i : ℕ) (x : Grant) (kept : StateView) (remarks : List Remark) → i < length rest → x ≡ get_or rest i x
      → IsWalked setting (segment_of setting (channel_after_grant (segment_after job c (first ∷ take i rest)).after x)).after kept remarks
      → IsWalked setting (segment_after job c (first ∷ take (i + 1) rest)).after kept remarks
  next_walked rest i x kept remarks within here w =
      subst (λ (gs : List Grant). IsWalked setting (segment_after job c (first ∷ gs)).after kept remarks) (sym (take_more rest i x within ∙ ap (λ (y : Grant). take i rest ++ y ∷ []) (sym here)))
      (subst (λ (g : SegmentView). IsWalked setting g.after kept remarks) (sym (later_segment job c first (take i rest) x)) w)

  pub whole_walked : (rest : List Grant) (i : ℕ) (kept : StateView) (remarks : List Remark) → i ≡ length rest → IsWalked setting (segment_after job c (first ∷ take i rest)).after kept remarks
      → remarks ≡ remarks_with job c (first ∷ rest)
  unfolding remarks_with
  whole_walked rest i kept remarks all w =
      w.told ∙ ap (λ (gs : List Grant). remarks_of setting (segment_after job c (first ∷ gs)).after.past) (take_all i rest (omega (arith, all)))
