-- Control stays at blocks, and blocks name parameters that there are.
use Rattle.std.proofs.Common.{◌≡◌, ℕ, zero, suc, ◌<◌, ◌==◌, Bool, true, false, cond, List, [], ◌∷◌, map, length, slice_get, Option, None, Some, IfSome, Result, Ok, Err, All, refl, sym, ap, ◌∙◌, subst, arith}
use Rattle.std.proofs.lemmas.Bool.Decides.{nat_tests}
use Rattle.std.proofs.lemmas.List.{length-map}
use Rattle.std.proofs.lemmas.List.Elements.{All-nil, All-cons, All-head, All-tail}
use Rattle.block_effects.specs.Effects.{Course, Goes, Ends, Calls}
use Rattle.nc_blocks.specs.Indices.{StatementFits}
use Rattle.nc_blocks.specs.Statement.{BlockView, statement_view}
use Rattle.nc_blocks.specs.declared.blocks.Block.{Block}
use Rattle.nc_control_flow.specs.Counted.{going_to_counted, has_counting, first_going, up_to_counting, RepeatCounts, CountRepeats}
use Rattle.nc_control_flow.specs.Flow.{next_block}
use Rattle.nc_control_flow.specs.Moves.{OutcomeView}
use Rattle.nc_control_flow.specs.Parts.{statement_at, views}
use Rattle.nc_control_flow.specs.Repetitions.{Going, after_block}
use Rattle.nc_control_flow.proofs.Leading.{first_counts, first_runs}
use Rattle.nc_control_flow.proofs.Starting.{rests_at, after_counts, next_counts}
use Rattle.nc_expressions.specs.Value.{◌>>=◌}
use Rattle.nc_subprograms.specs.declared.Place.{Place}
use Rattle.job_types.specs.Job.{JobView, ProgramView, block_entry, names_of}
use Rattle.job_types.specs.SoundJob.{BlocksFit}
use Rattle.channel_machine.specs.declared.levels.Levels.{Levels}
use Rattle.channel_machine.specs.Levels.{lines_of, program_blocks, first_place, gone_on, after_call, has_block, levels_at, next_pass, begun_or, past_end, levels_from, levels_after, followed_from, Stands, LevelsFit}

-- ---- levels

module _ (skip : Bool) (programs : List (List ℕ × ProgramView)) where
  abbrev Fit : Option Levels → Type 0
  Fit o = IfSome o (LevelsFit skip programs)

  -- a level that comes to a block stands there
  module _ (place : Place) (to : Going) (repeat : CountRepeats skip (program_blocks programs place.program) (going_to_counted skip (program_blocks programs place.program) to).running) where
    comes_to : has_block programs (gone_on place (going_to_counted skip (program_blocks programs place.program) to)) ≡ true
        → Stands skip programs (gone_on place (going_to_counted skip (program_blocks programs place.program) to))
    comes_to comes =
        let long = length-map (lines_of programs place.program) (λ (line : ℕ × BlockView). line.1) in
        let within : (going_to_counted skip (program_blocks programs place.program) to).place < length (lines_of programs place.program) = grind (arith, nat_tests) in
        record { counts = rests_at skip (program_blocks programs place.program) to (omega (arith, within, long)); repeat = repeat }

  none_runs : (blocks : List BlockView) → CountRepeats skip blocks []
  none_runs blocks = by_skip skip
    where
      by_skip : (b : Bool) → CountRepeats b blocks []
      by_skip true = All-nil (RepeatCounts blocks)
      by_skip false = tt

  first_stands : (number passes : ℕ) → has_counting skip (program_blocks programs number) ≡ true → Stands skip programs (first_place skip programs number passes)
  first_stands number passes counts =
      let blocks = program_blocks programs number in
      let within : (first_going skip blocks).place < length blocks = let test = first_counts skip blocks ∙ counts in grind (arith, nat_tests) in
      record {
        counts = rests_at skip blocks (record { place = 0; running = [] }) within;
        repeat = subst (CountRepeats skip blocks) (sym (first_runs skip blocks)) (none_runs blocks);
      }

  after_stands : (place : Place) → Stands skip programs place → has_block programs (after_call skip programs place) ≡ true → Stands skip programs (after_call skip programs place)
  after_stands place stands =
      comes_to place (after_block place.pc place.repeats) (after_counts skip (program_blocks programs place.program) place.pc place.repeats stands.repeat)

  arrived_fits : (here : Place) (returns : List Place) (past : Option Levels) → (has_block programs here ≡ true → Stands skip programs here) → All (Stands skip programs) returns → Fit past
      → Fit (levels_at programs here returns past)
  arrived_fits here returns past stands all fits = by_test (has_block programs here) refl
    where
      by_test : (t : Bool) → has_block programs here ≡ t → Fit (cond t (Some (record { here = here; returns = returns })) past)
      by_test true is = record { here = stands is; returns = all }
      by_test false is = fits

  pass_fits : (number passes : ℕ) (returns : List Place) (past : Option Levels) → All (Stands skip programs) returns → Fit past → Fit (begun_or (next_pass skip programs number passes) returns past)
  pass_fits number zero returns past all fits = fits
  pass_fits number (suc passes) returns past all fits = by_test (has_counting skip (program_blocks programs number)) refl
    where
      by_test : (t : Bool) → has_counting skip (program_blocks programs number) ≡ t → Fit (begun_or (cond t (Some (first_place skip programs number passes)) None) returns past)
      by_test true is = record { here = first_stands number passes is; returns = all }
      by_test false is = fits

  past_fits : (number passes : ℕ) (returns : List Place) → All (Stands skip programs) returns → Fit (past_end skip programs number passes returns)
  past_fits number passes [] all = pass_fits number passes [] None all tt
  past_fits number passes (p ∷ ps) all =
      let head : Stands skip programs p = All-head (Stands skip programs) p ps all in
      let tail : All (Stands skip programs) ps = All-tail (Stands skip programs) p ps all in
      pass_fits number passes (p ∷ ps) (levels_at programs (after_call skip programs p) ps (past_end skip programs p.program p.passes ps)) all
      (arrived_fits (after_call skip programs p) ps (past_end skip programs p.program p.passes ps) (after_stands p head) tail (past_fits p.program p.passes ps tail))

  -- at the start
  pub begin_fits : (number : ℕ) → Fit (levels_from skip programs (first_place skip programs number 0) [])
  begin_fits number =
      let blocks = program_blocks programs number in
      let none : CountRepeats skip blocks (first_going skip blocks).running = subst (CountRepeats skip blocks) (sym (first_runs skip blocks)) (none_runs blocks) in
      arrived_fits (first_place skip programs number 0) [] (past_end skip programs number 0 [])
      (comes_to (record { program = number; pc = 0; passes = 0; repeats = [] }) (record { place = 0; running = [] }) none)
      (All-nil (Stands skip programs)) (past_fits number 0 [] (All-nil (Stands skip programs)))

  module _ (levels : Levels) (fits : LevelsFit skip programs levels) where
    come_fits : (to : Going) → CountRepeats skip (program_blocks programs levels.here.program) (going_to_counted skip (program_blocks programs levels.here.program) to).running
        → Fit (levels_from skip programs (gone_on levels.here (going_to_counted skip (program_blocks programs levels.here.program) to)) levels.returns)
    come_fits to repeat =
        arrived_fits (gone_on levels.here (going_to_counted skip (program_blocks programs levels.here.program) to)) levels.returns (past_end skip programs levels.here.program levels.here.passes levels.returns)
        (comes_to levels.here to repeat) fits.returns (past_fits levels.here.program levels.here.passes levels.returns fits.returns)

    going_fits : (outcome : OutcomeView) (r : Result Going ℕ) (next : Option Levels) → next_block levels.here.pc (program_blocks programs levels.here.program) levels.here.repeats outcome ≡ r
        → (up_to_counting skip (program_blocks programs levels.here.program) r >>= λ going. Ok (levels_from skip programs (gone_on levels.here going) levels.returns)) ≡ Ok next → Fit next
    going_fits outcome (Ok to) next is led =
        let blocks = program_blocks programs levels.here.program in
        let same : levels_from skip programs (gone_on levels.here (going_to_counted skip blocks to)) levels.returns ≡ next = cc in
        subst Fit same (come_fits to (next_counts skip levels.here.pc blocks levels.here.repeats outcome (going_to_counted skip blocks to) fits.here.counts fits.here.repeat (ap (up_to_counting skip blocks) is)))
    going_fits outcome (Err code) next is led = absurd cc

    calling_fits : (number passes : ℕ) (t : Bool) (next : Option Levels)
        → (cond t (Err 6) (Ok (levels.here ∷ levels.returns)) >>= λ returns. Ok (past_end skip programs number passes returns)) ≡ Ok next → Fit next
    calling_fits number passes true next is = absurd cc
    calling_fits number passes false next is =
        let same : past_end skip programs number passes (levels.here ∷ levels.returns) ≡ next = cc in
        subst Fit same (past_fits number passes (levels.here ∷ levels.returns) (All-cons (Stands skip programs) levels.here levels.returns fits.here fits.returns))

    -- after a block each level stands at a block that counts again
    pub followed_fits : (course : Course) (next : Option Levels) → levels_after skip programs levels course ≡ Ok next → Fit next
    unfolding levels_after
    followed_fits (Goes outcome) next is = going_fits outcome (next_block levels.here.pc (program_blocks programs levels.here.program) levels.here.repeats outcome) next refl is
    followed_fits Ends next is =
        let same : past_end skip programs levels.here.program levels.here.passes levels.returns ≡ next = cc in
        subst Fit same (past_fits levels.here.program levels.here.passes levels.returns fits.returns)
    followed_fits (Calls number passes) next is = calling_fits number passes (length levels.returns == 15) next is

-- the same from where control is, or nowhere
pub followed_from_fits : (skip : Bool) (programs : List (List ℕ × ProgramView)) (old : Option Levels) → IfSome old (LevelsFit skip programs) → (course : Course) (next : Option Levels)
    → followed_from skip programs old course ≡ Ok next → IfSome next (LevelsFit skip programs)
followed_from_fits skip programs None fit course None is = tt
followed_from_fits skip programs None fit course (Some levels) is = absurd cc
followed_from_fits skip programs (Some levels) fit course next is = followed_fits skip programs levels fit course next is

-- ---- blocks

-- the block of a line fits these names of variables
abbrev LineFits : List (List ℕ) → ℕ × BlockView → Type 0
LineFits names line = StatementFits names line.1.statement

-- so do the blocks of all lines of a program those of its own
abbrev LinesFit : List (ℕ × BlockView) → Type 0
LinesFit lines = All (LineFits (names_of lines)) lines

lines_fit : (job : JobView) → BlocksFit job → (number : ℕ) → LinesFit (lines_of job.programs number)
lines_fit job fit number = by_program job.programs number fit
  where
    by_program : (programs : List (List ℕ × ProgramView)) (number : ℕ) → All (λ p. LinesFit p.1.blocks) programs → LinesFit (lines_of programs number)
    by_program [] zero all = All-nil (LineFits (names_of []))
    by_program [] (suc k) all = All-nil (LineFits (names_of []))
    by_program (p ∷ ps) zero all = All-head (λ q. LinesFit q.1.blocks) p ps all
    by_program (p ∷ ps) (suc k) all = by_program ps k (All-tail (λ q. LinesFit q.1.blocks) p ps all)

module _ (job : JobView) (fit : BlocksFit job) (number : ℕ) (flow : List (ℕ × Block)) (lines : lines_of job.programs number ≡ map block_entry flow) where
  -- the names of the variables of the program
  abbrev pub names : List (List ℕ)
  names = names_of (map block_entry flow)

  all_fit : All (LineFits names) (map block_entry flow)
  all_fit = subst LinesFit lines (lines_fit job fit number)

  at_place : (entries : List (ℕ × Block)) (pc : ℕ) (e : ℕ × Block) → All (LineFits names) (map block_entry entries) → slice_get entries pc ≡ Some e → StatementFits names (statement_view e.1.stmt)
  at_place [] zero e all is = absurd cc
  at_place [] (suc k) e all is = absurd cc
  at_place (x ∷ xs) zero e all is = let same : x ≡ e = cc in subst (λ (y : ℕ × Block). StatementFits names (statement_view y.1.stmt)) same (All-head (LineFits names) (block_entry x) (map block_entry xs) all)
  at_place (x ∷ xs) (suc k) e all is = at_place xs k e (All-tail (LineFits names) (block_entry x) (map block_entry xs) all) is

  -- the block at a place fits the names of the variables of its program
  pub block_fits : (pc : ℕ) (e : ℕ × Block) → slice_get flow pc ≡ Some e → StatementFits names (statement_view e.1.stmt)
  block_fits pc e is = at_place flow pc e all_fit is

  said_at : (entries : List (ℕ × Block)) (k : ℕ) → All (LineFits names) (map block_entry entries) → StatementFits names (statement_at k (views entries))
  said_at [] zero all = tt
  said_at [] (suc k) all = tt
  said_at (x ∷ xs) zero all = All-head (LineFits names) (block_entry x) (map block_entry xs) all
  said_at (x ∷ xs) (suc k) all = said_at xs k (All-tail (LineFits names) (block_entry x) (map block_entry xs) all)

  -- so does what stands at any place
  pub statement_fits : (k : ℕ) → StatementFits names (statement_at k (views flow))
  statement_fits k = said_at flow k all_fit
