-- How a level goes on.
use Rattle.std.proofs.Common.{◌≡◌, ◌∙◌, ℕ, zero, suc, ◌<◌, nat_lt, if◌then◌else◌, Bool, true, false, cond, List, [], ◌∷◌, map, length, Option, None, Some, Result, Ok, Err, All, refl, sym, ap, subst, arith}
use Rattle.std.proofs.lemmas.List.{length-map}
use Rattle.std.proofs.lemmas.List.Elements.{All-head, All-tail}
use Rattle.nc_subprograms.specs.Stack.{Returns}
use Rattle.nc_blocks.specs.declared.blocks.Block.{Block}
use Rattle.nc_blocks.specs.Statement.{BlockView, view_of}
use Rattle.nc_control_flow.specs.declared.flow.Next.{Next}
use Rattle.nc_control_flow.specs.declared.flow.Next.TheVariants.{At, Past}
use Rattle.nc_control_flow.specs.declared.repeats.Running.{Running}
use Rattle.nc_control_flow.specs.Counted.{has_counting, first_going, next_going}
use Rattle.nc_control_flow.specs.Flow.{next_block, next_at, going_by_move, Leads}
use Rattle.nc_control_flow.specs.Moves.{OutcomeView, Skipped, move_of}
use Rattle.nc_control_flow.specs.Nested.{blocks_of}
use Rattle.nc_control_flow.specs.Parts.{views}
use Rattle.nc_control_flow.specs.Repetitions.{Going}
use Rattle.nc_control_flow.proofs.Leading.{first_at, first_counts, first_runs, counts_first, counts_none}
use Rattle.nc_subprograms.specs.declared.Place.{Place}
use Rattle.job_types.specs.Job.{ProgramView, block_entry}
use Rattle.channel_machine.specs.declared.levels.Levels.{Levels}
use Rattle.channel_machine.specs.Levels.{lines_of, program_blocks, first_place, gone_on, after_call, has_block, levels_at, next_pass, begun_or, past_end, levels_from, Stands, IsFirstPlace, Lands, GoesAfter, GoesOn}

-- a flow's blocks, without their lines
views_same : (flow : List (ℕ × Block)) → blocks_of (map block_entry flow) ≡ views flow
views_same [] = refl
views_same (b ∷ bs) = ap (λ (vs : List BlockView). view_of b.1 ∷ vs) (views_same bs)

module _ (programs : List (List ℕ × ProgramView)) (number : ℕ) (flow : List (ℕ × Block)) (lines : lines_of programs number ≡ map block_entry flow) where
  pub views_are : program_blocks programs number ≡ views flow
  views_are = ap blocks_of lines ∙ views_same flow

  pub long : length (lines_of programs number) ≡ length (views flow)
  long = ap length lines ∙ length-map flow block_entry ∙ sym (length-map flow (λ (e : ℕ × Block). view_of e.1))

-- ---- the first block

module _ (skip : Bool) (programs : List (List ℕ × ProgramView)) (number : ℕ) where
  -- by the flow
  pub first_by : (passes : ℕ) (flow : List (ℕ × Block)) (pc : ℕ) → lines_of programs number ≡ map block_entry flow → At pc ≡ next_at (views flow) (first_going skip (views flow)).place
      → IsFirstPlace skip programs number passes (Some (record { program = number; pc = pc; passes = passes; repeats = [] }))
  first_by passes flow pc lines is =
      let blocks = views_are programs number flow lines in
      let place = first_at skip (views flow) pc is in (
        ap (has_counting skip) blocks ∙ sym (counts_first skip (views flow) (At pc) pc is refl),
        rw blocks (ap (λ (n : ℕ). record { program = number; pc = n; passes = passes; repeats = [] }) place
            ∙ ap (λ (rs : List Running). record { program = number; pc = (first_going skip (views flow)).place; passes = passes; repeats = rs }) (sym (first_runs skip (views flow)))),
      )

  pub none_by : (passes : ℕ) (flow : List (ℕ × Block)) → lines_of programs number ≡ map block_entry flow → Past ≡ next_at (views flow) (first_going skip (views flow)).place
      → IsFirstPlace skip programs number passes None
  none_by passes flow lines is = ap (has_counting skip) (views_are programs number flow lines) ∙ sym (counts_none skip (views flow) Past is refl)

  first_comes : (passes : ℕ) → has_block programs (first_place skip programs number passes) ≡ has_counting skip (program_blocks programs number)
  first_comes passes =
      ap (nat_lt (first_going skip (program_blocks programs number)).place) (sym (length-map (lines_of programs number) (λ (line : ℕ × BlockView). line.1)))
      ∙ first_counts skip (program_blocks programs number)

  -- the main program begins, or is done at once
  pub begins_at : (found : Option Place) (here : Place) → IsFirstPlace skip programs number 0 found → found ≡ Some here
      → Some (record { here = here; returns = [] }) ≡ levels_from skip programs (first_place skip programs number 0) []
  begins_at None here is some = absurd cc
  begins_at (Some place) here is some =
      let same : place ≡ here = cc in
      let comes : has_block programs (first_place skip programs number 0) ≡ true = first_comes 0 ∙ is.0 in
      rw (sym same, is.1, comes) refl

  pub begins_not : (found : Option Place) → IsFirstPlace skip programs number 0 found → found ≡ None → None ≡ levels_from skip programs (first_place skip programs number 0) []
  begins_not (Some place) is none = absurd cc
  begins_not None is none = let comes : has_block programs (first_place skip programs number 0) ≡ false = first_comes 0 ∙ is in rw comes refl

  pub none_without : (passes : ℕ) → lines_of programs number ≡ [] → IsFirstPlace skip programs number passes None
  none_without passes lines = ap (has_counting skip) (ap blocks_of lines)

-- ---- one block on

module _ (programs : List (List ℕ × ProgramView)) (old : Place) (flow : List (ℕ × Block)) (lines : lines_of programs old.program ≡ map block_entry flow) where
  -- it lands
  lands : (to : Going) (next : Next) (mid : List Running) (b : Bool) (new : Place) → next ≡ next_at (views flow) to.place → mid ≡ to.running
      → Lands next (record old { repeats = mid }) b new → GoesAfter programs (gone_on old to) b new
  lands to next mid b new is runs landed = by_test (nat_lt to.place (length (views flow))) refl
    where
      test : (t : Bool) → nat_lt to.place (length (views flow)) ≡ t → has_block programs (gone_on old to) ≡ t
      test t e = ap (nat_lt to.place) (long programs old.program flow lines) ∙ e

      at_block : nat_lt to.place (length (views flow)) ≡ true → Lands (At to.place) (record old { repeats = mid }) b new → GoesAfter programs (gone_on old to) b new
      at_block e (comes, stands) = record {
        comes = comes ∙ sym (test true e);
        arrives = λ _. stands ∙ ap (λ (rs : List Running). record old { pc = to.place; repeats = rs }) runs;
        program = ap (λ (p : Place). p.program) stands;
        passes = ap (λ (p : Place). p.passes) stands;
      }

      at_end : nat_lt to.place (length (views flow)) ≡ false → Lands Past (record old { repeats = mid }) b new → GoesAfter programs (gone_on old to) b new
      at_end e (comes, stands) = record {
        comes = comes ∙ sym (test false e);
        arrives = λ yes_it. let never : false ≡ true = sym comes ∙ yes_it in absurd cc;
        program = ap (λ (p : Place). p.program) stands;
        passes = ap (λ (p : Place). p.passes) stands;
      }

      by_test : (t : Bool) → nat_lt to.place (length (views flow)) ≡ t → GoesAfter programs (gone_on old to) b new
      by_test true e = at_block e (subst (λ (n : Next). Lands n (record old { repeats = mid }) b new) (is ∙ ap (λ (t : Bool). cond t (At to.place) Past) e) landed)
      by_test false e = at_end e (subst (λ (n : Next). Lands n (record old { repeats = mid }) b new) (is ∙ ap (λ (t : Bool). cond t (At to.place) Past) e) landed)

  led : (r : Result Going ℕ) (next : Next) (mid : List Running) (b : Bool) (new : Place) → Leads (views flow) r (Ok next) old.repeats mid
      → Lands next (record old { repeats = mid }) b new → GoesOn programs r old (Ok b) new
  led (Ok to) next mid b new (is, runs) landed = let at : next ≡ next_at (views flow) to.place = cc in lands to next mid b new at runs landed
  led (Err code) next mid b new (is, runs) landed = absurd cc

  led_not : (r : Result Going ℕ) (code : ℕ) (mid : List Running) (new : Place) → Leads (views flow) r (Err code) old.repeats mid → GoesOn programs r old (Err code) new
  led_not (Ok to) code mid new (is, runs) = absurd cc
  led_not (Err other) code mid new (is, runs) = let same : code ≡ other = cc in ap (λ (n : ℕ). Err n) same

  -- the flow goes on
  pub goes_on : (skip : Bool) (outcome : OutcomeView) (next : Next) (mid : List Running) (b : Bool) (new : Place) → Leads (views flow) (next_going skip old.pc (views flow) old.repeats outcome) (Ok next) old.repeats mid
      → Lands next (record old { repeats = mid }) b new → GoesOn programs (next_going skip old.pc (program_blocks programs old.program) old.repeats outcome) old (Ok b) new
  goes_on skip outcome next mid b new leads landed =
      rw (views_are programs old.program flow lines) (led (next_going skip old.pc (views flow) old.repeats outcome) next mid b new leads landed)

  -- the flow alarms
  pub goes_not : (skip : Bool) (outcome : OutcomeView) (code : ℕ) (mid : List Running) (new : Place) → Leads (views flow) (next_going skip old.pc (views flow) old.repeats outcome) (Err code) old.repeats mid
      → GoesOn programs (next_going skip old.pc (program_blocks programs old.program) old.repeats outcome) old (Err code) new
  goes_not skip outcome code mid new leads =
      rw (views_are programs old.program flow lines) (led_not (next_going skip old.pc (views flow) old.repeats outcome) code mid new leads)

-- after a call
module _ (skip : Bool) (programs : List (List ℕ × ProgramView)) (old new : Place) where
  pub goes_after : (b : Bool) → GoesOn programs (next_going skip old.pc (program_blocks programs old.program) old.repeats Skipped) old (Ok b) new
      → GoesAfter programs (after_call skip programs old) b new
  unfolding next_block move_of going_by_move
  goes_after b is = is

  pub never_alarms : (code : ℕ) → GoesOn programs (next_going skip old.pc (program_blocks programs old.program) old.repeats Skipped) old (Err code) new → ⊥
  unfolding next_block move_of going_by_move
  never_alarms code is = is

-- ---- the level below

pub popped : (old : List Place) (caller : Place) (new : List Place) → Returns old (Some caller) new → old ≡ caller ∷ new
popped [] caller new (is, e) = absurd cc
popped (p ∷ ps) caller new (is, e) = let same : p ≡ caller = cc in rw (same, e) refl

pub emptied : (old new : List Place) → Returns old None new → old ≡ []
emptied [] new (is, e) = refl
emptied (p ∷ ps) new (is, e) = absurd cc

-- ---- past the end of a program

module _ (skip : Bool) (programs : List (List ℕ × ProgramView)) where
  -- a pass begins
  pub pass_is : (number less passes : ℕ) (o : Option Place) → passes ≡ suc less → IsFirstPlace skip programs number less o → o ≡ next_pass skip programs number passes
  pass_is number less zero o e is = absurd (omega (arith, e))
  pass_is number less (suc n) o e is = let same : n ≡ less = omega (arith, e) in rw same (by_place o is)
    where
      by_place : (o : Option Place) → IsFirstPlace skip programs number less o
          → o ≡ (if has_counting skip (program_blocks programs number) then Some (first_place skip programs number less) else None)
      by_place (Some place) (counts, e) = rw (counts, e) refl
      by_place None none = rw none refl

  module _ (number passes : ℕ) (begun : Option Place) (is : begun ≡ next_pass skip programs number passes) where
    -- at the next pass
    pub begins : (returns : List Place) (here : Place) (goal : Option Levels) → begun ≡ Some here → past_end skip programs number passes returns ≡ goal
        → Some (record { here = here; returns = returns }) ≡ goal
    begins [] here goal some same = ap (λ (o : Option Place). begun_or o [] None) (sym some ∙ is) ∙ same
    begins (p ∷ ps) here goal some same =
        ap (λ (o : Option Place). begun_or o (p ∷ ps) (levels_at programs (after_call skip programs p) ps (past_end skip programs p.program p.passes ps))) (sym some ∙ is) ∙ same

    -- the main program ends
    pub at_main : (old new : List Place) (goal : Option Levels) → begun ≡ None → Returns old None new → past_end skip programs number passes old ≡ goal → None ≡ goal
    at_main old new goal none ret same =
        ap (λ (o : Option Place). begun_or o [] None) (sym none ∙ is) ∙ ap (past_end skip programs number passes) (sym (emptied old new ret)) ∙ same

    module _ (old new : List Place) (caller here : Place) (none : begun ≡ None) (ret : Returns old (Some caller) new) where
      past_caller : past_end skip programs number passes old ≡ levels_at programs (after_call skip programs caller) new (past_end skip programs caller.program caller.passes new)
      past_caller =
          ap (past_end skip programs number passes) (popped old caller new ret)
          ∙ ap (λ (o : Option Place). begun_or o (caller ∷ new) (levels_at programs (after_call skip programs caller) new (past_end skip programs caller.program caller.passes new))) (sym is ∙ none)

      -- after the call of the level below a block comes
      pub below_comes : (b : Bool) (goal : Option Levels) → b ≡ true → GoesAfter programs (after_call skip programs caller) b here → past_end skip programs number passes old ≡ goal
          → Some (record { here = here; returns = new }) ≡ goal
      below_comes b goal yes_it goes same =
          let comes : has_block programs (after_call skip programs caller) ≡ true = sym goes.comes ∙ yes_it in
          let there : levels_at programs (after_call skip programs caller) new (past_end skip programs caller.program caller.passes new) ≡ Some (record { here = after_call skip programs caller; returns = new }) = rw comes refl in
          rw (goes.arrives yes_it) (sym there ∙ sym past_caller ∙ same)

      -- or it is at its end too
      pub below_ends : (b : Bool) (goal : Option Levels) → b ≡ false → GoesAfter programs (after_call skip programs caller) b here → past_end skip programs number passes old ≡ goal
          → past_end skip programs here.program here.passes new ≡ goal
      below_ends b goal no_it goes same =
          let ends : has_block programs (after_call skip programs caller) ≡ false = sym goes.comes ∙ no_it in
          let there : levels_at programs (after_call skip programs caller) new (past_end skip programs caller.program caller.passes new) ≡ past_end skip programs caller.program caller.passes new = rw ends refl in
          rw (goes.program, goes.passes) (sym there ∙ sym past_caller ∙ same)

  module _ (old new : List Place) (caller : Place) (ret : Returns old (Some caller) new) where
    pub fits_head : All (Stands skip programs) old → Stands skip programs caller
    fits_head all = All-head (Stands skip programs) caller new (subst (λ (ps : List Place). All (Stands skip programs) ps) (popped old caller new ret) all)

    pub fits_tail : All (Stands skip programs) old → All (Stands skip programs) new
    fits_tail all = All-tail (Stands skip programs) caller new (subst (λ (ps : List Place). All (Stands skip programs) ps) (popped old caller new ret) all)

    pub fewer : length new < length old
    fewer = let e : length old ≡ length (caller ∷ new) = ap length (popped old caller new ret) in omega (arith, e)
