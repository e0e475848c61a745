-- One block of a channel, by what is kept before it and after it.
use Rattle.std.proofs.Common.{◌≡◌, ◌∙◌, ℕ, ◌+◌, ◌==◌, Bool, true, false, not, List, [], ◌∷◌, ◌++◌, append-nil, length, slice_get, is_some, MatchOption, Option, None, Some, refl, sym, ap, subst, arith, eq-eqb, eqb-true}
use Rattle.std.specs.List.{list_any}
use Rattle.std.specs.Option.{option_and_then, option_map, option_map_or, option_to_list}
use Rattle.job_types.specs.Job.{ProgramView}
use Rattle.nc_blocks.specs.Statement.{BlockView, Statement}
use Rattle.nc_subprograms.specs.declared.Place.{Place}
use Rattle.channel_machine.specs.declared.levels.Levels.{Levels}
use Rattle.sync_types.specs.Items.{is_motion}
use Rattle.sync_types.specs.declared.Item.{Item}
use Rattle.sync_types.specs.declared.Step.{Step}
use Rattle.channel_machine.specs.Kept.{Advances, IsThere, Keeps, StateView, deeds_of}
use Rattle.channel_machine.specs.Levels.{lines_of}
use Rattle.channel_machine.specs.Passing.{Comes, IsPassing, IsRest, NoneComes}
use Rattle.channel_machine.specs.Run.{SurroundingsView, Executed, Deed, Channel, SegmentView, blocks_of, does_move, item_of, segment_of}
use Rattle.channel_machine.proofs.Pasts.{count-did}
use Rattle.channel_machine.proofs.PlacedChannels.{placed_segment}

-- more blocks are executed where one was
ran : (done : Option Executed) (past later : List Deed) (before after : ℕ) → later ≡ past ++ deeds_of done → before ≡ length (blocks_of past) → after ≡ length (blocks_of later)
    → not (after == before) ≡ is_some done
ran None past later before after more old new =
    let same : after ≡ before = new ∙ ap (λ (deeds : List Deed). length (blocks_of deeds)) (more ∙ append-nil past) ∙ sym old in
    ap not (eq-eqb after before same)
ran (Some done) past later before after more old new =
    let longer : after ≡ before + 1 = new ∙ ap (λ (deeds : List Deed). length (blocks_of deeds)) more ∙ count-did past done ∙ ap (λ (n : ℕ). n + 1) (sym old) in
    by_test (after == before) refl longer
  where
    by_test : (t : Bool) → (after == before) ≡ t → after ≡ before + 1 → not t ≡ true
    by_test false is longer = refl
    by_test true is longer = let same : after ≡ before = eqb-true after before is in absurd (omega (arith, same, longer))

-- and an axis moves where its item is a motion
moved : (done : Option Executed) (items : List Item) → items ≡ [] ++ option_to_list (option_and_then item_of done) → list_any is_motion items ≡ option_map_or does_move done false
moved None items are = ap (list_any is_motion) are
moved (Some done) items are = ap (list_any is_motion) are

pub passes : (s : SurroundingsView) (c : Channel) (old new : StateView) (items : List Item) (halt : Option Step) (executed moves ends : Bool) → Keeps s c old → Advances s c [] halt items new
    → executed ≡ not (new.count == old.count) → moves ≡ list_any is_motion items → ends ≡ is_some halt
    → IsPassing s c (record { executed = executed; moves = moves; ends = ends }) new
passes s c old new items None executed moves ends keeps told is_executed is_moving is_ending = record {
  next = told.goes.next;
  keeps = told.goes.keeps;
  placed = told.goes.placed;
  done = told.more.done;
  past = told.more.past;
  there = told.more.there;
  executed = is_executed ∙ ran told.more.done c.past told.goes.next.past old.count new.count told.more.past keeps.count told.goes.keeps.count;
  moves = is_moving ∙ moved told.more.done items told.more.items;
  rest = subst (λ (b : Bool). IsRest s c b told.goes.next) (sym is_ending) (ap (λ (g : SegmentView). g.after) told.goes.rest);
}
passes s c old new items (Some step) executed moves ends keeps told is_executed is_moving is_ending = record {
  next = (segment_of s c).after;
  keeps = told.segment.after;
  placed = placed_segment s c;
  done = told.more.done;
  past = told.more.past;
  there = told.more.there;
  executed = is_executed ∙ ran told.more.done c.past (segment_of s c).after.past old.count new.count told.more.past keeps.count told.segment.after.count;
  moves = is_moving ∙ moved told.more.done items told.more.items;
  rest = subst (λ (b : Bool). IsRest s c b (segment_of s c).after) (sym is_ending) refl;
}

-- ---- the block that comes
pub match_option : {A : Type 0} {P R : Type 0} {Q S : A → Type 0} (o : Option A) → (P → R) → ((x : A) → Q x → S x) → MatchOption o P Q → MatchOption o R S
match_option None none some is = none is
match_option (Some x) none some is = some x is

module _ (programs : List (List ℕ × ProgramView)) where
  pub none_at : (levels : Option Levels) (here : Place) → Some here ≡ option_map (λ l. l.here) levels → slice_get (lines_of programs here.program) here.pc ≡ None → NoneComes programs levels
  none_at None here same none = tt
  none_at (Some levels) here same none = let there : here ≡ levels.here = cc in subst (λ (p : Place). slice_get (lines_of programs p.program) p.pc ≡ None) there none

  pub comes_at : (levels : Option Levels) (here : Place) (line : ℕ) (block : BlockView) (opener : Statement) → Some here ≡ option_map (λ l. l.here) levels → IsThere programs here line block opener
      → Comes programs levels line block opener
  comes_at None here line block opener same is = absurd cc
  comes_at (Some levels) here line block opener same is = let there : here ≡ levels.here = cc in subst (λ (p : Place). IsThere programs p line block opener) there is

  pub nowhere_at : (levels : Option Levels) → None ≡ option_map (λ l. l.here) levels → NoneComes programs levels
  nowhere_at None same = tt
  nowhere_at (Some levels) same = absurd cc
