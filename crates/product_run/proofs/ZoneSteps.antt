-- The step at the end of a segment has those zones on that its switches left on.
use Rattle.std.proofs.Common.{◌≡◌, ◌∙◌, ℕ, zero, suc, ◌<◌, ◌==◌, Bool, true, false, cond, if◌then◌else◌, List, [], ◌∷◌, ◌++◌, length, slice_set, Option, None, Some, Result, Ok, Err, inl, inr, refl, sym, ap, subst, get_or-set_same, get_or-set_other}
use Rattle.std.specs.Option.{option_to_list}
use Rattle.std.proofs.Math.ListN.{length-set}
use Rattle.std.proofs.lemmas.Bool.{cases_eq, eq-eqb, ne_eqb}
use Rattle.axis_sets.specs.Sets.{has}
use Rattle.channel_machine.proofs.Pasts.{on-did, on-got}
use Rattle.channel_machine.specs.Levels.{levels_after}
use Rattle.channel_machine.specs.Run.{SurroundingsView, Executed, Deed, Did, Channel, SegmentView, alarm_segment, block_at, channel_after_block, channel_at_start, end_segment, ends_main, executed_block, grant_after, item_by, item_of, on_after, on_by_request, run_after, segment_after_block, segment_after_course, segment_after_request, segment_of, surroundings_of, with_block, with_items_before, with_levels}
use Rattle.channel_machine.specs.declared.levels.Levels.{Levels}
use Rattle.coordination_words.specs.declared.asked.Request.{Request}
use Rattle.coordination_words.specs.declared.asked.Request.TheVariants.{Act, Switch}
use Rattle.job_types.specs.Job.{JobView}
use Rattle.nc_blocks.specs.Statement.{BlockView}
use Rattle.product_run.proofs.AskedSegments.{IsMove, was_done}
use Rattle.product_run.proofs.OwnedRuns.{one_grant_on}
use Rattle.channel_machine.proofs.NextSegments.{first_segment}
use Rattle.channel_machine.specs.Scripts.{channel_after_grants, channel_after_segment, script_of, segment_after}
use Rattle.sync_types.specs.declared.Grant.{Grant}
use Rattle.sync_types.specs.declared.Item.{Item}
use Rattle.sync_types.specs.declared.Part.{Part}
use Rattle.sync_types.specs.declared.Part.TheVariants as part

-- ---- switches

-- what switches the zone leaves it so, and anything else leaves it as it was
abbrev pub switched : ℕ → Bool → Part → Bool
switched z on (part.Move motion) = on
switched z on (part.Switch number new) = if number == z then new else on

-- one after another
abbrev pub switched_by : ℕ → Bool → List Item → Bool
switched_by z on [] = on
switched_by z on (item ∷ items) = switched_by z (switched z on item.part) items

switched_append : (z : ℕ) (on : Bool) (xs ys : List Item) → switched_by z on (xs ++ ys) ≡ switched_by z (switched_by z on xs) ys
switched_append z on [] ys = refl
switched_append z on (x ∷ xs) ys = switched_append z (switched z on x.part) xs ys

-- what a block does by itself is a motion
abbrev OnlyMoves : Option Item → Type 0
OnlyMoves motion = (item : Item) → motion ≡ Some item → IsMove item.part

move_still : (z : ℕ) (on : Bool) (p : Part) → IsMove p → switched z on p ≡ on
move_still z on (part.Move motion) move = refl
move_still z on (part.Switch number new) move = absurd move

moves_still : (z : ℕ) (on : Bool) (o : Option Item) → OnlyMoves o → switched_by z on (option_to_list o) ≡ on
moves_still z on None each = refl
moves_still z on (Some item) each = move_still z on item.part (each item refl)

set_at : (row : List Bool) (z number : ℕ) (new : Bool) → z < length row → has (slice_set row number new) z ≡ cond (number == z) new (has row z)
set_at row z number new within = elim (cases_eq number z) [
  | inl here ↦
      let there : number < length row = subst (λ (n : ℕ). n < length row) (sym here) within in
      ap (has (slice_set row number new)) (sym here) ∙ get_or-set_same row number new false there ∙ rw (eq-eqb number z here) refl
  | inr other ↦ get_or-set_other row number z new false (λ same. other (sym same)) ∙ rw (ne_eqb number z other) refl
]

-- a block switches what it asks for
requested : (line : ℕ) (row : List Bool) (request : Option Request) (motion : Option Item) (z : ℕ) → z < length row → OnlyMoves motion
    → has (on_by_request row request) z ≡ switched_by z (has row z) (option_to_list (item_by line request motion))
requested line row None motion z within each = sym (moves_still z (has row z) motion each)
requested line row (Some (Act action)) motion z within each = sym (moves_still z (has row z) motion each)
requested line row (Some (Switch number new)) motion z within each = set_at row z number new within

as_long : (row : List Bool) (request : Option Request) → length (on_by_request row request) ≡ length row
as_long row None = refl
as_long row (Some (Act action)) = refl
as_long row (Some (Switch number new)) = length-set row number new

-- ---- a segment

module _ (s : SurroundingsView) (z : ℕ) where
  -- after these deeds
  abbrev Tells : List Deed → SegmentView → Type 0
  Tells past segment = z < length (on_after s past) → has segment.step.on z ≡ switched_by z (has (on_after s past) z) segment.items

  did_on : (past : List Deed) (done : Executed) → OnlyMoves done.effect.item → z < length (on_after s past)
      → has (on_after s (past ++ Did done ∷ [])) z ≡ switched_by z (has (on_after s past) z) (option_to_list (item_of done))
  did_on past done moves within = ap (λ (row : List Bool). has row z) (on-did s past done) ∙ requested done.line (on_after s past) done.request done.effect.item z within moves

  did_within : (past : List Deed) (done : Executed) → z < length (on_after s past) → z < length (on_after s (past ++ Did done ∷ []))
  did_within past done within = subst (λ (n : ℕ). z < n) (sym (ap length (on-did s past done) ∙ as_long (on_after s past) done.request)) within

  abbrev Next : ℕ → Type 0
  Next more = (c : Channel) → Tells c.past (run_after s more c)

  tells : (more : ℕ) → Next more
  unfolding run_after
  tells zero c = by_levels c.levels
    where
      by_block : (o : Option (ℕ × BlockView)) → Tells c.past (with_block s c.past o (λ block. alarm_segment s c.past block.0 8))
      by_block None = λ within. refl
      by_block (Some block) = λ within. refl

      by_levels : (o : Option Levels) → Tells c.past (with_levels s c.past o (λ levels block. alarm_segment s c.past block.0 8))
      by_levels None = λ within. refl
      by_levels (Some levels) = by_block (block_at s levels.here)
  tells (suc more) c = by_levels c.levels (tells more)
    where
      goes_on : (done : Executed) → OnlyMoves done.effect.item → (levels : Option Levels) → Next more
          → Tells c.past (with_items_before (option_to_list (item_of done)) (run_after s more (channel_after_block c.past done levels)))
      goes_on done moves levels next = λ within.
          let later : Channel = channel_after_block c.past done levels in
          next later (did_within c.past done within)
          ∙ ap (λ (on : Bool). switched_by z on (run_after s more later).items) (did_on c.past done moves within)
          ∙ sym (switched_append z (has (on_after s c.past) z) (option_to_list (item_of done)) (run_after s more later).items)

      by_request : (done : Executed) → OnlyMoves done.effect.item → (request : Option Request) (levels : Option Levels) → Next more
          → Tells c.past (segment_after_request s c.past done levels request (λ after. run_after s more after))
      by_request done moves None levels next = goes_on done moves levels next
      by_request done moves (Some (Switch zone on)) levels next = goes_on done moves levels next
      by_request done moves (Some (Act action)) levels next = did_on c.past done moves

      by_led : (done : Executed) → OnlyMoves done.effect.item → (r : Result (Option Levels) ℕ) → Next more → Tells c.past (segment_after_course s c.past done r (λ after. run_after s more after))
      by_led done moves (Err code) next = λ within. refl
      by_led done moves (Ok levels) next = by_request done moves done.request levels next

      by_end : (levels : Levels) (done : Executed) → OnlyMoves done.effect.item → (flag : Bool) → Next more
          → Tells c.past (cond flag (end_segment s c.past done) (segment_after_course s c.past done (levels_after s.skip s.programs levels done.effect.course) (λ after. run_after s more after)))
      by_end levels done moves true next = did_on c.past done moves
      by_end levels done moves false next = by_led done moves (levels_after s.skip s.programs levels done.effect.course) next

      by_done : (levels : Levels) (b : ℕ × BlockView) (r : Result Executed ℕ) → executed_block s c.past levels.here b ≡ r → Next more
          → Tells c.past (segment_after_block s c.past levels b.0 r (λ after. run_after s more after))
      by_done levels b (Err code) at next = λ within. refl
      by_done levels b (Ok done) at next =
          by_end levels done (was_done s (grant_after s c.past).axes c.past levels.here b done refl at).moves (ends_main levels done.effect.course) next

      by_block : (levels : Levels) (o : Option (ℕ × BlockView)) → Next more
          → Tells c.past (with_block s c.past o (λ block. segment_after_block s c.past levels block.0 (executed_block s c.past levels.here block) (λ after. run_after s more after)))
      by_block levels None next = λ within. refl
      by_block levels (Some b) next = by_done levels b (executed_block s c.past levels.here b) refl next

      by_levels : (o : Option Levels) → Next more
          → Tells c.past (with_levels s c.past o (λ levels block. segment_after_block s c.past levels block.0 (executed_block s c.past levels.here block) (λ after. run_after s more after)))
      by_levels None next = λ within. refl
      by_levels (Some levels) next = by_block levels (block_at s levels.here) next

  step_switches : (c : Channel) → Tells c.past (segment_of s c)
  unfolding segment_of
  step_switches c = tells _ c

-- ---- a channel of a job, which has got this grant last

pub script_switches : (job : JobView) (c : ℕ) (made : List Grant) (grant : Grant) (z : ℕ) → z < length grant.on
    → has (script_of job c (made ++ grant ∷ [])).on z ≡ switched_by z (has grant.on z) (segment_after job c (made ++ grant ∷ [])).items
script_switches job c [] grant z within =
    let s : SurroundingsView = surroundings_of job c grant in
    subst (λ (g : SegmentView). has g.step.on z ≡ switched_by z (has grant.on z) g.items) (sym (first_segment job c grant)) (step_switches s z (channel_at_start s) within)
script_switches job c (first ∷ rest) grant z within =
    let s : SurroundingsView = surroundings_of job c first in
    let before : Channel = channel_after_grants s rest in
    let channel : Channel = channel_after_segment s before grant in
    let got : on_after s channel.past ≡ grant.on = on-got s (segment_of s before).after.past grant in
    subst (λ (g : SegmentView). has g.step.on z ≡ switched_by z (has grant.on z) g.items) (sym (one_grant_on job c first rest grant))
    (subst (λ (row : List Bool). has (segment_of s channel).step.on z ≡ switched_by z (has row z) (segment_of s channel).items) got
    (step_switches s z channel (subst (λ (row : List Bool). z < length row) (sym got) within)))
