-- The segments of a channel for one grant more, and what its worker then has.
use Rattle.std.proofs.Common.{◌≡◌, ℕ, List, [], ◌∷◌, ◌++◌, map, append_assoc, Some, None, refl, sym, ap, ap₂, subst, ◌∙◌}
use Rattle.channel_machine.proofs.KeptLocals.{none_kept}
use Rattle.channel_machine.proofs.Pasts.{map-push}
use Rattle.channel_machine.specs.Kept.{KeptSegment}
use Rattle.channel_machine.specs.Locals.{IsKeptOf, IsSegmentOf}
use Rattle.channel_machine.specs.Run.{SegmentView}
use Rattle.channel_machine.specs.Scripts.{script_of, segment_after}
use Rattle.job_types.specs.Job.{JobView}
use Rattle.parallel_run.specs.Workers.{IsWorked, WorkedView, items_for, segments_for, steps_for}
use Rattle.sync_types.specs.declared.Grant.{Grant}
use Rattle.sync_types.specs.declared.Item.{Item}

pub segments_for-push : (job : JobView) (c : ℕ) (made grants : List Grant) (grant : Grant)
    → segments_for job c made (grants ++ grant ∷ []) ≡ segments_for job c made grants ++ segment_after job c (made ++ (grants ++ grant ∷ [])) ∷ []
segments_for-push job c made [] grant = refl
segments_for-push job c made (g ∷ grants) grant =
    ap (λ (segments : List SegmentView). segment_after job c (made ++ g ∷ []) ∷ segments)
    (segments_for-push job c (made ++ g ∷ []) grants grant
    ∙ ap (λ (gs : List Grant). segments_for job c (made ++ g ∷ []) grants ++ segment_after job c gs ∷ []) (append_assoc made (g ∷ []) (grants ++ grant ∷ [])))

pub steps_for-push : (job : JobView) (c : ℕ) (grants : List Grant) (grant : Grant) → steps_for job c [] (grants ++ grant ∷ []) ≡ steps_for job c [] grants ++ script_of job c (grants ++ grant ∷ []) ∷ []
steps_for-push job c grants grant =
    ap (map (λ (s : SegmentView). s.step)) (segments_for-push job c [] grants grant) ∙ map-push (λ (s : SegmentView). s.step) (segments_for job c [] grants) (segment_after job c (grants ++ grant ∷ []))

pub items_for-push : (job : JobView) (c : ℕ) (grants : List Grant) (grant : Grant) → items_for job c [] (grants ++ grant ∷ []) ≡ items_for job c [] grants ++ (segment_after job c (grants ++ grant ∷ [])).items ∷ []
items_for-push job c grants grant =
    ap (map (λ (s : SegmentView). s.items)) (segments_for-push job c [] grants grant) ∙ map-push (λ (s : SegmentView). s.items) (segments_for job c [] grants) (segment_after job c (grants ++ grant ∷ []))

-- a worker that has got nothing
pub fresh_worked : (job : JobView) (w : WorkedView) → w.items ≡ [] → w.last ≡ None → IsWorked job [] w
fresh_worked job w items last = record { items = items; kept = none_kept job w.channel w.last last }

-- a worker notes one grant more
module _ (job : JobView) (before after : WorkedView) (grants : List Grant) (grant : Grant) (kept : KeptSegment) (is : IsWorked job grants before) (channel : after.channel ≡ before.channel)
    (items : after.items ≡ before.items ++ kept.items ∷ []) (last : after.last ≡ Some kept.after) (told : IsSegmentOf job before.channel (grants ++ grant ∷ []) kept) where
  more_items : after.items ≡ items_for job before.channel [] (grants ++ grant ∷ [])
  more_items =
      items
      ∙ ap₂ (λ (rows : List (List Item)) (row : List Item). rows ++ row ∷ []) is.items (sym told.items)
      ∙ sym (items_for-push job before.channel grants grant)

  pub noted_worked : IsWorked job (grants ++ grant ∷ []) after
  noted_worked = record {
    items = more_items ∙ ap (λ (c : ℕ). items_for job c [] (grants ++ grant ∷ [])) (sym channel);
    kept = subst (λ (c : ℕ). IsKeptOf job c (grants ++ grant ∷ []) after.last) (sym channel) (subst (IsKeptOf job before.channel (grants ++ grant ∷ [])) (sym last) told.after);
  }
