-- The owners of the axes of zones.
use Rattle.std.proofs.Common.{◌≡◌, ℕ, ◌<◌, length, Bool, true, false, ◌||◌, List, [], ◌∷◌, Option, None, Some, IfSome, refl, subst}
use Rattle.std.specs.List.{All, list_any}
use Rattle.std.proofs.lemmas.Bool.{false≢true, eqb-true}
use Rattle.std.proofs.lemmas.List.Elements.{All-head, All-tail}
use Rattle.job_types.specs.declared.job.Side.{Side}
use Rattle.job_types.specs.declared.job.ZoneLine.{ZoneLine}
use Rattle.job_types.specs.Axes.{first_owner}
use Rattle.job_types.specs.Job.{JobView}
use Rattle.job_types.specs.SoundJob.{IsCarriedBy, IsSoundZone}
use Rattle.job_types.specs.Zones.{has_axis, is_carrier}

carried_side : {X : Type 0} (P : X → Type 0) (test : X → Bool) (xs : List X) → All P xs → list_any test xs ≡ true → (x : X) × P x × (test x ≡ true)
carried_side P test [] all some = absurd (false≢true some)
carried_side {X = X} P test (x ∷ xs) all some = by_test (test x) refl some (carried_side P test xs (All-tail P x xs all))
  where
    by_test : (b : Bool) → test x ≡ b → (b || list_any test xs) ≡ true → (list_any test xs ≡ true → (y : X) × P y × (test y ≡ true)) → (y : X) × P y × (test y ≡ true)
    by_test true is some rest = (x, All-head P x xs all, is)
    by_test false is some rest = rest some

-- an axis that carries a zone is one of the job, and its holder's
pub carrier_there : (job : JobView) (zone : ZoneLine) → IsSoundZone job zone → (axis : ℕ) → has_axis zone axis ≡ true
    → (axis < length job.axes) × (first_owner job axis ≡ zone.holder)
unfolding has_axis
carrier_there job zone sound axis has = by_side (carried_side (IsCarriedBy job zone.holder) (λ side. is_carrier axis side.carrier) zone.sides sound.carried has)
  where
    by_carrier : (o : Option (ℕ × Bool)) → IfSome o (λ carrier. (carrier.0 < length job.axes) × (first_owner job carrier.0 ≡ zone.holder)) → is_carrier axis o ≡ true
        → (axis < length job.axes) × (first_owner job axis ≡ zone.holder)
    by_carrier None owned is = absurd (false≢true is)
    by_carrier (Some carrier) owned is = subst (λ a. (a < length job.axes) × (first_owner job a ≡ zone.holder)) (eqb-true carrier.0 axis is) owned

    by_side : (side : Side) × IsCarriedBy job zone.holder side × (is_carrier axis side.carrier ≡ true) → (axis < length job.axes) × (first_owner job axis ≡ zone.holder)
    by_side (side, owned, is) = by_carrier side.carrier owned is

pub carrier_owned : (job : JobView) (zone : ZoneLine) → IsSoundZone job zone → (axis : ℕ) → has_axis zone axis ≡ true → first_owner job axis ≡ zone.holder
carrier_owned job zone sound axis has = (carrier_there job zone sound axis has).1
