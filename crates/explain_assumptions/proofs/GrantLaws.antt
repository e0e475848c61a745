-- A channel that makes no step of a run has no grants, and nothing is remarked on it.
use Rattle.std.proofs.Common.{◌≡◌, ◌∙◌, ℕ, zero, suc, ◌+◌, ◌==◌, ◌||◌, Bool, true, false, List, [], ◌∷◌, ◌++◌, length, unwrap_or, Option, None, Some, refl, sym, ap, subst}
use Rattle.std.specs.List.{flat_map, list_any, range_with_len, slice_get}
use Rattle.channel_machine.specs.RunGrants.{grants_at, grants_before, grants_of}
use Rattle.channel_machine.specs.StartStates.{start_of}
use Rattle.job_types.specs.Job.{JobView}
use Rattle.sync_types.specs.Views.{EntryView, RunView, StartView}
use Rattle.explain_assumptions.specs.Assumptions.{does_act}
use Rattle.explain_assumptions.specs.Remarks.{remarks_in_run, remarks_with}

-- the first element does not pass the test, nor does any other
first_fails : {A : Type 0} (p : A → Bool) (y : A) (ys : List A) (t : Bool) → p y ≡ t → list_any p (y ∷ ys) ≡ false → p y ≡ false
first_fails p y ys true passes none = let bad : true ≡ false = sym (ap (λ (b : Bool). b || list_any p ys) passes) ∙ none in absurd cc
first_fails p y ys false fails none = fails

rest_fail : {A : Type 0} (p : A → Bool) (y : A) (ys : List A) → p y ≡ false → list_any p (y ∷ ys) ≡ false → list_any p ys ≡ false
rest_fail p y ys fails none = sym (ap (λ (b : Bool). b || list_any p ys) fails) ∙ none

not_here : {A : Type 0} (p : A → Bool) (xs : List A) (k : ℕ) (x : A) → list_any p xs ≡ false → slice_get xs k ≡ Some x → p x ≡ false
not_here p [] k x none is = absurd cc
not_here p (y ∷ ys) zero x none is = subst (λ (z : _). p z ≡ false) (ap (λ (o : Option _). unwrap_or o y) is) (first_fails p y ys (p y) refl none)
not_here p (y ∷ ys) (suc k) x none is = not_here p ys k x (rest_fail p y ys (first_fails p y ys (p y) refl none) none) is

-- nothing is given for any number
all_empty : {B : Type 0} (f : ℕ → List B) (n start : ℕ) → ((k : ℕ) → f k ≡ []) → flat_map f (range_with_len start n) ≡ []
all_empty f zero start none = refl
all_empty f (suc n) start none = ap (λ (ys : List _). ys ++ flat_map f (range_with_len (start + 1) n)) (none start) ∙ all_empty f n (start + 1) none

silent : (start : StartView) (entries : List EntryView) (c : ℕ) → does_act c entries ≡ false → grants_of start entries c ≡ []
unfolding grants_before
silent start entries c none = all_empty (grants_at start entries c) (length entries) 0 (λ k. at k (slice_get entries k) refl)
  where
    at : (k : ℕ) (o : Option EntryView) → slice_get entries k ≡ o → grants_at start entries c k ≡ []
    at k None is = rw is refl
    at k (Some entry) is = rw is (rw (not_here (λ (e : EntryView). e.channel == c) entries k entry none is) refl)

pub nothing_remarked : (job : JobView) (run : RunView) (c : ℕ) → does_act c run.entries ≡ false → [] ≡ remarks_in_run job run c
unfolding remarks_with
nothing_remarked job run c none = sym (ap (remarks_with job c) (silent (start_of job) run.entries c none))
