-- What is kept of each channel, and of a channel of which nothing is.
use Rattle.std.proofs.Common.{◌≡◌, ◌≢◌, ℕ, ◌<◌, ◌==◌, false, List, [], ◌∷◌, length, get_or, Option, Some, None, IfSome, refl, sym, subst, ◌∙◌, eq-eqb, get_or-set_other, get_or-set_same}
use Rattle.std.proofs.Math.ListN.{set, length-set}
use Rattle.axis_sets.specs.declared.limits.TheConstants.{CHANNEL_PLACES}
use Rattle.channel_machine.specs.Kept.{StateView}
use Rattle.channel_machine.specs.Locals.{IsKeptOf, IsReady}
use Rattle.job_types.specs.Job.{JobView}
use Rattle.sync_types.proofs.BoardTests.{no_truth}

pub none_kept : (job : JobView) (d : ℕ) (local : Option StateView) → local ≡ None → IsKeptOf job d [] local
none_kept job d local is = subst (IsKeptOf job d []) (sym is) tt

pub none_ready : (job : JobView) (d : ℕ) (local : Option StateView) → local ≡ None → IfSome local (IsReady job d)
none_ready job d local is = let P : Option StateView → Type 0 = λ o. IfSome o (IsReady job d) in subst P (sym is) tt

-- what is kept of each channel, with that of one put in its place
pub record IsPut (locals : List (Option StateView)) (c : ℕ) (kept : StateView) (later : List (Option StateView)) : Type 0 where
  pub places : length later ≡ CHANNEL_PLACES
  pub here : get_or later c None ≡ Some kept
  pub others : (d : ℕ) → (d == c) ≡ false → get_or later d None ≡ get_or locals d None

pub put : (locals : List (Option StateView)) (place c : ℕ) (mid : Option StateView) (kept : StateView) → place ≡ c → length locals ≡ CHANNEL_PLACES → c < CHANNEL_PLACES
    → IsPut locals c kept (set (set locals place mid) place (Some kept))
put locals place c mid kept at places below =
    let P : ℕ → Type 0 = λ p. IsPut locals c kept (set (set locals p mid) p (Some kept)) in
    subst P (sym at) (record {
      places = length-set (set locals c mid) c (Some kept) ∙ length-set locals c mid ∙ places;
      here = let room : c < length (set locals c mid) = subst (λ (n : ℕ). c < n) (sym (length-set locals c mid ∙ places)) below in rw get_or-set_same refl;
      others = λ d other. let ne : d ≢ c = λ same. no_truth (d == c) (eq-eqb d c same) other in rw (get_or-set_other, get_or-set_other) refl;
    })
