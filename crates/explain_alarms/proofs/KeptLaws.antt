-- What is kept of a channel that has made no segment, and after one grant more.
use Rattle.std.proofs.Common.{◌≡◌, ◌∙◌, ap, ℕ, ◌+◌, ◌<◌, List, [], ◌∷◌, ◌++◌, get_or, length, take, None, sym, subst, arith}
use Rattle.std.proofs.lemmas.List.{take_all, take_more}
use Rattle.channel_machine.specs.CallLevels.{alarmed_levels}
use Rattle.channel_machine.specs.Locals.{IsKeptOf}
use Rattle.job_types.specs.Job.{JobView}
use Rattle.sync_types.specs.declared.Grant.{Grant}
use Rattle.explain_alarms.specs.KeptChannels.{IsKept}
use Rattle.explain_alarms.specs.declared.kept.Kept.{Kept}

pub first_kept : (job : JobView) (c : ℕ) (kept : Kept) → kept.local ≡ None → kept.levels ≡ None → IsKept job c [] kept
unfolding alarmed_levels
first_kept job c kept local levels = record { local = subst (IsKeptOf job c []) (sym local) tt; levels = levels }

pub next_kept : (job : JobView) (c : ℕ) (grants : List Grant) (i : ℕ) (x : Grant) (after : Kept) → i < length grants → x ≡ get_or grants i x → IsKept job c (take i grants ++ x ∷ []) after
    → IsKept job c (take (i + 1) grants) after
next_kept job c grants i x after within here is =
    subst (λ (gs : List Grant). IsKept job c gs after) (sym (take_more grants i x within ∙ ap (λ (y : Grant). take i grants ++ y ∷ []) (sym here))) is

pub last_kept : (job : JobView) (c : ℕ) (grants : List Grant) (i : ℕ) (after : Kept) → i ≡ length grants → IsKept job c (take i grants) after → IsKept job c grants after
last_kept job c grants i after all is = subst (λ (gs : List Grant). IsKept job c gs after) (take_all i grants (omega (arith, all))) is
