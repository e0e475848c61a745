-- What is said of YES names the zones by what is told of them.
use Rattle.std.proofs.Common.{◌≡◌, ◌∙◌, ℕ, List, [], ◌++◌, ap, subst}
use Rattle.explain.specs.Explained.{IsHeaded}
use Rattle.explain_texts.specs.Headlines.{yes_line}
use Rattle.explain.specs.Room.{IsYesText}
use Rattle.job_types.specs.Job.{JobView}
use Rattle.zone_stretches.specs.Overlaps.{Pair}
use Rattle.sync_types.specs.Views.{RunView}
use Rattle.explain_pairs.specs.declared.pairs.ZonePair.{ZonePair}

pub yes_headed : (input : List ℕ) (job : JobView) (run : RunView) (pairs : List Pair) (one other told : List ZonePair) (empty front text : List ℕ)
    → empty ≡ [] → front ≡ empty ++ yes_line one → one ≡ told → other ≡ told → IsHeaded front (IsYesText input job run other pairs) text
    → IsHeaded (yes_line told) (IsYesText input job run told pairs) text
yes_headed input job run pairs one other told empty front text none said first same headed = record {
  body = headed.body;
  is = subst (λ (rows : List ZonePair). IsYesText input job run rows pairs headed.body) same headed.is;
  whole = headed.whole ∙ ap (λ (xs : List ℕ). xs ++ headed.body) (said ∙ ap (λ (xs : List ℕ). xs ++ yes_line one) none ∙ ap yes_line first);
}
