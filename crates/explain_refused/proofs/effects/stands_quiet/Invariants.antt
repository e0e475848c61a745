-- The words that are left stand quiet at this depth where all do, and no more are open than there were words.
use Rattle.std.proofs.Common.{◌≡◌, ◌≤◌, drop}
use Rattle.explain_refused.specs.Effects.{stands_quiet}
use Rattle.explain_refused.proofs.effects.stands_quiet.Given as goal

abbrev pub invariant-loop-word : goal.invariant-loop-word
invariant-loop-word l = record {
  few : l.depth ≤ l.word-index;
  same : stands_quiet l.depth (drop l.word-index l.words) ≡ stands_quiet 0 l.fn.words;
}
