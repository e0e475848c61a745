use Rattle.std.proofs.Common.{◌≡◌, ◌≤◌, ◌+◌, ℕ}
use Rattle.std.specs.Prelude.{slice_index}
use Rattle.clash_check.specs.Shown.{next_shown}
use Rattle.clash_check.proofs.shown.fill.Given as goal

abbrev pub invariant-loop-done : goal.invariant-loop-done
invariant-loop-done l = (place : ℕ) → l.last ≤ place + l.done → place ≤ l.last → slice_index l.next place ≡ next_shown l.stretches place
