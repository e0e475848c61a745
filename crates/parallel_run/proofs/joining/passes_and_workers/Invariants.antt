use Rattle.std.proofs.Common.{◌≡◌, ◌++◌, map, Ok}
use Rattle.parallel_run.proofs.joining.passes_and_workers.Given as goal

abbrev pub invariant-loop-pass : goal.invariant-loop-pass
invariant-loop-pass g l = record {
  passes : l.passes.items ++ map (λ one. one.0) l.pass-iterator.rest.items ≡ map (λ one. one.0) l.fn.back.items;
  workers : map (λ worked. Ok worked) l.workers.items ++ map (λ one. one.1) l.pass-iterator.rest.items ≡ map (λ one. one.1) l.fn.back.items;
}
