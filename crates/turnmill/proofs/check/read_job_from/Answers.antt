-- A piece more, and too many bytes.
use Rattle.std.proofs.Common.{◌∙◌, ◌++◌, List, ℕ, take, subst, rules, arith}
use Rattle.std.proofs.lemmas.Grind.{common_steps}
use Rattle.std.proofs.lemmas.List.{take-append-le, length-take}
use Rattle.edge_io.specs.Moves.{Loses}
use Rattle.tape_job.specs.Input.{HasTaken}
use Rattle.turnmill.proofs.CheckLemmas.{TakesTooMany-lost}
use Rattle.turnmill.proofs.ReadLemmas.{more_given, reads_job}
use Rattle.turnmill.proofs.check.read_job_from.Goals as goal

pub loop-given-preserved : goal.loop-given-preserved
loop-given-preserved g c =
    let gives = more_given c.loop-given.reader c.feed.new.self c.loop-given.given c.in_ok-taken.taken _ _ _ c.read.new.buffer c.loop-given.invariant.gives c.in_ok-taken.ensures.within
    c.in_ok-taken.ensures.bytes.0
    (λ (bytes : List ℕ) (taken : HasTaken c.loop-given.reader bytes). subst (λ (xs : List ℕ). HasTaken c.feed.new.self (bytes ++ xs))
    (take-append-le c.in_ok-taken.taken c.read.new.buffer _ c.in_ok-taken.ensures.within) (c.feed.ensures.taken bytes taken)) in
    record {
      few = first_of (search rules, grind (arith, common_steps), omega (arith, length-take {A = ℕ}, c.in_ok-taken.ensures.within, c.read.auto.buffer, c.min-room.ensures));
      number = gives.taken.number ∙ gives.is;
      gives = gives;
      faults = search rules;
      readable = search rules;
    }

pub returns-then-taken-eq0-clause-exact : goal.returns-then-taken-eq0-clause-exact
returns-then-taken-eq0-clause-exact g c =
    let mid = g.S.Source.left c.loop-given.source in
    let new = g.S.Source.left c.read.new.self in
    let buffer = c.read.new.buffer in
    let still : Loses mid new (take 0 buffer) = subst (λ (n : ℕ). Loses mid new (take n buffer)) c.if-taken-eq0.true c.in_ok-taken.ensures.bytes.0 in
    reads_job c.read_whole.result c.loop-given.reader c.loop-given.given (g.S.Source.left c.args.source.now) mid new buffer
    (g.S.Source.faults c.args.source.now) (g.S.Source.faults c.read.new.self)
    (c.in_ok-taken.ensures.cause ∙ c.loop-given.invariant.faults) c.loop-given.invariant.gives c.loop-given-test.true (c.in_ok-taken.ensures.bytes.1 c.if-taken-eq0.true) still
    c.read_whole.ensures.exact c.read_whole.ensures.memory

pub returns-clause-exact : goal.returns-clause-exact
returns-clause-exact g c =
    let gives = c.loop-given.invariant.gives in
    let number = gives.is in
    (c.loop-given.invariant.faults, TakesTooMany-lost _ _ gives.bytes (omega (arith, number)) gives.lost)
