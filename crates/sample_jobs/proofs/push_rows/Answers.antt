use Rattle.std.proofs.Common.{◌≡◌, ◌∙◌, ℕ, ◌++◌, refl, ap, sym, append-nil, arith}
use Rattle.sample_jobs.specs.Samples.{rows}
use Rattle.sample_jobs.proofs.RowLemmas.{random-more, text-more}
use Rattle.sample_jobs.proofs.push_rows.Goals as goal

pub loop-index-init : goal.loop-index-init
unfolding rows
loop-index-init c = record { text = sym (append-nil c.args.bytes.now.items); room = omega arith; number = refl }

pub loop-index-preserved : goal.loop-index-preserved
loop-index-preserved c =
    let number = random-more c.args.seed c.loop-index.index _ _ c.loop-index.invariant.number c.next_random-random.ensures in
    record {
      text = text-more c.args.program c.args.seed c.loop-index.index _ c.args.bytes.now.items _ _ number c.loop-index.invariant.text c.in_ok-push_moves.ensures.text;
      room = omega (arith, c.loop-index.invariant.room, c.in_ok-push_moves.ensures.room);
      number = number;
    }

pub returns-clause-text : goal.returns-clause-text
returns-clause-text c =
    let all : c.loop-index.index ≡ 10000 = omega (arith, c.loop-index.auto.index-end, c.loop-index-test.false) in
    c.loop-index.invariant.text ∙ ap (λ (n : ℕ). c.args.bytes.now.items ++ rows c.args.program c.args.seed n) all

pub returns-clause-room : goal.returns-clause-room
returns-clause-room c =
    let all : c.loop-index.index ≡ 10000 = omega (arith, c.loop-index.auto.index-end, c.loop-index-test.false) in
    omega (arith, all, c.loop-index.invariant.room)
