use Rattle.std.proofs.Common.{◌≡◌, ℕ, max, List, [], slice_index_or, arith, sym, ap, ◌∙◌}
use Rattle.axis_sets.specs.declared.limits.TheConstants.{MARK_LIMIT}
use Rattle.counter_rows.specs.MarkClocks.{row_in}
use Rattle.counter_rows.specs.Rows.{count_of}
use Rattle.counter_rows.proofs.WalkLaws.{IsWithout, low_step, most_all, most_step, none_left}
use Rattle.counter_rows.proofs.mark_rows.MarkClocks.most_of_marks.Goals as goal

pub loop-turn-preserved : goal.loop-turn-preserved
loop-turn-preserved c =
    let i = c.loop-turn.invariant in
    let rest = c.loop-turn.rest in
    let next = c.without-rest.result in
    let mark = c.in-Some.mark in
    let lowest = c.in-Some.ensures.lowest in
    let at : c.from.result ≡ mark = c.from.ensures in
    let without : IsWithout next rest mark = c.without-rest.ensures.members in
    let read : c.at_channel.result ≡ row_in c.args.self.now mark c.args.channel =
    c.at_channel.ensures ∙ ap (λ (rs : List (List ℕ)). slice_index_or rs c.args.channel []) (c.row.ensures ∙ ap (λ (n : ℕ). slice_index_or c.args.self.now n []) at) in
    record {
      sized = λ more. c.without-rest.ensures.size;
      low = low_step rest next mark c.loop-turn._turn without lowest i.low;
      most = λ x. most_step (λ m. count_of (row_in c.args.self.now m c.args.channel) x) rest next mark (count_of c.loop-turn.row x) (count_of c.most-row.result x) _ (c.without-rest.ensures.size ∙ sym c.in-Some.ensures.size) lowest.is_member without
          (c.most-row.ensures.counts x ∙ ap (λ (r : List ℕ). max (count_of c.loop-turn.row x) (count_of r x)) read)
          (i.most x);
    }

pub returns : goal.returns
returns c =
    let i = c.loop-turn.invariant in
    let low = c.loop-turn-test.false in
    record {
      counts = λ x. most_all (λ m. count_of (row_in c.args.self.now m c.args.channel) x) c.loop-turn.rest (count_of c.loop-turn.row x) _ (none_left c.loop-turn.rest MARK_LIMIT c.loop-turn._turn (i.sized (omega arith)) (omega arith) i.low) (i.most x);
    }
