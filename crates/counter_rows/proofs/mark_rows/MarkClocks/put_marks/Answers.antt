use Rattle.std.proofs.Common.{◌≡◌, ℕ, ◌<◌, ◌==◌, ◌&&◌, List, [], length, slice_index_or, rules, ap, ◌∙◌, if◌then◌else◌}
use Rattle.std.proofs.lemmas.List.{get_or_default}
use Rattle.axis_sets.specs.Sets.{has}
use Rattle.axis_sets.specs.declared.limits.TheConstants.{MARK_LIMIT}
use Rattle.counter_rows.specs.MarkClocks.{row_in}
use Rattle.counter_rows.proofs.WalkLaws.{IsWithout, done_step, left_member, low_step, member_below, still_step}
use Rattle.counter_rows.proofs.mark_rows.MarkClocks.put_marks.Goals as goal

pub loop-turn-preserved : goal.loop-turn-preserved
loop-turn-preserved c =
    let i = c.loop-turn.invariant in
    let rest = c.loop-turn.rest in
    let next = c.without-rest.result in
    let mark = c.in-Some.mark in
    let lowest = c.in-Some.ensures.lowest in
    let at : c.from.result ≡ mark = c.from.ensures in
    let without : IsWithout next rest mark = c.without-rest.ensures.members in
    let below : mark < length c.loop-turn.self-inside.rows.items = rw i.size (member_below rest MARK_LIMIT mark c.in-Some.ensures.size lowest.is_member) in
    let read = rw at at c.index_mut.ensures.value in
    let before : c.index_mut.result.now ≡ slice_index_or c.args.self.now mark [] = read ∙ (get_or_default c.loop-turn.self-inside.rows.items mark c.index_mut.result.now [] below ∙ i.still mark lowest.is_member) in
    record {
      size = search rules;
      sized = λ more. c.without-rest.ensures.size;
      low = low_step rest next mark c.loop-turn._turn without lowest i.low;
      named = λ m here. i.named m (left_member rest next mark m without here);
      done = λ m d gone. rw at (done_step (λ n x. (e : ℕ) → slice_index_or x e [] ≡ (if has c.args.marks.now n && (e == c.args.channel) then c.args.row else row_in c.args.self.now n e)) rest next mark c.loop-turn.self-inside.rows.items c.put_at.new.rows below without
          (λ e. rw (i.named mark lowest.is_member) (c.put_at.ensures.rows e ∙ ap (λ (r : List (List ℕ)). if e == c.args.channel then c.args.row else slice_index_or r e []) before))
          (λ n off e. i.done n e off) m gone d);
      still = rw at (still_step rest next mark c.loop-turn.self-inside.rows.items c.args.self.now c.put_at.new.rows without i.still);
    }
