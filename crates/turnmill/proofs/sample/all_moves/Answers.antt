-- The motions of a row are at most its items.
use Rattle.std.proofs.Common.{◌≡◌, ◌≤◌, length, get_or, ap, arith}
use Rattle.std.proofs.lemmas.List.Sums.{sum_by_more_le}
use Rattle.turnmill.proofs.sample.all_moves.Goals as goal

pub overflow_add-count : goal.overflow_add-count
overflow_add-count c =
    let all = sum_by_more_le (λ items. length items.items) c.args.rows.now c.loop-items.items-index c.items-item.result c.loop-items-test.true in
    let few : c.moves_of-count.result ≤ length c.items-item.result.items = rw c.deref.ensures.value at c.moves_of-count.ensures.few in
    let row : length c.items-item.result.items ≡ length (get_or c.args.rows.now c.loop-items.items-index c.items-item.result).items
    = ap (λ items. length items.items) c.items-item.is in
    omega (arith, all, few, row, c.loop-items.invariant.few, c.requires)
