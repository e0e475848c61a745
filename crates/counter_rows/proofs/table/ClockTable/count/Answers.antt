use Rattle.std.proofs.Common.{◌≡◌, ◌^◌, ◌<◌, length, rules, arith}
use Rattle.std.specs.Vec.{vec_len}
use Rattle.counter_rows.proofs.TableLaws.{place_below}
use Rattle.counter_rows.proofs.table.ClockTable.count.Goals as goal

pub overflow_add-places : goal.overflow_add-places
overflow_add-places c =
    let low : c.args.step < length c.self.inside.steps.items = search rules in
    let at = place_below c.self.inside.steps.items c.self.inside.rows.items c.args.step c.args.channel c.index-places.result.now c.self.invariant low c.index-places.ensures in
    let e = c.from.ensures in
    let few : length c.self.inside.rows.items < 2 ^ 64 = search rules in
    omega arith

pub index-requires : goal.index-requires
index-requires c =
    let low : c.args.step < length c.self.inside.steps.items = search rules in
    let at = place_below c.self.inside.steps.items c.self.inside.rows.items c.args.step c.args.channel c.index-places.result.now c.self.invariant low c.index-places.ensures in
    let e = c.from.ensures in
    let same : vec_len c.self.inside.rows ≡ length c.self.inside.rows.items = search rules in
    omega arith

pub index-requires-else-go : goal.index-requires-else-go
index-requires-else-go c =
    let low : c.args.step < length c.self.inside.steps.items = search rules in
    let at = place_below c.self.inside.steps.items c.self.inside.rows.items c.args.step c.args.channel c.index-places.result.now c.self.invariant low c.index-places.ensures in
    let same : vec_len c.self.inside.rows ≡ length c.self.inside.rows.items = search rules in
    omega arith
