use Rattle.std.proofs.Common.{sym}
use Rattle.counter_rows.proofs.TableLaws.{kept_in, whole_still}
use Rattle.counter_rows.proofs.table.ClockTable.push.Goals as goal

pub invariant_of-self : goal.invariant_of-self
invariant_of-self c = whole_still c.self.inside.steps.items c.self.inside.rows.items c.push_rows.new.list.items c.self.invariant c.push_rows.ensures.more

pub returns-clause-kept : goal.returns-clause-kept
returns-clause-kept c = λ ok.
    rw c.in_ok-push.ensures.items (kept_in c.args.self.now c.self.inside.steps.items c.self.inside.rows.items c.push_rows.new.list.items c.in_ok-places.places (sym c.self.view_is) c.self.invariant c.in_ok-places.ensures.kept)
