use Rattle.std.proofs.Common.{ℕ, ap, ◌∙◌}
use Rattle.counter_rows.specs.Rows.{count_of}
use Rattle.order_clocks.proofs.PlaceLaws.{last_more}
use Rattle.order_clocks.proofs.places.LastTouches.note.Goals as goal

pub returns : goal.returns
returns c = λ run tracks i is tracked are last.
    last_more run tracks i c.args.deed.now c.args.rows.now c.args.self.now c.note_act.new.self c.note_goes.new.self c.at.result is tracked are last (c.at.ensures.count ∙ ap (λ (d : ℕ). count_of c.args.rows.now.act d) c.actor-c.ensures.channel) c.note_act.ensures c.note_goes.ensures
