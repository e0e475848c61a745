use Rattle.std.proofs.Common.{◌∙◌, ℕ, List, ◌++◌, Option, ap, map, sym}
use Rattle.std.proofs.lemmas.List.{append-nil}
use Rattle.order_clocks.specs.Watching.{wait_shown}
use Rattle.explain_stops.specs.Rows.{rows_of_wait, wait_row}
use Rattle.explain_stops.specs.declared.lacks.Lack.{Lack}
use Rattle.sync_types.specs.Boards.{Hold}
use Rattle.explain_stops.proofs.rows.push_wait.Goals as goal

pub returns-in_ok-push_rows-in-Some : goal.returns-in_ok-push_rows-in-Some
unfolding rows_of_wait
returns-in_ok-push_rows-in-Some c b shown =
    c.in_ok-push_rows-in-Some.ensures
    ∙ ap (λ (lacks : List Lack). c.args.list.now.items ++ map (wait_row c.args.told.now.job.now c.args.told.now.run.now c.args.channel c.in-Some.held.line) lacks)
    (c.as_slice.ensures.value ∙ c.in_ok-lacks-in-Some.ensures b shown)
    ∙ ap (λ (wait : Option (Hold × ℕ)). c.args.list.now.items ++ rows_of_wait c.args.told.now.job.now c.args.told.now.run.now b c.args.channel wait)
    (sym (ap wait_shown c.in-Some.is) ∙ c.hold_of-held.ensures b shown)

pub returns-in-None : goal.returns-in-None
unfolding rows_of_wait
returns-in-None c b shown =
    sym (append-nil c.args.list.now.items)
    ∙ ap (λ (wait : Option (Hold × ℕ)). c.args.list.now.items ++ rows_of_wait c.args.told.now.job.now c.args.told.now.run.now b c.args.channel wait)
    (sym (ap wait_shown c.in-None.is) ∙ c.hold_of-held.ensures b shown)
