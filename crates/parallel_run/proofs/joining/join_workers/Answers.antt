use Rattle.std.proofs.Common.{ℕ, List, ap, ap₂, sym, subst, ◌∙◌}
use Rattle.job_types.specs.Job.{JobView}
use Rattle.parallel_run.proofs.Assembly.{begun, made_by_script, nobody_made, ready_parts}
use Rattle.parallel_run.proofs.joining.join_workers.Goals as goal
use Rattle.parallel_run.specs.Joining.{AreReady, IsMadeByScript, LeavesOf, PartsView, dealt, rows_at}
use Rattle.sync_types.specs.Boards.{first_board}
use Rattle.sync_types.specs.Turns.{AreEntries}
use Rattle.sync_types.specs.Views.{EntryView, StartView}
use Rattle.sync_types.specs.declared.Item.{Item}

pub go_on-requires-clause-ready : goal.go_on-requires-clause-ready
go_on-requires-clause-ready g c =
    let job : JobView = c.args.job.now in
    let start : StartView = c.args.start.now in
    let es : List EntryView = c.args.board.entries in
    let parts : PartsView = c.in_ok-parts.parts in
    let lawful : AreEntries (first_board start) es =
    subst (λ (s : StartView). AreEntries (first_board s) es) c.requires.start c.entries.ensures.lawful in
    let leaves : (k : ℕ) → LeavesOf job start es k parts = c.in_ok-parts.ensures.leaves job start es c.requires.made (λ k off. nobody_made job start es k lawful (c.requires.all k off)) in
    subst (AreReady job) (ap (λ (p : PartsView). p.locals) (sym c.parts.view_is)) (ready_parts job start es lawful parts leaves c.in_ok-parts.ensures.places)

pub go_on-requires-clause-made : goal.go_on-requires-clause-made
go_on-requires-clause-made g c =
    let job : JobView = c.args.job.now in
    let start : StartView = c.args.start.now in
    let es : List EntryView = c.args.board.entries in
    let parts : PartsView = c.in_ok-parts.parts in
    let lawful : AreEntries (first_board start) es =
    subst (λ (s : StartView). AreEntries (first_board s) es) c.requires.start c.entries.ensures.lawful in
    let leaves : (k : ℕ) → LeavesOf job start es k parts = c.in_ok-parts.ensures.leaves job start es c.requires.made (λ k off. nobody_made job start es k lawful (c.requires.all k off)) in
    let rows = c.in_ok-items.ensures ∙ ap₂ (λ (r : List (List (List Item))) (xs : List EntryView). dealt (rows_at r) xs) (ap (λ (p : PartsView). p.rows) c.parts.view_is) c.entries.ensures.all in
    subst (λ (xs : List (List Item)). IsMadeByScript job start es xs c.parts.inside.locals.items) (sym rows)
    (subst (λ (p : PartsView). IsMadeByScript job start es (dealt (rows_at parts.rows) es) p.locals) (sym c.parts.view_is) (made_by_script job start es lawful parts leaves))

pub returns-clause-begun : goal.returns-clause-begun
returns-clause-begun g c =
    let job : JobView = c.args.job.now in
    let start : StartView = c.args.start.now in
    let es : List EntryView = c.args.board.entries in
    let parts : PartsView = c.in_ok-parts.parts in
    let lawful : AreEntries (first_board start) es =
    subst (λ (s : StartView). AreEntries (first_board s) es) c.requires.start c.entries.ensures.lawful in
    let leaves : (k : ℕ) → LeavesOf job start es k parts = c.in_ok-parts.ensures.leaves job start es c.requires.made (λ k off. nobody_made job start es k lawful (c.requires.all k off)) in
    begun job start es lawful parts leaves c.go_on.result c.go_on.ensures.goes_on
