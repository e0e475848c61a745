use Rattle.std.proofs.Common.{◌≡◌, true, List, [], ◌∷◌, ◌++◌, sym, ap, ◌∙◌, arith}
use Rattle.coord_core.specs.Tables.{board_in}
use Rattle.std.proofs.Common.{ap₂, subst, ◌-◌}
use Rattle.coord_core.proofs.Entering.{Entered, entered, entry_made, step_start}
use Rattle.coord_core.specs.Boards.{BoardView, replayed, with_step_reserved}
use Rattle.sync_types.proofs.EntryLaws.{entries_stay_together}
use Rattle.sync_types.specs.Boards.{Board, first_board, is_running}
use Rattle.sync_types.specs.Starts.{IsSound}
use Rattle.sync_types.specs.Togetherness.{AreTogether}
use Rattle.sync_types.specs.Turns.{after_entries, AreEntries}
use Rattle.sync_types.specs.Views.{StartView, EntryView}
use Rattle.coord_core.proofs.board.Board.act_reserved.Goals as goal

pub invariant_of-self : goal.invariant_of-self
invariant_of-self c =
    let start : StartView = c.self.inside.state.table.start in
    let same : c.step_on.new.self.table.start ≡ start = ap (λ (b : Board). b.start) c.step_on.ensures.board ∙ step_start (board_in c.self.inside.state.table c.self.inside.state.channels) c.args.channel c.args.step in
    let P : BoardView → Type 0 = λ v. is_running ((replayed v).state c.args.channel) ≡ true in
    let e : Entered start (board_in c.step_on.new.self.table c.step_on.new.self.channels) c.push.new.self.items =
    entered start (board_in c.self.inside.state.table c.self.inside.state.channels) (board_in c.step_on.new.self.table c.step_on.new.self.channels) c.self.inside.entries.items c.push.new.self.items c.args.channel c.args.step c.step_on.new.goes.items
    c.self.invariant.0 c.self.invariant.1 (subst P (sym c.self.view_is) c.requires.runs) c.step_on.ensures.board c.step_on.ensures.goes c.in-Ok.ensures.items in
    let Q : StartView → Type 0 = λ s. (board_in c.step_on.new.self.table c.step_on.new.self.channels) ≡ after_entries (first_board s) c.push.new.self.items in
    let L : StartView → Type 0 = λ s. AreEntries (first_board s) c.push.new.self.items in
    let S : StartView → Type 0 = λ s. IsSound s in (
      subst Q (sym same) e.board,
      subst L (sym same) e.lawful,
      c.step_on.ensures.kept,
      subst S (sym same) c.self.invariant.3,
      omega (arith, c.self.invariant.4, c.in-Ok.ensures.len, c.in-Ok.ensures.capacity, ap (λ (v : BoardView). v.spare) c.self.view_is, c.requires.room),
    )

pub returns-clause-step : goal.returns-clause-step
returns-clause-step c =
    let start : StartView = c.self.inside.state.table.start in
    let same : c.step_on.new.self.table.start ≡ start = ap (λ (b : Board). b.start) c.step_on.ensures.board ∙ step_start (board_in c.self.inside.state.table c.self.inside.state.channels) c.args.channel c.args.step in
    ap₂ (λ (s : StartView) (es : List EntryView). let v : BoardView = record { start = s; entries = es; spare = c.self.inside.spare - 1 } in v) same
    (c.in-Ok.ensures.items ∙ ap (λ (e : EntryView). c.self.inside.entries.items ++ e ∷ [])
    (entry_made start (board_in c.self.inside.state.table c.self.inside.state.channels) c.self.inside.entries.items c.args.channel c.args.step c.step_on.new.goes.items c.self.invariant.0 c.step_on.ensures.goes))
    ∙ ap (λ (v : BoardView). with_step_reserved v c.args.channel c.args.step) c.self.view_is

pub returns-clause-together : goal.returns-clause-together
returns-clause-together c =
    let start : StartView = c.self.inside.state.table.start in
    let same : c.step_on.new.self.table.start ≡ start = ap (λ (b : Board). b.start) c.step_on.ensures.board ∙ step_start (board_in c.self.inside.state.table c.self.inside.state.channels) c.args.channel c.args.step in
    let P : BoardView → Type 0 = λ v. is_running ((replayed v).state c.args.channel) ≡ true in
    let e : Entered start (board_in c.step_on.new.self.table c.step_on.new.self.channels) c.push.new.self.items =
    entered start (board_in c.self.inside.state.table c.self.inside.state.channels) (board_in c.step_on.new.self.table c.step_on.new.self.channels) c.self.inside.entries.items c.push.new.self.items c.args.channel c.args.step c.step_on.new.goes.items
    c.self.invariant.0 c.self.invariant.1 (subst P (sym c.self.view_is) c.requires.runs) c.step_on.ensures.board c.step_on.ensures.goes c.in-Ok.ensures.items in
    let W : StartView → Type 0 = λ s. AreTogether (after_entries (first_board s) c.push.new.self.items) in
    subst W (sym same) (entries_stay_together start c.push.new.self.items c.self.invariant.3 e.lawful)
