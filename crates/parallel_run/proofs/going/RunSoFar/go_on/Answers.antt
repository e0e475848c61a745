use Rattle.std.proofs.Common.{◌≡◌, List, map, ap, sym, subst, ◌∙◌}
use Rattle.channel_machine.proofs.RunsSoFar.{board_after}
use Rattle.channel_machine.specs.Scripts.{IsMaximalRunOf}
use Rattle.coord_core.proofs.Granted.{is_granted, lowest_runs}
use Rattle.coord_core.specs.Boards.{replayed}
use Rattle.parallel_run.proofs.GoneOn.{goes_itself, maximal, run_so_far, turn_goes_on, turned}
use Rattle.parallel_run.proofs.going.RunSoFar.go_on.Goals as goal
use Rattle.sync_types.specs.BoardEnds.{ends_of}
use Rattle.sync_types.specs.Boards.{Board, first_board}
use Rattle.sync_types.specs.Runs.{lowest_running}
use Rattle.sync_types.specs.Turns.{after_entries}
use Rattle.sync_types.specs.Views.{EntryView, StartView}
use Rattle.sync_types.specs.declared.ChannelEnd.{ChannelEnd}
use Rattle.sync_types.specs.declared.Item.{Item}

pub turns-init : goal.turns-init
turns-init g c = record {
  ready = c.requires.ready;
  start = c.requires.start;
  goes_on = goes_itself c.args.start.now c.args.self.board.entries;
  run = run_so_far c.args.job.now c.args.start.now c.args.self.board.entries (map (λ items. items.items) c.args.self.items.items) c.args.self.locals.items c.requires.ready c.requires.made;
}

pub unreachable-requires : goal.unreachable-requires
unreachable-requires g c =
    let b : Board = replayed c.turns.run.board in
    is_granted (b.state c.in-Some-lowest_running.channel) (lowest_runs b c.in-Some-lowest_running.channel (sym c.lowest_running.ensures ∙ c.in-Some-lowest_running.is)) (sym c.grant_of.ensures ∙ c.in_default-grant_of.is)

pub turns-preserved : goal.turns-preserved
turns-preserved g c =
    let rows : List (List Item) = map (λ items. items.items) c.turns.run.items.items in
    let later : List (List Item) = map (λ items. items.items) c.turn.new.self.items.items in
    let one = turned c.args.job.now c.args.start.now c.in-Some-lowest_running.channel c.in-Some-grant_of.grant c.turns.run.board c.turn.new.self.board rows later c.turns.run.locals.items c.turn.new.self.locals.items
    c.turns.invariant.start c.turns.invariant.run (sym c.grant_of.ensures ∙ c.in-Some-grant_of.is) c.in_ok-turn.ensures.turn c.in_ok-turn.ensures.ready in
    record {
      ready = c.in_ok-turn.ensures.ready;
      start = one.0;
      goes_on = turn_goes_on c.args.job.now c.args.start.now c.in-Some-lowest_running.channel c.in-Some-grant_of.grant c.args.self.board.entries c.turns.run.board c.turn.new.self.board rows later c.turns.run.locals.items c.turn.new.self.locals.items
          c.turns.invariant.start (sym c.lowest_running.ensures ∙ c.in-Some-lowest_running.is) c.turns.invariant.goes_on c.in_ok-turn.ensures.turn;
      run = one.1;
    }

pub returns-in_default-clause-maximal : goal.returns-in_default-clause-maximal
returns-in_default-clause-maximal g c =
    let es : List EntryView = c.turns.run.board.entries in
    let start : StartView = c.args.start.now in
    let rows : List (List Item) = map (λ items. items.items) c.turns.run.items.items in
    let same : replayed c.turns.run.board ≡ board_after start es = ap (λ (s : StartView). after_entries (first_board s) es) c.turns.invariant.start in
    let whole = maximal c.args.job.now start es rows c.turns.run.locals.items c.turns.invariant.run (ap lowest_running (sym same) ∙ sym c.lowest_running.ensures ∙ c.in_default.is) in
    let by_ends : List ChannelEnd → Type 0 = λ xs. IsMaximalRunOf c.args.job.now start (record { entries = es; items = rows; ends = xs }) in
    let by_items : List (List Item) → Type 0 = λ xs. IsMaximalRunOf c.args.job.now start (record { entries = es; items = xs; ends = c.whole.result.ends }) in
    let by_entries : List EntryView → Type 0 = λ xs. IsMaximalRunOf c.args.job.now start (record { entries = xs; items = c.whole.result.items; ends = c.whole.result.ends }) in
    subst by_entries (sym c.whole.ensures.entries)
    (subst by_items (sym c.whole.ensures.items)
    (subst by_ends (sym (c.whole.ensures.ends ∙ c.ends_of-ends.ensures ∙ ap ends_of same)) whole))
