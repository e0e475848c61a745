use Rattle.std.proofs.Common.{◌≡◌, ◌∙◌, ℕ, length, sym, ap, ap₂, arith}
use Rattle.coord_core.proofs.Granted.{granted_runs}
use Rattle.coord_core.specs.Boards.{replayed}
use Rattle.sync_types.specs.Boards.{Board, first_board}
use Rattle.sync_types.specs.Turns.{after_entries}
use Rattle.channel_machine.specs.RunGrants.{grants_before}
use Rattle.channel_machine.proofs.GrantLaws.{no_grants, next_grants, next_board, has_grant}
use Rattle.channel_machine.proofs.run_grants.grants_in.Goals as goal

pub returns-in_default : goal.returns-in_default
returns-in_default c = λ lawful. absurd (
    has_grant c.args.start.now c.args.entries.now c.loop-entry.entry-index c.entry-item.result (replayed c.loop-entry.board) c.channel-acting.result lawful c.loop-entry-test.true c.entry-item.is
    c.channel-acting.ensures c.loop-entry.invariant.board (sym c.grant_of.ensures ∙ c.in_default.is)
    )

pub act-requires : goal.act-requires
act-requires c =
    let b : Board = replayed c.loop-entry.board in
    record { runs = granted_runs (b.state c.channel-acting.result) c.in-Some.grant (sym c.grant_of.ensures ∙ c.in-Some.is) }

pub loop-entry-init : goal.loop-entry-init
loop-entry-init c = record {
  board = ap₂ (λ start entries. after_entries (first_board start) entries) c.in_ok-board.ensures.start c.in_ok-board.ensures.entries;
  grants = c.new-grants.ensures.items ∙ no_grants c.args.start.now c.args.entries.now c.args.channel;
}

pub loop-entry-preserved : goal.loop-entry-preserved
loop-entry-preserved c = record {
  board =
      next_board c.args.start.now c.args.entries.now c.args.channel c.loop-entry.entry-index c.entry-item.result c.loop-entry-test.true c.entry-item.is c.loop-entry.board c.act.new.self
      c.channel-acting.result c.step.result.now c.channel-acting.ensures c.step.ensures c.loop-entry.invariant.board c.in_ok-act.ensures.ok;
  grants =
      next_grants c.args.start.now c.args.entries.now c.args.channel c.loop-entry.entry-index c.entry-item.result c.loop-entry-test.true c.entry-item.is (replayed c.loop-entry.board)
      c.channel-acting.result c.in-Some.grant c.loop-entry.grants.items c.push_own.new.grants.items c.channel-acting.ensures c.loop-entry.invariant.board (sym c.grant_of.ensures ∙ c.in-Some.is)
      c.loop-entry.invariant.grants c.in_ok-push_own.ensures;
}

pub returns : goal.returns
returns c = λ lawful.
    let all : c.loop-entry.entry-index ≡ length c.args.entries.now = omega arith in
    c.loop-entry.invariant.grants ∙ ap (grants_before c.args.start.now c.args.entries.now c.args.channel) all
