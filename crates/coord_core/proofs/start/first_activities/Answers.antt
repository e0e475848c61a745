use Rattle.std.proofs.Common.{◌≡◌, ℕ, ◌==◌, Bool, false, List, [], Option, sym, ap, ◌∙◌, arith}
use Rattle.coord_core.specs.Tables.{activity_at}
use Rattle.std.proofs.Common.{if◌then◌else◌}
use Rattle.std.specs.Prelude.{find}
use Rattle.std.specs.Option.{option_map_or}
use Rattle.std.specs.List.{list_any}
use Rattle.std.proofs.lemmas.Bool.{ne_eqb}
use Rattle.coord_core.proofs.Rules.{written_above}
use Rattle.coord_core.proofs.Starting.{started_more, rested_more, activities_at_first}
use Rattle.sync_types.specs.Starts.{runs_at_first}
use Rattle.coord_core.proofs.start.first_activities.Goals.{then-runs_at_first, else-runs_at_first}
use Rattle.coord_core.proofs.start.first_activities.Goals as goal

runs : (c : goal.Joined-runs_at_first) → runs_at_first c.args.table.now.start c.loop-number.number ≡ c.runs_at_first.result
runs c = ap (λ (lines : List (ℕ × Option ℕ × Bool)). option_map_or (λ line. line.2) (find (λ line. line.0 == c.loop-number.number) lines) false) c.requires.lines ∙ sym c.runs_at_first.ensures

pub loop-number-preserved : goal.loop-number-preserved
loop-number-preserved c = elim c.if-runs_at_first.branch [
  | then-runs_at_first w ↦ rw w.channels-is (
    started_more c.args.table.now [] c.loop-number.channels w.set_activity.new.channels c.loop-number.number w.running.result w.start_grant-grant.result (c.requires.rest []) (runs c ∙ w.if-runs_at_first.true)
        w.running.ensures (w.start_grant-grant.ensures []) w.set_activity.ensures c.loop-number.invariant.0,
    written_above [] c.loop-number.channels w.set_activity.new.channels c.loop-number.number w.running.result w.set_activity.ensures c.loop-number.invariant.1,
    w.set_activity.ensures 0 ∙ ap (λ (b : Bool). if b then w.running.result else activity_at c.loop-number.channels 0) (ne_eqb 0 c.loop-number.number (λ e. omega (arith, c.loop-number.auto.number))) ∙ c.loop-number.invariant.2,
  )
  | else-runs_at_first w ↦ rw w.channels-is (
    rested_more c.args.table.now c.loop-number.channels c.loop-number.number (runs c ∙ w.if-runs_at_first.false) (c.loop-number.invariant.1 c.loop-number.number (omega arith)) c.loop-number.invariant.0,
    λ x from. c.loop-number.invariant.1 x (omega arith),
    c.loop-number.invariant.2,
  )
]

pub returns : goal.returns
returns c =
    activities_at_first c.args.table.now.start c.loop-number.channels c.channels_of-known.result c.loop-number.number (omega arith) c.loop-number.invariant.0 c.loop-number.invariant.1 c.loop-number.invariant.2
    (λ d. c.channels_of-known.ensures.members d ∙ ap (λ (lines : List (ℕ × Option ℕ × Bool)). list_any (λ line. line.0 == d) lines) (sym c.requires.lines)) c.channels_of-known.ensures.none c.channels_of-known.ensures.size
