use Rattle.sync_types.proofs.Replays.{run_is_replay, entries_are_replay, maximal_runs_come_from}
use Rattle.sync_types.proofs.laws.runs_are_replays.Goals as goal

pub returns-clause-steps : goal.returns-clause-steps
returns-clause-steps c = run_is_replay

pub returns-clause-entries : goal.returns-clause-entries
returns-clause-entries c = entries_are_replay

pub returns-clause-whole : goal.returns-clause-whole
returns-clause-whole c = maximal_runs_come_from
