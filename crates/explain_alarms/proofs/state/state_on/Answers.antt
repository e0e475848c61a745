use Rattle.std.proofs.Common.{◌∙◌, Some, ap}
use Rattle.explain_alarms.proofs.BlockLaws.{place_within}
use Rattle.explain_alarms.specs.Calls.{calls_at}
use Rattle.explain_alarms.proofs.state.state_on.Goals as goal

pub state_at-requires-clause-there : goal.state_at-requires-clause-there
state_at-requires-clause-there c = place_within c.args.line c.args.job.now.programs c.in-Some.number c.in-Some.pc c.in-Some.ensures.0

pub returns-in-Some-local : goal.returns-in-Some-local
returns-in-Some-local c = λ lawful.
    let kept = c.in_ok-kept.ensures lawful in
    let told = c.in_ok-state-in-Some-local.ensures in
    record {
      place = Some (c.in-Some.number, c.in-Some.pc);
      is_place = c.in-Some.ensures;
      state_at = record {
        kept = c.in-Some-local.local;
        after = rw c.in-Some-local.is at kept.local;
        readings = told.readings;
        calls = told.calls ∙ ap (calls_at c.args.job.now.programs) kept.levels;
      };
    }
