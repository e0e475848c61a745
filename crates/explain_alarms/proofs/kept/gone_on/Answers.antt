use Rattle.std.proofs.Common.{◌++◌, [], ◌∷◌, Some, sym, subst}
use Rattle.channel_machine.specs.Kept.{KeptSegment}
use Rattle.channel_machine.specs.Locals.{IsKeptOf}
use Rattle.explain_alarms.proofs.kept.gone_on.Goals as goal

pub returns-clause-kept : goal.returns-clause-kept
returns-clause-kept c = λ made is.
    let told = c.in_ok-traced.ensures.told made is in
    record {
      local = subst (λ (k : KeptSegment). IsKeptOf c.args.job.now c.args.channel (made ++ c.args.grant.now ∷ []) (Some k.after)) (sym c.segment.view_is) told.segment.after;
      levels = told.levels;
    }
