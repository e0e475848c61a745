use Rattle.std.proofs.Common.{◌∙◌, ap, subst}
use Rattle.channel_machine.specs.Kept.{StateView, IsAfterGrant, state_view}
use Rattle.channel_machine.proofs.Resuming.{goes_on_with}
use Rattle.channel_machine.proofs.local.Local.resume.Goals as goal

pub returns-clause-kept : goal.returns-clause-kept
returns-clause-kept c s c' keeps =
    goes_on_with s c' c.args.self.now (state_view c.resume.new.self) c.args.grant.now keeps
    (subst (λ (k : StateView). IsAfterGrant k c.args.grant.now (state_view c.resume.new.self)) (ap state_view c.deref_mut.ensures.value ∙ c.self.view_is) c.resume.ensures)
