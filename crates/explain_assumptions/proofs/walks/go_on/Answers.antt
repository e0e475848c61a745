use Rattle.channel_machine.proofs.Segments.{if_ok, setting_kept}
use Rattle.channel_machine.specs.Run.{channel_after_grant}
use Rattle.explain_assumptions.proofs.WalkLaws.{walked_grant}
use Rattle.explain_assumptions.proofs.walks.go_on.Goals as goal

pub returns-clause-told : goal.returns-clause-told
returns-clause-told c =
    if_ok c.walk.result (λ _. λ told. λ s. λ c'. λ set. λ w.
    told s (channel_after_grant c' c.args.grant.now) (setting_kept c.args.job.now s c.args.local.now c.resume.new.self set c.resume.ensures.channel)
    (walked_grant s c' c.args.grant.now c.args.local.now c.resume.new.self c.args.remarks.now.items w (c.resume.ensures.kept s c' w.keeps))) c.walk.ensures.told
