use Rattle.std.proofs.Common.{Bool, refl, ap}
use Rattle.channel_machine.specs.Levels.{stood}
use Rattle.channel_machine.proofs.Going.{begins, at_main, fits_head, fits_tail, fewer, below_comes, below_ends}
use Rattle.channel_machine.proofs.levels.past_end.Goals as goal

pub loop-number-init : goal.loop-number-init
loop-number-init c = record { fits = c.requires; same = refl }

pub returns-then-next_pass : goal.returns-then-next_pass
returns-then-next_pass c =
    begins c.args.skip c.args.job.now.programs c.loop-number.number c.loop-number.passes _ c.next_pass.ensures c.loop-number.levels.returns c.next_pass.new.here _
    (ap (λ (b : Bool). stood b c.next_pass.new.here) c.if-next_pass.true) c.loop-number.invariant.same

pub go_after-requires : goal.go_after-requires
go_after-requires c = fits_head c.args.skip c.args.job.now.programs c.loop-number.levels.returns c.ret.new.self c.in-Some.caller c.in-Some.ensures c.loop-number.invariant.fits

pub returns-then-go_after : goal.returns-then-go_after
returns-then-go_after c =
    below_comes c.args.skip c.args.job.now.programs c.loop-number.number c.loop-number.passes _ c.next_pass.ensures c.loop-number.levels.returns c.ret.new.self c.in-Some.caller c.go_after.new.here
    (ap (λ (b : Bool). stood b c.next_pass.new.here) c.if-next_pass.false) c.in-Some.ensures c.go_after.result _ c.if-go_after.true c.go_after.ensures c.loop-number.invariant.same

pub loop-number-smaller : goal.loop-number-smaller
loop-number-smaller c = fewer c.args.skip c.args.job.now.programs c.loop-number.levels.returns c.ret.new.self c.in-Some.caller c.in-Some.ensures

pub loop-number-preserved : goal.loop-number-preserved
loop-number-preserved c = record {
  fits = fits_tail c.args.skip c.args.job.now.programs c.loop-number.levels.returns c.ret.new.self c.in-Some.caller c.in-Some.ensures c.loop-number.invariant.fits;
  same = below_ends c.args.skip c.args.job.now.programs c.loop-number.number c.loop-number.passes _ c.next_pass.ensures c.loop-number.levels.returns c.ret.new.self c.in-Some.caller c.go_after.new.here
      (ap (λ (b : Bool). stood b c.next_pass.new.here) c.if-next_pass.false) c.in-Some.ensures c.go_after.result _ c.if-go_after.false c.go_after.ensures c.loop-number.invariant.same;
}

pub returns-in-None : goal.returns-in-None
returns-in-None c =
    at_main c.args.skip c.args.job.now.programs c.loop-number.number c.loop-number.passes _ c.next_pass.ensures c.loop-number.levels.returns c.ret.new.self _
    (ap (λ (b : Bool). stood b c.next_pass.new.here) c.if-next_pass.false) c.in-None.ensures c.loop-number.invariant.same
