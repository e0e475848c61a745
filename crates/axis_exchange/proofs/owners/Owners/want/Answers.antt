use Rattle.std.proofs.Common.{◌≡◌, ℕ, sym, ap, ◌∙◌}
use Rattle.std.proofs.Math.Path.{fun_ext}
use Rattle.std.specs.List.{list_all}
use Rattle.axis_exchange.proofs.OwnerSteps.{from_nobody}
use Rattle.axis_exchange.proofs.owners.Owners.want.Goals as goal
use Rattle.axis_exchange.specs.Owners.{axis_state}
use Rattle.axis_sets.specs.Sets.{members_of}

pub returns : goal.returns
returns c =
    c.want_from.ensures
    ∙ ap (λ (test : ℕ → _). list_all test (members_of c.args.axes)) (fun_ext (λ x. from_nobody (axis_state c.args.self.now x) c.args.channel c.empty.result (c.empty.ensures.members)))
