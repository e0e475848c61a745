use Rattle.std.proofs.Common.{◌≡◌, ◌∙◌, ◌+◌, [], sym, ap, refl, length, rules}
use Rattle.zone_stretches.proofs.TimedLaws.{two_more, no_second, no_third, next_two}
use Rattle.zone_stretches.proofs.timed_zones.TimedPairsIterator.next.Goals as goal

pub returns-in-Some-at-clause-steps : goal.returns-in-Some-at-clause-steps
returns-in-Some-at-clause-steps c =
    sym c.self.view_is ∙ two_more c.self.inside.zones.now c.self.inside.left c.self.inside.right (c.self.inside.right + 1) c.in-Some.left c.in-Some-at.right refl
    (sym c.at.ensures.zone ∙ c.in-Some.is) (sym c.at-in-Some.ensures.zone ∙ c.in-Some-at.is)

pub returns-in-Some-at-clause-goes : goal.returns-in-Some-at-clause-goes
returns-in-Some-at-clause-goes c = let e = ap length (returns-in-Some-at-clause-steps c) in search (rules, e)

pub returns-in-None-at-2-clause-steps : goal.returns-in-None-at-2-clause-steps
returns-in-None-at-2-clause-steps c =
    let none : c.args.self.now ≡ [] =
    sym c.self.view_is ∙ no_second c.self.inside.zones.now c.self.inside.left c.self.inside.right (c.self.inside.left + 1) c.in-Some.left refl
    (sym c.at.ensures.zone ∙ c.in-Some.is) (sym c.at-in-Some.ensures.zone ∙ c.in-None-at.is) (sym c.at-in-None-at.ensures.zone ∙ c.in-None-at-2.is) in
    (none, none)

pub returns-in-None-at-3-clause-steps : goal.returns-in-None-at-3-clause-steps
returns-in-None-at-3-clause-steps c =
    let none : c.args.self.now ≡ [] =
    sym c.self.view_is ∙ no_third c.self.inside.zones.now c.self.inside.left c.self.inside.right (c.self.inside.left + 1) (c.self.inside.left + 2) c.in-Some.left c.in-Some-at-2.next refl refl
    (sym c.at.ensures.zone ∙ c.in-Some.is) (sym c.at-in-Some.ensures.zone ∙ c.in-None-at.is) (sym c.at-in-None-at.ensures.zone ∙ c.in-Some-at-2.is)
    (sym c.at-in-Some-at-2.ensures.zone ∙ c.in-None-at-3.is) in
    (none, none)

pub returns-in-Some-at-3-clause-steps : goal.returns-in-Some-at-3-clause-steps
returns-in-Some-at-3-clause-steps c =
    sym c.self.view_is ∙ next_two c.self.inside.zones.now c.self.inside.left c.self.inside.right (c.self.inside.left + 1) (c.self.inside.left + 2) (c.self.inside.left + 1 + 2)
    c.in-Some.left c.in-Some-at-2.next c.in-Some-at-3.right refl refl refl
    (sym c.at.ensures.zone ∙ c.in-Some.is) (sym c.at-in-Some.ensures.zone ∙ c.in-None-at.is) (sym c.at-in-None-at.ensures.zone ∙ c.in-Some-at-2.is)
    (sym c.at-in-Some-at-2.ensures.zone ∙ c.in-Some-at-3.is)

pub returns-in-Some-at-3-clause-goes : goal.returns-in-Some-at-3-clause-goes
returns-in-Some-at-3-clause-goes c = let e = ap length (returns-in-Some-at-3-clause-steps c) in search (rules, e)
