use Rattle.std.proofs.Common.{[], refl, sym, ◌∙◌}
use Rattle.std.proofs.lemmas.Bool.{true≢false}
use Rattle.order_clocks.proofs.StepLaws.{closed_shows}
use Rattle.order_clocks.proofs.times.LastClocks.close.Goals as goal

pub returns-then-is_nobody-clause-rows : goal.returns-then-is_nobody-clause-rows
returns-then-is_nobody-clause-rows c = λ run i s is shows d x here. absurd (true≢false (sym here ∙ c.is_nobody.ensures.0 c.if-is_nobody.true d))

pub returns-then-is_nobody-clause-shows : goal.returns-then-is_nobody-clause-shows
returns-then-is_nobody-clause-shows c = λ run i s is shows.
    let off = c.is_nobody.ensures.0 c.if-is_nobody.true in
    closed_shows run i s c.args.deed.now c.args.self.now c.args.self.now [] [] is shows
    (λ d. sym (off d))
    (λ d x here. absurd (true≢false (sym here ∙ off d)))
    (λ d. refl)
    (λ k. refl)
