use Rattle.std.proofs.Common.{◌≡◌, ℕ, length, get_or, None}
use Rattle.channel_machine.proofs.locals.no_locals.Given as goal

abbrev pub invariant-loop : goal.invariant-loop
invariant-loop l = (length l.locals.items ≡ l.counter) × ((c : ℕ) → get_or l.locals.items c None ≡ None)
