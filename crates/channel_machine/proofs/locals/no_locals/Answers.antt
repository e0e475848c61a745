use Rattle.std.proofs.Common.{◌≡◌, ℕ, zero, suc, List, [], ◌∷◌, ◌++◌, length, get_or, Option, None, refl, ap, arith}
use Rattle.std.proofs.lemmas.List.{length_push}
use Rattle.channel_machine.proofs.locals.no_locals.Goals as goal

none_more : {A : Type 0} (xs : List (Option A)) (c : ℕ) → ((d : ℕ) → get_or xs d None ≡ None) → get_or (xs ++ None ∷ []) c None ≡ None
none_more [] zero none = refl
none_more [] (suc c) none = refl
none_more (x ∷ xs) zero none = none 0
none_more (x ∷ xs) (suc c) none = none_more xs c (λ d. none (suc d))

pub loop-preserved : goal.loop-preserved
loop-preserved c =
    let one = length_push c.loop.locals.items None in
    let long = ap length c.in_ok-push.ensures.items in
    (omega (arith, one, long, c.loop.invariant.0), λ d. rw c.in_ok-push.ensures.items (none_more c.loop.locals.items d c.loop.invariant.1))
