-- Where reading stops, step by step.
use Rattle.std.proofs.Common.{◌≡◌, ℕ, ◌+◌, ◌-◌, ◌<◌, ◌≤◌, List, [], ◌∷◌, length, get_or, drop, refl, ap, sym, ◌∙◌, arith}
use Rattle.std.proofs.lemmas.List.{drop_more, drop_all, length-drop}
use Rattle.nc_expressions.specs.declared.symbols.Symbol.{Symbol}
use Rattle.nc_expressions.specs.Tree.{Tree}
use Rattle.nc_expressions.specs.Limits.{all_limits}
use Rattle.nc_expressions.specs.Machine.{State, Next, On, Ends, Refuse, step}
use Rattle.nc_expressions.specs.Stops.{stop_here, not_taken, stop_from}
use Rattle.nc_expressions.proofs.Stacks.{stack_nil}
use Rattle.nc_expressions.proofs.Beginnings.{length-symbols_of}

one_step : (ss : List Symbol) (at : ℕ) (s : Symbol) (state : State) → at < length ss → s ≡ get_or ss at s →
    not_taken (drop at ss) state ≡ stop_here (step all_limits state s) (drop at ss) (not_taken (drop (at + 1) ss))
unfolding not_taken
one_step ss at s state h is =
    let e : drop at ss ≡ s ∷ drop (at + 1) ss = drop_more ss at s h ∙ ap (λ (x : Symbol). x ∷ drop (at + 1) ss) (sym is) in
    rw e refl

left_after : (ss : List Symbol) (at : ℕ) → at ≤ length ss → length ss - length (drop at ss) ≡ at
left_after ss at h = omega (arith, length-drop at ss)

pub stop_on : (ss : List Symbol) (at : ℕ) (s : Symbol) (state next : State) → at < length ss → s ≡ get_or ss at s → step all_limits state s ≡ On next →
    stop_from ss at state ≡ stop_from ss (at + 1) next
unfolding stop_from
stop_on ss at s state next h is e =
    ap (λ (l : List Symbol). length ss - length l)
    (one_step ss at s state h is ∙ ap (λ (n : Next). stop_here n (drop at ss) (not_taken (drop (at + 1) ss))) e)

pub stop_ends : (ss : List Symbol) (at : ℕ) (s : Symbol) (state : State) (t : Tree) → at < length ss → s ≡ get_or ss at s → step all_limits state s ≡ Ends t →
    stop_from ss at state ≡ at
unfolding stop_from
stop_ends ss at s state t h is e =
    ap (λ (l : List Symbol). length ss - length l)
    (one_step ss at s state h is ∙ ap (λ (n : Next). stop_here n (drop at ss) (not_taken (drop (at + 1) ss))) e)
    ∙ left_after ss at (omega arith)

pub stop_refused : (ss : List Symbol) (at : ℕ) (s : Symbol) (state : State) (code : ℕ) → at < length ss → s ≡ get_or ss at s → step all_limits state s ≡ Refuse code →
    stop_from ss at state ≡ at
unfolding stop_from
stop_refused ss at s state code h is e =
    ap (λ (l : List Symbol). length ss - length l)
    (one_step ss at s state h is ∙ ap (λ (n : Next). stop_here n (drop at ss) (not_taken (drop (at + 1) ss))) e)
    ∙ left_after ss at (omega arith)

pub stop_past : (ss : List Symbol) (at : ℕ) (state : State) → length ss ≤ at → at ≤ length ss → stop_from ss at state ≡ at
unfolding stop_from not_taken
stop_past ss at state past within = let e : drop at ss ≡ [] = drop_all at ss past in rw e (omega arith)

pub ruleset stops = (stop_on, stop_ends, stop_refused, stop_past, stack_nil, length-symbols_of)
