-- Runs of the machine over what is left of a line.
use Rattle.std.proofs.Common.{◌≡◌, ℕ, ◌+◌, ◌<◌, ◌≤◌, List, [], ◌∷◌, length, get_or, drop, refl, ap, sym, ◌∙◌, Ok, Err, Result, ◌-◌, arith}
use Rattle.std.proofs.lemmas.List.{drop_more, drop_all, length-drop}
use Rattle.nc_expressions.specs.declared.symbols.Symbol.{Symbol}
use Rattle.nc_expressions.specs.declared.levels.Level.TheVariants.{Plain}
use Rattle.nc_expressions.specs.declared.trees.Expr.{Expr}
use Rattle.nc_expressions.specs.declared.faults.SyntaxFault.{SyntaxFault}
use Rattle.nc_expressions.specs.declared.faults.SyntaxFault.TheVariants.{Refused, NoMemory}
use Rattle.nc_expressions.specs.Limits.{all_limits}
use Rattle.nc_expressions.specs.Parsing.{Reads, reading_with_place, expr_at, GivesExpr}
use Rattle.nc_expressions.specs.Tree.{Tree, tree_of}
use Rattle.nc_expressions.specs.Machine.{State, Wants, Next, On, Ends, Refuse, step, finish, at_last, go_on, run, read}
use Rattle.nc_expressions.proofs.Stacks.{stack_nil}
use Rattle.nc_expressions.proofs.Beginnings.{length-symbols_of}

one_step : (ss : List Symbol) (at : ℕ) (s : Symbol) (state : State) → at < length ss → s ≡ get_or ss at s →
    run all_limits (drop at ss) state ≡ go_on (step all_limits state s) (drop at ss) (run all_limits (drop (at + 1) ss))
unfolding run
one_step ss at s state h is =
    let e : drop at ss ≡ s ∷ drop (at + 1) ss = drop_more ss at s h ∙ ap (λ (x : Symbol). x ∷ drop (at + 1) ss) (sym is) in
    rw e refl

pub run_on : (ss : List Symbol) (at : ℕ) (s : Symbol) (state next : State) → at < length ss → s ≡ get_or ss at s → step all_limits state s ≡ On next →
    run all_limits (drop at ss) state ≡ run all_limits (drop (at + 1) ss) next
run_on ss at s state next h is e = one_step ss at s state h is ∙ ap (λ (n : Next). go_on n (drop at ss) (run all_limits (drop (at + 1) ss))) e

pub run_ends : (ss : List Symbol) (at : ℕ) (s : Symbol) (state : State) (t : Tree) → at < length ss → s ≡ get_or ss at s → step all_limits state s ≡ Ends t →
    run all_limits (drop at ss) state ≡ Ok (t, drop at ss)
run_ends ss at s state t h is e = one_step ss at s state h is ∙ ap (λ (n : Next). go_on n (drop at ss) (run all_limits (drop (at + 1) ss))) e

pub run_refused : (ss : List Symbol) (at : ℕ) (s : Symbol) (state : State) (code : ℕ) → at < length ss → s ≡ get_or ss at s → step all_limits state s ≡ Refuse code →
    run all_limits (drop at ss) state ≡ Err code
run_refused ss at s state code h is e = one_step ss at s state h is ∙ ap (λ (n : Next). go_on n (drop at ss) (run all_limits (drop (at + 1) ss))) e

run_past : (ss : List Symbol) (at : ℕ) (state : State) → length ss ≤ at → run all_limits (drop at ss) state ≡ at_last (finish state)
unfolding run
run_past ss at state h = let e : drop at ss ≡ [] = drop_all at ss h in rw e refl

pub past_ends : (ss : List Symbol) (at : ℕ) (state : State) (t : Tree) → length ss ≤ at → finish state ≡ Ends t → run all_limits (drop at ss) state ≡ Ok (t, drop at ss)
past_ends ss at state t h e =
    run_past ss at state h ∙ ap at_last e ∙ ap (λ (rest : List Symbol). Ok (t, rest)) (sym (drop_all at ss h))

pub past_on : (ss : List Symbol) (at : ℕ) (state next : State) → length ss ≤ at → finish state ≡ On next → run all_limits (drop at ss) state ≡ Err 22
past_on ss at state next h e = run_past ss at state h ∙ ap at_last e

pub past_refused : (ss : List Symbol) (at : ℕ) (state : State) (code : ℕ) → length ss ≤ at → finish state ≡ Refuse code → run all_limits (drop at ss) state ≡ Err code
past_refused ss at state code h e = run_past ss at state h ∙ ap at_last e

pub run_first : (ss : List Symbol) → run all_limits ss (Wants [] Plain) ≡ read all_limits ss
unfolding read
run_first ss = refl

pub ruleset run_steps = (run_on, run_ends, run_refused, past_ends, past_on, past_refused, run_first, stack_nil, length-symbols_of)

pub gives_read : (symbols : List Symbol) (start : ℕ) (r : Result (Expr × ℕ) SyntaxFault) → Reads symbols (read all_limits (drop start symbols)) r → GivesExpr (expr_at symbols start) r
unfolding expr_at
gives_read symbols start (Ok p) h =
    let e : length symbols - length (drop p.1 symbols) ≡ p.1 = omega (arith, length-drop p.1 symbols, h.0) in
    ap (reading_with_place (length symbols)) h.1 ∙ ap (λ (k : ℕ). Ok (tree_of p.0, k)) e
gives_read symbols start (Err (Refused code)) h = ap (reading_with_place (length symbols)) h
gives_read symbols start (Err NoMemory) h = tt
