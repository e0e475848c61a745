-- The stack as the code holds it.
use Rattle.std.proofs.Common.{◌≡◌, ℕ, ◌+◌, ◌<◌, cond, true, false, List, [], ◌∷◌, ◌++◌, length, get_or, take, refl, ap, sym, ◌∙◌, Option, Some, None, MatchOption}
use Rattle.std.specs.Prelude.{map}
use Rattle.std.specs.Option.{option_to_list}
use Rattle.std.proofs.lemmas.List.{map-append, reverse-append, take_more}
use Rattle.nc_expressions.specs.declared.stack.Held.{Held}
use Rattle.nc_expressions.specs.Machine.{depth, is_parenthesis}
use Rattle.nc_expressions.specs.Stack.{pending_of, stack_of, Pops}

pub stack_push : (xs : List Held) (x : Held) → stack_of (xs ++ (x ∷ [])) ≡ pending_of x ∷ stack_of xs
unfolding stack_of
stack_push xs x = rw map-append (reverse-append (map pending_of xs) (pending_of x ∷ []))

pub stack_nil : stack_of [] ≡ []
unfolding stack_of
stack_nil = refl

none_left : (xs : List Held) → length xs ≡ 0 → stack_of xs ≡ []
none_left [] h = stack_nil
none_left (x ∷ xs) h = cc

pub pops : (old new : List Held) (r : Option Held) {m n : ℕ} → old ≡ new ++ option_to_list r →
    MatchOption r ((m ≡ 0) × (n ≡ 0)) (λ _. n + 1 ≡ m) → length old ≡ m → length new ≡ n → Pops (stack_of old) r (stack_of new)
pops old new None items cases m n = (none_left old (m ∙ cases.0), none_left new (n ∙ cases.1))
pops old new (Some x) items cases m n = ap stack_of items ∙ stack_push new x

pub depth_more : (xs : List Held) (i : ℕ) (x : Held) → i < length xs → x ≡ get_or xs i x →
    depth (stack_of (take (i + 1) xs)) ≡ cond (is_parenthesis (pending_of x)) (depth (stack_of (take i xs)) + 1) (depth (stack_of (take i xs)))
depth_more xs i x h is =
    let e : take (i + 1) xs ≡ take i xs ++ (x ∷ []) = take_more xs i x h ∙ ap (λ (y : Held). take i xs ++ (y ∷ [])) (sym is) in
    ap depth (ap stack_of e ∙ stack_push (take i xs) x)

-- the same in the two cases of the code
pub depth_open : (xs : List Held) (i : ℕ) (x : Held) → i < length xs → x ≡ get_or xs i x → is_parenthesis (pending_of x) ≡ true →
    depth (stack_of (take (i + 1) xs)) ≡ depth (stack_of (take i xs)) + 1
depth_open xs i x h is yes' = rw (depth_more xs i x h is, yes') refl

pub depth_other : (xs : List Held) (i : ℕ) (x : Held) → i < length xs → x ≡ get_or xs i x → is_parenthesis (pending_of x) ≡ false →
    depth (stack_of (take (i + 1) xs)) ≡ depth (stack_of (take i xs))
depth_other xs i x h is no' = rw (depth_more xs i x h is, no') refl

pub ruleset depths = (stack_nil, depth_open, depth_other)
