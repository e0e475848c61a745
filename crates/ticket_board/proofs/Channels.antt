-- The channels of a start: each stands once, and they are few.
use Rattle.axis_sets.specs.declared.limits.TheConstants.{CHANNEL_LIMIT}
use Rattle.std.proofs.Common.{Bool, List, ap, arith, eq-eqb, false, filter, length, ne_eqb, refl, suc, true, zero, ℕ, ◌≡◌, ◌+◌, ◌<◌, ◌≤◌, ◌==◌, [], ◌∷◌, if◌then◌else◌}
use Rattle.std.specs.List.{range_with_len}
use Rattle.sync_types.specs.Boards.{channel_numbers}
use Rattle.sync_types.specs.Starts.{has_channel}
use Rattle.sync_types.specs.Views.{StartView}
use Rattle.ticket_board.specs.Passes.{channels_of}
use Rattle.ticket_board.specs.Rule.{one_if, total}
use mathlib.Core.Logic.{dite}
use native.Mathlib.Decide.{ℕ_discrete}

fewer : (b : Bool) (x : ℕ) (xs : List ℕ) → length (if b then x ∷ xs else xs) ≤ length xs + 1
fewer true x xs = omega arith
fewer false x xs = omega arith

few_of : (P : ℕ → Bool) (xs : List ℕ) → length (filter P xs) ≤ length xs
few_of P [] = omega arith
few_of P (x ∷ xs) = let a = fewer (P x) x (filter P xs) in let b = few_of P xs in omega (arith, a, b)

pub few_channels : (start : StartView) → length (channels_of start) < 18446744073709551616
few_channels start = let a = few_of (has_channel start) channel_numbers in let b : length channel_numbers ≡ CHANNEL_LIMIT = refl in omega (arith, a, b)

less : (f : ℕ → ℕ) (b : Bool) (x : ℕ) (xs : List ℕ) → total f (if b then x ∷ xs else xs) ≤ f x + total f xs
less f true x xs = omega arith
less f false x xs = omega arith

less_of : (f : ℕ → ℕ) (P : ℕ → Bool) (xs : List ℕ) → total f (filter P xs) ≤ total f xs
less_of f P [] = omega arith
less_of f P (x ∷ xs) = let a = less f (P x) x (filter P xs) in let b = less_of f P xs in omega (arith, a, b)

none_below : (n k c : ℕ) → c < n → total (λ (x : ℕ). one_if (x == c)) (range_with_len n k) ≡ 0
none_below n zero c below = refl
none_below n (suc k) c below = let a : one_if (n == c) ≡ 0 = ap one_if (ne_eqb n c (λ e. absurd (omega (arith, e, below)))) in let b = none_below (n + 1) k c (omega (arith, below)) in omega (arith, a, b)

once_from : (n k c : ℕ) → total (λ (x : ℕ). one_if (x == c)) (range_with_len n k) ≤ 1
once_from n zero c = omega arith
once_from n (suc k) c = dite (ℕ_discrete n c)
    (λ here. let a : one_if (n == c) ≡ 1 = ap one_if (eq-eqb n c here) in let b = none_below (n + 1) k c (omega (arith, here)) in omega (arith, a, b))
    (λ other. let a : one_if (n == c) ≡ 0 = ap one_if (ne_eqb n c other) in let b = once_from (n + 1) k c in omega (arith, a, b))

pub each_once : (start : StartView) (c : ℕ) → total (λ (x : ℕ). one_if (x == c)) (channels_of start) ≤ 1
each_once start c = let a = less_of (λ (x : ℕ). one_if (x == c)) (has_channel start) channel_numbers in let b = once_from 1 CHANNEL_LIMIT c in omega (arith, a, b)
