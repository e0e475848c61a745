-- A number that is too large is no length.
use Rattle.std.proofs.Common.{◌≡◌, ℕ, zero, suc, ◌+◌, ◌*◌, ◌/◌, ◌<◌, ◌≤◌, ◌^◌, ℤ, pos, negsuc, neg_ℤ, unsigned_abs, nat_le, false, Result, Err, Option, Some, None, MatchOption, refl, sym, rules, arith}
use Rattle.std.specs.Option.{option_and_then}
use Rattle.micro_units.specs.declared.NumFault.{NumFault}
use Rattle.micro_units.specs.declared.NumFault.TheVariants.{NotANumber}
use Rattle.micro_units.specs.Num.{FitsNum, GivesNum}
use Rattle.micro_units.specs.Rounding.{half_away}
use Rattle.job_lines.specs.Length.{in_reach}

above : (n : ℕ) → ¬ (n < 10 ^ 14) → 10 ^ 14 ≤ n
above n not_below = omega arith

far : (n : ℕ) → 10 ^ 14 ≤ n → 10000000 < (2 * n + 1000) / (2 * 1000)
far n large = omega arith

not_near : (n : ℕ) → 10000000 < n → nat_le n 10000000 ≡ false
not_near n far = search (rules, far)

abs_neg : (n : ℕ) → unsigned_abs (neg_ℤ (pos n)) ≡ n
abs_neg zero = refl
abs_neg (suc n) = refl

out_of_reach : (z : ℤ) (n : ℕ) → unsigned_abs z ≡ n → 10000000 < n → in_reach z ≡ None
unfolding in_reach
out_of_reach z n size large = rw (size, not_near n large) refl

far_off : (millionths : ℤ) → ¬ (FitsNum millionths) → in_reach (half_away millionths 1000) ≡ None
unfolding half_away
far_off (pos n) large = out_of_reach (pos ((2 * n + 1000) / 2000)) ((2 * n + 1000) / 2000) refl (far n (above n large))
far_off (negsuc n) large = out_of_reach (neg_ℤ (pos ((2 * suc n + 1000) / 2000))) ((2 * suc n + 1000) / 2000) (abs_neg ((2 * suc n + 1000) / 2000)) (far (suc n) (above (suc n) large))

pub none_from_fault : (found : Option ℤ) (answer : Result ℤ NumFault) (fault : NumFault) → answer ≡ Err fault
    → MatchOption found (answer ≡ Err NotANumber) (λ value. GivesNum value answer)
    → None ≡ option_and_then (λ millionths. in_reach (half_away millionths 1000)) found
none_from_fault None answer fault failed given = refl
none_from_fault (Some value) answer fault failed given = sym (far_off value ((rw failed at given).1))
