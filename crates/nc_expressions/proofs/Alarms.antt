-- The answers of the number calls, as values or alarms.
use Rattle.std.proofs.Common.{◌≡◌, ◌≢◌, ℕ, ◌^◌, Bool, true, false, cond, refl, ap, sym, ◌∙◌, Ok, Err, Result, IfOk, T, subst, arith}
use Rattle.std.specs.Prelude.{ℤ, pos, negsuc, nat_lt, int_lt, ◌<ℤ◌, ◌≤ℤ◌}
use Rattle.std.specs.Ordering.{int_eq}
use Rattle.std.specs.Int.RustNames.{unsigned_abs}
use Rattle.std.proofs.lemmas.Bool.Decides.{Decides-ltb, Decides-int_eq}
use Rattle.micro_units.specs.declared.Num.{Num}
use Rattle.micro_units.specs.declared.NumFault.{NumFault}
use Rattle.micro_units.specs.declared.NumFault.TheVariants.{NotANumber, TooLarge, DivideByZero, NegativeRoot}
use Rattle.micro_units.specs.Num.{FitsNum, GivesNum, GivesQuotient, GivesRemainder, GivesRoot}
use Rattle.micro_units.specs.Arithmetic.{square_root}
use Rattle.nc_expressions.specs.Value.{in_range_or_alarm, quotient_or_alarm, root_or_alarm, number_or_alarm}

is_false : (b : Bool) → (b ≡ true → ⊥) → b ≡ false
is_false true h = absurd (h refl)
is_false false h = refl

choice : {A : Type 0} (b : Bool) (x y : A) → b ≡ true → cond b x y ≡ x
choice true x y h = refl
choice false x y h = cc

other_choice : {A : Type 0} (b : Bool) (x y : A) → b ≡ false → cond b x y ≡ y
other_choice true x y h = cc
other_choice false x y h = refl

in_range : (z : ℤ) → FitsNum z → in_range_or_alarm z ≡ Ok z
unfolding in_range_or_alarm
in_range z h = choice (nat_lt (unsigned_abs z) (10 ^ 14)) (Ok z) (Err 1) ((Decides-ltb (unsigned_abs z) (10 ^ 14)).1 h)

out_of_range : (z : ℤ) → ¬ (FitsNum z) → in_range_or_alarm z ≡ Err 1
unfolding in_range_or_alarm
out_of_range z h =
    let d = Decides-ltb (unsigned_abs z) (10 ^ 14) in
    other_choice (nat_lt (unsigned_abs z) (10 ^ 14)) (Ok z) (Err 1) (is_false (nat_lt (unsigned_abs z) (10 ^ 14)) (λ (t : nat_lt (unsigned_abs z) (10 ^ 14) ≡ true). h (d.0 t)))

by_zero : (d : ℤ) (v : Result ℤ ℕ) → d ≡ pos 0 → quotient_or_alarm d v ≡ Err 2
unfolding quotient_or_alarm
by_zero d v h = choice (int_eq d (pos 0)) (Err 2) v ((Decides-int_eq d (pos 0)).1 h)

by_other : (d : ℤ) (v : Result ℤ ℕ) → d ≢ pos 0 → quotient_or_alarm d v ≡ v
unfolding quotient_or_alarm
by_other d v h =
    let e = Decides-int_eq d (pos 0) in
    other_choice (int_eq d (pos 0)) (Err 2) v (is_false (int_eq d (pos 0)) (λ (t : int_eq d (pos 0) ≡ true). h (e.0 t)))

pub gives_num : (value : ℤ) (r : Result Num NumFault) → GivesNum value r → number_or_alarm r ≡ in_range_or_alarm value
gives_num value (Ok n) h = ap (λ (z : ℤ). Ok z) h.0 ∙ sym (in_range value h.1)
gives_num value (Err e) h = ap (λ (f : NumFault). number_or_alarm (Err f)) h.0 ∙ sym (out_of_range value h.1)

pub gives_quotient : (divisor value : ℤ) (r : Result Num NumFault) → GivesQuotient divisor value r → IfOk (number_or_alarm r) FitsNum →
    number_or_alarm r ≡ quotient_or_alarm divisor (in_range_or_alarm value)
gives_quotient d value (Ok n) h fits =
    let e : FitsNum value = subst FitsNum h.1 fits in
    ap (λ (z : ℤ). Ok z) h.1 ∙ sym (by_other d (in_range_or_alarm value) h.0 ∙ in_range value e)
gives_quotient d value (Err DivideByZero) h fits = sym (by_zero d (in_range_or_alarm value) h)
gives_quotient d value (Err TooLarge) h fits = sym (by_other d (in_range_or_alarm value) h.0 ∙ out_of_range value h.1)
gives_quotient d value (Err NotANumber) h fits = absurd h
gives_quotient d value (Err NegativeRoot) h fits = absurd h

pub gives_remainder : (divisor value : ℤ) (r : Result Num NumFault) → GivesRemainder divisor value r → number_or_alarm r ≡ quotient_or_alarm divisor (Ok value)
gives_remainder d value (Ok n) h = ap (λ (z : ℤ). Ok z) h.1 ∙ sym (by_other d (Ok value) h.0)
gives_remainder d value (Err e) h = ap (λ (f : NumFault). number_or_alarm (Err f)) h.0 ∙ sym (by_zero d (Ok value) h.1)

not_below : (z : ℤ) → pos 0 ≤ℤ z → int_lt z (pos 0) ≡ false
not_below (pos n) h = is_false (nat_lt n 0) (λ (t : nat_lt n 0 ≡ true). absurd (omega (arith, (Decides-ltb n 0).0 t)))
not_below (negsuc n) h = absurd h.le

passed : (b : Bool) → T b → b ≡ true
passed true t = refl
passed false t = absurd t

below : (z : ℤ) → z <ℤ pos 0 → int_lt z (pos 0) ≡ true
below z h = passed (int_lt z (pos 0)) h.lt

pub gives_root : (number : ℤ) (r : Result Num NumFault) → GivesRoot number (square_root number) r → number_or_alarm r ≡ root_or_alarm number
unfolding root_or_alarm
gives_root z (Ok n) h = ap (λ (v : ℤ). Ok v) h.1 ∙ sym (other_choice (int_lt z (pos 0)) (Err 3) (Ok (square_root z)) (not_below z h.0))
gives_root z (Err e) h = ap (λ (f : NumFault). number_or_alarm (Err f)) h.0 ∙ sym (choice (int_lt z (pos 0)) (Err 3) (Ok (square_root z)) (below z h.1))

pub ruleset alarms = (gives_num, gives_quotient, gives_remainder, gives_root)
