-- Those that go on, one channel after another.
use Rattle.axis_sets.specs.declared.limits.TheConstants.{CHANNEL_PLACES}
use Rattle.std.proofs.Common.{◌≡◌, ℕ, zero, suc, ◌+◌, ◌<◌, ◌≤◌, ◌==◌, ◌⊎◌, length, ◌&&◌, ◌||◌, not, Bool, true, false, inl, inr, List, [], ◌∷◌, Option, Some, None, refl, sym, ap, ◌∙◌, arith, if◌then◌else◌, nat_lt}
use Rattle.std.specs.Prelude.{is_some, find}
use Rattle.std.specs.List.{list_any}
use Rattle.std.proofs.lemmas.Bool.{cases_Bool, cases_lt, eqb-true, eqb-false, lt-ltb, ltb-true}
use Rattle.std.proofs.Math.ListN.{get_or-eq_default}
use Rattle.axis_sets.specs.Sets.{has}
use Rattle.order_clocks.specs.Watching.{go_in}
use Rattle.step_deeds.specs.declared.deed.WaitAt.{WaitAt}
use Rattle.sync_types.specs.declared.runs.Go.{Go}
use Rattle.sync_types.proofs.BoardTests.{no_truth}
use Rattle.step_deeds.specs.Holds.{lowers_at}

-- the channels from 1 on below this number
abbrev pub is_done : ℕ → ℕ → Bool
is_done n c = not (c == 0) && nat_lt c n

pub any_is_found : {A : Type 0} (p : A → Bool) (xs : List A) → list_any p xs ≡ is_some (find p xs)
any_is_found p [] = refl
any_is_found p (x ∷ xs) = elim (cases_Bool (p x)) [
  | inl on ↦ rw on refl
  | inr off ↦ rw off (any_is_found p xs)
]

pub not_found : {A : Type 0} (p : A → Bool) (xs : List A) → list_any p xs ≡ false → find p xs ≡ None
not_found p xs off = none (find p xs) (sym (any_is_found p xs) ∙ off)
  where
    none : {A : Type 0} (o : Option A) → is_some o ≡ false → o ≡ None
    none (Some x) off = no_truth true refl off
    none None off = refl

on_true : (z l : Bool) → z ≡ false → l ≡ true → (not z && l) ≡ true
on_true z l off on = rw (off, on) refl

not_zero : (x : ℕ) → 1 ≤ x → (x == 0) ≡ false
not_zero x up = elim (cases_Bool (x == 0)) [ inl zero_it ↦ let e = eqb-true x 0 zero_it in absurd (omega arith) | inr off ↦ off ]

pub done_more : (n c : ℕ) → 1 ≤ n → is_done (n + 1) c ≡ ((c == n) || is_done n c)
done_more n c from = elim (cases_Bool (c == n)) [
  | inl same ↦ let e : c ≡ n = eqb-true c n same in rw same (on_true (c == 0) (nat_lt c (n + 1)) (not_zero c (rw (sym e) at from)) (lt_true c (n + 1) (rw e (omega arith))))
  | inr other ↦ rw other (ap (λ (t : Bool). not (c == 0) && t) (alike c (n + 1) n (λ less. let apart = eqb-false c n other in omega arith) (λ less. omega arith)))
]
  where
    lt_true : (x y : ℕ) → x < y → nat_lt x y ≡ true
    lt_true x y less = lt-ltb x y less

    alike : (x y z : ℕ) → (x < y → x < z) → (x < z → x < y) → nat_lt x y ≡ nat_lt x z
    alike x y z to from = elim (cases_Bool (nat_lt x y)) [
      | inl on ↦ on ∙ sym (lt-ltb x z (to (ltb-true x y on)))
      | inr off ↦ off ∙ sym (elim (cases_Bool (nat_lt x z)) [ inl on ↦ no_truth (nat_lt x y) (lt-ltb x y (from (ltb-true x z on))) off | inr same ↦ same ])
    ]

pub wait_more : {A : Type 0} (p q g : Bool) (none one : A) → (if p && g then none else (if q && g then none else one)) ≡ (if (p || q) && g then none else one)
wait_more true true true none one = refl
wait_more true true false none one = refl
wait_more true false true none one = refl
wait_more true false false none one = refl
wait_more false true true none one = refl
wait_more false true false none one = refl
wait_more false false true none one = refl
wait_more false false false none one = refl

pub marks_more : (p q g h : Bool) (wait : Option WaitAt) (m : ℕ)
    → ((h && not ((q && g) && lowers_at wait m)) && not ((p && g) && lowers_at (if q && g then None else wait) m)) ≡ (h && not (((p || q) && g) && lowers_at wait m))
marks_more true true true h wait m = unmarked (h && not (lowers_at wait m))
  where
    unmarked : (t : Bool) → (t && not false) ≡ t
    unmarked true = refl
    unmarked false = refl
marks_more true true false h wait m = twice h
  where
    twice : (t : Bool) → ((t && not false) && not false) ≡ (t && not false)
    twice true = refl
    twice false = refl
marks_more true false true h wait m = once h (lowers_at wait m)
  where
    once : (t l : Bool) → ((t && not false) && not l) ≡ (t && not l)
    once true l = refl
    once false l = refl
marks_more true false false h wait m = twice h
  where
    twice : (t : Bool) → ((t && not false) && not false) ≡ (t && not false)
    twice true = refl
    twice false = refl
marks_more false true true h wait m = unmarked (h && not (lowers_at wait m))
  where
    unmarked : (t : Bool) → (t && not false) ≡ t
    unmarked true = refl
    unmarked false = refl
marks_more false true false h wait m = twice h
  where
    twice : (t : Bool) → ((t && not false) && not false) ≡ (t && not false)
    twice true = refl
    twice false = refl
marks_more false false true h wait m = twice h
  where
    twice : (t : Bool) → ((t && not false) && not false) ≡ (t && not false)
    twice true = refl
    twice false = refl
marks_more false false false h wait m = twice h
  where
    twice : (t : Bool) → ((t && not false) && not false) ≡ (t && not false)
    twice true = refl
    twice false = refl

-- who is not among them
pub is_absent : (goes : List Go) (goers : List Bool) (c : ℕ) → ((d : ℕ) → has goers d ≡ list_any (λ go. go.channel == d) goes) → has goers c ≡ false → go_in goes c ≡ None
is_absent goes goers c are off = not_found (λ go. go.channel == c) goes (sym (are c) ∙ off)

pub all_done : (goers : List Bool) (c : ℕ) → has goers 0 ≡ false → length goers ≡ CHANNEL_PLACES → (is_done CHANNEL_PLACES c ≡ true) ⊎ (has goers c ≡ false)
all_done goers zero from size = inr from
all_done goers (suc c) from size = elim (cases_lt (suc c) CHANNEL_PLACES) [
  | inl below ↦ inl (on_true (suc c == 0) (nat_lt (suc c) CHANNEL_PLACES) (not_zero (suc c) (omega arith)) (lt-ltb (suc c) CHANNEL_PLACES below))
  | inr past ↦ inr (get_or-eq_default goers false (rw size past))
]

pub not_done : (n : ℕ) → is_done n n ≡ false
not_done n = off (not (n == 0)) (nat_lt n n) (elim (cases_Bool (nat_lt n n)) [ inl on ↦ absurd (omega (arith, ltb-true n n on)) | inr same ↦ same ])
  where
    off : (a b : Bool) → b ≡ false → (a && b) ≡ false
    off true b e = e
    off false b e = refl

-- of those that are not there it is no matter whether they are done
pub all_found : (goes : List Go) (goers : List Bool) (c : ℕ) → ((d : ℕ) → has goers d ≡ list_any (λ go. go.channel == d) goes) → has goers 0 ≡ false → length goers ≡ CHANNEL_PLACES
    → (is_done CHANNEL_PLACES c && is_some (go_in goes c)) ≡ is_some (go_in goes c)
all_found goes goers c are from size = elim (all_done goers c from size) [
  | inl on ↦ rw on refl
  | inr off ↦ rw (is_absent goes goers c are off) (none (is_done CHANNEL_PLACES c))
]
  where
    none : (t : Bool) → (t && false) ≡ false
    none true = refl
    none false = refl

pub out_of_done : (c : ℕ) → is_done CHANNEL_PLACES c ≡ false → (c ≡ 0) ⊎ (CHANNEL_PLACES ≤ c)
out_of_done zero off = inl refl
out_of_done (suc c) off = elim (cases_lt (suc c) CHANNEL_PLACES) [
  | inl below ↦ no_truth (is_done CHANNEL_PLACES (suc c)) (on_true (suc c == 0) (nat_lt (suc c) CHANNEL_PLACES) (not_zero (suc c) (omega arith)) (lt-ltb (suc c) CHANNEL_PLACES below)) off
  | inr past ↦ inr past
]
