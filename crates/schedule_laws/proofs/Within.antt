-- No counter exceeds that of the channel itself.
use Rattle.std.proofs.Common.{◌≡◌, ℕ, zero, suc, ◌≤◌, ◌==◌, max, true, false, List, [], ◌∷◌, inl, inr, refl, sym, ap, ◌∙◌, arith}
use Rattle.std.proofs.lemmas.Bool.{cases_Bool, eqb-true, eq-eqb}
use Rattle.sync_types.specs.Boards.{among}
use Rattle.order_clocks.specs.Chains.{IsIn}
use Rattle.order_clocks.specs.Counters.{LastRows, last_rows, rows_after_act, rows_after_goings, act_row, own_row, go_row, members}
use Rattle.order_clocks.specs.Courses.{Course}
use Rattle.order_clocks.specs.Happenings.{Key}
use Rattle.order_clocks.proofs.CounterLaws.{opened_actor, opened_other, opened_given, opened_kept, closed_goer, closed_other, closed_last, member, member_parts, go_elsewhere, is_in, contains_from, top_above}

-- the greatest value, 0 where there is none
abbrev pub top : {A : Type 0} → (A → ℕ) → List A → ℕ
top f [] = 0
top f (x ∷ xs) = max (f x) (top f xs)

pub record Within (s : LastRows) : Type 0 where
  pub past : (c x : ℕ) → s.past c x ≤ s.past x x
  pub last : (k : Key) (x : ℕ) → s.last k x ≤ s.past x x

pub top_under : {A : Type 0} (f : A → ℕ) (xs : List A) (n : ℕ) → ((a : A) → IsIn a xs → f a ≤ n) → top f xs ≤ n
top_under f [] n each = omega arith
top_under f (x ∷ xs) n each = both (f x) (top f xs) n (each x (inl refl)) (top_under f xs n (λ a on. each a (inr on)))
  where
    both : (a b n : ℕ) → a ≤ n → b ≤ n → max a b ≤ n
    both a b n l r = grind arith

pub act_self : (run : Course) (i : ℕ) (s : LastRows) → act_row run i s (run.actor i) ≡ suc (s.past (run.actor i) (run.actor i))
unfolding act_row
act_self run i s = rw (eq-eqb (run.actor i) (run.actor i) refl) refl

act_else : (run : Course) (i : ℕ) (s : LastRows) (x : ℕ) → (x == run.actor i) ≡ false → act_row run i s x ≡ s.past (run.actor i) x
unfolding act_row
act_else run i s x n = rw n refl

-- the own counter never falls
pub act_up : (run : Course) (i : ℕ) (s : LastRows) (x : ℕ) → s.past x x ≤ (rows_after_act run i s).past x x
act_up run i s x = elim (cases_Bool (x == run.actor i)) [
  | inl y ↦
      let e : x ≡ run.actor i = eqb-true x (run.actor i) y in
      let l = opened_actor run i s x x (sym e) in
      let r = act_self run i s in
      let m : act_row run i s x ≡ suc (s.past x x) = ap (λ (z : ℕ). act_row run i s z) e ∙ r ∙ ap (λ (z : ℕ). suc (s.past z z)) (sym e) in
      omega (arith, l, m)
  | inr n ↦ let l = opened_other run i s x x n in omega (arith, l)
]

act_row_within : (run : Course) (i : ℕ) (s : LastRows) (x : ℕ) → Within s → act_row run i s x ≤ (rows_after_act run i s).past x x
act_row_within run i s x w = elim (cases_Bool (x == run.actor i)) [
  | inl y ↦ let l = opened_actor run i s x x (sym (eqb-true x (run.actor i) y)) in omega (arith, l)
  | inr n ↦ let l = act_else run i s x n in let m = opened_other run i s x x n in let u = w.past (run.actor i) x in omega (arith, l, m, u)
]

pub opened_within : (run : Course) (i : ℕ) (s : LastRows) → Within s → Within (rows_after_act run i s)
opened_within run i s w = record {
  past = λ c x. elim (cases_Bool (c == run.actor i)) [
    | inl y ↦ let l = opened_actor run i s c x (sym (eqb-true c (run.actor i) y)) in let u = act_row_within run i s x w in omega (arith, l, u)
    | inr n ↦ let l = opened_other run i s c x n in let u = act_up run i s x in let v = w.past c x in omega (arith, l, u, v)
  ];
  last = λ k x. elim (cases_Bool (run.gives i k)) [
    | inl y ↦ let l = opened_given run i s k x y in let u = act_row_within run i s x w in omega (arith, l, u)
    | inr n ↦ let l = opened_kept run i s k x n in let u = act_up run i s x in let v = w.last k x in omega (arith, l, u, v)
  ];
}

pub own_past : (run : Course) (i : ℕ) (s : LastRows) (c x : ℕ) → s.past c x ≤ own_row run i s c x
unfolding own_row
own_past run i s c x = left (s.past c x) (top (λ k. s.last k x) (run.asks i c))
  where
    left : (a b : ℕ) → a ≤ max a b
    left a b = grind arith

pub own_last : (run : Course) (i : ℕ) (s : LastRows) (c x : ℕ) (k : Key) → IsIn k (run.asks i c) → s.last k x ≤ own_row run i s c x
unfolding own_row
own_last run i s c x k on = right (s.past c x) (top (λ k. s.last k x) (run.asks i c)) (s.last k x) (top_above (λ k. s.last k x) (run.asks i c) k on)
  where
    right : (a b d : ℕ) → d ≤ b → d ≤ max a b
    right a b d l = grind arith

pub own_under : (run : Course) (i : ℕ) (s : LastRows) (c x n : ℕ) → s.past c x ≤ n → ((k : Key) → IsIn k (run.asks i c) → s.last k x ≤ n) → own_row run i s c x ≤ n
unfolding own_row
own_under run i s c x n l each = both (s.past c x) (top (λ k. s.last k x) (run.asks i c)) n l (top_under (λ k. s.last k x) (run.asks i c) n each)
  where
    both : (a b n : ℕ) → a ≤ n → b ≤ n → max a b ≤ n
    both a b n l r = grind arith

pub go_self : (run : Course) (i : ℕ) (s : LastRows) (g x : ℕ) → among (members run i g) x ≡ true → go_row run i s g x ≡ suc (top (λ c. own_row run i s c x) (members run i g))
unfolding go_row
go_self run i s g x on = rw on refl

go_up : (run : Course) (i : ℕ) (s : LastRows) (x : ℕ) → among (run.goers i) x ≡ true → s.past x x ≤ go_row run i s (run.group i x) x
go_up run i s x goes =
    let m = member run i x goes in
    let l = go_self run i s (run.group i x) x (contains_from (members run i (run.group i x)) x m) in
    let u = top_above (λ c. own_row run i s c x) (members run i (run.group i x)) x m in
    let v = own_past run i s x x in
    omega (arith, l, u, v)

pub close_up : (run : Course) (i : ℕ) (s : LastRows) (x : ℕ) → s.past x x ≤ (rows_after_goings run i s).past x x
close_up run i s x = elim (cases_Bool (among (run.goers i) x)) [
  | inl y ↦ let l = closed_goer run i s x x y in let u = go_up run i s x y in omega (arith, l, u)
  | inr n ↦ let l = closed_other run i s x x n in omega (arith, l)
]

-- a going on counts of no channel more than that has
pub own_within : (run : Course) (i : ℕ) (s : LastRows) (c x : ℕ) → Within s → own_row run i s c x ≤ s.past x x
own_within run i s c x w = own_under run i s c x (s.past x x) (w.past c x) (λ k on. w.last k x)

go_within : (run : Course) (i : ℕ) (s : LastRows) (g x : ℕ) → Within s → go_row run i s g x ≤ (rows_after_goings run i s).past x x
go_within run i s g x w = elim (cases_Bool (among (members run i g) x)) [
  | inl y ↦
      let p = member_parts run i g x (is_in (members run i g) x y) in
      let l = closed_goer run i s x x p.0 in
      let m : go_row run i s (run.group i x) x ≡ go_row run i s g x = ap (λ (z : ℕ). go_row run i s z x) p.1 in
      omega (arith, l, m)
  | inr n ↦
      let l = go_elsewhere run i s g x n in
      let t = top_under (λ c. own_row run i s c x) (members run i g) (s.past x x) (λ c on. own_within run i s c x w) in
      let u = close_up run i s x in
      omega (arith, l, t, u)
]

pub closed_within : (run : Course) (i : ℕ) (s : LastRows) → Within s → Within (rows_after_goings run i s)
closed_within run i s w = record {
  past = λ c x. elim (cases_Bool (among (run.goers i) c)) [
    | inl y ↦ let l = closed_goer run i s c x y in let u = go_within run i s (run.group i c) x w in omega (arith, l, u)
    | inr n ↦ let l = closed_other run i s c x n in let u = close_up run i s x in let v = w.past c x in omega (arith, l, u, v)
  ];
  last = λ k x. let l = closed_last run i s k x in let u = close_up run i s x in let v = w.last k x in omega (arith, l, u, v);
}

pub rows_within : (run : Course) (i : ℕ) → Within (last_rows run i)
rows_within run zero = record { past = λ c x. omega arith; last = λ k x. omega arith }
rows_within run (suc i) = closed_within run i (rows_after_act run i (last_rows run i)) (opened_within run i (last_rows run i) (rows_within run i))
