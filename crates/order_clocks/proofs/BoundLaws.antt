-- A step adds at most two to a counter, so the counters of a run fit 64 bits.
use Rattle.std.proofs.Common.{◌≡◌, ℕ, zero, suc, ◌*◌, ◌≤◌, ◌==◌, max, inl, inr, List, [], ◌∷◌, arith}
use Rattle.order_clocks.specs.Happenings.{Key}
use Rattle.std.proofs.lemmas.Bool.{cases_Bool, cases_lt}
use Rattle.sync_types.specs.Boards.{among}
use Rattle.order_clocks.specs.Courses.{Course}
use Rattle.order_clocks.specs.Counters.{LastRows, act_row, rows_after_act, own_row, members, go_row, rows_after_goings, last_rows}
use Rattle.counter_rows.specs.Rows.{top}

max_below : (a b n : ℕ) → a ≤ n → b ≤ n → max a b ≤ n
max_below a b n one two = elim (cases_lt a b) [ inl h ↦ omega arith | inr h ↦ omega arith ]

top_below : {A : Type 0} (f : A → ℕ) (xs : List A) (n : ℕ) → ((a : A) → f a ≤ n) → top f xs ≤ n
top_below f [] n all = omega arith
top_below f (x ∷ xs) n all = max_below (f x) (top f xs) n (all x) (top_below f xs n all)

pub record IsBelow (s : LastRows) (n : ℕ) : Type 0 where
  pub past : (c x : ℕ) → s.past c x ≤ n
  pub last : (k : Key) (x : ℕ) → s.last k x ≤ n

act_below : (run : Course) (i : ℕ) (s : LastRows) (n x : ℕ) → IsBelow s n → act_row run i s x ≤ suc n
unfolding act_row
act_below run i s n x below =
    let old = below.past (run.actor i) x in
    elim (cases_Bool (x == run.actor i)) [ inl on ↦ rw on (omega arith) | inr off ↦ rw off (omega arith) ]

opened_below : (run : Course) (i : ℕ) (s : LastRows) (n : ℕ) → IsBelow s n → IsBelow (rows_after_act run i s) (suc n)
unfolding rows_after_act
opened_below run i s n below = record {
  past = λ c x. elim (cases_Bool (c == run.actor i)) [
    | inl on ↦ rw on (act_below run i s n x below)
    | inr off ↦ let old = below.past c x in rw off (omega arith)
  ];
  last = λ k x. elim (cases_Bool (run.gives i k)) [
    | inl on ↦ rw on (act_below run i s n x below)
    | inr off ↦ let old = below.last k x in rw off (omega arith)
  ];
}

own_below : (run : Course) (i : ℕ) (s : LastRows) (n c x : ℕ) → IsBelow s n → own_row run i s c x ≤ n
unfolding own_row
own_below run i s n c x below = max_below (s.past c x) (top (λ k. s.last k x) (run.asks i c)) n (below.past c x) (top_below (λ k. s.last k x) (run.asks i c) n (λ k. below.last k x))

go_below : (run : Course) (i : ℕ) (s : LastRows) (n g x : ℕ) → IsBelow s n → go_row run i s g x ≤ suc n
unfolding go_row
go_below run i s n g x below =
    let most = top_below (λ c. own_row run i s c x) (members run i g) n (λ c. own_below run i s n c x below) in
    elim (cases_Bool (among (members run i g) x)) [ inl on ↦ rw on (omega arith) | inr off ↦ rw off (omega arith) ]

closed_below : (run : Course) (i : ℕ) (s : LastRows) (n : ℕ) → IsBelow s n → IsBelow (rows_after_goings run i s) (suc n)
unfolding rows_after_goings
closed_below run i s n below = record {
  past = λ c x. elim (cases_Bool (among (run.goers i) c)) [
    | inl on ↦ rw on (go_below run i s n (run.group i c) x below)
    | inr off ↦ let old = below.past c x in rw off (omega arith)
  ];
  last = λ k x. let old = below.last k x in omega arith;
}

pub seen_below : (run : Course) (i : ℕ) → IsBelow (last_rows run i) (2 * i)
seen_below run zero = record { past = λ c x. omega arith; last = λ k x. omega arith }
seen_below run (suc i) =
    let two : 2 * suc i ≡ suc (suc (2 * i)) = omega arith in
    rw two (closed_below run i (rows_after_act run i (last_rows run i)) (suc (2 * i)) (opened_below run i (last_rows run i) (2 * i) (seen_below run i)))

pub seen_within : (run : Course) (i c x : ℕ) → (last_rows run i).past c x ≤ 2 * i
seen_within run i c x = (seen_below run i).past c x

pub opened_within : (run : Course) (i c x : ℕ) → own_row run i (rows_after_act run i (last_rows run i)) c x ≤ suc (2 * i)
opened_within run i c x = own_below run i (rows_after_act run i (last_rows run i)) (suc (2 * i)) c x (opened_below run i (last_rows run i) (2 * i) (seen_below run i))
