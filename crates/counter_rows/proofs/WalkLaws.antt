-- Walks over the members of a set, the lowest first: what is left, and what is done.
use Rattle.std.proofs.Common.{◌≡◌, ℕ, zero, suc, ◌+◌, ◌<◌, ◌≤◌, ◌==◌, ◌&&◌, not, max, Bool, true, false, inl, inr, List, [], filter, length, slice_index_or, set, refl, sym, ap, ◌∙◌, arith}
use Rattle.std.proofs.lemmas.Bool.{cases_Bool, cases_eq, cases_lt, eq-eqb, ne_eqb, and_left, and_right, true≢false}
use Rattle.std.specs.Cmp.Derive.{both_true}
use Rattle.std.proofs.lemmas.List.{get_or-set_same, get_or-set_other}
use Rattle.std.proofs.Math.ListN.{get_or-eq_default}
use Rattle.std.specs.List.{range_with_len}
use Rattle.axis_sets.specs.Sets.{has, members_of, IsLowest}
use Rattle.counter_rows.specs.Rows.{top}
use Rattle.counter_rows.proofs.GatherLaws.{max_assoc}

-- the second set is the first without a member
abbrev pub IsWithout : List Bool → List Bool → ℕ → Type 0
IsWithout next rest mark = (m : ℕ) → has next m ≡ (has rest m && not (m == mark))

-- what is left is of the first set, and is not the member that is gone
pub left_member : (rest next : List Bool) (mark m : ℕ) → IsWithout next rest mark → has next m ≡ true → has rest m ≡ true
left_member rest next mark m without here = elim (cases_Bool (has rest m)) [
  | inl on ↦ on
  | inr off ↦ absurd (true≢false (sym here ∙ (without m ∙ and_left (has rest m) (not (m == mark)) off)))
]

pub left_other : (rest next : List Bool) (mark m : ℕ) → IsWithout next rest mark → has next m ≡ true → m ≡ mark → ⊥
left_other rest next mark m without here same =
    let gone : not (m == mark) ≡ false = ap not (eq-eqb m mark same) in
    true≢false (sym here ∙ (without m ∙ and_right (has rest m) (not (m == mark)) gone))

-- what else is not left was not there
pub gone_member : (rest next : List Bool) (mark m : ℕ) → IsWithout next rest mark → has next m ≡ false → (m ≡ mark → ⊥) → has rest m ≡ false
gone_member rest next mark m without gone other = elim (cases_Bool (has rest m)) [
  | inl on ↦
      let still : not (m == mark) ≡ true = ap not (ne_eqb m mark other) in
      absurd (true≢false (sym (without m ∙ both_true on still) ∙ gone))
  | inr off ↦ off
]

-- each step leaves only what is above its number
pub low_step : (rest next : List Bool) (mark k : ℕ) → IsWithout next rest mark → IsLowest rest mark
    → ((m : ℕ) → has rest m ≡ true → k ≤ m) → (m : ℕ) → has next m ≡ true → k + 1 ≤ m
low_step rest next mark k without lowest low m here =
    let old = left_member rest next mark m without here in
    let from = low mark lowest.is_member in
    elim (cases_lt m mark) [
      | inl below ↦ absurd (true≢false (sym old ∙ lowest.none_below m below))
      | inr above ↦ elim (cases_lt mark m) [
        | inl up ↦ omega (arith, from, up)
        | inr down ↦ absurd (left_other rest next mark m without here (omega (arith, above, down)))
      ]
    ]

-- a member has a place
pub member_below : (rest : List Bool) (n m : ℕ) → length rest ≡ n → has rest m ≡ true → m < n
member_below rest n m size here = elim (cases_lt m n) [
  | inl below ↦ below
  | inr past ↦ absurd (true≢false (sym here ∙ get_or-eq_default rest false (omega (arith, size, past))))
]

-- after a step for each place nothing is left
pub none_left : (rest : List Bool) (n k : ℕ) → length rest ≡ n → n ≤ k → ((m : ℕ) → has rest m ≡ true → k ≤ m) → (m : ℕ) → has rest m ≡ false
none_left rest n k size past low m = elim (cases_Bool (has rest m)) [
  | inl on ↦ let at = low m on in get_or-eq_default rest false (omega (arith, size, past, at))
  | inr off ↦ off
]

-- the rows of the mark of a step are done, and those of the marks before it stay so
pub done_step : (Done : ℕ → List (List ℕ) → Type 0) (rest next : List Bool) (mark : ℕ) (rows : List (List (List ℕ))) (written : List (List ℕ)) → mark < length rows → IsWithout next rest mark
    → Done mark written → ((m : ℕ) → has rest m ≡ false → Done m (slice_index_or rows m []))
    → (m : ℕ) → has next m ≡ false → Done m (slice_index_or (set rows mark written) m [])
done_step Done rest next mark rows written within without here before m gone = elim (cases_eq m mark) [
  | inl e ↦ rw (e, get_or-set_same rows mark written [] within) here
  | inr other ↦ rw (get_or-set_other rows mark m written [] other) (before m (gone_member rest next mark m without gone other))
]

-- the rows of the marks that are left are as they were
pub still_step : (rest next : List Bool) (mark : ℕ) (rows old : List (List (List ℕ))) (written : List (List ℕ)) → IsWithout next rest mark
    → ((m : ℕ) → has rest m ≡ true → slice_index_or rows m [] ≡ slice_index_or old m [])
    → (m : ℕ) → has next m ≡ true → slice_index_or (set rows mark written) m [] ≡ slice_index_or old m []
still_step rest next mark rows old written without before m here =
    get_or-set_other rows mark m written [] (left_other rest next mark m without here) ∙ before m (left_member rest next mark m without here)

-- two tests that agree on a range
same_top : (f : ℕ → ℕ) (p q : ℕ → Bool) (a n : ℕ) → ((m : ℕ) → a ≤ m → p m ≡ q m) → top f (filter p (range_with_len a n)) ≡ top f (filter q (range_with_len a n))
same_top f p q a zero same = refl
same_top f p q a (suc n) same =
    let rest = same_top f p q (a + 1) n (λ m from. same m (omega (arith, from))) in
    let one = same a (omega arith) in
    elim (cases_Bool (q a)) [
      | inl on ↦ rw (one, on) (ap (λ (t : ℕ). max (f a) t) rest)
      | inr off ↦ rw (one, off) rest
    ]

max_swap : (a b c : ℕ) → max a (max b c) ≡ max b (max a c)
max_swap a b c = sym (max_assoc a b c) ∙ (ap (λ (m : ℕ). max m c) (max_turn a b) ∙ max_assoc b a c)
  where
    max_turn : (a b : ℕ) → max a b ≡ max b a
    max_turn a b = elim (cases_lt a b) [ inl less ↦ omega arith | inr more ↦ omega arith ]

-- the greatest of some is that of one of them and of the others
top_range : (f : ℕ → ℕ) (p q : ℕ → Bool) (mark a n : ℕ) → p mark ≡ true → ((m : ℕ) → q m ≡ (p m && not (m == mark))) → a ≤ mark → mark < a + n
    → top f (filter p (range_with_len a n)) ≡ max (f mark) (top f (filter q (range_with_len a n)))
top_range f p q mark a zero on without from upto = absurd (omega arith)
top_range f p q mark a (suc n) on without from upto = elim (cases_eq a mark) [
  | inl here ↦
      let gone : q a ≡ false = without a ∙ and_right (p a) (not (a == mark)) (ap not (eq-eqb a mark here)) in
      let there : p a ≡ true = ap p here ∙ on in
      let rest : top f (filter p (range_with_len (a + 1) n)) ≡ top f (filter q (range_with_len (a + 1) n)) = same_top f p q (a + 1) n (λ m above. sym (without m ∙ kept (p m) (not (m == mark)) (ap not (ne_eqb m mark (λ e. omega arith))))) in
      rw (there, gone, rest) (ap (λ (x : ℕ). max (f x) (top f (filter q (range_with_len (a + 1) n)))) here)
  | inr other ↦
      let same : q a ≡ p a = without a ∙ kept (p a) (not (a == mark)) (ap not (ne_eqb a mark other)) in
      let rest = top_range f p q mark (a + 1) n on without (omega (arith, other, from)) (omega arith) in
      elim (cases_Bool (p a)) [
        | inl more ↦ rw (same, more, rest) (max_swap (f a) (f mark) (top f (filter q (range_with_len (a + 1) n))))
        | inr less ↦ rw (same, less) rest
      ]
]
  where
    kept : (x y : Bool) → y ≡ true → (x && y) ≡ x
    kept true y is = is
    kept false y is = refl

pub top_without : (f : ℕ → ℕ) (rest next : List Bool) (mark : ℕ) → length next ≡ length rest → has rest mark ≡ true → IsWithout next rest mark
    → top f (members_of rest) ≡ max (f mark) (top f (members_of next))
top_without f rest next mark size here without = elim (cases_lt mark (length rest)) [
  | inl below ↦ rw size (top_range f (has rest) (has next) mark 0 (length rest) here without (omega arith) (omega arith))
  | inr past ↦ absurd (true≢false (sym here ∙ get_or-eq_default rest false past))
]

-- one member more of the walk
pub most_step : (f : ℕ → ℕ) (rest next : List Bool) (mark old new total : ℕ) → length next ≡ length rest → has rest mark ≡ true → IsWithout next rest mark
    → new ≡ max old (f mark) → max old (top f (members_of rest)) ≡ total → max new (top f (members_of next)) ≡ total
most_step f rest next mark old new total size here without is known =
    rw is (max_assoc old (f mark) (top f (members_of next)) ∙ (ap (λ (t : ℕ). max old t) (sym (top_without f rest next mark size here without)) ∙ known))

-- none is left
top_none : (f : ℕ → ℕ) (p : ℕ → Bool) (a n : ℕ) → ((m : ℕ) → p m ≡ false) → top f (filter p (range_with_len a n)) ≡ 0
top_none f p a zero none = refl
top_none f p a (suc n) none = rw (none a) (top_none f p (a + 1) n none)

pub most_all : (f : ℕ → ℕ) (rest : List Bool) (row total : ℕ) → ((m : ℕ) → has rest m ≡ false) → max row (top f (members_of rest)) ≡ total → row ≡ total
most_all f rest row total none known =
    let zeroed : max row 0 ≡ total = rw (top_none f (has rest) 0 (length rest) none) at known in
    omega (arith, zeroed)
