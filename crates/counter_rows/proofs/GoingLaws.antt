-- A list of tests and a test that agree.
use Rattle.axis_sets.specs.declared.limits.TheConstants.{CHANNEL_PLACES}
use Rattle.std.proofs.Common.{◌≡◌, ℕ, suc, ◌+◌, ◌<◌, ◌==◌, ◌&&◌, Bool, true, false, inl, inr, List, [], filter, length, slice_index, slice_index_or, set, sym, ap, ◌∙◌, arith, if◌then◌else◌}
use Rattle.std.proofs.Math.Path.{fun_ext}
use Rattle.std.proofs.lemmas.Bool.{cases_lt, and_left, true≢false}
use Rattle.std.proofs.Math.ListN.{get_or-eq_default}
use Rattle.std.proofs.lemmas.List.{get_or-set_same, get_or-set_other}
use Rattle.std.specs.List.{range_with_len}
use Rattle.axis_sets.specs.Sets.{has, members_of}
use Rattle.counter_rows.specs.Rows.{top, count_of, in_group, joint_top, joint_count}

-- a list of tests is the test
pub same_test : (chosen goes : List Bool) (group : List ℕ) (number : ℕ) → length chosen ≡ CHANNEL_PLACES → length goes ≡ CHANNEL_PLACES
    → ((c : ℕ) → c < CHANNEL_PLACES → has chosen c ≡ (has goes c && (slice_index group c == number))) → has chosen ≡ in_group goes group number
same_test chosen goes group number size sizes same = fun_ext (λ c. elim (cases_lt c CHANNEL_PLACES) [
  | inl below ↦ same c below
  | inr past ↦ get_or-eq_default chosen false (omega arith) ∙ sym (and_left (has goes c) (slice_index group c == number) (get_or-eq_default goes false (omega arith)))
])

pub same_joint : (own : List (List ℕ)) (chosen goes : List Bool) (group : List ℕ) (number x : ℕ) → length chosen ≡ CHANNEL_PLACES → has chosen ≡ in_group goes group number
    → top (λ m. count_of (slice_index_or own m []) x) (members_of chosen) ≡ joint_top own goes group number x
same_joint own chosen goes group number x size same =
    ap (λ (n : ℕ). top (λ m. count_of (slice_index_or own m []) x) (filter (has chosen) (range_with_len 0 n))) size
    ∙ ap (λ (p : ℕ → Bool). top (λ m. count_of (slice_index_or own m []) x) (filter p (range_with_len 0 CHANNEL_PLACES))) same

pub same_count : (own : List (List ℕ)) (chosen goes : List Bool) (group : List ℕ) (number x : ℕ) → length chosen ≡ CHANNEL_PLACES → has chosen ≡ in_group goes group number
    → (if has chosen x then suc (top (λ m. count_of (slice_index_or own m []) x) (members_of chosen)) else top (λ m. count_of (slice_index_or own m []) x) (members_of chosen)) ≡ joint_count own goes group number x
same_count own chosen goes group number x size same =
    ap (λ (m : ℕ). if has chosen x then suc m else m) (same_joint own chosen goes group number x size same)
    ∙ ap (λ (p : ℕ → Bool). if p x then suc (joint_top own goes group number x) else joint_top own goes group number x) same

-- one row more
pub done_after : (rows : List (List ℕ)) (row : List ℕ) (c : ℕ) (t : ℕ → ℕ → ℕ) (on : ℕ → Bool) → c < length rows
    → ((k : ℕ) → k < c → on k ≡ true → (x : ℕ) → count_of (slice_index_or rows k []) x ≡ t k x)
    → ((x : ℕ) → count_of row x ≡ t c x)
    → (k : ℕ) → k < c + 1 → on k ≡ true → (x : ℕ) → count_of (slice_index_or (set rows c row) k []) x ≡ t k x
done_after rows row c t on within old new k below here x = elim (cases_lt k c) [
  | inl less ↦
      let other : k ≡ c → ⊥ = λ e. omega arith in
      ap (λ (r : List ℕ). count_of r x) (get_or-set_other rows c k row [] other) ∙ old k less here x
  | inr more ↦
      let e : k ≡ c = omega arith in
      rw e (ap (λ (r : List ℕ). count_of r x) (get_or-set_same rows c row [] within) ∙ new x)
]

pub done_still : (rows : List (List ℕ)) (c : ℕ) (t : ℕ → ℕ → ℕ) (on : ℕ → Bool) → on c ≡ false
    → ((k : ℕ) → k < c → on k ≡ true → (x : ℕ) → count_of (slice_index_or rows k []) x ≡ t k x)
    → (k : ℕ) → k < c + 1 → on k ≡ true → (x : ℕ) → count_of (slice_index_or rows k []) x ≡ t k x
done_still rows c t on off old k below here x = elim (cases_lt k c) [
  | inl less ↦ old k less here x
  | inr more ↦ let e : k ≡ c = omega arith in absurd (true≢false (sym here ∙ (ap on e ∙ off)))
]
