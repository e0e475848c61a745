-- Rows of which each is merged with an earlier one that is the same.
use Rattle.std.proofs.Common.{◌≡◌, ◌∙◌, ℕ, zero, suc, ◌+◌, ◌<◌, ◌≤◌, Bool, true, false, cond, not, ◌||◌, List, [], ◌∷◌, ◌++◌, map, take, drop, set, length, get_or, All, refl, sym, ap, subst, append_assoc, arith}
use Rattle.std.specs.List.{Any, list_any, position_or_len}
use Rattle.indexmap.specs.IndexSet.{insert_key}
use Rattle.std.proofs.lemmas.List.{drop_all, drop_more, set_split, take_all, take_more}
use Rattle.std.proofs.lemmas.List.Elements.{All-nil, All-cons, All-head, All-tail, All-append, All-weaker, All-contains}
use Rattle.explain_meetings.specs.Puts.{AreApart, put_in}

-- ---- some element of a list

pub in_front : {X : Type 0} (P : X → Type 0) (x : X) (xs : List X) → P x → Any P (x ∷ xs)
in_front P x xs p = (0, x, omega arith, refl, p)

pub in_rest : {X : Type 0} (P : X → Type 0) (x : X) (xs : List X) → Any P xs → Any P (x ∷ xs)
in_rest P x xs (k, y, below, is, p) = (suc k, y, omega arith, is, p)

pub from_cases : {X : Type 0} (P : X → Type 0) (C : Type 0) (x : X) (xs : List X) → (P x → C) → (Any P xs → C) → Any P (x ∷ xs) → C
from_cases P C x xs first rest (zero, y, below, is, p) = first (subst P (sym is) p)
from_cases P C x xs first rest (suc k, y, below, is, p) = rest (k, y, omega arith, is, p)

pub never : {X : Type 0} (P : X → Type 0) (xs : List X) → All (λ x. P x → ⊥) xs → Any P xs → ⊥
never P xs none (k, x, below, is, p) = All-contains (λ y. P y → ⊥) xs x none (k, below, is) p

take_drop_is : {X : Type 0} (n : ℕ) (xs : List X) → take n xs ++ drop n xs ≡ xs
take_drop_is zero xs = refl
take_drop_is (suc n) [] = refl
take_drop_is (suc n) (x ∷ xs) = ap (λ (ys : List _). x ∷ ys) (take_drop_is n xs)

-- ---- place by place

module _ {R : Type 0} (same : R → R → Bool) (merge : R → R → R) where
  -- what has passed has not changed what is to come
  abbrev pub IsPassed : List R → R → ℕ → Type 0
  IsPassed rows new place = put_in same merge rows new ≡ take place rows ++ put_in same merge (drop place rows) new

  here : (rows : List R) (place : ℕ) (new d : R) → place < length rows
      → put_in same merge (drop place rows) new ≡ cond (same (get_or rows place d) new) (merge (get_or rows place d) new ∷ drop (place + 1) rows) (get_or rows place d ∷ put_in same merge (drop (place + 1) rows) new)
  here rows place new d within = ap (λ (ys : List R). put_in same merge ys new) (drop_more rows place d within)

  -- merged at a place
  pub put_found : (rows : List R) (place : ℕ) (new d : R) → place < length rows → same (get_or rows place d) new ≡ true → IsPassed rows new place
      → set rows place (merge (get_or rows place d) new) ≡ put_in same merge rows new
  put_found rows place new d within on so_far =
      let one : suc place ≡ place + 1 = omega arith in
      set_split rows place (merge (get_or rows place d) new) within
      ∙ ap (λ (n : ℕ). take place rows ++ merge (get_or rows place d) new ∷ drop n rows) one
      ∙ ap (λ (b : Bool). take place rows ++ cond b (merge (get_or rows place d) new ∷ drop (place + 1) rows) (get_or rows place d ∷ put_in same merge (drop (place + 1) rows) new)) (sym on)
      ∙ ap (λ (ys : List R). take place rows ++ ys) (sym (here rows place new d within)) ∙ sym so_far

  -- past a place that is not the same
  pub put_passed : (rows : List R) (place next : ℕ) (new d : R) → place < length rows → next ≡ place + 1 → same (get_or rows place d) new ≡ false → IsPassed rows new place → IsPassed rows new next
  put_passed rows place next new d within is_next off so_far =
      so_far ∙ ap (λ (ys : List R). take place rows ++ ys) (here rows place new d within)
      ∙ ap (λ (b : Bool). take place rows ++ cond b (merge (get_or rows place d) new ∷ drop (place + 1) rows) (get_or rows place d ∷ put_in same merge (drop (place + 1) rows) new)) off
      ∙ sym (append_assoc (take place rows) (get_or rows place d ∷ []) (put_in same merge (drop (place + 1) rows) new))
      ∙ ap (λ (ys : List R). ys ++ put_in same merge (drop (place + 1) rows) new) (sym (take_more rows place d within))
      ∙ ap (λ (n : ℕ). take n rows ++ put_in same merge (drop n rows) new) (sym is_next)

  pub put_last : (rows : List R) (place : ℕ) (new : R) → length rows ≤ place → IsPassed rows new place → rows ++ new ∷ [] ≡ put_in same merge rows new
  put_last rows place new past so_far =
      ap (λ (ys : List R). ys ++ new ∷ []) (sym (take_all place rows past)) ∙ ap (λ (ys : List R). take place rows ++ put_in same merge ys new) (sym (drop_all place rows past)) ∙ sym so_far

  -- merged at a place of rows that are as they were
  pub put_at : (old rows : List R) (place : ℕ) (new d made : R) → place < length old → rows ≡ old → same (get_or rows place d) new ≡ true → made ≡ merge (get_or rows place d) new → IsPassed old new place
      → set rows place made ≡ put_in same merge old new
  put_at old rows place new d made within is on made_is so_far =
      ap (λ (m : R). set rows place m) made_is
      ∙ subst (λ (xs : List R). set xs place (merge (get_or xs place d) new) ≡ put_in same merge old new) (sym is)
      (put_found old place new d within (subst (λ (xs : List R). same (get_or xs place d) new ≡ true) is on) so_far)

-- ---- by keys

-- keys are equal where rows are the same
module _ {R K : Type 0} (key : R → K) (is_key : K → K → Bool) (same : R → R → Bool) (alike : (row new : R) → is_key (key new) (key row) ≡ same row new)
    (merge : R → R → R) (merged : (row new : R) → key (merge row new) ≡ key row) where
  -- of a new key
  pub put_new : (rows : List R) (new : R) → list_any (is_key (key new)) (map key rows) ≡ false → rows ++ new ∷ [] ≡ put_in same merge rows new
  put_new [] new none = refl
  put_new (row ∷ rows) new none = by_same (is_key (key new) (key row)) (same row new) (alike row new) (list_any (is_key (key new)) (map key rows)) none (λ off. put_new rows new off)
    where
      by_same : (b c : Bool) → b ≡ c → (d : Bool) → (b || d) ≡ false → (d ≡ false → rows ++ new ∷ [] ≡ put_in same merge rows new)
          → row ∷ (rows ++ new ∷ []) ≡ cond c (merge row new ∷ rows) (row ∷ put_in same merge rows new)
      by_same true c is d none rest = absurd cc
      by_same false true is d none rest = absurd cc
      by_same false false is d none rest = ap (λ (ys : List R). row ∷ ys) (rest none)

  -- of a key that is there, at its place
  pub put_known : (rows : List R) (new d : R) → list_any (is_key (key new)) (map key rows) ≡ true
      → set rows (position_or_len (is_key (key new)) (map key rows)) (merge (get_or rows (position_or_len (is_key (key new)) (map key rows)) d) new) ≡ put_in same merge rows new
  put_known [] new d some = absurd cc
  put_known (row ∷ rows) new d some =
      by_same (is_key (key new) (key row)) (same row new) (alike row new) (list_any (is_key (key new)) (map key rows)) some (position_or_len (is_key (key new)) (map key rows)) (λ on. put_known rows new d on)
    where
      by_same : (b c : Bool) → b ≡ c → (e : Bool) → (b || e) ≡ true → (n : ℕ) → (e ≡ true → set rows n (merge (get_or rows n d) new) ≡ put_in same merge rows new)
          → set (row ∷ rows) (cond (not b) (1 + n) 0) (merge (get_or (row ∷ rows) (cond (not b) (1 + n) 0) d) new) ≡ cond c (merge row new ∷ rows) (row ∷ put_in same merge rows new)
      by_same true true is e some n rest = refl
      by_same true false is e some n rest = absurd cc
      by_same false true is e some n rest = absurd cc
      by_same false false is e some n rest =
          let one : suc n ≡ 1 + n = omega arith in
          subst (λ (k : ℕ). set (row ∷ rows) k (merge (get_or (row ∷ rows) k d) new) ≡ row ∷ put_in same merge rows new) one (ap (λ (ys : List R). row ∷ ys) (rest some))

  -- what becomes of the keys
  pub put_keys : (rows : List R) (new : R) → insert_key is_key (map key rows) (key new) ≡ map key (put_in same merge rows new)
  put_keys [] new = refl
  put_keys (row ∷ rows) new = by_same (is_key (key new) (key row)) (same row new) (alike row new) (list_any (is_key (key new)) (map key rows)) (put_keys rows new)
    where
      by_same : (b c : Bool) → b ≡ c → (d : Bool) → cond d (map key rows) (map key rows ++ key new ∷ []) ≡ map key (put_in same merge rows new)
          → cond (b || d) (key row ∷ map key rows) (key row ∷ (map key rows ++ key new ∷ [])) ≡ map key (cond c (merge row new ∷ rows) (row ∷ put_in same merge rows new))
      by_same true true is d rest = ap (λ (k : K). k ∷ map key rows) (sym (merged row new))
      by_same true false is d rest = absurd cc
      by_same false true is d rest = absurd cc
      by_same false false is true rest = ap (λ (ks : List K). key row ∷ ks) rest
      by_same false false is false rest = ap (λ (ks : List K). key row ∷ ks) rest

-- ---- what is so of the rows

module _ {R K : Type 0} (key : R → K) (same : R → R → Bool) (same_is : (a b : R) → same a b ≡ true → key a ≡ key b) (same_on : (a b : R) → key a ≡ key b → same a b ≡ true)
    (merge : R → R → R) (merged : (a b : R) → key a ≡ key b → key (merge a b) ≡ key a) where
  abbrev put : List R → R → List R
  put rows new = put_in same merge rows new

  apart_by : (a b : R) → same a b ≡ false → key a ≡ key b → ⊥
  apart_by a b off is = let on : same a b ≡ true = same_on a b is in let both : true ≡ false = sym on ∙ off in cc

  put_holds : (P : K → Type 0) (rows : List R) (new : R) → All (λ row. P (key row)) rows → P (key new) → All (λ row. P (key row)) (put rows new)
  put_holds P [] new all own = All-cons (λ row. P (key row)) new [] own (All-nil (λ row. P (key row)))
  put_holds P (row ∷ rows) new all own = by_same (same row new) refl (put_holds P rows new (All-tail (λ r. P (key r)) row rows all) own)
    where
      first : P (key row)
      first = All-head (λ r. P (key r)) row rows all

      rest : All (λ r. P (key r)) rows
      rest = All-tail (λ r. P (key r)) row rows all

      by_same : (b : Bool) → same row new ≡ b → All (λ r. P (key r)) (put rows new) → All (λ r. P (key r)) (cond b (merge row new ∷ rows) (row ∷ put rows new))
      by_same true on later = All-cons (λ r. P (key r)) (merge row new) rows (subst P (sym (merged row new (same_is row new on))) first) rest
      by_same false on later = All-cons (λ r. P (key r)) row (put rows new) first later

  put_some : (k : K) (rows : List R) (new : R) → Any (λ row. key row ≡ k) rows → Any (λ row. key row ≡ k) (put rows new)
  put_some k [] new (i, x, below, is, p) = absurd (omega arith)
  put_some k (row ∷ rows) new some = by_same (same row new) refl (λ there. put_some k rows new there)
    where
      by_same : (b : Bool) → same row new ≡ b → (Any (λ r. key r ≡ k) rows → Any (λ r. key r ≡ k) (put rows new)) → Any (λ r. key r ≡ k) (cond b (merge row new ∷ rows) (row ∷ put rows new))
      by_same true on later =
          from_cases (λ r. key r ≡ k) (Any (λ r. key r ≡ k) (merge row new ∷ rows)) row rows
          (λ e. in_front (λ r. key r ≡ k) (merge row new) rows (merged row new (same_is row new on) ∙ e)) (λ there. in_rest (λ r. key r ≡ k) (merge row new) rows there) some
      by_same false on later =
          from_cases (λ r. key r ≡ k) (Any (λ r. key r ≡ k) (row ∷ put rows new)) row rows
          (λ e. in_front (λ r. key r ≡ k) row (put rows new) e) (λ there. in_rest (λ r. key r ≡ k) row (put rows new) (later there)) some

  put_own : (rows : List R) (new : R) → Any (λ row. key row ≡ key new) (put rows new)
  put_own [] new = in_front (λ r. key r ≡ key new) new [] refl
  put_own (row ∷ rows) new = by_same (same row new) refl (put_own rows new)
    where
      by_same : (b : Bool) → same row new ≡ b → Any (λ r. key r ≡ key new) (put rows new) → Any (λ r. key r ≡ key new) (cond b (merge row new ∷ rows) (row ∷ put rows new))
      by_same true on later = in_front (λ r. key r ≡ key new) (merge row new) rows (merged row new (same_is row new on) ∙ same_is row new on)
      by_same false on later = in_rest (λ r. key r ≡ key new) row (put rows new) later

  pub put_apart : (rows : List R) (new : R) → AreApart key rows → AreApart key (put rows new)
  put_apart [] new apart = (All-nil (λ other. key new ≡ key other → ⊥), tt)
  put_apart (row ∷ rows) new apart = by_same (same row new) refl (put_apart rows new apart.1)
    where
      by_same : (b : Bool) → same row new ≡ b → AreApart key (put rows new) → AreApart key (cond b (merge row new ∷ rows) (row ∷ put rows new))
      by_same true on later = (
        All-weaker (λ other. key row ≡ key other → ⊥) (λ other. key (merge row new) ≡ key other → ⊥) (λ other h e. h (sym (merged row new (same_is row new on)) ∙ e)) rows apart.0,
        apart.1,
      )
      by_same false on later = (put_holds (λ k. key row ≡ k → ⊥) rows new apart.0 (apart_by row new on), later)

  -- of elements that have keys, as more are seen that have the key of the new row
  module _ {A : Type 0} (key_of : A → K) (Good : List A → R → Type 0) (seen more : List A) (new : R) (others : (row : R) → (key row ≡ key new → ⊥) → Good seen row → Good (seen ++ more) row)
      (merges : (row : R) → key row ≡ key new → Good seen row → Good (seen ++ more) (merge row new)) (fresh : All (λ a. key_of a ≡ key new → ⊥) seen → Good (seen ++ more) new) where
    each_at : (rows : List R) → All (Good seen) rows → AreApart key rows → (All (λ row. key row ≡ key new → ⊥) rows → All (λ a. key_of a ≡ key new → ⊥) seen) → All (Good (seen ++ more)) (put rows new)
    each_at [] each apart none = All-cons (Good (seen ++ more)) new [] (fresh (none (All-nil (λ row. key row ≡ key new → ⊥)))) (All-nil (Good (seen ++ more)))
    each_at (row ∷ rows) each apart none = by_same (same row new) refl (λ no_later. each_at rows (All-tail (Good seen) row rows each) apart.1 no_later)
      where
        first : Good seen row
        first = All-head (Good seen) row rows each

        rest : All (Good seen) rows
        rest = All-tail (Good seen) row rows each

        kept : key row ≡ key new → All (Good (seen ++ more)) rows
        kept is k d below = others (get_or rows k d) (λ e. apart.0 k d below (is ∙ sym e)) (rest k d below)

        by_same : (b : Bool) → same row new ≡ b → ((All (λ r. key r ≡ key new → ⊥) rows → All (λ a. key_of a ≡ key new → ⊥) seen) → All (Good (seen ++ more)) (put rows new))
            → All (Good (seen ++ more)) (cond b (merge row new ∷ rows) (row ∷ put rows new))
        by_same true on later = All-cons (Good (seen ++ more)) (merge row new) rows (merges row (same_is row new on) first) (kept (same_is row new on))
        by_same false on later =
            All-cons (Good (seen ++ more)) row (put rows new) (others row (apart_by row new on) first)
            (later (λ no_later. none (All-cons (λ r. key r ≡ key new → ⊥) row rows (apart_by row new on) no_later)))

    pub put_each : (rows : List R) → All (Good seen) rows → AreApart key rows → All (λ a. Any (λ row. key row ≡ key_of a) rows) seen → All (Good (seen ++ more)) (put rows new)
    put_each rows each apart all =
        each_at rows each apart (λ none k d below is. never (λ row. key row ≡ key_of (get_or seen k d)) rows (λ j e within eq. none j e within (eq ∙ is)) (all k d below))

    pub put_all : (rows : List R) → All (λ a. key_of a ≡ key new) more → All (λ a. Any (λ row. key row ≡ key_of a) rows) seen → All (λ a. Any (λ row. key row ≡ key_of a) (put rows new)) (seen ++ more)
    put_all rows own all =
        All-append (λ a. Any (λ row. key row ≡ key_of a) (put rows new)) seen more
        (All-weaker (λ a. Any (λ row. key row ≡ key_of a) rows) (λ a. Any (λ row. key row ≡ key_of a) (put rows new)) (λ a some. put_some (key_of a) rows new some) seen all)
        (All-weaker (λ a. key_of a ≡ key new) (λ a. Any (λ row. key row ≡ key_of a) (put rows new)) (λ a is. subst (λ (k : K). Any (λ row. key row ≡ k) (put rows new)) (sym is) (put_own rows new)) more own)
