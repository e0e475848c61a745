-- Sets of channels, and sets as tests of their members.
use Rattle.std.proofs.Common.{inl, inr, ◌≡◌, ℕ, zero, suc, ◌+◌, ◌<◌, ◌≤◌, ◌&&◌, ◌||◌, not, ◌↔◌, Bool, true, false, cond, IsTrue, List, [], ◌∷◌, length, filter, is_some, ◌-◌, Some, None, refl, sym, ap, ◌∙◌, arith}
use Rattle.std.proofs.lemmas.Bool.{cases_Bool, cases_eq}
use Rattle.std.specs.List.{list_all, list_any, range_with_len}
use Rattle.axis_sets.proofs.SetLaws.{list_any-members_of}
use Rattle.axis_sets.specs.Sets.{has, members_of, IsEmpty}
use Rattle.axis_sets.specs.declared.limits.TheConstants.{CHANNEL_LIMIT, CHANNEL_PLACES}
use Rattle.coord_core.specs.Tables.{HasPassing}
use Rattle.set_laws.proofs.MemberLaws.{list_all-members_of, list_all-at_member, list_all-filter}
use Rattle.sync_types.proofs.BoardTests.{no_truth}
use Rattle.sync_types.specs.Boards.{among, channel_numbers}
use Rattle.sync_types.specs.GoingOn.{first_of}

-- tests that agree on a range keep the same numbers of it
pub filter_range : (p q : ℕ → Bool) (a n : ℕ) → ((x : ℕ) → a ≤ x → x < a + n → p x ≡ q x) → filter p (range_with_len a n) ≡ filter q (range_with_len a n)
filter_range p q a zero same = refl
filter_range p q a (suc n) same =
    let here : p a ≡ q a = same a (omega arith) (omega arith) in
    let rest : filter p (range_with_len (a + 1) n) ≡ filter q (range_with_len (a + 1) n) = filter_range p q (a + 1) n (λ x from upto. same x (omega arith) (omega arith)) in
    rw (here, rest) refl

all_range : (p q : ℕ → Bool) (a n : ℕ) → ((x : ℕ) → a ≤ x → x < a + n → p x ≡ q x) → list_all p (range_with_len a n) ≡ list_all q (range_with_len a n)
all_range p q a zero same = refl
all_range p q a (suc n) same =
    let here : p a ≡ q a = same a (omega arith) (omega arith) in
    let rest : list_all p (range_with_len (a + 1) n) ≡ list_all q (range_with_len (a + 1) n) = all_range p q (a + 1) n (λ x from upto. same x (omega arith) (omega arith)) in
    rw (here, rest) refl

-- the members of a set of channels
pub members_named : (set : List Bool) → has set 0 ≡ false → length set ≡ CHANNEL_PLACES → members_of set ≡ filter (has set) channel_numbers
members_named set none size =
    let by_length : members_of set ≡ filter (has set) (range_with_len 0 CHANNEL_PLACES) = ap (λ n. filter (has set) (range_with_len 0 n)) size in
    by_length ∙ ap (λ (t : Bool). cond t (0 ∷ filter (has set) channel_numbers) (filter (has set) channel_numbers)) none

-- of a set of those that pass
pub passing_list : (set : List Bool) (passes : ℕ → Bool) → HasPassing set passes → filter (has set) channel_numbers ≡ filter passes channel_numbers
passing_list set passes h = filter_range (has set) passes 1 CHANNEL_LIMIT (λ x from upto. h.channels x from (omega arith))

pub passing_among : (set : List Bool) (passes : ℕ → Bool) → HasPassing set passes → (c : ℕ) → has set c ≡ among (filter passes channel_numbers) c
passing_among set passes h c =
    sym (list_any-members_of set c) ∙ ap (λ (xs : List ℕ). among xs c) (members_named set h.none h.size ∙ passing_list set passes h)

-- tests that agree on the channels agree on the members of a set of channels
pub all_named : (named : List Bool) (p q : ℕ → Bool) → has named 0 ≡ false → length named ≡ CHANNEL_PLACES → ((c : ℕ) → 1 ≤ c → c < CHANNEL_PLACES → p c ≡ q c)
    → list_all p (members_of named) ≡ list_all q (members_of named)
all_named named p q none size same =
    let listed : members_of named ≡ filter (has named) channel_numbers = members_named named none size in
    ap (λ (xs : List ℕ). list_all p xs) listed
    ∙ list_all-filter p (has named) channel_numbers
    ∙ all_range (λ x. not (has named x) || p x) (λ x. not (has named x) || q x) 1 CHANNEL_LIMIT (λ x from upto. ap (λ (b : Bool). not (has named x) || b) (same x from (omega arith)))
    ∙ sym (list_all-filter q (has named) channel_numbers)
    ∙ sym (ap (λ (xs : List ℕ). list_all q xs) listed)

-- no member fails where the set of those that fail is empty
pub none_fails : (s : List Bool) (p : ℕ → Bool) (failing : List Bool) (empty : Bool) → ((m : ℕ) → has failing m ≡ (has s m && not (p m)))
    → (IsTrue empty ↔ IsEmpty failing) → empty ≡ list_all p (members_of s)
none_fails s p failing empty is same = elim (cases_Bool (list_all p (members_of s))) [
  | inl all ↦ same.1 (λ m. is m ∙ passed (has s m) (p m) (list_all-at_member s p m all)) ∙ sym all
  | inr not_all ↦ elim (cases_Bool empty) [
    | inl none ↦ no_truth (list_all p (members_of s)) (list_all-members_of s p (λ m member. must (has s m) (p m) member (sym (is m) ∙ same.0 none m))) not_all
    | inr some ↦ some ∙ sym not_all
  ]
]
  where
    passed : (a b : Bool) → (a ≡ true → b ≡ true) → (a && not b) ≡ false
    passed true true h = refl
    passed true false h = sym (h refl)
    passed false b h = refl

    must : (a b : Bool) → a ≡ true → (a && not b) ≡ false → b ≡ true
    must true true on off = refl
    must true false on off = no_truth true refl off
    must false b on off = no_truth false on refl

-- some pass where not all fail
pub some_pass_where : (q : ℕ → Bool) (xs : List ℕ) → not (list_all (λ x. not (q x)) xs) ≡ list_any q xs
some_pass_where q [] = refl
some_pass_where q (x ∷ xs) = next (q x) (list_all (λ x. not (q x)) xs) (list_any q xs) (some_pass_where q xs)
  where
    next : (a b c : Bool) → not b ≡ c → not (not a && b) ≡ (a || c)
    next true b c h = refl
    next false b c h = h

-- the first that passes
pub first_found : (p : ℕ → Bool) (a n m : ℕ) → a ≤ m → m < a + n → ((x : ℕ) → a ≤ x → x < m → p x ≡ false) → p m ≡ true → first_of (filter p (range_with_len a n)) ≡ Some m
first_found p a zero m from upto before on = absurd (omega arith)
first_found p a (suc n) m from upto before on = elim (cases_eq a m) [
  | inl here ↦ let now : p a ≡ true = ap p here ∙ on in rw now (ap (λ (x : ℕ). Some x) here)
  | inr other ↦
      let off : p a ≡ false = before a (omega arith) (omega arith) in
      rw off (first_found p (a + 1) n m (omega arith) (omega arith) (λ x low high. before x (omega arith) high) on)
]

pub none_found : (p : ℕ → Bool) (a n : ℕ) → ((x : ℕ) → a ≤ x → x < a + n → p x ≡ false) → first_of (filter p (range_with_len a n)) ≡ None
none_found p a zero all = refl
none_found p a (suc n) all =
    let off : p a ≡ false = all a (omega arith) (omega arith) in
    rw off (none_found p (a + 1) n (λ x from upto. all x (omega arith) (omega arith)))

-- the members of a set that another has
pub minus_twice : (a b : Bool) → (a && not (a && not b)) ≡ (a && not (not b))
minus_twice true true = refl
minus_twice true false = refl
minus_twice false b = refl

-- some channel passes where there is a first one
pub some_where_first : (p : ℕ → Bool) (xs : List ℕ) → is_some (first_of (filter p xs)) ≡ list_any p xs
some_where_first p [] = refl
some_where_first p (x ∷ xs) = elim (cases_Bool (p x)) [
  | inl on ↦ rw on refl
  | inr off ↦ rw off (some_where_first p xs)
]

pub turned : (a b : Bool) → a ≡ not b → b ≡ not a
turned true true e = e
turned true false e = refl
turned false true e = refl
turned false false e = e

-- the channels from a number on
pub next_kept : (p : ℕ → Bool) (n : ℕ) → n < CHANNEL_PLACES
    → filter p (range_with_len n (CHANNEL_PLACES - n)) ≡ cond (p n) (n ∷ filter p (range_with_len (n + 1) (CHANNEL_PLACES - (n + 1)))) (filter p (range_with_len (n + 1) (CHANNEL_PLACES - (n + 1))))
next_kept p n below =
    let more : CHANNEL_PLACES - n ≡ suc (CHANNEL_PLACES - (n + 1)) = omega arith in
    ap (λ (k : ℕ). filter p (range_with_len n k)) more
