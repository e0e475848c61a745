-- The row that the arrays give a Go is the run's.
use Rattle.axis_sets.specs.declared.limits.TheConstants.{CHANNEL_PLACES}
use Rattle.std.proofs.Common.{◌≡◌, ℕ, zero, suc, ◌+◌, ◌<◌, ◌≤◌, ◌⊎◌, ◌==◌, ◌&&◌, ◌||◌, max, cond, Bool, true, false, inl, inr, List, [], ◌∷◌, map, filter, length, slice_index, slice_index_or, refl, sym, ap, ◌∙◌, arith, if◌then◌else◌}
use Rattle.order_clocks.specs.Happenings.{Key, Raised}
use Rattle.order_clocks.specs.Chains.{IsIn}
use Rattle.std.proofs.Math.Path.{fun_ext}
use Rattle.std.proofs.lemmas.Bool.{cases_Bool, cases_eq, cases_lt, eq-eqb, ne_eqb, and_left}
use Rattle.std.proofs.Math.ListN.{get_or-eq_default}
use Rattle.std.specs.List.{range_with_len}
use Rattle.axis_sets.specs.Sets.{has, members_of}
use Rattle.sync_types.specs.Boards.{among}
use Rattle.order_clocks.specs.Courses.{Course}
use Rattle.order_clocks.specs.Counters.{LastRows, own_row, members, go_row}
use Rattle.counter_rows.specs.Rows.{top, count_of, in_group, joint_top, joint_count}

pub top_same : {A : Type 0} (f h : A → ℕ) (xs : List A) → ((a : A) → IsIn a xs → f a ≡ h a) → top f xs ≡ top h xs
top_same f h [] same = refl
top_same f h (x ∷ xs) same = ap (λ (n : ℕ). max n (top f xs)) (same x (inl refl)) ∙ ap (λ (n : ℕ). max (h x) n) (top_same f h xs (λ a within. same a (inr within)))

filter_twice : (p q : ℕ → Bool) (xs : List ℕ) → filter p (filter q xs) ≡ filter (λ c. q c && p c) xs
filter_twice p q [] = refl
filter_twice p q (x ∷ xs) = elim (cases_Bool (q x)) [
  | inl on ↦ rw on (elim (cases_Bool (p x)) [
    | inl kept ↦ rw kept (ap (λ (ys : List ℕ). x ∷ ys) (filter_twice p q xs))
    | inr left ↦ rw left (filter_twice p q xs)
  ])
  | inr off ↦ rw off (filter_twice p q xs)
]

pub in_range : (p : ℕ → Bool) (a n c : ℕ) → IsIn c (filter p (range_with_len a n)) → (a ≤ c) × (c < a + n)
in_range p a zero c within = elim within [ ]
in_range p a (suc n) c within = elim (cases_Bool (p a)) [
  | inl on ↦ elim (rw on at within) as (λ w. (a ≤ c) × (c < a + suc n)) [
    | inl e ↦ (omega arith, omega arith)
    | inr later ↦ let r = in_range p (a + 1) n c later in (omega arith, omega arith)
  ]
  | inr off ↦ let r = in_range p (a + 1) n c (rw off at within) in (omega arith, omega arith)
]

any_kept : (b : Bool) (x c : ℕ) (xs : List ℕ) → among (cond b (x ∷ xs) xs) c ≡ ((b && (x == c)) || among xs c)
any_kept true x c xs = refl
any_kept false x c xs = refl

pub unlisted : (p : ℕ → Bool) (a n c : ℕ) → (c < a) ⊎ (a + n ≤ c) → among (filter p (range_with_len a n)) c ≡ false
unlisted p a zero c out = refl
unlisted p a (suc n) c out =
    let apart : (a == c) ≡ false = ne_eqb a c (λ e. elim out [ inl h ↦ omega arith | inr h ↦ omega arith ]) in
    let rest : among (filter p (range_with_len (a + 1) n)) c ≡ false = unlisted p (a + 1) n c (elim out [ inl h ↦ inl (omega arith) | inr h ↦ inr (omega arith) ]) in
    any_kept (p a) a c (filter p (range_with_len (a + 1) n)) ∙ rw (apart, rest) (neither (p a))
  where
    neither : (b : Bool) → ((b && false) || false) ≡ false
    neither true = refl
    neither false = refl

pub listed : (p : ℕ → Bool) (a n c : ℕ) → a ≤ c → c < a + n → among (filter p (range_with_len a n)) c ≡ p c
listed p a zero c from upto = absurd (omega arith)
listed p a (suc n) c from upto = elim (cases_eq a c) [
  | inl here ↦ any_kept (p a) a c (filter p (range_with_len (a + 1) n)) ∙ rw (here, eq-eqb c c refl, unlisted p (c + 1) n c (inl (omega arith))) (only (p c))
  | inr other ↦ any_kept (p a) a c (filter p (range_with_len (a + 1) n)) ∙ rw (ne_eqb a c other, listed p (a + 1) n c (omega arith) (omega arith)) (later (p a) (p c))
]
  where
    only : (b : Bool) → ((b && true) || false) ≡ b
    only true = refl
    only false = refl

    later : (b d : Bool) → ((b && false) || d) ≡ d
    later true d = refl
    later false d = refl

pub members_are : (run : Course) (i g : ℕ) (goes : List Bool) (group : List ℕ) → run.goers i ≡ members_of goes → length goes ≡ CHANNEL_PLACES → ((c : ℕ) → run.group i c ≡ slice_index group c)
    → members run i g ≡ filter (in_group goes group g) (range_with_len 0 CHANNEL_PLACES)
members_are run i g goes group goers size same =
    ap (λ (xs : List ℕ). filter (λ c. run.group i c == g) xs) goers
    ∙ (filter_twice (λ c. run.group i c == g) (has goes) (range_with_len 0 (length goes))
    ∙ (ap (λ (n : ℕ). filter (λ c. has goes c && (run.group i c == g)) (range_with_len 0 n)) size
    ∙ ap (λ (p : ℕ → Bool). filter p (range_with_len 0 CHANNEL_PLACES)) (fun_ext (λ c. ap (λ (k : ℕ). has goes c && (k == g)) (same c)))))

pub contains_group : (goes : List Bool) (group : List ℕ) (g x : ℕ) → length goes ≡ CHANNEL_PLACES → among (filter (in_group goes group g) (range_with_len 0 CHANNEL_PLACES)) x ≡ in_group goes group g x
contains_group goes group g x size = elim (cases_lt x CHANNEL_PLACES) [
  | inl below ↦ listed (in_group goes group g) 0 CHANNEL_PLACES x (omega arith) (omega arith)
  | inr past ↦ unlisted (in_group goes group g) 0 CHANNEL_PLACES x (inr (omega arith)) ∙ sym (and_left (has goes x) (slice_index group x == g) (get_or-eq_default goes false (omega arith)))
]

pub joint_is_go : (run : Course) (i : ℕ) (s : LastRows) (own : List (List ℕ)) (goes : List Bool) (group : List ℕ) (g x : ℕ)
    → run.goers i ≡ members_of goes → length goes ≡ CHANNEL_PLACES → ((c : ℕ) → run.group i c ≡ slice_index group c)
    → ((c : ℕ) → c < CHANNEL_PLACES → count_of (slice_index_or own c []) x ≡ own_row run i s c x)
    → joint_count own goes group g x ≡ go_row run i s g x
unfolding go_row
joint_is_go run i s own goes group g x goers size same owns =
    ap (λ (b : Bool). if b then suc (joint_top own goes group g x) else joint_top own goes group g x) (sym (contains_group goes group g x size))
    ∙ (ap (λ (n : ℕ). if among (filter (in_group goes group g) (range_with_len 0 CHANNEL_PLACES)) x then suc n else n)
    (top_same (λ c. count_of (slice_index_or own c []) x) (λ c. own_row run i s c x) (filter (in_group goes group g) (range_with_len 0 CHANNEL_PLACES))
    (λ c within. owns c (let r = in_range (in_group goes group g) 0 CHANNEL_PLACES c within in omega arith)))
    ∙ ap (λ (ms : List ℕ). if among ms x then suc (top (λ c. own_row run i s c x) ms) else top (λ c. own_row run i s c x) ms) (sym (members_are run i g goes group goers size same)))

pub top_map : {A : Type 0} (f : A → ℕ) (h : ℕ → A) (xs : List ℕ) → top f (map h xs) ≡ top (λ x. f (h x)) xs
top_map f h [] = refl
top_map f h (x ∷ xs) = ap (λ (n : ℕ). max (f (h x)) n) (top_map f h xs)

-- a Go at marks: the arrays that show the state give its own row
pub own_is : (run : Course) (i : ℕ) (s : LastRows) (past : List (List ℕ)) (raised : List (List (List ℕ))) (named : List Bool) (c m x : ℕ)
    → run.asks i c ≡ map (λ d. Raised d m) (members_of named) → length named ≡ CHANNEL_PLACES
    → count_of (slice_index_or past c []) x ≡ s.past c x
    → ((d : ℕ) → d < CHANNEL_PLACES → count_of (slice_index_or (slice_index_or raised m []) d []) x ≡ s.last (Raised d m) x)
    → max (count_of (slice_index_or past c []) x) (top (λ d. count_of (slice_index_or (slice_index_or raised m []) d []) x) (members_of named)) ≡ own_row run i s c x
unfolding own_row
own_is run i s past raised named c m x asks size here last =
    ap (λ (n : ℕ). max n (top (λ d. count_of (slice_index_or (slice_index_or raised m []) d []) x) (members_of named))) here
    ∙ (ap (λ (n : ℕ). max (s.past c x) n)
    (top_same (λ d. count_of (slice_index_or (slice_index_or raised m []) d []) x) (λ d. s.last (Raised d m) x) (members_of named)
    (λ d within. last d (let r = in_range (has named) 0 (length named) d within in omega arith))
    ∙ sym (top_map (λ k. s.last k x) (λ d. Raised d m) (members_of named)))
    ∙ ap (λ (ks : List Key). max (s.past c x) (top (λ k. s.last k x) ks)) (sym asks))
