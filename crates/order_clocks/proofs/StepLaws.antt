-- What the arrays of a step show.
use Rattle.axis_sets.specs.declared.limits.TheConstants.{CHANNEL_PLACES}
use Rattle.std.proofs.Common.{◌≡◌, ℕ, suc, ◌+◌, ◌^◌, ◌<◌, ◌≤◌, ◌==◌, ◌&&◌, max, Bool, true, false, inl, inr, List, [], ◌∷◌, map, filter, length, Option, Some, None, slice_index, slice_index_or, refl, sym, ap, ◌∙◌, arith, if◌then◌else◌}
use Rattle.order_clocks.specs.Happenings.{Key, Raised, Freed, Started, Ended}
use Rattle.order_clocks.specs.Chains.{IsIn}
use Rattle.std.proofs.lemmas.Bool.{cases_Bool, cases_lt, eqb-true, and_parts, and_from, true≢false}
use Rattle.std.proofs.Math.ListN.{get_or-eq_default}
use Rattle.std.specs.List.{range_with_len}
use Rattle.axis_sets.specs.Sets.{has, members_of}
use Rattle.sync_types.specs.Boards.{among}
use Rattle.order_clocks.specs.Courses.{Course}
use Rattle.order_clocks.specs.Counters.{LastRows, act_row, rows_after_act, own_row, members, go_row, rows_after_goings}
use Rattle.counter_rows.specs.Rows.{top, count_of, in_group, joint_top, joint_count}
use Rattle.order_clocks.specs.Steps.{gives_of, keys_of, IsStep, row_at, Shows, HasRoom}
use Rattle.step_deeds.specs.declared.deed.Hold.TheVariants.{Marks, Ends, Axes}
use Rattle.step_deeds.specs.declared.deed.WaitAt.{WaitAt}
use Rattle.step_deeds.specs.declared.deed.Wakeup.{Wakeup}
use Rattle.step_deeds.specs.declared.deed.StepEvents.{StepEvents}
use Rattle.order_clocks.specs.declared.times.LastClocks.{LastClocks}
use Rattle.order_clocks.proofs.CounterLaws.{top_above, in_filter, filter_in, is_in, contains_from, opened_actor, opened_other, opened_given, opened_kept, closed_goer, closed_other, closed_last}
use Rattle.order_clocks.proofs.GoRowLaws.{top_same, top_map, in_range, contains_group}
use Rattle.step_deeds.specs.Holds.{departure_of, goes_in}

pub row_at_same : (t u : LastClocks) → t.raised ≡ u.raised → t.freed ≡ u.freed → t.started ≡ u.started → t.ended ≡ u.ended → (k : Key) → row_at t k ≡ row_at u k
row_at_same t u raised freed started ended (Raised c m) = ap (λ (r : List (List (List ℕ))). slice_index_or (slice_index_or r m []) c []) raised
row_at_same t u raised freed started ended (Freed x) = ap (λ (r : List (List ℕ)). slice_index_or r x []) freed
row_at_same t u raised freed started ended (Started c) = ap (λ (r : List (List ℕ)). slice_index_or r c []) started
row_at_same t u raised freed started ended (Ended c) = ap (λ (r : List (List ℕ)). slice_index_or r c []) ended

-- the keys of a Go, by its hold
pub asked_marks : (c : ℕ) (gone : Option Wakeup) (g : Wakeup) (h : WaitAt) (m : ℕ) (named : List Bool) → gone ≡ Some g → g.held ≡ Some h → h.hold ≡ Marks m named → keys_of c gone ≡ map (λ d. Raised d m) (members_of named)
asked_marks c x g h m named one two three = rw (one, two, three) refl

pub asked_ends : (c : ℕ) (gone : Option Wakeup) (g : Wakeup) (h : WaitAt) (named : List Bool) → gone ≡ Some g → g.held ≡ Some h → h.hold ≡ Ends named → keys_of c gone ≡ map Ended (members_of named)
asked_ends c x g h named one two three = rw (one, two, three) refl

pub asked_axes : (c : ℕ) (gone : Option Wakeup) (g : Wakeup) (h : WaitAt) (axes : List Bool) → gone ≡ Some g → g.held ≡ Some h → h.hold ≡ Axes axes → keys_of c gone ≡ map Freed (members_of g.took)
asked_axes c x g h axes one two three = rw (one, two, three) refl

pub most_is : {A : Type 0} (f : A → ℕ) (h : ℕ → A) (places named : List Bool) (start past : ℕ) (keys : List A) → places ≡ named → start ≡ past → keys ≡ map h (members_of named)
    → max start (top (λ d. f (h d)) (members_of places)) ≡ max past (top f keys)
most_is {A} f h places named start past keys one two three =
    ap (λ (s : List Bool). max start (top (λ d. f (h d)) (members_of s))) one
    ∙ (ap (λ (n : ℕ). max n (top (λ d. f (h d)) (members_of named))) two
    ∙ (ap (λ (n : ℕ). max past n) (sym (top_map f h (members_of named)))
    ∙ ap (λ (ks : List A). max past (top f ks)) (sym three)))

-- the greatest over two lists with the same members
pub top_upto : {A : Type 0} (f : A → ℕ) (xs : List A) (n : ℕ) → ((a : A) → IsIn a xs → f a ≤ n) → top f xs ≤ n
top_upto f [] n all = omega arith
top_upto f (x ∷ xs) n all =
    let one = all x (inl refl) in
    let two = top_upto f xs n (λ a within. all a (inr within)) in
    elim (cases_lt (f x) (top f xs)) [ inl h ↦ omega arith | inr h ↦ omega arith ]

pub top_alike : {A : Type 0} (f h : A → ℕ) (xs ys : List A) → ((a : A) → IsIn a xs → IsIn a ys × (f a ≡ h a)) → ((a : A) → IsIn a ys → IsIn a xs × (f a ≡ h a)) → top f xs ≡ top h ys
top_alike f h xs ys to back =
    let low = top_upto f xs (top h ys) (λ a within. let t = to a within in let up = top_above h ys a t.0 in let same : f a ≡ h a = t.1 in omega arith) in
    let high = top_upto h ys (top f xs) (λ a within. let t = back a within in let up = top_above f xs a t.0 in let same : f a ≡ h a = t.1 in omega arith) in
    omega arith

contains_filter : (p : ℕ → Bool) (xs : List ℕ) (x : ℕ) → among (filter p xs) x ≡ (among xs x && p x)
contains_filter p xs x = elim (cases_Bool (among (filter p xs) x)) [
  | inl on ↦
      let parts = in_filter p xs x (is_in (filter p xs) x on) in
      on ∙ sym (and_from (among xs x) (p x) (contains_from xs x parts.0) parts.1)
  | inr off ↦ elim (cases_Bool (among xs x && p x)) [
    | inl both ↦
        let parts = and_parts (among xs x) (p x) both in
        absurd (true≢false (sym (contains_from (filter p xs) x (filter_in p xs x (is_in xs x parts.0) parts.1)) ∙ off))
    | inr none ↦ off ∙ sym none
  ]
]

both_same : (b p q : Bool) → (b ≡ true → p ≡ q) → (b && p) ≡ (b && q)
both_same true p q same = same refl
both_same false p q same = refl

-- those that go with a channel are the members of its event
group_is : (run : Course) (i : ℕ) (deed : StepEvents) (goes : List Bool) (c x : ℕ) → IsStep run i deed → ((d : ℕ) → has goes d ≡ goes_in deed d) → goes_in deed c ≡ true
    → among (members run i (run.group i c)) x ≡ in_group goes deed.group (slice_index deed.group c) x
group_is run i deed goes c x is same here =
    contains_filter (λ d. run.group i d == run.group i c) (run.goers i) x
    ∙ (ap (λ (b : Bool). b && (run.group i x == run.group i c)) (is.goers x ∙ sym (same x))
    ∙ both_same (has goes x) (run.group i x == run.group i c) (slice_index deed.group x == slice_index deed.group c) (λ on. is.group c x here (sym (same x) ∙ on)))

pub below_nine : (goes : List Bool) (c : ℕ) → length goes ≡ CHANNEL_PLACES → has goes c ≡ true → c < CHANNEL_PLACES
below_nine goes c size on = elim (cases_lt c CHANNEL_PLACES) [
  | inl below ↦ below
  | inr past ↦ absurd (true≢false (sym on ∙ get_or-eq_default goes false (omega arith)))
]

own_shows : (run : Course) (i : ℕ) (s : LastRows) (deed : StepEvents) (t : LastClocks) (c x : ℕ) → IsStep run i deed → Shows t s → goes_in deed c ≡ true
    → max (count_of (slice_index_or t.past c []) x) (top (λ k. count_of (row_at t k) x) (keys_of c (departure_of deed c))) ≡ own_row run i s c x
unfolding own_row
own_shows run i s deed t c x is shows here =
    ap (λ (n : ℕ). max n (top (λ k. count_of (row_at t k) x) (keys_of c (departure_of deed c)))) (shows.past c x)
    ∙ (ap (λ (n : ℕ). max (s.past c x) n) (top_same (λ k. count_of (row_at t k) x) (λ k. s.last k x) (keys_of c (departure_of deed c)) (λ k within. shows.last k x))
    ∙ ap (λ (n : ℕ). max (s.past c x) n) (top_alike (λ k. s.last k x) (λ k. s.last k x) (keys_of c (departure_of deed c)) (run.asks i c) (λ k w. ((is.asks c here k).1 w, refl)) (λ k w. ((is.asks c here k).0 w, refl))))

pub go_shows : (run : Course) (i : ℕ) (s : LastRows) (deed : StepEvents) (t : LastClocks) (goes : List Bool) (own : List (List ℕ)) (c x : ℕ)
    → IsStep run i deed → Shows t s → ((d : ℕ) → has goes d ≡ goes_in deed d) → length goes ≡ CHANNEL_PLACES
    → ((d y : ℕ) → d < CHANNEL_PLACES → count_of (slice_index_or own d []) y ≡ max (count_of (slice_index_or t.past d []) y) (top (λ k. count_of (row_at t k) y) (keys_of d (departure_of deed d))))
    → goes_in deed c ≡ true
    → joint_count own goes deed.group (slice_index deed.group c) x ≡ go_row run i s (run.group i c) x
unfolding go_row
go_shows run i s deed t goes own c x is shows same size owns here =
    let g = slice_index deed.group c in
    let test : among (members run i (run.group i c)) x ≡ in_group goes deed.group g x = group_is run i deed goes c x is same here in
    let most : joint_top own goes deed.group g x ≡ top (λ d. own_row run i s d x) (members run i (run.group i c)) =
    top_alike (λ d. count_of (slice_index_or own d []) x) (λ d. own_row run i s d x) (filter (in_group goes deed.group g) (range_with_len 0 CHANNEL_PLACES)) (members run i (run.group i c))
    (λ d within.
    let on : in_group goes deed.group g d ≡ true = sym (contains_group goes deed.group g d size) ∙ contains_from (filter (in_group goes deed.group g) (range_with_len 0 CHANNEL_PLACES)) d within in
    (is_in (members run i (run.group i c)) d (group_is run i deed goes c d is same here ∙ on), alike d on))
    (λ d within.
    let on : in_group goes deed.group g d ≡ true = sym (group_is run i deed goes c d is same here) ∙ contains_from (members run i (run.group i c)) d within in
    (is_in (filter (in_group goes deed.group g) (range_with_len 0 CHANNEL_PLACES)) d (contains_group goes deed.group g d size ∙ on), alike d on)) in
    ap (λ (b : Bool). if b then suc (joint_top own goes deed.group g x) else joint_top own goes deed.group g x) (sym test)
    ∙ ap (λ (n : ℕ). if among (members run i (run.group i c)) x then suc n else n) most
  where
    alike : (d : ℕ) → in_group goes deed.group (slice_index deed.group c) d ≡ true → count_of (slice_index_or own d []) x ≡ own_row run i s d x
    alike d on =
        let parts = and_parts (has goes d) (slice_index deed.group d == slice_index deed.group c) on in
        owns d x (below_nine goes d size parts.0) ∙ own_shows run i s deed t d x is shows (sym (same d) ∙ parts.0)

-- the Act
pub act_shows : (run : Course) (i : ℕ) (s : LastRows) (deed : StepEvents) (t : LastClocks) (row : List ℕ) → IsStep run i deed → Shows t s
    → ((x : ℕ) → count_of row x ≡ (if x == deed.channel then suc (count_of (slice_index_or t.past deed.channel []) x) else count_of (slice_index_or t.past deed.channel []) x))
    → (x : ℕ) → count_of row x ≡ act_row run i s x
unfolding act_row
act_shows run i s deed t row is shows counts x =
    counts x
    ∙ (ap (λ (n : ℕ). if x == deed.channel then suc n else n) (shows.past deed.channel x)
    ∙ ap (λ (c : ℕ). if x == c then suc (s.past c x) else s.past c x) (sym is.actor))

pub opened_shows : (run : Course) (i : ℕ) (s : LastRows) (deed : StepEvents) (t u : LastClocks) (row : List ℕ) → IsStep run i deed → Shows t s
    → ((x : ℕ) → count_of row x ≡ act_row run i s x)
    → ((c : ℕ) → slice_index_or u.past c [] ≡ (if c == deed.channel then row else slice_index_or t.past c []))
    → ((k : Key) → row_at u k ≡ (if gives_of deed k then row else row_at t k))
    → Shows u (rows_after_act run i s)
opened_shows run i s deed t u row is shows counts past last = record {
  past = λ c x. elim (cases_Bool (c == deed.channel)) [
    | inl on ↦
        let e : run.actor i ≡ c = is.actor ∙ sym (eqb-true c deed.channel on) in
        ap (λ (r : List ℕ). count_of r x) (past c ∙ rw on refl) ∙ (counts x ∙ sym (opened_actor run i s c x e))
    | inr off ↦
        let other : (c == run.actor i) ≡ false = rw is.actor off in
        ap (λ (r : List ℕ). count_of r x) (past c ∙ rw off refl) ∙ (shows.past c x ∙ sym (opened_other run i s c x other))
  ];
  last = λ k x. elim (cases_Bool (gives_of deed k)) [
    | inl on ↦ ap (λ (r : List ℕ). count_of r x) (last k ∙ rw on refl) ∙ (counts x ∙ sym (opened_given run i s k x (is.gives k ∙ on)))
    | inr off ↦ ap (λ (r : List ℕ). count_of r x) (last k ∙ rw off refl) ∙ (shows.last k x ∙ sym (opened_kept run i s k x (is.gives k ∙ off)))
  ];
}

-- the Gos
pub closed_shows : (run : Course) (i : ℕ) (s : LastRows) (deed : StepEvents) (t u : LastClocks) (goes : List Bool) (rows : List (List ℕ)) → IsStep run i deed → Shows t s
    → ((d : ℕ) → has goes d ≡ goes_in deed d)
    → ((c x : ℕ) → goes_in deed c ≡ true → count_of (slice_index_or rows c []) x ≡ go_row run i s (run.group i c) x)
    → ((c : ℕ) → slice_index_or u.past c [] ≡ (if has goes c then slice_index_or rows c [] else slice_index_or t.past c []))
    → ((k : Key) → row_at u k ≡ row_at t k)
    → Shows u (rows_after_goings run i s)
closed_shows run i s deed t u goes rows is shows same counts past last = record {
  past = λ c x. elim (cases_Bool (has goes c)) [
    | inl on ↦
        let here : goes_in deed c ≡ true = sym (same c) ∙ on in
        ap (λ (r : List ℕ). count_of r x) (past c ∙ rw on refl) ∙ (counts c x here ∙ sym (closed_goer run i s c x (is.goers c ∙ here)))
    | inr off ↦
        let none : goes_in deed c ≡ false = sym (same c) ∙ off in
        ap (λ (r : List ℕ). count_of r x) (past c ∙ rw off refl) ∙ (shows.past c x ∙ sym (closed_other run i s c x (is.goers c ∙ none)))
  ];
  last = λ k x. ap (λ (r : List ℕ). count_of r x) (last k) ∙ (shows.last k x ∙ sym (closed_last run i s k x));
}

-- room
pub top_room : {A : Type 0} (f : A → ℕ) (xs : List A) (n : ℕ) → 1 < n → ((a : A) → IsIn a xs → f a + 1 < n) → top f xs + 1 < n
top_room f [] n low all = omega arith
top_room f (x ∷ xs) n low all =
    let one = all x (inl refl) in
    let two = top_room f xs n low (λ a within. all a (inr within)) in
    elim (cases_lt (f x) (top f xs)) [ inl h ↦ omega arith | inr h ↦ omega arith ]

pub joint_room : (t : LastClocks) (goes : List Bool) (gone : List (Option Wakeup)) (group : List ℕ) (own : List (List ℕ)) (g x : ℕ) → HasRoom t 1
    → ((d y : ℕ) → d < CHANNEL_PLACES → count_of (slice_index_or own d []) y ≡ max (count_of (slice_index_or t.past d []) y) (top (λ k. count_of (row_at t k) y) (keys_of d (slice_index_or gone d None))))
    → joint_top own goes group g x + 1 < 2 ^ 64
joint_room t goes gone group own g x room owns =
    top_room (λ d. count_of (slice_index_or own d []) x) (filter (in_group goes group g) (range_with_len 0 CHANNEL_PLACES)) (2 ^ 64) (omega arith) (λ d within.
    let r = in_range (in_group goes group g) 0 CHANNEL_PLACES d within in
    let is = owns d x (omega arith) in
    let one = room.past d x in
    let two = top_room (λ k. count_of (row_at t k) x) (keys_of d (slice_index_or gone d None)) (2 ^ 64) (omega arith) (λ k _. room.last k x) in
    elim (cases_lt (count_of (slice_index_or t.past d []) x) (top (λ k. count_of (row_at t k) x) (keys_of d (slice_index_or gone d None)))) [ inl h ↦ omega arith | inr h ↦ omega arith ])

pub opened_room : (deed : StepEvents) (t u : LastClocks) (row : List ℕ) → HasRoom t 2
    → ((x : ℕ) → count_of row x ≡ (if x == deed.channel then suc (count_of (slice_index_or t.past deed.channel []) x) else count_of (slice_index_or t.past deed.channel []) x))
    → ((c : ℕ) → slice_index_or u.past c [] ≡ (if c == deed.channel then row else slice_index_or t.past c []))
    → ((k : Key) → row_at u k ≡ (if gives_of deed k then row else row_at t k))
    → HasRoom u 1
opened_room deed t u row room counts past last = record {
  past = λ c x. elim (cases_Bool (c == deed.channel)) [
    | inl on ↦ let e : slice_index_or u.past c [] ≡ row = past c ∙ rw on refl in rw e (low x)
    | inr off ↦ let old = room.past c x in let e : slice_index_or u.past c [] ≡ slice_index_or t.past c [] = past c ∙ rw off refl in rw e (omega arith)
  ];
  last = λ k x. elim (cases_Bool (gives_of deed k)) [
    | inl on ↦ let e : row_at u k ≡ row = last k ∙ rw on refl in rw e (low x)
    | inr off ↦ let old = room.last k x in let e : row_at u k ≡ row_at t k = last k ∙ rw off refl in rw e (omega arith)
  ];
}
  where
    low : (x : ℕ) → count_of row x + 1 < 2 ^ 64
    low x =
        let old = room.past deed.channel x in
        elim (cases_Bool (x == deed.channel)) [
          | inl on ↦ let e : count_of row x ≡ suc (count_of (slice_index_or t.past deed.channel []) x) = counts x ∙ rw on refl in omega arith
          | inr off ↦ let e : count_of row x ≡ count_of (slice_index_or t.past deed.channel []) x = counts x ∙ rw off refl in omega arith
        ]
