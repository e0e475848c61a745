-- Channels that go on as one event name each other, where what goes on at marks is clean.
use Rattle.std.proofs.Common.{◌≡◌, ℕ, ◌⊎◌, ◌==◌, ◌&&◌, ◌||◌, Bool, true, false, List, [], ◌∷◌, ◌++◌, map, Option, Some, None, inl, inr, refl, sym, ap, ap₂, subst, ◌∙◌}
use Rattle.std.proofs.lemmas.Bool.{cases_Bool, eqb-true, and_parts, and_from, or_right, true≢false}
use Rattle.std.specs.List.{list_any}
use Rattle.sync_types.specs.Boards.{State as Doing, IsHolding, AtMarks, AtEnds, AtAxes, Board, among}
use Rattle.sync_types.specs.Events.{Pair, ArePaired, IsChain, channels_in, number_of, names_at, name_each_other, name_each_other_at, pairs_with, pairs_between, pairs_of}
use Rattle.sync_types.specs.GoingOn.{Going}
use Rattle.sync_types.specs.Turns.{Move}
use Rattle.order_clocks.specs.Groups.{labels}
use Rattle.order_clocks.specs.Happenings.{happening_at}
use Rattle.order_clocks.proofs.GroupLaws.{chained_from, chained_to, chained_pair}
use Rattle.board_laws.specs.Machine.{Mark, End, Axis, Seat, In, Called, State, same, asks, is_at, ready}
use Rattle.board_laws.specs.Clean.{SameSet, GoesClean}
use Rattle.board_laws.proofs.Basics.{no, mark_at}
use Rattle.board_laws.proofs.Takings.{IsOf, in_channels}
use Rattle.board_laws.proofs.Shown.{eqb_turned, at_quick}
use Rattle.board_laws.proofs.Goings.{Went, from_of, quick_in_goings}
use Rattle.schedule_laws.specs.Tracked.{goes_in}
use Rattle.schedule_laws.proofs.Steps.{Here, mid, starts, goings_told, went_told}

-- what goes on at marks goes with all that name it, and all have one set
pub record Meets (t : State) : Type 0 where
  pub goes : (d c k : ℕ) → ready t d ≡ true → is_at (t.own d).seat k ≡ true → (c == d) ≡ false → asks (t.own c).seat (Mark d k) ≡ true → ready t c ≡ true
  pub set : (d c k : ℕ) → ready t d ≡ true → is_at (t.own d).seat k ≡ true → (c == d) ≡ false → asks (t.own c).seat (Mark d k) ≡ true → SameSet c (t.own c).seat d (t.own d).seat k

pub meets_from : (t : State) → GoesClean t → Meets t
meets_from t clean = record { goes = λ d c k r at n y. (clean.marks d c k r at n).goes y; set = λ d c k r at n y. (clean.marks d c k r at n).set y }

-- two that go on and name each other
pub record Mates (t : State) (c d : ℕ) : Type 0 where
  pub number : ℕ
  pub at_c : is_at (t.own c).seat number ≡ true
  pub at_d : is_at (t.own d).seat number ≡ true
  pub c_names : asks (t.own c).seat (Mark d number) ≡ true
  pub d_names : asks (t.own d).seat (Mark c number) ≡ true
  pub c_goes : ready t c ≡ true
  pub d_goes : ready t d ≡ true
  pub other : (c == d) ≡ false

abbrev pub Joined : State → ℕ → ℕ → Type 0
Joined t c d = (c ≡ d) ⊎ Mates t c d

pub mates_back : (t : State) (c d : ℕ) → Mates t c d → Mates t d c
mates_back t c d m = record { number = m.number; at_c = m.at_d; at_d = m.at_c; c_names = m.d_names; d_names = m.c_names; c_goes = m.d_goes; d_goes = m.c_goes; other = eqb_turned d c ∙ m.other }

one_number : (s : Seat) (j k : ℕ) → is_at s j ≡ true → is_at s k ≡ true → j ≡ k
one_number (In (IsHolding (AtMarks m named) line)) j k x y = sym (eqb-true m j x) ∙ eqb-true m k y
one_number s j k x y = absurd (true≢false (sym x))

pub joined_on : (t : State) (c e d : ℕ) → Meets t → Joined t c e → Joined t e d → Joined t c d
joined_on t c e d meets (inl s) r = subst (λ (x : ℕ). Joined t x d) (sym s) r
joined_on t c e d meets (inr m) (inl s) = inr (subst (λ (x : ℕ). Mates t c x) s m)
joined_on t c e d meets (inr m) (inr n) = elim (cases_Bool (c == d)) [
  | inl y ↦ inl (eqb-true c d y)
  | inr off ↦
      let k : m.number ≡ n.number = one_number (t.own e).seat m.number n.number m.at_d n.at_c in
      let e_names_d : asks (t.own e).seat (Mark d m.number) ≡ true = ap (λ (x : ℕ). asks (t.own e).seat (Mark d x)) k ∙ n.c_names in
      let d_names_e : asks (t.own d).seat (Mark e m.number) ≡ true = ap (λ (x : ℕ). asks (t.own d).seat (Mark e x)) k ∙ n.d_names in
      let at_d : is_at (t.own d).seat m.number ≡ true = ap (λ (x : ℕ). is_at (t.own d).seat x) k ∙ n.at_d in
      let set_c = meets.set e c m.number m.d_goes m.at_d m.other m.c_names in
      let set_d = meets.set e d m.number m.d_goes m.at_d (eqb_turned d e ∙ n.other) d_names_e in
      let c_names_d : asks (t.own c).seat (Mark d m.number) ≡ true = left_off (d == c) (asks (t.own c).seat (Mark d m.number)) (eqb_turned d c ∙ off) (set_c d ∙ or_right (d == e) (asks (t.own e).seat (Mark d m.number)) e_names_d) in
      let d_names_c : asks (t.own d).seat (Mark c m.number) ≡ true = left_off (c == d) (asks (t.own d).seat (Mark c m.number)) off (set_d c ∙ or_right (c == e) (asks (t.own e).seat (Mark c m.number)) m.d_names) in
      inr (record { number = m.number; at_c = m.at_c; at_d = at_d; c_names = c_names_d; d_names = d_names_c; c_goes = m.c_goes; d_goes = n.d_goes; other = off })
]
  where
    left_off : (a b : Bool) → a ≡ false → (a || b) ≡ true → b ≡ true
    left_off true b off on = no refl off
    left_off false b off on = on

-- names, as goings on have them
pub names_told : (s : Seat) (m d : ℕ) → names_at (from_of s) m d ≡ asks s (Mark d m)
unfolding asks
names_told (In (IsHolding (AtMarks k named) line)) m d = go named
  where
    go : (xs : List ℕ) → ((k == m) && among xs d) ≡ list_any (same (Mark d m)) (map (λ (e : ℕ). Mark e k) xs)
    go [] = and_false (k == m)
      where
        and_false : (b : Bool) → (b && false) ≡ false
        and_false true = refl
        and_false false = refl
    go (x ∷ xs) = spread (k == m) (x == d) (among xs d) ∙ ap₂ (λ (a b : Bool). a || b) (flip (k == m) (x == d) ∙ ap₂ (λ (a b : Bool). a && b) (eqb_turned x d) (eqb_turned k m)) (go xs)
      where
        spread : (a b c : Bool) → (a && (b || c)) ≡ ((a && b) || (a && c))
        spread true b c = refl
        spread false b c = refl

        flip : (a b : Bool) → (a && b) ≡ (b && a)
        flip true true = refl
        flip true false = refl
        flip false true = refl
        flip false false = refl
names_told (In (IsHolding (AtEnds named) line)) m d = go named
  where
    go : (xs : List ℕ) → false ≡ list_any (same (Mark d m)) (map (λ (e : ℕ). End e) xs)
    go [] = refl
    go (x ∷ xs) = go xs
names_told (In (IsHolding (AtAxes from_standing named) line)) m d = go named
  where
    go : (xs : List ℕ) → false ≡ list_any (same (Mark d m)) (map (λ (e : ℕ). Axis e) xs)
    go [] = refl
    go (x ∷ xs) = go xs
names_told (In state) m d = refl
names_told (Called p) m d = refl

number_told : (s : Seat) (k : ℕ) → is_at s k ≡ true → number_of (from_of s) ≡ Some k
number_told (In (IsHolding (AtMarks m named) line)) k on = ap Some (eqb-true m k on)
number_told s k on = absurd (true≢false (sym on))

-- pairs of a step
paired_append : (ps qs : List Pair) (c d : ℕ) → ArePaired (ps ++ qs) c d → ArePaired ps c d ⊎ ArePaired qs c d
paired_append [] qs c d on = inr on
paired_append (p ∷ ps) qs c d on = elim on [
  | inl one ↦ inl (inl one)
  | inr (inl two) ↦ inl (inr (inl two))
  | inr (inr rest) ↦ elim (paired_append ps qs c d rest) [ inl l ↦ inl (inr (inr l)) | inr r ↦ inr r ]
]

left_paired : (ps qs : List Pair) (c d : ℕ) → ArePaired ps c d → ArePaired (ps ++ qs) c d
left_paired [] qs c d on = absurd on
left_paired (p ∷ ps) qs c d on = elim on [
  | inl one ↦ inl one
  | inr (inl two) ↦ inr (inl two)
  | inr (inr rest) ↦ inr (inr (left_paired ps qs c d rest))
]

right_paired : (ps qs : List Pair) (c d : ℕ) → ArePaired qs c d → ArePaired (ps ++ qs) c d
right_paired [] qs c d on = on
right_paired (p ∷ ps) qs c d on = inr (inr (right_paired ps qs c d on))

-- two goings on that name each other
record Both (gs : List Going) (c d : ℕ) : Type 0 where
  pub g : Going
  pub h : Going
  pub g_in : IsOf g gs
  pub h_in : IsOf h gs
  pub names : name_each_other g h ≡ true
  pub channels : ((g.channel ≡ c) × (h.channel ≡ d)) ⊎ ((g.channel ≡ d) × (h.channel ≡ c))

with_parts : (g : Going) (hs : List Going) (c d : ℕ) → ArePaired (pairs_with g hs) c d
    → (h : Going) × (IsOf h hs × ((name_each_other g h ≡ true) × (((g.channel ≡ c) × (h.channel ≡ d)) ⊎ ((g.channel ≡ d) × (h.channel ≡ c)))))
with_parts g [] c d on = absurd on
with_parts g (h ∷ hs) c d on = elim (cases_Bool (name_each_other g h)) [
  | inl y ↦ elim (named y) [
    | inl one ↦ (h, (inl refl, (y, inl one)))
    | inr (inl two) ↦ (h, (inl refl, (y, inr two)))
    | inr (inr rest) ↦ let r = with_parts g hs c d rest in (r.0, (inr r.1.0, r.1.1))
  ]
  | inr n ↦ let r = with_parts g hs c d (unnamed n) in (r.0, (inr r.1.0, r.1.1))
]
  where
    named : name_each_other g h ≡ true → ((g.channel ≡ c) × (h.channel ≡ d)) ⊎ (((g.channel ≡ d) × (h.channel ≡ c)) ⊎ ArePaired (pairs_with g hs) c d)
    named y = rw y at on

    unnamed : name_each_other g h ≡ false → ArePaired (pairs_with g hs) c d
    unnamed n = rw n at on

with_from : (g h : Going) (hs : List Going) → IsOf h hs → name_each_other g h ≡ true → ArePaired (pairs_with g hs) g.channel h.channel
with_from g h [] on names = absurd on
with_from g h (x ∷ hs) on names = elim on [
  | inl here ↦ subst (λ (z : Going). ArePaired (pairs_with g (z ∷ hs)) g.channel h.channel) here (first names)
  | inr later ↦ elim (cases_Bool (name_each_other g x)) [
    | inl y ↦ more y (with_from g h hs later names)
    | inr n ↦ skip n (with_from g h hs later names)
  ]
]
  where
    first : name_each_other g h ≡ true → ArePaired (pairs_with g (h ∷ hs)) g.channel h.channel
    first y = rw y (inl (refl, refl))

    more : name_each_other g x ≡ true → ArePaired (pairs_with g hs) g.channel h.channel → ArePaired (pairs_with g (x ∷ hs)) g.channel h.channel
    more y r = rw y (inr (inr r))

    skip : name_each_other g x ≡ false → ArePaired (pairs_with g hs) g.channel h.channel → ArePaired (pairs_with g (x ∷ hs)) g.channel h.channel
    skip n r = rw n r

between_parts : (gs hs : List Going) (c d : ℕ) → ArePaired (pairs_between gs hs) c d
    → (g : Going) × ((h : Going) × (IsOf g gs × (IsOf h hs × ((name_each_other g h ≡ true) × (((g.channel ≡ c) × (h.channel ≡ d)) ⊎ ((g.channel ≡ d) × (h.channel ≡ c)))))))
between_parts [] hs c d on = absurd on
between_parts (g ∷ gs) hs c d on = elim (paired_append (pairs_with g hs) (pairs_between gs hs) c d on) [
  | inl l ↦ let r = with_parts g hs c d l in (g, (r.0, (inl refl, r.1)))
  | inr l ↦ let r = between_parts gs hs c d l in (r.0, (r.1.0, (inr r.1.1.0, r.1.1.1)))
]

between_from : (gs hs : List Going) (g h : Going) → IsOf g gs → IsOf h hs → name_each_other g h ≡ true → ArePaired (pairs_between gs hs) g.channel h.channel
between_from [] hs g h on_g on_h names = absurd on_g
between_from (x ∷ gs) hs g h on_g on_h names = elim on_g [
  | inl here ↦ subst (λ (z : Going). ArePaired (pairs_between (z ∷ gs) hs) g.channel h.channel) here (left_paired (pairs_with g hs) (pairs_between gs hs) g.channel h.channel (with_from g h hs on_h names))
  | inr later ↦ right_paired (pairs_with x hs) (pairs_between gs hs) g.channel h.channel (between_from gs hs g h later on_h names)
]

-- what two that name each other are on the machine
names_parts : (o : Option ℕ) (g h : Going) → name_each_other_at o g h ≡ true → (m : ℕ) × ((o ≡ Some m) × ((names_at g.from m h.channel ≡ true) × (names_at h.from m g.channel ≡ true)))
names_parts None g h on = absurd (true≢false (sym on))
names_parts (Some m) g h on = let p = and_parts (names_at g.from m h.channel) (names_at h.from m g.channel) on in (m, (refl, (p.0, p.1)))

mates_of : (t : State) (g h : Going) → Went t g → Went t h → name_each_other g h ≡ true → Joined t g.channel h.channel
mates_of t g h wg wh on = elim (cases_Bool (g.channel == h.channel)) [
  | inl y ↦ inl (eqb-true g.channel h.channel y)
  | inr off ↦
      let p = names_parts (number_of g.from) g h on in
      let c_names : asks (t.own g.channel).seat (Mark h.channel p.0) ≡ true = sym (names_told (t.own g.channel).seat p.0 h.channel) ∙ ap (λ (s : Doing). names_at s p.0 h.channel) (sym wg.from) ∙ p.1.1.0 in
      let d_names : asks (t.own h.channel).seat (Mark g.channel p.0) ≡ true = sym (names_told (t.own h.channel).seat p.0 g.channel) ∙ ap (λ (s : Doing). names_at s p.0 g.channel) (sym wh.from) ∙ p.1.1.1 in
      inr (record {
        number = p.0;
        at_c = mark_at (t.own g.channel).seat h.channel p.0 c_names;
        at_d = mark_at (t.own h.channel).seat g.channel p.0 d_names;
        c_names = c_names;
        d_names = d_names;
        c_goes = wg.goes;
        d_goes = wh.goes;
        other = off;
      })
]

pub paired_joined : (b : Board) (moves : List Move) (i : ℕ) (w : Here b moves i) (c d : ℕ) → ArePaired (pairs_of (happening_at b moves i).goings) c d → Joined (mid w) c d
paired_joined b moves i w c d on =
    let r = between_parts (happening_at b moves i).goings (happening_at b moves i).goings c d on in
    let m = mates_of (mid w) r.0 r.1.0 (went_told b moves i w r.0 r.1.1.0) (went_told b moves i w r.1.0 r.1.1.1.0) r.1.1.1.1.0 in
    elim r.1.1.1.1.1 [
      | inl e ↦ subst (λ (x : ℕ). Joined (mid w) x d) e.0 (subst (λ (x : ℕ). Joined (mid w) r.0.channel x) e.1 m)
      | inr e ↦ turned c d (subst (λ (x : ℕ). Joined (mid w) x c) e.0 (subst (λ (x : ℕ). Joined (mid w) r.0.channel x) e.1 m))
    ]
  where
    turned : (c d : ℕ) → Joined (mid w) d c → Joined (mid w) c d
    turned c d (inl s) = inl (sym s)
    turned c d (inr m) = inr (mates_back (mid w) d c m)

chain_joined : (b : Board) (moves : List Move) (i : ℕ) (w : Here b moves i) → Meets (mid w) → (es : List ℕ) (c d : ℕ) → IsChain (pairs_of (happening_at b moves i).goings) c es d → Joined (mid w) c d
chain_joined b moves i w meets [] c d on = paired_joined b moves i w c d on
chain_joined b moves i w meets (e ∷ es) c d on = joined_on (mid w) c e d meets (paired_joined b moves i w c e on.0) (chain_joined b moves i w meets es e d on.1)

-- one number, and being mates
pub joined_from : (b : Board) (moves : List Move) (i : ℕ) (w : Here b moves i) (c d : ℕ) → Meets (mid w) → labels (pairs_of (happening_at b moves i).goings) c ≡ labels (pairs_of (happening_at b moves i).goings) d → Joined (mid w) c d
joined_from b moves i w c d meets e = elim (chained_from (pairs_of (happening_at b moves i).goings) c d e) [
  | inl s ↦ inl s
  | inr l ↦ chain_joined b moves i w meets l.0 c d l.1
]

pub goes_at : (b : Board) (moves : List Move) (i : ℕ) (w : Here b moves i) (c k : ℕ) → ready (mid w) c ≡ true → is_at ((mid w).own c).seat k ≡ true → goes_in b moves i c ≡ true
goes_at b moves i w c k r at = ap (λ (gs : List Going). among (channels_in gs) c) (goings_told b moves i w) ∙ quick_in_goings (mid w) (starts w) c r (at_quick ((mid w).own c).seat k at)

pub labels_to : (b : Board) (moves : List Move) (i : ℕ) (w : Here b moves i) (c d : ℕ) → Mates (mid w) c d → labels (pairs_of (happening_at b moves i).goings) c ≡ labels (pairs_of (happening_at b moves i).goings) d
labels_to b moves i w c d m =
    let gs : List Going = (happening_at b moves i).goings in
    let g = in_channels gs c (goes_at b moves i w c m.number m.c_goes m.at_c) in
    let h = in_channels gs d (goes_at b moves i w d m.number m.d_goes m.at_d) in
    let wg = went_told b moves i w g.0 g.1.0 in
    let wh = went_told b moves i w h.0 h.1.0 in
    let fg : g.0.from ≡ from_of ((mid w).own c).seat = wg.from ∙ ap (λ (x : ℕ). from_of ((mid w).own x).seat) g.1.1 in
    let fh : h.0.from ≡ from_of ((mid w).own d).seat = wh.from ∙ ap (λ (x : ℕ). from_of ((mid w).own x).seat) h.1.1 in
    let left : names_at g.0.from m.number h.0.channel ≡ true = ap (λ (s : Doing). names_at s m.number h.0.channel) fg ∙ ap (λ (x : ℕ). names_at (from_of ((mid w).own c).seat) m.number x) h.1.1 ∙ names_told ((mid w).own c).seat m.number d ∙ m.c_names in
    let right : names_at h.0.from m.number g.0.channel ≡ true = ap (λ (s : Doing). names_at s m.number g.0.channel) fh ∙ ap (λ (x : ℕ). names_at (from_of ((mid w).own d).seat) m.number x) g.1.1 ∙ names_told ((mid w).own d).seat m.number c ∙ m.d_names in
    let number : number_of g.0.from ≡ Some m.number = ap number_of fg ∙ number_told ((mid w).own c).seat m.number m.at_c in
    let names : name_each_other g.0 h.0 ≡ true = ap (λ (o : Option ℕ). name_each_other_at o g.0 h.0) number ∙ and_from (names_at g.0.from m.number h.0.channel) (names_at h.0.from m.number g.0.channel) left right in
    let paired : ArePaired (pairs_of gs) c d = subst (λ (x : ℕ). ArePaired (pairs_of gs) x d) g.1.1 (subst (λ (x : ℕ). ArePaired (pairs_of gs) g.0.channel x) h.1.1 (between_from gs gs g.0 h.0 g.1.0 h.1.0 names)) in
    chained_to (pairs_of gs) c d (chained_pair (pairs_of gs) c d paired)
