-- Numbers of those that go on are one where chains of pairs join them.
use Rattle.axis_sets.specs.declared.limits.TheConstants.{CHANNEL_PLACES}
use Rattle.std.proofs.Common.{◌≡◌, ℕ, zero, suc, ◌<◌, ◌≤◌, ◌⊎◌, ◌==◌, ◌&&◌, ◌||◌, Bool, true, false, inl, inr, length, List, [], ◌∷◌, ◌++◌, Option, Some, None, refl, sym, ap, ◌∙◌, arith, if◌then◌else◌}
use Rattle.std.specs.Prelude.{is_some, slice_index, slice_index_or}
use Rattle.std.proofs.lemmas.Bool.{cases_Bool, cases_lt, eqb-true, eq-eqb, and_parts}
use Rattle.std.proofs.Math.ListN.{get_or-eq_default}
use Rattle.axis_sets.proofs.SetLaws.{list_any-members_of}
use Rattle.order_clocks.specs.Chains.{IsIn}
use Rattle.order_clocks.specs.Groups.{labels}
use Rattle.order_clocks.specs.Partners.{PairsAllPartners, AreAllLinked}
use Rattle.order_clocks.specs.Watching.{BeginIsSound, WaitIsSound, begun_at, IsGoingOf, wait_in, wait_shown}
use Rattle.order_clocks.specs.Happenings.{going_of}
use Rattle.step_deeds.specs.declared.deed.Wakeup.{Wakeup}
use Rattle.step_deeds.specs.declared.deed.Hold as code
use Rattle.step_deeds.specs.declared.deed.Hold.TheVariants.{Marks, Ends, Axes}
use Rattle.step_deeds.specs.declared.deed.WaitAt.{WaitAt}
use Rattle.order_clocks.proofs.GroupLaws.{chained_from, chained_to}
use Rattle.order_clocks.proofs.TellLaws.{going_some, going_within}
use Rattle.sync_types.proofs.BoardTests.{no_truth}
use Rattle.sync_types.specs.Boards.{Hold, AtMarks, AtEnds, AtAxes, State, IsHolding, Board, among}
use Rattle.sync_types.specs.Events.{Pair, ArePaired, AreLinked, IsChain, channels_in, name_each_other, pairs_with, pairs_between, pairs_of}
use Rattle.sync_types.specs.GoingOn.{Going}
use Rattle.step_deeds.specs.Holds.{are_named, are_partners, is_given, marks_in, named_marks}

-- two waits that name each other's channels
abbrev pub name_both : Option (Hold × ℕ) → Option (Hold × ℕ) → ℕ → ℕ → Bool
name_both (Some (AtMarks m one, k)) (Some (AtMarks n two, l)) a b = (m == n) && (among one b && among two a)
name_both (Some (AtMarks m one, k)) other a b = false
name_both other w a b = false

never : (t : Bool) → (t && false) ≡ false
never true = refl
never false = refl

turned : (m n : ℕ) → (m == n) ≡ false → (n == m) ≡ false
turned m n off = elim (cases_Bool (n == m)) [ inl on ↦ no_truth (m == n) (eq-eqb m n (sym (eqb-true n m on))) off | inr same ↦ same ]

same_numbers : (m n : ℕ) (p q : Bool) → (((m == m) && p) && ((n == m) && q)) ≡ ((m == n) && (p && q))
same_numbers m n p q = rw (eq-eqb m m refl) (elim (cases_Bool (m == n)) [
  | inl on ↦ rw (on, eq-eqb n m (sym (eqb-true m n on))) refl
  | inr off ↦ rw (off, turned m n off) (never p)
])

pub names_by_wait : (g h : Going) → name_each_other g h ≡ name_both (wait_in g.from) (wait_in h.from) g.channel h.channel
names_by_wait g h = by_states g.from h.from
  where
    by_states : (s t : State) → name_each_other (record { channel = g.channel; from = s; took = g.took; grant = g.grant }) (record { channel = h.channel; from = t; took = h.took; grant = h.grant })
        ≡ name_both (wait_in s) (wait_in t) g.channel h.channel
    by_states (IsHolding (AtMarks m one) k) (IsHolding (AtMarks n two) l) = same_numbers m n (among one h.channel) (among two g.channel)
    by_states (IsHolding (AtMarks m one) k) (IsHolding (AtEnds two) l) = never ((m == m) && among one h.channel)
    by_states (IsHolding (AtMarks m one) k) (IsHolding (AtAxes from_standing two) l) = never ((m == m) && among one h.channel)
    by_states (IsHolding (AtMarks m one) k) other = never ((m == m) && among one h.channel)
    by_states (IsHolding (AtEnds one) k) t = refl
    by_states (IsHolding (AtAxes from_standing one) k) t = refl
    by_states other t = refl

kept_names : (one two : Option WaitAt) (a b : ℕ) → are_named (marks_in one) (marks_in two) a b ≡ name_both (wait_shown one) (wait_shown two) a b
kept_names (Some one) (Some two) a b = by_holds one.hold two.hold
  where
    by_holds : (h k : code.Hold) → are_named (marks_in (Some (record { hold = h; line = one.line }))) (marks_in (Some (record { hold = k; line = two.line }))) a b
        ≡ name_both (wait_shown (Some (record { hold = h; line = one.line }))) (wait_shown (Some (record { hold = k; line = two.line }))) a b
    by_holds (Marks m named) (Marks n others) = rw (list_any-members_of named b, list_any-members_of others a) refl
    by_holds (Marks m named) (Ends others) = refl
    by_holds (Marks m named) (Axes others) = refl
    by_holds (Ends named) k = refl
    by_holds (Axes named) k = refl
kept_names (Some one) None a b = by_hold one.hold
  where
    by_hold : (h : code.Hold) → are_named (marks_in (Some (record { hold = h; line = one.line }))) None a b ≡ name_both (wait_shown (Some (record { hold = h; line = one.line }))) None a b
    by_hold (Marks m named) = refl
    by_hold (Ends named) = refl
    by_hold (Axes named) = refl
kept_names None two a b = refl

name_both_back : (v w : Option (Hold × ℕ)) (a b : ℕ) → name_both v w a b ≡ true → name_both w v b a ≡ true
name_both_back (Some (AtMarks m one, k)) (Some (AtMarks n two, l)) a b on =
    let parts = and_parts (m == n) (among one b && among two a) on in
    let names = and_parts (among one b) (among two a) parts.1 in
    rw (eq-eqb n m (sym (eqb-true m n parts.0)), names.0, names.1) refl
name_both_back (Some (AtMarks m one, k)) (Some (AtEnds two, l)) a b on = no_truth false on refl
name_both_back (Some (AtMarks m one, k)) (Some (AtAxes from_standing two, l)) a b on = no_truth false on refl
name_both_back (Some (AtMarks m one, k)) None a b on = no_truth false on refl
name_both_back (Some (AtEnds one, k)) w a b on = no_truth false on refl
name_both_back (Some (AtAxes from_standing one, k)) w a b on = no_truth false on refl
name_both_back None w a b on = no_truth false on refl

-- the pairs of a list
pair_within : (g : Going) (hs : List Going) (h : Going) → IsIn h hs → name_each_other g h ≡ true → ArePaired (pairs_with g hs) g.channel h.channel
pair_within g [] h within on = absurd within
pair_within g (k ∷ ks) h (inl e) on = rw (rw e at on) (inl (refl, ap (λ (x : Going). x.channel) (sym e)))
pair_within g (k ∷ ks) h (inr later) on = elim (cases_Bool (name_each_other g k)) [
  | inl too ↦ rw too (inr (inr (pair_within g ks h later on)))
  | inr off ↦ rw off (pair_within g ks h later on)
]

paired_left : (ps qs : List Pair) (a b : ℕ) → ArePaired ps a b → ArePaired (ps ++ qs) a b
paired_left [] qs a b h = absurd h
paired_left (p ∷ ps) qs a b (inl h) = inl h
paired_left (p ∷ ps) qs a b (inr (inl h)) = inr (inl h)
paired_left (p ∷ ps) qs a b (inr (inr h)) = inr (inr (paired_left ps qs a b h))

paired_right : (ps qs : List Pair) (a b : ℕ) → ArePaired qs a b → ArePaired (ps ++ qs) a b
paired_right [] qs a b h = h
paired_right (p ∷ ps) qs a b h = inr (inr (paired_right ps qs a b h))

paired_parts : (ps qs : List Pair) (a b : ℕ) → ArePaired (ps ++ qs) a b → ArePaired ps a b ⊎ ArePaired qs a b
paired_parts [] qs a b h = inr h
paired_parts (p ∷ ps) qs a b (inl h) = inl (inl h)
paired_parts (p ∷ ps) qs a b (inr (inl h)) = inl (inr (inl h))
paired_parts (p ∷ ps) qs a b (inr (inr h)) = elim (paired_parts ps qs a b h) [ inl l ↦ inl (inr (inr l)) | inr r ↦ inr r ]

pair_between : (gs hs : List Going) (g h : Going) → IsIn g gs → IsIn h hs → name_each_other g h ≡ true → ArePaired (pairs_between gs hs) g.channel h.channel
pair_between [] hs g h within there on = absurd within
pair_between (k ∷ ks) hs g h (inl e) there on = paired_left (pairs_with k hs) (pairs_between ks hs) g.channel h.channel (rw (sym e) (pair_within g hs h there on))
pair_between (k ∷ ks) hs g h (inr later) there on = paired_right (pairs_with k hs) (pairs_between ks hs) g.channel h.channel (pair_between ks hs g h later there on)

-- a pair is of two that name each other
record IsOf (gs hs : List Going) (a b : ℕ) : Type 0 where
  g : Going
  h : Going
  g_there : IsIn g gs
  h_there : IsIn h hs
  on : name_each_other g h ≡ true
  ends : ((g.channel ≡ a) × (h.channel ≡ b)) ⊎ ((g.channel ≡ b) × (h.channel ≡ a))

of_within : (g : Going) (hs : List Going) (a b : ℕ) → ArePaired (pairs_with g hs) a b → IsOf (g ∷ []) hs a b
of_within g [] a b p = absurd p
of_within g (k ∷ ks) a b p = elim (cases_Bool (name_each_other g k)) [
  | inl on ↦ first (of_within g ks a b) (rw on at p) on
  | inr off ↦ later (of_within g ks a b (rw off at p))
]
  where
    later : IsOf (g ∷ []) ks a b → IsOf (g ∷ []) (k ∷ ks) a b
    later w = record { g = w.g; h = w.h; g_there = w.g_there; h_there = inr w.h_there; on = w.on; ends = w.ends }

    first : (ArePaired (pairs_with g ks) a b → IsOf (g ∷ []) ks a b) → ((g.channel ≡ a) × (k.channel ≡ b)) ⊎ (((g.channel ≡ b) × (k.channel ≡ a)) ⊎ ArePaired (pairs_with g ks) a b) → name_each_other g k ≡ true → IsOf (g ∷ []) (k ∷ ks) a b
    first rest (inl e) on = record { g = g; h = k; g_there = inl refl; h_there = inl refl; on = on; ends = inl e }
    first rest (inr (inl e)) on = record { g = g; h = k; g_there = inl refl; h_there = inl refl; on = on; ends = inr e }
    first rest (inr (inr q)) on = later (rest q)

of_between : (gs hs : List Going) (a b : ℕ) → ArePaired (pairs_between gs hs) a b → IsOf gs hs a b
of_between [] hs a b p = absurd p
of_between (g ∷ gs) hs a b p = elim (paired_parts (pairs_with g hs) (pairs_between gs hs) a b p) [
  | inl one ↦ let w = of_within g hs a b one in record { g = w.g; h = w.h; g_there = only w.g w.g_there; h_there = w.h_there; on = w.on; ends = w.ends }
  | inr rest ↦ let w = of_between gs hs a b rest in record { g = w.g; h = w.h; g_there = inr w.g_there; h_there = w.h_there; on = w.on; ends = w.ends }
]
  where
    only : (k : Going) → IsIn k (g ∷ []) → IsIn k (g ∷ gs)
    only k (inl e) = inl e
    only k (inr bad) = absurd bad

among_in : (gs : List Going) (g : Going) → IsIn g gs → among (channels_in gs) g.channel ≡ true
among_in [] g within = absurd within
among_in (k ∷ ks) g (inl e) = rw (eq-eqb k.channel g.channel (ap (λ (x : Going). x.channel) (sym e))) refl
among_in (k ∷ ks) g (inr later) = or_true (k.channel == g.channel) (among (channels_in ks) g.channel) (among_in ks g later)
  where
    or_true : (p q : Bool) → q ≡ true → (p || q) ≡ true
    or_true true q on = refl
    or_true false q on = on

-- all go from their waits on a board, and the code has them so
pub record AreRead (goes : List (Option Wakeup)) (gs : List Going) (b : Board) : Type 0 where
  pub from : (g : Going) → IsIn g gs → wait_in g.from ≡ wait_in (b.state g.channel)
  pub read : (c : ℕ) → IsGoingOf (slice_index_or goes c None) (going_of gs c)
  pub size : length goes ≡ CHANNEL_PLACES
  pub none : slice_index_or goes 0 None ≡ None

partners_to : (goes : List (Option Wakeup)) (gs : List Going) (b : Board) (c d : ℕ) → AreRead goes gs b → are_partners goes c d ≡ true
    → ((among (channels_in gs) c ≡ true) × (among (channels_in gs) d ≡ true)) × (name_both (wait_in (b.state c)) (wait_in (b.state d)) c d ≡ true)
partners_to goes gs b c d are on = by_cases (slice_index_or goes c None) (slice_index_or goes d None) (going_of gs c) (going_of gs d) refl refl (are.read c) (are.read d) on
  where
    by_cases : (x y : Option Wakeup) (v w : Option Going) → going_of gs c ≡ v → going_of gs d ≡ w → IsGoingOf x v → IsGoingOf y w → are_named (named_marks x) (named_marks y) c d ≡ true
        → ((among (channels_in gs) c ≡ true) × (among (channels_in gs) d ≡ true)) × (name_both (wait_in (b.state c)) (wait_in (b.state d)) c d ≡ true)
    by_cases (Some x) (Some y) (Some g) (Some h) e f one two named =
        let g_in = going_within gs c g e in
        let h_in = going_within gs d h f in
        let at_c : wait_shown x.held ≡ wait_in (b.state c) = one.from ∙ rw (sym g_in.1) (are.from g g_in.0) in
        let at_d : wait_shown y.held ≡ wait_in (b.state d) = two.from ∙ rw (sym h_in.1) (are.from h h_in.0) in
        ((sym (going_some gs c) ∙ ap is_some e, sym (going_some gs d) ∙ ap is_some f), rw (sym at_c, sym at_d) (sym (kept_names x.held y.held c d) ∙ named))
    by_cases (Some x) (Some y) (Some g) None e f one two named = absurd two
    by_cases (Some x) (Some y) None w e f one two named = absurd one
    by_cases (Some x) None (Some g) w e f one two named = no_truth false (sym (no_second (named_marks (Some x))) ∙ named) refl
      where
        no_second : (o : Option _) → are_named o None c d ≡ false
        no_second (Some k) = refl
        no_second None = refl
    by_cases (Some x) None None w e f one two named = absurd one
    by_cases None y v w e f one two named = no_truth false named refl

partners_from : (goes : List (Option Wakeup)) (gs : List Going) (b : Board) (c d : ℕ) → AreRead goes gs b → among (channels_in gs) c ≡ true → among (channels_in gs) d ≡ true
    → name_both (wait_in (b.state c)) (wait_in (b.state d)) c d ≡ true → are_partners goes c d ≡ true
partners_from goes gs b c d are c_in d_in on = by_cases (slice_index_or goes c None) (slice_index_or goes d None) (going_of gs c) (going_of gs d) refl refl (are.read c) (are.read d)
  where
    by_cases : (x y : Option Wakeup) (v w : Option Going) → going_of gs c ≡ v → going_of gs d ≡ w → IsGoingOf x v → IsGoingOf y w → are_named (named_marks x) (named_marks y) c d ≡ true
    by_cases (Some x) (Some y) (Some g) (Some h) e f one two =
        let g_in = going_within gs c g e in
        let h_in = going_within gs d h f in
        let at_c : wait_shown x.held ≡ wait_in (b.state c) = one.from ∙ rw (sym g_in.1) (are.from g g_in.0) in
        let at_d : wait_shown y.held ≡ wait_in (b.state d) = two.from ∙ rw (sym h_in.1) (are.from h h_in.0) in
        kept_names x.held y.held c d ∙ rw (at_c, at_d) on
    by_cases (Some x) (Some y) (Some g) None e f one two = absurd two
    by_cases (Some x) (Some y) None w e f one two = absurd one
    by_cases (Some x) None v (Some h) e f one two = absurd two
    by_cases (Some x) None v None e f one two = no_truth false (sym (ap is_some f) ∙ (going_some gs d ∙ d_in)) refl
    by_cases None y (Some g) w e f one two = absurd one
    by_cases None y None w e f one two = no_truth false (sym (ap is_some e) ∙ (going_some gs c ∙ c_in)) refl

pub pairs_all : (goes : List (Option Wakeup)) (gs : List Going) (b : Board) → AreRead goes gs b → PairsAllPartners (pairs_of gs) goes
pairs_all goes gs b are c d on =
    let w = partners_to goes gs b c d are on in
    by_found (going_of gs c) (going_of gs d) refl refl w
  where
    by_found : (v u : Option Going) → going_of gs c ≡ v → going_of gs d ≡ u → ((among (channels_in gs) c ≡ true) × (among (channels_in gs) d ≡ true)) × (name_both (wait_in (b.state c)) (wait_in (b.state d)) c d ≡ true) → ArePaired (pairs_of gs) c d
    by_found (Some g) (Some h) e f w =
        let g_in = going_within gs c g e in
        let h_in = going_within gs d h f in
        rw (g_in.1, h_in.1) at (pair_between gs gs g h g_in.0 h_in.0 (names_by_wait g h ∙ rw (are.from g g_in.0, are.from h h_in.0, g_in.1, h_in.1) w.1))
    by_found (Some g) None e f w = no_truth false (sym (ap is_some f) ∙ (going_some gs d ∙ w.0.1)) refl
    by_found None u e f w = no_truth false (sym (ap is_some e) ∙ (going_some gs c ∙ w.0.0)) refl

-- pairs have one number
pub paired_partners : (goes : List (Option Wakeup)) (gs : List Going) (b : Board) (c d : ℕ) → AreRead goes gs b → ArePaired (pairs_of gs) c d → are_partners goes c d ≡ true
paired_partners goes gs b c d are pair = by_ends w.ends
  where
    w : IsOf gs gs c d
    w = of_between gs gs c d pair

    both : name_both (wait_in (b.state w.g.channel)) (wait_in (b.state w.h.channel)) w.g.channel w.h.channel ≡ true
    both = rw (sym (are.from w.g w.g_there), sym (are.from w.h w.h_there)) (sym (names_by_wait w.g w.h) ∙ w.on)

    by_ends : ((w.g.channel ≡ c) × (w.h.channel ≡ d)) ⊎ ((w.g.channel ≡ d) × (w.h.channel ≡ c)) → are_partners goes c d ≡ true
    by_ends (inl e) = partners_from goes gs b c d are (rw e.0 at (among_in gs w.g w.g_there)) (rw e.1 at (among_in gs w.h w.h_there)) (rw (e.0, e.1) at both)
    by_ends (inr e) = partners_from goes gs b c d are (rw e.1 at (among_in gs w.h w.h_there)) (rw e.0 at (among_in gs w.g w.g_there))
        (name_both_back (wait_in (b.state d)) (wait_in (b.state c)) d c (rw (e.0, e.1) at both))

partner_below : (goes : List (Option Wakeup)) (gs : List Going) (b : Board) (c : ℕ) → AreRead goes gs b → among (channels_in gs) c ≡ true → (1 ≤ c) × (c < CHANNEL_PLACES)
partner_below goes gs b zero are on = by_read (slice_index_or goes 0 None) (going_of gs 0) refl are.none (are.read 0)
  where
    by_read : (x : Option Wakeup) (v : Option Going) → going_of gs 0 ≡ v → x ≡ None → IsGoingOf x v → (1 ≤ 0) × (0 < CHANNEL_PLACES)
    by_read (Some x) v e none is = no_truth false (sym (ap is_some none)) refl
    by_read None (Some g) e none is = absurd is
    by_read None None e none is = no_truth false (sym (ap is_some e) ∙ (going_some gs 0 ∙ on)) refl
partner_below goes gs b (suc c) are on = (
  omega arith,
  elim (cases_lt (suc c) CHANNEL_PLACES) [
    | inl below ↦ below
    | inr past ↦ by_read (slice_index_or goes (suc c) None) (going_of gs (suc c)) refl (get_or-eq_default goes None (rw are.size past)) (are.read (suc c))
  ],
)
  where
    by_read : (x : Option Wakeup) (v : Option Going) → going_of gs (suc c) ≡ v → x ≡ None → IsGoingOf x v → suc c < CHANNEL_PLACES
    by_read (Some x) v e none is = no_truth false (sym (ap is_some none)) refl
    by_read None (Some g) e none is = absurd is
    by_read None None e none is = no_truth false (sym (ap is_some e) ∙ (going_some gs (suc c) ∙ on)) refl

pair_joins : (goes : List (Option Wakeup)) (gs : List Going) (b : Board) (group : List ℕ) → AreRead goes gs b
    → ((c d : ℕ) → 1 ≤ c → c < CHANNEL_PLACES → 1 ≤ d → d < CHANNEL_PLACES → are_partners goes c d ≡ true → slice_index group c ≡ slice_index group d)
    → (c d : ℕ) → ArePaired (pairs_of gs) c d → slice_index group c ≡ slice_index group d
pair_joins goes gs b group are joined c d pair =
    let on = paired_partners goes gs b c d are pair in
    let w = partners_to goes gs b c d are on in
    let c_in = partner_below goes gs b c are w.0.0 in
    let d_in = partner_below goes gs b d are w.0.1 in
    joined c d c_in.0 c_in.1 d_in.0 d_in.1 on

chain_joins : (ps : List Pair) (group : List ℕ) → ((c d : ℕ) → ArePaired ps c d → slice_index group c ≡ slice_index group d)
    → (es : List ℕ) (c d : ℕ) → IsChain ps c es d → slice_index group c ≡ slice_index group d
chain_joins ps group joined [] c d pair = joined c d pair
chain_joins ps group joined (e ∷ es) c d path = joined c e path.0 ∙ chain_joins ps group joined es e d path.1

same_tests : (p q r s : ℕ) → (p ≡ q → r ≡ s) → (r ≡ s → p ≡ q) → (p == q) ≡ (r == s)
same_tests p q r s to from = elim (cases_Bool (p == q)) [
  | inl on ↦ on ∙ sym (eq-eqb r s (to (eqb-true p q on)))
  | inr off ↦ off ∙ sym (elim (cases_Bool (r == s)) [ inl on ↦ no_truth (p == q) (eq-eqb p q (from (eqb-true r s on))) off | inr same ↦ same ])
]

pub groups_are : (goes : List (Option Wakeup)) (gs : List Going) (b : Board) (group : List ℕ) → AreRead goes gs b
    → ((c d : ℕ) → 1 ≤ c → c < CHANNEL_PLACES → 1 ≤ d → d < CHANNEL_PLACES → are_partners goes c d ≡ true → slice_index group c ≡ slice_index group d)
    → AreAllLinked (pairs_of gs) group
    → (c d : ℕ) → c < CHANNEL_PLACES → d < CHANNEL_PLACES → (labels (pairs_of gs) d == labels (pairs_of gs) c) ≡ (slice_index group d == slice_index group c)
groups_are goes gs b group are joined linked c d c_below d_below = same_tests (labels (pairs_of gs) d) (labels (pairs_of gs) c) (slice_index group d) (slice_index group c)
    (λ e. to (chained_from (pairs_of gs) d c e))
    (λ e. chained_to (pairs_of gs) d c (linked d c d_below c_below e))
  where
    to : AreLinked (pairs_of gs) d c → slice_index group d ≡ slice_index group c
    to (inl same) = ap (slice_index group) same
    to (inr path) = chain_joins (pairs_of gs) group (pair_joins goes gs b group are joined) path.0 d c path.1

pub given_below : (goes : List (Option Wakeup)) (c : ℕ) → length goes ≡ CHANNEL_PLACES → is_given (slice_index_or goes c None) ≡ true → c < CHANNEL_PLACES
given_below goes c size on = elim (cases_lt c CHANNEL_PLACES) [
  | inl below ↦ below
  | inr past ↦ no_truth false (sym (ap is_given (get_or-eq_default goes None (rw size past))) ∙ on) refl
]

pub sound_begun : (t : Bool) (begins : Option code.Hold) (line : ℕ) (old : Option WaitAt) → WaitIsSound old → BeginIsSound begins → WaitIsSound (if t then begun_at begins line old else old)
sound_begun true (Some hold) line old one two = two
sound_begun true None line old one two = one
sound_begun false begins line old one two = one
