-- What an event minds, as a test and as a list.
use Rattle.std.proofs.Common.{◌≡◌, ℕ, ◌↔◌, ◌==◌, ◌&&◌, Bool, true, false, inl, inr, List, ◌++◌, map, Option, Some, None, refl, sym, ap, ◌∙◌}
use Rattle.std.proofs.lemmas.Bool.{eqb-true, eq-eqb, and_parts, and_from, false≢true}
use Rattle.axis_sets.specs.Sets.{has, members_of, IsEmpty}
use Rattle.order_clocks.specs.Chains.{IsIn}
use Rattle.order_clocks.specs.TracedRaces.{Trace, Lowered, Needed, Took, Touched}
use Rattle.order_clocks.specs.LastPlaces.{hold_minds, deed_leaves, deed_minds, minds_in, minds_at_line}
use Rattle.order_clocks.specs.Pairs.{minded_by, left_by, IsActEvent}
use Rattle.step_deeds.specs.declared.deed.StepEvents.{StepEvents}
use Rattle.step_deeds.specs.declared.deed.Hold.{Hold}
use Rattle.step_deeds.specs.declared.deed.Hold.TheVariants.{Marks, Ends, Axes}
use Rattle.step_deeds.specs.declared.deed.WaitAt.{WaitAt}
use Rattle.order_clocks.specs.declared.events.Event.{Event}
use Rattle.step_deeds.specs.declared.named.NamedMarks.{NamedMarks}
use Rattle.order_clocks.proofs.MemberLaws.{in_append, in_map, in_members, map_in, members_in}
use Rattle.step_deeds.specs.Holds.{asks_begun, lowers_at, lowers_in, marks_begun, waits_in}

-- a trace that a hold minds
abbrev hold_test : Option Hold → Trace → Bool
hold_test hold (Lowered c m) = waits_in (marks_begun hold) m c
hold_test hold (Needed c m) = false
hold_test hold (Took x) = asks_begun hold x
hold_test hold (Touched c) = false

holds_to : (hold : Option Hold) (t : Trace) → hold_test hold t ≡ true → IsIn t (hold_minds hold)
holds_to (Some (Marks n named)) (Lowered c m) on =
    let parts = and_parts (n == m) (has named c) on in
    let e : m ≡ n = sym (eqb-true n m parts.0) in
    rw e (in_map (λ d. Lowered d n) c (members_of named) (in_members named c parts.1))
holds_to (Some (Marks n named)) (Needed c m) on = absurd (false≢true on)
holds_to (Some (Marks n named)) (Took x) on = absurd (false≢true on)
holds_to (Some (Marks n named)) (Touched c) on = absurd (false≢true on)
holds_to (Some (Ends named)) (Lowered c m) on = absurd (false≢true on)
holds_to (Some (Ends named)) (Needed c m) on = absurd (false≢true on)
holds_to (Some (Ends named)) (Took x) on = absurd (false≢true on)
holds_to (Some (Ends named)) (Touched c) on = absurd (false≢true on)
holds_to (Some (Axes axes)) (Lowered c m) on = absurd (false≢true on)
holds_to (Some (Axes axes)) (Needed c m) on = absurd (false≢true on)
holds_to (Some (Axes axes)) (Took x) on = in_map Took x (members_of axes) (in_members axes x on)
holds_to (Some (Axes axes)) (Touched c) on = absurd (false≢true on)
holds_to None (Lowered c m) on = absurd (false≢true on)
holds_to None (Needed c m) on = absurd (false≢true on)
holds_to None (Took x) on = absurd (false≢true on)
holds_to None (Touched c) on = absurd (false≢true on)

holds_from : (hold : Option Hold) (t : Trace) → IsIn t (hold_minds hold) → hold_test hold t ≡ true
holds_from (Some (Marks n named)) t within =
    let w = map_in (λ d. Lowered d n) t (members_of named) within in
    rw (w.1.1, eq-eqb n n refl) (members_in named w.0 w.1.0)
holds_from (Some (Ends named)) t within = absurd within
holds_from (Some (Axes axes)) t within =
    let w = map_in Took t (members_of axes) within in
    rw w.1.1 (members_in axes w.0 w.1.0)
holds_from None t within = absurd within

hold_minded : (hold : Option Hold) (e : Event) (t : Trace) → e.waits ≡ marks_begun hold → ((x : ℕ) → has e.asks x ≡ asks_begun hold x) → hold_test hold t ≡ true → minded_by e t ≡ true
hold_minded hold e (Lowered c m) waits asks on = ap (λ (w : Option NamedMarks). waits_in w m c) waits ∙ on
hold_minded hold e (Needed c m) waits asks on = absurd (false≢true on)
hold_minded hold e (Took x) waits asks on = asks x ∙ on
hold_minded hold e (Touched c) waits asks on = absurd (false≢true on)

-- an Act
pub act_minded : (deed : StepEvents) (e : Event) → e.channel ≡ deed.channel → e.lowers ≡ deed.lowers → e.touches ≡ deed.touches → e.waits ≡ marks_begun deed.begins
    → ((x : ℕ) → has e.asks x ≡ asks_begun deed.begins x) → (t : Trace) → (minded_by e t ≡ true) ↔ IsIn t (deed_minds deed)
act_minded deed e channel lowers touches waits asks t = (to t, from t)
  where
    to : (t : Trace) → minded_by e t ≡ true → IsIn t (deed_minds deed)
    to (Lowered c m) on = (in_append (Lowered c m) (hold_minds deed.begins) (map Touched (members_of deed.touches) ++ map (λ m. Needed deed.channel m) (members_of deed.lowers))).1
        (inl (holds_to deed.begins (Lowered c m) (ap (λ (w : Option NamedMarks). waits_in w m c) (sym waits) ∙ on)))
    to (Needed c m) on =
        let parts = and_parts (has e.lowers m) (c == e.channel) on in
        let here : c ≡ deed.channel = eqb-true c e.channel parts.1 ∙ channel in
        let there : has deed.lowers m ≡ true = ap (λ (s : List Bool). has s m) (sym lowers) ∙ parts.0 in
        (in_append (Needed c m) (hold_minds deed.begins) (map Touched (members_of deed.touches) ++ map (λ m. Needed deed.channel m) (members_of deed.lowers))).1
        (inr ((in_append (Needed c m) (map Touched (members_of deed.touches)) (map (λ m. Needed deed.channel m) (members_of deed.lowers))).1
        (inr (rw here (in_map (λ n. Needed deed.channel n) m (members_of deed.lowers) (in_members deed.lowers m there))))))
    to (Took x) on = (in_append (Took x) (hold_minds deed.begins) (map Touched (members_of deed.touches) ++ map (λ m. Needed deed.channel m) (members_of deed.lowers))).1
        (inl (holds_to deed.begins (Took x) (sym (asks x) ∙ on)))
    to (Touched c) on =
        let there : has deed.touches c ≡ true = ap (λ (s : List Bool). has s c) (sym touches) ∙ on in
        (in_append (Touched c) (hold_minds deed.begins) (map Touched (members_of deed.touches) ++ map (λ m. Needed deed.channel m) (members_of deed.lowers))).1
        (inr ((in_append (Touched c) (map Touched (members_of deed.touches)) (map (λ m. Needed deed.channel m) (members_of deed.lowers))).1
        (inl (in_map Touched c (members_of deed.touches) (in_members deed.touches c there)))))

    from : (t : Trace) → IsIn t (deed_minds deed) → minded_by e t ≡ true
    from t within = elim ((in_append t (hold_minds deed.begins) (map Touched (members_of deed.touches) ++ map (λ m. Needed deed.channel m) (members_of deed.lowers))).0 within) [
      | inl one ↦ hold_minded deed.begins e t waits asks (holds_from deed.begins t one)
      | inr rest ↦ elim ((in_append t (map Touched (members_of deed.touches)) (map (λ m. Needed deed.channel m) (members_of deed.lowers))).0 rest) [
        | inl two ↦
            let w = map_in Touched t (members_of deed.touches) two in
            rw w.1.1 (ap (λ (s : List Bool). has s w.0) touches ∙ members_in deed.touches w.0 w.1.0)
        | inr three ↦
            let w = map_in (λ m. Needed deed.channel m) t (members_of deed.lowers) three in
            rw w.1.1 (and_from (has e.lowers w.0) (deed.channel == e.channel) (ap (λ (s : List Bool). has s w.0) lowers ∙ members_in deed.lowers w.0 w.1.0) (eq-eqb deed.channel e.channel (sym channel)))
      ]
    ]

-- a Go
pub go_minded : (c : ℕ) (held : Option WaitAt) (e : Event) → e.channel ≡ c → ((m : ℕ) → has e.lowers m ≡ lowers_at held m) → e.waits ≡ None → IsEmpty e.asks → IsEmpty e.touches
    → (t : Trace) → (minded_by e t ≡ true) ↔ IsIn t (minds_at_line c held)
go_minded c held e channel lowers waits asks touches t = (to t, from held lowers t)
  where
    minded : (held : Option WaitAt) (m : ℕ) → lowers_at held m ≡ true → IsIn (Needed c m) (minds_at_line c held)
    minded (Some held) m on = by_hold held.hold on
      where
        by_hold : (hold : Hold) → lowers_in hold m ≡ true → IsIn (Needed c m) (minds_in c hold)
        by_hold (Marks n named) so = let same : m ≡ n = eqb-true m n so in inl (ap (λ (k : ℕ). Needed c k) same)
        by_hold (Ends named) so = absurd (false≢true so)
        by_hold (Axes axes) so = absurd (false≢true so)
    minded None m on = absurd (false≢true on)

    to : (t : Trace) → minded_by e t ≡ true → IsIn t (minds_at_line c held)
    to (Lowered d m) on = absurd (false≢true (sym (ap (λ (w : Option NamedMarks). waits_in w m d) waits) ∙ on))
    to (Needed d m) on =
        let parts = and_parts (has e.lowers m) (d == e.channel) on in
        let here : d ≡ c = eqb-true d e.channel parts.1 ∙ channel in
        rw here (minded held m (sym (lowers m) ∙ parts.0))
    to (Took x) on = absurd (false≢true (sym (asks x) ∙ on))
    to (Touched d) on = absurd (false≢true (sym (touches d) ∙ on))

    from : (held : Option WaitAt) → ((m : ℕ) → has e.lowers m ≡ lowers_at held m) → (t : Trace) → IsIn t (minds_at_line c held) → minded_by e t ≡ true
    from None same t within = absurd within
    from (Some held) same t within = by_hold held.hold same within
      where
        by_hold : (hold : Hold) → ((m : ℕ) → has e.lowers m ≡ lowers_in hold m) → IsIn t (minds_in c hold) → minded_by e t ≡ true
        by_hold (Marks n named) low there = elim there [
          | inl is ↦ rw is (and_from (has e.lowers n) (c == e.channel) (low n ∙ eq-eqb n n refl) (eq-eqb c e.channel (sym channel)))
          | inr none ↦ absurd none
        ]
        by_hold (Ends named) low there = absurd there
        by_hold (Axes axes) low there = absurd there

pub act_is : (deed : StepEvents) (row : List ℕ) (e : Event) → e.channel ≡ deed.channel → e.line ≡ deed.line → e.row ≡ row → e.lowers ≡ deed.lowers → e.needs ≡ None → e.touches ≡ deed.touches
    → IsEmpty e.took → e.waits ≡ marks_begun deed.begins → ((x : ℕ) → has e.asks x ≡ asks_begun deed.begins x) → IsActEvent deed row e
act_is deed row e channel line row_is lowers needs touches took waits asks = record {
  channel = channel;
  line = line;
  row_is = row_is;
  left = left;
  minded = act_minded deed e channel lowers touches waits asks;
  needs = needs;
}
  where
    left : (t : Trace) → left_by e t ≡ deed_leaves deed t
    left (Lowered c m) = ap (λ (s : List Bool). has s m && (c == e.channel)) lowers ∙ ap (λ (d : ℕ). has deed.lowers m && (c == d)) channel
    left (Needed c m) = ap (λ (w : Option NamedMarks). waits_in w m c) needs
    left (Took x) = took x
    left (Touched c) = ap (λ (s : List Bool). has s c) touches
