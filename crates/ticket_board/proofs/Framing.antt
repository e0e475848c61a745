-- The table when it is made, and when it is closed.
use Rattle.std.proofs.Common.{◌≡◌, ℕ, ◌≤◌, ◌==◌, Bool, true, false, Option, Some, List, [], ◌∷◌, map, length, sym, refl, ap, ◌∙◌, subst, ⊎_elim, arith}
use mathlib.Core.Option.{Option as OptionAt, some, some-ne-none}
use mathlib.Core.Logic.{dite}
use native.Mathlib.Decide.{ℕ_discrete}
use lib.ListN.{get_elem?}
use Rattle.atomic_table.specs.Table.{State, opening, Final, Seen}
use Rattle.atomic_table.proofs.Lists.{at_snoc}
use Rattle.coord_core.specs.Histories.{History, history_of}
use Rattle.coord_core.specs.declared.locked.Locked.{Locked}
use Rattle.sync_types.specs.Views.{StartView}
use Rattle.ticket_board.specs.Passes.{channels_of}
use Rattle.ticket_board.specs.declared.rule.ChannelPart.{ChannelPart}
use Rattle.ticket_board.specs.declared.rule.View.{View}
use Rattle.ticket_board.specs.declared.rule.Stage.TheVariants.{Idle}
use Rattle.ticket_board.specs.Rule.{Every, ticket_in, ticket_count, tickets_of, part_count, one_if, marks_for, marks_of, Fits, Knows, HomeIs, IsKept, fresh_part, first_view}
use Rattle.ticket_board.proofs.Totals.{total_at, total_two, total_rest, total_map, length_map}
use Rattle.ticket_board.proofs.Histories.{history, differ, fits_fresh}
use Rattle.ticket_board.proofs.Keeps.{held, same_at}
use Rattle.ticket_board.proofs.Channels.{few_channels, each_once}
use Rattle.ticket_board.specs.Passes.{no_history}

fresh_fit : (start : StartView) (cs : List ℕ) → Every (Fits start no_history) (map fresh_part cs)
fresh_fit start [] = tt
fresh_fit start (c ∷ cs) = (fits_fresh start no_history c refl, fresh_fit start cs)

fresh_marks : (cs : List ℕ) → marks_for (map fresh_part cs) ≡ 0
fresh_marks [] = refl
fresh_marks (c ∷ cs) = let r = fresh_marks cs in omega (arith, r)

only : (v d : View) (j : ℕ) → get_elem? (v ∷ []) j ≡ some d → v ≡ d
only v d j e = ⊎_elim (λ (t : get_elem? {A = View} [] j ≡ some d). absurd (some-ne-none d (sym t))) (λ (t : v ≡ d). t) (at_snoc [] v d j e)

pub opens : (key : StartView) (l : Locked) → l.board.start ≡ key → l.board.entries ≡ [] → l.closed ≡ false
    → IsKept key (opening (0 ∷ 0 ∷ 0 ∷ []) (Some l ∷ []) (first_view key))
opens key l start_is empty unshut = let v : View = first_view key in let long = length_map fresh_part (channels_of key) in record {
  drawn = 0;
  served = 0;
  holder = 0;
  out = false;
  log = no_history;
  words = refl;
  lawful = tt;
  home = (l, refl, start_is, λ i. history (empty i) (unshut i));
  each = λ j d e. subst (Knows key no_history 0 0 0 false j) (only v d j e) record { start_is = λ _. refl; fits = fresh_fit key (channels_of key); room = omega arith; stands = tt };
  apart = λ i j n d u a b t r. absurd (some-ne-none n (sym t ∙ ap (λ (z : View). ticket_in z.stage) (sym (only v d i a))));
  counted = refl;
  seats = omega (arith, long);
  few = few_channels key;
  lone = λ c. let same = total_map (λ (p : ChannelPart). one_if (p.channel == c)) (λ (x : ℕ). one_if (x == c)) fresh_part (channels_of key) (λ x. refl) in let most = each_once key c in omega (arith, same, most);
  marked = let none = fresh_marks (channels_of key) in omega (arith, none);
}

-- once all parts are in one seat, no seat holds the slot
none_out : (key : StartView) (s : State (Option Locked) View) (k : IsKept key s) (id : ℕ) (v : View) (out : Bool) → get_elem? s.views id ≡ some v → v.stage ≡ Idle → length v.parts ≡ length (channels_of key)
    → HomeIs key k.log k.holder s.views out s.homes → HomeIs key k.log k.holder s.views false s.homes
none_out key s k id v false at idle all h = h
none_out key s k id v true at idle all h = let w : View = h.1 in let n : ℕ = h.2 in dite (ℕ_discrete k.holder id)
    (λ here. absurd (differ (sym (ap held idle) ∙ (ap (λ (z : View). held z.stage) (same_at s.views id v w at (ap (get_elem? s.views) (sym here) ∙ h.3)) ∙ ap held h.4))))
    (λ other. let two = total_two part_count s.views id k.holder v w other at h.3 in let room = (k.each k.holder w h.3).room in let one : tickets_of w ≡ 1 = ap ticket_count h.4 in let seats = k.seats in absurd (omega (arith, two, room, one, seats, all)))

pub at_most_one : (b : Bool) → one_if b ≤ 1
at_most_one true = omega arith
at_most_one false = omega arith

marks_few : (ps : List ChannelPart) → marks_for ps ≤ length ps
marks_few [] = omega arith
marks_few (p ∷ ps) = let a = at_most_one p.shut in let b = marks_few ps in omega (arith, a, b)

-- and the closing mark was put for one of them, or for none
all_marked : (key : StartView) (s : State (Option Locked) View) (k : IsKept key s) (id : ℕ) (v : View) → get_elem? s.views id ≡ some v → length v.parts ≡ length (channels_of key) → marks_for v.parts ≡ one_if k.log.closed
all_marked key s k id v at all =
    let a = total_rest marks_of part_count s.views id v (λ w. marks_few w.parts) at in let b = k.marked in let c = k.seats in let d = total_at marks_of s.views id v at in omega (arith, a, b, c, d, all)

pub final_home : (key : StartView) (id : ℕ) (v : View) (ws : List ℕ) (xs : List (Option Locked)) → v.stage ≡ Idle → length v.parts ≡ length (channels_of key) → Final (Seen (IsKept key) id v) ws xs
    → (l : Locked) × (get_elem? xs 0 ≡ some (Some l)) × (l.board.start ≡ key) × Every (Fits key (history_of l)) v.parts × (marks_for v.parts ≡ one_if l.closed)
final_home key id v ws xs idle all f = let s : State (Option Locked) View = f.0 in let k : IsKept key s = f.1.0 in let at = f.1.1 in
    let h = none_out key s k id v k.out at idle all k.home in let l : Locked = h.0 in (
      l,
      f.4 0 (Some l) (ap (λ (hs : List (OptionAt (Option Locked))). get_elem? hs 0) h.1),
      h.2,
      subst (λ (x : History). Every (Fits key x) v.parts) (sym h.3) (k.each id v at).fits,
      all_marked key s k id v at all ∙ ap (λ (x : History). one_if x.closed) (sym h.3),
    )
