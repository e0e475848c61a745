-- A view is cut in two, two come together, and a seat comes with nothing.
use Rattle.std.proofs.Common.{◌≡◌, ℕ, ◌+◌, ◌<◌, ◌≤◌, ◌==◌, Bool, true, false, Option, List, [], ◌∷◌, ◌++◌, length, set, take, drop, sym, refl, ap, ◌∙◌, subst, ⊎_elim, arith}
use mathlib.Core.Option.{Option as OptionAt, some, some-ne-none}
use lib.ListN.{get_elem?}
use Rattle.atomic_table.specs.Table.{State, Splits, Joins, Enters}
use Rattle.atomic_table.proofs.Lists.{at_snoc, set_else, at_longer}
use Rattle.coord_core.specs.Histories.{History}
use Rattle.coord_core.specs.declared.locked.Locked.{Locked}
use Rattle.sync_types.specs.Views.{StartView}
use Rattle.ticket_board.specs.declared.rule.ChannelPart.{ChannelPart}
use Rattle.ticket_board.specs.declared.rule.View.{View}
use Rattle.ticket_board.specs.declared.rule.Stage.TheVariants.{Idle}
use Rattle.ticket_board.specs.Rule.{Every, ticket_in, ticket_count, tickets_of, part_count, one_if, parts_for, parts_of_channel, marks_for, marks_of, Fits, Stands, Knows, HomeIs, AreApart, IsKept}
use Rattle.ticket_board.specs.Steps.{Sits, start_with, all_but_first, only_first, both_views, spent_view}
use Rattle.ticket_board.proofs.Totals.{total_append, total_cut, total_glue, every_append}
use Rattle.std.proofs.lemmas.List.{length-append}
use Rattle.ticket_board.proofs.Keeps.{held, home_stays, seats_stay, apart_set}

home_longer : (start : StartView) (log : History) (holder : ℕ) (vs : List View) (out : Bool) (homes : List (OptionAt (Option Locked))) (w : View) → HomeIs start log holder vs out homes → HomeIs start log holder (vs ++ w ∷ []) out homes
home_longer start log holder vs false homes w h = h
home_longer start log holder vs true homes w h = (h.0, h.1, h.2, at_longer vs (w ∷ []) holder h.1 h.3, h.4)

apart_more : (vs : List View) (w : View) → w.stage ≡ Idle → AreApart vs → AreApart (vs ++ w ∷ [])
apart_more vs w idle apart i j n v u a b t r = ⊎_elim
    (λ (p : get_elem? vs i ≡ some v). ⊎_elim (λ (q : get_elem? vs j ≡ some u). apart i j n v u p q t r) (λ (q : w ≡ u). absurd (some-ne-none n (sym r ∙ (ap (λ (z : View). ticket_in z.stage) (sym q) ∙ ap ticket_in idle)))) (at_snoc vs w u j b))
    (λ (p : w ≡ v). absurd (some-ne-none n (sym t ∙ (ap (λ (z : View). ticket_in z.stage) (sym p) ∙ ap ticket_in idle))))
    (at_snoc vs w v i a)

cut_lengths : (ps : List ChannelPart) → length (drop 1 ps) + length (take 1 ps) ≡ length ps
cut_lengths [] = refl
cut_lengths (p ∷ ps) = omega arith

cut_times : (c : ℕ) (ps : List ChannelPart) → parts_for c (drop 1 ps) + parts_for c (take 1 ps) ≡ parts_for c ps
cut_times c [] = refl
cut_times c (p ∷ ps) = omega arith

cut_marks : (ps : List ChannelPart) → marks_for (drop 1 ps) + marks_for (take 1 ps) ≡ marks_for ps
cut_marks [] = refl
cut_marks (p ∷ ps) = omega arith

every_drop : (P : ChannelPart → Type 0) (ps : List ChannelPart) → Every P ps → Every P (drop 1 ps)
every_drop P [] e = tt
every_drop P (p ∷ ps) e = e.1

every_take : (P : ChannelPart → Type 0) (ps : List ChannelPart) → Every P ps → Every P (take 1 ps)
every_take P [] e = tt
every_take P (p ∷ ps) e = (e.0, tt)

starts : (n a b : StartView) (ps qs : List ChannelPart) → (0 < length ps → a ≡ n) → (0 < length qs → b ≡ n) → 0 < length (qs ++ ps) → start_with a ps b ≡ n
starts n a b [] qs f g h = let e = length-append {A = ChannelPart} qs [] in g (omega (arith, e, h))
starts n a b (p ∷ ps) qs f g h = f (omega arith)

module _ (key : StartView) where
  abbrev St : Type 0
  St = State (Option Locked) View

  abbrev Rule : St → Type 0
  Rule = IsKept key

  -- kind 7
  pub splits : (id : ℕ) (v : View) → v.stage ≡ Idle → Splits Rule id v (all_but_first v) (only_first v)
  splits id v idle s k at =
      let left : View = all_but_first v in let right : View = only_first v in let mine = k.each id v at in
      let lengths = cut_lengths v.parts in
      let K = Knows key k.log k.drawn k.served k.holder k.out in
      record {
        drawn = k.drawn;
        served = k.served;
        holder = k.holder;
        out = k.out;
        log = k.log;
        words = k.words;
        lawful = k.lawful;
        home = home_longer key k.log k.holder (set s.views id left) k.out s.homes right (home_stays key k.log k.holder s.views k.out s.homes id v left at (ap held idle) k.home);
        each = λ j d e. ⊎_elim
            (seats_stay K s.views id left record { start_is = λ h. mine.start_is (omega arith); fits = every_drop (Fits key k.log) v.parts mine.fits; room = omega arith; stands = tt } (λ j d _ e. k.each j d e) j d)
            (λ (t : right ≡ d). subst (K j) t record { start_is = λ h. mine.start_is (omega arith); fits = every_take (Fits key k.log) v.parts mine.fits; room = omega arith; stands = tt })
            (at_snoc (set s.views id left) right d j e);
        apart = apart_more (set s.views id left) right refl (apart_set s.views id left k.apart (λ j n d _ e t r. some-ne-none n (sym r)));
        counted = k.counted ∙ ap (λ (x : ℕ). k.served + x) (sym (total_cut tickets_of s.views id v left right at (sym (ap ticket_count idle))));
        seats = total_cut part_count s.views id v left right at lengths ∙ k.seats;
        few = k.few;
        lone = λ c. subst (λ (y : ℕ). y ≤ 1) (sym (total_cut (parts_of_channel c) s.views id v left right at (cut_times c v.parts))) (k.lone c);
        marked = total_cut marks_of s.views id v left right at (cut_marks v.parts) ∙ k.marked;
      }

  -- kind 8
  pub joins : (id other : ℕ) (v w : View) → v.stage ≡ Idle → w.stage ≡ Idle → Joins Rule id v other w (both_views v w) spent_view
  joins id other v w idle idle' s k at apart_ there_ =
      let both : View = both_views v w in let there : get_elem? s.views other ≡ some w = sym (set_else s.views id other both apart_) ∙ there_ in
      let mine = k.each id v at in let theirs = k.each other w there in
      let K = Knows key k.log k.drawn k.served k.holder k.out in
      let lengths = length-append w.parts v.parts in let none_busy = ap ticket_count idle in let none_busy' = ap ticket_count idle' in
      record {
        drawn = k.drawn;
        served = k.served;
        holder = k.holder;
        out = k.out;
        log = k.log;
        words = k.words;
        lawful = k.lawful;
        home = home_stays key k.log k.holder (set s.views id both) k.out s.homes other w spent_view there_ (ap held idle') (home_stays key k.log k.holder s.views k.out s.homes id v both at (ap held idle) k.home);
        each = seats_stay K (set s.views id both) other spent_view record { start_is = λ h. absurd (omega arith); fits = tt; room = omega arith; stands = tt }
            (λ j d _ e. seats_stay K s.views id both record { start_is = starts key v.start w.start v.parts w.parts mine.start_is theirs.start_is; fits = every_append (Fits key k.log) w.parts v.parts theirs.fits mine.fits; room = omega (arith, none_busy); stands = subst (Stands k.log k.drawn k.served k.holder k.out id both.parts) (sym idle) tt } (λ j d _ e. k.each j d e) j d e);
        apart = apart_set (set s.views id both) other spent_view (apart_set s.views id both k.apart (λ j n d _ e t r. some-ne-none n (sym r ∙ ap ticket_in idle))) (λ j n d _ e t r. some-ne-none n (sym r));
        counted = k.counted ∙ ap (λ (x : ℕ). k.served + x) (sym (total_glue tickets_of s.views id other v w both spent_view at there_ (omega (arith, none_busy, none_busy'))));
        seats = total_glue part_count s.views id other v w both spent_view at there_ (omega (arith, lengths)) ∙ k.seats;
        few = k.few;
        lone = λ c. subst (λ (y : ℕ). y ≤ 1) (sym (total_glue (parts_of_channel c) s.views id other v w both spent_view at there_ (let e = total_append (λ (p : ChannelPart). one_if (p.channel == c)) w.parts v.parts in omega (arith, e)))) (k.lone c);
        marked = total_glue marks_of s.views id other v w both spent_view at there_ (let e = total_append (λ (p : ChannelPart). one_if p.shut) w.parts v.parts in omega (arith, e)) ∙ k.marked;
      }

  -- a seat with no part
  pub sits : (slots i : ℕ) → Enters Rule slots i (λ r w. Sits (w, []))
  sits slots i s k _ _ = let w : View = spent_view in let sum = λ (f : View → ℕ). total_append f s.views (w ∷ []) in (
    w,
    record {
      drawn = k.drawn;
      served = k.served;
      holder = k.holder;
      out = k.out;
      log = k.log;
      words = k.words;
      lawful = k.lawful;
      home = home_longer key k.log k.holder s.views k.out s.homes w k.home;
      each = λ j d e. ⊎_elim (k.each j d) (λ (t : w ≡ d). subst (Knows key k.log k.drawn k.served k.holder k.out j) t record { start_is = λ h. absurd (omega arith); fits = tt; room = omega arith; stands = tt }) (at_snoc s.views w d j e);
      apart = apart_more s.views w refl k.apart;
      counted = let c = k.counted in let a = sum tickets_of in omega (arith, c, a);
      seats = let c = k.seats in let a = sum part_count in omega (arith, c, a);
      few = k.few;
      lone = λ x. let c = k.lone x in let a = sum (parts_of_channel x) in omega (arith, c, a);
      marked = let c = k.marked in let a = sum marks_of in omega (arith, c, a);
    },
    refl,
  )
