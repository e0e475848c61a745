-- Each kind of step keeps the rule.
use Rattle.std.proofs.Common.{◌≡◌, ◌≢◌, ℕ, zero, suc, ◌+◌, ◌%◌, ◌<◌, ◌≤◌, ◌==◌, Bool, true, false, Option, Some, List, [], ◌∷◌, map, length, get_or, set, sym, refl, ap, ◌∙◌, subst, ⊎_elim, arith, eq-eqb, ne_eqb, mod-eq_of_lt, MatchBool}
use Rattle.std.proofs.Math.Nat.{mod-add-mod}
use mathlib.Core.Option.{Option as OptionAt, none, some, some-injective, some-ne-none}
use mathlib.Core.Logic.{dite}
use native.Mathlib.Decide.{ℕ_discrete}
use lib.ListN.{get_elem?}
use lib.Seq.{set-get_or}
use Rattle.atomic_table.specs.Table.{State, keeps, takes, gives, put_back, stepped, Allows}
use Rattle.atomic_table.proofs.Lists.{at_set, set_again, set_else, one_turn}
use Rattle.coord_core.specs.Histories.{History, history_of}
use Rattle.coord_core.specs.declared.locked.Locked.{Locked}
use Rattle.sync_types.specs.Views.{StartView}
use Rattle.ticket_board.specs.declared.rule.ChannelPart.{ChannelPart}
use Rattle.ticket_board.specs.declared.rule.View.{View}
use Rattle.ticket_board.specs.declared.rule.Stage.{Stage}
use Rattle.ticket_board.specs.declared.rule.Stage.TheVariants.{Idle, Waiting, Holding}
use Rattle.ticket_board.specs.Rule.{AreLawful, length_with_mark, Every, total, ticket_in, ticket_count, tickets_of, part_count, one_if, parts_for, parts_of_channel, marks_for, marks_of, Fits, Stands, Knows, HomeIs, AreApart, IsKept}
use Rattle.ticket_board.specs.Steps.{Mine, at_stage, Draws, with_seen, Takes, awaited_ticket, Reads, with_count, Counts, Goes, Serves}
use Rattle.ticket_board.proofs.Totals.{total_set, total_two, total_le, total_same, every_map, every_always, total_map, length_map}
use Rattle.ticket_board.proofs.Histories.{counted_mark, differ, fits_seen, fits_counted, goes_fits, goes_lawful, goes_length, goes_marks}

abbrev pub held : Stage → Bool
held (Holding n) = true
held other = false

set_there : {X : Type 0} (l : List X) (i : ℕ) (v w : X) → get_elem? l i ≡ some v → get_elem? (set l i w) i ≡ some w
set_there [] i v w e = absurd (some-ne-none v (sym e))
set_there (x ∷ xs) zero v w e = refl
set_there (x ∷ xs) (suc i) v w e = set_there xs i v w e

pub same_at : {X : Type 0} (l : List X) (i : ℕ) (v w : X) → get_elem? l i ≡ some v → get_elem? l i ≡ some w → v ≡ w
same_at l i v w a b = some-injective v w (sym a ∙ b)

pub seats_stay : (K : ℕ → View → Type 0) (vs : List View) (me : ℕ) (w : View) → K me w → ((j : ℕ) (d : View) → j ≢ me → get_elem? vs j ≡ some d → K j d) → (j : ℕ) (d : View) → get_elem? (set vs me w) j ≡ some d → K j d
seats_stay K vs me w mine others j d e = ⊎_elim (λ (t : (j ≡ me) × (w ≡ d)). subst (λ (x : ℕ × View). K x.0 x.1) (λ i. (sym t.0 i, t.1 i)) mine)
    (λ (t : (j ≢ me) × (get_elem? vs j ≡ some d)). others j d t.0 t.1) (at_set vs me j w d e)

-- no ticket twice, where the seat that changes has none of another's
pub apart_set : (vs : List View) (me : ℕ) (w : View) → AreApart vs → ((j n : ℕ) (d : View) → j ≢ me → get_elem? vs j ≡ some d → ticket_in d.stage ≡ some n → ticket_in w.stage ≡ some n → ⊥) → AreApart (set vs me w)
apart_set vs me w ap_ clash i j n v u a b t r = ⊎_elim
    (λ (p : (i ≡ me) × (w ≡ v)). ⊎_elim
    (λ (q : (j ≡ me) × (w ≡ u)). p.0 ∙ sym q.0)
    (λ (q : (j ≢ me) × (get_elem? vs j ≡ some u)). absurd (clash j n u q.0 q.1 r (ap (λ (z : View). ticket_in z.stage) p.1 ∙ t)))
    (at_set vs me j w u b))
    (λ (p : (i ≢ me) × (get_elem? vs i ≡ some v)). ⊎_elim
    (λ (q : (j ≡ me) × (w ≡ u)). absurd (clash i n v p.0 p.1 t (ap (λ (z : View). ticket_in z.stage) q.1 ∙ r)))
    (λ (q : (j ≢ me) × (get_elem? vs j ≡ some u)). ap_ i j n v u p.1 q.1 t r)
    (at_set vs me j w u b))
    (at_set vs me i w v a)

ticket_below : (log : History) (drawn served holder : ℕ) (out : Bool) (j : ℕ) (ps : List ChannelPart) (st : Stage) (n : ℕ) → Stands log drawn served holder out j ps st → ticket_in st ≡ some n → (served ≤ n) × (n < drawn)
ticket_below log drawn served holder out j ps Idle n k t = absurd (some-ne-none n (sym t))
ticket_below log drawn served holder out j ps (Waiting m) n k t = let e = some-injective m n t in let a = k.0 in let b = k.1 in (omega arith, omega arith)
ticket_below log drawn served holder out j ps (Holding m) n k t = let e = some-injective m n t in let a = k.0 in let b = k.1 in (omega arith, omega arith)

-- one ticket more is out
stands_drawn : (log : History) (drawn served holder : ℕ) (out : Bool) (j : ℕ) (ps : List ChannelPart) (st : Stage) → Stands log drawn served holder out j ps st → Stands log (drawn + 1) served holder out j ps st
stands_drawn log drawn served holder out j ps Idle k = tt
stands_drawn log drawn served holder out j ps (Waiting m) k = let b = k.1 in (k.0, omega arith)
stands_drawn log drawn served holder out j ps (Holding m) k = let b = k.1 in (k.0, omega arith, k.2, k.3, k.4)

pub home_stays : (start : StartView) (log : History) (holder : ℕ) (vs : List View) (out : Bool) (homes : List (OptionAt (Option Locked))) (me : ℕ) (v w : View) → get_elem? vs me ≡ some v → held v.stage ≡ false
    → HomeIs start log holder vs out homes → HomeIs start log holder (set vs me w) out homes
home_stays start log holder vs false homes me v w at unheld h = h
home_stays start log holder vs true homes me v w at unheld h = (h.0, h.1, h.2, set_else vs me holder w (λ e. differ (sym unheld ∙ (ap (λ (z : View). held z.stage) (same_at vs me v h.1 at (ap (get_elem? vs) (sym e) ∙ h.3)) ∙ ap held h.4))) ∙ h.3, h.4)

-- the marks of all seats, where those of one seat grow as the history does
marks_after : (all all_after mine mine_after log log_after : ℕ) → all_after + mine ≡ all + mine_after → all ≡ log → log + mine_after ≡ log_after + mine → all_after ≡ log_after
marks_after all all_after mine mine_after log log_after changed as_many grown = omega (arith, changed, as_many, grown)

module _ (key : StartView) where
  abbrev St : Type 0
  St = State (Option Locked) View

  abbrev Rule : St → Type 0
  Rule = IsKept key

  -- kind 1
  pub draws : (slots id : ℕ) (me : Mine) → me.0.stage ≡ Idle → 0 < length me.0.parts → Allows Rule slots id me 0 (λ n. (n + 1) % 18446744073709551616) (Draws me)
  draws slots id me idle some_part s k _ at _ =
      let v : View = me.0 in let w : View = at_stage v (Waiting k.drawn) in let mine = k.each id v at in let sum = total_set tickets_of s.views id v w at in let none_busy : tickets_of v ≡ 0 = ap ticket_count idle in let c = k.counted in (
        w,
        keeps,
        tt,
        record {
          drawn = k.drawn + 1;
          served = k.served;
          holder = k.holder;
          out = k.out;
          log = k.log;
          words = ap (λ (ws : List ℕ). set ws 0 ((get_or ws 0 0 + 1) % 18446744073709551616)) k.words ∙ ap (λ (x : ℕ). x ∷ k.served % 18446744073709551616 ∷ length_with_mark k.log ∷ []) (mod-add-mod k.drawn 18446744073709551616 1);
          lawful = k.lawful;
          home = home_stays key k.log k.holder s.views k.out s.homes id v w at (ap held idle) k.home;
          each = seats_stay (Knows key k.log (k.drawn + 1) k.served k.holder k.out) s.views id w
              record { start_is = mine.start_is; fits = mine.fits; room = omega arith; stands = (omega arith, omega arith) }
              (λ j d _ e. let old = k.each j d e in record { start_is = old.start_is; fits = old.fits; room = old.room; stands = stands_drawn k.log k.drawn k.served k.holder k.out j d.parts d.stage old.stands });
          apart = apart_set s.views id w k.apart (λ j n d _ e t r. let below = ticket_below k.log k.drawn k.served k.holder k.out j d.parts d.stage n (k.each j d e).stands t in let b = below.1 in let same = some-injective k.drawn n r in absurd (omega arith));
          counted = omega arith;
          seats = total_same part_count s.views id v w at refl ∙ k.seats;
          few = k.few;
          lone = λ c. subst (λ (x : ℕ). x ≤ 1) (sym (total_same (parts_of_channel c) s.views id v w at refl)) (k.lone c);
          marked = total_same marks_of s.views id v w at refl ∙ k.marked;
        },
        (k.drawn, ap (λ (ws : List ℕ). get_or ws 0 0) k.words, refl),
      )

  -- fewer than 2^64 tickets are out
  near : (s : St) (k : Rule s) → k.drawn < k.served + 18446744073709551616
  near s k = let each_le = total_le tickets_of part_count s.views (λ j v e. (k.each j v e).room) in let c = k.counted in let n = k.seats in let f = k.few in omega (arith, each_le)

  -- where the ticket of a seat that waits is served, no seat holds the slot
  no_holder : (s : St) (k : Rule s) (id : ℕ) (v : View) (out : Bool) → k.out ≡ out → get_elem? s.views id ≡ some v → v.stage ≡ Waiting k.served → HomeIs key k.log k.holder s.views out s.homes → out ≡ false
  no_holder s k id v false is at waits h = refl
  no_holder s k id v true is at waits h = let w : View = h.1 in let n : ℕ = h.2 in
      let there = subst (λ (st : Stage). Stands k.log k.drawn k.served k.holder k.out k.holder w.parts st) h.4 (k.each k.holder w h.3).stands in
      let me : id ≡ k.holder = k.apart id k.holder n v w at h.3 (ap ticket_in waits ∙ ap some there.0) (ap ticket_in h.4) in
      let same : v ≡ w = same_at s.views id v w at (ap (get_elem? s.views) me ∙ h.3) in
      absurd (differ (sym (ap held waits) ∙ (ap (λ (z : View). held z.stage) same ∙ ap held h.4)))

  taken_home : (start : StartView) (log : History) (holder : ℕ) (vs : List View) (out : Bool) (homes : List (OptionAt (Option Locked))) → out ≡ false → HomeIs start log holder vs out homes → HomeIs start log holder vs false homes
  taken_home start log holder vs false homes is h = h
  taken_home start log holder vs true homes is h = absurd (differ (sym is))

  -- the slot goes out, where no seat held it
  stands_taken : (log : History) (drawn served holder me : ℕ) (out : Bool) (j : ℕ) (ps : List ChannelPart) (st : Stage) → out ≡ false → Stands log drawn served holder out j ps st → Stands log drawn served me true j ps st
  stands_taken log drawn served holder me out j ps Idle is k = tt
  stands_taken log drawn served holder me out j ps (Waiting m) is k = k
  stands_taken log drawn served holder me out j ps (Holding m) is k = absurd (differ (sym is ∙ k.2))

  -- a step that changes nothing
  unmoved : (s : St) (k : Rule s) (i id : ℕ) (c : List (ℕ × Option Locked)) (v : View) → get_elem? s.views id ≡ some v → Rule (stepped s i (get_or s.words i 0) id c v keeps)
  unmoved s k i id c v at = subst (λ (z : List ℕ × List View). Rule record { words = z.0; homes = s.homes; views = z.1 }) (λ j. (sym (set-get_or s.words i 0) j, sym (set_again s.views id v at) j)) k

  -- kind 2, where the ticket is served
  takes_slot : (id : ℕ) (me : Mine) (n : ℕ) → me.0.stage ≡ Waiting n → 0 < length me.0.parts → (s : St) (k : Rule s) → get_elem? s.views id ≡ some me.0 → k.served ≡ n
      → (l : Locked) × (get_elem? s.homes 0 ≡ some (some (Some l))) × Rule (stepped s 1 (get_or s.words 1 0) id me.1 (record { start = me.0.start; parts = map (with_seen (history_of l)) me.0.parts; stage = Holding n }) (takes 0 (Some l)))
      × (l.board.start ≡ me.0.start) × AreLawful me.0.start l.board.entries × Every (Fits me.0.start (history_of l)) me.0.parts
  takes_slot id me n waits some_part s k at now =
      let v : View = me.0 in let mine = k.each id v at in let shut_ = no_holder s k id v k.out refl at (waits ∙ ap Waiting (sym now)) k.home in
      let h = taken_home key k.log k.holder s.views k.out s.homes shut_ k.home in let l : Locked = h.0 in let log_is : history_of l ≡ k.log = h.3 in
      let w : View = record { start = v.start; parts = map (with_seen (history_of l)) v.parts; stage = Holding n } in
      let place = subst (Stands k.log k.drawn k.served k.holder k.out id v.parts) waits mine.stands in
      let sum = total_set tickets_of s.views id v w at in let was : tickets_of v ≡ 1 = ap ticket_count waits in let c = k.counted in
      let many : part_count w ≡ part_count v = length_map (with_seen (history_of l)) v.parts in let start_same = mine.start_is some_part in (
        l,
        ap (λ (hs : List (OptionAt (Option Locked))). get_elem? hs 0) h.1,
        record {
          drawn = k.drawn;
          served = k.served;
          holder = id;
          out = true;
          log = k.log;
          words = set-get_or s.words 1 0 ∙ k.words;
          lawful = k.lawful;
          home = (ap (λ (hs : List (OptionAt (Option Locked))). set hs 0 none) h.1, w, n, set_there s.views id v w at, refl);
          each = seats_stay (Knows key k.log k.drawn k.served id true) s.views id w
              record {
                start_is = λ _. mine.start_is some_part;
                fits = every_map (Fits key k.log) (Fits key k.log) (with_seen (history_of l)) v.parts (λ p f. subst (λ (h : History). Fits key k.log (with_seen h p)) (sym log_is) (fits_seen key k.log p k.lawful f)) mine.fits;
                room = omega arith;
                stands = (now, place.1, refl, refl, every_map (Fits key k.log) (λ (p : ChannelPart). p.seen ≡ k.log) (with_seen (history_of l)) v.parts (λ p f. log_is) mine.fits);
              }
              (λ j d _ e. let old = k.each j d e in record { start_is = old.start_is; fits = old.fits; room = old.room; stands = stands_taken k.log k.drawn k.served k.holder id k.out j d.parts d.stage shut_ old.stands });
          apart = apart_set s.views id w k.apart (λ j m d other e t r. other (k.apart j id m d v e at t (ap ticket_in waits ∙ r)));
          counted = omega arith;
          seats = total_same part_count s.views id v w at many ∙ k.seats;
          few = k.few;
          lone = λ c. subst (λ (x : ℕ). x ≤ 1) (sym (total_same (parts_of_channel c) s.views id v w at (total_map (λ (p : ChannelPart). one_if (p.channel == c)) (λ (p : ChannelPart). one_if (p.channel == c)) (with_seen (history_of l)) v.parts (λ p. refl)))) (k.lone c);
          marked = total_same marks_of s.views id v w at (total_map (λ (p : ChannelPart). one_if p.shut) (λ (p : ChannelPart). one_if p.shut) (with_seen (history_of l)) v.parts (λ p. refl)) ∙ k.marked;
        },
        h.2 ∙ sym start_same,
        subst (λ (z : StartView × History). AreLawful z.0 z.1.entries) (λ i. (sym start_same i, sym log_is i)) k.lawful,
        subst (λ (z : StartView × History). Every (Fits z.0 z.1) v.parts) (λ i. (sym start_same i, sym log_is i)) mine.fits,
      )

  -- kind 2
  pub reads : (slots id : ℕ) (me : Mine) (n : ℕ) → me.0.stage ≡ Waiting n → 0 < length me.0.parts → Allows Rule slots id me 1 (λ r. r) (Reads me)
  reads slots id me n waits some_part s k _ at _ =
      let r : ℕ = get_or s.words 1 0 in let found : r ≡ k.served % 18446744073709551616 = ap (λ (ws : List ℕ). get_or ws 1 0) k.words in
      let place = subst (Stands k.log k.drawn k.served k.holder k.out id me.0.parts) waits (k.each id me.0 at).stands in let low = place.0 in let high = place.1 in let few = near s k in
      let says = λ (m' : Mine) (b : Bool) (is : (r == (n % 18446744073709551616)) ≡ b) (t : MatchBool b (Takes me n m') (m' ≡ me)). subst (λ (x : ℕ). MatchBool (r == (x % 18446744073709551616)) (Takes me x m') (m' ≡ me)) (sym (ap awaited_ticket waits)) (subst (λ (c : Bool). MatchBool c (Takes me n m') (m' ≡ me)) (sym is) t) in
      dite (ℕ_discrete r (n % 18446744073709551616))
      (λ hit. let t = takes_slot id me n waits some_part s k at (one_turn k.served n 18446744073709551616 low (omega arith) (sym found ∙ hit)) in let l : Locked = t.0 in let w : View = record { start = me.0.start; parts = map (with_seen (history_of l)) me.0.parts; stage = Holding n } in
      (w, takes 0 (Some l), t.1, t.2, says (w, (0, Some l) ∷ me.1) true (eq-eqb r (n % 18446744073709551616) hit) (l, refl, t.3, t.4, t.5)))
      (λ miss. (me.0, keeps, tt, unmoved s k 1 id me.1 me.0 at, says me false (ne_eqb r (n % 18446744073709551616) miss) refl))

  out_home : (start : StartView) (log : History) (holder : ℕ) (vs : List View) (out : Bool) (homes : List (OptionAt (Option Locked))) → out ≡ true → HomeIs start log holder vs out homes → homes ≡ none ∷ []
  out_home start log holder vs false homes is h = absurd (differ is)
  out_home start log holder vs true homes is h = h.0

  -- no other seat holds the slot
  stands_else : (log log' : History) (drawn served holder me : ℕ) (out : Bool) (j : ℕ) (ps : List ChannelPart) (st : Stage) → me ≡ holder → j ≢ me → Stands log drawn served holder out j ps st → Stands log' drawn served me true j ps st
  stands_else log log' drawn served holder me out j ps Idle is other k = tt
  stands_else log log' drawn served holder me out j ps (Waiting m) is other k = k
  stands_else log log' drawn served holder me out j ps (Holding m) is other k = absurd (other (k.3 ∙ sym is))

  times_none : (c : ℕ) (ps : List ChannelPart) → parts_for c ps ≡ 0 → Every (λ (q : ChannelPart). c ≢ q.channel) ps
  times_none c [] none_of = tt
  times_none c (q ∷ ps) none_of = (λ is. let hit : one_if (q.channel == c) ≡ 1 = ap one_if (eq-eqb q.channel c (sym is)) in absurd (omega (arith, hit, none_of)), times_none c ps (omega arith))

  -- no other seat has a part of the channel c, where this one has
  not_theirs : (s : St) (k : Rule s) (id j c : ℕ) (v d : View) → get_elem? s.views id ≡ some v → get_elem? s.views j ≡ some d → j ≢ id → parts_for c v.parts ≡ 1 → Every (λ (q : ChannelPart). c ≢ q.channel) d.parts
  not_theirs s k id j c v d at there other one = let two = total_two (parts_of_channel c) s.views id j v d other at there in let most = k.lone c in times_none c d.parts (omega (arith, two, most, one))

  every_both : (P Q R : ChannelPart → Type 0) (l : List ChannelPart) → ((x : ChannelPart) → P x → Q x → R x) → Every P l → Every Q l → Every R l
  every_both P Q R [] h a b = tt
  every_both P Q R (x ∷ xs) h a b = (h x a.0 b.0, every_both P Q R xs h a.1 b.1)

  -- kind 4
  pub counts : (slots id : ℕ) (me : Mine) (n : ℕ) (p : ChannelPart) (after : History) (more : ℕ) → me.0.stage ≡ Holding n → me.0.parts ≡ p ∷ [] → Goes me.0.start p after more → length_with_mark p.seen + more < 18446744073709551616
      → Allows Rule slots id me 2 (λ r. (r + more) % 18446744073709551616) (λ r m'. Counts after me m')
  counts slots id me n p after more holds_ parts_are goes fits_word s k _ at _ =
      let v : View = me.0 in let w : View = record { start = v.start; parts = map (with_count after) v.parts; stage = v.stage } in let mine = k.each id v at in
      let place = subst (Stands k.log k.drawn k.served k.holder k.out id v.parts) holds_ mine.stands in
      let some_part : 0 < length v.parts = let e = ap (λ (ps : List ChannelPart). length ps) parts_are in omega (arith, e) in let start_same = mine.start_is some_part in
      let seen : p.seen ≡ k.log = (subst (Every (λ (q : ChannelPart). q.seen ≡ k.log)) parts_are place.4).0 in
      let goes' : Goes key p after more = subst (λ (x : StartView). Goes x p after more) start_same goes in
      let legal' : AreLawful key after.entries = goes_lawful key p after more goes' (subst (λ (h : History). AreLawful key h.entries) (sym seen) k.lawful) in
      let many : part_count w ≡ part_count v = length_map (with_count after) v.parts in
      let one : parts_for p.channel v.parts ≡ 1 = ap (parts_for p.channel) parts_are ∙ let hit : one_if (p.channel == p.channel) ≡ 1 = ap one_if (eq-eqb p.channel p.channel refl) in omega (arith, hit) in
      let sum = total_set tickets_of s.views id v w at in let c = k.counted in let room = mine.room in
      let word : get_or s.words 2 0 ≡ length_with_mark k.log = ap (λ (ws : List ℕ). get_or ws 2 0) k.words in let grows = goes_length key p after more goes' in let same_extent = ap length_with_mark seen in
      let own : Fits key k.log p = (subst (Every (Fits key k.log)) parts_are mine.fits).0 in
      let MarkStays : ChannelPart → Type 0 = λ q. (with_count after q).shut ≡ true → after.closed ≡ true in
      let one_mark = goes_marks key p after more goes' own.shut in
      let grown : one_if p.seen.closed + marks_for (map (with_count after) v.parts) ≡ one_if after.closed + marks_for v.parts =
      subst (λ (ps : List ChannelPart). one_if p.seen.closed + marks_for (map (with_count after) ps) ≡ one_if after.closed + marks_for ps) (sym parts_are) (omega (arith, one_mark)) in
      let new_word : (length_with_mark k.log + more) % 18446744073709551616 ≡ length_with_mark after = subst (λ (x : ℕ). (x + more) % 18446744073709551616 ≡ length_with_mark after) same_extent (mod-eq_of_lt fits_word ∙ grows) in (
        w,
        keeps,
        tt,
        record {
          drawn = k.drawn;
          served = k.served;
          holder = id;
          out = true;
          log = after;
          words = ap (λ (ws : List ℕ). set ws 2 ((get_or ws 2 0 + more) % 18446744073709551616)) k.words ∙ ap (λ (x : ℕ). k.drawn % 18446744073709551616 ∷ k.served % 18446744073709551616 ∷ x ∷ []) new_word;
          lawful = legal';
          home = (out_home key k.log k.holder s.views k.out s.homes place.2 k.home, w, n, set_there s.views id v w at, holds_);
          each = seats_stay (Knows key after k.drawn k.served id true) s.views id w
              record {
                start_is = λ _. start_same;
                fits = every_map MarkStays (Fits key after) (with_count after) v.parts (λ q stays. fits_counted key after q legal' stays)
                    (subst (Every MarkStays) (sym parts_are) (counted_mark key p after more goes' own.shut, tt));
                room = omega arith;
                stands = subst (Stands after k.drawn k.served id true id w.parts) (sym holds_) (
                  place.0,
                  place.1,
                  refl,
                  refl,
                  every_map (λ (q : ChannelPart). Unit {0}) (λ (q : ChannelPart). q.seen ≡ after) (with_count after) v.parts (λ q _. refl) (every_always (λ (q : ChannelPart). Unit {0}) v.parts (λ q. tt)),
                );
              }
              (λ j d other e. let old = k.each j d e in record {
                start_is = old.start_is;
                fits = every_both (Fits key k.log) (λ (q : ChannelPart). p.channel ≢ q.channel) (Fits key after) d.parts
                    (λ q f ne. goes_fits key p q after more goes' ne (subst (λ (h : History). Fits key h q) (sym seen) f)) old.fits (not_theirs s k id j p.channel v d at e other one);
                room = old.room;
                stands = stands_else k.log after k.drawn k.served k.holder id k.out j d.parts d.stage place.3 other old.stands;
              });
          apart = apart_set s.views id w k.apart (λ j m d other e t r. other (k.apart j id m d v e at t r));
          counted = omega arith;
          seats = total_same part_count s.views id v w at many ∙ k.seats;
          few = k.few;
          lone = λ x. subst (λ (y : ℕ). y ≤ 1) (sym (total_same (parts_of_channel x) s.views id v w at (total_map (λ (q : ChannelPart). one_if (q.channel == x)) (λ (q : ChannelPart). one_if (q.channel == x)) (with_count after) v.parts (λ q. refl)))) (k.lone x);
          marked = marks_after (total marks_of s.views) (total marks_of (set s.views id w)) (marks_of v) (marks_of w) (one_if p.seen.closed) (one_if after.closed)
              (total_set marks_of s.views id v w at) (k.marked ∙ ap (λ (h : History). one_if h.closed) (sym seen)) grown;
        },
        refl,
      )

  -- the next ticket is served
  stands_served : (log : History) (drawn served holder me : ℕ) (out : Bool) (j : ℕ) (ps : List ChannelPart) (st : Stage) → me ≡ holder → j ≢ me → (ticket_in st ≡ some served → ⊥) → Stands log drawn served holder out j ps st
      → Stands log drawn (served + 1) me false j ps st
  stands_served log drawn served holder me out j ps Idle is other not_me k = tt
  stands_served log drawn served holder me out j ps (Waiting m) is other not_me k = let ne : m ≢ served = λ e. not_me (ap some e) in let a = k.0 in (omega arith, k.1)
  stands_served log drawn served holder me out j ps (Holding m) is other not_me k = absurd (other (k.3 ∙ sym is))

  -- kind 6
  pub serves : (slots id : ℕ) (me : Mine) (n : ℕ) (p : ChannelPart) (l : Locked) → me.0.stage ≡ Holding n → me.0.parts ≡ p ∷ [] → me.1 ≡ (0, Some l) ∷ [] → l.board.start ≡ me.0.start → p.seen ≡ history_of l
      → Allows Rule slots id me 1 (λ r. (r + 1) % 18446744073709551616) (λ r m'. Serves me m')
  serves slots id me n p l holds_ parts_are slot_is start_is seen_is s k _ at _ =
      let v : View = me.0 in let w : View = at_stage v Idle in let mine = k.each id v at in
      let place = subst (Stands k.log k.drawn k.served k.holder k.out id v.parts) holds_ mine.stands in
      let some_part : 0 < length v.parts = let e = ap (λ (ps : List ChannelPart). length ps) parts_are in omega (arith, e) in let start_same = mine.start_is some_part in
      let seen : p.seen ≡ k.log = (subst (Every (λ (q : ChannelPart). q.seen ≡ k.log)) parts_are place.4).0 in
      let sum = total_set tickets_of s.views id v w at in let was : tickets_of v ≡ 1 = ap ticket_count holds_ in let c = k.counted in
      let away = out_home key k.log k.holder s.views k.out s.homes place.2 k.home in (
        w,
        gives,
        tt,
        record {
          drawn = k.drawn;
          served = k.served + 1;
          holder = id;
          out = false;
          log = k.log;
          words = ap (λ (ws : List ℕ). set ws 1 ((get_or ws 1 0 + 1) % 18446744073709551616)) k.words ∙ ap (λ (x : ℕ). k.drawn % 18446744073709551616 ∷ x ∷ length_with_mark k.log ∷ []) (mod-add-mod k.served 18446744073709551616 1);
          lawful = k.lawful;
          home = (l, (λ i. put_back (away i) (slot_is i)), start_is ∙ start_same, sym seen_is ∙ seen);
          each = seats_stay (Knows key k.log k.drawn (k.served + 1) id false) s.views id w
              record { start_is = mine.start_is; fits = mine.fits; room = omega arith; stands = tt }
              (λ j d other e. let old = k.each j d e in record {
                start_is = old.start_is;
                fits = old.fits;
                room = old.room;
                stands = stands_served k.log k.drawn k.served k.holder id k.out j d.parts d.stage place.3 other (λ t. other (k.apart j id k.served d v e at t (ap ticket_in holds_ ∙ ap some (sym place.0)))) old.stands;
              });
          apart = apart_set s.views id w k.apart (λ j m d other e t r. some-ne-none m (sym r));
          counted = omega arith;
          seats = total_same part_count s.views id v w at refl ∙ k.seats;
          few = k.few;
          lone = λ x. subst (λ (y : ℕ). y ≤ 1) (sym (total_same (parts_of_channel x) s.views id v w at refl)) (k.lone x);
          marked = total_same marks_of s.views id v w at refl ∙ k.marked;
        },
        refl,
      )
