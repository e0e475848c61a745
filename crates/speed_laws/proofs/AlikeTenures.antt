-- The tenures of a zone in two runs are alike: they are those of an axis that carries the zone, which has the same in both.
use Rattle.std.proofs.Common.{◌≡◌, ◌⊎◌, ◌∙◌, ℕ, suc, ◌+◌, ◌-◌, true, false, ◌==◌, List, [], ◌∷◌, ◌++◌, append-nil, length, filter, slice_get, Option, None, Some, All, inl, inr, unwrap_or, refl, sym, ap, subst, arith}
use Rattle.std.proofs.lemmas.Bool.{cases_Bool}
use Rattle.std.proofs.lemmas.List.Elements.{All-head, All-tail}
use Rattle.std.specs.Option.{option_map_or}
use Rattle.axis_sets.specs.Positions.{stands}
use Rattle.axis_sets.specs.Sets.{has}
use Rattle.board_laws.specs.Machine.{Place}
use Rattle.board_laws.specs.Machine as machine
use Rattle.job_types.specs.Job.{JobView}
use Rattle.job_types.specs.Zones.{has_axis}
use Rattle.job_types.specs.declared.job.ZoneLine.{ZoneLine}
use Rattle.speed_laws.proofs.RunBoards.{IsRunBoard}
use Rattle.zone_stretches.proofs.HandLaws.{HandsAre, IsFor, carry_from, run_hands}
use Rattle.zone_stretches.specs.Occurrences.{OccurrenceView, occurrences_from, occurrences_of}
use Rattle.zone_stretches.specs.Spans.{SpanStartView}
use Rattle.zone_stretches.specs.Tenures.{TenureView, carry, counted, first_tenure, tenure_after, tenure_until, tenures_from, tenures_of}
use Rattle.schedule_laws.specs.Tracked.{tenures_at}
use Rattle.speed_laws.proofs.AlikeEvents.{AreAlikeEvents, alike_at}
use Rattle.speed_laws.proofs.AlikeNames.{AreAlikeEnds}
use Rattle.speed_laws.proofs.AlikeSpans.{AreAlikeBeginnings}
use Rattle.speed_laws.proofs.Hands.{hands, next_place, tenures_read}
use Rattle.speed_laws.proofs.PresentTenures.{one_tenure, run_takes}
use Rattle.speed_laws.proofs.ZoneTenures.{AreLeft, At, Change, Frees, Takes, Neither, TakesAll, change_of, hand_frees, hand_neither, hand_takes, left_here, left_later}
use Rattle.sync_types.specs.Boards.{Board, owner_of}
use Rattle.sync_types.specs.Turns.{AreOfRunning, Move}
use Rattle.sync_types.specs.Views.{RunView}
use Rattle.sync_types.specs.declared.runs.EventId.{EventId}
use Rattle.sync_types.specs.declared.verdicts.StretchKind.TheVariants.{Free}

-- ---- a tenure of the zone is one of the axis

abbrev pub begins_with : OccurrenceView → SpanStartView
begins_with o = record { kind = Free; line = unwrap_or o.line 0; at = stands o.at; on = has o.on; first = Some o.name }

abbrev pub BeginsAt : List OccurrenceView → SpanStartView → Option Place → SpanStartView → Type 0
BeginsAt all first None begins = begins ≡ first
BeginsAt all first (Some e) begins = (o : OccurrenceView) × At all e o × (begins ≡ begins_with o)

-- the number of the last span of its owner, or 0 where it has none
abbrev pub upto_of : Option ℕ → Place → ℕ
upto_of None e = 0
upto_of (Some c) e = e.place - 1

abbrev pub EndsAt : List OccurrenceView → Option ℕ → Option Place → TenureView → Type 0
EndsAt all owner None t = (t.upto ≡ None) × (t.last ≡ None)
EndsAt all owner (Some e) t = (o : OccurrenceView) × At all e o × (t.last ≡ Some o.name) × (t.upto ≡ Some (upto_of owner e))

pub record IsRead (all : List OccurrenceView) (first : SpanStartView) (v : machine.Tenure) (t : TenureView) : Type 0 where
  pub owner : t.owner ≡ v.owner
  pub from : t.from ≡ v.from
  pub begins : BeginsAt all first v.first t.begins
  pub ends : EndsAt all v.owner v.last t

abbrev pub AllRead : List OccurrenceView → SpanStartView → List machine.Tenure → List TenureView → Type 0
AllRead all first [] [] = Unit {0}
AllRead all first (v ∷ vs) (t ∷ ts) = IsRead all first v t × AllRead all first vs ts
AllRead all first vs ts = ⊥

-- the newest first
abbrev onto : List machine.Tenure → List machine.Tenure → List machine.Tenure
onto [] older = older
onto (v ∷ vs) older = onto vs (v ∷ older)

back : (vs older rest : List machine.Tenure) → onto (onto vs older) rest ≡ onto older (vs ++ rest)
back [] older rest = refl
back (v ∷ vs) older rest = back vs (v ∷ older) rest

one_way : (vs us : List machine.Tenure) → onto vs [] ≡ onto us [] → vs ≡ us
one_way vs us same = sym (append-nil vs) ∙ sym (back vs [] []) ∙ ap (λ (ts : List machine.Tenure). onto ts []) same ∙ back us [] [] ∙ append-nil us

-- ---- all of them

until : machine.Tenure → ℕ → Place → machine.Tenure
until v upto e = record { owner = v.owner; first = v.first; last = Some e; from = v.from; upto = upto }

module _ (zone : ZoneLine) (x : ℕ) (carries : has_axis zone x ≡ true) (all : List OccurrenceView) (first : SpanStartView) where
  pub record ReadSo (counts : ℕ → ℕ) (t : TenureView) (v : machine.Tenure) (os : List OccurrenceView) : Type 0 where
    pub tenures : List machine.Tenure
    pub are : (older : List machine.Tenure) → hands x counts (v ∷ older) os ≡ onto tenures older
    pub read : AllRead all first tenures (tenures_from zone counts t os)

  ended : (counts : ℕ → ℕ) (o : OccurrenceView) (v : machine.Tenure) (t : TenureView) (upto : ℕ) → At all (next_place counts o) o → IsRead all first v t → (v.owner ≡ Some o.channel) ⊎ (v.owner ≡ None)
      → IsRead all first (until v upto (next_place counts o)) (tenure_until counts t o)
  unfolding until
  ended counts o v t upto at m owner = record { owner = m.owner; from = m.from; begins = m.begins; ends = (o, at, refl, by_owner v.owner refl owner) }
    where
      by_owner : (w : Option ℕ) → v.owner ≡ w → (w ≡ Some o.channel) ⊎ (w ≡ None) → Some (option_map_or counts t.owner 0) ≡ Some (upto_of w (next_place counts o))
      by_owner None is either = ap (λ (d : Option ℕ). Some (option_map_or counts d 0)) (m.owner ∙ is)
      by_owner (Some c) is (inr none) = absurd cc
      by_owner (Some c) is (inl same) =
          let less : counts o.channel ≡ suc (counts o.channel) - 1 = omega arith in
          ap (λ (d : Option ℕ). Some (option_map_or counts d 0)) (m.owner ∙ is ∙ same) ∙ ap (λ (n : ℕ). Some n) less

  pub all_read : (os : List OccurrenceView) (counts : ℕ → ℕ) (t : TenureView) (v : machine.Tenure) → IsRead all first v t → HandsAre zone t.owner os → All (TakesAll zone x carries) os → AreLeft zone x carries all counts os
      → ReadSo counts t v os
  unfolding until
  all_read [] counts t v m are takes left = record { tenures = v ∷ []; are = λ older. refl; read = (m, tt) }
  all_read (o ∷ os) counts t v m are takes left =
      by_change (change_of zone x carries t.owner o os are (All-head (TakesAll zone x carries) o os takes))
      (λ t' v' m' are'. all_read os (counted counts o.channel) t' v' m' are' (All-tail (TakesAll zone x carries) o os takes) (left_later zone x carries all counts o os left))
    where
      at : At all (next_place counts o) o
      at = left_here zone x carries all counts o os left

      by_change : Change zone x carries t.owner o
          → ((t' : TenureView) (v' : machine.Tenure) → IsRead all first v' t' → HandsAre zone t'.owner os → ReadSo (counted counts o.channel) t' v' os) → ReadSo counts t v (o ∷ os)
      by_change (Frees on changes off owner) rest =
          let new : machine.Tenure = record { owner = None; first = Some (next_place counts o); last = None; from = suc (counts o.channel); upto = 0 } in
          let old = until v (counts o.channel) (next_place counts o) in
          let mine : (tenure_after zone counts o).owner ≡ None = rw off refl in
          let next : HandsAre zone (tenure_after zone counts o).owner os = subst (λ (w : Option ℕ). HandsAre zone w os) (rw (changes, off) refl) are.3 in
          let r = rest (tenure_after zone counts o) new (record { owner = mine; from = refl; begins = (o, at, refl); ends = (refl, refl) }) next in
          record {
            tenures = old ∷ r.tenures;
            are = λ older. ap (λ (ts : List machine.Tenure). hands x (counted counts o.channel) ts os) (hand_frees zone x carries counts o (v ∷ older) on) ∙ r.are (old ∷ older);
            read = rw changes (ended counts o v t (counts o.channel) at m (inl (sym m.owner ∙ owner)), r.read);
          }
      by_change (Takes stays on changes takes_it owner known) rest =
          let new : machine.Tenure = record { owner = Some o.channel; first = Some (next_place counts o); last = None; from = suc (counts o.channel); upto = 0 } in
          let old = until v 0 (next_place counts o) in
          let mine : (tenure_after zone counts o).owner ≡ Some o.channel = rw takes_it refl in
          let next : HandsAre zone (tenure_after zone counts o).owner os = subst (λ (w : Option ℕ). HandsAre zone w os) (rw (changes, takes_it) refl) are.3 in
          let r = rest (tenure_after zone counts o) new (record { owner = mine; from = refl; begins = (o, at, refl); ends = (refl, refl) }) next in
          record {
            tenures = old ∷ r.tenures;
            are = λ older. ap (λ (ts : List machine.Tenure). hands x (counted counts o.channel) ts os) (hand_takes zone x carries counts o (v ∷ older) stays on) ∙ r.are (old ∷ older);
            read = rw changes (ended counts o v t 0 at m (inr (sym m.owner ∙ owner)), r.read);
          }
      by_change (Neither stays none same) rest =
          let next : HandsAre zone t.owner os = subst (λ (w : Option ℕ). HandsAre zone w os) (rw same refl) are.3 in
          let r = rest t v m next in
          record {
            tenures = r.tenures;
            are = λ older. ap (λ (ts : List machine.Tenure). hands x (counted counts o.channel) ts os) (hand_neither zone x carries counts o (v ∷ older) stays none) ∙ r.are older;
            read = rw same r.read;
          }

-- ---- two runs

module _ (b : Board) (ms ns : List Move) (run other : RunView) where
  pub record AreAlikeTenures (t u : TenureView) : Type 0 where
    pub owner : t.owner ≡ u.owner
    pub from : t.from ≡ u.from
    pub upto : t.upto ≡ u.upto
    pub begins : AreAlikeBeginnings b ms ns run other t.begins u.begins
    pub last : AreAlikeEnds b ms ns t.last u.last

  abbrev pub AllAlikeTenures : List TenureView → List TenureView → Type 0
  AllAlikeTenures [] [] = Unit {0}
  AllAlikeTenures (t ∷ ts) (u ∷ us) = AreAlikeTenures t u × AllAlikeTenures ts us
  AllAlikeTenures ts us = ⊥

  -- in both each channel has alike events
  module _ (alike : (c : ℕ) → AreAlikeEvents b ms ns run.items other.items (filter (λ o. o.channel == c) (occurrences_of b ms)) (filter (λ o. o.channel == c) (occurrences_of b ns))) where
    begins_alike : (first : SpanStartView) → AreAlikeBeginnings b ms ns run other first first → (place : Option Place) (begins also : SpanStartView)
        → BeginsAt (occurrences_of b ms) first place begins → BeginsAt (occurrences_of b ns) first place also → AreAlikeBeginnings b ms ns run other begins also
    begins_alike first itself None begins also one two = subst (λ (d : SpanStartView). AreAlikeBeginnings b ms ns run other begins d) (sym two) (subst (λ (d : SpanStartView). AreAlikeBeginnings b ms ns run other d first) (sym one) itself)
    begins_alike first itself (Some e) begins also one two =
        let event = alike_at b ms ns run.items other.items _ _ (e.place - 1) one.0 two.0 (alike e.channel) one.1 two.1 in
        let are : AreAlikeBeginnings b ms ns run other (begins_with one.0) (begins_with two.0) = record {
          kind = refl;
          line = ap (λ (line : Option ℕ). unwrap_or line 0) event.line;
          at = ap stands event.at;
          on = ap has event.on;
          first = event.names;
        } in
        subst (λ (d : SpanStartView). AreAlikeBeginnings b ms ns run other begins d) (sym two.2) (subst (λ (d : SpanStartView). AreAlikeBeginnings b ms ns run other d (begins_with two.0)) (sym one.2) are)

    ends_alike : (owner : Option ℕ) (place : Option Place) (t u : TenureView) → EndsAt (occurrences_of b ms) owner place t → EndsAt (occurrences_of b ns) owner place u
        → (t.upto ≡ u.upto) × AreAlikeEnds b ms ns t.last u.last
    ends_alike owner None t u one two =
        (one.0 ∙ sym two.0, subst (λ (d : Option EventId). AreAlikeEnds b ms ns t.last d) (sym two.1) (subst (λ (d : Option EventId). AreAlikeEnds b ms ns d None) (sym one.1) tt))
    ends_alike owner (Some e) t u one two =
        let event = alike_at b ms ns run.items other.items _ _ (e.place - 1) one.0 two.0 (alike e.channel) one.1 two.1 in (
          one.3 ∙ sym two.3,
          subst (λ (d : Option EventId). AreAlikeEnds b ms ns t.last d) (sym two.2) (subst (λ (d : Option EventId). AreAlikeEnds b ms ns d (Some two.0.name)) (sym one.2) event.names),
        )

    read_alike : (first : SpanStartView) → AreAlikeBeginnings b ms ns run other first first → (vs : List machine.Tenure) (ts us : List TenureView)
        → AllRead (occurrences_of b ms) first vs ts → AllRead (occurrences_of b ns) first vs us → AllAlikeTenures ts us
    read_alike first itself [] [] [] one two = tt
    read_alike first itself [] [] (u ∷ us) one two = absurd two
    read_alike first itself [] (t ∷ ts) us one two = absurd one
    read_alike first itself (v ∷ vs) [] us one two = absurd one
    read_alike first itself (v ∷ vs) (t ∷ ts) [] one two = absurd two
    read_alike first itself (v ∷ vs) (t ∷ ts) (u ∷ us) one two =
        let ends = ends_alike v.owner v.last t u one.0.ends two.0.ends in (
          record {
            owner = one.0.owner ∙ sym two.0.owner;
            from = one.0.from ∙ sym two.0.from;
            upto = ends.0;
            begins = begins_alike first itself v.first t.begins u.begins one.0.begins two.0.begins;
            last = ends.1;
          },
          read_alike first itself vs ts us one.1 two.1,
        )

    -- ---- of a zone

    module _ (job : JobView) (zone : ZoneLine) (zs : IsRunBoard b) (holder : b.holder zone.zone ≡ zone.holder) (for : IsFor zone b) (one : AreOfRunning b ms) (two : AreOfRunning b ns) where
      first_alike : AreAlikeBeginnings b ms ns run other (first_tenure job zone).begins (first_tenure job zone).begins
      first_alike = record { kind = refl; line = refl; at = refl; on = refl; first = tt }

      bare_alike : carry zone (λ axis. true) ≡ false → AllAlikeTenures (tenures_from zone (λ c. 0) (first_tenure job zone) (occurrences_from b 0 ms)) (tenures_from zone (λ c. 0) (first_tenure job zone) (occurrences_from b 0 ns))
      bare_alike bare =
          subst (λ (us : List TenureView). AllAlikeTenures (tenures_from zone (λ c. 0) (first_tenure job zone) (occurrences_from b 0 ms)) us)
          (sym (one_tenure zone bare (occurrences_from b 0 ns) (λ c. 0) (first_tenure job zone)))
          (subst (λ (ts : List TenureView). AllAlikeTenures ts (first_tenure job zone ∷ []))
          (sym (one_tenure zone bare (occurrences_from b 0 ms) (λ c. 0) (first_tenure job zone)))
          (record { owner = refl; from = refl; upto = refl; begins = first_alike; last = tt }, tt))

      places_from : (os : List OccurrenceView) (c k : ℕ) → slice_get (filter (λ p. p.channel == c) os) (0 + k) ≡ slice_get (filter (λ p. p.channel == c) os) k
      places_from os c k = let same : 0 + k ≡ k = omega arith in ap (λ (n : ℕ). slice_get (filter (λ p. p.channel == c) os) n) same

      read_in : (x : ℕ) (carries : has_axis zone x ≡ true) (moves : List Move) → AreOfRunning b moves
          → ReadSo zone x carries (occurrences_from b 0 moves) (first_tenure job zone).begins (λ c. 0) (first_tenure job zone) (record { owner = owner_of (b.axis x); first = None; last = None; from = 0; upto = 0 }) (occurrences_from b 0 moves)
      read_in x carries moves runs =
          all_read zone x carries (occurrences_from b 0 moves) (first_tenure job zone).begins (occurrences_from b 0 moves) (λ c. 0) (first_tenure job zone)
          (record { owner = owner_of (b.axis x); first = None; last = None; from = 0; upto = 0 })
          (record { owner = sym holder ∙ sym (zs.zones.owner zone.zone x (for x ∙ carries)); from = refl; begins = refl; ends = (refl, refl) })
          (subst (λ (w : Option ℕ). HandsAre zone w (occurrences_from b 0 moves)) holder (run_hands moves b zone 0 zs.robs_nobody zs.zones for))
          (run_takes moves b zone 0 x carries zs for runs)
          (places_from (occurrences_from b 0 moves))

      carried_alike : ((x : ℕ) → tenures_at b ms (length ms) x ≡ tenures_at b ns (length ns) x) → (x : ℕ) → has_axis zone x ≡ true
          → AllAlikeTenures (tenures_from zone (λ c. 0) (first_tenure job zone) (occurrences_from b 0 ms)) (tenures_from zone (λ c. 0) (first_tenure job zone) (occurrences_from b 0 ns))
      unfolding occurrences_of
      carried_alike same x carries =
          let left = read_in x carries ms one in
          let right = read_in x carries ns two in
          let tenures : left.tenures ≡ right.tenures =
          one_way left.tenures right.tenures (sym (left.are []) ∙ tenures_read b ms x zs one ∙ same x ∙ sym (tenures_read b ns x zs two) ∙ right.are []) in
          read_alike (first_tenure job zone).begins first_alike right.tenures _ _
          (subst (λ (vs : List machine.Tenure). AllRead (occurrences_from b 0 ms) (first_tenure job zone).begins vs (tenures_from zone (λ c. 0) (first_tenure job zone) (occurrences_from b 0 ms))) tenures left.read) right.read

      pub zone_alike : ((x : ℕ) → tenures_at b ms (length ms) x ≡ tenures_at b ns (length ns) x) → AllAlikeTenures (tenures_of job (occurrences_of b ms) zone) (tenures_of job (occurrences_of b ns) zone)
      unfolding occurrences_of tenures_of
      zone_alike same = elim (cases_Bool (carry zone (λ axis. true))) [
        | inl some ↦ let w = carry_from zone (λ axis. true) some in carried_alike same w.0 w.1
        | inr bare ↦ bare_alike bare
      ]
