-- The tenures of a zone are those of an axis that carries it.
use Rattle.std.proofs.Common.{◌≡◌, ◌⊎◌, ◌∙◌, ℕ, suc, ◌+◌, ◌-◌, ◌<◌, ◌≤◌, Bool, true, false, cond, ◌==◌, List, [], ◌∷◌, filter, slice_get, Option, None, Some, IfSome, All, inl, inr, refl, sym, ap, subst, arith}
use Rattle.std.proofs.lemmas.Bool.{cases_Bool, cases_eq, eq-eqb, ne_eqb}
use Rattle.std.proofs.lemmas.List.Elements.{All-head, All-tail}
use Rattle.std.specs.Option.{option_map_or}
use Rattle.axis_sets.specs.Positions.{stands}
use Rattle.axis_sets.specs.Sets.{has}
use Rattle.board_laws.specs.Machine.{Place, tenures_handed_on}
use Rattle.board_laws.specs.Machine as machine
use Rattle.job_types.specs.Zones.{has_axis}
use Rattle.job_types.specs.declared.job.ZoneLine.{ZoneLine}
use Rattle.number_laws.proofs.Lists.{SomeOf}
use Rattle.order_clocks.specs.Chains.{IsIn}
use Rattle.zone_stretches.proofs.HandLaws.{HandsAre, carry_to, owner_next, owners_next}
use Rattle.zone_stretches.specs.Occurrences.{OccurrenceView}
use Rattle.zone_stretches.specs.Spans.{SpanStartView}
use Rattle.zone_stretches.specs.Tenures.{TenureView, carry, changes_hands, counted, tenure_after, tenure_until, tenures_from}
use Rattle.speed_laws.proofs.Hands.{counts_after, hand, hands, next_place}
use Rattle.sync_types.proofs.BoardTests.{no_truth}
use Rattle.sync_types.specs.Boards.{among, channel_numbers}

-- ---- what a tenure of the zone has of one of the axis

-- the event of a place
abbrev pub At : List OccurrenceView → Place → OccurrenceView → Type 0
At all e o = slice_get (filter (λ p. p.channel == e.channel) all) (e.place - 1) ≡ Some o

abbrev pub BeginsBy : List OccurrenceView → SpanStartView → Option Place → SpanStartView → Type 0
BeginsBy all first None begins = begins ≡ first
BeginsBy all first (Some e) begins = (o : OccurrenceView) × At all e o × (begins.at ≡ stands o.at) × (begins.on ≡ has o.on) × (begins.first ≡ Some o.name)

abbrev pub UptoIs : Option ℕ → Option ℕ → Place → Type 0
UptoIs None upto e = among channel_numbers e.channel ≡ true
UptoIs (Some c) upto e = (upto ≡ Some (e.place - 1)) × (e.channel ≡ c)

abbrev pub EndsBy : List OccurrenceView → Option ℕ → Option Place → TenureView → Type 0
EndsBy all owner None t = (t.upto ≡ None) × (t.last ≡ None)
EndsBy all owner (Some e) t = (o : OccurrenceView) × At all e o × (t.last ≡ Some o.name) × UptoIs owner t.upto e

-- the last event in which the zone changes hands, or the one before these
abbrev pub last_hand : ZoneLine → Option OccurrenceView → List OccurrenceView → Option OccurrenceView
last_hand zone last [] = last
last_hand zone last (o ∷ os) = last_hand zone (cond (changes_hands zone o) (Some o) last) os

-- the place of an event of a channel that there is, or none
abbrev pub IsPlaceOf : List OccurrenceView → Option Place → Option OccurrenceView → Type 0
IsPlaceOf all None None = Unit {0}
IsPlaceOf all (Some e) (Some o) = At all e o × (among channel_numbers e.channel ≡ true)
IsPlaceOf all None (Some o) = ⊥
IsPlaceOf all (Some e) None = ⊥

abbrev pub KnownOwner : Option ℕ → Type 0
KnownOwner owner = (c : ℕ) → owner ≡ Some c → among channel_numbers c ≡ true

pub record Match (all : List OccurrenceView) (first : SpanStartView) (u : machine.Tenure) (t : TenureView) : Type 0 where
  pub owner : t.owner ≡ u.owner
  pub from : t.from ≡ u.from
  pub begins : BeginsBy all first u.first t.begins
  pub ends : EndsBy all u.owner u.last t

-- ---- an event

module _ (zone : ZoneLine) (x : ℕ) (carries : has_axis zone x ≡ true) where
  -- who takes axes of the zone takes all of them
  abbrev pub TakesAll : OccurrenceView → Type 0
  TakesAll o = carry zone o.takes ≡ true → (o.takes x ≡ true) × (among channel_numbers o.channel ≡ true)

  pub data Change (owner : Option ℕ) (o : OccurrenceView) : Type 0 where
    Frees : o.frees x ≡ true → changes_hands zone o ≡ true → carry zone o.takes ≡ false → owner ≡ Some o.channel → Change owner o
    Takes : o.frees x ≡ false → o.takes x ≡ true → changes_hands zone o ≡ true → carry zone o.takes ≡ true → owner ≡ None → among channel_numbers o.channel ≡ true → Change owner o
    Neither : o.frees x ≡ false → o.takes x ≡ false → changes_hands zone o ≡ false → Change owner o

  pub change_of : (owner : Option ℕ) (o : OccurrenceView) (os : List OccurrenceView) → HandsAre zone owner (o ∷ os) → TakesAll o → Change owner o
  change_of owner o os are all = elim (cases_Bool (carry zone o.frees)) [
    | inl frees ↦
        let takes : carry zone o.takes ≡ false = elim (cases_Bool (carry zone o.takes)) [
          | inr off ↦ off
          | inl on ↦ let bad : None ≡ Some o.channel = sym (are.2 on) ∙ are.0 frees in absurd cc
        ] in
        Frees (are.1 frees x carries) (rw frees refl) takes (are.0 frees)
    | inr stays ↦ elim (cases_Bool (carry zone o.takes)) [
      | inl takes ↦ Takes (not_freed stays) (all takes).0 (rw (stays, takes) refl) takes (are.2 takes) (all takes).1
      | inr none ↦ Neither (not_freed stays) (not_taken none) (rw (stays, none) refl)
    ]
  ]
    where
      not_freed : carry zone o.frees ≡ false → o.frees x ≡ false
      not_freed off = elim (cases_Bool (o.frees x)) [ inl on ↦ no_truth (carry zone o.frees) (carry_to zone o.frees x carries on) off | inr out ↦ out ]

      not_taken : carry zone o.takes ≡ false → o.takes x ≡ false
      not_taken off = elim (cases_Bool (o.takes x)) [ inl on ↦ no_truth (carry zone o.takes) (carry_to zone o.takes x carries on) off | inr out ↦ out ]

  pub hand_frees : (counts : ℕ → ℕ) (o : OccurrenceView) (ts : List machine.Tenure) → o.frees x ≡ true → hand x counts o ts ≡ tenures_handed_on None (counts o.channel) (next_place counts o) ts
  hand_frees counts o ts on = rw on refl

  pub hand_takes : (counts : ℕ → ℕ) (o : OccurrenceView) (ts : List machine.Tenure) → o.frees x ≡ false → o.takes x ≡ true → hand x counts o ts ≡ tenures_handed_on (Some o.channel) 0 (next_place counts o) ts
  hand_takes counts o ts off on = rw (off, on) refl

  pub hand_neither : (counts : ℕ → ℕ) (o : OccurrenceView) (ts : List machine.Tenure) → o.frees x ≡ false → o.takes x ≡ false → hand x counts o ts ≡ ts
  hand_neither counts o ts off out = rw (off, out) refl

  -- ---- each tenure of the axis is one of the zone

  -- the events that are left have the next places
  abbrev pub AreLeft : List OccurrenceView → (ℕ → ℕ) → List OccurrenceView → Type 0
  AreLeft all counts os = (c k : ℕ) → slice_get (filter (λ p. p.channel == c) all) (counts c + k) ≡ slice_get (filter (λ p. p.channel == c) os) k

  pub left_here : (all : List OccurrenceView) (counts : ℕ → ℕ) (o : OccurrenceView) (os : List OccurrenceView) → AreLeft all counts (o ∷ os) → At all (next_place counts o) o
  left_here all counts o os left =
      let same : suc (counts o.channel) - 1 ≡ counts o.channel + 0 = omega arith in
      ap (λ (n : ℕ). slice_get (filter (λ p. p.channel == o.channel) all) n) same
      ∙ left o.channel 0
      ∙ ap (λ (t : Bool). slice_get (cond t (o ∷ filter (λ p. p.channel == o.channel) os) (filter (λ p. p.channel == o.channel) os)) 0) (eq-eqb o.channel o.channel refl)

  pub left_later : (all : List OccurrenceView) (counts : ℕ → ℕ) (o : OccurrenceView) (os : List OccurrenceView) → AreLeft all counts (o ∷ os) → AreLeft all (counted counts o.channel) os
  left_later all counts o os left c k = elim (cases_eq c o.channel) [
    | inl same ↦
        let more : counted counts o.channel c ≡ suc (counts c) = rw (eq-eqb c o.channel same) refl in
        let place : counted counts o.channel c + k ≡ counts c + suc k = omega (arith, more) in
        ap (λ (n : ℕ). slice_get (filter (λ p. p.channel == c) all) n) place
        ∙ left c (suc k)
        ∙ ap (λ (t : Bool). slice_get (cond t (o ∷ filter (λ p. p.channel == c) os) (filter (λ p. p.channel == c) os)) (suc k)) (eq-eqb o.channel c (sym same))
    | inr apart ↦
        let more : counted counts o.channel c ≡ counts c = rw (ne_eqb c o.channel apart) refl in
        ap (λ (n : ℕ). slice_get (filter (λ p. p.channel == c) all) (n + k)) more
        ∙ left c k
        ∙ ap (λ (t : Bool). slice_get (cond t (o ∷ filter (λ p. p.channel == c) os) (filter (λ p. p.channel == c) os)) k) (ne_eqb o.channel c (λ e. apart (sym e)))
  ]

  until : machine.Tenure → ℕ → Place → machine.Tenure
  until u upto e = record { owner = u.owner; first = u.first; last = Some e; from = u.from; upto = upto }

  -- what ends with an event
  ended : (all : List OccurrenceView) (first : SpanStartView) (counts : ℕ → ℕ) (o : OccurrenceView) (u : machine.Tenure) (t : TenureView) (upto : ℕ) → At all (next_place counts o) o → Match all first u t
      → (u.owner ≡ Some o.channel) ⊎ ((u.owner ≡ None) × (among channel_numbers o.channel ≡ true)) → Match all first (until u upto (next_place counts o)) (tenure_until counts t o)
  unfolding until
  ended all first counts o u t upto at m owner = record {
    owner = m.owner;
    from = m.from;
    begins = m.begins;
    ends = (o, at, refl, by_owner u.owner refl owner);
  }
    where
      by_owner : (w : Option ℕ) → u.owner ≡ w → (w ≡ Some o.channel) ⊎ ((w ≡ None) × (among channel_numbers o.channel ≡ true)) → UptoIs w (Some (option_map_or counts t.owner 0)) (next_place counts o)
      by_owner None is (inl some) = absurd cc
      by_owner None is (inr none) = none.1
      by_owner (Some c) is (inr none) = let bad : Some c ≡ None = none.0 in absurd cc
      by_owner (Some c) is (inl same) =
          let at_owner : c ≡ o.channel = cc in
          let less : counts o.channel ≡ suc (counts o.channel) - 1 = omega arith in
          (ap (λ (w : Option ℕ). Some (option_map_or counts w 0)) (m.owner ∙ is ∙ same) ∙ ap (λ (n : ℕ). Some n) less, sym at_owner)

  pub each_read : (all : List OccurrenceView) (first : SpanStartView) (os : List OccurrenceView) (counts : ℕ → ℕ) (t : TenureView) (u : machine.Tenure) (older : List machine.Tenure)
      → u.last ≡ None → Match all first u t → HandsAre zone t.owner os → All TakesAll os → AreLeft all counts os
      → (v : machine.Tenure) → IsIn v (hands x counts (u ∷ older) os) → (IsIn v older) ⊎ SomeOf (Match all first v) (tenures_from zone counts t os)
  unfolding until
  each_read all first [] counts t u older lasting m are takes left v (inl same) = inr (inl (subst (λ w. Match all first w t) (sym same) m))
  each_read all first [] counts t u older lasting m are takes left v (inr there) = inl there
  each_read all first (o ∷ os) counts t u older lasting m are takes left v within =
      by_change (change_of t.owner o os are (All-head TakesAll o os takes))
      (λ t' u' older' lasting' m' are' there. each_read all first os (counted counts o.channel) t' u' older' lasting' m' are' (All-tail TakesAll o os takes) (left_later all counts o os left) v there)
    where
      at : At all (next_place counts o) o
      at = left_here all counts o os left

      until_is : (to : Option ℕ) (upto : ℕ) → tenures_handed_on to upto (next_place counts o) (u ∷ older)
          ≡ record { owner = to; first = Some (next_place counts o); last = None; from = suc (counts o.channel); upto = 0 } ∷ until u upto (next_place counts o) ∷ older
      until_is to upto = refl

      sort : (old : machine.Tenure) → (u.owner ≡ Some o.channel) ⊎ ((u.owner ≡ None) × (among channel_numbers o.channel ≡ true)) → (upto : ℕ) → old ≡ until u upto (next_place counts o)
          → (IsIn v (old ∷ older)) ⊎ SomeOf (Match all first v) (tenures_from zone (counted counts o.channel) (tenure_after zone counts o) os)
          → (IsIn v older) ⊎ SomeOf (Match all first v) (tenure_until counts t o ∷ tenures_from zone (counted counts o.channel) (tenure_after zone counts o) os)
      sort old owner upto is (inl (inl same)) = inr (inl (subst (λ w. Match all first w (tenure_until counts t o)) (sym (same ∙ is)) (ended all first counts o u t upto at m owner)))
      sort old owner upto is (inl (inr there)) = inl there
      sort old owner upto is (inr some) = inr (inr some)

      by_change : Change t.owner o
          → ((t' : TenureView) (u' : machine.Tenure) (older' : List machine.Tenure) → u'.last ≡ None → Match all first u' t' → HandsAre zone t'.owner os → IsIn v (hands x (counted counts o.channel) (u' ∷ older') os)
          → (IsIn v older') ⊎ SomeOf (Match all first v) (tenures_from zone (counted counts o.channel) t' os))
          → (IsIn v older) ⊎ SomeOf (Match all first v) (tenures_from zone counts t (o ∷ os))
      by_change (Frees on changes off owner) rest =
          let new : machine.Tenure = record { owner = None; first = Some (next_place counts o); last = None; from = suc (counts o.channel); upto = 0 } in
          let old = until u (counts o.channel) (next_place counts o) in
          let mine : (tenure_after zone counts o).owner ≡ None = rw off refl in
          let next : HandsAre zone (tenure_after zone counts o).owner os = subst (λ (w : Option ℕ). HandsAre zone w os) (rw (changes, off) refl) are.3 in
          let r = rest (tenure_after zone counts o) new (old ∷ older) refl (record { owner = mine; from = refl; begins = (o, at, refl, refl, refl); ends = (refl, refl) }) next
          (subst (λ (ts : List machine.Tenure). IsIn v (hands x (counted counts o.channel) ts os)) (hand_frees counts o (u ∷ older) on ∙ until_is None (counts o.channel)) within) in
          rw changes (sort old (inl (sym m.owner ∙ owner)) (counts o.channel) refl r)
      by_change (Takes stays on changes takes_it owner known) rest =
          let new : machine.Tenure = record { owner = Some o.channel; first = Some (next_place counts o); last = None; from = suc (counts o.channel); upto = 0 } in
          let old = until u 0 (next_place counts o) in
          let mine : (tenure_after zone counts o).owner ≡ Some o.channel = rw takes_it refl in
          let next : HandsAre zone (tenure_after zone counts o).owner os = subst (λ (w : Option ℕ). HandsAre zone w os) (rw (changes, takes_it) refl) are.3 in
          let r = rest (tenure_after zone counts o) new (old ∷ older) refl (record { owner = mine; from = refl; begins = (o, at, refl, refl, refl); ends = (refl, refl) }) next
          (subst (λ (ts : List machine.Tenure). IsIn v (hands x (counted counts o.channel) ts os)) (hand_takes counts o (u ∷ older) stays on ∙ until_is (Some o.channel) 0) within) in
          rw changes (sort old (inr (sym m.owner ∙ owner, known)) 0 refl r)
      by_change (Neither stays none same) rest =
          let next : HandsAre zone t.owner os = subst (λ (w : Option ℕ). HandsAre zone w os) (rw same refl) are.3 in
          rw same (rest t u older lasting m next (subst (λ (ts : List machine.Tenure). IsIn v (hands x (counted counts o.channel) ts os)) (hand_neither counts o (u ∷ older) stays none) within))

  -- ---- the newest tenure

  -- what is older stays
  stays_older : (os : List OccurrenceView) (counts : ℕ → ℕ) (u : machine.Tenure) (older : List machine.Tenure) (v : machine.Tenure) → IsIn v older → IsIn v (hands x counts (u ∷ older) os)
  stays_older [] counts u older v within = inr within
  stays_older (o ∷ os) counts u older v within = by_test (o.frees x) (o.takes x) (λ u' older' there. stays_older os (counted counts o.channel) u' older' v there)
    where
      by_test : (f t : Bool) → ((u' : machine.Tenure) (older' : List machine.Tenure) → IsIn v older' → IsIn v (hands x (counted counts o.channel) (u' ∷ older') os))
          → IsIn v (hands x (counted counts o.channel) (cond f (tenures_handed_on None (counts o.channel) (next_place counts o) (u ∷ older)) (cond t (tenures_handed_on (Some o.channel) 0 (next_place counts o) (u ∷ older)) (u ∷ older))) os)
      by_test true t rest = rest _ _ (inr within)
      by_test false true rest = rest _ _ (inr within)
      by_test false false rest = rest u older within

  -- a tenure that lasts is in all later lists: it lasts still, or has ended with a later event
  pub record LastsIn (base : ℕ → ℕ) (u : machine.Tenure) (ts : List machine.Tenure) : Type 0 where
    pub tenure : machine.Tenure
    pub within : IsIn tenure ts
    pub owner : tenure.owner ≡ u.owner
    pub from : tenure.from ≡ u.from
    pub first : tenure.first ≡ u.first
    pub later : IfSome tenure.last (λ e. base e.channel < e.place)

  pub lasts : (os : List OccurrenceView) (counts base : ℕ → ℕ) (u : machine.Tenure) (older : List machine.Tenure) → u.last ≡ None → ((d : ℕ) → base d ≤ counts d)
      → LastsIn base u (hands x counts (u ∷ older) os)
  lasts [] counts base u older lasting up =
      record { tenure = u; within = inl refl; owner = refl; from = refl; first = refl; later = subst (λ (l : Option Place). IfSome l (λ e. base e.channel < e.place)) (sym lasting) tt }
  lasts (o ∷ os) counts base u older lasting up =
      by_test (o.frees x) (o.takes x) (lasts os (counted counts o.channel) base u older lasting (λ d. let one = up d in more d one (d == o.channel)))
    where
      more : (d : ℕ) → base d ≤ counts d → (t : Bool) → base d ≤ cond t (suc (counts d)) (counts d)
      more d one true = omega (arith, one)
      more d one false = one

      over : (new : machine.Tenure) (upto : ℕ) → LastsIn base u (hands x (counted counts o.channel) (new ∷ record { owner = u.owner; first = u.first; last = Some (next_place counts o); from = u.from; upto = upto } ∷ older) os)
      over new upto =
          let one = up o.channel in
          record {
            tenure = record { owner = u.owner; first = u.first; last = Some (next_place counts o); from = u.from; upto = upto };
            within = stays_older os (counted counts o.channel) new (record { owner = u.owner; first = u.first; last = Some (next_place counts o); from = u.from; upto = upto } ∷ older) _ (inl refl);
            owner = refl;
            from = refl;
            first = refl;
            later = omega (arith, one);
          }

      by_test : (f t : Bool) → LastsIn base u (hands x (counted counts o.channel) (u ∷ older) os)
          → LastsIn base u (hands x (counted counts o.channel) (cond f (tenures_handed_on None (counts o.channel) (next_place counts o) (u ∷ older)) (cond t (tenures_handed_on (Some o.channel) 0 (next_place counts o) (u ∷ older)) (u ∷ older))) os)
      by_test true t rest = over _ _
      by_test false true rest = over _ _
      by_test false false rest = rest

  -- the newest tenure lasts, is the zone's holder's, and began with one of the events
  pub record IsNewest (counts : ℕ → ℕ) (owner : Option ℕ) (ts : List machine.Tenure) : Type 0 where
    pub tenure : machine.Tenure
    pub older : List machine.Tenure
    pub are : ts ≡ tenure ∷ older
    pub owned : tenure.owner ≡ owner
    pub lasting : tenure.last ≡ None
    pub from : IfSome tenure.owner (λ c. tenure.from ≤ counts c)
    pub first : IfSome tenure.first (λ e. (1 ≤ e.place) × (e.place ≤ counts e.channel))

  grown : (counts : ℕ → ℕ) (c d : ℕ) → counts d ≤ counted counts c d
  grown counts c d = by_test (d == c)
    where
      by_test : (t : Bool) → counts d ≤ cond t (suc (counts d)) (counts d)
      by_test true = omega arith
      by_test false = omega arith

  own_count : (counts : ℕ → ℕ) (c : ℕ) → counted counts c c ≡ suc (counts c)
  own_count counts c = rw (eq-eqb c c refl) refl

  newest_next : (counts : ℕ → ℕ) (owner : Option ℕ) (ts : List machine.Tenure) (o : OccurrenceView) → IsNewest counts owner ts → Change owner o
      → IsNewest (counted counts o.channel) (owner_next zone owner o) (hand x counts o ts)
  newest_next counts owner ts o n (Frees on changes off was) =
      let mine = own_count counts o.channel in
      record {
        tenure = record { owner = None; first = Some (next_place counts o); last = None; from = suc (counts o.channel); upto = 0 };
        older = record { owner = n.tenure.owner; first = n.tenure.first; last = Some (next_place counts o); from = n.tenure.from; upto = counts o.channel } ∷ n.older;
        are = hand_frees counts o ts on ∙ ap (tenures_handed_on None (counts o.channel) (next_place counts o)) n.are;
        owned = rw (changes, off) refl;
        lasting = refl;
        from = tt;
        first = (omega arith, omega (arith, mine));
      }
  newest_next counts owner ts o n (Takes stays on changes takes_it was known) =
      let mine = own_count counts o.channel in
      record {
        tenure = record { owner = Some o.channel; first = Some (next_place counts o); last = None; from = suc (counts o.channel); upto = 0 };
        older = record { owner = n.tenure.owner; first = n.tenure.first; last = Some (next_place counts o); from = n.tenure.from; upto = 0 } ∷ n.older;
        are = hand_takes counts o ts stays on ∙ ap (tenures_handed_on (Some o.channel) 0 (next_place counts o)) n.are;
        owned = rw (changes, takes_it) refl;
        lasting = refl;
        from = omega (arith, mine);
        first = (omega arith, omega (arith, mine));
      }
  newest_next counts owner ts o n (Neither stays none same) = record {
    tenure = n.tenure;
    older = n.older;
    are = hand_neither counts o ts stays none ∙ n.are;
    owned = n.owned ∙ rw same refl;
    lasting = n.lasting;
    from = by_owner n.tenure.owner n.from;
    first = by_first n.tenure.first n.first;
  }
    where
      by_owner : (w : Option ℕ) → IfSome w (λ c. n.tenure.from ≤ counts c) → IfSome w (λ c. n.tenure.from ≤ counted counts o.channel c)
      by_owner None up = tt
      by_owner (Some c) up = let more = grown counts o.channel c in omega (arith, up, more)

      by_first : (w : Option Place) → IfSome w (λ e. (1 ≤ e.place) × (e.place ≤ counts e.channel)) → IfSome w (λ e. (1 ≤ e.place) × (e.place ≤ counted counts o.channel e.channel))
      by_first None up = tt
      by_first (Some e) up = let more = grown counts o.channel e.channel in (up.0, omega (arith, up.1, more))

  pub newest : (os : List OccurrenceView) (counts : ℕ → ℕ) (owner : Option ℕ) (ts : List machine.Tenure) → IsNewest counts owner ts → HandsAre zone owner os → All TakesAll os
      → IsNewest (counts_after counts os) (owners_next zone owner os) (hands x counts ts os)
  newest [] counts owner ts n are takes = n
  newest (o ∷ os) counts owner ts n are takes =
      newest os (counted counts o.channel) (owner_next zone owner o) (hand x counts o ts)
      (newest_next counts owner ts o n (change_of owner o os are (All-head TakesAll o os takes))) are.3 (All-tail TakesAll o os takes)

  -- it began with the event in which the zone changed hands last
  pub newest_began : (all os : List OccurrenceView) (counts : ℕ → ℕ) (owner : Option ℕ) (u : machine.Tenure) (older : List machine.Tenure) (last : Option OccurrenceView)
      → IsPlaceOf all u.first last → KnownOwner owner → HandsAre zone owner os → All TakesAll os → AreLeft all counts os
      → (v : machine.Tenure) (rest : List machine.Tenure) → hands x counts (u ∷ older) os ≡ v ∷ rest → IsPlaceOf all v.first (last_hand zone last os)
  newest_began all [] counts owner u older last began known are takes left v rest is =
      let same : u ≡ v = cc in subst (λ (w : machine.Tenure). IsPlaceOf all w.first last) same began
  newest_began all (o ∷ os) counts owner u older last began known are takes left v rest is =
      by_change (change_of owner o os are (All-head TakesAll o os takes))
      (λ owner' u' older' last' began' known' are' is'.
      newest_began all os (counted counts o.channel) owner' u' older' last' began' known' are' (All-tail TakesAll o os takes) (left_later all counts o os left) v rest is')
    where
      at : At all (next_place counts o) o
      at = left_here all counts o os left

      none_known : KnownOwner None
      none_known c e = absurd cc

      by_change : Change owner o
          → ((owner' : Option ℕ) (u' : machine.Tenure) (older' : List machine.Tenure) (last' : Option OccurrenceView) → IsPlaceOf all u'.first last' → KnownOwner owner' → HandsAre zone owner' os
          → hands x (counted counts o.channel) (u' ∷ older') os ≡ v ∷ rest → IsPlaceOf all v.first (last_hand zone last' os))
          → IsPlaceOf all v.first (last_hand zone (cond (changes_hands zone o) (Some o) last) os)
      by_change (Frees on changes off was) next =
          let free : owner_next zone owner o ≡ None = rw (changes, off) refl in
          let new : machine.Tenure = record { owner = None; first = Some (next_place counts o); last = None; from = suc (counts o.channel); upto = 0 } in
          let old : machine.Tenure = record { owner = u.owner; first = u.first; last = Some (next_place counts o); from = u.from; upto = counts o.channel } in
          rw changes (next None new (old ∷ older) (Some o) (at, known o.channel was) none_known (subst (λ (w : Option ℕ). HandsAre zone w os) free are.3)
          (ap (λ (ts : List machine.Tenure). hands x (counted counts o.channel) ts os) (sym (hand_frees counts o (u ∷ older) on)) ∙ is))
      by_change (Takes stays on changes takes_it was there) next =
          let held : owner_next zone owner o ≡ Some o.channel = rw (changes, takes_it) refl in
          let new : machine.Tenure = record { owner = Some o.channel; first = Some (next_place counts o); last = None; from = suc (counts o.channel); upto = 0 } in
          let old : machine.Tenure = record { owner = u.owner; first = u.first; last = Some (next_place counts o); from = u.from; upto = 0 } in
          rw changes (next (Some o.channel) new (old ∷ older) (Some o) (at, there) one_known (subst (λ (w : Option ℕ). HandsAre zone w os) held are.3)
          (ap (λ (ts : List machine.Tenure). hands x (counted counts o.channel) ts os) (sym (hand_takes counts o (u ∷ older) stays on)) ∙ is))
        where
          one_known : KnownOwner (Some o.channel)
          one_known c e = let same : o.channel ≡ c = cc in subst (λ (d : ℕ). among channel_numbers d ≡ true) same there
      by_change (Neither stays none same) next =
          let kept : owner_next zone owner o ≡ owner = rw same refl in
          rw same (next owner u older last began known (subst (λ (w : Option ℕ). HandsAre zone w os) kept are.3)
          (ap (λ (ts : List machine.Tenure). hands x (counted counts o.channel) ts os) (sym (hand_neither counts o (u ∷ older) stays none)) ∙ is))
