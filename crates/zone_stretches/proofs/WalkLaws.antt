-- A walk along the stretches of a zone: the places only go on, where these ascend.
use Rattle.std.proofs.Common.{◌≡◌, ◌∙◌, ℕ, ◌+◌, ◌-◌, ◌<◌, ◌≤◌, ◌⊎◌, inl, inr, not, Bool, true, false, List, [], ◌∷◌, length, get_or, set, replicate, All, refl, sym, ap, subst, arith}
use Rattle.std.proofs.lemmas.Bool.{cases_lt, cases_eq}
use Rattle.std.proofs.lemmas.List.Elements.{All-head, All-tail}
use Rattle.std.proofs.lemmas.List.{get_or_default, get_or_past, get_or-replicate, get_or-set_same, get_or-set_other, length-replicate}
use Rattle.zone_stretches.proofs.ChainLaws.{leading_grows, leading_within}
use Rattle.zone_stretches.specs.Ascents.{leading, passes, is_chain, place_in, AreAscents, IsTimed, IsWalk}
use Rattle.zone_stretches.specs.Overlaps.{Order}
use Rattle.zone_stretches.specs.SoundStretches.{HasLowNames}
use Rattle.zone_stretches.specs.Stretches.{StretchView}
use Rattle.zone_stretches.specs.declared.ascents.IndexRange.{IndexRange}
use Rattle.zone_stretches.specs.declared.ascents.RangeCursor.{RangeCursor}

pub not_not : (b : Bool) → not b ≡ false → b ≡ true
not_not true off = refl
not_not false off = absurd cc

module _ (before : Order) (own others : List StretchView) (timed : IsTimed before (own ∷ (others ∷ []))) where
  own_names : All (HasLowNames timed.board timed.moves) own
  own_names = All-head (All (HasLowNames timed.board timed.moves)) own (others ∷ []) timed.names

  names : All (HasLowNames timed.board timed.moves) others
  names = All-head (All (HasLowNames timed.board timed.moves)) others [] (All-tail (All (HasLowNames timed.board timed.moves)) own (others ∷ []) timed.names)

  abbrev found : StretchView → Bool → ℕ
  found x ended = leading (passes before ended x) others

  grows : is_chain before own ≡ true → (i j : ℕ) (d : StretchView) → i ≤ j → j < length own → (ended : Bool) → found (get_or own i d) ended ≤ found (get_or own j d) ended
  grows ascend i j d upto within ended = by_less (cases_lt i j)
    where
      by_less : (i < j) ⊎ (j ≤ i) → found (get_or own i d) ended ≤ found (get_or own j d) ended
      by_less (inl less) =
          leading_grows timed.board timed.moves before timed.order own others i j d own_names names ascend less within ended
      by_less (inr no_less) =
          let same : i ≡ j = omega (arith, upto, no_less) in
          subst (λ (k : ℕ). found (get_or own i d) ended ≤ found (get_or own k d) ended) same (omega arith)

  -- the places of a stretch are these
  abbrev AreOf : StretchView → IndexRange → Type 0
  AreOf x range = (ended : Bool) → place_in range ended ≡ found x ended

  pub places_of : (x y : StretchView) (range : IndexRange) → x ≡ y → range.from ≡ found x true → range.upto ≡ found x false → AreOf y range
  places_of x y range same from upto true = from ∙ ap (λ (z : StretchView). found z true) same
  places_of x y range same from upto false = upto ∙ ap (λ (z : StretchView). found z false) same

  -- those of the first stretch are the least, those of the last the most
  pub walk_started : (walk : RangeCursor) (d e : StretchView) → is_chain before own ≡ true → AreOf (get_or own 0 d) walk.range → AreOf (get_or own (length own - 1) e) walk.limit → IsWalk before own others 0 walk
  walk_started walk d e ascend first last ascends = (
    ascend,
    λ k f later below. record {
      least = λ ended. (
          let is = first ended in
          let more : found (get_or own 0 d) ended ≤ found (get_or own k f) ended =
          subst (λ (x : StretchView). found x ended ≤ found (get_or own k f) ended) (get_or_default own 0 f d (omega (arith, below))) (grows ascend 0 k f later below ended) in
          omega (arith, is, more)
          );
      most = λ ended. (
          let is = last ended in
          let more : found (get_or own k f) ended ≤ found (get_or own (length own - 1) e) ended =
          subst (λ (x : StretchView). found (get_or own k f) ended ≤ found x ended) (get_or_default own (length own - 1) f e (omega (arith, below)))
          (grows ascend k (length own - 1) f (omega (arith, below)) (omega (arith, below)) ended) in
          omega (arith, is, more)
          );
      within = λ ended. (let is = last ended in let within = leading_within (passes before ended (get_or own (length own - 1) e)) others in omega (arith, is, within));
    },
  )

  pub walk_on : (walk next : RangeCursor) (place : ℕ) (d : StretchView) → place < length own → next.ascends ≡ walk.ascends → next.limit ≡ walk.limit → AreOf (get_or own place d) next.range
      → IsWalk before own others place walk → IsWalk before own others (place + 1) next
  walk_on walk next place d within same_ascends same_limit are known ascends =
      let so_far = known (sym same_ascends ∙ ascends) in (
        so_far.0,
        λ k e later below. (
            let at = so_far.1 k e (omega (arith, later)) below in
            record {
              least = λ ended. (
                  let is = are ended in
                  let more : found (get_or own place d) ended ≤ found (get_or own k e) ended =
                  subst (λ (x : StretchView). found x ended ≤ found (get_or own k e) ended) (get_or_default own place e d within) (grows so_far.0 place k e (omega (arith, later)) below ended) in
                  omega (arith, is, more)
                  );
              most = subst (λ (limit : IndexRange). (ended : Bool) → found (get_or own k e) ended ≤ place_in limit ended) (sym same_limit) at.most;
              within = subst (λ (limit : IndexRange). (ended : Bool) → place_in limit ended ≤ length others) (sym same_limit) at.within;
            }
            ),
      )

-- ---- which lists ascend

none_marked_at : (n place : ℕ) → get_or (replicate n false) place false ≡ false
none_marked_at n place = by_order (cases_lt place n)
  where
    by_order : (place < n) ⊎ (n ≤ place) → get_or (replicate n false) place false ≡ false
    by_order (inl within) = get_or-replicate n place false false within
    by_order (inr past) = get_or_past (replicate n false) place false (rw (length-replicate n false) past)

pub none_marked : (before : Order) (lists : List (List StretchView)) (ascents : List Bool) (n : ℕ) → ascents ≡ replicate n false → AreAscents before lists ascents
none_marked before lists ascents n none place on =
    absurd (let off : get_or ascents place false ≡ false = ap (λ (marks : List Bool). get_or marks place false) none ∙ none_marked_at n place in let both : false ≡ true = sym off ∙ on in cc)

pub marked : (before : Order) (lists : List (List StretchView)) (ascents : List Bool) (place : ℕ) (mark : Bool) → place < length ascents → mark ≡ is_chain before (get_or lists place [])
    → AreAscents before lists ascents → AreAscents before lists (set ascents place mark)
marked before lists ascents place mark within is known k = by_place (cases_eq k place)
  where
    by_place : (k ≡ place) ⊎ (k ≡ place → ⊥) → get_or (set ascents place mark) k false ≡ true → is_chain before (get_or lists k []) ≡ true
    by_place (inl same) on =
        subst (λ (n : ℕ). is_chain before (get_or lists n []) ≡ true) (sym same)
        (sym is ∙ sym (get_or-set_same ascents place mark false within) ∙ ap (λ (n : ℕ). get_or (set ascents place mark) n false) (sym same) ∙ on)
    by_place (inr other) on = known k (sym (get_or-set_other ascents place k mark false other) ∙ on)
