-- The events of a channel in two runs, one by one: they tell the same and are the same.
use Rattle.std.proofs.Common.{◌≡◌, ◌∙◌, ℕ, zero, suc, Bool, true, false, cond, ◌==◌, List, [], ◌∷◌, length, map, filter, slice_get, slice_index_or, Some, if◌then◌else◌, refl, sym, ap, subst}
use Rattle.std.proofs.lemmas.Bool.{eqb-true}
use Rattle.speed_laws.proofs.RunBoards.{IsRunBoard}
use Rattle.zone_stretches.proofs.EventLaws.{IsTold, all_told, own_name}
use Rattle.zone_stretches.proofs.NameLaws.{occurrences_named}
use Rattle.zone_stretches.specs.Occurrences.{OccurrenceView, occurrences_of}
use Rattle.schedule_laws.specs.Tracked.{clocks_at}
use Rattle.speed_laws.proofs.AlikeNames.{AreAlikeNames}
use Rattle.speed_laws.proofs.AlikeKinds.{KindsFollow, kind_next, kinds_follow}
use Rattle.speed_laws.proofs.PastEvents.{kept_holds, place_told}
use Rattle.speed_laws.specs.Histories.{Telling, telling_of}
use Rattle.sync_types.specs.Boards.{Board, State}
use Rattle.sync_types.specs.Events.{IsLowestName}
use Rattle.sync_types.specs.Turns.{AreOfRunning, Move, after_moves}
use Rattle.sync_types.specs.declared.Item.{Item}
use Rattle.sync_types.specs.declared.verdicts.StretchKind.TheVariants.{Run, Hold}

-- an event of a channel passes the test of its channel
kept_passes : (test : OccurrenceView → Bool) (os : List OccurrenceView) (k : ℕ) (o : OccurrenceView) → slice_get (filter test os) k ≡ Some o → test o ≡ true
kept_passes test [] k o is = absurd cc
kept_passes test (p ∷ os) k o is = by_test (test p) refl k is (λ j there. kept_passes test os j o there)
  where
    by_test : (t : Bool) → test p ≡ t → (k : ℕ) → slice_get (cond t (p ∷ filter test os) (filter test os)) k ≡ Some o → ((j : ℕ) → slice_get (filter test os) j ≡ Some o → test o ≡ true) → test o ≡ true
    by_test true on zero is rest = let same : p ≡ o = cc in ap test (sym same) ∙ on
    by_test true on (suc k) is rest = rest k is
    by_test false off k is rest = rest k is

module _ (b : Board) (ms ns : List Move) (rows others : List (List Item)) where
  -- what the events tell is the same, and they have names of one event
  pub record IsAlike (o p : OccurrenceView) : Type 0 where
    pub kind : o.kind ≡ p.kind
    pub line : o.line ≡ p.line
    pub at : o.at ≡ p.at
    pub on : o.on ≡ p.on
    pub goes : o.name.go ≡ p.name.go
    pub items : (if o.name.go then [] else slice_index_or rows o.name.step []) ≡ (if p.name.go then [] else slice_index_or others p.name.step [])
    pub names : AreAlikeNames b ms ns o.name p.name

  abbrev pub AreAlikeEvents : List OccurrenceView → List OccurrenceView → Type 0
  AreAlikeEvents [] [] = Unit {0}
  AreAlikeEvents (o ∷ os) (p ∷ ps) = IsAlike o p × AreAlikeEvents os ps
  AreAlikeEvents os ps = ⊥

  pub alike_at : (os ps : List OccurrenceView) (k : ℕ) (o p : OccurrenceView) → AreAlikeEvents os ps → slice_get os k ≡ Some o → slice_get ps k ≡ Some p → IsAlike o p
  alike_at [] ps k o p are is also = absurd cc
  alike_at (q ∷ os) [] k o p are is also = absurd cc
  alike_at (q ∷ os) (r ∷ ps) zero o p are is also =
      let one : q ≡ o = cc in
      let two : r ≡ p = cc in
      subst (λ x. IsAlike o x) two (subst (λ x. IsAlike x r) one are.0)
  alike_at (q ∷ os) (r ∷ ps) (suc k) o p are is also = alike_at os ps k o p are.1 is also

  -- lists that tell the same
  next_alike : (os ps : List OccurrenceView) (last : State) → map (telling_of rows) os ≡ map (telling_of others) ps → kind_next os last ≡ kind_next ps last
  next_alike [] [] last same = refl
  next_alike [] (p ∷ ps) last same = absurd cc
  next_alike (o ∷ os) [] last same = absurd cc
  next_alike (o ∷ os) (p ∷ ps) last same =
      let here : telling_of rows o ≡ telling_of others p = cc in
      ap (λ (t : Telling). if t.goes then Hold else Run) here

  told_alike : (os ps : List OccurrenceView) (last : State) → map (telling_of rows) os ≡ map (telling_of others) ps → KindsFollow os last → KindsFollow ps last
      → ((k : ℕ) (o p : OccurrenceView) → slice_get os k ≡ Some o → slice_get ps k ≡ Some p → AreAlikeNames b ms ns o.name p.name) → AreAlikeEvents os ps
  told_alike [] [] last same left right names = tt
  told_alike [] (p ∷ ps) last same left right names = absurd cc
  told_alike (o ∷ os) [] last same left right names = absurd cc
  told_alike (o ∷ os) (p ∷ ps) last same left right names =
      let here : telling_of rows o ≡ telling_of others p = cc in
      let there : map (telling_of rows) os ≡ map (telling_of others) ps = cc in (
        record {
          kind = left.0 ∙ next_alike os ps last there ∙ sym right.0;
          line = ap (λ (t : Telling). t.line) here;
          at = ap (λ (t : Telling). t.at) here;
          on = ap (λ (t : Telling). t.on) here;
          goes = ap (λ (t : Telling). t.goes) here;
          items = ap (λ (t : Telling). t.items) here;
          names = names 0 o p refl refl;
        },
        told_alike os ps last there left.1 right.1 (λ k q r is also. names (suc k) q r is also),
      )

  -- ---- the events of a channel

  module _ (zs : IsRunBoard b) (one : AreOfRunning b ms) (two : AreOfRunning b ns) (c : ℕ) where
    abbrev in_run : List Move → List OccurrenceView
    in_run moves = filter (λ o. o.channel == c) (occurrences_of b moves)

    -- of the same place
    names_alike : ((j x : ℕ) → clocks_at b ms (length ms) c j x ≡ clocks_at b ns (length ns) c j x)
        → (k : ℕ) (o p : OccurrenceView) → slice_get (filter (λ q. q.channel == c) (occurrences_of b ms)) k ≡ Some o → slice_get (filter (λ q. q.channel == c) (occurrences_of b ns)) k ≡ Some p
        → AreAlikeNames b ms ns o.name p.name
    names_alike clocks k o p is also =
        let left = place_told b ms c k o one zs is in
        let right = place_told b ns c k p two zs also in
        let mine : o.channel ≡ c = eqb-true o.channel c (kept_passes (λ q. q.channel == c) (occurrences_of b ms) k o is) in
        let yours : p.channel ≡ c = eqb-true p.channel c (kept_passes (λ q. q.channel == c) (occurrences_of b ns) k p also) in
        record {
          own = own_name o;
          other = own_name p;
          one = (kept_holds (IsTold b ms) (λ q. q.channel == c) (occurrences_of b ms) k o (all_told b ms one) is).own;
          two = (kept_holds (IsTold b ns) (λ q. q.channel == c) (occurrences_of b ns) k p (all_told b ns two) also).own;
          channel = mine ∙ sym yours;
          rows = λ x. left.clock x ∙ clocks (suc k) x ∙ sym (right.clock x);
          low = kept_holds (λ q. IsLowestName b ms q.name) (λ q. q.channel == c) (occurrences_of b ms) k o (occurrences_named b ms) is;
          high = kept_holds (λ q. IsLowestName b ns q.name) (λ q. q.channel == c) (occurrences_of b ns) k p (occurrences_named b ns) also;
        }

    pub events_alike : ((j x : ℕ) → clocks_at b ms (length ms) c j x ≡ clocks_at b ns (length ns) c j x) → (after_moves b ms).state c ≡ (after_moves b ns).state c
        → map (telling_of rows) (filter (λ o. o.channel == c) (occurrences_of b ms)) ≡ map (telling_of others) (filter (λ o. o.channel == c) (occurrences_of b ns))
        → AreAlikeEvents (filter (λ o. o.channel == c) (occurrences_of b ms)) (filter (λ o. o.channel == c) (occurrences_of b ns))
    unfolding occurrences_of
    events_alike clocks ends same =
        told_alike (in_run ms) (in_run ns) ((after_moves b ms).state c) same (kinds_follow ms b 0 c zs one).later
        (subst (KindsFollow (in_run ns)) (sym ends) (kinds_follow ns b 0 c zs two).later) (names_alike clocks)
