-- The grants of a channel, one entry more.
use Rattle.std.proofs.Common.{◌≡◌, ◌∙◌, ℕ, zero, suc, ◌+◌, ◌<◌, ◌==◌, Bool, true, false, cond, List, [], ◌∷◌, ◌++◌, append-nil, length, get_or, slice_get, take, Option, None, Some, refl, sym, ap, subst, arith, add-one, zero-add}
use Rattle.std.proofs.lemmas.Bool.{eqb-true}
use Rattle.std.proofs.lemmas.Grind.{flat_map-append}
use Rattle.std.proofs.lemmas.List.{take_more}
use Rattle.std.proofs.lemmas.Option.{slice_get-get_or}
use Rattle.std.specs.List.{flat_map, range_with_len}
use Rattle.std.specs.Option.{option_map_or}
use Rattle.number_laws.proofs.Lists.{range_with_len-push}
use Rattle.coord_core.proofs.Granted.{is_granted}
use Rattle.coord_core.specs.Boards.{BoardView, HaveSameEntries, replayed, with_step}
use Rattle.sync_types.proofs.EntryLaws.{after_one_more}
use Rattle.sync_types.specs.Boards.{Board, first_board, grant_in, is_running}
use Rattle.sync_types.specs.Runs.{as_list}
use Rattle.sync_types.specs.Turns.{after_entries, after_step, entry_of, AreEntries}
use Rattle.sync_types.specs.Views.{EntryView, StartView}
use Rattle.sync_types.specs.declared.Grant.{Grant}
use Rattle.sync_types.specs.declared.Step.{Step}
use Rattle.channel_machine.specs.RunGrants.{board_before, grants_at, grants_before, own_grant}

-- before the first entry the channel has got none
pub no_grants : (start : StartView) (es : List EntryView) (c : ℕ) → [] ≡ grants_before start es c 0
unfolding grants_before
no_grants start es c = refl

module _ (start : StartView) (es : List EntryView) (c n : ℕ) where
  one_more : grants_before start es c (n + 1) ≡ grants_before start es c n ++ grants_at start es c n
  unfolding grants_before
  one_more =
      let row : range_with_len 0 (n + 1) ≡ range_with_len 0 n ++ n ∷ [] = rw add-one (range_with_len-push 0 n ∙ ap (λ (m : ℕ). range_with_len 0 n ++ m ∷ []) (zero-add n)) in
      let at : flat_map (grants_at start es c) (n ∷ []) ≡ grants_at start es c n = append-nil (grants_at start es c n) in
      ap (flat_map (grants_at start es c)) row
      ∙ flat_map-append (grants_at start es c) (range_with_len 0 n) (n ∷ [])
      ∙ ap (λ (gs : List Grant). flat_map (grants_at start es c) (range_with_len 0 n) ++ gs) at

  module _ (e : EntryView) (within : n < length es) (here : e ≡ get_or es n e) where
    found : slice_get es n ≡ Some e
    found = slice_get-get_or es n e within ∙ ap (λ (x : EntryView). Some x) (sym here)

    grant_here : (grant : Grant) → grant_in ((board_before start es n).state e.channel) ≡ Some grant → grants_at start es c n ≡ own_grant c e.channel grant
    grant_here grant granted =
        ap (λ (o : Option EntryView). option_map_or (λ (x : EntryView). cond (x.channel == c) (as_list (grant_in ((board_before start es n).state c))) []) o []) found ∙ by_test (e.channel == c) refl
      where
        by_test : (t : Bool) → (e.channel == c) ≡ t → cond t (as_list (grant_in ((board_before start es n).state c))) [] ≡ cond t (grant ∷ []) []
        by_test true is =
            let same : e.channel ≡ c = eqb-true e.channel c is in
            ap as_list (ap (λ (d : ℕ). grant_in ((board_before start es n).state d)) (sym same) ∙ granted)
        by_test false is = refl

    -- the grants after the entry
    pub next_grants : (b : Board) (acting : ℕ) (grant : Grant) (old new : List Grant) → acting ≡ e.channel → b ≡ board_before start es n → grant_in (b.state acting) ≡ Some grant
        → old ≡ grants_before start es c n → new ≡ old ++ own_grant c acting grant → new ≡ grants_before start es c (n + 1)
    next_grants b acting grant old new acts same granted before more =
        let there : grant_in ((board_before start es n).state e.channel) ≡ Some grant =
        ap (λ (a : Board). grant_in (a.state e.channel)) (sym same) ∙ ap (λ (d : ℕ). grant_in (b.state d)) (sym acts) ∙ granted in
        let own : own_grant c acting grant ≡ grants_at start es c n = ap (λ (d : ℕ). own_grant c d grant) acts ∙ sym (grant_here grant there) in
        more ∙ ap (λ (gs : List Grant). gs ++ own_grant c acting grant) before ∙ ap (λ (gs : List Grant). grants_before start es c n ++ gs) own ∙ sym one_more

    -- the board after the entry
    pub next_board : (old new : BoardView) (acting : ℕ) (step : Step) → acting ≡ e.channel → step ≡ e.step → replayed old ≡ board_before start es n
        → HaveSameEntries new (with_step old acting step) → replayed new ≡ board_before start es (n + 1)
    next_board old new acting step acts steps same made =
        let front : take (n + 1) es ≡ take n es ++ e ∷ [] = take_more es n e within ∙ ap (λ (x : EntryView). take n es ++ x ∷ []) (sym here) in
        ap (λ (s : StartView). after_entries (first_board s) new.entries) made.start
        ∙ ap (after_entries (first_board old.start)) made.entries
        ∙ after_one_more (first_board old.start) old.entries (entry_of (replayed old) acting step)
        ∙ ap (λ (b : Board). after_step b acting step) same
        ∙ ap (λ (d : ℕ). after_step (board_before start es n) d step) acts
        ∙ ap (λ (s : Step). after_step (board_before start es n) e.channel s) steps
        ∙ sym (after_one_more (first_board start) (take n es) e)
        ∙ ap (after_entries (first_board start)) (sym front)

-- the channel of each entry of a run runs before it
runs_at : (b : Board) (es : List EntryView) (n : ℕ) (e : EntryView) → AreEntries b es → n < length es → e ≡ get_or es n e → is_running ((after_entries b (take n es)).state e.channel) ≡ true
runs_at b [] n e lawful within here = absurd (omega arith)
runs_at b (x ∷ xs) zero e lawful within here = subst (λ (y : EntryView). is_running (b.state y.channel) ≡ true) (sym here) lawful.0
runs_at b (x ∷ xs) (suc n) e lawful within here = runs_at (after_step b x.channel x.step) xs n e lawful.2 (omega arith) here

-- so it has a grant
pub has_grant : (start : StartView) (es : List EntryView) (n : ℕ) (e : EntryView) (b : Board) (acting : ℕ) → AreEntries (first_board start) es → n < length es → e ≡ get_or es n e → acting ≡ e.channel
    → b ≡ board_before start es n → grant_in (b.state acting) ≡ None → ⊥
has_grant start es n e b acting lawful within here acts same none =
    is_granted ((board_before start es n).state e.channel) (runs_at (first_board start) es n e lawful within here)
    (ap (λ (a : Board). grant_in (a.state e.channel)) (sym same) ∙ ap (λ (d : ℕ). grant_in (b.state d)) (sym acts) ∙ none)
