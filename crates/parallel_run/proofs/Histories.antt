-- The steps of a channel and the grants that it uses, along a history.
use Rattle.std.proofs.Common.{◌≡◌, ℕ, ◌==◌, Bool, true, false, cond, List, [], ◌∷◌, ◌++◌, map, Option, Some, append_assoc, refl, sym, ap, ◌∙◌, eq-eqb}
use Rattle.std.proofs.lemmas.List.{append-nil, map-append}
use Rattle.std.proofs.lemmas.List.Elements.{filter-append}
use Rattle.coord_core.specs.BoardTurns.{with_entry}
use Rattle.coord_core.specs.Desks.{SeesOn, own_entries}
use Rattle.coord_core.specs.Histories.{History, board_of}
use Rattle.parallel_run.specs.Workers.{grants_used, own_steps}
use Rattle.sync_types.specs.Boards.{Board, first_board, grant_in}
use Rattle.sync_types.specs.Runs.{as_list}
use Rattle.sync_types.specs.Turns.{after_entries, after_step, entry_of}
use Rattle.sync_types.specs.Views.{StartView, EntryView}
use Rattle.sync_types.specs.declared.Grant.{Grant}
use Rattle.sync_types.specs.declared.Step.{Step}

pub own_steps-append : (c : ℕ) (xs ys : List EntryView) → own_steps c (xs ++ ys) ≡ own_steps c xs ++ own_steps c ys
own_steps-append c xs ys =
    ap (map (λ (e : EntryView). e.step)) (filter-append (λ (e : EntryView). e.channel == c) xs ys)
    ∙ map-append (λ (e : EntryView). e.step) (own_entries c xs) (own_entries c ys)

with_head : {X : Type 0} (own : Bool) (head rest before after : List X) → rest ≡ before ++ after → cond own (head ++ rest) rest ≡ cond own (head ++ before) before ++ after
with_head true head rest before after is = ap (λ (xs : List _). head ++ xs) is ∙ sym (append_assoc head before after)
with_head false head rest before after is = is

pub grants_used-append : (c : ℕ) (b : Board) (xs ys : List EntryView) → grants_used c b (xs ++ ys) ≡ grants_used c b xs ++ grants_used c (after_entries b xs) ys
grants_used-append c b [] ys = refl
grants_used-append c b (x ∷ xs) ys =
    let next : Board = after_step b x.channel x.step in
    with_head (x.channel == c) (as_list (grant_in (b.state c))) (grants_used c next (xs ++ ys)) (grants_used c next xs) (grants_used c (after_entries next xs) ys) (grants_used-append c next xs ys)

-- ---- one entry more in front

map_own : (own : Bool) (e : EntryView) (others : List EntryView) → own ≡ true → map (λ (x : EntryView). x.step) (cond own (e ∷ others) others) ≡ e.step ∷ map (λ (x : EntryView). x.step) others
map_own true e others is = refl
map_own false e others is = absurd cc

map_other : (own : Bool) (e : EntryView) (others : List EntryView) → own ≡ false → map (λ (x : EntryView). x.step) (cond own (e ∷ others) others) ≡ map (λ (x : EntryView). x.step) others
map_other false e others is = refl
map_other true e others is = absurd cc

pub own_head : (c : ℕ) (e : EntryView) (es : List EntryView) → (e.channel == c) ≡ true → own_steps c (e ∷ es) ≡ e.step ∷ own_steps c es
own_head c e es own = map_own (e.channel == c) e (own_entries c es) own

pub own_other : (c : ℕ) (e : EntryView) (es : List EntryView) → (e.channel == c) ≡ false → own_steps c (e ∷ es) ≡ own_steps c es
own_other c e es other = map_other (e.channel == c) e (own_entries c es) other

used_own : (own : Bool) (o : Option Grant) (grant : Grant) (rest : List Grant) → own ≡ true → o ≡ Some grant → cond own (as_list o ++ rest) rest ≡ grant ∷ rest
used_own true o grant rest is on = ap (λ (p : Option Grant). as_list p ++ rest) on
used_own false o grant rest is on = absurd cc

used_not : (own : Bool) (gs rest : List Grant) → own ≡ false → cond own (gs ++ rest) rest ≡ rest
used_not false gs rest is = refl
used_not true gs rest is = absurd cc

pub used_head : (c : ℕ) (b : Board) (e : EntryView) (es : List EntryView) (grant : Grant) → (e.channel == c) ≡ true → grant_in (b.state c) ≡ Some grant
    → grants_used c b (e ∷ es) ≡ grant ∷ grants_used c (after_step b e.channel e.step) es
used_head c b e es grant own on = used_own (e.channel == c) (grant_in (b.state c)) grant (grants_used c (after_step b e.channel e.step) es) own on

pub used_other : (c : ℕ) (b : Board) (e : EntryView) (es : List EntryView) → (e.channel == c) ≡ false → grants_used c b (e ∷ es) ≡ grants_used c (after_step b e.channel e.step) es
used_other c b e es other = used_not (e.channel == c) (as_list (grant_in (b.state c))) (grants_used c (after_step b e.channel e.step) es) other

-- ---- none

none_by : (own : Bool) (e : EntryView) (others : List EntryView) (head rest : List Grant) → cond own (e ∷ others) others ≡ [] → (others ≡ [] → rest ≡ []) → cond own (head ++ rest) rest ≡ []
none_by true e others head rest none then = absurd cc
none_by false e others head rest none then = then none

-- a channel without entries uses no grant
pub none_used : (c : ℕ) (b : Board) (es : List EntryView) → own_entries c es ≡ [] → grants_used c b es ≡ []
none_used c b [] none = refl
none_used c b (e ∷ es) none =
    none_by (e.channel == c) e (own_entries c es) (as_list (grant_in (b.state c))) (grants_used c (after_step b e.channel e.step) es) none
    (λ rest. none_used c (after_step b e.channel e.step) es rest)

-- ---- what others add to a history

module _ (c : ℕ) (start : StartView) (seen later : History) (sees : SeesOn c seen later) where
  pub same_steps : own_steps c later.entries ≡ own_steps c seen.entries
  same_steps =
      ap (own_steps c) sees.begins
      ∙ own_steps-append c seen.entries sees.more
      ∙ ap (λ (es : List EntryView). own_steps c seen.entries ++ map (λ (e : EntryView). e.step) es) sees.others
      ∙ append-nil (own_steps c seen.entries)

  pub same_grants : grants_used c (first_board start) later.entries ≡ grants_used c (first_board start) seen.entries
  same_grants =
      ap (grants_used c (first_board start)) sees.begins
      ∙ grants_used-append c (first_board start) seen.entries sees.more
      ∙ ap (λ (gs : List Grant). grants_used c (first_board start) seen.entries ++ gs) (none_used c (board_of start seen) sees.more sees.others)
      ∙ append-nil (grants_used c (first_board start) seen.entries)

-- ---- what the channel itself adds

own_one : (c : ℕ) (own : Bool) (e : EntryView) → own ≡ true → map (λ (x : EntryView). x.step) (cond own (e ∷ []) []) ≡ e.step ∷ []
own_one c true e is = refl
own_one c false e is = absurd cc

used_one : (own : Bool) (gs : List Grant) → own ≡ true → cond own (gs ++ []) [] ≡ gs
used_one true gs is = append-nil gs
used_one false gs is = absurd cc

module _ (c : ℕ) (start : StartView) (step : Step) (seen : History) where
  pub own_step : own_steps c (with_entry start c step seen).entries ≡ own_steps c seen.entries ++ step ∷ []
  own_step =
      own_steps-append c seen.entries (entry_of (board_of start seen) c step ∷ [])
      ∙ ap (λ (steps : List Step). own_steps c seen.entries ++ steps) (own_one c (c == c) (entry_of (board_of start seen) c step) (eq-eqb c c refl))

  pub own_grant : grants_used c (first_board start) (with_entry start c step seen).entries ≡ grants_used c (first_board start) seen.entries ++ as_list (grant_in ((board_of start seen).state c))
  own_grant =
      grants_used-append c (first_board start) seen.entries (entry_of (board_of start seen) c step ∷ [])
      ∙ ap (λ (gs : List Grant). grants_used c (first_board start) seen.entries ++ gs) (used_one (c == c) (as_list (grant_in ((board_of start seen).state c))) (eq-eqb c c refl))
