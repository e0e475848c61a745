-- Entries whose channels make what the script makes of the grants in them are those of a run.
use Rattle.std.proofs.Common.{◌≡◌, ℕ, ◌==◌, ◌⊎◌, inl, inr, Bool, true, false, cond, List, [], ◌∷◌, ◌++◌, drop, append_assoc, Option, Some, refl, sym, ap, ap₂, subst, ◌∙◌, eq-eqb, eqb-true}
use Rattle.std.proofs.lemmas.Bool.{cases_Bool}
use Rattle.std.proofs.lemmas.List.{append-nil}
use Rattle.channel_machine.proofs.RunsSoFar.{channels_of}
use Rattle.channel_machine.specs.Scripts.{items_of, script_of, segment_after}
use Rattle.coord_core.proofs.Usage.{Accords, Usage, accords_turn, usage_after, usage_from}
use Rattle.job_types.specs.Job.{JobView}
use Rattle.parallel_run.proofs.Histories.{own_head, own_other, used_head, used_other}
use Rattle.parallel_run.specs.Joining.{Rows, dealt, first_row, without_first}
use Rattle.parallel_run.specs.Workers.{grants_used, items_for, own_steps, steps_for}
use Rattle.sync_types.proofs.BoardTests.{no_truth}
use Rattle.sync_types.specs.Boards.{State, IsRunning, Board, grant_in, is_running}
use Rattle.sync_types.specs.Runs.{IsRun, Stage, after_turn, as_list, moves_of}
use Rattle.sync_types.specs.Turns.{AreEntries, after_step, entries_of, entry_of}
use Rattle.sync_types.specs.Views.{EntryView}
use Rattle.sync_types.specs.declared.Grant.{Grant}
use Rattle.sync_types.specs.declared.Item.{Item}
use Rattle.sync_types.specs.declared.Step.{Step}

-- who runs has a grant
pub has_grant : (s : State) → is_running s ≡ true → (grant : Grant) × (grant_in s ≡ Some grant)
has_grant (IsRunning grant) on = (grant, refl)
has_grant other on = no_truth false on refl

-- a number is this one, or another by both tests
pub this_or_other : (d c : ℕ) → (d ≡ c) ⊎ (((d == c) ≡ false) × ((c == d) ≡ false))
this_or_other d c = elim (cases_Bool (d == c)) [
  | inl here ↦ inl (eqb-true d c here)
  | inr off ↦ elim (cases_Bool (c == d)) [
    | inl here ↦ inl (sym (eqb-true c d here))
    | inr other ↦ inr (off, other)
  ]
]

-- ---- all of them

-- what is so of each channel, in a stage in which the channels have used these grants
pub record AreMade (job : JobView) (usage : Usage) (b : Board) (es : List EntryView) (rows : Rows) : Type 0 where
  pub steps : (c : ℕ) → own_steps c es ≡ steps_for job c (usage c) (grants_used c b es)
  pub items : (c : ℕ) → rows c ≡ items_for job c (usage c) (grants_used c b es)

-- so they are a run from there
pub record AreRun (job : JobView) (stage : Stage) (usage : Usage) (es : List EntryView) (rows : Rows) : Type 0 where
  pub run : IsRun (script_of job) stage (channels_of es)
  pub entries : es ≡ entries_of stage.board (moves_of (script_of job) stage (channels_of es))
  pub items : dealt rows es ≡ items_of job stage (channels_of es)
  pub used : (c : ℕ) → usage_from (script_of job) stage usage (channels_of es) c ≡ usage c ++ grants_used c stage.board es

head_of : {X : Type 0} (x y : X) (xs ys : List X) → x ∷ xs ≡ y ∷ ys → x ≡ y
head_of x y xs ys is = cc

rest_of : {X : Type 0} (x y : X) (xs ys : List X) → x ∷ xs ≡ y ∷ ys → xs ≡ ys
rest_of x y xs ys is = cc

module _ (job : JobView) (stage : Stage) (usage : Usage) (e : EntryView) (es : List EntryView) (rows : Rows) (accords : Accords stage usage)
    (lawful : AreEntries stage.board (e ∷ es)) (made : AreMade job usage stage.board (e ∷ es) rows) where
  the_grant : (grant : Grant) × (grant_in (stage.board.state e.channel) ≡ Some grant)
  the_grant = has_grant (stage.board.state e.channel) lawful.0

  abbrev after : Board
  after = after_step stage.board e.channel e.step

  got : stage.grants e.channel ≡ usage e.channel ++ the_grant.0 ∷ []
  got = accords.grants e.channel ∙ ap (λ (o : Option Grant). usage e.channel ++ as_list o) the_grant.1

  steps_here : e.step ∷ own_steps e.channel es ≡ steps_for job e.channel (usage e.channel) (the_grant.0 ∷ grants_used e.channel after es)
  steps_here = sym (own_head e.channel e es (eq-eqb e.channel e.channel refl)) ∙ made.steps e.channel ∙ ap (steps_for job e.channel (usage e.channel)) (used_head e.channel stage.board e es the_grant.0 (eq-eqb e.channel e.channel refl) the_grant.1)

  rows_here : rows e.channel ≡ items_for job e.channel (usage e.channel) (the_grant.0 ∷ grants_used e.channel after es)
  rows_here = made.items e.channel ∙ ap (items_for job e.channel (usage e.channel)) (used_head e.channel stage.board e es the_grant.0 (eq-eqb e.channel e.channel refl) the_grant.1)

  -- its step is that of the script
  the_step : e.step ≡ script_of job e.channel (stage.grants e.channel)
  the_step = head_of e.step _ (own_steps e.channel es) _ steps_here ∙ ap (script_of job e.channel) (sym got)

  same_after : after ≡ (after_turn (script_of job) stage e.channel).board
  same_after = ap (λ (s : Step). after_step stage.board e.channel s) the_step

  used_now : usage_after stage usage e.channel e.channel ≡ usage e.channel ++ the_grant.0 ∷ []
  used_now = by (e.channel == e.channel) (eq-eqb e.channel e.channel refl) ∙ got
    where
      by : (own : Bool) → own ≡ true → cond own (stage.grants e.channel) (usage e.channel) ≡ stage.grants e.channel
      by true is = refl
      by false is = absurd cc

  used_still : (d : ℕ) → (d == e.channel) ≡ false → usage_after stage usage e.channel d ≡ usage d
  used_still d off = by (d == e.channel) off
    where
      by : (own : Bool) → own ≡ false → cond own (stage.grants d) (usage d) ≡ usage d
      by false is = refl
      by true is = absurd cc

  rest_now : without_first rows e.channel e.channel ≡ drop 1 (rows e.channel)
  rest_now = by (e.channel == e.channel) (eq-eqb e.channel e.channel refl)
    where
      by : (own : Bool) → own ≡ true → cond own (drop 1 (rows e.channel)) (rows e.channel) ≡ drop 1 (rows e.channel)
      by true is = refl
      by false is = absurd cc

  rest_still : (d : ℕ) → (d == e.channel) ≡ false → without_first rows e.channel d ≡ rows d
  rest_still d off = by (d == e.channel) off
    where
      by : (own : Bool) → own ≡ false → cond own (drop 1 (rows d)) (rows d) ≡ rows d
      by false is = refl
      by true is = absurd cc

  abbrev Steps : ℕ → Type 0
  Steps d = own_steps d es ≡ steps_for job d (usage_after stage usage e.channel d) (grants_used d after es)

  abbrev Lists : ℕ → Type 0
  Lists d = without_first rows e.channel d ≡ items_for job d (usage_after stage usage e.channel d) (grants_used d after es)

  steps_now : Steps e.channel
  steps_now = rest_of e.step _ (own_steps e.channel es) _ steps_here ∙ ap (λ (gs : List Grant). steps_for job e.channel gs (grants_used e.channel after es)) (sym used_now)

  steps_still : (d : ℕ) → (d == e.channel) ≡ false → (e.channel == d) ≡ false → Steps d
  steps_still d off other =
      sym (own_other d e es other) ∙ made.steps d
      ∙ ap₂ (λ (gs hs : List Grant). steps_for job d gs hs) (sym (used_still d off)) (used_other d stage.board e es other)

  rows_now : Lists e.channel
  rows_now = rest_now ∙ ap (drop 1) rows_here ∙ ap (λ (gs : List Grant). items_for job e.channel gs (grants_used e.channel after es)) (sym used_now)

  rows_still : (d : ℕ) → (d == e.channel) ≡ false → (e.channel == d) ≡ false → Lists d
  rows_still d off other =
      rest_still d off ∙ made.items d
      ∙ ap₂ (λ (gs hs : List Grant). items_for job d gs hs) (sym (used_still d off)) (used_other d stage.board e es other)

  -- so the rest is made in the next stage
  pub rest_made : AreMade job (usage_after stage usage e.channel) (after_turn (script_of job) stage e.channel).board es (without_first rows e.channel)
  rest_made = subst (λ (b : Board). AreMade job (usage_after stage usage e.channel) b es (without_first rows e.channel)) same_after (record {
    steps = λ d. elim (this_or_other d e.channel) [
      | inl here ↦ subst Steps (sym here) steps_now
      | inr off ↦ steps_still d off.0 off.1
    ];
    items = λ d. elim (this_or_other d e.channel) [
      | inl here ↦ subst Lists (sym here) rows_now
      | inr off ↦ rows_still d off.0 off.1
    ];
  })

  pub rest_lawful : AreEntries (after_turn (script_of job) stage e.channel).board es
  rest_lawful = subst (λ (b : Board). AreEntries b es) same_after lawful.2

  abbrev Used : ℕ → Type 0
  Used d = usage_after stage usage e.channel d ++ grants_used d after es ≡ usage d ++ grants_used d stage.board (e ∷ es)

  used_both : (d : ℕ) → Used d
  used_both d = elim (this_or_other d e.channel) [
    | inl here ↦ subst Used (sym here)
        (ap (λ (gs : List Grant). gs ++ grants_used e.channel after es) used_now
        ∙ append_assoc (usage e.channel) (the_grant.0 ∷ []) (grants_used e.channel after es)
        ∙ ap (λ (gs : List Grant). usage e.channel ++ gs) (sym (used_head e.channel stage.board e es the_grant.0 (eq-eqb e.channel e.channel refl) the_grant.1)))
    | inr off ↦ ap₂ (λ (gs hs : List Grant). gs ++ hs) (used_still d off.0) (sym (used_other d stage.board e es off.1))
  ]

  pub with_first : AreRun job (after_turn (script_of job) stage e.channel) (usage_after stage usage e.channel) es (without_first rows e.channel) → AreRun job stage usage (e ∷ es) rows
  with_first rest = record {
    run = (lawful.0, rest.run);
    entries = ap₂ (λ (x : EntryView) (xs : List EntryView). x ∷ xs) (lawful.1 ∙ ap (entry_of stage.board e.channel) the_step) rest.entries;
    items = ap₂ (λ (x : List Item) (xs : List (List Item)). x ∷ xs) (ap first_row rows_here ∙ ap (λ (gs : List Grant). (segment_after job e.channel gs).items) (sym got)) rest.items;
    used = λ d. rest.used d ∙ ap (λ (b : Board). usage_after stage usage e.channel d ++ grants_used d b es) (sym same_after) ∙ used_both d;
  }

pub joins : (job : JobView) (stage : Stage) (usage : Usage) (es : List EntryView) (rows : Rows) → Accords stage usage → AreEntries stage.board es → AreMade job usage stage.board es rows → AreRun job stage usage es rows
joins job stage usage [] rows accords lawful made = record { run = tt; entries = refl; items = refl; used = λ c. sym (append-nil (usage c)) }
joins job stage usage (e ∷ es) rows accords lawful made =
    with_first job stage usage e es rows accords lawful made
    (joins job (after_turn (script_of job) stage e.channel) (usage_after stage usage e.channel) es (without_first rows e.channel)
    (accords_turn (script_of job) stage usage e.channel accords)
    (rest_lawful job stage usage e es rows accords lawful made)
    (rest_made job stage usage e es rows accords lawful made))
