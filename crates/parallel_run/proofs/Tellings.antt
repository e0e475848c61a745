-- What a worker has made is what the history has that its pass has seen, call by call.
use Rattle.std.proofs.Common.{◌⊎◌, inl, inr, ◌≡◌, ◌≢◌, ℕ, true, false, List, [], ◌∷◌, ◌++◌, Option, Some, None, refl, sym, ap, ap₂, subst, ◌∙◌}
use Rattle.std.proofs.lemmas.Bool.{cases_Bool}
use Rattle.channel_machine.specs.Grants.{grant_fits}
use Rattle.channel_machine.specs.Scripts.{script_of}
use Rattle.coord_core.proofs.Granted.{granted_runs}
use Rattle.coord_core.proofs.Outcomes.{at_closed, tells_what_is}
use Rattle.coord_core.proofs.Running.{same_state}
use Rattle.coord_core.specs.BoardTurns.{Brings, ToAct, ToClosed, ToLook, ToNoMemory, with_entry}
use Rattle.coord_core.specs.Desks.{Acts, ActsAndWaits, AtOnce, Closes, Later, Looks, SeesOn, TellsOfRunning, TellsOn, Told}
use Rattle.coord_core.specs.Histories.{History, answer_of, board_of, runs}
use Rattle.coord_core.specs.declared.outcome.Outcome.{Outcome}
use Rattle.coord_core.specs.declared.outcome.Outcome.TheVariants.{Granted, Done, Over, Closed, NoMemory}
use Rattle.job_types.specs.Job.{JobView}
use Rattle.parallel_run.proofs.Histories.{own_grant, own_step, same_grants, same_steps}
use Rattle.parallel_run.proofs.Notes.{steps_for-push}
use Rattle.parallel_run.specs.Workers.{CanGoOn, HasMade, HasNoted, HasStepsOfScript, IsOwnLater, IsWorked, AtDone, AtOver, AtMisfit, TellsMade, TellsNothingYet, TellsOpen, TellsReason, TellsShut, WorkedView, grants_used, own_steps, steps_for}
use Rattle.sync_types.proofs.BoardTests.{no_truth}
use Rattle.sync_types.specs.Boards.{first_board, grant_in}
use Rattle.sync_types.specs.Runs.{as_list}
use Rattle.sync_types.specs.Views.{StartView}
use Rattle.sync_types.specs.declared.Grant.{Grant}
use Rattle.sync_types.specs.declared.Step.{Step}

-- the grants of a channel in a history
abbrev pub got : ℕ → StartView → History → List Grant
got c start seen = grants_used c (first_board start) seen.entries

-- the worker has made what the history has of its channel
pub record Meets (job : JobView) (c : ℕ) (w : WorkedView) (start : StartView) (seen : History) : Type 0 where
  pub steps : HasStepsOfScript job c start seen.entries
  pub worked : IsWorked job (got c start seen) w

-- the channel runs with this grant
abbrev pub RunsWith : ℕ → StartView → History → Grant → Type 0
RunsWith c start seen grant = grant_in ((board_of start seen).state c) ≡ Some grant

-- between two calls, where the last one has told this: the pass that the worker began with, and what it tells now
pub record IsAtTurn (job : JobView) (c : ℕ) (w : WorkedView) (outcome : Outcome) (first told : Told) : Type 0 where
  pub channel : told.channel ≡ c
  pub start : told.start ≡ first.start
  pub steps : HasStepsOfScript job c told.start told.seen.entries
  pub meets : outcome ≢ Closed → outcome ≢ NoMemory → Meets job c w told.start told.seen
  pub granted : (grant : Grant) → outcome ≡ Granted grant → RunsWith c told.start told.seen grant
  pub answered : outcome ≢ Closed → outcome ≢ NoMemory → Some outcome ≡ answer_of told.start told.seen c
  pub closed : outcome ≡ Closed → told.seen.closed ≡ true
  pub full : outcome ≡ NoMemory → told.seen.closed ≡ true

abbrev pub TellsAtTurn : JobView → ℕ → WorkedView → Outcome → Option Told → Option Told → Type 0
TellsAtTurn job c w outcome = TellsOn (IsAtTurn job c w outcome)

-- ---- what others have added

-- changes nothing of the channel's
still_meets : (job : JobView) (c : ℕ) (w : WorkedView) (start : StartView) (seen later : History) → SeesOn c seen later → Meets job c w start seen → Meets job c w start later
still_meets job c w start seen later sees meets =
    let same : got c start later ≡ got c start seen = same_grants c start seen later sees in
    record {
      steps = same_steps c start seen later sees ∙ meets.steps ∙ ap (steps_for job c []) (sym same);
      worked = subst (λ (gs : List Grant). IsWorked job gs w) (sym same) meets.worked;
    }

still_runs : (c : ℕ) (start : StartView) (seen later : History) (grant : Grant) → SeesOn c seen later → RunsWith c start seen grant → RunsWith c start later grant
still_runs c start seen later grant sees on =
    ap grant_in (same_state start c seen later (granted_runs ((board_of start seen).state c) grant on) sees) ∙ on

-- so what the pass has seen of the channel is the whole of it
pub made_of_all : (job : JobView) (c : ℕ) (w : WorkedView) (start : StartView) (seen later : History) → w.channel ≡ c → SeesOn c seen later → HasMade job start seen.entries w → HasMade job start later.entries w
made_of_all job c w start seen later of sees made =
    let on : SeesOn w.channel seen later = subst (λ (d : ℕ). SeesOn d seen later) (sym of) sees in
    let now : Meets job w.channel w start later = still_meets job w.channel w start seen later on (record { steps = made.steps; worked = made.worked }) in
    record { steps = now.steps; worked = now.worked; ready = made.ready }

-- ---- a step of the channel with this grant is noted
steps_on : (job : JobView) (c : ℕ) (w after : WorkedView) (start : StartView) (seen later : History) (grant : Grant) (step : Step) → w.channel ≡ c → Meets job c w start seen → RunsWith c start seen grant
    → HasNoted job w grant step after → later.entries ≡ (with_entry start c step seen).entries → Meets job c after start later
steps_on job c w after start seen later grant step of meets on noted is =
    let grants : List Grant = got c start seen in
    let now : got c start later ≡ grants ++ grant ∷ [] =
    ap (grants_used c (first_board start)) is ∙ own_grant c start step seen ∙ ap (λ (o : Option Grant). grants ++ as_list o) on in
    record {
      steps =
          ap (own_steps c) is ∙ own_step c start step seen
          ∙ ap₂ (λ (steps : List Step) (s : Step). steps ++ s ∷ []) meets.steps (noted.scripted grants meets.worked)
          ∙ ap (λ (d : ℕ). steps_for job c [] grants ++ script_of job d (grants ++ grant ∷ []) ∷ []) of
          ∙ sym (steps_for-push job c grants grant) ∙ ap (steps_for job c []) (sym now);
      worked = subst (λ (gs : List Grant). IsWorked job gs after) (sym now) (noted.worked grants meets.worked);
    }

-- who is told Granted runs with that grant
told_granted : (c : ℕ) (start : StartView) (seen : History) (outcome : Outcome) (grant : Grant) → Some outcome ≡ answer_of start seen c → outcome ≡ Granted grant → RunsWith c start seen grant
told_granted c start seen outcome grant told is = (tells_what_is start seen c).granted grant (sym told ∙ ap (λ (o : Outcome). Some o) is)

-- who is told Closed has seen that
told_closed : (c : ℕ) (start : StartView) (seen : History) (outcome : Outcome) → Some outcome ≡ answer_of start seen c → outcome ≡ Closed → seen.closed ≡ true
told_closed c start seen outcome told is = (tells_what_is start seen c).closed (sym told ∙ ap (λ (o : Outcome). Some o) is)

-- no look tells NoMemory
told_full : (c : ℕ) (start : StartView) (seen : History) (outcome : Outcome) → Some outcome ≡ answer_of start seen c → outcome ≡ NoMemory → seen.closed ≡ true
told_full c start seen outcome told is = absurd ((tells_what_is start seen c).memory (sym told ∙ ap (λ (o : Outcome). Some o) is))

same_outcome : (o p : Outcome) → Some o ≡ Some p → o ≡ p
same_outcome o p is = cc

-- who is told another answer has seen the board open
told_open : (c : ℕ) (start : StartView) (seen : History) (outcome : Outcome) → Some outcome ≡ answer_of start seen c → outcome ≢ Closed → seen.closed ≡ false
told_open c start seen outcome told other = elim (cases_Bool seen.closed) [
  | inl on ↦ absurd (other (same_outcome outcome Closed (told ∙ at_closed start seen c on)))
  | inr off ↦ off
]

-- ---- a look

module _ (job : JobView) (c : ℕ) (w : WorkedView) where
  looked : (first v u : Told) (outcome : Outcome) → v.channel ≡ c → v.start ≡ first.start → Meets job c w v.start v.seen → Looks v (Some outcome) u → IsAtTurn job c w outcome first u
  looked first v u outcome here begins meets looks =
      let sees : SeesOn c v.seen u.seen = subst (λ (d : ℕ). SeesOn d v.seen u.seen) here looks.seen in
      let same : Meets job c w u.start v.seen = subst (λ (s : StartView). Meets job c w s v.seen) (sym looks.pass.start) meets in
      let now : Meets job c w u.start u.seen = still_meets job c w u.start v.seen u.seen sees same in
      let here_too : u.channel ≡ c = looks.pass.channel ∙ here in
      let told : Some outcome ≡ answer_of u.start u.seen c = looks.told ∙ ap (answer_of u.start u.seen) here_too in
      record {
        channel = here_too;
        start = looks.pass.start ∙ begins;
        steps = now.steps;
        meets = λ opened room. now;
        granted = λ grant is. told_granted c u.start u.seen outcome grant told is;
        answered = λ opened room. told;
        closed = told_closed c u.start u.seen outcome told;
        full = told_full c u.start u.seen outcome told;
      }

  fresh_meets : (v : Told) → IsWorked job [] w → v.seen.entries ≡ [] → Meets job c w v.start v.seen
  fresh_meets v is nothing =
      let none : got c v.start v.seen ≡ [] = ap (grants_used c (first_board v.start)) nothing in
      record {
        steps = ap (own_steps c) nothing ∙ ap (steps_for job c []) (sym none);
        worked = subst (λ (gs : List Grant). IsWorked job gs w) (sym none) is;
      }

  -- after the first look
  pub starts : (before after : Option Told) (outcome : Outcome) → IsWorked job [] w → TellsNothingYet c before
      → TellsOn (λ v u. Looks v (Some outcome) u) before after → TellsAtTurn job c w outcome before after
  starts None None outcome is fresh told = tt
  starts None (Some u) outcome is fresh told = absurd told
  starts (Some v) None outcome is fresh told = absurd told
  starts (Some v) (Some u) outcome is fresh told = looked v v u outcome fresh.channel refl (fresh_meets v is fresh.nothing) told

  -- where a channel is told Granted, it runs
  pub may_act : (first told : Option Told) (outcome : Outcome) (grant : Grant) → outcome ≡ Granted grant → TellsAtTurn job c w outcome first told → TellsOfRunning told
  may_act None None outcome grant is at = tt
  may_act (Some v) None outcome grant is at = tt
  may_act None (Some u) outcome grant is at = absurd at
  may_act (Some v) (Some u) outcome grant is at = ap (runs u.start u.seen) at.channel ∙ granted_runs ((board_of u.start u.seen).state c) grant (at.granted grant is)

  -- what is told when a worker stops
  pub stops : (first told : Option Told) (outcome : Outcome) → TellsAtTurn job c w outcome first told → TellsOn (IsOwnLater job c) first told
  stops None None outcome at = tt
  stops (Some v) None outcome at = absurd at
  stops None (Some u) outcome at = absurd at
  stops (Some v) (Some u) outcome at = record { channel = at.channel; start = at.start; steps = at.steps }

  -- and what it has made then, where the board was not closed
  pub made : (first told : Option Told) (outcome : Outcome) → w.channel ≡ c → CanGoOn job w → outcome ≢ Closed → outcome ≢ NoMemory → TellsAtTurn job c w outcome first told → TellsMade job w told
  made None None outcome of ready unshut room at = tt
  made (Some v) None outcome of ready unshut room at = tt
  made None (Some u) outcome of ready unshut room at = absurd at
  made (Some v) (Some u) outcome of ready unshut room at =
      let meets : Meets job w.channel w u.start u.seen = subst (λ (d : ℕ). Meets job d w u.start u.seen) (sym of) (at.meets unshut room) in
      record { steps = meets.steps; worked = meets.worked; ready = ready }

  -- it was not closed where neither of the two was told, and closed where one of them was
  pub is_open : (first told : Option Told) (outcome : Outcome) → outcome ≢ Closed → outcome ≢ NoMemory → TellsAtTurn job c w outcome first told → TellsOpen told
  is_open None None outcome unshut room at = tt
  is_open (Some v) None outcome unshut room at = tt
  is_open None (Some u) outcome unshut room at = absurd at
  is_open (Some v) (Some u) outcome unshut room at = told_open c u.start u.seen outcome (at.answered unshut room) unshut

  pub is_shut : (first told : Option Told) (outcome : Outcome) → (outcome ≡ Closed) ⊎ (outcome ≡ NoMemory) → TellsAtTurn job c w outcome first told → TellsShut told
  is_shut None None outcome which at = tt
  is_shut (Some v) None outcome which at = tt
  is_shut None (Some u) outcome which at = absurd at
  is_shut (Some v) (Some u) outcome (inl is) at = at.closed is
  is_shut (Some v) (Some u) outcome (inr is) at = at.full is

  -- why it stops
  answer_is : (first u : Told) (outcome told : Outcome) → outcome ≢ Closed → outcome ≢ NoMemory → outcome ≡ told → IsAtTurn job c w outcome first u → answer_of u.start u.seen u.channel ≡ Some told
  answer_is first u outcome told unshut room is at = ap (answer_of u.start u.seen) at.channel ∙ sym (at.answered unshut room) ∙ ap (λ (o : Outcome). Some o) is

  pub at_done : (first told : Option Told) (outcome : Outcome) → outcome ≢ Closed → outcome ≢ NoMemory → (outcome ≡ Done) ⊎ (outcome ≡ Over) → TellsAtTurn job c w outcome first told → TellsReason job w told
  at_done None None outcome unshut room which at = tt
  at_done (Some v) None outcome unshut room which at = tt
  at_done None (Some u) outcome unshut room which at = absurd at
  at_done (Some v) (Some u) outcome unshut room (inl is) at = AtDone (answer_is v u outcome Done unshut room is at)
  at_done (Some v) (Some u) outcome unshut room (inr is) at = AtOver (answer_is v u outcome Over unshut room is at)

  pub at_misfit : (first told : Option Told) (outcome : Outcome) (grant : Grant) → outcome ≢ Closed → outcome ≢ NoMemory → outcome ≡ Granted grant → grant_fits job w.last grant ≡ false
      → TellsAtTurn job c w outcome first told → TellsReason job w told
  at_misfit None None outcome grant unshut room is off at = tt
  at_misfit (Some v) None outcome grant unshut room is off at = tt
  at_misfit None (Some u) outcome grant unshut room is off at = absurd at
  at_misfit (Some v) (Some u) outcome grant unshut room is off at = AtMisfit grant (answer_is v u outcome (Granted grant) unshut room is at) off

-- who is told one of these is told no other
pub granted_unshut : (o : Outcome) (grant : Grant) → o ≡ Granted grant → o ≢ Closed
granted_unshut o grant is bad = cc

pub granted_room : (o : Outcome) (grant : Grant) → o ≡ Granted grant → o ≢ NoMemory
granted_room o grant is bad = cc

pub done_unshut : (o : Outcome) → o ≡ Done → o ≢ Closed
done_unshut o is bad = cc

pub done_room : (o : Outcome) → o ≡ Done → o ≢ NoMemory
done_room o is bad = cc

pub over_unshut : (o : Outcome) → o ≡ Over → o ≢ Closed
over_unshut o is bad = cc

pub over_room : (o : Outcome) → o ≡ Over → o ≢ NoMemory
over_room o is bad = cc

pub stop_unshut : (o : Outcome) → (o ≡ Done) ⊎ (o ≡ Over) → o ≢ Closed
stop_unshut o (inl is) = done_unshut o is
stop_unshut o (inr is) = over_unshut o is

pub stop_room : (o : Outcome) → (o ≡ Done) ⊎ (o ≡ Over) → o ≢ NoMemory
stop_room o (inl is) = done_room o is
stop_room o (inr is) = over_room o is

-- ---- a step, and the end

module _ (job : JobView) (c : ℕ) (w after : WorkedView) (grant : Grant) (step : Step) (of : w.channel ≡ c) (noted : HasNoted job w grant step after) where
  -- the step was made, or the board was closed or is closed now
  data Brought (answer : Option Outcome) (u : Told) : Type 0 where
    Made : Meets job c after u.start u.seen → answer ≡ answer_of u.start u.seen c → Brought answer u
    NotMade : Meets job c w u.start u.seen → u.seen.closed ≡ true → answer ≡ Some Closed → Brought answer u
    NoRoom : Meets job c w u.start u.seen → u.seen.closed ≡ true → answer ≡ Some NoMemory → Brought answer u

  by_turn : (u : Told) (found : History) (answer : Option Outcome) → Meets job c w u.start found → RunsWith c u.start found grant
      → Brings u.start c step found answer u.seen → Brought answer u
  by_turn u found answer meets on (ToClosed closed now told) = NotMade (subst (Meets job c w u.start) (sym now) meets) (ap (λ (h : History). h.closed) now ∙ closed) told
  by_turn u found answer meets on (ToLook rests now told) = no_truth (runs u.start found c) (granted_runs ((board_of u.start found).state c) grant on) rests
  by_turn u found answer meets on (ToAct opened running now told) =
      Made (steps_on job c w after u.start found u.seen grant step of meets on noted (ap (λ (h : History). h.entries) now)) told
  by_turn u found answer meets on (ToNoMemory opened running now told) =
      NoRoom (subst (Meets job c w u.start) (sym now) (record { steps = meets.steps; worked = meets.worked })) (ap (λ (h : History). h.closed) now) told

  brought : (v u : Told) (answer : Option Outcome) → v.channel ≡ c → Meets job c w v.start v.seen → RunsWith c v.start v.seen grant → Acts v step answer u → Brought answer u
  brought v u answer here meets on acts =
      let sees : SeesOn c v.seen acts.found = subst (λ (d : ℕ). SeesOn d v.seen acts.found) here acts.seen in
      let found : Meets job c w v.start acts.found = still_meets job c w v.start v.seen acts.found sees meets in
      let running : RunsWith c v.start acts.found grant = still_runs c v.start v.seen acts.found grant sees on in
      let brings : Brings v.start c step acts.found answer u.seen = subst (λ (d : ℕ). Brings v.start d step acts.found answer u.seen) here acts.brought in
      let start : v.start ≡ u.start = sym acts.pass.start in
      by_turn u acts.found answer
      (subst (λ (s : StartView). Meets job c w s acts.found) start found)
      (subst (λ (s : StartView). RunsWith c s acts.found grant) start running)
      (subst (λ (s : StartView). Brings s c step acts.found answer u.seen) start brings)

  at_once : (first u : Told) (outcome : Outcome) → u.channel ≡ c → u.start ≡ first.start → Brought (Some outcome) u → IsAtTurn job c after outcome first u
  at_once first u outcome here begins (Made meets told) = record {
    channel = here;
    start = begins;
    steps = meets.steps;
    meets = λ unshut room. meets;
    granted = λ g granted. told_granted c u.start u.seen outcome g told granted;
    answered = λ unshut room. told;
    closed = told_closed c u.start u.seen outcome told;
    full = told_full c u.start u.seen outcome told;
  }
  at_once first u outcome here begins (NotMade meets shut closed) =
      let is : outcome ≡ Closed = same_outcome outcome Closed closed in
      record {
        channel = here;
        start = begins;
        steps = meets.steps;
        meets = λ unshut room. absurd (unshut is);
        granted = λ g granted. absurd (granted_unshut outcome g granted is);
        answered = λ unshut room. absurd (unshut is);
        closed = λ told. shut;
        full = λ told. shut;
      }
  at_once first u outcome here begins (NoRoom meets shut full) =
      let is : outcome ≡ NoMemory = same_outcome outcome NoMemory full in
      record {
        channel = here;
        start = begins;
        steps = meets.steps;
        meets = λ unshut room. absurd (room is);
        granted = λ g granted. absurd (granted_room outcome g granted is);
        answered = λ unshut room. absurd (room is);
        closed = λ told. shut;
        full = λ told. shut;
      }

  later : (u : Told) → Brought None u → Meets job c after u.start u.seen
  later u (Made meets told) = meets
  later u (NotMade meets shut closed) = absurd cc
  later u (NoRoom meets shut full) = absurd cc

  acted : (first v u : Told) (outcome : Outcome) → v.channel ≡ c → v.start ≡ first.start → Meets job c w v.start v.seen → RunsWith c v.start v.seen grant → ActsAndWaits v step outcome u → IsAtTurn job c after outcome first u
  acted first v u outcome here begins meets on (AtOnce acts) = at_once first u outcome (acts.pass.channel ∙ here) (acts.pass.start ∙ begins) (brought v u (Some outcome) here meets on acts)
  acted first v u outcome here begins meets on (Later between acts looks) =
      looked job c after first between u outcome (acts.pass.channel ∙ here) (acts.pass.start ∙ begins) (later between (brought v between None here meets on acts)) looks

  -- after a step
  pub acts_on : (first before now : Option Told) (was outcome : Outcome) → was ≡ Granted grant → TellsAtTurn job c w was first before
      → TellsOn (λ v u. ActsAndWaits v step outcome u) before now → TellsAtTurn job c after outcome first now
  acts_on None None None was outcome granted at told = tt
  acts_on None None (Some u) was outcome granted at told = absurd told
  acts_on None (Some v) now was outcome granted at told = absurd at
  acts_on (Some f) None now was outcome granted at told = absurd at
  acts_on (Some f) (Some v) None was outcome granted at told = absurd told
  acts_on (Some f) (Some v) (Some u) was outcome granted at told =
      acted f v u outcome at.channel at.start (at.meets (granted_unshut was grant granted) (granted_room was grant granted)) (at.granted grant granted) told

-- after closing
pub closes : (job : JobView) (c : ℕ) (w : WorkedView) (first before now : Option Told) (was : Outcome) → TellsAtTurn job c w was first before → TellsOn Closes before now → TellsOn (IsOwnLater job c) first now
closes job c w None None None was at told = tt
closes job c w None None (Some u) was at told = absurd told
closes job c w None (Some v) now was at told = absurd at
closes job c w (Some f) None now was at told = absurd at
closes job c w (Some f) (Some v) None was at told = absurd told
closes job c w (Some f) (Some v) (Some u) was at told =
    let sees : SeesOn c v.seen told.found = subst (λ (d : ℕ). SeesOn d v.seen told.found) at.channel told.seen in
    let entries = ap (λ (h : History). h.entries) told.closed in
    record {
      channel = told.pass.channel ∙ at.channel;
      start = told.pass.start ∙ at.start;
      steps =
          ap (own_steps c) entries ∙ same_steps c v.start v.seen told.found sees ∙ at.steps
          ∙ ap (steps_for job c []) (sym (same_grants c v.start v.seen told.found sees) ∙ ap (grants_used c (first_board v.start)) (sym entries) ∙ ap (λ (s : StartView). grants_used c (first_board s) u.seen.entries) (sym told.pass.start));
    }

pub closes_shut : (before now : Option Told) → TellsOn Closes before now → TellsShut now
closes_shut None None told = tt
closes_shut None (Some u) told = absurd told
closes_shut (Some v) None told = absurd told
closes_shut (Some v) (Some u) told = ap (λ (h : History). h.closed) told.closed
