-- All passes and what all workers have made, once they are back.
use Rattle.std.proofs.Common.{◌≡◌, ℕ, ◌<◌, ◌&&◌, Bool, true, false, All, List, [], ◌∷◌, get_or, length, map, IfOk, Ok, Result, refl, sym, ap, subst, ◌∙◌, inl, inr}
use Rattle.std.proofs.lemmas.Bool.{cases_Bool}
use Rattle.std.proofs.lemmas.List.{get_or-map, length-map, same_lists}
use Rattle.channel_machine.proofs.StartNumbers.{start_numbers}
use Rattle.channel_machine.specs.StartStates.{start_of}
use Rattle.coord_core.specs.Histories.{History}
use Rattle.job_types.specs.Job.{JobView}
use Rattle.out_of_memory.specs.declared.NoMemory.{NoMemory}
use Rattle.parallel_run.proofs.Tellings.{made_of_all}
use Rattle.parallel_run.specs.Joining.{nobody}
use Rattle.parallel_run.specs.Returns.{BackView, IsBack, IsFirstPass}
use Rattle.parallel_run.specs.Workers.{CanGoOn, HasMade, IsWorked, WorkedView}
use Rattle.sync_types.proofs.BoardTests.{among_kept, no_truth}
use Rattle.sync_types.specs.Boards.{among, channel_numbers}
use Rattle.sync_types.specs.Starts.{has_channel}
use Rattle.sync_types.specs.Views.{EntryView, StartView}
use Rattle.ticket_board.specs.Passes.{EndsFor, IsPassOf, TicketBoardView, TicketPassView, channels_of, fresh_pass, fresh_passes, no_history}

-- ---- before

-- the passes of a board are of that, and nothing was done with them
pub first_passes : (board : TicketBoardView) (cs : List ℕ) → All (IsFirstPass board) (map (fresh_pass board) cs)
first_passes board cs k d below =
    subst (IsFirstPass board) (sym (get_or-map (fresh_pass board) cs k 0 d (subst (λ (n : ℕ). k < n) (length-map cs (fresh_pass board)) below)))
    (record { own = (refl, refl); nothing = refl })

map-map : {A B C : Type 0} (f : B → C) (g : A → B) (xs : List A) → map f (map g xs) ≡ map (λ x. f (g x)) xs
map-map f g [] = refl
map-map f g (x ∷ xs) = ap (λ (ys : List _). f (g x) ∷ ys) (map-map f g xs)

same_numbers : (cs : List ℕ) → map (λ (c : ℕ). c) cs ≡ cs
same_numbers [] = refl
same_numbers (c ∷ cs) = ap (λ (ds : List ℕ). c ∷ ds) (same_numbers cs)

pub fresh_channels : (board : TicketBoardView) → map (λ (p : TicketPassView). p.channel) (fresh_passes board) ≡ channels_of board.start
fresh_channels board = map-map (λ (p : TicketPassView). p.channel) (fresh_pass board) (channels_of board.start) ∙ same_numbers (channels_of board.start)

-- who did not begin has made nothing, and nothing was seen
pub fresh_made : (job : JobView) (start : StartView) (seen : History) (w : WorkedView) → seen ≡ no_history → IsWorked job [] w → CanGoOn job w → HasMade job start seen.entries w
fresh_made job start seen w none worked ready = subst (λ (h : History). HasMade job start h.entries w) (sym none) (record { steps = refl; worked = worked; ready = ready })

-- ---- after

abbrev nothing_back : TicketPassView → BackView
nothing_back p = (p, Ok (nobody 0))

module _ (job : JobView) (board : TicketBoardView) (passes : List TicketPassView) (back : List BackView) (len : length back ≡ length passes)
    (each : (k : ℕ) (p : TicketPassView) (d : BackView) → k < length passes → IsBack job board (get_or passes k p) (get_or back k d)) where
  abbrev passes_back : List TicketPassView
  passes_back = map (λ (one : BackView). one.0) back

  one_of : (k : ℕ) (p : TicketPassView) → k < length back → IsBack job board (get_or passes k p) (get_or back k (nothing_back p))
  one_of k p below = each k p (nothing_back p) (subst (λ (n : ℕ). k < n) len below)

  its_pass : (k : ℕ) (p : TicketPassView) → k < length back → get_or passes_back k p ≡ (get_or back k (nothing_back p)).0
  its_pass k p below = get_or-map (λ (one : BackView). one.0) back k (nothing_back p) p below

  as_long : (k : ℕ) → k < length passes_back → k < length back
  as_long k below = subst (λ (n : ℕ). k < n) (length-map back (λ (one : BackView). one.0)) below

  pub all_own : All (IsPassOf board) passes_back
  all_own k p below =
      let here : k < length back = as_long k below in
      subst (IsPassOf board) (sym (its_pass k p here)) (one_of k p here).own

  pub all_back : length passes_back ≡ length passes
  all_back = length-map back (λ (one : BackView). one.0) ∙ len

  -- the workers are of the channels of the passes
  module _ (workers : List WorkedView) (are : map (λ (w : WorkedView). Ok w) workers ≡ map (λ (one : BackView). one.1) back) where
    as_many : length workers ≡ length back
    as_many = sym (length-map workers (λ (w : WorkedView). Ok w)) ∙ ap length are ∙ length-map back (λ (one : BackView). one.1)

    its_worker : (k : ℕ) (p : TicketPassView) (d : WorkedView) → k < length workers → Ok (get_or workers k d) ≡ (get_or back k (nothing_back p)).1
    its_worker k p d below =
        sym (get_or-map (λ (w : WorkedView). Ok w) workers k d (Ok d) below)
        ∙ ap (λ (rs : List (Result WorkedView NoMemory)). get_or rs k (Ok d)) are
        ∙ get_or-map (λ (one : BackView). one.1) back k (nothing_back p) (Ok d) (subst (λ (n : ℕ). k < n) as_many below)

    worker_of : (k : ℕ) (p : TicketPassView) (d : WorkedView) → k < length workers → (get_or workers k d).channel ≡ (get_or passes k p).channel
    worker_of k p d below =
        let P : Result WorkedView NoMemory → Type 0 = λ r. IfOk r (λ (w : WorkedView). w.channel ≡ (get_or passes k p).channel) in
        subst P (sym (its_worker k p d below)) (one_of k p (subst (λ (n : ℕ). k < n) as_many below)).worker

    pub same_channels : (p : TicketPassView) → map (λ (w : WorkedView). w.channel) workers ≡ map (λ (p : TicketPassView). p.channel) passes
    same_channels p = same_lists _ _
        (length-map workers (λ (w : WorkedView). w.channel) ∙ as_many ∙ len ∙ sym (length-map passes (λ (p : TicketPassView). p.channel)))
        (λ k d below.
        let within : k < length workers = subst (λ (n : ℕ). k < n) (length-map workers (λ (w : WorkedView). w.channel)) below in
        get_or-map (λ (w : WorkedView). w.channel) workers k (nobody 0) d within
        ∙ worker_of k p (nobody 0) within
        ∙ sym (get_or-map (λ (p : TicketPassView). p.channel) passes k p d (subst (λ (n : ℕ). k < n) (as_many ∙ len) within)))

    -- what a worker has made is what the history has in which its pass ends
    pub all_made : (p : TicketPassView) (history : History) (start : StartView) (entries : List EntryView) → board.start ≡ start → entries ≡ history.entries
        → All (EndsFor history) passes_back → All (HasMade job start entries) workers
    all_made p history start entries begins is ends k d below =
        let here : k < length back = subst (λ (n : ℕ). k < n) as_many below in
        let one : IsBack job board (get_or passes k p) (get_or back k (nothing_back p)) = one_of k p here in
        let q : TicketPassView = (get_or back k (nothing_back p)).0 in
        let P : Result WorkedView NoMemory → Type 0 = λ r. IfOk r (HasMade job q.start q.seen.entries) in
        let w : WorkedView = get_or workers k d in
        let made : HasMade job q.start q.seen.entries w = subst P (sym (its_worker k p d below)) one.made in
        let end : EndsFor history q = subst (EndsFor history) (its_pass k p here) (ends k p (subst (λ (n : ℕ). k < n) (sym (length-map back (λ (one : BackView). one.0))) here)) in
        let whole : HasMade job q.start history.entries w = made_of_all job q.channel w q.start q.seen history (worker_of k p d below ∙ sym one.channel) end.seen made in
        subst (λ (es : List EntryView). HasMade job start es w) (sym is)
        (subst (λ (s : StartView). HasMade job s history.entries w) (one.own.1 ∙ begins) whole)

-- a channel that no worker is of is none of the start
pub not_there : (job : JobView) (start : StartView) (cs : List ℕ) (c : ℕ) → start ≡ start_of job → cs ≡ channels_of start → among cs c ≡ false → has_channel start c ≡ false
not_there job start cs c begins are off = elim (cases_Bool (has_channel start c)) [
  | inl on ↦
      let numbered : among channel_numbers c ≡ true = start_numbers job c (ap (λ (s : StartView). has_channel s c) (sym begins) ∙ on) in
      no_truth (among cs c) (ap (λ (ds : List ℕ). among ds c) are ∙ among_kept (has_channel start) channel_numbers c ∙ both (among channel_numbers c) (has_channel start c) numbered on) off
  | inr off ↦ off
]
  where
    both : (a b : Bool) → a ≡ true → b ≡ true → (a && b) ≡ true
    both true b on rest = rest
    both false b on rest = no_truth false on refl
