-- A run without a race and another maximal run have the same times of zones.
use Rattle.std.proofs.Common.{◌≡◌, ◌∙◌, ℕ, zero, suc, ◌==◌, List, [], ◌∷◌, ◌++◌, length, map, filter, slice_get, slice_index_or, Option, None, Some, All, inl, refl, sym, ap, subst}
use Rattle.std.proofs.lemmas.List.Elements.{All-head, All-tail}
use Rattle.std.specs.List.{flat_map}
use Rattle.channel_machine.specs.StartStates.{start_of}
use Rattle.job_types.specs.Job.{JobView}
use Rattle.job_types.specs.SoundJob.{IsSoundJob}
use Rattle.job_types.specs.Zones.{zones_in_order}
use Rattle.job_types.specs.declared.job.ZoneLine.{ZoneLine}
use Rattle.order_clocks.specs.Clocked.{IsOrderOf, moves_in}
use Rattle.schedule_laws.proofs.RunLaws.{all_agree}
use Rattle.schedule_laws.specs.Schedules.{IsMaximalOf, IsQuietRun, moves_by}
use Rattle.schedule_laws.specs.Tracked.{tenures_at}
use Rattle.speed_laws.proofs.AlikeEvents.{AreAlikeEvents, events_alike}
use Rattle.speed_laws.proofs.AlikeNames.{overlaps_alike}
use Rattle.speed_laws.proofs.AlikeSpans.{AllAlikeSpans, AllAlikeTold, AreAlikeTold, between_alike, channel_alike, ended_alike, stretch_alike}
use Rattle.speed_laws.proofs.AlikeStates.{clocks_alike, tellings_alike, tenures_alike}
use Rattle.speed_laws.proofs.AlikeTenures.{AllAlikeTenures, AreAlikeTenures, zone_alike}
use Rattle.speed_laws.proofs.RunBoards.{IsRunBoard, run_board_first}
use Rattle.speed_laws.proofs.StartZones.{zones_start}
use Rattle.speed_laws.specs.AlikeRuns.{AllAlike, AllZonesAlike, HaveAlikeZoneTimes, QuietRunsHaveAlikeZoneTimes}
use Rattle.speed_laws.specs.Doings.{Doings}
use Rattle.speed_laws.specs.Histories.{IsRunBy, telling_of}
use Rattle.sync_types.proofs.Replays.{run_is_replay}
use Rattle.sync_types.specs.Boards.{Board, first_board}
use Rattle.sync_types.specs.Runs.{first_stage}
use Rattle.sync_types.specs.Turns.{AreOfRunning, Move}
use Rattle.sync_types.specs.Views.{RunView}
use Rattle.sync_types.specs.declared.Item.{Item}
use Rattle.zone_stretches.specs.Occurrences.{OccurrenceView, occurrences_of}
use Rattle.zone_stretches.specs.Overlaps.{Order}
use Rattle.zone_stretches.specs.SoundStretches.{IsZoneOf}
use Rattle.zone_stretches.specs.Spans.{Span, entry_of_beginning, spans_of}
use Rattle.zone_stretches.specs.Stretches.{StretchView, all_stretches, spans_between, spans_in, stretch_of_span, stretches_held_by, stretches_in_tenure, stretches_of_zone}
use Rattle.zone_stretches.specs.Tenures.{TenureView, tenures_of}

-- ---- lists

module _ (b : Board) (ms ns : List Move) (run other : RunView) where
  abbrev pub AllZonesTold : List (List StretchView) → List (List StretchView) → Type 0
  AllZonesTold [] [] = Unit {0}
  AllZonesTold (left ∷ lefts) (right ∷ rights) = AllAlikeTold b ms ns run other left right × AllZonesTold lefts rights
  AllZonesTold lefts rights = ⊥

  append_alike : (xs ys vs ws : List StretchView) → AllAlikeTold b ms ns run other xs ys → AllAlikeTold b ms ns run other vs ws → AllAlikeTold b ms ns run other (xs ++ vs) (ys ++ ws)
  append_alike [] [] vs ws one two = two
  append_alike [] (y ∷ ys) vs ws one two = absurd one
  append_alike (x ∷ xs) [] vs ws one two = absurd one
  append_alike (x ∷ xs) (y ∷ ys) vs ws one two = (one.0, append_alike xs ys vs ws one.1 two)

  without_ends : (xs ys : List StretchView) → AllAlikeTold b ms ns run other xs ys → AllAlike run other xs ys
  without_ends [] [] are = tt
  without_ends [] (y ∷ ys) are = absurd are
  without_ends (x ∷ xs) [] are = absurd are
  without_ends (x ∷ xs) (y ∷ ys) are = (are.0.alike, without_ends xs ys are.1)

  zones_without : (xss yss : List (List StretchView)) → AllZonesTold xss yss → AllZonesAlike run other xss yss
  zones_without [] [] are = tt
  zones_without [] (ys ∷ yss) are = absurd are
  zones_without (xs ∷ xss) [] are = absurd are
  zones_without (xs ∷ xss) (ys ∷ yss) are = (without_ends xs ys are.0, zones_without xss yss are.1)

  told_at : (xs ys : List StretchView) (k : ℕ) (x y : StretchView) → AllAlikeTold b ms ns run other xs ys → slice_get xs k ≡ Some x → slice_get ys k ≡ Some y → AreAlikeTold b ms ns run other x y
  told_at [] ys k x y are is also = absurd cc
  told_at (v ∷ xs) [] k x y are is also = absurd cc
  told_at (v ∷ xs) (w ∷ ys) zero x y are is also =
      let one : v ≡ x = cc in
      let two : w ≡ y = cc in
      subst (λ (d : StretchView). AreAlikeTold b ms ns run other x d) two (subst (λ (d : StretchView). AreAlikeTold b ms ns run other d w) one are.0)
  told_at (v ∷ xs) (w ∷ ys) (suc k) x y are is also = told_at xs ys k x y are.1 is also

  zone_told_at : (xss yss : List (List StretchView)) (z k : ℕ) (x y : StretchView) → AllZonesTold xss yss
      → slice_get (slice_index_or xss z []) k ≡ Some x → slice_get (slice_index_or yss z []) k ≡ Some y → AreAlikeTold b ms ns run other x y
  zone_told_at [] yss z k x y are is also = absurd cc
  zone_told_at (xs ∷ xss) [] z k x y are is also = absurd are
  zone_told_at (xs ∷ xss) (ys ∷ yss) zero k x y are is also = told_at xs ys k x y are.0 is also
  zone_told_at (xs ∷ xss) (ys ∷ yss) (suc z) k x y are is also = zone_told_at xss yss z k x y are.1 is also

  -- ---- the stretches of a zone

  module _ (job : JobView) (zone : ZoneLine) (spans others : ℕ → List Span) (each : (c : ℕ) → AllAlikeSpans b ms ns run other (spans c) (others c)) where
    mapped_alike : (c : ℕ) (xs ys : List Span) → AllAlikeSpans b ms ns run other xs ys → AllAlikeTold b ms ns run other (map (stretch_of_span job zone c) xs) (map (stretch_of_span job zone c) ys)
    mapped_alike c [] [] are = tt
    mapped_alike c [] (y ∷ ys) are = absurd are
    mapped_alike c (x ∷ xs) [] are = absurd are
    mapped_alike c (x ∷ xs) (y ∷ ys) are = (stretch_alike b ms ns run other job zone (Some c) x y are.0, mapped_alike c xs ys are.1)

    held_alike : (t u : TenureView) (owner : Option ℕ) → AreAlikeTenures b ms ns run other t u → AllAlikeTold b ms ns run other (stretches_held_by job zone spans t owner) (stretches_held_by job zone others u owner)
    held_alike t u None are = (
      stretch_alike b ms ns run other job zone None (record { begins = t.begins; last = t.last; entry = entry_of_beginning t.begins; items = [] })
          (record { begins = u.begins; last = u.last; entry = entry_of_beginning u.begins; items = [] })
          (record { begins = are.begins; last = are.last; items = refl; entry = inl refl }),
      tt,
    )
    held_alike t u (Some c) are =
        mapped_alike c (spans_in (spans c) t) (spans_in (others c) u)
        (ended_alike b ms ns run other t.last u.last (spans_between (spans c) t.from t.upto) (spans_between (others c) u.from u.upto) are.last
        (subst (λ (upto : Option ℕ). AllAlikeSpans b ms ns run other (spans_between (spans c) t.from t.upto) (spans_between (others c) u.from upto)) are.upto
        (subst (λ (from : ℕ). AllAlikeSpans b ms ns run other (spans_between (spans c) t.from t.upto) (spans_between (others c) from t.upto)) are.from
        (between_alike b ms ns run other (spans c) (others c) t.from t.upto (each c)))))

    tenures_told : (ts us : List TenureView) → AllAlikeTenures b ms ns run other ts us
        → AllAlikeTold b ms ns run other (flat_map (stretches_in_tenure job zone spans) ts) (flat_map (stretches_in_tenure job zone others) us)
    tenures_told [] [] are = tt
    tenures_told [] (u ∷ us) are = absurd are
    tenures_told (t ∷ ts) [] are = absurd are
    tenures_told (t ∷ ts) (u ∷ us) are =
        append_alike (stretches_in_tenure job zone spans t) (stretches_in_tenure job zone others u) (flat_map (stretches_in_tenure job zone spans) ts) (flat_map (stretches_in_tenure job zone others) us)
        (subst (λ (owner : Option ℕ). AllAlikeTold b ms ns run other (stretches_in_tenure job zone spans t) (stretches_held_by job zone others u owner)) are.0.owner (held_alike t u t.owner are.0))
        (tenures_told ts us are.1)

  -- ---- the stretches of all zones

  module _ (job : JobView) (zs : IsRunBoard b) (one : AreOfRunning b ms) (two : AreOfRunning b ns)
      (events : (c : ℕ) → AreAlikeEvents b ms ns run.items other.items (filter (λ o. o.channel == c) (occurrences_of b ms)) (filter (λ o. o.channel == c) (occurrences_of b ns)))
      (tenures : (x : ℕ) → tenures_at b ms (length ms) x ≡ tenures_at b ns (length ns) x) where
    zone_told : (zone : ZoneLine) → b.holder zone.zone ≡ zone.holder → IsZoneOf b.start zone
        → AllAlikeTold b ms ns run other (stretches_of_zone job run.items (occurrences_of b ms) zone) (stretches_of_zone job other.items (occurrences_of b ns) zone)
    unfolding stretches_of_zone
    zone_told zone holder there =
        tenures_told job zone (spans_of job run.items (occurrences_of b ms)) (spans_of job other.items (occurrences_of b ns))
        (λ c. channel_alike b ms ns run other job (occurrences_of b ms) (occurrences_of b ns) c (events c))
        (tenures_of job (occurrences_of b ms) zone) (tenures_of job (occurrences_of b ns) zone)
        (zone_alike b ms ns run other events job zone zs holder (λ x. there.axes x) one two tenures)

    zones_told : (zones : List ZoneLine) → All (IsZoneOf b.start) zones → ((zone : ZoneLine) → IsZoneOf b.start zone → b.holder zone.zone ≡ zone.holder)
        → AllZonesTold (map (stretches_of_zone job run.items (occurrences_of b ms)) zones) (map (stretches_of_zone job other.items (occurrences_of b ns)) zones)
    zones_told [] all holder = tt
    zones_told (zone ∷ zones) all holder =
        let there = All-head (IsZoneOf b.start) zone zones all in
        (zone_told zone (holder zone there) there, zones_told zones (All-tail (IsZoneOf b.start) zone zones all) holder)

-- ---- a run without a race

module _ (job : JobView) (doings : Doings) (cs ds : List ℕ) (run other : RunView) (sound : IsSoundJob job) (quiet : IsQuietRun doings.script (start_of job) cs)
    (maximal : IsMaximalOf doings.script (start_of job) ds) (by : IsRunBy job doings cs run) (also : IsRunBy job doings ds other) where
  abbrev board : Board
  board = first_board (start_of job)

  abbrev ms : List Move
  ms = moves_by doings.script (start_of job) cs

  abbrev ns : List Move
  ns = moves_by doings.script (start_of job) ds

  events : (c : ℕ) → AreAlikeEvents board ms ns run.items other.items (filter (λ o. o.channel == c) (occurrences_of board ms)) (filter (λ o. o.channel == c) (occurrences_of board ns))
  events c =
      let one = run_is_replay doings.script (first_stage (start_of job)) cs quiet.maximal.run in
      let two = run_is_replay doings.script (first_stage (start_of job)) ds maximal.run in
      let same = all_agree doings.script (start_of job) cs ds quiet maximal in
      let left : List OccurrenceView = filter (λ o. o.channel == c) (occurrences_of board ms) in
      let right : List OccurrenceView = filter (λ o. o.channel == c) (occurrences_of board ns) in
      events_alike board ms ns run.items other.items (run_board_first (start_of job) quiet.sound) one.running two.running c (λ j x. ap (λ (clock : ℕ → ℕ). clock x) (clocks_alike doings.script (start_of job) cs ds quiet maximal c j))
      (ap (λ (b : Board). b.state c) (one.board ∙ same.board ∙ sym two.board))
      (ap (λ (rows : List (List Item)). map (telling_of rows) left) by.items ∙ tellings_alike doings (start_of job) cs ds quiet maximal c ∙ ap (λ (rows : List (List Item)). map (telling_of rows) right) (sym also.items))

  stretches_told : AllZonesTold board ms ns run other (map (stretches_of_zone job run.items (occurrences_of board ms)) (zones_in_order job)) (map (stretches_of_zone job other.items (occurrences_of board ns)) (zones_in_order job))
  stretches_told =
      let one = run_is_replay doings.script (first_stage (start_of job)) cs quiet.maximal.run in
      let two = run_is_replay doings.script (first_stage (start_of job)) ds maximal.run in
      zones_told board ms ns run other job (run_board_first (start_of job) quiet.sound) one.running two.running events (λ x. tenures_alike doings.script (start_of job) cs ds quiet maximal x)
      (zones_in_order job) (zones_start job sound) (λ zone there. there.holder)

  all_told : AllZonesTold board ms ns run other (all_stretches job (first_board (start_of job)) run).zones (all_stretches job (first_board (start_of job)) other).zones
  unfolding all_stretches
  all_told =
      let left : moves_in run.entries ≡ ms = by.moves in
      let right : moves_in other.entries ≡ ns = also.moves in
      subst (λ (moves : List Move). AllZonesTold board ms ns run other (map (stretches_of_zone job run.items (occurrences_of board (moves_in run.entries))) (zones_in_order job)) (map (stretches_of_zone job other.items (occurrences_of board moves)) (zones_in_order job))) (sym right)
      (subst (λ (moves : List Move). AllZonesTold board ms ns run other (map (stretches_of_zone job run.items (occurrences_of board moves)) (zones_in_order job)) (map (stretches_of_zone job other.items (occurrences_of board ns)) (zones_in_order job))) (sym left)
      stretches_told)

  pub have_alike_times : (before after : Order) → IsOrderOf (first_board (start_of job)) (moves_in run.entries) before → IsOrderOf (first_board (start_of job)) (moves_in other.entries) after
      → HaveAlikeZoneTimes job before after run other
  have_alike_times before after order later =
      let xss = (all_stretches job (first_board (start_of job)) run).zones in
      let yss = (all_stretches job (first_board (start_of job)) other).zones in
      let left : IsOrderOf board ms before = subst (λ (moves : List Move). IsOrderOf board moves before) by.moves order in
      let right : IsOrderOf board ns after = subst (λ (moves : List Move). IsOrderOf board moves after) also.moves later in
      record {
        zones = zones_without board ms ns run other xss yss all_told;
        overlaps = λ z k y j one two same_one same_two here there same_here same_there.
            let first = zone_told_at board ms ns run other xss yss z k one same_one all_told here same_here in
            let second = zone_told_at board ms ns run other xss yss y j two same_two all_told there same_there in
            overlaps_alike board ms ns before after left right one two same_one same_two first.first first.last second.first second.last;
      }

pub quiet_runs_have_the_same_zone_times : (job : JobView) (doings : Doings) (cs ds : List ℕ) (run other : RunView) (before after : Order) → QuietRunsHaveAlikeZoneTimes job doings cs ds run other before after
quiet_runs_have_the_same_zone_times job doings cs ds run other before after sound quiet maximal by also order later =
    have_alike_times job doings cs ds run other sound quiet maximal by also before after order later
