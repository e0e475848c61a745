-- The stretches of another zone that may overlap one are all that count.
use Rattle.std.proofs.Common.{◌≡◌, ◌∙◌, ℕ, zero, suc, ◌+◌, ◌==◌, Bool, true, false, cond, List, [], ◌∷◌, length, drop, take, get_or, map, Option, None, All, refl, sym, ap, subst, zero-add}
use Rattle.std.specs.List.{sum_by, zip}
use Rattle.std.specs.Option.{option_or}
use Rattle.std.proofs.lemmas.List.Elements.{All-nil, All-cons, All-head, All-tail}
use Rattle.std.proofs.lemmas.List.Sums.{sum_by-cons}
use Rattle.clash_check.specs.FirstAnswer.{first_some}
use Rattle.clash_check.specs.Meetings.{Names, first_against, first_in_stretches}
use Rattle.clash_check.specs.PairCounts.{count_against, count_in_stretches}
use Rattle.job_types.specs.Job.{JobView}
use Rattle.job_types.specs.Zones.{zones_in_order}
use Rattle.job_types.specs.declared.job.ZoneLine.{ZoneLine}
use Rattle.order_clocks.specs.Clocked.{ClocksView, moves_in}
use Rattle.order_clocks.specs.Tells.{is_before_in}
use Rattle.sync_types.specs.Boards.{Board, first_board}
use Rattle.sync_types.specs.Views.{RunView}
use Rattle.zone_stretches.proofs.ChainLaws.{part_is}
use Rattle.zone_stretches.proofs.NameLaws.{ends_are_lowest_names}
use Rattle.zone_stretches.proofs.NearLaws.{apart_early, apart_late}
use Rattle.zone_stretches.specs.Ascents.{leading, PassFirst, passes, near, IsTimed}
use Rattle.zone_stretches.specs.Cases.{Case}
use Rattle.zone_stretches.specs.Overlaps.{Order, ZoneTime, may_overlap, zone_times}
use Rattle.zone_stretches.specs.SoundStretches.{HasLowNames}
use Rattle.zone_stretches.specs.Stretches.{StretchView, StretchesView, all_stretches}
use Rattle.zone_stretches.specs.Told.{IsTold}

-- ---- counts

counts_none : (before : Order) (own other : StretchView) → may_overlap before own other ≡ false → count_in_stretches before own other ≡ 0
unfolding count_in_stretches
counts_none before own other apart = rw apart (by_empty (length other.boxes == 0))
  where
    by_empty : (e : Bool) → cond {A = ℕ} e 0 0 ≡ 0
    by_empty true = refl
    by_empty false = refl

pub sum_skips : (before : Order) (own other : StretchView) (others : List StretchView) → may_overlap before own other ≡ false
    → sum_by (count_in_stretches before own) (other ∷ others) ≡ sum_by (count_in_stretches before own) others
sum_skips before own other others apart =
    sum_by-cons (count_in_stretches before own) other others ∙ ap (λ (n : ℕ). n + sum_by (count_in_stretches before own) others) (counts_none before own other apart)
    ∙ zero-add (sum_by (count_in_stretches before own) others)

sum_same : (f : StretchView → ℕ) (x : StretchView) (xs ys : List StretchView) → sum_by f xs ≡ sum_by f ys → sum_by f (x ∷ xs) ≡ sum_by f (x ∷ ys)
sum_same f x xs ys same = sum_by-cons f x xs ∙ ap (λ (n : ℕ). f x + n) same ∙ sym (sum_by-cons f x ys)

pub near_count : (before : Order) (own : StretchView) (others : List StretchView) → PassFirst (passes before false own) others → count_against before (near before own others) own ≡ count_against before others own
unfolding count_against
near_count before own others first =
    ap (λ (n : ℕ). cond (length own.boxes == 0) 0 n)
    (part_is (sum_by (count_in_stretches before own)) (passes before true own) (passes before false own) (sum_same (count_in_stretches before own))
    (λ x xs over. sum_skips before own x xs (apart_early before own x over)) (λ x xs over. sum_skips before own x xs (apart_late before own x over)) others first)

pub count_of_part : (before : Order) (own : StretchView) (others part : List StretchView) (from upto : ℕ) → PassFirst (passes before false own) others
    → from ≡ leading (passes before true own) others → upto ≡ leading (passes before false own) others → part ≡ drop from (take upto others) → count_against before part own ≡ count_against before others own
count_of_part before own others part from upto first from_is upto_is part_is =
    ap (λ (xs : List StretchView). count_against before xs own) (part_is ∙ ap (λ (n : ℕ). drop n (take upto others)) from_is ∙ ap (λ (n : ℕ). drop (leading (passes before true own) others) (take n others)) upto_is)
    ∙ near_count before own others first

-- ---- first answers

gives_none : (case : Case) (zone : ZoneLine) (own : StretchView) (later : ZoneLine) (other : StretchView) → may_overlap case.before own other ≡ false → first_in_stretches case zone own later other ≡ None
unfolding first_in_stretches
gives_none case zone own later other apart = rw apart (by_empty (length other.boxes == 0))
  where
    by_empty : (e : Bool) → cond {A = Option Names} e None None ≡ None
    by_empty true = refl
    by_empty false = refl

pub near_first : (case : Case) (zone : ZoneLine) (own : StretchView) (two : ZoneTime) → PassFirst (passes case.before false own) two.stretches
    → first_against case zone (record { zone = two.zone; stretches = near case.before own two.stretches }) own ≡ first_against case zone two own
unfolding first_against
near_first case zone own two first =
    let given : StretchView → Option Names = first_in_stretches case zone own two.zone in
    ap (λ (r : Option Names). cond (length own.boxes == 0) None r)
    (part_is (first_some given) (passes case.before true own) (passes case.before false own)
    (λ x xs ys same. ap (λ (r : Option Names). option_or (given x) r) same)
    (λ x xs over. ap (λ (r : Option Names). option_or r (first_some given xs)) (gives_none case zone own two.zone x (apart_early case.before own x over)))
    (λ x xs over. ap (λ (r : Option Names). option_or r (first_some given xs)) (gives_none case zone own two.zone x (apart_late case.before own x over))) two.stretches first)

pub first_of_part : (case : Case) (zone : ZoneLine) (own : StretchView) (later : ZoneLine) (others part : List StretchView) (from upto : ℕ) → PassFirst (passes case.before false own) others
    → from ≡ leading (passes case.before true own) others → upto ≡ leading (passes case.before false own) others → part ≡ drop from (take upto others)
    → first_against case zone (record { zone = later; stretches = part }) own ≡ first_against case zone (record { zone = later; stretches = others }) own
first_of_part case zone own later others part from upto first from_is upto_is part_is =
    ap (λ (xs : List StretchView). first_against case zone (record { zone = later; stretches = xs }) own)
    (part_is ∙ ap (λ (n : ℕ). drop n (take upto others)) from_is ∙ ap (λ (n : ℕ). drop (leading (passes case.before true own) others) (take n others)) upto_is)
    ∙ near_first case zone own (record { zone = later; stretches = others }) first

-- ---- the stretches of all zones

of_each_zone : (P : StretchView → Type 0) (f : ZoneLine → List StretchView) (zones : List ZoneLine)
    → All (λ (time : ZoneTime). All P time.stretches) (map (λ p. record { zone = p.0; stretches = p.1 }) (zip zones (map f zones))) → All (All P) (map f zones)
of_each_zone P f [] all = All-nil (All P)
of_each_zone P f (zone ∷ zones) all =
    All-cons (All P) (f zone) (map f zones) (All-head (λ (time : ZoneTime). All P time.stretches) _ _ all) (of_each_zone P f zones (All-tail (λ (time : ZoneTime). All P time.stretches) _ _ all))

low_lists : (job : JobView) (b : Board) (run : RunView) → All (All (HasLowNames b (moves_in run.entries))) (all_stretches job b run).zones
unfolding all_stretches zone_times
low_lists job b run = of_each_zone (HasLowNames b (moves_in run.entries)) _ (zones_in_order job) (ends_are_lowest_names job b run)

pub timed_by : (job : JobView) (run : RunView) (stretches : StretchesView) (clocks : ClocksView) → IsTold job run stretches clocks → IsTimed (is_before_in clocks.rows) stretches.zones
timed_by job run stretches clocks told = record {
  board = first_board told.start;
  moves = moves_in run.entries;
  order = told.order;
  names = subst (λ (s : StretchesView). All (All (HasLowNames (first_board told.start) (moves_in run.entries))) s.zones) (sym told.told) (low_lists job (first_board told.start) run);
}

-- those of two zones
of_place : (P : StretchView → Type 0) (lists : List (List StretchView)) (place : ℕ) → All (All P) lists → All P (get_or lists place [])
of_place P [] place all = All-nil P
of_place P (stretches ∷ lists) zero all = All-head (All P) stretches lists all
of_place P (stretches ∷ lists) (suc place) all = of_place P lists place (All-tail (All P) stretches lists all)

pub timed_pair : (before : Order) (lists : List (List StretchView)) (left right : ℕ) (own others : List StretchView) → own ≡ get_or lists left [] → others ≡ get_or lists right []
    → IsTimed before lists → IsTimed before (own ∷ (others ∷ []))
timed_pair before lists left right own others own_is others_is timed =
    let Low : StretchView → Type 0 = HasLowNames timed.board timed.moves in
    record {
      board = timed.board;
      moves = timed.moves;
      order = timed.order;
      names = All-cons (All Low) own (others ∷ []) (subst (All Low) (sym own_is) (of_place Low lists left timed.names))
          (All-cons (All Low) others [] (subst (All Low) (sym others_is) (of_place Low lists right timed.names)) (All-nil (All Low)));
    }
