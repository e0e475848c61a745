-- Repetitions that blocks begin, and what runs after a block.
use Rattle.std.proofs.Common.{◌≡◌, ℕ, zero, suc, ◌+◌, ◌-◌, ◌<◌, ◌≤◌, ◌==◌, nat_lt, nat_le, not, Bool, true, false, cond, List, [], ◌∷◌, length, reverse, refl, sym, ap, ◌∙◌, subst, arith, All, Option, Some, None, Result, Ok, Err}
use Rattle.std.specs.Prelude.{find, filter, slice_get, option_map}
use Rattle.std.specs.Option.{option_map_or}
use Rattle.std.proofs.lemmas.Bool.Decides.{nat_tests}
use Rattle.std.proofs.lemmas.Option.{slice_get-map}
use Rattle.std.proofs.lemmas.List.Elements.{All-cons, All-filter}
use Rattle.nc_blocks.specs.declared.blocks.Way.{Way}
use Rattle.nc_blocks.specs.declared.blocks.Way.TheVariants.{Optional}
use Rattle.nc_blocks.specs.declared.blocks.Block.{Block}
use Rattle.nc_blocks.specs.Statement.{view_of, BlockView, Statement, If, Else, While, EndWhile, Until, EndLoop, For, EndFor, RepeatFrom, RepeatBlock}
use Rattle.nc_control_flow.specs.declared.flow.Move.{Move}
use Rattle.nc_control_flow.specs.declared.flow.Move.TheVariants.{Onward, Leap, Start}
use Rattle.nc_control_flow.specs.declared.repeats.Running.{Running}
use Rattle.nc_control_flow.specs.declared.repeats.Control.TheVariants.{Done, Comes}
use Rattle.nc_control_flow.specs.Counted.{counts, counts_at, is_skipped, going_to_counted, up_to_counting, next_going, plain_from, end_of, RepeatCounts, CountRepeats, MoveStarts}
use Rattle.nc_control_flow.specs.Flow.{going_by_move, going_or_alarm, next_block}
use Rattle.nc_control_flow.specs.Index.{places_by}
use Rattle.nc_control_flow.specs.Moves.{OutcomeView, Plain, Truth, Jump, Again, Skipped, plain_move, choice, onward_if, leap_if, jump, range, single, repetition, move_of}
use Rattle.nc_control_flow.specs.Parts.{statement_at, views}
use Rattle.nc_control_flow.specs.Places.{with_places}
use Rattle.nc_control_flow.specs.Repetitions.{Going, is_within, going_after_passes, after_block}
use Rattle.nc_control_flow.specs.Structures.{closing, branching, opening}
use Rattle.nc_control_flow.specs.Targets.{has_label, target_of, first_of_range, single_block}
use Rattle.nc_control_flow.proofs.Counting.{settled_counts, counted_counts, counted_ends, idle_passes}
use Rattle.nc_control_flow.proofs.Indexed.{nearest_before_is}

-- ---- what is found passes

found_passes : {X : Type 0} (p : X → Bool) (xs : List X) (x : X) → find p xs ≡ Some x → p x ≡ true
found_passes p [] x e = absurd (cc)
found_passes {X} p (y ∷ ys) x e = by_test (found_passes p ys x) (p y) refl
  where
    by_test : (find p ys ≡ Some x → p x ≡ true) → (t : Bool) → p y ≡ t → p x ≡ true
    by_test rest true t = let same : y ≡ x = let here : Some y ≡ Some x = sym (ap (λ b. cond b (Some y) (find p ys)) t) ∙ e in cc in ap p (sym same) ∙ t
    by_test rest false t = rest (sym (ap (λ b. cond b (Some y) (find p ys)) t) ∙ e)

-- the label of a REPEAT stands before it
first_before : (name : List ℕ) (pc : ℕ) (blocks : List BlockView) (first : ℕ) → first_of_range name pc blocks ≡ Some first → first < pc
unfolding first_of_range
first_before name pc blocks first e =
    let test : nat_lt first pc ≡ true =
    found_passes (λ p. nat_lt p pc) (reverse (places_by (has_label name) (with_places blocks))) first (nearest_before_is (has_label name) pc blocks ∙ e) in
    grind (arith, nat_tests)

-- ---- what a block asks for

-- where it is no alarm
abbrev Starts : ℕ → Result Move ℕ → Type 0
Starts pc (Ok move) = MoveStarts pc move
Starts pc (Err code) = Unit {0}

jump_starts : (pc : ℕ) (way : Way) (o : Option ℕ) → Starts pc (jump way o)
jump_starts pc way (Some place) = tt
jump_starts pc Optional None = tt
jump_starts pc way None = tt

range_starts : (pc times : ℕ) (o : Option ℕ) → ((first : ℕ) → o ≡ Some first → first < pc) → Starts pc (range pc times o)
range_starts pc times None before = tt
range_starts pc times (Some first) before = by_times (times == 0)
  where
    by_times : (b : Bool) → Starts pc (cond b (Ok Onward) (Ok (Start (record { single = false; first = first; last = pc; own = pc; left = times - 1 }))))
    by_times true = tt
    by_times false = (refl, before first refl)

single_starts : (pc times : ℕ) (o : Option ℕ) → Starts pc (single pc times o)
single_starts pc times None = tt
single_starts pc times (Some first) = by_times (times == 0)
  where
    by_times : (b : Bool) → Starts pc (cond b (Ok Onward) (Ok (Start (record { single = true; first = first; last = first; own = pc; left = times - 1 }))))
    by_times true = tt
    by_times false = (refl, omega arith)

repetition_starts : (pc : ℕ) (blocks : List BlockView) (statement : Statement) (times : ℕ) → Starts pc (repetition pc blocks statement times)
unfolding repetition
repetition_starts pc blocks (RepeatFrom name count) times = range_starts pc times (first_of_range name pc blocks) (first_before name pc blocks)
repetition_starts pc blocks (RepeatBlock name count) times = single_starts pc times (single_block name pc blocks)
repetition_starts pc blocks other times = tt

onward_starts : (pc place : ℕ) (holds : Bool) → MoveStarts pc (onward_if holds place)
onward_starts pc place true = tt
onward_starts pc place false = tt

leap_starts : (pc place : ℕ) (holds : Bool) → MoveStarts pc (leap_if holds place)
leap_starts pc place true = tt
leap_starts pc place false = tt

plain_starts : (pc : ℕ) (blocks : List BlockView) (statement : Statement) → MoveStarts pc (plain_move pc blocks statement)
unfolding plain_move
plain_starts pc blocks Else = tt
plain_starts pc blocks EndWhile = tt
plain_starts pc blocks EndLoop = tt
plain_starts pc blocks other = tt

choice_starts : (pc : ℕ) (blocks : List BlockView) (statement : Statement) (holds : Bool) → MoveStarts pc (choice pc blocks statement holds)
unfolding choice
choice_starts pc blocks (If c) holds = onward_starts pc (branching pc blocks + 1) holds
choice_starts pc blocks (While c) holds = onward_starts pc (closing pc blocks + 1) holds
choice_starts pc blocks (For i a b) holds = onward_starts pc (closing pc blocks + 1) holds
choice_starts pc blocks (Until c) holds = onward_starts pc (opening pc blocks + 1) holds
choice_starts pc blocks EndFor holds = leap_starts pc (opening pc blocks + 1) holds
choice_starts pc blocks other holds = tt

move_starts : (pc : ℕ) (blocks : List BlockView) (statement : Statement) (outcome : OutcomeView) → Starts pc (move_of pc blocks statement outcome)
unfolding move_of
move_starts pc blocks statement Plain = plain_starts pc blocks statement
move_starts pc blocks statement (Truth holds) = choice_starts pc blocks statement holds
move_starts pc blocks statement (Jump way target) = jump_starts pc way (target_of way target pc blocks)
move_starts pc blocks statement (Again times) = repetition_starts pc blocks statement times
move_starts pc blocks statement Skipped = tt

pub asked_starts : (pc : ℕ) (blocks : List BlockView) (statement : Statement) (outcome : OutcomeView) (r : Result Move ℕ) (move : Move)
    → r ≡ move_of pc blocks statement outcome → r ≡ Ok move → MoveStarts pc move
asked_starts pc blocks statement outcome r move a e = subst (Starts pc) (sym a ∙ e) (move_starts pc blocks statement outcome)

-- ---- what runs after a block

-- a block without `/` stands there
pub plain_own : (blocks : List BlockView) (pc : ℕ) → counts_at true blocks pc ≡ true → is_skipped (slice_get blocks pc) ≡ false
plain_own blocks pc e = by_block (slice_get blocks pc) e
  where
    by_skip : (b : Bool) → not b ≡ true → b ≡ false
    by_skip true n = absurd cc
    by_skip false n = refl

    by_block : (o : Option BlockView) → option_map_or (counts true) o false ≡ true → is_skipped o ≡ false
    by_block None n = refl
    by_block (Some block) n = by_skip block.skip n

pub counts_within : (skip : Bool) (blocks : List BlockView) (pc : ℕ) → counts_at skip blocks pc ≡ true → pc < length blocks
counts_within skip [] zero e = absurd cc
counts_within skip [] (suc pc) e = absurd cc
counts_within skip (b ∷ bs) zero e = omega arith
counts_within skip (b ∷ bs) (suc pc) e = let rest = counts_within skip bs pc e in omega (arith, rest)

-- a repetition that begins
pub begun_counts : (blocks : List BlockView) (pc : ℕ) (r : Running) (rs : List Running) → counts_at true blocks pc ≡ true → r.own ≡ pc
    → plain_from blocks r.first < end_of r → All (RepeatCounts blocks) rs → All (RepeatCounts blocks) (r ∷ rs)
begun_counts blocks pc r rs here own some all =
    All-cons (RepeatCounts blocks) r rs (record { own = ap (λ n. is_skipped (slice_get blocks n)) own ∙ plain_own blocks pc here; some = some }) all

module _ (blocks : List BlockView) (pc : ℕ) (rs : List Running) (here : counts_at true blocks pc ≡ true) (all : All (RepeatCounts blocks) rs) where
  abbrev Kept : Result Going ℕ → Type 0
  Kept (Ok g) = All (RepeatCounts blocks) (going_to_counted true blocks g).running
  Kept (Err code) = Unit {0}

  start_kept : (r : Running) → MoveStarts pc (Start r) → (b : Bool) → nat_lt (plain_from blocks r.first) (end_of r) ≡ b → All (RepeatCounts blocks) (going_to_counted true blocks (going_after_passes (Comes r.first) (r ∷ rs))).running
  start_kept r starts true t =
      counted_counts blocks (going_after_passes (Comes r.first) (r ∷ rs)) (settled_counts blocks (Comes r.first) (r ∷ rs) (begun_counts blocks pc r rs here starts.0 (grind (arith, nat_tests)) all))
  start_kept r starts false t =
      let idle : end_of r ≤ plain_from blocks r.first = grind (arith, nat_tests) in
      subst (λ (g : Going). All (RepeatCounts blocks) g.running) (sym (idle_passes blocks rs all r starts.1 idle))
      (counted_counts blocks (going_after_passes (Done r.own) rs) (settled_counts blocks (Done r.own) rs all))

  going_kept : (move : Move) → MoveStarts pc move → Kept (going_by_move pc rs move)
  unfolding going_by_move
  going_kept Onward starts = counted_counts blocks (going_after_passes (Done pc) rs) (settled_counts blocks (Done pc) rs all)
  going_kept (Leap place) starts =
      counted_counts blocks (going_after_passes (Comes place) (filter (is_within place) rs)) (settled_counts blocks (Comes place) (filter (is_within place) rs) (All-filter (is_within place) (RepeatCounts blocks) rs all))
  going_kept (Start r) starts = by_room (length rs == 16)
    where
      by_room : (b : Bool) → Kept (cond b (Err 32) (Ok (going_after_passes (Comes r.first) (r ∷ rs))))
      by_room true = tt
      by_room false = start_kept r starts (nat_lt (plain_from blocks r.first) (end_of r)) refl

  gone_kept : (m : Result Move ℕ) → Starts pc m → Kept (going_or_alarm pc rs m)
  gone_kept (Ok move) starts = going_kept move starts
  gone_kept (Err code) starts = tt

  next_kept : (outcome : OutcomeView) → Kept (next_block pc blocks rs outcome)
  unfolding next_block
  next_kept outcome = gone_kept (move_of pc blocks (statement_at pc blocks) outcome) (move_starts pc blocks (statement_at pc blocks) outcome)

-- where control goes on, each repetition that runs repeats a block that counts
pub next_counts : (skip : Bool) (pc : ℕ) (blocks : List BlockView) (rs : List Running) (outcome : OutcomeView) (g : Going) → counts_at skip blocks pc ≡ true
    → CountRepeats skip blocks rs → next_going skip pc blocks rs outcome ≡ Ok g → CountRepeats skip blocks g.running
next_counts false pc blocks rs outcome g here all e = tt
next_counts true pc blocks rs outcome g here all e = by_result (next_block pc blocks rs outcome) refl
  where
    by_result : (r : Result Going ℕ) → next_block pc blocks rs outcome ≡ r → All (RepeatCounts blocks) g.running
    by_result (Ok to) n =
        let same : going_to_counted true blocks to ≡ g = let is : Ok (going_to_counted true blocks to) ≡ Ok g = sym (ap (up_to_counting true blocks) n) ∙ e in cc in
        subst (λ (h : Going). All (RepeatCounts blocks) h.running) same (subst (Kept blocks pc rs here all) n (next_kept blocks pc rs here all outcome))
    by_result (Err code) n = absurd (let is : Err code ≡ Ok g = sym (ap (up_to_counting true blocks) n) ∙ e in cc)

any_counts : (blocks : List BlockView) (place : ℕ) → place < length blocks → counts_at false blocks place ≡ true
any_counts [] place h = absurd (omega arith)
any_counts (b ∷ bs) zero h = refl
any_counts (b ∷ bs) (suc place) h = any_counts bs place (omega arith)

plain_counts : (blocks : List BlockView) (place : ℕ) → place < length blocks → is_skipped (slice_get blocks place) ≡ false → counts_at true blocks place ≡ true
plain_counts [] place h e = absurd (omega arith)
plain_counts (b ∷ bs) zero h e = ap not e
plain_counts (b ∷ bs) (suc place) h e = plain_counts bs place (omega arith) e

pub after_counts : (skip : Bool) (blocks : List BlockView) (pc : ℕ) (rs : List Running) → CountRepeats skip blocks rs → CountRepeats skip blocks (going_to_counted skip blocks (after_block pc rs)).running
after_counts false blocks pc rs all = tt
after_counts true blocks pc rs all = counted_counts blocks (going_after_passes (Done pc) rs) (settled_counts blocks (Done pc) rs all)

-- the block at which control rests counts
pub rests_at : (skip : Bool) (blocks : List BlockView) (g : Going) → (going_to_counted skip blocks g).place < length blocks → counts_at skip blocks (going_to_counted skip blocks g).place ≡ true
unfolding going_to_counted
rests_at false blocks g h = any_counts blocks g.place h
rests_at true blocks g h = plain_counts blocks (going_to_counted true blocks g).place h (counted_ends blocks g)

-- ---- answers of the code

-- where nothing is passed over
pub none_over : (blocks : List BlockView) (r : Result Going ℕ) → up_to_counting false blocks r ≡ r
unfolding going_to_counted
none_over blocks (Ok going_by_move) = refl
none_over blocks (Err code) = refl

-- a repetition of blocks with `/` alone is passed over
pub idle_leads : (blocks : List BlockView) (pc : ℕ) (rs : List Running) (asked : Move) (r : Running) (full idle : Bool) → asked ≡ Start r → MoveStarts pc asked → All (RepeatCounts blocks) rs
    → full ≡ (length rs == 16) → full ≡ false → idle ≡ nat_le (end_of r) (plain_from blocks r.first) → idle ≡ true
    → up_to_counting true blocks (going_by_move pc rs asked) ≡ Ok (going_to_counted true blocks (going_after_passes (Done pc) rs))
unfolding going_by_move
idle_leads blocks pc rs asked r full idle is starts all f not_full i is_idle =
    let own = subst (MoveStarts pc) is starts in
    let room : (length rs == 16) ≡ false = sym f ∙ not_full in
    let test : nat_le (end_of r) (plain_from blocks r.first) ≡ true = sym i ∙ is_idle in
    let passes : going_to_counted true blocks (going_after_passes (Comes r.first) (r ∷ rs)) ≡ going_to_counted true blocks (going_after_passes (Done pc) rs) =
    idle_passes blocks rs all r own.1 (grind (arith, nat_tests)) ∙ ap (λ (n : ℕ). going_to_counted true blocks (going_after_passes (Done n) rs)) own.0 in
    rw (is, room) (ap (λ (g : Going). Ok g) passes)

-- a block without `/` counts
pub counts_here : (blocks : List (ℕ × Block)) (pc : ℕ) (e : ℕ × Block) → slice_get blocks pc ≡ Some e → e.1.skip ≡ false → counts_at true (views blocks) pc ≡ true
counts_here blocks pc e is plain =
    ap (λ (o : Option BlockView). option_map_or (counts true) o false) (slice_get-map (λ (x : ℕ × Block). view_of x.1) blocks pc ∙ ap (option_map (λ (x : ℕ × Block). view_of x.1)) is)
    ∙ ap not plain
