-- Blocks with `/` that are passed over, one by one and at once.
use Rattle.std.proofs.Common.{◌≡◌, ℕ, zero, suc, ◌+◌, ◌-◌, ◌*◌, ◌<◌, ◌≤◌, ◌==◌, ◌&&◌, nat_lt, not, Bool, true, false, cond, List, [], ◌∷◌, length, get_or, drop, refl, sym, ap, ◌∙◌, subst, arith, All, Option, Some, None}
use Rattle.std.specs.Prelude.{position, slice_get, option_map, option_and_then}
use Rattle.std.specs.List.{prefix_len}
use Rattle.std.specs.Option.{option_or}
use Rattle.std.proofs.Math.Nat.{mul-le-mul_right}
use Rattle.std.proofs.lemmas.Bool.Decides.{nat_tests}
use Rattle.std.proofs.lemmas.List.{length-drop, get_or-drop}
use Rattle.std.proofs.lemmas.List.Elements.{All-cons, All-weaker}
use Rattle.std.proofs.lemmas.List.Quantifiers.{position-Some}
use Rattle.std.proofs.lemmas.List.Sums.{prefix_len_passes, prefix_len_stops, prefix_len-le-length}
use Rattle.std.proofs.lemmas.Option.{slice_get-get_or, slice_get_past}
use Rattle.nc_blocks.specs.Statement.{BlockView, Empty}
use Rattle.nc_control_flow.specs.declared.repeats.Running.{Running}
use Rattle.nc_control_flow.specs.declared.repeats.Control.{Control}
use Rattle.nc_control_flow.specs.declared.repeats.Control.TheVariants.{Done, Comes}
use Rattle.nc_control_flow.specs.Repetitions.{Level, Going, is_over, turned_at, turn, hop, times, going_after_passes, after_block}
use Rattle.nc_control_flow.specs.Counted.{is_skipped, going_past_skipped, after_over, going_after, skipped_bound, going_to_counted, plain_from, end_of, RepeatCounts}
use Rattle.nc_control_flow.proofs.Turning.{all_settled, settled_takes, settled_none, settled_some, settled_same, hop_comes}

-- ---- blocks by place

no_block : BlockView
no_block = record { skip = false; number = None; label = None; statement = Empty }

module _ (blocks : List BlockView) where
  skip_at : (i : ℕ) → i < length blocks → is_skipped (slice_get blocks i) ≡ (get_or blocks i no_block).skip
  skip_at i h = ap is_skipped (slice_get-get_or blocks i no_block h)

  pub not_past : (i : ℕ) → length blocks ≤ i → is_skipped (slice_get blocks i) ≡ false
  not_past i h = ap is_skipped (slice_get_past blocks i h)

  pub within : (i : ℕ) → is_skipped (slice_get blocks i) ≡ true → i < length blocks
  within i e = by_test (nat_lt i (length blocks)) refl
    where
      by_test : (t : Bool) → nat_lt i (length blocks) ≡ t → i < length blocks
      by_test true t = grind (arith, nat_tests)
      by_test false t = let past : length blocks ≤ i = grind (arith, nat_tests) in absurd (let never : false ≡ true = sym (not_past i past) ∙ e in cc)

-- ---- the nearest block without `/`

module _ (blocks : List BlockView) (place : ℕ) where
  skip : BlockView → Bool
  skip block = block.skip

  run : ℕ
  run = prefix_len (λ (block : BlockView). block.skip) (drop place blocks)

  run_within : run ≤ length blocks - place
  unfolding run
  run_within = let le = prefix_len-le-length (λ (block : BlockView). block.skip) (drop place blocks) in omega (arith, le, length-drop place blocks)

  plain_is : plain_from blocks place ≡ place + run
  unfolding plain_from run
  plain_is = refl

  pub plain_after : place ≤ plain_from blocks place
  plain_after = let is = plain_is in omega (arith, is)

  pub plain_within : place ≤ length blocks → plain_from blocks place ≤ length blocks
  plain_within h = let is = plain_is in omega (arith, is, run_within)

  -- the blocks before it have a `/`
  pub plain_skips : (i : ℕ) → place ≤ i → i < plain_from blocks place → is_skipped (slice_get blocks i) ≡ true
  unfolding run
  plain_skips i low high =
      let is = plain_is in
      let k : i - place < run = omega (arith, is) in
      let there : place + (i - place) ≡ i = omega arith in
      let inside : i < length blocks = omega (arith, k, run_within) in
      skip_at blocks i inside ∙ ap (λ n. (get_or blocks n no_block).skip) (sym there)
      ∙ ap (λ (b : BlockView). b.skip) (sym (get_or-drop place blocks (i - place) no_block)) ∙ prefix_len_passes (λ (block : BlockView). block.skip) (drop place blocks) (i - place) no_block k

  -- it has none
  pub plain_stops : is_skipped (slice_get blocks (plain_from blocks place)) ≡ false
  unfolding run
  plain_stops = by_test (nat_lt run (length (drop place blocks))) refl
    where
      stops : run < length (drop place blocks) → is_skipped (slice_get blocks (place + run)) ≡ false
      stops h =
          let inside : place + run < length blocks = omega (arith, length-drop place blocks) in
          skip_at blocks (place + run) inside ∙ ap (λ (b : BlockView). b.skip) (sym (get_or-drop place blocks run no_block))
          ∙ prefix_len_stops (λ (block : BlockView). block.skip) (drop place blocks) no_block h

      by_test : (t : Bool) → nat_lt run (length (drop place blocks)) ≡ t → is_skipped (slice_get blocks (plain_from blocks place)) ≡ false
      by_test true t = let h : run < length (drop place blocks) = grind (arith, nat_tests) in ap (λ n. is_skipped (slice_get blocks n)) plain_is ∙ stops h
      by_test false t =
          let h : length (drop place blocks) ≤ run = grind (arith, nat_tests) in
          let is = plain_is in not_past blocks (plain_from blocks place) (omega (arith, is, length-drop place blocks))

  pub plain_here : place ≡ plain_from blocks place → is_skipped (slice_get blocks place) ≡ false
  plain_here e = ap (λ n. is_skipped (slice_get blocks n)) e ∙ plain_stops

  pub plain_past : length blocks ≤ place → plain_from blocks place ≡ place
  plain_past h = let is = plain_is in omega (arith, is, run_within)

-- ---- one by one

module _ (blocks : List BlockView) where
  -- the way gets shorter
  pub shorter : (a b n p q : ℕ) → a < b → a * (n + 1) + (n - p) < b * (n + 1) + q
  shorter a b n p q h =
      let more : (a + 1) * (n + 1) ≤ b * (n + 1) = mul-le-mul_right (n + 1) (omega arith) in
      let split : (a + 1) * (n + 1) ≡ a * (n + 1) + (n + 1) = omega arith in
      omega (arith, more, split)

  pub over_nearer : (going : Going) → is_skipped (slice_get blocks going.place) ≡ true → skipped_bound blocks (going_after_passes (Done going.place) going.running) < skipped_bound blocks going
  over_nearer going e = by_hop (hop (Done going.place) going.running) refl
    where
      here : going.place < length blocks
      here = within blocks going.place e

      by_hop : (o : Option Level) → hop (Done going.place) going.running ≡ o → skipped_bound blocks (going_after_passes (Done going.place) going.running) < skipped_bound blocks going
      by_hop None h = rw (settled_none (Done going.place) going.running h) (omega (arith, here))
      by_hop (Some level) h =
          let turned = settled_some (Done going.place) level.control going.running level.running h in
          let takes = settled_takes level.control level.running in
          rw (sym turned.0) (shorter (times (going_after_passes level.control level.running).running) (times going.running) (length blocks) (going_after_passes level.control level.running).place (length blocks - going.place) (omega (arith, turned.1, takes)))

  over_is : (going : Going) (t : Bool) → is_skipped (slice_get blocks going.place) ≡ t → going_past_skipped blocks going ≡ cond t (Some (after_block going.place going.running)) None
  over_is going t e = ap (λ b. cond b (Some (after_block going.place going.running)) None) e

  step_is : (n : ℕ) (going : Going) (o : Option Going) → going_past_skipped blocks going ≡ o → going_after (suc n) blocks going ≡ after_over going o (λ next. going_after n blocks next)
  step_is n going o e = ap (λ (x : Option Going). after_over going x (λ next. going_after n blocks next)) e

  -- any fuel that is enough walks as far
  same_walk : (n m : ℕ) (going : Going) → skipped_bound blocks going ≤ n → skipped_bound blocks going ≤ m → going_after n blocks going ≡ going_after m blocks going
  same_walk zero zero going a b = refl
  same_walk zero (suc m) going a b = by_test (is_skipped (slice_get blocks going.place)) refl
    where
      by_test : (t : Bool) → is_skipped (slice_get blocks going.place) ≡ t → going ≡ going_after (suc m) blocks going
      by_test true e = absurd (let nearer = over_nearer going e in omega (arith, nearer, a))
      by_test false e = sym (step_is m going None (over_is going false e))
  same_walk (suc n) zero going a b = by_test (is_skipped (slice_get blocks going.place)) refl
    where
      by_test : (t : Bool) → is_skipped (slice_get blocks going.place) ≡ t → going_after (suc n) blocks going ≡ going
      by_test true e = absurd (let nearer = over_nearer going e in omega (arith, nearer, b))
      by_test false e = step_is n going None (over_is going false e)
  same_walk (suc n) (suc m) going a b = by_test (λ next c d. same_walk n m next c d) (is_skipped (slice_get blocks going.place)) refl
    where
      by_test : ((next : Going) → skipped_bound blocks next ≤ n → skipped_bound blocks next ≤ m → going_after n blocks next ≡ going_after m blocks next)
          → (t : Bool) → is_skipped (slice_get blocks going.place) ≡ t → going_after (suc n) blocks going ≡ going_after (suc m) blocks going
      by_test rest true e =
          let next : Going = after_block going.place going.running in
          let nearer = over_nearer going e in
          step_is n going (Some next) (over_is going true e) ∙ rest next (omega (arith, nearer, a)) (omega (arith, nearer, b)) ∙ sym (step_is m going (Some next) (over_is going true e))
      by_test rest false e = step_is n going None (over_is going false e) ∙ sym (step_is m going None (over_is going false e))

  -- over a block with `/`
  pub counted_over : (going : Going) → is_skipped (slice_get blocks going.place) ≡ true → going_to_counted true blocks going ≡ going_to_counted true blocks (going_after_passes (Done going.place) going.running)
  unfolding going_to_counted
  counted_over going e =
      let next : Going = going_after_passes (Done going.place) going.running in
      let nearer = over_nearer going e in
      let more : skipped_bound blocks going ≡ suc (skipped_bound blocks going - 1) = omega (arith, nearer) in
      ap (λ n. going_after n blocks going) more ∙ step_is (skipped_bound blocks going - 1) going (Some next) (over_is going true e)
      ∙ same_walk (skipped_bound blocks going - 1) (skipped_bound blocks next) next (omega (arith, nearer)) (omega arith)

  -- at another
  pub counted_rests : (going : Going) → is_skipped (slice_get blocks going.place) ≡ false → going_to_counted true blocks going ≡ going
  unfolding going_to_counted
  counted_rests going e = by_far (skipped_bound blocks going)
    where
      by_far : (n : ℕ) → going_after n blocks going ≡ going
      by_far zero = refl
      by_far (suc n) = step_is n going None (over_is going false e)

  -- control rests at no block with `/`
  walk_ends : (n : ℕ) (going : Going) → skipped_bound blocks going ≤ n → is_skipped (slice_get blocks (going_after n blocks going).place) ≡ false
  walk_ends zero going h = by_test (is_skipped (slice_get blocks going.place)) refl
    where
      by_test : (t : Bool) → is_skipped (slice_get blocks going.place) ≡ t → is_skipped (slice_get blocks going.place) ≡ false
      by_test true e = absurd (let nearer = over_nearer going e in omega (arith, nearer, h))
      by_test false e = e
  walk_ends (suc n) going h = by_test (λ next c. walk_ends n next c) (is_skipped (slice_get blocks going.place)) refl
    where
      by_test : ((next : Going) → skipped_bound blocks next ≤ n → is_skipped (slice_get blocks (going_after n blocks next).place) ≡ false)
          → (t : Bool) → is_skipped (slice_get blocks going.place) ≡ t → is_skipped (slice_get blocks (going_after (suc n) blocks going).place) ≡ false
      by_test rest true e =
          let next : Going = after_block going.place going.running in
          let nearer = over_nearer going e in
          ap (λ (g : Going). is_skipped (slice_get blocks g.place)) (step_is n going (Some next) (over_is going true e)) ∙ rest next (omega (arith, nearer, h))
      by_test rest false e = ap (λ (g : Going). is_skipped (slice_get blocks g.place)) (step_is n going None (over_is going false e)) ∙ e

  pub counted_ends : (going : Going) → is_skipped (slice_get blocks (going_to_counted true blocks going).place) ≡ false
  unfolding going_to_counted
  counted_ends going = walk_ends (skipped_bound blocks going) going (omega arith)

-- ---- what runs meanwhile

left_counts : (blocks : List BlockView) (r : Running) (n : ℕ) → RepeatCounts blocks r → RepeatCounts blocks (record r { left = n })
left_counts blocks r n c = record { own = c.own; some = c.some }

module _ (blocks : List BlockView) where
  pub settled_counts : (control : Control) (rs : List Running) → All (RepeatCounts blocks) rs → All (RepeatCounts blocks) (going_after_passes control rs).running
  settled_counts control rs all = all_settled (RepeatCounts blocks) (left_counts blocks) control rs all

  walk_counts : (n : ℕ) (going : Going) → All (RepeatCounts blocks) going.running → All (RepeatCounts blocks) (going_after n blocks going).running
  walk_counts zero going all = all
  walk_counts (suc n) going all = by_test (λ next c. walk_counts n next c) (is_skipped (slice_get blocks going.place)) refl
    where
      by_test : ((next : Going) → All (RepeatCounts blocks) next.running → All (RepeatCounts blocks) (going_after n blocks next).running) → (t : Bool) → is_skipped (slice_get blocks going.place) ≡ t → All (RepeatCounts blocks) (going_after (suc n) blocks going).running
      by_test rest true e =
          let next : Going = after_block going.place going.running in
          subst (λ (g : Going). All (RepeatCounts blocks) g.running) (sym (step_is blocks n going (Some next) (over_is blocks going true e)))
          (rest next (settled_counts (Done going.place) going.running all))
      by_test rest false e = subst (λ (g : Going). All (RepeatCounts blocks) g.running) (sym (step_is blocks n going None (over_is blocks going false e))) all

  pub counted_counts : (going : Going) → All (RepeatCounts blocks) going.running → All (RepeatCounts blocks) (going_to_counted true blocks going).running
  unfolding going_to_counted
  counted_counts going all = walk_counts (skipped_bound blocks going) going all

-- ---- at once

position_none : {X : Type 0} (p : X → Bool) (xs : List X) → All (λ x. p x ≡ false) xs → position p xs ≡ None
position_none p [] all = refl
position_none {X} p (x ∷ xs) all = by_found (position p (x ∷ xs)) refl
  where
    by_found : (o : Option ℕ) → position p (x ∷ xs) ≡ o → o ≡ None
    by_found None e = refl
    by_found (Some at) e =
        let found = position-Some p (x ∷ xs) at x e in
        absurd (let never : false ≡ true = sym (all at x found.0) ∙ found.1 in cc)

position_first : {X : Type 0} (p : X → Bool) (x : X) (xs : List X) → p x ≡ true → position p (x ∷ xs) ≡ Some 0
position_first p x xs e = let some : nat_lt 0 (suc (length xs)) ≡ true = grind (arith, nat_tests) in rw (e, some) refl

turn_none : (control : Control) (rs : List Running) → All (λ r. is_over control r ≡ false) rs → turn control rs ≡ None
turn_none control rs all = ap (λ (o : Option ℕ). option_and_then (λ at. option_map (turned_at rs at) (slice_get rs at)) o) (position_none (is_over control) rs all)

-- no repetition that counts ends at a block with `/`
module _ (blocks : List BlockView) (i : ℕ) (skipped : is_skipped (slice_get blocks i) ≡ true) where
  comes_not : (r : Running) → RepeatCounts blocks r → is_over (Comes i) r ≡ false
  comes_not r c = by_test r.single (r.own == i) refl
    where
      by_test : (s t : Bool) → (r.own == i) ≡ t → (not s && t) ≡ false
      by_test true t e = refl
      by_test false true e =
          let same : r.own ≡ i = grind (arith, nat_tests) in
          absurd (let never : false ≡ true = sym c.own ∙ ap (λ n. is_skipped (slice_get blocks n)) same ∙ skipped in cc)
      by_test false false e = refl

  done_not : (r : Running) → RepeatCounts blocks r → is_over (Done i) r ≡ false
  done_not r c = by_test r.single (r.first == i) refl refl
    where
      by_test : (s t : Bool) → r.single ≡ s → (r.first == i) ≡ t → (s && t) ≡ false
      by_test true true single e =
          let same : r.first ≡ i = grind (arith, nat_tests) in
          let ends : end_of r ≡ r.first + 1 = ap (λ b. cond b (r.first + 1) r.own) single in
          let here : r.first ≡ plain_from blocks r.first = omega (arith, ends, c.some, plain_after blocks r.first) in
          absurd (let never : false ≡ true = sym (plain_here blocks r.first here) ∙ ap (λ n. is_skipped (slice_get blocks n)) same ∙ skipped in cc)
      by_test true false single e = refl
      by_test false t single e = refl

module _ (blocks : List BlockView) (rs : List Running) where
  -- over blocks with `/` at which no pass is over, to the one after them
  pub pass_by : (k p to : ℕ) → p + suc k ≡ to → ((i : ℕ) → p ≤ i → i < to → is_skipped (slice_get blocks i) ≡ true)
      → ((i : ℕ) → p ≤ i → i < to → turn (Done i) rs ≡ None) → ((i : ℕ) → p < i → i < to → turn (Comes i) rs ≡ None)
      → going_to_counted true blocks (record { place = p; running = rs }) ≡ going_to_counted true blocks (going_after_passes (Comes to) rs)
  pass_by zero p to e skips done comes =
      counted_over blocks (record { place = p; running = rs }) (skips p (omega arith) (omega arith))
      ∙ ap (going_to_counted true blocks) (settled_same p rs (done p (omega arith) (omega arith))) ∙ ap (λ n. going_to_counted true blocks (going_after_passes (Comes n) rs)) e
  pass_by (suc k) p to e skips done comes =
      counted_over blocks (record { place = p; running = rs }) (skips p (omega arith) (omega arith))
      ∙ ap (going_to_counted true blocks) (settled_same p rs (done p (omega arith) (omega arith)) ∙ settled_none (Comes (p + 1)) rs (hop_comes (p + 1) rs (comes (p + 1) (omega arith) (omega arith))))
      ∙ pass_by k (p + 1) to (omega arith) (λ i low high. skips i (omega arith) high) (λ i low high. done i (omega arith) high) (λ i low high. comes i (omega arith) high)

  -- from a place to the nearest block without `/`
  pub plain_walk : (place there : ℕ) → All (RepeatCounts blocks) rs → there ≡ plain_from blocks place → place < there
      → going_to_counted true blocks (record { place = place; running = rs }) ≡ going_to_counted true blocks (going_after_passes (Comes there) rs)
  plain_walk place there all e h =
      let skips : (i : ℕ) → place ≤ i → i < there → is_skipped (slice_get blocks i) ≡ true = λ i low high. plain_skips blocks place i low (omega (arith, e, high)) in
      pass_by (there - place - 1) place there (omega arith) skips
      (λ i low high. turn_none (Done i) rs (All-weaker (RepeatCounts blocks) (λ r. is_over (Done i) r ≡ false) (done_not blocks i (skips i low high)) rs all))
      (λ i low high. turn_none (Comes i) rs (All-weaker (RepeatCounts blocks) (λ r. is_over (Comes i) r ≡ false) (comes_not blocks i (skips i (omega arith) high)) rs all))

-- ---- a repetition of blocks with `/` alone

module _ (blocks : List BlockView) (rs : List Running) (all : All (RepeatCounts blocks) rs) (r : Running) (before : r.first < end_of r)
    (idle : end_of r ≤ plain_from blocks r.first) where
  with_left : ℕ → Running
  with_left n = record r { left = n }

  skips : (i : ℕ) → r.first ≤ i → i < end_of r → is_skipped (slice_get blocks i) ≡ true
  skips i low high = plain_skips blocks r.first i low (omega (arith, high, idle))

  -- where a pass of it is over
  turning : Bool → Control
  turning true = Done r.first
  turning false = Comes r.own

  over_there : (b : Bool) → r.single ≡ b → (n : ℕ) → is_over (turning b) (with_left n) ≡ true
  unfolding turning with_left
  over_there true e n = let same : (r.first == r.first) ≡ true = grind (arith, nat_tests) in rw (e, same) refl
  over_there false e n = let same : (r.own == r.own) ≡ true = grind (arith, nat_tests) in rw (e, same) refl

  turn_there : (b : Bool) → r.single ≡ b → (n : ℕ) → turn (turning b) (with_left n ∷ rs) ≡ Some (turned_at (with_left n ∷ rs) 0 (with_left n))
  turn_there b e n = rw (position_first (is_over (turning b)) (with_left n) rs (over_there b e n)) refl

  hop_there : (b : Bool) → r.single ≡ b → (n : ℕ) → hop (turning b) (with_left n ∷ rs) ≡ Some (turned_at (with_left n ∷ rs) 0 (with_left n))
  unfolding hop turning
  hop_there true e n = ap (λ (o : Option Level). option_or o (turn (Comes (r.first + 1)) (with_left n ∷ rs))) (turn_there true e n)
  hop_there false e n = turn_there false e n

  ends_there : (b : Bool) → r.single ≡ b → (n : ℕ) → n ≡ 0 → going_after_passes (turning b) (with_left n ∷ rs) ≡ going_after_passes (Done r.own) rs
  unfolding with_left
  ends_there b e n none =
      let ended : turned_at (with_left n ∷ rs) 0 (with_left n) ≡ record { control = Done r.own; running = rs } = rw none refl in
      sym (settled_some (turning b) (Done r.own) (with_left n ∷ rs) rs (hop_there b e n ∙ ap (λ (l : Level). Some l) ended)).0

  again_there : (b : Bool) → r.single ≡ b → (n m : ℕ) → (n == 0) ≡ false → n - 1 ≡ m → going_after_passes (turning b) (with_left n ∷ rs) ≡ going_after_passes (Comes r.first) (with_left m ∷ rs)
  unfolding with_left
  again_there b e n m some less =
      let again : turned_at (with_left n ∷ rs) 0 (with_left n) ≡ record { control = Comes r.first; running = with_left m ∷ rs } = rw (some, less) refl in
      sym (settled_some (turning b) (Comes r.first) (with_left n ∷ rs) (with_left m ∷ rs) (hop_there b e n ∙ ap (λ (l : Level). Some l) again)).0

  own_comes : (n i : ℕ) → r.first ≤ i → i < end_of r → turn (Comes i) (with_left n ∷ rs) ≡ None
  unfolding with_left
  own_comes n i low high =
      turn_none (Comes i) (with_left n ∷ rs) (All-cons (λ x. is_over (Comes i) x ≡ false) (with_left n) rs (by_test r.single (r.own == i) refl refl)
      (All-weaker (RepeatCounts blocks) (λ x. is_over (Comes i) x ≡ false) (comes_not blocks i (skips i low high)) rs all))
    where
      by_test : (s t : Bool) → r.single ≡ s → (r.own == i) ≡ t → (not s && t) ≡ false
      by_test true t single e = refl
      by_test false true single e =
          let same : r.own ≡ i = grind (arith, nat_tests) in
          let ends : end_of r ≡ r.own = ap (λ b. cond b (r.first + 1) r.own) single in
          absurd (omega (arith, ends, same, high))
      by_test false false single e = refl

  own_done : r.single ≡ false → (n i : ℕ) → r.first ≤ i → i < end_of r → turn (Done i) (with_left n ∷ rs) ≡ None
  unfolding with_left
  own_done single n i low high =
      turn_none (Done i) (with_left n ∷ rs) (All-cons (λ x. is_over (Done i) x ≡ false) (with_left n) rs (rw single refl)
      (All-weaker (RepeatCounts blocks) (λ x. is_over (Done i) x ≡ false) (done_not blocks i (skips i low high)) rs all))

  -- a pass leads to its turning
  to_turning : (b : Bool) → r.single ≡ b → (n : ℕ) → going_to_counted true blocks (going_after_passes (Comes r.first) (with_left n ∷ rs)) ≡ going_to_counted true blocks (going_after_passes (turning b) (with_left n ∷ rs))
  unfolding turning
  to_turning b e n = ap (going_to_counted true blocks) (settled_none (Comes r.first) (with_left n ∷ rs) (hop_comes r.first (with_left n ∷ rs) (own_comes n r.first (omega arith) before))) ∙ by_single b e
    where
      by_single : (b : Bool) → r.single ≡ b → going_to_counted true blocks (record { place = r.first; running = with_left n ∷ rs }) ≡ going_to_counted true blocks (going_after_passes (turning b) (with_left n ∷ rs))
      by_single true single = counted_over blocks (record { place = r.first; running = with_left n ∷ rs }) (skips r.first (omega arith) before)
      by_single false single =
          let ends : end_of r ≡ r.own = ap (λ b. cond b (r.first + 1) r.own) single in
          pass_by blocks (with_left n ∷ rs) (r.own - r.first - 1) r.first r.own (omega (arith, ends, before)) (λ i low high. skips i low (omega (arith, ends, high)))
          (λ i low high. own_done single n i low (omega (arith, ends, high))) (λ i low high. own_comes n i (omega arith) (omega (arith, ends, high)))

  all_passes : (b : Bool) → r.single ≡ b → (n : ℕ) → going_to_counted true blocks (going_after_passes (Comes r.first) (with_left n ∷ rs)) ≡ going_to_counted true blocks (going_after_passes (Done r.own) rs)
  all_passes b e zero = to_turning b e zero ∙ ap (going_to_counted true blocks) (ends_there b e zero refl)
  all_passes b e (suc n) =
      let less : suc n - 1 ≡ n = omega arith in
      to_turning b e (suc n) ∙ ap (going_to_counted true blocks) (again_there b e (suc n) n (grind (arith, nat_tests)) less) ∙ all_passes b e n

  -- it leads after its REPEAT or REPEATB
  pub idle_passes : going_to_counted true blocks (going_after_passes (Comes r.first) (r ∷ rs)) ≡ going_to_counted true blocks (going_after_passes (Done r.own) rs)
  unfolding with_left
  idle_passes = all_passes r.single refl r.left
