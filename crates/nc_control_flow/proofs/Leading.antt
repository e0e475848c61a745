-- What the table of blocks without `/` holds, and how control is led over the others by it.
use Rattle.std.proofs.Common.{◌≡◌, ℕ, suc, ◌+◌, ◌-◌, ◌<◌, ◌≤◌, ◌||◌, nat_lt, not, Bool, true, false, cond, List, [], ◌∷◌, length, get_or, refl, sym, ap, ◌∙◌, subst, arith, All, Option, Some, None, ⊎_elim}
use Rattle.std.specs.Prelude.{slice_set}
use Rattle.std.specs.List.{list_any, prefix_len}
use Rattle.std.proofs.lemmas.Bool.{cases_eq}
use Rattle.std.proofs.lemmas.Bool.Decides.{nat_tests}
use Rattle.std.proofs.lemmas.Grind.{common_steps}
use Rattle.std.proofs.lemmas.List.{length-map}
use Rattle.std.proofs.lemmas.List.Elements.{All-nil}
use Rattle.std.proofs.lemmas.List.Sums.{prefix_len-drop_yes, prefix_len-drop_no}
use Rattle.nc_blocks.specs.declared.blocks.Block.{Block}
use Rattle.nc_blocks.specs.Statement.{BlockView, view_of}
use Rattle.nc_control_flow.specs.declared.flow.Next.{Next}
use Rattle.nc_control_flow.specs.declared.flow.Next.TheVariants.{At, Past}
use Rattle.nc_control_flow.specs.declared.repeats.Running.{Running}
use Rattle.nc_control_flow.specs.declared.repeats.Control.TheVariants.{Comes}
use Rattle.nc_control_flow.specs.Counted.{skipped_bound, counts, has_counting, going_to_counted, first_going, plain_from, RepeatCounts}
use Rattle.nc_control_flow.specs.Flow.{next_at}
use Rattle.nc_control_flow.specs.Parts.{views}
use Rattle.nc_control_flow.specs.Resolved.{IsPlain}
use Rattle.nc_control_flow.specs.Repetitions.{Level, Going, hop, times, going_after_passes}
use Rattle.nc_control_flow.proofs.Counting.{plain_after, plain_within, plain_here, plain_stops, plain_past, shorter, counted_rests, plain_walk}
use Rattle.nc_control_flow.proofs.Indexed.{view_at}
use Rattle.nc_control_flow.proofs.Turning.{settled_takes, settled_none, settled_some, hop_comes}

-- ---- one block more

module _ (blocks : List (ℕ × Block)) (n : ℕ) (e : ℕ × Block) (h : n < length blocks) (is : e ≡ get_or blocks n e) where
  seen : get_or (views blocks) n (view_of e.1) ≡ view_of e.1
  seen = view_at blocks n e h is

  inside : n < length (views blocks)
  inside = omega (arith, h, length-map blocks (λ (x : ℕ × Block). view_of x.1))

  -- a block with `/`: the nearest is that of the next place
  pub nearest_kept : (get_or blocks n e).1.skip ≡ true → plain_from (views blocks) n ≡ plain_from (views blocks) (n + 1)
  unfolding plain_from
  nearest_kept skipped =
      let more = prefix_len-drop_yes (λ (b : BlockView). b.skip) (views blocks) n (view_of e.1) inside (ap (λ (b : BlockView). b.skip) seen ∙ ap (λ (x : ℕ × Block). x.1.skip) is ∙ skipped) in
      omega (arith, more)

  -- another: it is the nearest
  pub nearest_here : (get_or blocks n e).1.skip ≡ false → plain_from (views blocks) n ≡ n
  unfolding plain_from
  nearest_here plain =
      let none = prefix_len-drop_no (λ (b : BlockView). b.skip) (views blocks) n (view_of e.1) inside (ap (λ (b : BlockView). b.skip) seen ∙ ap (λ (x : ℕ × Block). x.1.skip) is ∙ plain) in
      omega (arith, none)

pub each_more : (f : ℕ → ℕ) (table : List ℕ) (long n m v : ℕ) → length table ≡ long → n < long → m ≡ n + 1 → v ≡ f n
    → ((k : ℕ) → m ≤ k → k < long → get_or table k 0 ≡ f k) → (k : ℕ) → n ≤ k → k < long → get_or (slice_set table n v) k 0 ≡ f k
each_more f table long n m v l h a e each k low high =
    ⊎_elim
    (λ (same : k ≡ n). let put : get_or (slice_set table n v) k 0 ≡ v = grind (arith, common_steps) in put ∙ e ∙ ap f (sym same))
    (λ (ne : k ≡ n → ⊥). let kept : get_or (slice_set table n v) k 0 ≡ get_or table k 0 = grind (arith, common_steps) in kept ∙ each k (omega arith) high)
    (cases_eq k n)

pub plain_found : (blocks seen : List (ℕ × Block)) (table : List ℕ) → seen ≡ blocks → length table ≡ length seen
    → ((k : ℕ) → k < length seen → get_or table k 0 ≡ plain_from (views seen) k) → IsPlain (views blocks) table
plain_found blocks seen table e long each =
    subst (λ (bs : List (ℕ × Block)). IsPlain (views bs) table) e (record {
      plain_length = omega (arith, long, length-map seen (λ (x : ℕ × Block). view_of x.1));
      plain_at = λ k h. each k (omega (arith, h, length-map seen (λ (x : ℕ × Block). view_of x.1)));
    })

-- ---- the first block that counts

module _ (blocks : List BlockView) where
  from_start : (b : Bool) → nat_lt 0 (plain_from blocks 0) ≡ b → first_going true blocks ≡ record { place = plain_from blocks 0; running = [] }
  from_start true t =
      let rest : Going = record { place = plain_from blocks 0; running = [] } in
      plain_walk blocks [] 0 (plain_from blocks 0) (All-nil (RepeatCounts blocks)) refl (grind (arith, nat_tests))
      ∙ ap (going_to_counted true blocks) (settled_none (Comes (plain_from blocks 0)) [] (hop_comes (plain_from blocks 0) [] refl)) ∙ counted_rests blocks rest (plain_stops blocks 0)
  from_start false t =
      let here : 0 ≡ plain_from blocks 0 = grind (arith, nat_tests) in
      counted_rests blocks (record { place = 0; running = [] }) (plain_here blocks 0 here) ∙ ap (λ (n : ℕ). record { place = n; running = [] }) here

  pub first_is : first_going true blocks ≡ record { place = plain_from blocks 0; running = [] }
  first_is = from_start (nat_lt 0 (plain_from blocks 0)) refl

pub first_runs : (skip : Bool) (blocks : List BlockView) → (first_going skip blocks).running ≡ []
unfolding going_to_counted
first_runs false blocks = refl
first_runs true blocks = ap (λ (g : Going). g.running) (first_is blocks)

-- ---- whether some block counts

leading : (blocks : List BlockView) → nat_lt (prefix_len (λ b. b.skip) blocks) (length blocks) ≡ list_any (counts true) blocks
leading [] = refl
leading (b ∷ bs) = by_skip b.skip refl (leading bs)
  where
    by_skip : (s : Bool) → b.skip ≡ s → nat_lt (prefix_len (λ x. x.skip) bs) (length bs) ≡ list_any (counts true) bs
        → nat_lt (cond s (1 + prefix_len (λ x. x.skip) bs) 0) (suc (length bs)) ≡ (not s || list_any (counts true) bs)
    by_skip true e rest = let less : nat_lt (1 + prefix_len (λ (x : BlockView). x.skip) bs) (suc (length bs)) ≡ nat_lt (prefix_len (λ (x : BlockView). x.skip) bs) (length bs) = grind (arith, nat_tests) in less ∙ rest
    by_skip false e rest = grind (arith, nat_tests)

any_block : (blocks : List BlockView) → nat_lt 0 (length blocks) ≡ list_any (counts false) blocks
any_block [] = refl
any_block (b ∷ bs) = grind (arith, nat_tests)

pub first_counts : (skip : Bool) (blocks : List BlockView) → nat_lt (first_going skip blocks).place (length blocks) ≡ has_counting skip blocks
unfolding going_to_counted plain_from
first_counts false blocks = any_block blocks
first_counts true blocks =
    let start : plain_from blocks 0 ≡ prefix_len (λ (b : BlockView). b.skip) blocks = omega arith in
    ap (λ (g : Going). nat_lt g.place (length blocks)) (first_is blocks) ∙ ap (λ (n : ℕ). nat_lt n (length blocks)) start ∙ leading blocks

next_is : (blocks : List BlockView) (place : ℕ) (b : Bool) (next : Next) → nat_lt place (length blocks) ≡ b → next ≡ next_at blocks place → next ≡ cond b (At place) Past
next_is blocks place b next t e = e ∙ ap (λ (x : Bool). cond x (At place) Past) t

pub counts_first : (skip : Bool) (blocks : List BlockView) (next : Next) (place : ℕ) → next ≡ next_at blocks (first_going skip blocks).place → next ≡ At place → true ≡ has_counting skip blocks
counts_first skip blocks next place e at = by_test (has_counting skip blocks) (first_counts skip blocks)
  where
    by_test : (b : Bool) → nat_lt (first_going skip blocks).place (length blocks) ≡ b → true ≡ b
    by_test true t = refl
    by_test false t = absurd (let past : At place ≡ Past = sym at ∙ next_is blocks (first_going skip blocks).place false next t e in cc)

pub counts_none : (skip : Bool) (blocks : List BlockView) (next : Next) → next ≡ next_at blocks (first_going skip blocks).place → next ≡ Past → false ≡ has_counting skip blocks
counts_none skip blocks next e past = by_test (has_counting skip blocks) (first_counts skip blocks)
  where
    by_test : (b : Bool) → nat_lt (first_going skip blocks).place (length blocks) ≡ b → false ≡ b
    by_test false t = refl
    by_test true t = absurd (let at : Past ≡ At (first_going skip blocks).place = sym past ∙ next_is blocks (first_going skip blocks).place true next t e in cc)

pub first_at : (skip : Bool) (blocks : List BlockView) (pc : ℕ) → At pc ≡ next_at blocks (first_going skip blocks).place → pc ≡ (first_going skip blocks).place
first_at skip blocks pc e = by_test (nat_lt (first_going skip blocks).place (length blocks)) refl
  where
    by_test : (b : Bool) → nat_lt (first_going skip blocks).place (length blocks) ≡ b → pc ≡ (first_going skip blocks).place
    by_test true t = let same : At pc ≡ At (first_going skip blocks).place = next_is blocks (first_going skip blocks).place true (At pc) t e in cc
    by_test false t = absurd (let past : At pc ≡ Past = next_is blocks (first_going skip blocks).place false (At pc) t e in cc)

-- ---- by the table

pub going_same : (blocks : List BlockView) (to : Going) (at : ℕ) (new : List Running) → at ≡ to.place → new ≡ to.running
    → going_to_counted true blocks (record { place = at; running = new }) ≡ going_to_counted true blocks to
going_same blocks to at new p q =
    ap (λ (n : ℕ). going_to_counted true blocks (record { place = n; running = new })) p ∙ ap (λ (xs : List Running). going_to_counted true blocks (record { place = to.place; running = xs })) q

module _ (blocks : List BlockView) (place there : ℕ) (rs : List Running) (e : there ≡ plain_from blocks place) where
  going : Going
  going = record { place = place; running = rs }

  ahead_of : (there ≡ place → ⊥) → place < there
  ahead_of ne = let following = plain_after blocks place in omega (arith, ne, following, e)

  is_place : (there ≡ place → ⊥) → there ≤ length blocks
  is_place ne = by_test (nat_lt place (length blocks)) refl
    where
      by_test : (b : Bool) → nat_lt place (length blocks) ≡ b → there ≤ length blocks
      by_test true t =
          let h : place ≤ length blocks = grind (arith, nat_tests) in
          let le = plain_within blocks place h in omega (arith, le, e)
      by_test false t =
          let h : length blocks ≤ place = grind (arith, nat_tests) in absurd (ne (e ∙ plain_past blocks place h))

  pub leads_on : (there ≡ place → ⊥) → All (RepeatCounts blocks) rs → (at : ℕ) (new : List Running) → at ≡ (going_after_passes (Comes there) rs).place → new ≡ (going_after_passes (Comes there) rs).running
      → going_to_counted true blocks (record { place = at; running = new }) ≡ going_to_counted true blocks (record { place = place; running = rs })
  leads_on ne all at new p q =
      going_same blocks (going_after_passes (Comes there) rs) at new p q ∙ sym (plain_walk blocks rs place there all e (ahead_of ne))

  pub leads_nearer : (there ≡ place → ⊥) → (at : ℕ) (new : List Running) → at ≡ (going_after_passes (Comes there) rs).place → new ≡ (going_after_passes (Comes there) rs).running
      → skipped_bound blocks (record { place = at; running = new }) < skipped_bound blocks (record { place = place; running = rs })
  leads_nearer ne at new p q = rw (p, q) (by_hop (hop (Comes there) rs) refl)
    where
      by_hop : (o : Option Level) → hop (Comes there) rs ≡ o → skipped_bound blocks (going_after_passes (Comes there) rs) < skipped_bound blocks (record { place = place; running = rs })
      by_hop None h = rw (settled_none (Comes there) rs h) (omega (arith, ahead_of ne, is_place ne))
      by_hop (Some level) h =
          let turned = settled_some (Comes there) level.control rs level.running h in
          let takes = settled_takes level.control level.running in
          rw (sym turned.0) (shorter blocks (times (going_after_passes level.control level.running).running) (times rs) (length blocks) (going_after_passes level.control level.running).place (length blocks - place) (omega (arith, turned.1, takes)))

  pub leads_to : there ≡ place → going_to_counted true blocks (record { place = place; running = rs }) ≡ record { place = place; running = rs }
  leads_to same = counted_rests blocks (record { place = place; running = rs }) (plain_here blocks place (sym same ∙ e))
