-- Each step at a meeting keeps the rule of its number.
use Rattle.std.proofs.Common.{◌≡◌, ◌≢◌, ℕ, zero, suc, ◌+◌, ◌<◌, ◌≤◌, ◌==◌, Bool, List, [], ◌∷◌, set, get_or, sym, refl, ap, subst, ◌∙◌, ⊎_elim, arith, eq-eqb, ne_eqb, if◌then◌else◌, MatchBool}
use Rattle.std.proofs.lemmas.List.Sums.{sum_by-cons, sum_by_push}
use prog.Atomic.{either}
use mathlib.Core.Option.{some, some-injective, some-ne-none}
use mathlib.Core.Logic.{dite}
use native.Mathlib.Decide.{ℕ_discrete}
use lib.ListN.{get_elem?}
use Rattle.atomic_table.proofs.Lists.{at_set, at_snoc}
use Rattle.atomic_table.specs.Table.{Allows, Enters, Me, State, keeps, opening, stepped}
use Rattle.parallel_run.specs.Meetings.{AllCameWhereTold, AreToldAlike, Comes, GivesUp, IsFound, IsKept, Knows, Looks, Sits, come_of, first_knowledge, with_come, with_seen}
use Rattle.parallel_run.specs.declared.meeting.Knowledge.{Knowledge}

abbrev come : Knowledge → ℕ
come v = v.come

-- how many have come, where one seat changes
come_at : (l : List Knowledge) (i : ℕ) (v w : Knowledge) → get_elem? l i ≡ some v → come_of (set l i w) + v.come ≡ come_of l + w.come
come_at [] i v w e = absurd (some-ne-none v (sym e))
come_at (x ∷ xs) zero v w e = let same : x.come ≡ v.come = ap come (some-injective x v e) in omega (arith, sum_by-cons come x xs, sum_by-cons come w xs)
come_at (x ∷ xs) (suc i) v w e = let h = come_at xs i v w e in omega (arith, sum_by-cons come x xs, sum_by-cons come x (set xs i w))

-- what holds of each seat, where one changes
each_stays : (K : Knowledge → Type 0) (vs : List Knowledge) (me : ℕ) (w : Knowledge) → K w → ((j : ℕ) (d : Knowledge) → get_elem? vs j ≡ some d → K d) → (j : ℕ) (d : Knowledge) → get_elem? (set vs me w) j ≡ some d → K d
each_stays K vs me w mine others j d e = ⊎_elim (λ (t : (j ≡ me) × (w ≡ d)). subst K t.1 mine) (λ (t : (j ≢ me) × (get_elem? vs j ≡ some d)). others j d t.1) (at_set vs me j w d e)

only : (v d : Knowledge) (j : ℕ) → get_elem? (v ∷ []) j ≡ some d → v ≡ d
only v d zero e = some-injective v d e
only v d (suc j) e = absurd (some-ne-none d (sym e))

-- a new meeting
pub opens : {S : Type 0} (workers : ℕ) → IsKept {S = S} workers (opening (0 ∷ []) [] (first_knowledge workers))
opens workers = let v : Knowledge = first_knowledge workers in record {
  number = 0;
  words = refl;
  most = omega arith;
  each = λ j d e. subst (Knows workers 0) (only v d j e) (record { all = refl; once = omega arith; seen = omega arith; stays = λ all. refl });
  counts = λ few. refl;
}

module _ {S : Type 0} (workers : ℕ) where
  -- one seat goes on with the number
  changed : (s : State S Knowledge) (k : IsKept workers s) (id : ℕ) (c : List (ℕ × S)) (v w : Knowledge) (n : ℕ) → get_elem? s.views id ≡ some v
      → k.number ≤ n → n ≤ workers + 1 → (workers ≤ k.number → n ≡ k.number) → Knows workers n w → (n ≤ workers → k.number + w.come ≡ n + v.come)
      → IsKept workers (stepped s 0 n id c w keeps)
  changed s k id c v w n at up most last knows counts = record {
    number = n;
    words = ap (λ (ws : List ℕ). set ws 0 n) k.words;
    most = most;
    each = each_stays (Knows workers n) s.views id w knows (λ j d e.
        let old : Knows workers k.number d = k.each j d e in
        let was : d.seen ≤ k.number = old.seen in
        record {
          all = old.all;
          once = old.once;
          seen = omega arith;
          stays = λ all. let is : k.number ≡ d.seen = old.stays all in last (omega arith) ∙ is;
        });
    counts = λ few.
        let h = come_at s.views id v w at in
        let was : come_of s.views ≡ k.number = k.counts (omega arith) in
        let e : k.number + w.come ≡ n + v.come = counts few in
        omega (arith, h);
  }

  word_is : (s : State S Knowledge) (k : IsKept workers s) → get_or s.words 0 0 ≡ k.number
  word_is s k = ap (λ (ws : List ℕ). get_or ws 0 0) k.words

  -- what a seat finds
  is_found : (s : State S Knowledge) (k : IsKept workers s) (id : ℕ) (v : Knowledge) → get_elem? s.views id ≡ some v → IsFound v (get_or s.words 0 0)
  is_found s k id v at =
      let found : get_or s.words 0 0 ≡ k.number = word_is s k in
      let mine : Knows workers k.number v = k.each id v at in
      let many : v.workers ≡ workers = mine.all in
      let seen : v.seen ≤ k.number = mine.seen in
      let most : k.number ≤ workers + 1 = k.most in
      record {
        most = omega arith;
        more = omega arith;
        stays = λ all. found ∙ mine.stays (omega arith);
      }

  -- the number is found as it was
  seen_again : (s : State S Knowledge) (k : IsKept workers s) (id : ℕ) (c : List (ℕ × S)) (v : Knowledge) → get_elem? s.views id ≡ some v
      → IsKept workers (stepped s 0 (get_or s.words 0 0) id c (with_seen v (get_or s.words 0 0)) keeps)
  seen_again s k id c v at =
      let found : get_or s.words 0 0 ≡ k.number = word_is s k in
      let mine : Knows workers k.number v = k.each id v at in
      let most : k.number ≤ workers + 1 = k.most in
      changed s k id c v (with_seen v (get_or s.words 0 0)) (get_or s.words 0 0) at (omega arith) (omega arith) (λ all. found)
      (record { all = mine.all; once = mine.once; seen = omega arith; stays = λ all. refl }) (λ few. omega arith)

  pub looks : (slots id : ℕ) (me : Me S Knowledge) → Allows (IsKept workers) slots id me 0 (λ r. r) (Looks me)
  looks slots id me s k _ at _ = (with_seen me.0 (get_or s.words 0 0), keeps, tt, seen_again s k id me.1 me.0 at, (is_found s k id me.0 at, refl))

  -- where a seat is after a step, by whether the number was as expected
  abbrev Lands : Bool → Me S Knowledge → Me S Knowledge → Me S Knowledge → Type 0
  Lands b after hit miss = MatchBool b (after ≡ hit) (after ≡ miss)

  pub comes : (slots id : ℕ) (me : Me S Knowledge) (expected : ℕ) → expected < workers → me.0.come ≡ 0
      → Allows (IsKept workers) slots id me 0 (λ r. either (r == expected) (expected + 1) r) (Comes expected me)
  comes slots id me expected fewer first s k _ at _ =
      let v : Knowledge = me.0 in
      let r : ℕ = get_or s.words 0 0 in
      let found : r ≡ k.number = word_is s k in
      let mine : Knows workers k.number v = k.each id v at in
      let w : Knowledge = with_come v (expected + 1) in
      let u : Knowledge = with_seen v r in
      dite (ℕ_discrete r expected)
      (λ hit. (
        w,
        keeps,
        tt,
        subst (λ (b : Bool). IsKept workers (stepped s 0 (either b (expected + 1) r) id me.1 w keeps)) (sym (eq-eqb r expected hit))
            (changed s k id me.1 v w (expected + 1) at (omega arith) (omega arith) (λ all. absurd (omega arith))
            (record { all = mine.all; once = omega arith; seen = omega arith; stays = λ all. refl }) (λ few. omega arith)),
        (
          is_found s k id v at,
          subst (λ (b : Bool). Lands b (w, me.1) (with_come v (expected + 1), me.1) (with_seen v r, me.1)) (sym (eq-eqb r expected hit)) refl,
        ),
      ))
      (λ miss. (
        u,
        keeps,
        tt,
        subst (λ (b : Bool). IsKept workers (stepped s 0 (either b (expected + 1) r) id me.1 u keeps)) (sym (ne_eqb r expected miss)) (seen_again s k id me.1 v at),
        (
          is_found s k id v at,
          subst (λ (b : Bool). Lands b (u, me.1) (with_come v (expected + 1), me.1) (with_seen v r, me.1)) (sym (ne_eqb r expected miss)) refl,
        ),
      ))

  pub gives_up : (slots id : ℕ) (me : Me S Knowledge) (expected last : ℕ) → expected < workers → last ≡ workers + 1
      → Allows (IsKept workers) slots id me 0 (λ r. either (r == expected) last r) (GivesUp expected me)
  gives_up slots id me expected last fewer is s k _ at _ =
      let v : Knowledge = me.0 in
      let r : ℕ = get_or s.words 0 0 in
      let found : r ≡ k.number = word_is s k in
      let mine : Knows workers k.number v = k.each id v at in
      let many : v.workers ≡ workers = mine.all in
      let w : Knowledge = with_seen v (v.workers + 1) in
      let u : Knowledge = with_seen v r in
      dite (ℕ_discrete r expected)
      (λ hit. (
        w,
        keeps,
        tt,
        subst (λ (b : Bool). IsKept workers (stepped s 0 (either b last r) id me.1 w keeps)) (sym (eq-eqb r expected hit))
            (changed s k id me.1 v w last at (omega arith) (omega arith) (λ all. absurd (omega arith))
            (record { all = mine.all; once = mine.once; seen = omega arith; stays = λ all. omega arith }) (λ few. absurd (omega arith))),
        (
          is_found s k id v at,
          subst (λ (b : Bool). Lands b (w, me.1) (with_seen v (v.workers + 1), me.1) (with_seen v r, me.1)) (sym (eq-eqb r expected hit)) refl,
        ),
      ))
      (λ miss. (
        u,
        keeps,
        tt,
        subst (λ (b : Bool). IsKept workers (stepped s 0 (either b last r) id me.1 u keeps)) (sym (ne_eqb r expected miss)) (seen_again s k id me.1 v at),
        (
          is_found s k id v at,
          subst (λ (b : Bool). Lands b (u, me.1) (with_seen v (v.workers + 1), me.1) (with_seen v r, me.1)) (sym (ne_eqb r expected miss)) refl,
        ),
      ))

  -- a worker takes its seat
  pub sits : (slots : ℕ) → Enters {S = S} (IsKept workers) slots 0 (λ r w. Sits {S = S} (first_knowledge workers, []) r (w, []))
  sits slots s k _ _ =
      let r : ℕ = get_or s.words 0 0 in
      let found : r ≡ k.number = word_is s k in
      let most : k.number ≤ workers + 1 = k.most in
      let w : Knowledge = with_seen (first_knowledge workers) r in (
        w,
        record {
          number = k.number;
          words = k.words;
          most = k.most;
          each = λ j d e. ⊎_elim (k.each j d) (λ (t : w ≡ d). subst (Knows workers k.number) t (record { all = refl; once = omega arith; seen = omega arith; stays = λ all. sym found })) (at_snoc s.views w d j e);
          counts = λ few. let was : come_of s.views ≡ k.number = k.counts few in let more = sum_by_push come s.views w in omega (arith, more);
        },
        (omega arith, refl),
      )

  -- all that are told are told the same
  pub told_alike : AreToldAlike S workers
  told_alike s k i j v w at there p q = sym ((k.each i v at).stays p) ∙ (k.each j w there).stays q

  -- where one is told that all have come, as many were counted
  pub all_came : AllCameWhereTold S workers
  all_came s k i v at is =
      let all : k.number ≡ v.seen = (k.each i v at).stays (omega arith) in
      let few : k.number ≤ workers = omega arith in
      k.counts few ∙ all ∙ is

-- ---- what a step has told, where the number was as expected, and where it was not

module _ {S : Type 0} where
  pub comes_hit : (me after : Me S Knowledge) (expected found : ℕ) → found ≡ expected → Comes expected me found after → after ≡ (with_come me.0 (expected + 1), me.1)
  comes_hit me after expected found is t =
      subst (λ (b : Bool). MatchBool b (after ≡ (with_come me.0 (expected + 1), me.1)) (after ≡ (with_seen me.0 found, me.1))) (eq-eqb found expected is) t.1

  pub comes_miss : (me after : Me S Knowledge) (expected found : ℕ) → found ≢ expected → Comes expected me found after → after ≡ (with_seen me.0 found, me.1)
  comes_miss me after expected found other t =
      subst (λ (b : Bool). MatchBool b (after ≡ (with_come me.0 (expected + 1), me.1)) (after ≡ (with_seen me.0 found, me.1))) (ne_eqb found expected other) t.1

  pub gives_up_hit : (me after : Me S Knowledge) (expected found : ℕ) → found ≡ expected → GivesUp expected me found after → after ≡ (with_seen me.0 (me.0.workers + 1), me.1)
  gives_up_hit me after expected found is t =
      subst (λ (b : Bool). MatchBool b (after ≡ (with_seen me.0 (me.0.workers + 1), me.1)) (after ≡ (with_seen me.0 found, me.1))) (eq-eqb found expected is) t.1

  pub gives_up_miss : (me after : Me S Knowledge) (expected found : ℕ) → found ≢ expected → GivesUp expected me found after → after ≡ (with_seen me.0 found, me.1)
  gives_up_miss me after expected found other t =
      subst (λ (b : Bool). MatchBool b (after ≡ (with_seen me.0 (me.0.workers + 1), me.1)) (after ≡ (with_seen me.0 found, me.1))) (ne_eqb found expected other) t.1

-- what the last number tells
pub told : (workers last seen : ℕ) → seen ≡ last → workers ≤ last → last ≤ workers + 1 → seen ≡ (if last == workers then workers else workers + 1)
told workers last seen is low high = dite (ℕ_discrete last workers)
    (λ hit. subst (λ (b : Bool). seen ≡ (if b then workers else workers + 1)) (sym (eq-eqb last workers hit)) (is ∙ hit))
    (λ miss. subst (λ (b : Bool). seen ≡ (if b then workers else workers + 1)) (sym (ne_eqb last workers miss)) (omega arith))
