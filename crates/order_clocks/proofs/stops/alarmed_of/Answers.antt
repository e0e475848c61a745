use Rattle.axis_sets.specs.declared.limits.TheConstants.{CHANNEL_PLACES}
use Rattle.std.proofs.Common.{rules, ◌≡◌, ℕ, ◌+◌, ◌-◌, ◌<◌, true, false, inl, inr, List, ◌∷◌, map, filter, drop, ap, ◌∙◌, arith}
use Rattle.std.specs.List.{range_with_len}
use Rattle.std.proofs.lemmas.Bool.{cases_Bool, cases_lt}
use Rattle.std.proofs.lemmas.List.{get_or-set_same, get_or-set_other}
use Rattle.order_clocks.specs.Stops.{alarms_in, are_acted}
use Rattle.order_clocks.proofs.StopLaws.{filter_on, filter_off}
use Rattle.order_clocks.proofs.stops.alarmed_of.Goals as goal

pub loop-c-preserved : goal.loop-c-preserved
loop-c-preserved c =
    let n = c.loop-c.c in
    let i = c.loop-c.invariant in
    let below : n < CHANNEL_PLACES = c.loop-c-test.true in
    let later : List ℕ = filter (are_acted c.args.last.now) (range_with_len (n + 1) (CHANNEL_PLACES - (n + 1))) in
    record {
      size = search rules;
      from = omega arith;
      within = c.take_end-flag.ensures.within;
      rest = λ f all. elim (cases_Bool (are_acted c.args.last.now n)) [
        | inl on ↦
            let before : alarms_in (drop c.loop-c.next c.args.ends.now) ≡ f n ∷ map f later = i.rest f all ∙ ap (map f) (filter_on (are_acted c.args.last.now) n below on) in
            (c.take_end-flag.ensures.taken (f n) (map f later) on before).1
        | inr off ↦
            let before : alarms_in (drop c.loop-c.next c.args.ends.now) ≡ map f later = i.rest f all ∙ ap (map f) (filter_off (are_acted c.args.last.now) n below off) in
            rw (c.take_end-flag.ensures.passed off) before
      ];
      done = λ f all d from low acted. elim (cases_lt d n) [
        | inl earlier ↦ get_or-set_other c.loop-c.alarmed n d c.take_end-flag.result.0 false (λ e. omega arith) ∙ i.done f all d from earlier acted
        | inr late ↦
            let e : d ≡ n = omega arith in
            let on : are_acted c.args.last.now n ≡ true = rw e at acted in
            let before : alarms_in (drop c.loop-c.next c.args.ends.now) ≡ f n ∷ map f later = i.rest f all ∙ ap (map f) (filter_on (are_acted c.args.last.now) n below on) in
            rw e (get_or-set_same c.loop-c.alarmed n c.take_end-flag.result.0 false (rw i.size below) ∙ (c.take_end-flag.ensures.taken (f n) (map f later) on before).0)
      ];
    }
