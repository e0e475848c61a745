use Rattle.axis_sets.specs.declared.limits.TheConstants.{CHANNEL_PLACES}
use Rattle.std.proofs.Common.{rules, ◌≡◌, ◌<◌, ◌==◌, false, [], None, inl, inr, length, sym, ◌∙◌, refl, arith}
use Rattle.std.specs.Prelude.{is_some, slice_index_or}
use Rattle.std.proofs.lemmas.Bool.{cases_Bool, eqb-true, eqb-false}
use Rattle.std.proofs.lemmas.List.{get_or-set_same, get_or-set_other}
use Rattle.std.proofs.Math.ListN.{get_or-eq_default}
use Rattle.axis_sets.specs.Sets.{has}
use Rattle.order_clocks.specs.Watching.{go_in}
use Rattle.order_clocks.proofs.WatchLaws.{is_done, done_more, not_done, wait_more, marks_more, is_absent, all_found, out_of_done}
use Rattle.order_clocks.proofs.watch.BoardReplay.depart.Goals as goal

pub loop-number-preserved : goal.loop-number-preserved
loop-number-preserved c =
    let n = c.loop-number.number in
    let i = c.loop-number.invariant in
    let at : c.from.result ≡ n = c.from.ensures in
    let up = c.loop-number-test.true in
    let from = i.from in
    let room : n < length c.loop-number.gone = rw i.size (omega arith) in
    record {
      size = search rules;
      from = omega arith;
      gone = λ k on. elim (cases_Bool (k == n)) [
        | inl same ↦
            let e : k ≡ n = eqb-true k n same in
            let before : slice_index_or c.loop-number.self.holds n None ≡ slice_index_or c.args.self.now.holds n None = i.holds n ∙ rw (not_done n) refl in
            rw (e, at, get_or-set_same c.loop-number.gone n c.let_go_of.result None room, sym before) c.let_go_of.ensures.gone
        | inr other ↦
            rw (at, get_or-set_other c.loop-number.gone n k c.let_go_of.result None (eqb-false k n other)) (i.gone k (rw (done_more n k from, other) at on))
      ];
      none = rw (at, get_or-set_other c.loop-number.gone n 0 c.let_go_of.result None (λ zero. absurd (omega arith))) i.none;
      holds = λ k. c.let_go_of.ensures.holds k ∙ rw (i.holds k, done_more n k from) (wait_more (k == n) (is_done n k) (is_some (go_in c.args.goes.now k)) None (slice_index_or c.args.self.now.holds k None));
      marks = λ k m. c.let_go_of.ensures.marks k m ∙ rw (i.marks k m, i.holds k, done_more n k from) (marks_more (k == n) (is_done n k) (is_some (go_in c.args.goes.now k)) (has (slice_index_or c.args.self.now.marks k []) m) (slice_index_or c.args.self.now.holds k None) m);
    }

pub returns-clause-goes : goal.returns-clause-goes
returns-clause-goes c = λ k.
    let i = c.loop-number.invariant in
    let low = c.loop-number-test.false in
    let high = c.loop-number.auto.number in
    let last : c.loop-number.number ≡ CHANNEL_PLACES = search rules in
    let goers = c.goers_in-goers.ensures in
    elim (cases_Bool (is_done CHANNEL_PLACES k)) [
      | inl on ↦ i.gone k (rw last on)
      | inr off ↦ elim (out_of_done k off) [
        | inl zero ↦ rw (zero, i.none, is_absent c.args.goes.now c.goers_in-goers.result 0 goers.members goers.from) (record {})
        | inr past ↦
            let no_place : slice_index_or c.loop-number.gone k None ≡ None = get_or-eq_default c.loop-number.gone None (rw i.size past) in
            rw (no_place, is_absent c.args.goes.now c.goers_in-goers.result k goers.members (get_or-eq_default c.goers_in-goers.result false (rw goers.size past))) (record {})
      ]
    ]

pub returns-clause-holds : goal.returns-clause-holds
returns-clause-holds c = λ k.
    let last : c.loop-number.number ≡ CHANNEL_PLACES = search rules in
    let goers = c.goers_in-goers.ensures in
    c.loop-number.invariant.holds k ∙ rw (last, all_found c.args.goes.now c.goers_in-goers.result k goers.members goers.from goers.size) refl

pub returns-clause-marks : goal.returns-clause-marks
returns-clause-marks c = λ k m.
    let last : c.loop-number.number ≡ CHANNEL_PLACES = search rules in
    let goers = c.goers_in-goers.ensures in
    c.loop-number.invariant.marks k m ∙ rw (last, all_found c.args.goes.now c.goers_in-goers.result k goers.members goers.from goers.size) refl

pub returns-clause-joined : goal.returns-clause-joined
returns-clause-joined c = λ k on. c.groups_of.ensures.joined

pub returns-clause-linked : goal.returns-clause-linked
returns-clause-linked c = λ k on. c.groups_of.ensures.linked
