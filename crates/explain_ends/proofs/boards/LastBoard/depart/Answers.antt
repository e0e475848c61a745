use Rattle.axis_sets.specs.declared.limits.TheConstants.{CHANNEL_LIMIT}
use Rattle.std.proofs.Common.{◌≡◌, ◌∙◌, rules, ℕ, ◌+◌, ◌<◌, ◌==◌, ◌&&◌, not, Option, None, [], inl, inr, ap, sym, refl, arith, add-one, if◌then◌else◌, slice_index_or}
use Rattle.std.proofs.lemmas.Bool.{cases_Bool, eqb-true, eqb-false}
use Rattle.axis_sets.specs.Sets.{has}
use Rattle.explain_ends.proofs.StepLaws.{mark_apart}
use Rattle.step_deeds.specs.Holds.{is_given, lowers_at}
use Rattle.step_deeds.specs.declared.deed.Wakeup.{Wakeup}
use Rattle.explain_ends.proofs.boards.LastBoard.depart.Goals as goal

pub loop-place-preserved : goal.loop-place-preserved
loop-place-preserved c =
    let n = c.loop-place.place in
    let i = c.loop-place.invariant in
    let gone : c.departure_at-gone.result ≡ slice_index_or c.args.goes.now (n + 1) None = c.departure_at-gone.ensures in
    record {
      marks_done = λ k m from below. c.let_go_if.ensures.marks k m ∙ elim (cases_Bool (k == n + 1)) [
        | inl same ↦
            let e : k ≡ n + 1 = eqb-true k (n + 1) same in
            let later : n < k = omega arith in
            rw (same, i.marks_left k m later, i.holds_left k later)
            (ap (λ (g : Option Wakeup). has (slice_index_or c.args.self.now.marks k []) m && not (is_given g && lowers_at (slice_index_or c.args.self.now.holds k None) m))
            (gone ∙ ap (λ (j : ℕ). slice_index_or c.args.goes.now j None) (sym e)))
        | inr other ↦
            let apart = eqb-false k (n + 1) other in
            rw other (mark_apart (has (slice_index_or c.loop-place.self.marks k []) m) (is_given c.departure_at-gone.result) (lowers_at (slice_index_or c.loop-place.self.holds k None) m) ∙ i.marks_done k m from (omega arith))
      ];
      marks_left = λ k m later. c.let_go_if.ensures.marks k m ∙ elim (cases_Bool (k == n + 1)) [
        | inl same ↦ let e : k ≡ n + 1 = eqb-true k (n + 1) same in absurd (omega arith)
        | inr other ↦ rw other (mark_apart (has (slice_index_or c.loop-place.self.marks k []) m) (is_given c.departure_at-gone.result) (lowers_at (slice_index_or c.loop-place.self.holds k None) m) ∙ i.marks_left k m (omega arith))
      ];
      holds_done = λ k from below. c.let_go_if.ensures.holds k ∙ elim (cases_Bool (k == n + 1)) [
        | inl same ↦
            let e : k ≡ n + 1 = eqb-true k (n + 1) same in
            let later : n < k = omega arith in
            rw (same, i.holds_left k later)
            (ap (λ (g : Option Wakeup). if is_given g then None else slice_index_or c.args.self.now.holds k None) (gone ∙ ap (λ (j : ℕ). slice_index_or c.args.goes.now j None) (sym e)))
        | inr other ↦ let apart = eqb-false k (n + 1) other in rw other (i.holds_done k from (omega arith))
      ];
      holds_left = λ k later. c.let_go_if.ensures.holds k ∙ elim (cases_Bool (k == n + 1)) [
        | inl same ↦ let e : k ≡ n + 1 = eqb-true k (n + 1) same in absurd (omega arith)
        | inr other ↦ rw other (i.holds_left k (omega arith))
      ];
      owners = λ x low. c.let_go_if.ensures.owners x low ∙ rw (add-one, i.owners x low, gone, add-one) refl;
    }

pub returns-clause-marks : goal.returns-clause-marks
returns-clause-marks c = λ k m from below. c.loop-place.invariant.marks_done k m from (omega arith)

pub returns-clause-holds : goal.returns-clause-holds
returns-clause-holds c = λ k from below. c.loop-place.invariant.holds_done k from (omega arith)

pub returns-clause-owners : goal.returns-clause-owners
returns-clause-owners c = λ x low.
    let last : c.loop-place.place ≡ CHANNEL_LIMIT = search rules in
    c.loop-place.invariant.owners x low ∙ rw last refl
