use Rattle.std.proofs.Common.{rules, ◌≡◌, ℕ, ◌==◌, ◌&&◌, not, Bool, true, false, List, None, inl, inr, refl}
use Rattle.std.specs.Prelude.{is_some}
use Rattle.std.proofs.lemmas.Bool.{cases_Bool, eqb-true}
use Rattle.axis_sets.specs.Sets.{has}
use Rattle.order_clocks.specs.Watching.{go_in}
use Rattle.order_clocks.proofs.WatchLaws.{is_absent}
use Rattle.order_clocks.proofs.watch.BoardReplay.let_go_of.Goals as goal
use Rattle.sync_types.specs.declared.runs.Go.{Go}

never : (goes : List Go) (n d : ℕ) → go_in goes n ≡ None → ((d == n) && is_some (go_in goes d)) ≡ false
never goes n d none = elim (cases_Bool (d == n)) [
  | inl same ↦ rw (same, eqb-true d n same, none) refl
  | inr other ↦ rw other refl
]

unmarked : (t : Bool) → t ≡ (t && not false)
unmarked true = refl
unmarked false = refl

pub returns-then-not-goers-c-clause-gone : goal.returns-then-not-goers-c-clause-gone
returns-then-not-goers-c-clause-gone c =
    let off : has c.args.goers.now c.args.number ≡ false = search rules in
    rw (is_absent c.args.goes.now c.args.goers.now c.args.number c.requires.goers off) (record {})

pub returns-then-not-goers-c-clause-holds : goal.returns-then-not-goers-c-clause-holds
returns-then-not-goers-c-clause-holds c = λ d.
    let off : has c.args.goers.now c.args.number ≡ false = search rules in
    rw (never c.args.goes.now c.args.number d (is_absent c.args.goes.now c.args.goers.now c.args.number c.requires.goers off)) refl

pub returns-then-not-goers-c-clause-marks : goal.returns-then-not-goers-c-clause-marks
returns-then-not-goers-c-clause-marks c = λ d m.
    let off : has c.args.goers.now c.args.number ≡ false = search rules in
    rw (never c.args.goes.now c.args.number d (is_absent c.args.goes.now c.args.goers.now c.args.number c.requires.goers off)) (unmarked _)
