use Rattle.std.proofs.Common.{◌&&◌, not, true, sym, ap, ◌∙◌}
use Rattle.std.proofs.lemmas.Bool.{false≢true}
use Rattle.axis_sets.specs.Sets.{has, members_of}
use Rattle.std.specs.List.{list_any}
use Rattle.order_clocks.proofs.ActLaws.{all_cleared, cleared, no_member, some_member}
use Rattle.sync_types.specs.BoardActions.{marks_after}
use Rattle.sync_types.specs.declared.Action.{Action}
use Rattle.order_clocks.proofs.acts.lowers_of.Goals as goal

pub returns-else-is_empty : goal.returns-else-is_empty
returns-else-is_empty c = λ m.
    let some = some_member c.in-ClearM.marks (λ none. absurd (false≢true (c.if-is_empty.ensures.empty.1 none))) in
    c.minus-else-is_empty.ensures.members m
    ∙ rw (c.minus.ensures.members m) (cleared (has c.args.own m) (has c.in-ClearM.marks m) (list_any (λ n. true) (members_of c.in-ClearM.marks)) some
    ∙ ap (λ (a : Action). has c.args.own m && not (marks_after (has c.args.own) a m)) (sym c.in-ClearM.is))

pub returns-then-is_empty : goal.returns-then-is_empty
returns-then-is_empty c = λ m.
    let empty = c.is_empty.ensures.empty.0 c.if-is_empty.true in
    all_cleared (has c.args.own m) (has c.in-ClearM.marks m) (list_any (λ n. true) (members_of c.in-ClearM.marks)) (empty m) (no_member c.in-ClearM.marks empty)
    ∙ ap (λ (a : Action). has c.args.own m && not (marks_after (has c.args.own) a m)) (sym c.in-ClearM.is)
