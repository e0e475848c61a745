use Rattle.axis_sets.specs.declared.limits.TheConstants.{CHANNEL_PLACES}
use Rattle.std.proofs.Common.{◌≡◌, length, ◌∙◌, rules}
use Rattle.counter_rows.proofs.GoingLaws.{same_test, same_joint, same_count}
use Rattle.counter_rows.proofs.going.event_row.Goals as goal

pub joint_row-requires : goal.joint_row-requires
joint_row-requires c = λ x.
    let sizes : length c.args.goes.now ≡ CHANNEL_PLACES = search rules in
    let same = same_test c.same_group-chosen.result c.args.goes.now c.args.group.now c.args.number c.same_group-chosen.ensures.size sizes c.same_group-chosen.ensures.members in
    let e = same_joint c.args.own.now c.same_group-chosen.result c.args.goes.now c.args.group.now c.args.number x c.same_group-chosen.ensures.size same in
    rw e (c.requires x)

pub returns : goal.returns
returns c = λ x.
    let sizes : length c.args.goes.now ≡ CHANNEL_PLACES = search rules in
    let same = same_test c.same_group-chosen.result c.args.goes.now c.args.group.now c.args.number c.same_group-chosen.ensures.size sizes c.same_group-chosen.ensures.members in
    c.joint_row.ensures x ∙ same_count c.args.own.now c.same_group-chosen.result c.args.goes.now c.args.group.now c.args.number x c.same_group-chosen.ensures.size same
