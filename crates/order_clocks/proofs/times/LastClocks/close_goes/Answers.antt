use Rattle.std.proofs.Common.{◌≡◌, true, refl, ◌∙◌}
use Rattle.axis_sets.specs.Sets.{has}
use Rattle.order_clocks.proofs.StepLaws.{joint_room, go_shows, closed_shows, row_at_same, below_nine}
use Rattle.order_clocks.proofs.times.LastClocks.close_goes.Goals as goal

pub joint_rows-requires : goal.joint_rows-requires
joint_rows-requires c = λ g x.
    joint_room c.args.self.now c.args.goes.now c.args.deed.now.goes c.args.deed.now.group c.own_rows-own.result g x c.requires.room c.own_rows-own.ensures.rows

pub returns-clause-rows : goal.returns-clause-rows
returns-clause-rows c = λ run i s is shows d x here.
    let on : has c.args.goes.now d ≡ true = c.requires.goers d ∙ here in
    c.joint_rows.ensures.rows d x (below_nine c.args.goes.now d c.requires.size on) on
    ∙ go_shows run i s c.args.deed.now c.args.self.now c.args.goes.now c.own_rows-own.result d x is shows c.requires.goers c.requires.size c.own_rows-own.ensures.rows here

pub returns-clause-shows : goal.returns-clause-shows
returns-clause-shows c = λ run i s is shows.
    closed_shows run i s c.args.deed.now c.args.self.now _ c.args.goes.now c.joint_rows.result is shows c.requires.goers
    (λ d x here.
    let on : has c.args.goes.now d ≡ true = c.requires.goers d ∙ here in
    c.joint_rows.ensures.rows d x (below_nine c.args.goes.now d c.requires.size on) on
    ∙ go_shows run i s c.args.deed.now c.args.self.now c.args.goes.now c.own_rows-own.result d x is shows c.requires.goers c.requires.size c.own_rows-own.ensures.rows here)
    c.put_rows.ensures.rows
    (λ k. let s_old = c.args.self.now in row_at_same (record { past = c.put_rows.new.past; raised = s_old.raised; freed = s_old.freed; started = s_old.started; ended = s_old.ended }) s_old refl refl refl refl k)
