use Rattle.std.proofs.Common.{◌∙◌}
use Rattle.clash_check.proofs.KeptLaws.{rows_more}
use Rattle.clash_check.proofs.meetings.meets_made.Goals as goal

pub returns-clause-kept : goal.returns-clause-kept
returns-clause-kept c = record {
  covers = c.requires.kept.covers;
  pieces =
      rows_more c.args.two.now.scene.now.job.now c.args.two.now.scene.now.run.now c.args.two.now.right.now.zone.now c.args.two.now.right.now.stretch.now c.args.boxes.now c.args.kept.now.pieces.rows c.keep.new.self.rows c.args.place _
      c.over-others.result c.requires.place (c.over-others.ensures ∙ c.boxes_by_pieces-made.ensures) c.requires.kept.pieces c.keep.ensures.place c.keep.ensures.others;
}
