use Rattle.explain_ends.proofs.StepLaws.{told_after}
use Rattle.explain_ends.proofs.boards.LastBoard.tell.Goals as goal

pub returns : goal.returns
returns c b k step told running read =
    told_after c.args.self.now c.depart.new.self c.args.deed.now (record {
      mid = c.act.new.self;
      own_marks = c.act.ensures.marks;
      own_holds = c.act.ensures.holds;
      own_axes = c.act.ensures.owners;
      marks = c.depart.ensures.marks;
      holds = c.depart.ensures.holds;
      axes = c.depart.ensures.owners;
    }) b k step told running read
