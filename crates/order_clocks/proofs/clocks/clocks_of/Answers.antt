use Rattle.order_clocks.proofs.WholeLaws.{whole_of}
use Rattle.order_clocks.proofs.clocks.clocks_of.Goals as goal
use Rattle.sync_types.specs.Boards.{first_board}

pub read_run-requires-clause-whole : goal.read_run-requires-clause-whole
read_run-requires-clause-whole c = (first_board c.requires.whole.0, rw (c.entries.ensures, c.ends.ensures) (whole_of c.requires.whole.0 c.args.run.now c.requires.whole.1))

pub returns : goal.returns
returns c = record {
  order = λ start comes.
      let whole = whole_of start c.args.run.now comes in
      rw c.entries.ensures at (c.read_run.ensures.order (first_board start) (rw (c.entries.ensures, c.ends.ensures) whole));
  race = λ start comes.
      let whole = whole_of start c.args.run.now comes in
      rw c.entries.ensures at (c.read_run.ensures.race (first_board start) (rw (c.entries.ensures, c.ends.ensures) whole));
}
