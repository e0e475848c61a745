use Rattle.std.proofs.Common.{refl, ◌∙◌}
use Rattle.parallel_run.proofs.Returning.{fresh_made}
use Rattle.parallel_run.proofs.run.fn.work_all.map_vec.Goals as goal

pub returns-else-all_come : goal.returns-else-all_come
returns-else-all_come g c = record {
  own = c.requires.first.own;
  channel = refl;
  worker = c.new.ensures.channel ∙ c.channel-channel.ensures.channel;
  made = fresh_made (g.J.Lends.lent c.captures.lender.now) c.args.pass.start c.args.pass.seen c.new.result c.requires.first.nothing
      (c.new.ensures.worked (g.J.Lends.lent c.captures.lender.now)) (c.new.ensures.ready (g.J.Lends.lent c.captures.lender.now));
}
