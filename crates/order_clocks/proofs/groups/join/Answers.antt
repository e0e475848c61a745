use Rattle.order_clocks.proofs.GroupLaws.{relabel_keeps, relabel_joins, relabel_links}
use Rattle.order_clocks.proofs.groups.join.Goals as goal

pub returns-clause-kept : goal.returns-clause-kept
returns-clause-kept c = λ d e d_below e_below same. relabel_keeps c.args.group.now c.relabel.new.group c.args.a c.args.b d e c.relabel.ensures.group d_below e_below same

pub returns-clause-joined : goal.returns-clause-joined
returns-clause-joined c = relabel_joins c.args.group.now c.relabel.new.group c.args.a c.args.b c.relabel.ensures.group c.requires.first c.requires.second

pub returns-clause-linked : goal.returns-clause-linked
returns-clause-linked c = λ ps pair all. relabel_links ps c.args.group.now c.relabel.new.group c.args.a c.args.b c.relabel.ensures.group c.requires.first c.requires.second pair all
