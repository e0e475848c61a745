use Rattle.set_laws.proofs.MemberLaws.{list_all-at_member, list_all-at_other}
use Rattle.set_laws.proofs.members_pass_each.Goals as goal

pub returns-clause-all : goal.returns-clause-all
returns-clause-all c s test m all member = list_all-at_member s test m all member

pub returns-clause-others : goal.returns-clause-others
returns-clause-others c s test one m all member other = list_all-at_other s test one m all member other
