use Rattle.nc_control_flow.proofs.Nesting.{end_of_opener, branch_of_opener, end_of_else, opener_of_end}
use Rattle.nc_control_flow.proofs.laws.structures_are_found.Goals as goal

pub returns : goal.returns
returns c = record {
  ends = end_of_opener;
  branches = branch_of_opener;
  after_else = end_of_else;
  openers = opener_of_end;
}
