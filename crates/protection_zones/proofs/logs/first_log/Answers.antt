use Rattle.protection_zones.proofs.ExchangeLaws.{first_exchanges}
use Rattle.protection_zones.proofs.LogLaws.{first_counts}
use Rattle.protection_zones.proofs.logs.first_log.Goals as goal

pub returns : goal.returns
returns c = record {
  size = c.in_ok-outsets.ensures.size;
  outsets = c.in_ok-outsets.ensures.outsets;
  exchanges = rw c.new.ensures.items first_exchanges;
  counts = first_counts;
}
