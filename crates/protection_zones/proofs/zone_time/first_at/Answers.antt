use Rattle.std.proofs.Common.{sym}
use Rattle.protection_zones.proofs.SpanLaws.{first_past, first_there}
use Rattle.protection_zones.proofs.zone_time.first_at.Goals as goal

pub returns-then-place-outsets : goal.returns-then-place-outsets
returns-then-place-outsets c = sym (first_there c.args.outsets.now c.args.place c.index-outsets-place.result c.if-place-outsets.true)

pub returns-else-place-outsets : goal.returns-else-place-outsets
returns-else-place-outsets c = sym (first_past c.args.outsets.now c.args.place c.if-place-outsets.false)
