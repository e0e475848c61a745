use Rattle.order_clocks.proofs.WholeLaws.{stops_tell}
use Rattle.order_clocks.proofs.stops.stops_by_places.Goals as goal

pub returns : goal.returns
returns c = λ b whole. stops_tell b c.args.entries.now c.args.ends.now c.last_places-last.result c.alarmed_of-alarmed.result whole c.last_places-last.ensures.places c.last_places-last.ensures.channels c.alarmed_of-alarmed.ensures
