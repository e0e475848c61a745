use Rattle.std.proofs.Common.{arith}
use Rattle.order_clocks.proofs.search.RaceSearch.new.Goals as goal

pub returns : goal.returns
returns c = λ b moves. record {
  first = λ i race within is. absurd (omega arith);
  last = λ none. record { places = λ d t. c.in_ok-places.ensures t d };
}
