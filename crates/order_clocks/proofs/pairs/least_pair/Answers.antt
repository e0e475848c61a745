use Rattle.order_clocks.proofs.pairs.least_pair.Goals as goal

pub returns-in-Later : goal.returns-in-Later
returns-in-Later c = rw c.in-Later.is c.least_apart.ensures

pub returns-in-Together : goal.returns-in-Together
returns-in-Together c = rw c.in-Together.is c.least_unlike.ensures

pub returns-in-Waiting : goal.returns-in-Waiting
returns-in-Waiting c = rw c.in-Waiting.is c.least_waiting.ensures
