use Rattle.std.proofs.Common.{rules, ◌≤◌}
use Rattle.path_geometry.proofs.RadiusLaws.{ceil_root_bound}
use Rattle.path_geometry.proofs.arcs.root_above.Goals as goal

pub overflow_cast-result : goal.overflow_cast-result
overflow_cast-result c =
    let small : c.from.result ≤ 800000000000000 = search rules in
    let bound : c.isqrt_ceil.result ≤ 28284272 = ceil_root_bound c.isqrt_ceil.result c.from.result c.isqrt_ceil.ensures.least small in
    search rules

pub returns-clause-size : goal.returns-clause-size
returns-clause-size c =
    let small : c.from.result ≤ 800000000000000 = search rules in
    ceil_root_bound c.isqrt_ceil.result c.from.result c.isqrt_ceil.ensures.least small
