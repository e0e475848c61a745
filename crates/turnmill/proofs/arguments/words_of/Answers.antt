-- The words are the arguments after the first.
use Rattle.std.proofs.Common.{refl, ap, map, string_bytes}
use Rattle.std.proofs.lemmas.Iterator.{items_from_collect}
use Rattle.std.proofs.lemmas.Iterator.Adapters.{YieldsList-from_vec, YieldsList-from_skip}
use Rattle.std.proofs.lemmas.Result.{IfOk-at_ok}
use Rattle.turnmill.proofs.arguments.words_of.Goals as goal

pub returns-in-Ok-collect : goal.returns-in-Ok-collect
returns-in-Ok-collect c =
    let following = YieldsList-from_skip {ys = c.in-Ok.arguments.rest.items} 1
    (YieldsList-from_vec _ (rw c.skip.ensures.source refl) (rw c.skip.ensures.source c.in-Ok.arguments.rest.ok.0)) c.skip.ensures.count in
    let words = IfOk-at_ok _ c.in-Ok-collect.is (items_from_collect _ c.collect.ensures.ran following) in
    rw c.in-Ok.is (ap (map string_bytes) words)
