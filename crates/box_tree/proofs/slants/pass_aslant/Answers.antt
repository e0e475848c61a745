use Rattle.box_tree.proofs.SlantLaws.{not_all}
use Rattle.box_tree.proofs.slants.pass_aslant.Goals as goal

pub returns-then-are_aslant : goal.returns-then-are_aslant
returns-then-are_aslant c on own other held held' =
    not_all own other (λ x y z. c.are_aslant.ensures c.if-are_aslant.true own other 0 1 held.xy held'.xy x y)

pub returns-then-are_aslant-2 : goal.returns-then-are_aslant-2
returns-then-are_aslant-2 c on own other held held' =
    not_all own other (λ x y z. c.are_aslant-2.ensures c.if-are_aslant-2.true own other 0 2 held.xz held'.xz x z)

pub returns : goal.returns
returns c on own other held held' = not_all own other (λ x y z. c.are_aslant-3.ensures on own other 1 2 held.yz held'.yz y z)
