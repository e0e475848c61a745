use Rattle.nc_syntax.specs.Jumps.{pair_at}
use Rattle.nc_blocks.proofs.Listing.{plain_more, plain_last}
use Rattle.nc_syntax.proofs.jumps.pairs_at.Goals as goal

pub returns-then-not-more : goal.returns-then-not-more
returns-then-not-more c =
    plain_last (λ before. pair_at c.args.words.now) c.args.words.now c.args.start c.loop-list.at c.in_ok-pair.end
    c.loop-list.list.items _ c.in_ok-pair.pair c.in_ok-pair.more c.loop-list.invariant.so_far c.in_ok-pair.ensures.exact
    c.if-not-more.true c.in_ok-pair.ensures.within.0 c.in_ok-pair.ensures.within.1 c.in_ok-push.ensures.items

pub loop-list-preserved : goal.loop-list-preserved
loop-list-preserved c = record {
  within = c.in_ok-pair.ensures.within.1;
  so_far = plain_more (λ before. pair_at c.args.words.now) c.args.words.now c.args.start c.loop-list.at c.in_ok-pair.end
      c.loop-list.list.items _ c.in_ok-pair.pair c.in_ok-pair.more c.loop-list.invariant.so_far c.in_ok-pair.ensures.exact
      c.if-not-more.false c.in_ok-pair.ensures.within.0 c.in_ok-pair.ensures.within.1 c.in_ok-push.ensures.items;
}
