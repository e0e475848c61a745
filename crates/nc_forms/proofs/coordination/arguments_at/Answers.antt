use Rattle.nc_blocks.specs.Indices.{OperandFits}
use Rattle.nc_blocks.specs.Statement.{operand_view}
use Rattle.nc_forms.specs.Coordination.{argument_at}
use Rattle.nc_blocks.proofs.Listing.{list_more, list_last, fits_more}
use Rattle.nc_forms.proofs.coordination.arguments_at.Goals as goal

pub returns-then-not-more-clause-exact : goal.returns-then-not-more-clause-exact
returns-then-not-more-clause-exact c =
    list_last (λ before. argument_at c.args.words.now c.args.kind) operand_view c.args.words.now c.args.start c.loop-list.at c.in_ok-argument.end
    c.loop-list.list.items _ c.in_ok-argument.argument c.in_ok-argument.more c.loop-list.invariant.so_far c.in_ok-argument.ensures.exact
    c.if-not-more.true c.in_ok-argument.ensures.within.0 c.in_ok-argument.ensures.within.1 c.in_ok-push.ensures.items

pub returns-then-not-more-clause-indices : goal.returns-then-not-more-clause-indices
returns-then-not-more-clause-indices c =
    fits_more OperandFits operand_view c.loop-list.list.items _ c.in_ok-argument.argument c.loop-list.invariant.fits c.in_ok-argument.ensures.indices c.in_ok-push.ensures.items

pub loop-list-preserved : goal.loop-list-preserved
loop-list-preserved c = record {
  within = c.in_ok-argument.ensures.within.1;
  so_far = list_more (λ before. argument_at c.args.words.now c.args.kind) operand_view c.args.words.now c.args.start c.loop-list.at c.in_ok-argument.end
      c.loop-list.list.items _ c.in_ok-argument.argument c.in_ok-argument.more c.loop-list.invariant.so_far c.in_ok-argument.ensures.exact
      c.if-not-more.false c.in_ok-argument.ensures.within.0 c.in_ok-argument.ensures.within.1 c.in_ok-push.ensures.items;
  fits = fits_more OperandFits operand_view c.loop-list.list.items _ c.in_ok-argument.argument c.loop-list.invariant.fits c.in_ok-argument.ensures.indices c.in_ok-push.ensures.items;
}
