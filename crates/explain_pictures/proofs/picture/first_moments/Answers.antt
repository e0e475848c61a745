use Rattle.explain_pictures.specs.Moments.{moments_from}
use Rattle.explain_pictures.specs.declared.picture.TheConstants.{MOMENT_LIMIT}
use Rattle.explain_pictures.proofs.KeptLaws.{shortened_alike}
use Rattle.explain_pictures.proofs.picture.first_moments.Goals as goal

pub returns : goal.returns
returns c =
    shortened_alike MOMENT_LIMIT c.add_entries.new.moments.items (moments_from 0 c.args.entries.now) c.shortened-is_cut.new.list.items c.shortened-is_cut.result
    (rw c.new-moments.ensures.items at c.in_ok-add_entries.ensures) c.shortened-is_cut.ensures
