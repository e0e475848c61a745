use Rattle.std.proofs.Common.{ℕ, ◌∙◌, sym}
use Rattle.std.specs.Prelude.{◌==◌}
use Rattle.nc_expressions.specs.Tree.{Tree}
use Rattle.nc_blocks.specs.Statement.{frame_entry}
use Rattle.nc_blocks.proofs.Listing.{any_of_views}
use Rattle.nc_forms.proofs.frames.has_axis.Goals as goal

pub returns : goal.returns
returns c = c.is_given.ensures ∙ sym (any_of_views frame_entry (λ (p : ℕ × Tree). p.0 == c.args.axis) c.args.before.now)
