use Rattle.std.proofs.Common.{◌≡◌, take}
use Rattle.std.specs.List.{flat_map}
use Rattle.explain_refused.specs.Listing.{editor_line}
use Rattle.explain_refused.proofs.listing.lines_text.Given as goal

abbrev pub invariant-loop-row : goal.invariant-loop-row
invariant-loop-row l = l.text ≡ flat_map (editor_line l.name l.lines) (take l.row-index l.rows)
