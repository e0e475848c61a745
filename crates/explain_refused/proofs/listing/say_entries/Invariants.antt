use Rattle.std.proofs.Common.{◌≡◌, ◌++◌, take}
use Rattle.std.specs.List.{flat_map}
use Rattle.explain_refused.specs.Listing.{entry_of}
use Rattle.explain_refused.proofs.listing.say_entries.Given as goal

abbrev pub invariant-loop-row : goal.invariant-loop-row
invariant-loop-row l = l.text ≡ l.initial.text ++ flat_map (entry_of l.quiet l.lines) (take l.row-index l.rows)
