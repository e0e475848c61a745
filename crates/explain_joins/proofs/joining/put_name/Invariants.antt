use Rattle.std.proofs.Common.{◌≡◌, ◌++◌, map, take}
use Rattle.explain_joins.specs.Joined.{comment_byte}
use Rattle.explain_joins.proofs.joining.put_name.Given as goal

abbrev pub invariant-loop-byte : goal.invariant-loop-byte
invariant-loop-byte l = l.text ≡ l.initial.text ++ map comment_byte (take l.byte-index l.name)
