use Rattle.std.proofs.Common.{◌≡◌, map, take}
use Rattle.explain_joins.specs.Names.{name_byte}
use Rattle.explain_joins.proofs.names.letters_for.Given as goal

abbrev pub invariant-loop-byte : goal.invariant-loop-byte
invariant-loop-byte l = l.letters.items ≡ map name_byte (take l.byte-index l.text)
