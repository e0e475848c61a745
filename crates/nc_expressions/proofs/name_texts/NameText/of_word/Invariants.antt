-- The bytes pushed so far are the first of the word, in upper case.
use Rattle.std.proofs.Common.{◌≡◌, take}
use Rattle.nc_expressions.specs.NameTexts.{upper}
use Rattle.nc_expressions.proofs.name_texts.NameText.of_word.Given as goal

abbrev pub invariant-loop-byte : goal.invariant-loop-byte
invariant-loop-byte l = l.bytes.items ≡ upper (take l.byte-index l.byte-items)
