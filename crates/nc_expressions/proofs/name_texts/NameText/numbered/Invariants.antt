-- The bytes pushed so far are L and the first digits.
use Rattle.std.proofs.Common.{◌≡◌, ◌∷◌, take}
use Rattle.nc_expressions.proofs.name_texts.NameText.numbered.Given as goal

abbrev pub invariant-loop-digit : goal.invariant-loop-digit
invariant-loop-digit l = l.bytes.items ≡ 76 ∷ take l.digit-index l.digits
