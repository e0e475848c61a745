-- Where no comma between digits can stand.
use Rattle.std.proofs.Common.{◌≡◌, ℕ, ◌<◌, List, [], ◌∷◌, length, None, refl, arith}
use Rattle.explain_refused.specs.Slips.{comma_place}
use Rattle.explain_refused.specs.declared.line_words.LineWord.{LineWord}

pub short_none : (depth : ℕ) (words : List LineWord) → length words < 3 → comma_place depth words ≡ None
short_none depth [] short = refl
short_none depth (whole ∷ []) short = refl
short_none depth (whole ∷ comma ∷ []) short = refl
short_none depth (whole ∷ comma ∷ decimals ∷ words) short = absurd (omega (arith, short))
