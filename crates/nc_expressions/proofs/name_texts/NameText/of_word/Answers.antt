-- At the loop's end all bytes of the front are pushed, and the front is the first 32 bytes of the word.
use Rattle.std.proofs.Common.{◌≡◌, ◌∙◌, ap, ◌≤◌, ℕ, List, length, take, min, arith}
use Rattle.std.proofs.lemmas.List.{take_all, take_min}
use Rattle.nc_expressions.specs.NameTexts.{upper}
use Rattle.nc_expressions.proofs.name_texts.NameText.of_word.Goals as goal

front : (at cut : ℕ) (word : List ℕ) → cut ≡ min (length word) 32 → length (take cut word) ≤ at → take at (take cut word) ≡ take 32 word
front at cut word is reached =
    let other : cut ≡ min 32 (length word) = omega arith in
    take_all at (take cut word) reached ∙ (ap (λ n. take n word) other ∙ take_min 32 word)

pub returns : goal.returns
returns c =
    rw c.loop-byte.invariant (ap upper (front c.loop-byte.byte-index c.min.result c.args.word.now c.min.ensures c.loop-byte-test.false))
