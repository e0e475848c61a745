-- The words of a line, made one after the other.
use Rattle.std.proofs.Common.{◌≡◌, ◌∙◌, ℕ, ◌+◌, ◌<◌, List, [], ◌∷◌, ◌++◌, drop, length, map, get_or, sym, ap, append_assoc}
use Rattle.std.proofs.lemmas.List.{drop_more}
use Rattle.block_scanner.specs.declared.Token.{Token}
use Rattle.explain_refused.specs.declared.line_words.LineWord.{LineWord}

pub step : (f : Token → LineWord) (list : List LineWord) (tokens : List Token) (i : ℕ) (t : Token) → i < length tokens → t ≡ get_or tokens i t
    → list ++ map f (drop i tokens) ≡ (list ++ f t ∷ []) ++ map f (drop (i + 1) tokens)
step f list tokens i t within at =
    ap (λ ts. list ++ map f ts) (drop_more tokens i t within ∙ ap (λ (u : Token). u ∷ drop (i + 1) tokens) (sym at))
    ∙ sym (append_assoc list (f t ∷ []) (map f (drop (i + 1) tokens)))
