-- Where the tokens of a line stand.
use Rattle.std.proofs.Common.{◌≡◌, ℕ, zero, suc, ◌<◌, ◌≤◌, List, [], ◌∷◌, length, get_or, arith, sym, subst}
use Rattle.block_scanner.specs.declared.Token.{Token}
use Rattle.block_scanner.specs.WordsView.{WordsView}
use Rattle.block_scanner.specs.Scanned.{InOrder, IsScanned, IsTokenOf}

-- tokens in order end where they may at the latest
pub order_ends : (ts : List Token) (from to : ℕ) → InOrder from ts to → from ≤ to
order_ends [] from to h = h
order_ends (t ∷ ts) from to h =
    let following = order_ends ts t.end to h.2 in let first = h.0 in let long = h.1 in omega arith

-- each of them is not empty, and stands between the places
pub order_at : (ts : List Token) (from to i : ℕ) (d : Token) → InOrder from ts to → i < length ts
    → (from ≤ (get_or ts i d).start) × ((get_or ts i d).start < (get_or ts i d).end) × ((get_or ts i d).end ≤ to)
order_at [] from to i d h within = absurd (omega arith)
order_at (t ∷ ts) from to zero d h within = (h.0, h.1, order_ends ts t.end to h.2)
order_at (t ∷ ts) from to (suc i) d h within =
    let following = order_at ts t.end to i d h.2 (omega arith) in
    let first = h.0 in let long = h.1 in let begins = following.0 in
    (omega arith, following.1, following.2)

-- each token of a scanned line is one of this line
pub scanned_at : (words : WordsView) (tokens : List Token) (i : ℕ) (d : Token) → IsScanned words → tokens ≡ words.tokens → i < length words.tokens
    → IsTokenOf words.line (get_or tokens i d)
scanned_at words tokens i d scanned same within =
    let at = order_at words.tokens 0 (length words.line) i d scanned.ordered within in
    let is = λ (ts : List Token). IsTokenOf words.line (get_or ts i d) in
    subst is (sym same) (at.1, at.2)
