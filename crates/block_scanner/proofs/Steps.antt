-- Steps of the scanner's loops.
use Rattle.std.proofs.Common.{◌≡◌, ℕ, zero, suc, ◌+◌, ◌<◌, ◌≤◌, List, [], ◌∷◌, ◌++◌, length, drop, refl, sym, ◌∙◌, ap, append_assoc, arith, Result, Ok, Err}
use Rattle.std.proofs.lemmas.List.{append-nil}
use Rattle.std.proofs.lemmas.List.Sums.{prefix_len-drop_yes, prefix_len-drop_no, prefix_len-drop_all}
use Rattle.block_scanner.specs.declared.Kind.{Kind}
use Rattle.block_scanner.specs.declared.ScanFault.{ScanFault}
use Rattle.block_scanner.specs.declared.ScanFault.TheVariants.{BadByte, OpenText}
use Rattle.block_scanner.specs.declared.Token.{Token}
use Rattle.block_scanner.specs.declared.beginnings.Front.TheVariants.{Blank, Comment, Stands, Forbidden, Unclosed}
use Rattle.block_scanner.specs.Front.{front}
use Rattle.block_scanner.specs.Scanned.{InOrder}
use Rattle.block_scanner.specs.Tokens.{before, go_on, tokens_from}

pub ruleset prefix_steps = (prefix_len-drop_yes, prefix_len-drop_no, prefix_len-drop_all)

-- tokens before what a line has from a place on
abbrev pub onto : List Token → Result (List Token) ScanFault → Result (List Token) ScanFault
onto tokens (Ok more) = Ok (tokens ++ more)
onto tokens (Err fault) = Err fault

onto-before : (ts : List Token) (t : Token) (rest : Result (List Token) ScanFault) → onto ts (before t rest) ≡ onto (ts ++ t ∷ []) rest
onto-before ts t (Ok more) = ap (λ (l : List Token). Ok l) (sym (append_assoc ts (t ∷ []) more))
onto-before ts t (Err fault) = refl

-- what a line has from a place on, by what stands there
pub tokens_from-step : (at : ℕ) (xs : List ℕ) (b : ℕ) (bs : List ℕ) → xs ≡ b ∷ bs → tokens_from at xs zero ≡ go_on (front b bs) at (tokens_from (at + 1) bs)
unfolding tokens_from
tokens_from-step at xs b bs h = ap (λ l. tokens_from at l zero) h

-- bytes of the token before are passed
pub tokens_from-skip : (more at : ℕ) (bs : List ℕ) → more ≤ length bs → tokens_from at bs more ≡ tokens_from (at + more) (drop more bs) zero
unfolding tokens_from
tokens_from-skip zero at bs h = let same : at ≡ at + zero = omega arith in ap (λ n. tokens_from n bs zero) same
tokens_from-skip (suc more) at [] h = absurd (omega arith)
tokens_from-skip (suc more) at (b ∷ bs) h =
    let same : at + 1 + more ≡ at + suc more = omega arith in
    tokens_from-skip more (at + 1) bs (omega arith) ∙ ap (λ n. tokens_from n (drop more bs) zero) same

pub end_step : (ts : List Token) (at : ℕ) (xs : List ℕ) → length xs ≡ 0 → onto ts (tokens_from at xs zero) ≡ Ok ts
unfolding tokens_from
end_step ts at [] h = ap (λ (l : List Token). Ok l) (append-nil ts)
end_step ts at (x ∷ xs) h = absurd (omega arith)

pub blank_step : (ts : List Token) (at : ℕ) (xs : List ℕ) (b : ℕ) (bs : List ℕ) → xs ≡ b ∷ bs → Blank ≡ front b bs
    → onto ts (tokens_from at xs zero) ≡ onto ts (tokens_from (at + 1) bs zero)
blank_step ts at xs b bs h stands =
    ap (onto ts) (tokens_from-step at xs b bs h ∙ ap (λ f. go_on f at (tokens_from (at + 1) bs)) (sym stands))

pub comment_step : (ts : List Token) (at : ℕ) (xs : List ℕ) (b : ℕ) (bs : List ℕ) → xs ≡ b ∷ bs → Comment ≡ front b bs
    → onto ts (tokens_from at xs zero) ≡ Ok ts
comment_step ts at xs b bs h stands =
    ap (onto ts) (tokens_from-step at xs b bs h ∙ ap (λ f. go_on f at (tokens_from (at + 1) bs)) (sym stands))
    ∙ ap (λ (l : List Token). Ok l) (append-nil ts)

pub bad_step : (ts : List Token) (at : ℕ) (xs : List ℕ) (b : ℕ) (bs : List ℕ) → xs ≡ b ∷ bs → Forbidden ≡ front b bs
    → onto ts (tokens_from at xs zero) ≡ Err (BadByte at)
bad_step ts at xs b bs h stands =
    ap (onto ts) (tokens_from-step at xs b bs h ∙ ap (λ f. go_on f at (tokens_from (at + 1) bs)) (sym stands))

pub open_step : (ts : List Token) (at : ℕ) (xs : List ℕ) (b : ℕ) (bs : List ℕ) → xs ≡ b ∷ bs → Unclosed ≡ front b bs
    → onto ts (tokens_from at xs zero) ≡ Err (OpenText at)
open_step ts at xs b bs h stands =
    ap (onto ts) (tokens_from-step at xs b bs h ∙ ap (λ f. go_on f at (tokens_from (at + 1) bs)) (sym stands))

pub token_step : (ts : List Token) (at : ℕ) (xs : List ℕ) (b : ℕ) (bs : List ℕ) (kind : Kind) (more : ℕ) → xs ≡ b ∷ bs → Stands kind more ≡ front b bs → more ≤ length bs
    → onto ts (tokens_from at xs zero) ≡ onto (ts ++ record { kind = kind; start = at; end = at + 1 + more } ∷ []) (tokens_from (at + 1 + more) (drop more bs) zero)
token_step ts at xs b bs kind more h stands fits =
    let token : Token = record { kind = kind; start = at; end = at + 1 + more } in
    ap (onto ts) (tokens_from-step at xs b bs h ∙ ap (λ f. go_on f at (tokens_from (at + 1) bs)) (sym stands))
    ∙ onto-before ts token (tokens_from (at + 1) bs more)
    ∙ ap (onto (ts ++ token ∷ [])) (tokens_from-skip more (at + 1) bs fits)

-- one more token after those that are in order
pub order_push : (ts : List Token) (t : Token) (from at : ℕ) → ((to : ℕ) → at ≤ to → InOrder from ts to) → at ≤ t.start → t.start < t.end
    → (to : ℕ) → t.end ≤ to → InOrder from (ts ++ t ∷ []) to
order_push [] t from at ordered above long to within =
    let first : from ≤ at = ordered at (omega arith) in (omega arith, long, within)
order_push (u ∷ us) t from at ordered above long to within =
    let here = ordered (at + to) (omega arith) in
    (here.0, here.1, order_push us t u.end at (λ n le. (ordered n le).2) above long to within)

-- tokens in order are no more than the places between which they stand
pub order_length : (ts : List Token) (from to : ℕ) → InOrder from ts to → length ts + from ≤ to
order_length [] from to h = let first : from ≤ to = h in omega arith
order_length (t ∷ ts) from to h =
    let following = order_length ts t.end to h.2 in let first = h.0 in let long = h.1 in omega arith

pub ruleset scan_steps = (blank_step, comment_step, bad_step, open_step, token_step, end_step, order_push, order_length)
