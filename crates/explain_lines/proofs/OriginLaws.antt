-- Laws of headers, and of marks in texts.
use Rattle.std.proofs.Common.{◌≡◌, ◌∙◌, ℕ, zero, suc, ◌+◌, ◌-◌, ◌<◌, ◌≤◌, ◌==◌, true, false, List, [], ◌∷◌, ◌++◌, length, take, drop, get_or, drop-cons, None, Some, refl, sym, subst, ap, arith, append-nil, length-drop}
use native.Mathlib.Numerals.{unary_clauses}
use Rattle.std.specs.List.{slice_get, slice_index}
use Rattle.std.specs.Str.{bytes_eq}
use Rattle.explain_lines.specs.Headers.{AreHeaders}
use Rattle.explain_lines.specs.Lines.{line_text}
use Rattle.std.proofs.lemmas.Slice.Eq.{bytes_eq-Decides}
use Rattle.std.proofs.lemmas.List.{length-take, take-append-drop, drop-drop}
use Rattle.explain_lines.specs.Origins.{header_of, parts_of, nearer_parts, HasMark}

pub header_stays : (input : List ℕ) (n : ℕ) → 0 < n → (slice_index (line_text input n) 0 == 37) ≡ false → header_of input (n - 1) ≡ header_of input n
header_stays input zero some other = absurd (omega arith)
header_stays input (suc n) some other = simp unary_clauses (rw other refl)

pub header_found : (input : List ℕ) (n : ℕ) → 0 < n → (slice_index (line_text input n) 0 == 37) ≡ true → n ≡ header_of input n
header_found input zero some here = absurd (omega arith)
header_found input (suc n) some here = rw here refl

-- what stands before a part in which the mark stands belongs to the front
parts_behind : (mark front rest before after : List ℕ) → parts_of mark rest ≡ Some (before, after) → parts_of mark (front ++ rest) ≡ Some (front ++ before, after)
parts_behind mark [] rest before after e = e
parts_behind mark (byte ∷ front) rest before after e = ap (nearer_parts mark byte (front ++ rest)) (parts_behind mark front rest before after e)

-- a byte before a part in which the mark does not stand
cut_at : (text : List ℕ) (n : ℕ) → 0 < n → n ≤ length text → drop (n - 1) text ≡ get_or text (n - 1) 0 ∷ drop n text
cut_at text zero some fits = absurd (omega arith)
cut_at text (suc n) some fits = let less : n < length text = omega arith in simp unary_clauses (drop-cons text n 0 less)

pub mark_found : (mark text : List ℕ) (n : ℕ) → 0 < n → n ≤ length text → parts_of mark (drop n text) ≡ None → bytes_eq (take (length mark) (drop (n - 1) text)) mark ≡ true → HasMark mark text (n - 1)
mark_found mark text n some fits none stands =
    let cut : drop (n - 1) text ≡ get_or text (n - 1) 0 ∷ drop n text = cut_at text n some fits in
    let here : bytes_eq (take (length mark) (get_or text (n - 1) 0 ∷ drop n text)) mark ≡ true = rw cut at stands in
    let found : parts_of mark (get_or text (n - 1) 0 ∷ drop n text) ≡ Some ([], drop (length mark) (get_or text (n - 1) 0 ∷ drop n text)) = rw (none, here) refl in
    let near : parts_of mark (drop (n - 1) text) ≡ Some ([], drop (length mark) (drop (n - 1) text)) = rw cut found in
    let far : parts_of mark (take (n - 1) text ++ drop (n - 1) text) ≡ Some (take (n - 1) text ++ [], drop (length mark) (drop (n - 1) text)) =
    parts_behind mark (take (n - 1) text) (drop (n - 1) text) [] (drop (length mark) (drop (n - 1) text)) near in
    let same : take (length mark) (drop (n - 1) text) ≡ mark = (bytes_eq-Decides (take (length mark) (drop (n - 1) text)) mark).0 stands in
    let long : length (take (length mark) (drop (n - 1) text)) ≡ length mark = ap length same in
    record {
      within = omega (arith, long, length-take (length mark) (drop (n - 1) text), length-drop (n - 1) text);
      parts = rw (take-append-drop, append-nil, drop-drop) at far;
    }

pub mark_not_yet : (mark text : List ℕ) (n : ℕ) → 0 < n → n ≤ length text → parts_of mark (drop n text) ≡ None → bytes_eq (take (length mark) (drop (n - 1) text)) mark ≡ false
    → parts_of mark (drop (n - 1) text) ≡ None
mark_not_yet mark text n some fits none absent =
    let cut : drop (n - 1) text ≡ get_or text (n - 1) 0 ∷ drop n text = cut_at text n some fits in
    let here : bytes_eq (take (length mark) (get_or text (n - 1) 0 ∷ drop n text)) mark ≡ false = rw cut at absent in
    rw (cut, none, here) refl

-- what holds of each place of a list holds of one item more
pub kept_more : (P : ℕ → ℕ → Type 0) (xs : List ℕ) (x : ℕ) → ((n h : ℕ) → slice_get xs n ≡ Some h → P n h) → P (length xs) x
    → (n h : ℕ) → slice_get (xs ++ x ∷ []) n ≡ Some h → P n h
kept_more P [] x each last zero h e = let same : x ≡ h = cc in subst (λ (k : ℕ). P 0 k) same last
kept_more P [] x each last (suc n) h e = absurd cc
kept_more P (y ∷ ys) x each last zero h e = each zero h e
kept_more P (y ∷ ys) x each last (suc n) h e = kept_more (λ (m k : ℕ). P (suc m) k) ys x (λ m k f. each (suc m) k f) last n h e

pub headers_more : (input : List ℕ) (old new : List ℕ) (line x : ℕ) → new ≡ old ++ x ∷ [] → length old ≡ line + 1 → AreHeaders input old → x ≡ header_of input (line + 1) → AreHeaders input new
headers_more input old new line x more long kept is =
    subst (λ (headers : List ℕ). AreHeaders input headers) (sym more)
    (kept_more (λ (n h : ℕ). h ≡ header_of input n) old x kept (is ∙ ap (header_of input) (sym long)))
