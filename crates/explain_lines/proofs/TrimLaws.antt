-- A text is trimmed by functions as std's words say.
use Rattle.std.proofs.Common.{◌≡◌, ◌∙◌, ℕ, zero, suc, ◌-◌, ◌<◌, ◌≤◌, true, false, List, [], ◌∷◌, length, take, drop, refl, ap, arith}
use Rattle.std.proofs.lemmas.List.{length-take}
use Rattle.std.proofs.lemmas.Bool.{false≢true}
use native.Mathlib.Numerals.{unary_clauses}
use Rattle.std.specs.List.{slice_index}
use Rattle.std.specs.Char.{is_ascii_whitespace}
use Rattle.std.specs.Str.{IsAsciiWhitespaceBelow, IsAsciiWhitespaceFrom, IsTrimAsciiStart, IsTrimAscii}
use Rattle.explain_lines.specs.Trimmed.{without_start, without_end, before_end, trimmed}

pub start_from : (s : List ℕ) (m : ℕ) → m ≤ length s → IsAsciiWhitespaceBelow s m → (m < length s → is_ascii_whitespace (slice_index s m) ≡ false) → drop m s ≡ without_start s
start_from [] zero fits below stops = refl
start_from [] (suc m) fits below stops = refl
start_from (byte ∷ bytes) zero fits below stops = let no : is_ascii_whitespace byte ≡ false = stops (omega arith) in rw no
start_from (byte ∷ bytes) (suc m) fits below stops =
    let yes : is_ascii_whitespace byte ≡ true = below 0 (omega arith) in
    rw yes (start_from bytes m (omega arith) (λ i lt. below (suc i) (omega arith)) (λ lt. stops (omega arith)))

pub end_from : (s : List ℕ) (n : ℕ) → n ≤ length s → IsAsciiWhitespaceFrom s n → (0 < n → is_ascii_whitespace (slice_index s (n - 1)) ≡ false) → take n s ≡ without_end s
end_from [] zero fits from stops = refl
end_from [] (suc n) fits from stops = absurd (omega arith)
end_from (byte ∷ bytes) zero fits from stops =
    let yes : is_ascii_whitespace byte ≡ true = from 0 (omega arith) (omega arith) in
    let none : [] ≡ without_end bytes = end_from bytes zero (omega arith) (λ i low lt. from (suc i) (omega arith) (omega arith)) (λ lt. absurd (omega arith)) in
    rw (← none, yes) refl
end_from (byte ∷ bytes) (suc zero) fits from stops =
    let no : is_ascii_whitespace byte ≡ false = stops (omega arith) in
    let none : [] ≡ without_end bytes = end_from bytes zero (omega arith) (λ i low lt. from (suc i) (omega arith) (omega arith)) (λ lt. absurd (omega arith)) in
    rw (← none, no) refl
end_from (byte ∷ []) (suc (suc n)) fits from stops = absurd (omega arith)
end_from (byte ∷ next ∷ bytes) (suc (suc n)) fits from stops =
    let rest : take (suc n) (next ∷ bytes) ≡ without_end (next ∷ bytes) =
    end_from (next ∷ bytes) (suc n) (omega arith) (λ i low lt. from (suc i) (omega arith) (omega arith)) (λ lt. simp unary_clauses (simp unary_clauses at (stops (omega arith)))) in
    ap (before_end byte) rest

-- white space does not reach beyond the end
within : (s : List ℕ) (m : ℕ) → IsAsciiWhitespaceBelow s m → m ≤ length s
within [] zero below = omega arith
within [] (suc m) below = absurd (false≢true (below 0 (omega arith)))
within (byte ∷ bytes) zero below = omega arith
within (byte ∷ bytes) (suc m) below = omega (arith, within bytes m (λ i lt. below (suc i) (omega arith)))

-- one is trimmed at its start
pub start_trimmed : (s r : List ℕ) → IsTrimAsciiStart s r → r ≡ without_start s
start_trimmed s r h = h.1 ∙ start_from s h.0 (omega (arith, h.2)) h.3 h.4

-- one is trimmed at both sides
pub both_trimmed : (s r : List ℕ) → length r ≤ length s → IsTrimAscii s r → r ≡ trimmed s
unfolding trimmed
both_trimmed s r short h =
    let m : ℕ = h.0 in
    let long : length r ≡ length (take (length r) (drop m s)) = ap length h.1 in
    let fits : length r ≤ length (drop m s) = omega (arith, long, length-take (length r) (drop m s)) in
    h.1 ∙ end_from (drop m s) (length r) fits h.4 h.5 ∙ ap without_end (start_from s m (within s m h.2) h.2 h.3)
