-- The moves of a program, one by one.
use Rattle.std.proofs.Common.{◌≡◌, ◌∙◌, ℕ, ◌+◌, ◌*◌, ◌%◌, List, [], ◌∷◌, ◌++◌, flat_map, refl, ap, sym, append-nil, append_assoc, add-one, add_comm}
use Rattle.std.proofs.lemmas.Grind.{flat_map-append}
use Rattle.std.specs.List.{range_with_len}
use Rattle.number_laws.proofs.Lists.{range_with_len-push}
use Rattle.sample_jobs.specs.Samples.{move_lines, random, rows}
use Rattle.sample_jobs.specs.declared.Program.{Program}

-- one move more at the end
rows-more : (program : Program) (seed n : ℕ) → rows program seed (n + 1) ≡ rows program seed n ++ move_lines program (random seed (n + 1)) (n + 1)
unfolding rows
rows-more program seed n =
    let row : range_with_len 1 (n + 1) ≡ range_with_len 1 n ++ (n + 1) ∷ [] =
    rw add-one (range_with_len-push 1 n) ∙ ap (λ (m : ℕ). range_with_len 1 n ++ m ∷ []) (add_comm 1 n) in
    let line : ℕ → List ℕ = λ i. move_lines program (random seed i) i in
    ap (flat_map line) row ∙ flat_map-append line (range_with_len 1 n) ((n + 1) ∷ []) ∙ ap (λ (ys : List ℕ). flat_map line (range_with_len 1 n) ++ ys) (append-nil (line (n + 1)))

-- a text with the moves so far, and with the next one
pub text-more : (program : Program) (seed n drawn : ℕ) (first before now : List ℕ) → drawn ≡ random seed (n + 1) → before ≡ first ++ rows program seed n
    → now ≡ before ++ move_lines program drawn (n + 1) → now ≡ first ++ rows program seed (n + 1)
text-more program seed n drawn first before now is_next so_far more =
    more ∙ ap (λ (ys : List ℕ). ys ++ move_lines program drawn (n + 1)) so_far
    ∙ ap (λ (r : ℕ). (first ++ rows program seed n) ++ move_lines program r (n + 1)) is_next
    ∙ append_assoc first (rows program seed n) (move_lines program (random seed (n + 1)) (n + 1))
    ∙ ap (λ (ys : List ℕ). first ++ ys) (sym (rows-more program seed n))

-- the random number after so many is the next one
pub random-more : (seed n drawn next : ℕ) → drawn ≡ random seed n → next ≡ (1664525 * drawn + 1013904223) % 4294967296 → next ≡ random seed (n + 1)
random-more seed n drawn next is more = more ∙ ap (λ (r : ℕ). (1664525 * r + 1013904223) % 4294967296) is ∙ rw add-one refl
