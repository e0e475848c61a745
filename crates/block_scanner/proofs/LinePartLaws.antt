-- What is kept of a line when more of its bytes are taken.
use Rattle.std.proofs.Common.{◌≡◌, ◌∙◌, ℕ, ◌+◌, ◌-◌, ◌≤◌, Bool, true, false, nat_lt, List, [], ◌∷◌, ◌++◌, length, take, min, refl, sym, ap, subst, arith, length-append}
use Rattle.std.proofs.Math.Seq.{take-append-add}
use Rattle.std.proofs.lemmas.Bool.Decides.{nat_tests}
use Rattle.std.proofs.lemmas.List.{take_min, take_all, take-append-le, length-take-le, length-take}
use Rattle.block_scanner.specs.LineParts.{LinePart, part_of}

-- room that is filled as far as there are bytes
pub take_filled : (n a : ℕ) (front bytes : List ℕ) → length front ≡ a → a ≤ n → front ++ take (min (n - a) (length bytes)) bytes ≡ take n (front ++ bytes)
take_filled n a front bytes long within =
    let same : length front + (n - a) ≡ n = omega (arith, long) in
    ap (λ xs. front ++ xs) (take_min (n - a) bytes) ∙ sym (take-append-add front bytes (n - a)) ∙ ap (λ k. take k (front ++ bytes)) same

-- the first bytes of a line, of which the first bytes before were kept
pub take_kept : (n : ℕ) (front bytes : List ℕ) → take n (take n front ++ bytes) ≡ take n (front ++ bytes)
take_kept n front bytes = by (nat_lt n (length front)) refl
  where
    by : (b : Bool) → nat_lt n (length front) ≡ b → take n (take n front ++ bytes) ≡ take n (front ++ bytes)
    by true more =
        let less : n ≤ length front = grind (arith, nat_tests) in
        let full : length (take n front) ≡ n = length-take-le n front less in
        take-append-le n (take n front) bytes (omega (arith, full)) ∙ take_all n (take n front) (omega (arith, full)) ∙ sym (take-append-le n front bytes less)
    by false more =
        let all : length front ≤ n = grind (arith, nat_tests) in
        ap (λ xs. take n (xs ++ bytes)) (take_all n front all)

-- a line that is too long stays so
longer : (n k m : ℕ) → nat_lt n k ≡ true → nat_lt n (k + m) ≡ true
longer n k m more = grind (arith, nat_tests)

-- a line is too long when there is no room for more of its bytes
no_room : (n k m : ℕ) → nat_lt n k ≡ false → nat_lt (n - min n k) m ≡ nat_lt n (k + m)
no_room n k m fits = grind (arith, nat_tests)

pub long_by : (n k m : ℕ) (long now : Bool) → long ≡ nat_lt n k → (long ≡ true → now ≡ true) → (long ≡ false → now ≡ nat_lt (n - min n k) m) → now ≡ nat_lt n (k + m)
long_by n k m true now was more fits = more refl ∙ sym (longer n k m (sym was))
long_by n k m false now was more fits = fits refl ∙ no_room n k m (sym was)

-- a line of which so many bytes are kept, and the same with more bytes
pub part_more : (raw bytes buffer filled : List ℕ) (kept number : ℕ) (long now was ended : Bool) → kept ≤ 512 → length buffer ≡ 512
    → record { front = take kept buffer; too_long = long; ended = was } ≡ part_of raw false → take number filled ≡ take (length buffer) (take kept buffer ++ bytes)
    → (long ≡ true → now ≡ true) → (long ≡ false → now ≡ nat_lt (512 - kept) (length bytes))
    → record { front = take number filled; too_long = now; ended = ended } ≡ part_of (raw ++ bytes) ended
unfolding part_of
part_more raw bytes buffer filled kept number long now was ended few room is fills more fits =
    let P : LinePart → List ℕ = λ p. p.front in
    let T : LinePart → Bool = λ p. p.too_long in
    let front : take kept buffer ≡ take 512 raw = ap P is in
    let number_kept : kept ≡ min 512 (length raw) = sym (length-take-le kept buffer (omega (arith, few, room))) ∙ ap length front ∙ length-take 512 raw in
    let new_front : take number filled ≡ take 512 (raw ++ bytes) = fills ∙ rw (room, front) (take_kept 512 raw bytes) in
    let new_long : now ≡ nat_lt 512 (length (raw ++ bytes)) =
    long_by 512 (length raw) (length bytes) long now (ap T is) more (λ is_short. rw (← number_kept) (fits is_short)) ∙ ap (λ n. nat_lt 512 n) (sym (length-append raw bytes)) in
    rw (new_front, new_long) refl

pub part_ended : (raw : List ℕ) (ended : Bool) → (part_of raw ended).ended ≡ ended
unfolding part_of
part_ended raw ended = refl
