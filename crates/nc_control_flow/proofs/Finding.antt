-- Places that pass a test, in ascending order.
use Rattle.std.proofs.Common.{◌≡◌, ℕ, ◌+◌, ◌-◌, ◌<◌, ◌≤◌, Bool, true, false, List, length, get_or, ap, ◌∙◌, arith, reverse, Some, None}
use Rattle.std.specs.Prelude.{find, slice_get, nat_lt}
use Rattle.std.proofs.lemmas.List.{get_or-reverse, length-reverse}
use Rattle.std.proofs.lemmas.List.Sums.{position_or_len_is}
use Rattle.std.proofs.lemmas.List.Folds.{find_at}
use Rattle.std.proofs.lemmas.Option.{slice_get-get_or, slice_get_past}
use Rattle.std.proofs.lemmas.Bool.{lt-ltb, le-ltb}

-- the first that passes stands where all before it fail
pub find_is : {X : Type 0} (test : X → Bool) (xs : List X) (n : ℕ) (d : X) → n ≤ length xs → ((k : ℕ) → k < n → test (get_or xs k d) ≡ false)
    → (n < length xs → test (get_or xs n d) ≡ true) → find test xs ≡ slice_get xs n
find_is test xs n d within before at = find_at test xs ∙ ap (λ k. slice_get xs k) (position_or_len_is test xs n d within before at)

pub found_after : (places : List ℕ) (pc count : ℕ) → count ≤ length places → ((k : ℕ) → k < count → get_or places k 0 < pc + 1)
    → ((k : ℕ) → count ≤ k → k < length places → pc + 1 ≤ get_or places k 0) → find (λ place. nat_lt pc place) places ≡ slice_get places count
found_after places pc count within below above =
    find_is (λ place. nat_lt pc place) places count 0 within (λ k h. le-ltb pc (get_or places k 0) (omega (arith, below k h)))
    (λ h. lt-ltb pc (get_or places count 0) (omega (arith, above count (omega arith) h)))

pub found_none : (places : List ℕ) (pc : ℕ) → ((k : ℕ) → 0 ≤ k → k < length places → pc ≤ get_or places k 0)
    → find (λ place. nat_lt place pc) (reverse places) ≡ None
found_none places pc above =
    find_is (λ place. nat_lt place pc) (reverse places) (length (reverse places)) 0 (omega arith)
    (λ k h. let inside : k < length places = omega (arith, length-reverse places) in
    rw (get_or-reverse places k 0 inside) (le-ltb (get_or places (length places - 1 - k) 0) pc (above (length places - 1 - k) (omega arith) (omega arith))))
    (λ h. absurd (omega arith))
    ∙ slice_get_past (reverse places) (length (reverse places)) (omega arith)

pub found_before : (places : List ℕ) (pc last : ℕ) → last < length places → get_or places last 0 < pc
    → ((k : ℕ) → last + 1 ≤ k → k < length places → pc ≤ get_or places k 0)
    → find (λ place. nat_lt place pc) (reverse places) ≡ Some (get_or places last 0)
found_before places pc last within at above =
    let long : length (reverse places) ≡ length places = length-reverse places in
    let n : ℕ = length places - 1 - last in
    let here : length places - 1 - n ≡ last = omega arith in
    let read : get_or (reverse places) n 0 ≡ get_or places last 0 = get_or-reverse places n 0 (omega arith) ∙ ap (λ k. get_or places k 0) here in
    find_is (λ place. nat_lt place pc) (reverse places) n 0 (omega arith)
    (λ k h. let inside : k < length places = omega arith in
    rw (get_or-reverse places k 0 inside) (le-ltb (get_or places (length places - 1 - k) 0) pc (above (length places - 1 - k) (omega arith) (omega arith))))
    (λ h. rw read (lt-ltb (get_or places last 0) pc at))
    ∙ slice_get-get_or (reverse places) n 0 (omega arith) ∙ ap (λ x. Some x) read
