-- Lists: what is read one after the other stands one after the other.
use Rattle.std.proofs.Common.{◌≡◌, ℕ, zero, suc, ◌+◌, ◌-◌, ◌<◌, ◌≤◌, List, [], ◌∷◌, ◌++◌, length, drop, refl, ap, sym, ◌∙◌, subst, Result, Ok, Err, Bool, true, false, arith, append_assoc}
use Rattle.std.specs.Prelude.{IsTrue}
use Rattle.block_scanner.specs.declared.Token.{Token}
use Rattle.block_scanner.specs.WordsView.{WordsView}
use Rattle.nc_blocks.specs.Lists.{Item, go_on, list_from, list_at}
use Rattle.nc_blocks.proofs.Listing.{list_goes_on, list_ends}
use Rattle.nc_forms.proofs.Marked.{bound, same_pair}

abbrev pub not_empty : {A : Type 0} → List A → Bool
not_empty [] = false
not_empty (x ∷ xs) = true

-- each thing is read at its place, and another one follows where it is not the last
abbrev pub Steps : {A : Type 0} → (List A → ℕ → Result (Item A) ℕ) → List A → ℕ → ℕ → List A → Type 0
Steps item before at end [] = end ≡ at
Steps item before at end (x ∷ xs) =
    (next : ℕ) × (at < next) × (item before at ≡ Ok (x, not_empty xs, next)) × Steps item (before ++ x ∷ []) next end xs

abbrev pub Listed : {A : Type 0} → (List A → ℕ → Result (Item A) ℕ) → List A → ℕ → ℕ → List A → Type 0
Listed {A = A} item before at end xs = (ys : List A) × (xs ≡ before ++ ys) × IsTrue (not_empty ys) × Steps item before at end ys

go_found : {A : Type 0} (item : List A → ℕ → Result (Item A) ℕ) (before : List A) (at : ℕ) (x : A) (more : Bool) (next : ℕ)
    (rest : List A → ℕ → Result (List A × ℕ) ℕ) (xs : List A) (end : ℕ) →
    item before at ≡ Ok (x, more, next) → at < next → go_on before at (x, more, next) rest ≡ Ok (xs, end) →
    (rest (before ++ x ∷ []) (next - (at + 1)) ≡ Ok (xs, end) → Listed item (before ++ x ∷ []) (at + 1 + (next - (at + 1))) end xs) →
    Listed item before at end xs
go_found item before at x true next rest xs end e h g f =
    let l = f g in
    let place : at + 1 + (next - (at + 1)) ≡ next = omega arith in
    let P = λ (n : ℕ). Steps item (before ++ x ∷ []) n end l.0 in
    let flag : item before at ≡ Ok (x, not_empty l.0, next) = e ∙ ap (λ b. Ok (x, b, next)) (sym l.2) in
    (x ∷ l.0, l.1 ∙ append_assoc before (x ∷ []) l.0, refl, (next, h, flag, subst P place l.3))
go_found item before at x false next rest xs end e h g f =
    let p = same_pair (before ++ x ∷ []) xs next end g in
    (x ∷ [], sym p.0, refl, (next, h, e, sym p.1))

pub listed_found : {A : Type 0} (item : List A → ℕ → Result (Item A) ℕ) →
    ((before : List A) (at : ℕ) (x : A) (more : Bool) (next : ℕ) → item before at ≡ Ok (x, more, next) → at < next) →
    (tokens : List Token) (more : ℕ) (before : List A) (at : ℕ) (xs : List A) (end : ℕ) → list_from item before at tokens more ≡ Ok (xs, end) →
    Listed item before (at + more) end xs
unfolding list_from
listed_found {A = A} item forward [] more before at xs end h =
    let b = bound (item before at) (λ one. Err 22) (xs, end) h in
    let no : ◌≡◌ {A = Result (List A × ℕ) ℕ} (Err 22) (Ok (xs, end)) = b.2 in cc
listed_found {A = A} item forward (t ∷ ts) zero before at xs end h =
    let rest = λ (ys : List A) (more : ℕ). list_from item ys (at + 1) ts more in
    let b = bound (item before at) (λ one. go_on before at one rest) (xs, end) h in
    let same : at ≡ at + zero = omega arith in
    let P = λ (n : ℕ). Listed item before n end xs in
    subst P same (go_found item before at b.0.0 b.0.1 b.0.2 rest xs end b.1 (forward before at b.0.0 b.0.1 b.0.2 b.1) b.2
    (λ g. listed_found item forward ts (b.0.2 - (at + 1)) (before ++ b.0.0 ∷ []) (at + 1) xs end g))
listed_found item forward (t ∷ ts) (suc more) before at xs end h =
    let same : at + 1 + more ≡ at + suc more = omega arith in
    let P = λ (n : ℕ). Listed item before n end xs in
    subst P same (listed_found item forward ts more before (at + 1) xs end h)

pub list_found : {A : Type 0} (item : List A → ℕ → Result (Item A) ℕ) →
    ((before : List A) (at : ℕ) (x : A) (more : Bool) (next : ℕ) → item before at ≡ Ok (x, more, next) → at < next) →
    (words : WordsView) (at : ℕ) (xs : List A) (end : ℕ) → list_at item words at ≡ Ok (xs, end) →
    IsTrue (not_empty xs) × Steps item [] at end xs
unfolding list_at
list_found {A = A} item forward words at xs end h =
    let l = listed_found item forward (drop at words.tokens) 0 [] at xs end h in
    let same : at + 0 ≡ at = omega arith in
    let P = λ (n : ℕ). Steps item [] n end l.0 in
    let Q = λ (ys : List A). IsTrue (not_empty ys) × Steps item [] at end ys in
    subst Q (sym l.1) (l.2, subst P same l.3)

steps_forward : {A : Type 0} (item : List A → ℕ → Result (Item A) ℕ) (xs before : List A) (at end : ℕ) → Steps item before at end xs → at ≤ end
steps_forward item [] before at end h = omega arith
steps_forward item (x ∷ xs) before at end h = omega (arith, h.1, steps_forward item xs (before ++ x ∷ []) h.0 end h.3)

pub listed_only : {A : Type 0} (item : List A → ℕ → Result (Item A) ℕ) (tokens : List Token) (xs before : List A) (at end : ℕ) →
    Steps item before at end xs → IsTrue (not_empty xs) → end ≤ length tokens → list_from item before at (drop at tokens) zero ≡ Ok (before ++ xs, end)
listed_only item tokens [] before at end h some within = cc
listed_only item tokens (x ∷ []) before at end h some within =
    list_ends item before at tokens x h.0 h.2 h.1 (omega (arith, h.3)) ∙ ap (λ n. Ok (before ++ x ∷ [], n)) (sym h.3)
listed_only item tokens (x ∷ (y ∷ ys)) before at end h some within =
    list_goes_on item before at tokens x h.0 h.2 h.1 (omega (arith, steps_forward item (y ∷ ys) (before ++ x ∷ []) h.0 end h.3, within))
    ∙ listed_only item tokens (y ∷ ys) (before ++ x ∷ []) h.0 end h.3 refl within
    ∙ ap (λ zs. Ok (zs, end)) (append_assoc before (x ∷ []) (y ∷ ys))

pub list_only : {A : Type 0} (item : List A → ℕ → Result (Item A) ℕ) (words : WordsView) (xs : List A) (at end : ℕ) →
    Steps item [] at end xs → IsTrue (not_empty xs) → end ≤ length words.tokens → list_at item words at ≡ Ok (xs, end)
unfolding list_at
list_only item words xs at end h some within = listed_only item words.tokens xs [] at end h some within
