-- A stack of places holds what the searches find.
use Rattle.std.proofs.Common.{◌≡◌, ℕ, zero, suc, ◌+◌, ◌-◌, ◌<◌, ◌≤◌, List, [], ◌∷◌, ◌++◌, length, get_or, take, drop, reverse, refl, sym, ap, ◌∙◌, arith, Option, unwrap_or}
use Rattle.std.specs.Prelude.{slice_get}
use Rattle.std.specs.List.{enumerate_from}
use Rattle.std.proofs.Common.{set, ⊎_elim, All}
use Rattle.std.proofs.lemmas.List.Elements.{All-nil, All-cons, All-head, All-tail, All-take, All-drop}
use Rattle.std.proofs.lemmas.Bool.{cases_eq}
use Rattle.std.proofs.lemmas.List.{reverse-append, drop_more, drop_all, take_more, get_or-set_same, get_or-set_other, get_or_push, get_or_append_left, get_or-reverse, length-reverse}
use Rattle.nc_control_flow.specs.declared.parts.Part.{Part}
use Rattle.nc_control_flow.specs.declared.parts.Part.TheVariants.{Opens, Branches, Closes, Neither}
use Rattle.nc_control_flow.specs.declared.parts.Sought.{Sought}
use Rattle.nc_control_flow.specs.Places.{with_places, those_after, those_before}
use Rattle.nc_control_flow.specs.Matching.{part_in_search, count, matching}
use Rattle.nc_control_flow.specs.Pending.{places_with_part, pending_places}

without_first : (places : List ℕ) (k : ℕ) → slice_get places (suc k) ≡ slice_get (drop 1 places) k
without_first [] k = refl
without_first (p ∷ ps) k = refl

-- one part more
step : (part : Part) (place more : ℕ) (places : List ℕ) (onward : ℕ → Option ℕ) → ((k : ℕ) → onward k ≡ slice_get places k)
    → count part place more onward ≡ slice_get (places_with_part part place places) more
step Closes place zero places onward h = refl
step Closes place (suc more) places onward h = h more
step Branches place zero places onward h = refl
step Branches place (suc more) places onward h = h (suc more) ∙ without_first places more
step Opens place more places onward h = h (suc more) ∙ without_first places more
step Neither place more places onward h = h more

pub matching_is : (sought : Sought) (more : ℕ) (es : List (ℕ × Part)) → matching sought more es ≡ slice_get (pending_places sought es) more
matching_is sought more [] = refl
matching_is sought more (e ∷ es) =
    step (part_in_search sought e.1) e.0 more (pending_places sought es) (λ others. matching sought others es) (λ k. matching_is sought k es)

-- ---- one block further
pub length-placed : {B : Type 0} (at : ℕ) (bs : List B) → length (enumerate_from at bs) ≡ length bs
length-placed at [] = refl
length-placed at (b ∷ bs) = ap suc (length-placed (at + 1) bs)

pub placed_entry : {B : Type 0} (at n : ℕ) (bs : List B) (b : B) → n < length bs → get_or (enumerate_from at bs) n (0, b) ≡ (at + n, get_or bs n b)
placed_entry at n [] b h = absurd (omega arith)
placed_entry at zero (x ∷ bs) b h = let same : at ≡ at + zero = omega arith in ap (λ k. (k, x)) same
placed_entry at (suc n) (x ∷ bs) b h =
    let same : at + 1 + n ≡ at + suc n = omega arith in placed_entry (at + 1) n bs b (omega arith) ∙ ap (λ k. (k, get_or bs n b)) same

pub ahead_at : {B : Type 0} (n : ℕ) (bs : List B) (b : B) → n < length bs → drop n (with_places bs) ≡ (n, get_or bs n b) ∷ those_after n bs
ahead_at n bs b h =
    let long : length (with_places bs) ≡ length bs = length-placed 0 bs in
    let start : 0 + n ≡ n = omega arith in
    drop_more (with_places bs) n (0, b) (omega arith)
    ∙ ap (λ e. e ∷ drop (n + 1) (with_places bs)) (placed_entry 0 n bs b h ∙ ap (λ k. (k, get_or bs n b)) start)

pub before_at : {B : Type 0} (n : ℕ) (bs : List B) (b : B) → n < length bs → those_before (n + 1) bs ≡ (n, get_or bs n b) ∷ those_before n bs
before_at n bs b h =
    let long : length (with_places bs) ≡ length bs = length-placed 0 bs in
    let start : 0 + n ≡ n = omega arith in
    let entry = placed_entry 0 n bs b h ∙ ap (λ k. (k, get_or bs n b)) start in
    ap (λ es. reverse es) (take_more (with_places bs) n (0, b) (omega arith) ∙ ap (λ e. take n (with_places bs) ++ e ∷ []) entry)
    ∙ reverse-append (take n (with_places bs)) ((n, get_or bs n b) ∷ [])

-- ---- the stack before and after one block
pub pending_none : (sought : Sought) (parts : List Part) → [] ≡ pending_places sought (drop (length parts) (with_places parts))
pending_none sought parts =
    let long : length (with_places parts) ≡ length parts = length-placed 0 parts in
    ap (λ es. pending_places sought es) (sym (drop_all (length parts) (with_places parts) (omega arith)))

pub pending_ahead : (sought : Sought) (parts : List Part) (n p : ℕ) (d : Part) (stack new : List ℕ) → n < length parts → n + 1 ≡ p
    → stack ≡ pending_places sought (drop p (with_places parts)) → new ≡ places_with_part (part_in_search sought (get_or parts n d)) n stack → new ≡ pending_places sought (drop n (with_places parts))
pending_ahead sought parts n p d stack new h next s e =
    e ∙ ap (λ ps. places_with_part (part_in_search sought (get_or parts n d)) n ps) (s ∙ ap (λ k. pending_places sought (drop k (with_places parts))) (sym next))
    ∙ sym (ap (λ es. pending_places sought es) (ahead_at n parts d h))

pub pending_before : (sought : Sought) (parts : List Part) (n : ℕ) (d : Part) (stack new : List ℕ) → n < length parts
    → stack ≡ pending_places sought (those_before n parts) → new ≡ places_with_part (part_in_search sought (get_or parts n d)) n stack → new ≡ pending_places sought (those_before (n + 1) parts)
pending_before sought parts n d stack new h s e =
    e ∙ ap (λ ps. places_with_part (part_in_search sought (get_or parts n d)) n ps) s ∙ sym (ap (λ es. pending_places sought es) (before_at n parts d h))

-- ---- what the table has of one block
top_is : (sought : Sought) (es : List (ℕ × Part)) (stack : List ℕ) (top : ℕ) → stack ≡ pending_places sought es → top ≡ unwrap_or (slice_get stack 0) 0
    → top ≡ unwrap_or (matching sought 0 es) 0
top_is sought es stack top s t = t ∙ ap (λ ps. unwrap_or (slice_get ps 0) 0) s ∙ ap (λ o. unwrap_or o 0) (sym (matching_is sought 0 es))

pub found_ahead_more : (sought : Sought) (parts : List Part) (table : List ℕ) (n p : ℕ) (stack : List ℕ) (top : ℕ) → n < length table → n + 1 ≡ p
    → stack ≡ pending_places sought (drop p (with_places parts)) → top ≡ unwrap_or (slice_get stack 0) 0
    → ((k : ℕ) → p ≤ k → k < length parts → get_or table k 0 ≡ unwrap_or (matching sought 0 (those_after k parts)) 0)
    → (k : ℕ) → n ≤ k → k < length parts → get_or (set table n top) k 0 ≡ unwrap_or (matching sought 0 (those_after k parts)) 0
found_ahead_more sought parts table n p stack top h next s t each k low high =
    ⊎_elim
    (λ (e : k ≡ n). ap (λ j. get_or (set table n top) j 0) e ∙ get_or-set_same table n top 0 h
    ∙ top_is sought (those_after n parts) stack top (s ∙ ap (λ j. pending_places sought (drop j (with_places parts))) (sym next)) t
    ∙ ap (λ j. unwrap_or (matching sought 0 (those_after j parts)) 0) (sym e))
    (λ (ne : k ≡ n → ⊥). get_or-set_other table n k top 0 ne ∙ each k (omega arith) high)
    (cases_eq k n)

pub found_before_more : (sought : Sought) (parts : List Part) (table new : List ℕ) (n : ℕ) (stack : List ℕ) (top : ℕ) → length table ≡ n
    → new ≡ table ++ top ∷ [] → stack ≡ pending_places sought (those_before n parts) → top ≡ unwrap_or (slice_get stack 0) 0
    → ((k : ℕ) → k < n → get_or table k 0 ≡ unwrap_or (matching sought 0 (those_before k parts)) 0)
    → (k : ℕ) → k < n + 1 → get_or new k 0 ≡ unwrap_or (matching sought 0 (those_before k parts)) 0
found_before_more sought parts table new n stack top long more s t each k high =
    ⊎_elim
    (λ (e : k ≡ n). ap (λ xs. get_or xs k 0) more ∙ get_or_push table top 0 k (long ∙ sym e)
    ∙ top_is sought (those_before n parts) stack top s t ∙ ap (λ j. unwrap_or (matching sought 0 (those_before j parts)) 0) (sym e))
    (λ (ne : k ≡ n → ⊥). ap (λ xs. get_or xs k 0) more ∙ get_or_append_left table (top ∷ []) 0 k (omega arith) ∙ each k (omega arith))
    (cases_eq k n)

-- ---- what is found is a place
placed_below : {B : Type 0} (at n : ℕ) (bs : List B) → at + length bs ≤ n → All (λ e. e.0 < n) (enumerate_from at bs)
placed_below {B} at n [] h = All-nil (λ (e : ℕ × B). e.0 < n)
placed_below {B} at n (b ∷ bs) h =
    All-cons (λ (e : ℕ × B). e.0 < n) (at, b) (enumerate_from (at + 1) bs) (omega arith) (placed_below (at + 1) n bs (omega arith))

All-reverse : {X : Type 0} (P : X → Type 0) (xs : List X) → All P xs → All P (reverse xs)
All-reverse P xs h k d within =
    let inside : k < length xs = omega (arith, length-reverse xs) in
    rw (get_or-reverse xs k d inside) (h (length xs - 1 - k) d (omega arith))

count_below : (part : Part) (place more n : ℕ) (onward : ℕ → Option ℕ) → place < n → ((k : ℕ) → unwrap_or (onward k) 0 < n)
    → unwrap_or (count part place more onward) 0 < n
count_below Closes place zero n onward h rest = h
count_below Closes place (suc more) n onward h rest = rest more
count_below Branches place zero n onward h rest = h
count_below Branches place (suc more) n onward h rest = rest (suc more)
count_below Opens place more n onward h rest = rest (suc more)
count_below Neither place more n onward h rest = rest more

matching_below : (sought : Sought) (more n : ℕ) (es : List (ℕ × Part)) → 0 < n → All (λ e. e.0 < n) es → unwrap_or (matching sought more es) 0 < n
matching_below sought more n [] h all = h
matching_below sought more n (e ∷ es) h all =
    count_below (part_in_search sought e.1) e.0 more n (λ others. matching sought others es) (All-head (λ (x : ℕ × Part). x.0 < n) e es all)
    (λ k. matching_below sought k n es h (All-tail (λ (x : ℕ × Part). x.0 < n) e es all))

pub found_ahead_below : (sought : Sought) (k : ℕ) (parts : List Part) → k < length parts → unwrap_or (matching sought 0 (those_after k parts)) 0 < length parts
found_ahead_below sought k parts h =
    matching_below sought 0 (length parts) (those_after k parts) (omega arith)
    (All-drop (λ (x : ℕ × Part). x.0 < length parts) (k + 1) (with_places parts) (placed_below 0 (length parts) parts (omega arith)))

pub found_before_below : (sought : Sought) (k : ℕ) (parts : List Part) → k < length parts → unwrap_or (matching sought 0 (those_before k parts)) 0 < length parts
found_before_below sought k parts h =
    matching_below sought 0 (length parts) (those_before k parts) (omega arith)
    (All-reverse (λ (x : ℕ × Part). x.0 < length parts) (take k (with_places parts))
    (All-take (λ (x : ℕ × Part). x.0 < length parts) k (with_places parts) (placed_below 0 (length parts) parts (omega arith))))
