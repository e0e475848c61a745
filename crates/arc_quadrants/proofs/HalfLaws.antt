-- Parts of a quarter: some part holds what the quarter holds, and each part lies between the quarter's directions.
use Rattle.std.proofs.Common.{◌≡◌, ◌∙◌, ◌+◌, ◌-◌, ◌*◌, ◌^◌, ◌<◌, ◌≤◌, ◌⊎◌, ℕ, zero, suc, inl, inr, List, [], ◌∷◌, ◌++◌, Some, length, refl, ap, sym, subst, arith, length-append, pow-suc}
use Rattle.std.proofs.Math.Nat.{mul-le-mul, mul-le-mul_left}
use Rattle.std.proofs.lemmas.List.{get_or_append_left, get_or-append-add}
use Rattle.std.proofs.lemmas.List.Elements.{All-nil, All-cons, All-append}
use Rattle.std.specs.List.{All, Any, slice_get}
use Rattle.number_laws.proofs.Naturals.{le_or_lt}
use Rattle.arc_quadrants.specs.Bounds.{IsDirection}
use Rattle.arc_quadrants.specs.Halves.{middle, halves, IsShort}
use Rattle.arc_quadrants.specs.Quarters.{IsNear}

-- (x, y) lies between two directions
pub record IsAmong (x y : ℕ) (d : (ℕ × ℕ) × (ℕ × ℕ)) : Type 0 where
  pub ahead : d.0.1 * x ≤ d.0.0 * y
  pub following : y * d.1.0 ≤ x * d.1.1

pub any_left : {X : Type 0} (P : X → Type 0) (xs ys : List X) → Any P xs → Any P (xs ++ ys)
any_left P xs ys (k, x, within, at, holds) =
    (k, x, omega (arith, length-append xs ys), get_or_append_left xs ys x k within ∙ at, holds)

pub any_right : {X : Type 0} (P : X → Type 0) (xs ys : List X) → Any P ys → Any P (xs ++ ys)
any_right P xs ys (k, x, within, at, holds) =
    (length xs + k, x, omega (arith, length-append xs ys), get_or-append-add xs ys k x ∙ at, holds)

-- the middle is not ahead, or it is
either_half : (depth : ℕ) (a b : ℕ × ℕ) (x y : ℕ) → IsAmong x y (a, b)
    → (IsAmong x y (a, middle a b) → Any (IsAmong x y) (halves depth a (middle a b)))
    → (IsAmong x y (middle a b, b) → Any (IsAmong x y) (halves depth (middle a b) b))
    → ((middle a b).1 * x ≤ (middle a b).0 * y) ⊎ ((middle a b).0 * y < (middle a b).1 * x) → Any (IsAmong x y) (halves (suc depth) a b)
either_half depth a b x y among left right (inl ahead) =
    any_right (IsAmong x y) (halves depth a (middle a b)) (halves depth (middle a b) b) (right (record { ahead = ahead; following = among.following }))
either_half depth a b x y among left right (inr before) =
    any_left (IsAmong x y) (halves depth a (middle a b)) (halves depth (middle a b) b)
    (left (record { ahead = among.ahead; following = omega arith }))

pub some_half : (depth : ℕ) (a b : ℕ × ℕ) (x y : ℕ) → IsAmong x y (a, b) → Any (IsAmong x y) (halves depth a b)
some_half zero a b x y among = (0, (a, b), omega arith, refl, among)
some_half (suc depth) a b x y among =
    either_half depth a b x y among (some_half depth a (middle a b) x y) (some_half depth (middle a b) b x y)
    (le_or_lt ((middle a b).1 * x) ((middle a b).0 * y))

-- ---- each direction of a part is some of the one direction and some of the other
pub record IsMix (a b c : ℕ × ℕ) : Type 0 where
  pub i : ℕ
  pub j : ℕ
  pub some : 0 < i + j
  pub first : c.0 ≡ i * a.0 + j * b.0
  pub second : c.1 ≡ i * a.1 + j * b.1

mix_middle : (a b c d : ℕ × ℕ) → IsMix a b c → IsMix a b d → IsMix a b (middle c d)
mix_middle a b c d m n =
    record { i = m.i + n.i; j = m.j + n.j; some = omega (arith, m.some); first = omega (arith, m.first, n.first); second = omega (arith, m.second, n.second) }

halves_mixed : (depth : ℕ) (a b c d : ℕ × ℕ) → IsMix a b c → IsMix a b d → All (λ h. IsMix a b h.0 × IsMix a b h.1) (halves depth c d)
halves_mixed zero a b c d m n = All-cons (λ h. IsMix a b h.0 × IsMix a b h.1) (c, d) [] (m, n) (All-nil (λ h. IsMix a b h.0 × IsMix a b h.1))
halves_mixed (suc depth) a b c d m n =
    All-append (λ h. IsMix a b h.0 × IsMix a b h.1) (halves depth c (middle c d)) (halves depth (middle c d) d)
    (halves_mixed depth a b c (middle c d) m (mix_middle a b c d m n))
    (halves_mixed depth a b (middle c d) d (mix_middle a b c d m n) n)

pub halves_within : (depth : ℕ) (a b : ℕ × ℕ) → All (λ h. IsMix a b h.0 × IsMix a b h.1) (halves depth a b)
halves_within depth a b =
    halves_mixed depth a b a b
    (record { i = 1; j = 0; some = omega arith; first = omega arith; second = omega arith })
    (record { i = 0; j = 1; some = omega arith; first = omega arith; second = omega arith })

-- it lies between the two
pub mix_ahead : (a b c : ℕ × ℕ) → a.1 * b.0 ≤ a.0 * b.1 → IsMix a b c → a.1 * c.0 ≤ a.0 * c.1
mix_ahead a b c h m = rw (m.first, m.second) (omega (arith, mul-le-mul_left m.j h))

pub mix_after : (a b c : ℕ × ℕ) → a.1 * b.0 ≤ a.0 * b.1 → IsMix a b c → c.1 * b.0 ≤ c.0 * b.1
mix_after a b c h m = rw (m.first, m.second) (omega (arith, mul-le-mul_left m.i h))

pub length-halves : (depth : ℕ) (a b : ℕ × ℕ) → length (halves depth a b) ≡ 2 ^ depth
length-halves zero a b = refl
length-halves (suc depth) a b =
    omega (arith, length-append (halves depth a (middle a b)) (halves depth (middle a b) b), length-halves depth a (middle a b), length-halves depth (middle a b) b)

-- ---- one part as the code meets it
pub few_parts : (depth : ℕ) → depth ≤ 4 → 2 ^ depth ≤ 16
few_parts zero h = omega arith
few_parts (suc zero) h = omega arith
few_parts (suc (suc zero)) h = omega arith
few_parts (suc (suc (suc zero))) h = omega arith
few_parts (suc (suc (suc (suc zero)))) h = omega arith
few_parts (suc (suc (suc (suc (suc n))))) h = absurd (omega arith)

-- the whole quarter
pub part_none : (depth : ℕ) (a b : ℕ × ℕ) (place : ℕ) → depth ≡ 0 → place < 2 ^ depth → slice_get (halves depth a b) place ≡ Some (a, b)
part_none zero a b zero e h = refl
part_none zero a b (suc place) e h = absurd (omega arith)
part_none (suc depth) a b place e h = absurd (omega arith)

pub get_left : {X : Type 0} (xs ys : List X) (k : ℕ) (x : X) → slice_get xs k ≡ Some x → slice_get (xs ++ ys) k ≡ Some x
get_left [] ys k x h = absurd (cc)
get_left (y ∷ xs) ys zero x h = h
get_left (y ∷ xs) ys (suc k) x h = get_left xs ys k x h

pub get_right : {X : Type 0} (xs ys : List X) (n k : ℕ) → length xs ≡ n → n ≤ k → slice_get (xs ++ ys) k ≡ slice_get ys (k - n)
get_right [] ys n k e h = let z : k - n ≡ k = omega arith in rw z refl
get_right (y ∷ xs) ys n zero e h = absurd (omega arith)
get_right (y ∷ xs) ys n (suc k) e h =
    let z : suc k - n ≡ k - (n - 1) = omega arith in rw z (get_right xs ys (n - 1) k (omega arith) (omega arith))

part_left_suc : (depth : ℕ) (a b : ℕ × ℕ) (place : ℕ) (r : (ℕ × ℕ) × (ℕ × ℕ)) → slice_get (halves depth a (middle a b)) place ≡ Some r
    → slice_get (halves (suc depth) a b) place ≡ Some r
part_left_suc depth a b place r h = get_left (halves depth a (middle a b)) (halves depth (middle a b) b) place r h

part_right_suc : (depth : ℕ) (a b : ℕ × ℕ) (place : ℕ) (r : (ℕ × ℕ) × (ℕ × ℕ)) → 2 ^ depth ≤ place
    → slice_get (halves depth (middle a b) b) (place - 2 ^ depth) ≡ Some r → slice_get (halves (suc depth) a b) place ≡ Some r
part_right_suc depth a b place r h e =
    get_right (halves depth a (middle a b)) (halves depth (middle a b) b) (2 ^ depth) place (length-halves depth a (middle a b)) h ∙ e

pub part_left : (depth half : ℕ) (a b m : ℕ × ℕ) (place : ℕ) (r : (ℕ × ℕ) × (ℕ × ℕ)) → (depth ≡ 0 → ⊥) → m ≡ middle a b
    → slice_get (halves (depth - 1) a m) place ≡ Some r → slice_get (halves depth a b) place ≡ Some r
part_left zero half a b m place r some e h = absurd (some refl)
part_left (suc depth) half a b m place r some e h =
    let one : suc depth - 1 ≡ depth = omega arith in
    part_left_suc depth a b place r
    (subst (λ (n : ℕ). slice_get (halves n a (middle a b)) place ≡ Some r) one (subst (λ (c : ℕ × ℕ). slice_get (halves (suc depth - 1) a c) place ≡ Some r) e h))

pub part_right : (depth half : ℕ) (a b m : ℕ × ℕ) (place : ℕ) (r : (ℕ × ℕ) × (ℕ × ℕ)) → (depth ≡ 0 → ⊥) → m ≡ middle a b
    → half ≡ 2 ^ (depth - 1) → half ≤ place → slice_get (halves (depth - 1) m b) (place - half) ≡ Some r → slice_get (halves depth a b) place ≡ Some r
part_right zero half a b m place r some e f le h = absurd (some refl)
part_right (suc depth) half a b m place r some e f le h =
    let one : suc depth - 1 ≡ depth = omega arith in
    let is : half ≡ 2 ^ depth = f ∙ ap (λ (n : ℕ). 2 ^ n) one in
    part_right_suc depth a b place r (omega arith)
    (subst (λ (n : ℕ). slice_get (halves depth (middle a b) b) (place - n) ≡ Some r) is
    (subst (λ (n : ℕ). slice_get (halves n (middle a b) b) (place - half) ≡ Some r) one
    (subst (λ (c : ℕ × ℕ). slice_get (halves (suc depth - 1) c b) (place - half) ≡ Some r) e h)))

-- what is short enough for a depth stays so at the next one
short_less : (n : ℕ) (p : ℕ) → p * 2 ^ suc n < 536870912 → p * 2 ^ n < 536870912
short_less n p h = let e = pow-suc 2 n in omega (arith, ap (λ (m : ℕ). p * m) e)

pub short_from : (depth : ℕ) (a : ℕ × ℕ) → (depth ≡ 0 → ⊥) → IsShort depth a → IsShort (depth - 1) a
short_from zero a some short = absurd (some refl)
short_from (suc depth) a some short =
    let one : suc depth - 1 ≡ depth = omega arith in
    subst (λ (n : ℕ). IsShort n a) (sym one)
    (record {
      some = short.some;
      first = short_less depth a.0 short.first;
      second = short_less depth a.1 short.second;
    })

sum_short : (n p q : ℕ) → p * 2 ^ suc n < 536870912 → q * 2 ^ suc n < 536870912 → (p + q) * 2 ^ n < 536870912
sum_short n p q h k = let e = pow-suc 2 n in omega (arith, ap (λ (m : ℕ). p * m) e, ap (λ (m : ℕ). q * m) e)

pub short_middle : (depth : ℕ) (a b m : ℕ × ℕ) → (depth ≡ 0 → ⊥) → m ≡ middle a b → IsShort depth a → IsShort depth b → IsShort (depth - 1) m
short_middle zero a b m some e p q = absurd (some refl)
short_middle (suc depth) a b m some e p q =
    let one : suc depth - 1 ≡ depth = omega arith in
    subst (λ (n : ℕ). IsShort n m) (sym one)
    (subst (λ (c : ℕ × ℕ). IsShort depth c) (sym e)
    (record { some = omega (arith, p.some); first = sum_short depth a.0 b.0 p.first q.first; second = sum_short depth a.1 b.1 p.second q.second }))

pub second_half : (depth place half : ℕ) → (depth ≡ 0 → ⊥) → place < 2 ^ depth → half ≡ 2 ^ (depth - 1) → half ≤ place → place - half < 2 ^ (depth - 1)
second_half zero place half some h e le = absurd (some refl)
second_half (suc depth) place half some h e le =
    let one : suc depth - 1 ≡ depth = omega arith in
    let is : half ≡ 2 ^ depth = e ∙ ap (λ (n : ℕ). 2 ^ n) one in
    subst (λ (n : ℕ). place - half < 2 ^ n) (sym one) (omega (arith, pow-suc 2 depth))

-- one that is not cut any more
pub direction_from_short : (depth : ℕ) (a : ℕ × ℕ) → depth ≡ 0 → IsShort depth a → IsDirection a
direction_from_short zero a e short = record { some = short.some; first = omega (arith, short.first); second = omega (arith, short.second) }
direction_from_short (suc depth) a e short = absurd (omega arith)

-- a direction of a quarter of a sound arc can be cut four times
pub near_short : (depth : ℕ) (d : ℕ × ℕ) → depth ≤ 4 → IsNear 30000000 d → IsShort depth d
near_short depth d deep near =
    let few = few_parts depth deep in
    record { some = near.some; first = omega (arith, mul-le-mul near.first few); second = omega (arith, mul-le-mul near.second few) }

pub ruleset part_steps = (part_none, part_left, part_right, short_from, short_middle, second_half, direction_from_short)
