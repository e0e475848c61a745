-- Lists, one element more.
use Rattle.std.proofs.Common.{◌≡◌, ◌∙◌, ℕ, ◌+◌, ◌-◌, ◌<◌, ◌≤◌, List, [], ◌∷◌, ◌++◌, append-nil, append_assoc, get_or, length, map, take, refl, sym, ap, add-one, zero-add, arith}
use Rattle.std.proofs.lemmas.Grind.{flat_map-append}
use Rattle.std.proofs.lemmas.List.{take_all, take_more}
use Rattle.std.specs.List.{flat_map, range_with_len}
use Rattle.number_laws.proofs.Lists.{range_with_len-push}

pub flat_map-push : {X Y : Type 0} (f : X → List Y) (xs : List X) (x : X) → flat_map f (xs ++ x ∷ []) ≡ flat_map f xs ++ f x
flat_map-push f xs x = flat_map-append f xs (x ∷ []) ∙ ap (λ (ys : List _). flat_map f xs ++ ys) (append-nil (f x))

pub map-push : {X Y : Type 0} (f : X → Y) (xs : List X) (x : X) → map f (xs ++ x ∷ []) ≡ map f xs ++ f x ∷ []
map-push f [] x = refl
map-push f (y ∷ ys) x = ap (λ (zs : List _). f y ∷ zs) (map-push f ys x)

-- what was added before, and for an element more
added : {Y : Type 0} (first old new more : List Y) (here : List Y) → old ≡ first ++ more → new ≡ old ++ here → new ≡ first ++ (more ++ here)
added first old new more here before after = after ∙ ap (λ (ys : List _). ys ++ here) before ∙ append_assoc first more here

-- of views
pub viewed_more : {X Y Z : Type 0} (f : Y → List Z) (view : X → Y) (xs : List X) (i : ℕ) (x : X) (first old new : List Z) → i < length xs → x ≡ get_or xs i x
    → old ≡ first ++ flat_map f (map view (take i xs)) → new ≡ old ++ f (view x) → new ≡ first ++ flat_map f (map view (take (i + 1) xs))
viewed_more f view xs i x first old new within is before after =
    added first old new (flat_map f (map view (take i xs))) (f (view x)) before after
    ∙ ap (λ (ys : List _). first ++ ys)
    (sym (
    ap (λ (ys : List _). flat_map f (map view ys)) (take_more xs i x within ∙ ap (λ (y : _). take i xs ++ y ∷ []) (sym is))
    ∙ ap (flat_map f) (map-push view (take i xs) x) ∙ flat_map-push f (map view (take i xs)) (view x)
    ))

-- of the elements
pub more : {X Z : Type 0} (f : X → List Z) (xs : List X) (i : ℕ) (x : X) (first old new : List Z) → i < length xs → x ≡ get_or xs i x
    → old ≡ first ++ flat_map f (take i xs) → new ≡ old ++ f x → new ≡ first ++ flat_map f (take (i + 1) xs)
more f xs i x first old new within is before after =
    added first old new (flat_map f (take i xs)) (f x) before after
    ∙ ap (λ (ys : List _). first ++ ys)
    (sym (ap (flat_map f) (take_more xs i x within ∙ ap (λ (y : _). take i xs ++ y ∷ []) (sym is)) ∙ flat_map-push f (take i xs) x))

pub whole : {X Z : Type 0} (f : X → List Z) (xs : List X) (i : ℕ) (first new : List Z) → i ≡ length xs → new ≡ first ++ flat_map f (take i xs) → new ≡ first ++ flat_map f xs
whole f xs i first new all is = is ∙ ap (λ (ys : List _). first ++ flat_map f ys) (take_all i xs (omega (arith, all)))

-- of numbers
pub range_more : {Z : Type 0} (f : ℕ → List Z) (a n : ℕ) (first old new : List Z) → old ≡ first ++ flat_map f (range_with_len a n) → new ≡ old ++ f (a + n)
    → new ≡ first ++ flat_map f (range_with_len a (n + 1))
range_more f a n first old new before after =
    added first old new (flat_map f (range_with_len a n)) (f (a + n)) before after
    ∙ ap (λ (ys : List _). first ++ ys) (sym (rw add-one (ap (flat_map f) (range_with_len-push a n) ∙ flat_map-push f (range_with_len a n) (a + n))))

-- of numbers from 0 on
pub count_more : {Z : Type 0} (f : ℕ → List Z) (n : ℕ) (first old new : List Z) → old ≡ first ++ flat_map f (range_with_len 0 n) → new ≡ old ++ f n → new ≡ first ++ flat_map f (range_with_len 0 (n + 1))
count_more f n first old new before after = range_more f 0 n first old new before (after ∙ ap (λ (k : ℕ). old ++ f k) (sym (zero-add n)))

-- of numbers from 1 on
pub channel_more : {Z : Type 0} (f : ℕ → List Z) (n : ℕ) (old new : List Z) → 1 ≤ n → old ≡ flat_map f (range_with_len 1 (n - 1)) → new ≡ old ++ f n → new ≡ flat_map f (range_with_len 1 ((n + 1) - 1))
channel_more f n old new from before after =
    let here : 1 + (n - 1) ≡ n = omega (arith, from) in
    let next : (n - 1) + 1 ≡ (n + 1) - 1 = omega (arith, from) in
    range_more f 1 (n - 1) [] old new before (after ∙ ap (λ (k : ℕ). old ++ f k) (sym here)) ∙ ap (λ (k : ℕ). flat_map f (range_with_len 1 k)) next

-- one list after another
pub two : {A : Type 0} (s t u a b : List A) → t ≡ s ++ a → u ≡ t ++ b → u ≡ s ++ (a ++ b)
two s t u a b one next = next ∙ ap (λ (xs : List _). xs ++ b) one ∙ append_assoc s a b

pub three : {A : Type 0} (s t u v a b c : List A) → t ≡ s ++ a → u ≡ t ++ b → v ≡ u ++ c → v ≡ s ++ (a ++ (b ++ c))
three s t u v a b c one next last = two s t v a (b ++ c) one (two t u v b c next last)

pub four : {A : Type 0} (s t u v w a b c d : List A) → t ≡ s ++ a → u ≡ t ++ b → v ≡ u ++ c → w ≡ v ++ d → w ≡ s ++ (a ++ (b ++ (c ++ d)))
four s t u v w a b c d one next third last = two s t w a (b ++ (c ++ d)) one (three t u v w b c d next third last)

pub five : {A : Type 0} (s t u v w x a b c d e : List A) → t ≡ s ++ a → u ≡ t ++ b → v ≡ u ++ c → w ≡ v ++ d → x ≡ w ++ e → x ≡ s ++ (a ++ (b ++ (c ++ (d ++ e))))
five s t u v w x a b c d e one next third fourth last = two s t x a (b ++ (c ++ (d ++ e))) one (four t u v w x b c d e next third fourth last)

-- a list of what numbers from 0 on give
pub one_pushed : {X : Type 0} (f : ℕ → X) (n : ℕ) (old new : List X) → old ≡ map f (range_with_len 0 n) → new ≡ old ++ f n ∷ [] → new ≡ map f (range_with_len 0 (n + 1))
one_pushed f n old new before after =
    after ∙ ap (λ (xs : List _). xs ++ f n ∷ []) before ∙ sym (rw add-one (ap (map f) (range_with_len-push 0 n) ∙ map-push f (range_with_len 0 n) (0 + n) ∙ ap (λ (k : ℕ). map f (range_with_len 0 n) ++ f k ∷ []) (zero-add n)))
