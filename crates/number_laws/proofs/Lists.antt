-- Laws of lists: rows of numbers, elements at their places, the first that is found, some element and the last.
use Rattle.std.proofs.Common.{◌≡◌, ◌⊎◌, ◌∙◌, ℕ, zero, suc, ◌+◌, ◌<◌, Bool, true, false, cond, ◌||◌, List, [], ◌∷◌, ◌++◌, append-nil, map, length, get_or, slice_get, filter, find, flat_map, Option, None, Some, unwrap_or, IfSome, All, inl, inr, refl, sym, ap, subst, add-one, zero-add, add_comm, arith}
use Rattle.std.proofs.lemmas.Bool.{false≢true}
use Rattle.std.proofs.lemmas.List.{map-append}
use Rattle.std.proofs.lemmas.List.Elements.{All-head, All-tail, filter_map-append}
use Rattle.std.proofs.lemmas.Option.{slice_get-get_or}
use Rattle.std.specs.List.{cons_option, filter_map, last_or, list_any, range_with_len}
use Rattle.std.specs.Option.{option_to_list}

-- ---- rows of numbers

-- one number more at the end of a row
pub range_with_len-push : (a n : ℕ) → range_with_len a (suc n) ≡ range_with_len a n ++ (a + n) ∷ []
range_with_len-push a zero = let e : a ≡ a + 0 = omega arith in ap (λ (m : ℕ). m ∷ []) e
range_with_len-push a (suc n) =
    let e : (a + 1) + n ≡ a + suc n = omega arith in
    ap (λ (ms : List ℕ). a ∷ ms) (range_with_len-push (a + 1) n) ∙ ap (λ (m : ℕ). a ∷ (range_with_len (a + 1) n ++ m ∷ [])) e

-- what a test gives of one element
pub filter_map-one : {X Y : Type 0} (h : X → Option Y) (x : X) (r : Option Y) → h x ≡ r → filter_map h (x ∷ []) ≡ option_to_list r
filter_map-one h x None e = rw e refl
filter_map-one h x (Some y) e = rw e refl

-- what a test gives of one number more
pub filter_map-range_push : {Y : Type 0} (h : ℕ → Option Y) (n : ℕ) → filter_map h (range_with_len 0 (n + 1)) ≡ filter_map h (range_with_len 0 n) ++ option_to_list (h n)
filter_map-range_push h n =
    let e : range_with_len 0 (n + 1) ≡ range_with_len 0 n ++ n ∷ [] = rw add-one (range_with_len-push 0 n ∙ ap (λ (m : ℕ). range_with_len 0 n ++ m ∷ []) (zero-add n)) in
    rw e (filter_map-append h (range_with_len 0 n) (n ∷ []) ∙ ap (λ (ys : List _). filter_map h (range_with_len 0 n) ++ ys) (filter_map-one h n (h n) refl))

-- the same from any number on, each answer mapped further
pub map-range_some : {X Y : Type 0} (f : X → Y) (h : ℕ → Option X) (a n : ℕ) (x : X) (ys : List Y) → ys ≡ map f (filter_map h (range_with_len a n)) → h (n + a) ≡ Some x
    → ys ++ f x ∷ [] ≡ map f (filter_map h (range_with_len a (n + 1)))
map-range_some {X = X} f h a n x ys e s =
    let at : h (a + n) ≡ Some x = ap h (add_comm a n) ∙ s in
    let row : range_with_len a (n + 1) ≡ range_with_len a n ++ (a + n) ∷ [] = rw add-one (range_with_len-push a n) in
    let more : filter_map h (range_with_len a (n + 1)) ≡ filter_map h (range_with_len a n) ++ x ∷ [] =
    ap (filter_map h) row ∙ filter_map-append h (range_with_len a n) ((a + n) ∷ []) ∙ ap (λ (ys : List X). filter_map h (range_with_len a n) ++ ys) (filter_map-one h (a + n) (Some x) at) in
    rw (more, map-append f (filter_map h (range_with_len a n)) (x ∷ []), e) refl

pub map-range_none : {X Y : Type 0} (f : X → Y) (h : ℕ → Option X) (a n : ℕ) (ys : List Y) → ys ≡ map f (filter_map h (range_with_len a n)) → h (n + a) ≡ None
    → ys ≡ map f (filter_map h (range_with_len a (n + 1)))
map-range_none {X = X} f h a n ys e s =
    let at : h (a + n) ≡ None = ap h (add_comm a n) ∙ s in
    let row : range_with_len a (n + 1) ≡ range_with_len a n ++ (a + n) ∷ [] = rw add-one (range_with_len-push a n) in
    let more : filter_map h (range_with_len a (n + 1)) ≡ filter_map h (range_with_len a n) =
    ap (filter_map h) row ∙ filter_map-append h (range_with_len a n) ((a + n) ∷ []) ∙ ap (λ (ys : List X). filter_map h (range_with_len a n) ++ ys) (filter_map-one h (a + n) None at)
    ∙ append-nil (filter_map h (range_with_len a n)) in
    rw more e

pub filter_map-range_some : {Y : Type 0} (h : ℕ → Option Y) (n : ℕ) (y : Y) (xs : List Y) → xs ≡ filter_map h (range_with_len 0 n) → h n ≡ Some y → xs ++ y ∷ [] ≡ filter_map h (range_with_len 0 (n + 1))
filter_map-range_some h n y xs e s = rw (filter_map-range_push h n, s, e) refl

pub filter_map-range_none : {Y : Type 0} (h : ℕ → Option Y) (n : ℕ) (xs : List Y) → xs ≡ filter_map h (range_with_len 0 n) → h n ≡ None → xs ≡ filter_map h (range_with_len 0 (n + 1))
filter_map-range_none h n xs e s = rw (filter_map-range_push h n, s, append-nil (filter_map h (range_with_len 0 n))) e

-- a list of three, element by element
pub map-three : {X Y : Type 0} (f : X → Y) (xs : List X) (a b c : X) → length xs ≡ 3 → map f xs ≡ f (get_or xs 0 a) ∷ f (get_or xs 1 b) ∷ f (get_or xs 2 c) ∷ []
map-three f [] a b c n = absurd (omega arith)
map-three f (x ∷ []) a b c n = absurd (omega arith)
map-three f (x ∷ y ∷ []) a b c n = absurd (omega arith)
map-three f (x ∷ y ∷ z ∷ []) a b c n = refl
map-three f (x ∷ y ∷ z ∷ w ∷ xs) a b c n = absurd (omega arith)

-- ---- places

-- the elements before others stand at their places, and then comes the next
pub slice_get-append_left : {A : Type 0} (xs ys : List A) (k : ℕ) → k < length xs → slice_get (xs ++ ys) k ≡ slice_get xs k
slice_get-append_left [] ys k within = absurd (omega arith)
slice_get-append_left (x ∷ xs) ys zero within = refl
slice_get-append_left (x ∷ xs) ys (suc k) within = slice_get-append_left xs ys k (omega arith)

pub slice_get-append_seam : {A : Type 0} (xs : List A) (y : A) → slice_get (xs ++ y ∷ []) (length xs) ≡ Some y
slice_get-append_seam [] y = refl
slice_get-append_seam (x ∷ xs) y = slice_get-append_seam xs y

-- what holds of each element by its place holds of all
pub by_places : {X : Type 0} (P : X → Type 0) (xs : List X) → ((place : ℕ) (x : X) → slice_get xs place ≡ Some x → P x) → All P xs
by_places P xs each k d within = each k (get_or xs k d) (slice_get-get_or xs k d within)

-- ---- the last

-- the last of a list with one more, if there is one more
pub last_or-push : {A : Type 0} (o : Option A) (xs : List A) (r : Option A) (d : A) → unwrap_or (last_or o (xs ++ option_to_list r)) d ≡ unwrap_or r (unwrap_or (last_or o xs) d)
last_or-push o [] None d = refl
last_or-push o [] (Some y) d = refl
last_or-push o (x ∷ xs) r d = last_or-push (Some x) xs r d

-- what holds of what a test gives of each element holds of the last that it gives
pub last_kept : {X Y : Type 0} (P : Y → Type 0) (h : X → Option Y) (o : Option Y) (xs : List X) → IfSome o P → All (λ x. IfSome (h x) P) xs → IfSome (last_or o (filter_map h xs)) P
last_kept P h o [] first all = first
last_kept {Y = Y} P h o (x ∷ xs) first all =
    by_kept (h x) (All-head (λ y. IfSome (h y) P) x xs all) (λ p here. last_kept P h p xs here (All-tail (λ y. IfSome (h y) P) x xs all))
  where
    by_kept : (r : Option Y) → IfSome r P → ((p : Option Y) → IfSome p P → IfSome (last_or p (filter_map h xs)) P) → IfSome (last_or o (cons_option r (filter_map h xs))) P
    by_kept None here later = later o first
    by_kept (Some y) here later = later (Some y) here

pub unwrap_kept : {Y : Type 0} (P : Y → Type 0) (o : Option Y) (d : Y) → IfSome o P → P d → P (unwrap_or o d)
unwrap_kept P None d some none = none
unwrap_kept P (Some y) d some none = some

-- ---- some element, and what `find` and `list_any` say of it

-- P holds of some element
abbrev pub SomeOf : {X : Type 0} → (X → Type 0) → List X → Type 0
SomeOf P [] = ⊥
SomeOf P (x ∷ xs) = P x ⊎ SomeOf P xs

pub SomeOf-weaker : {X : Type 0} (P Q : X → Type 0) → ((x : X) → P x → Q x) → (xs : List X) → SomeOf P xs → SomeOf Q xs
SomeOf-weaker P Q weaker [] none = none
SomeOf-weaker P Q weaker (x ∷ xs) (inl here) = inl (weaker x here)
SomeOf-weaker P Q weaker (x ∷ xs) (inr there) = inr (SomeOf-weaker P Q weaker xs there)

pub SomeOf-append_left : {X : Type 0} (P : X → Type 0) (xs ys : List X) → SomeOf P xs → SomeOf P (xs ++ ys)
SomeOf-append_left P [] ys some = absurd some
SomeOf-append_left P (x ∷ xs) ys (inl here) = inl here
SomeOf-append_left P (x ∷ xs) ys (inr there) = inr (SomeOf-append_left P xs ys there)

pub SomeOf-append_right : {X : Type 0} (P : X → Type 0) (xs ys : List X) → SomeOf P ys → SomeOf P (xs ++ ys)
SomeOf-append_right P [] ys some = some
SomeOf-append_right P (x ∷ xs) ys some = inr (SomeOf-append_right P xs ys some)

pub SomeOf-map : {X Y : Type 0} (P : Y → Type 0) (f : X → Y) (xs : List X) → SomeOf (λ x. P (f x)) xs → SomeOf P (map f xs)
SomeOf-map P f [] some = some
SomeOf-map P f (x ∷ xs) (inl here) = inl here
SomeOf-map P f (x ∷ xs) (inr there) = inr (SomeOf-map P f xs there)

pub SomeOf-flat_map : {X Y : Type 0} (P : Y → Type 0) (f : X → List Y) (xs : List X) → SomeOf (λ x. SomeOf P (f x)) xs → SomeOf P (flat_map f xs)
SomeOf-flat_map P f [] some = some
SomeOf-flat_map P f (x ∷ xs) (inl here) = SomeOf-append_left P (f x) (flat_map f xs) here
SomeOf-flat_map P f (x ∷ xs) (inr there) = SomeOf-append_right P (f x) (flat_map f xs) (SomeOf-flat_map P f xs there)

pub SomeOf-filter : {X : Type 0} (P : X → Type 0) (test : X → Bool) (xs : List X) → SomeOf (λ x. (test x ≡ true) × P x) xs → SomeOf P (filter test xs)
SomeOf-filter P test [] some = some
SomeOf-filter P test (x ∷ xs) (inl here) = rw here.0 (inl here.1)
SomeOf-filter P test (x ∷ xs) (inr there) = kept (test x) (SomeOf-filter P test xs there)
  where
    kept : (b : Bool) → SomeOf P (filter test xs) → SomeOf P (cond b (x ∷ filter test xs) (filter test xs))
    kept true some = inr some
    kept false some = some

pub list_any-some : {X : Type 0} (test : X → Bool) (xs : List X) → SomeOf (λ x. test x ≡ true) xs → list_any test xs ≡ true
list_any-some test [] some = absurd some
list_any-some test (x ∷ xs) (inl here) = rw here refl
list_any-some test (x ∷ xs) (inr there) = later (test x) (list_any-some test xs there)
  where
    later : (b : Bool) → list_any test xs ≡ true → (b || list_any test xs) ≡ true
    later true e = refl
    later false e = e

pub some-list_any : {X : Type 0} (test : X → Bool) (xs : List X) → list_any test xs ≡ true → SomeOf (λ x. test x ≡ true) xs
some-list_any test [] e = absurd (false≢true e)
some-list_any test (x ∷ xs) e = by_test (test x) refl e (some-list_any test xs)
  where
    by_test : (b : Bool) → test x ≡ b → (b || list_any test xs) ≡ true → (list_any test xs ≡ true → SomeOf (λ y. test y ≡ true) xs) → SomeOf (λ y. test y ≡ true) (x ∷ xs)
    by_test true is f rest = inl is
    by_test false is f rest = inr (rest f)

-- nothing passes where nothing is found
pub none_found : {X : Type 0} (test : X → Bool) (xs : List X) → find test xs ≡ None → SomeOf (λ x. test x ≡ true) xs → ⊥
none_found test [] e some = some
none_found test (x ∷ xs) e some = by_test (test x) refl e some (none_found test xs)
  where
    by_test : (b : Bool) → test x ≡ b → cond b (Some x) (find test xs) ≡ None → (test x ≡ true) ⊎ SomeOf (λ y. test y ≡ true) xs
        → (find test xs ≡ None → SomeOf (λ y. test y ≡ true) xs → ⊥) → ⊥
    by_test true is f s rest = absurd cc
    by_test false is f (inl here) rest = absurd cc
    by_test false is f (inr there) rest = rest f there

-- what is found passes
pub found_passes : {X : Type 0} (test : X → Bool) (xs : List X) (x : X) → find test xs ≡ Some x → test x ≡ true
found_passes test [] x e = absurd cc
found_passes test (y ∷ ys) x e = by_test (test y) refl e (found_passes test ys x)
  where
    by_test : (b : Bool) → test y ≡ b → cond b (Some y) (find test ys) ≡ Some x → (find test ys ≡ Some x → test x ≡ true) → test x ≡ true
    by_test true is f rest = let same : y ≡ x = cc in subst (λ z. test z ≡ true) same is
    by_test false is f rest = rest f

-- what holds of all holds of what is found
pub All-found : {X : Type 0} (P : X → Type 0) (test : X → Bool) (xs : List X) (x : X) → All P xs → find test xs ≡ Some x → P x
All-found P test [] x all e = absurd cc
All-found P test (y ∷ ys) x all e = by_test (test y) e (All-found P test ys x (All-tail P y ys all))
  where
    by_test : (b : Bool) → cond b (Some y) (find test ys) ≡ Some x → (find test ys ≡ Some x → P x) → P x
    by_test true f rest = let same : y ≡ x = cc in subst P same (All-head P y ys all)
    by_test false f rest = rest f

-- what holds of all holds of what is found, if anything is
pub found_holds : {X : Type 0} (P : X → Type 0) (test : X → Bool) (xs : List X) → All P xs → IfSome (find test xs) P
found_holds P test [] all = tt
found_holds {X} P test (x ∷ xs) all = by_test (test x) (All-head P x xs all) (found_holds P test xs (All-tail P x xs all))
  where
    by_test : (b : Bool) → P x → IfSome (find test xs) P → IfSome (cond b (Some x) (find test xs)) P
    by_test true here rest = here
    by_test false here rest = rest
