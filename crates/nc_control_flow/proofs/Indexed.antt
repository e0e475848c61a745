-- The places of each label and block number.
use Rattle.std.proofs.Common.{◌≡◌, ℕ, ◌+◌, ◌<◌, ◌≤◌, Bool, true, false, cond, if◌then◌else◌, List, [], ◌∷◌, ◌++◌, length, refl, sym, ap, ◌∙◌, arith, Option, Some, None, unwrap_or}
use Rattle.std.proofs.Common.{zero, suc, ◌-◌, take, drop, reverse, map, subst, All}
use Rattle.std.specs.Prelude.{find, filter, nat_lt, option_map, AllPairs}
use Rattle.std.specs.List.{enumerate_from}
use Rattle.std.specs.Option.{option_map_or, option_or}
use Rattle.std.specs.Global.{Vec}
use Rattle.std.proofs.lemmas.Bool.{lt-ltb, le-ltb}
use Rattle.std.proofs.Common.{get_or}
use Rattle.nc_control_flow.proofs.Matched.{length-placed, placed_entry}
use Rattle.std.proofs.lemmas.List.{reverse-append, take_more, take_all, map-append, get_or-map}
use Rattle.std.proofs.lemmas.List.Folds.{find-append}
use Rattle.std.proofs.lemmas.List.Elements.{All-cons, All-nil, filter-append}
use Rattle.nc_control_flow.specs.Places.{with_places, those_after, those_before}
use Rattle.nc_blocks.specs.declared.blocks.Block.{Block}
use Rattle.nc_blocks.specs.Statement.{view_of}
use Rattle.nc_control_flow.specs.Parts.{views}
use Rattle.nc_control_flow.specs.Index.{places_by}

-- ---- one place more

removed_items : (removed : Option (Vec ℕ)) (none before : Vec ℕ) → none.items ≡ [] → before ≡ unwrap_or removed none → before.items ≡ option_map_or (λ places. places.items) removed []
removed_items None none before n b = ap (λ v. v.items) b ∙ n
removed_items (Some v) none before n b = ap (λ v. v.items) b

one_more : (b : Bool) (new mid old : Option (Vec ℕ)) (after : Vec ℕ) (list : List ℕ) → new ≡ cond b (Some after) mid → mid ≡ cond b None old → after.items ≡ list
    → option_map_or (λ places. places.items) new [] ≡ (if b then list else option_map_or (λ places. places.items) old [])
one_more true new mid old after list n m a = ap (λ o. option_map_or (λ places. places.items) o []) n ∙ a
one_more false new mid old after list n m a = ap (λ o. option_map_or (λ places. places.items) o []) (n ∙ m)

pub label_noted : (b : Bool) (new mid old removed : Option (Vec ℕ)) (none before after : Vec ℕ) (place : ℕ) → none.items ≡ [] → before ≡ unwrap_or removed none
    → after.items ≡ before.items ++ place ∷ [] → new ≡ cond b (Some after) mid → mid ≡ cond b None old
    → option_map_or (λ places. places.items) new []
    ≡ (if b then option_map_or (λ places. places.items) removed [] ++ place ∷ [] else option_map_or (λ places. places.items) old [])
label_noted b new mid old removed none before after place n u a s m =
    one_more b new mid old after (option_map_or (λ places. places.items) removed [] ++ place ∷ []) s m
    (a ∙ ap (λ xs. xs ++ place ∷ []) (removed_items removed none before n u))

-- ---- searches among the places
none_left : {X : Type 0} (n : ℕ) (xs : List X) → xs ≡ [] → drop n xs ≡ []
none_left zero xs e = e
none_left (suc n) [] e = refl
none_left (suc n) (x ∷ xs) e = absurd (cc)

none_taken : {X : Type 0} (n : ℕ) (xs : List X) → xs ≡ [] → take n xs ≡ []
none_taken zero xs e = refl
none_taken (suc n) [] e = refl
none_taken (suc n) (x ∷ xs) e = absurd (cc)

passed : {B : Type 0} (test : B → Bool) (pc at : ℕ) (b : B) (r : Bool) (es : List (ℕ × B)) → test b ≡ r → at ≤ pc
    → find (λ p. nat_lt pc p) (map (λ e. e.0) (cond r ((at, b) ∷ filter (λ e. test e.1) es) (filter (λ e. test e.1) es))) ≡ find (λ p. nat_lt pc p) (places_by test es)
passed test pc at b true es t h = ap (λ r. cond r (Some at) (find (λ p. nat_lt pc p) (places_by test es))) (le-ltb pc at h)
passed test pc at b false es t h = refl

met : {B : Type 0} (test : B → Bool) (pc at : ℕ) (b : B) (r : Bool) (es : List (ℕ × B)) → test b ≡ r → pc < at
    → find (λ p. nat_lt pc p) (places_by test es) ≡ option_map (λ e. e.0) (find (λ e. test e.1) es)
    → find (λ p. nat_lt pc p) (map (λ e. e.0) (cond r ((at, b) ∷ filter (λ e. test e.1) es) (filter (λ e. test e.1) es)))
    ≡ option_map (λ e. e.0) (cond r (Some (at, b)) (find (λ e. test e.1) es))
met test pc at b true es t h rest = ap (λ r. cond r (Some at) (find (λ p. nat_lt pc p) (places_by test es))) (lt-ltb pc at h)
met test pc at b false es t h rest = rest

among_ahead : {B : Type 0} (test : B → Bool) (pc at skip : ℕ) (bs : List B) → skip ≡ pc + 1 - at
    → find (λ p. nat_lt pc p) (places_by test (enumerate_from at bs)) ≡ option_map (λ e. e.0) (find (λ e. test e.1) (drop skip (enumerate_from at bs)))
among_ahead test pc at skip [] s = ap (λ es. option_map (λ e. e.0) (find (λ e. test e.1) es)) (sym (none_left skip [] refl))
among_ahead test pc at zero (b ∷ bs) s =
    met test pc at b (test b) (enumerate_from (at + 1) bs) refl (omega arith) (among_ahead test pc (at + 1) zero bs (omega arith))
among_ahead test pc at (suc n) (b ∷ bs) s =
    passed test pc at b (test b) (enumerate_from (at + 1) bs) refl (omega arith) ∙ among_ahead test pc (at + 1) n bs (omega arith)

pub nearest_ahead_is : {B : Type 0} (test : B → Bool) (pc : ℕ) (bs : List B)
    → find (λ p. nat_lt pc p) (places_by test (with_places bs)) ≡ option_map (λ e. e.0) (find (λ e. test e.1) (those_after pc bs))
nearest_ahead_is test pc bs = among_ahead test pc 0 (pc + 1) bs (omega arith)

option_map_or_both : {X Y : Type 0} (f : X → Y) (a b : Option X) → option_map f (option_or a b) ≡ option_or (option_map f a) (option_map f b)
option_map_or_both f None b = refl
option_map_or_both f (Some x) b = refl

option_or_none : {X : Type 0} (a : Option X) → option_or a None ≡ a
option_or_none None = refl
option_or_none (Some x) = refl

-- of one block and those after it, the last before a place
last_of : {B : Type 0} (test : B → Bool) (pc at : ℕ) (b : B) (r : Bool) (es : List (ℕ × B)) → test b ≡ r
    → find (λ p. nat_lt p pc) (reverse (map (λ e. e.0) (cond r ((at, b) ∷ filter (λ e. test e.1) es) (filter (λ e. test e.1) es))))
    ≡ option_or (find (λ p. nat_lt p pc) (reverse (places_by test es))) (cond r (cond (nat_lt at pc) (Some at) None) None)
last_of test pc at b true es t =
    ap (λ ps. find (λ p. nat_lt p pc) ps) (reverse-append (at ∷ []) (places_by test es)) ∙ find-append (λ p. nat_lt p pc) (reverse (places_by test es)) (at ∷ [])
last_of test pc at b false es t = sym (option_or_none (find (λ p. nat_lt p pc) (reverse (places_by test es))))

first_of : {B : Type 0} (test : B → Bool) (at : ℕ) (b : B) (r : Bool) → test b ≡ r
    → option_map (λ (e : ℕ × B). e.0) (find (λ (e : ℕ × B). test e.1) ((at, b) ∷ [])) ≡ cond r (Some at) None
first_of {B} test at b true t = ap (λ r. option_map (λ (e : ℕ × B). e.0) (cond r (Some (at, b)) None)) t
first_of {B} test at b false t = ap (λ r. option_map (λ (e : ℕ × B). e.0) (cond r (Some (at, b)) None)) t

cond_same : {X : Type 0} (r : Bool) (x : X) → cond r x x ≡ x
cond_same true x = refl
cond_same false x = refl

before_block : {B : Type 0} (test : B → Bool) (at : ℕ) (b : B) (es : List (ℕ × B))
    → option_map (λ (e : ℕ × B). e.0) (find (λ (e : ℕ × B). test e.1) (reverse ((at, b) ∷ es)))
    ≡ option_or (option_map (λ e. e.0) (find (λ e. test e.1) (reverse es))) (cond (test b) (Some at) None)
before_block {B} test at b es =
    ap (λ xs. option_map (λ (e : ℕ × B). e.0) (find (λ e. test e.1) xs)) (reverse-append ((at, b) ∷ []) es)
    ∙ ap (λ o. option_map (λ (e : ℕ × B). e.0) o) (find-append (λ (e : ℕ × B). test e.1) (reverse es) ((at, b) ∷ []))
    ∙ option_map_or_both (λ (e : ℕ × B). e.0) (find (λ e. test e.1) (reverse es)) (find (λ e. test e.1) ((at, b) ∷ []))
    ∙ ap (λ o. option_or (option_map (λ (e : ℕ × B). e.0) (find (λ e. test e.1) (reverse es))) o) (first_of test at b (test b) refl)

among_before : {B : Type 0} (test : B → Bool) (pc at front : ℕ) (bs : List B) → front ≡ pc - at
    → find (λ p. nat_lt p pc) (reverse (places_by test (enumerate_from at bs))) ≡ option_map (λ e. e.0) (find (λ e. test e.1) (reverse (take front (enumerate_from at bs))))
among_before {B} test pc at front [] s = ap (λ es. option_map (λ (e : ℕ × B). e.0) (find (λ e. test e.1) (reverse es))) (sym (none_taken front [] refl))
among_before test pc at zero (b ∷ bs) s =
    last_of test pc at b (test b) (enumerate_from (at + 1) bs) refl
    ∙ ap (λ o. option_or o (cond (test b) (cond (nat_lt at pc) (Some at) None) None)) (among_before test pc (at + 1) zero bs (omega arith))
    ∙ ap (λ r. cond (test b) (cond r (Some at) None) None) (le-ltb at pc (omega arith))
    ∙ cond_same (test b) None
among_before test pc at (suc n) (b ∷ bs) s =
    last_of test pc at b (test b) (enumerate_from (at + 1) bs) refl
    ∙ ap (λ o. option_or o (cond (test b) (cond (nat_lt at pc) (Some at) None) None)) (among_before test pc (at + 1) n bs (omega arith))
    ∙ ap (λ r. option_or (option_map (λ e. e.0) (find (λ e. test e.1) (reverse (take n (enumerate_from (at + 1) bs))))) (cond (test b) (cond r (Some at) None) None)) (lt-ltb at pc (omega arith))
    ∙ sym (before_block test at b (take n (enumerate_from (at + 1) bs)))

pub nearest_before_is : {B : Type 0} (test : B → Bool) (pc : ℕ) (bs : List B)
    → find (λ p. nat_lt p pc) (reverse (places_by test (with_places bs))) ≡ option_map (λ e. e.0) (find (λ e. test e.1) (those_before pc bs))
nearest_before_is test pc bs = among_before test pc 0 pc bs (omega arith)

-- ---- places ascend
later_from : {B : Type 0} (test : B → Bool) (at low : ℕ) (b : B) (r : Bool) (es : List (ℕ × B)) → low ≤ at → All (λ p. low ≤ p) (places_by test es)
    → All (λ p. low ≤ p) (map (λ e. e.0) (cond r ((at, b) ∷ filter (λ e. test e.1) es) (filter (λ e. test e.1) es)))
later_from test at low b true es h rest = All-cons (λ p. low ≤ p) at (places_by test es) h rest
later_from test at low b false es h rest = rest

later : {B : Type 0} (test : B → Bool) (at low : ℕ) (bs : List B) → low ≤ at → All (λ p. low ≤ p) (places_by test (enumerate_from at bs))
later test at low [] h = All-nil (λ p. low ≤ p)
later test at low (b ∷ bs) h = later_from test at low b (test b) (enumerate_from (at + 1) bs) h (later test (at + 1) low bs (omega arith))

pairs_more : (x : ℕ) (xs : List ℕ) → All (λ y. x + 1 ≤ y) xs → AllPairs (λ a b. a < b) xs → AllPairs (λ a b. a < b) (x ∷ xs)
pairs_more x xs first rest zero zero d h within = absurd (omega arith)
pairs_more x xs first rest zero (suc j) d h within = omega (arith, first j d (omega arith))
pairs_more x xs first rest (suc i) zero d h within = absurd (omega arith)
pairs_more x xs first rest (suc i) (suc j) d h within = rest i j d (omega arith) (omega arith)

ascend_from : {B : Type 0} (test : B → Bool) (at : ℕ) (b : B) (r : Bool) (es : List (ℕ × B)) → All (λ p. at + 1 ≤ p) (places_by test es)
    → AllPairs (λ a b. a < b) (places_by test es)
    → AllPairs (λ a b. a < b) (map (λ e. e.0) (cond r ((at, b) ∷ filter (λ e. test e.1) es) (filter (λ e. test e.1) es)))
ascend_from test at b true es first rest = pairs_more at (places_by test es) first rest
ascend_from test at b false es first rest = rest

ascend : {B : Type 0} (test : B → Bool) (at : ℕ) (bs : List B) → AllPairs (λ a b. a < b) (places_by test (enumerate_from at bs))
ascend test at [] = λ i j d h within. absurd (omega arith)
ascend test at (b ∷ bs) = ascend_from test at b (test b) (enumerate_from (at + 1) bs) (later test (at + 1) (at + 1) bs (omega arith)) (ascend test (at + 1) bs)

pub places_ascend : {B : Type 0} (test : B → Bool) (bs : List B) (places : List ℕ) → places ≡ places_by test (with_places bs) → AllPairs (λ a b. a < b) places
places_ascend test bs places e = let P : List ℕ → Type 0 = λ ps. AllPairs (λ a b. a < b) ps in subst P (sym e) (ascend test 0 bs)

-- ---- one block more
if_more : (at : ℕ) (r : Bool) {B : Type 0} (b : B) → map (λ (e : ℕ × B). e.0) (cond r ((at, b) ∷ []) []) ≡ (if r then at ∷ [] else [])
if_more at true b = refl
if_more at false b = refl

pub places_more : {B : Type 0} (test : B → Bool) (bs : List B) (n : ℕ) (b : B) (old new : List ℕ) → n < length bs → get_or bs n b ≡ b
    → old ≡ places_by test (take n (with_places bs)) → new ≡ old ++ (if test b then n ∷ [] else [])
    → new ≡ places_by test (take (n + 1) (with_places bs))
places_more {B} test bs n b old new h same o e =
    let long : length (with_places bs) ≡ length bs = length-placed 0 bs in
    let start : 0 + n ≡ n = omega arith in
    let here : ℕ × B = (n, b) in
    let entry : get_or (with_places bs) n (0, b) ≡ here = placed_entry 0 n bs b h ∙ ap (λ k. (k, get_or bs n b)) start ∙ ap (λ x. (n, x)) same in
    let kept : places_by test (take (n + 1) (with_places bs)) ≡ places_by test (take n (with_places bs)) ++ (if test b then n ∷ [] else []) =
    ap (λ es. places_by test es) (take_more (with_places bs) n (0, b) (omega arith) ∙ ap (λ e. take n (with_places bs) ++ e ∷ []) entry)
    ∙ ap (λ es. map (λ (e : ℕ × B). e.0) es) (filter-append (λ (e : ℕ × B). test e.1) (take n (with_places bs)) (here ∷ []))
    ∙ map-append (λ (e : ℕ × B). e.0) (filter (λ e. test e.1) (take n (with_places bs))) (filter (λ e. test e.1) (here ∷ []))
    ∙ ap (λ ps. places_by test (take n (with_places bs)) ++ ps) (if_more n (test b) b) in
    e ∙ ap (λ ps. ps ++ (if test b then n ∷ [] else [])) o ∙ sym kept

pub places_all : {B : Type 0} (test : B → Bool) (bs : List B) (n : ℕ) (places : List ℕ) → length bs ≤ n
    → places ≡ places_by test (take n (with_places bs)) → places ≡ places_by test (with_places bs)
places_all test bs n places h e =
    let long : length (with_places bs) ≡ length bs = length-placed 0 bs in
    e ∙ ap (λ es. places_by test es) (take_all n (with_places bs) (omega arith))

-- ---- the view of one block
pub view_at : (blocks : List (ℕ × Block)) (n : ℕ) (e : ℕ × Block) → n < length blocks → e ≡ get_or blocks n e → get_or (views blocks) n (view_of e.1) ≡ view_of e.1
view_at blocks n e h same = get_or-map (λ (x : ℕ × Block). view_of x.1) blocks n e (view_of e.1) h ∙ ap (λ x. view_of x.1) (sym same)
