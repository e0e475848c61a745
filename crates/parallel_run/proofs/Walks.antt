-- Loops over entries and lists, one place further.
use Rattle.std.proofs.Common.{◌≡◌, ◌≢◌, ℕ, zero, suc, ◌+◌, ◌<◌, ◌==◌, inl, inr, Bool, true, false, cond, List, [], ◌∷◌, ◌++◌, append_assoc, drop, get_or, length, map, set, refl, sym, ap, ap₂, subst, ◌∙◌, eq-eqb, eqb-true, get_or-set_other, get_or-set_same}
use Rattle.std.proofs.lemmas.Bool.{cases_Bool}
use Rattle.std.proofs.lemmas.List.{drop_more, get_or-map, length-map, map-set}
use Rattle.parallel_run.specs.Joining.{Rows, dealt, first_row, rows_at, without_first}
use Rattle.sync_types.proofs.BoardTests.{no_truth}
use Rattle.sync_types.specs.Views.{EntryView}
use Rattle.sync_types.specs.declared.Item.{Item}

-- ---- lists that are empty

pub empty_more : {A B : Type 0} (f : A → List B) (xs : List A) (x : A) (c : ℕ) → f x ≡ [] → ((d : ℕ) → get_or (map f xs) d [] ≡ []) → get_or (map f (xs ++ x ∷ [])) c [] ≡ []
empty_more f [] x zero none all = none
empty_more f [] x (suc c) none all = refl
empty_more f (y ∷ xs) x zero none all = all 0
empty_more f (y ∷ xs) x (suc c) none all = empty_more f xs x c none (λ d. all (suc d))

-- ---- rows

dealt_more : (rows : Rows) (es : List EntryView) (i : ℕ) (d : EntryView) → i < length es
    → dealt rows (drop i es) ≡ first_row (rows (get_or es i d).channel) ∷ dealt (without_first rows (get_or es i d).channel) (drop (i + 1) es)
dealt_more rows es i d within = ap (dealt rows) (drop_more es i d within)

pub dealt-alike : (rows others : Rows) (es : List EntryView) → ((c : ℕ) → rows c ≡ others c) → dealt rows es ≡ dealt others es
dealt-alike rows others [] same = refl
dealt-alike rows others (e ∷ es) same =
    ap₂ (λ (x : List Item) (xs : List (List Item)). x ∷ xs) (ap first_row (same e.channel))
    (dealt-alike (without_first rows e.channel) (without_first others e.channel) es (λ c. ap (λ (zs : List (List Item)). cond (c == e.channel) (drop 1 zs) zs) (same c)))

pub dealt_on : (rows later : Rows) (es : List EntryView) (i : ℕ) (d : EntryView) (done : List (List Item)) (row : List Item) (all : List (List Item)) → i < length es
    → row ≡ first_row (rows (get_or es i d).channel) → ((c : ℕ) → later c ≡ without_first rows (get_or es i d).channel c) → done ++ dealt rows (drop i es) ≡ all
    → (done ++ row ∷ []) ++ dealt later (drop (i + 1) es) ≡ all
dealt_on rows later es i d done row all within first rest so =
    append_assoc done (row ∷ []) (dealt later (drop (i + 1) es))
    ∙ ap₂ (λ (x : List Item) (xs : List (List Item)). done ++ x ∷ xs) first (dealt-alike later (without_first rows (get_or es i d).channel) (drop (i + 1) es) rest)
    ∙ ap (λ (xs : List (List Item)). done ++ xs) (sym (dealt_more rows es i d within))
    ∙ so

-- a list in which one place was written, read at another list's places
module _ {A B : Type 0} (f : A → List B) (xs : List A) (place c : ℕ) (new : A) (at : place ≡ c) where
  pub written_here : c < length xs → get_or (map f (set xs place new)) c [] ≡ f new
  written_here room =
      ap (λ (p : ℕ). get_or (map f (set xs p new)) c []) at
      ∙ ap (λ (ys : List (List B)). get_or ys c []) (map-set f xs c new)
      ∙ get_or-set_same (map f xs) c (f new) [] (subst (λ (n : ℕ). c < n) (sym (length-map xs f)) room)

  pub written_there : (d : ℕ) → (d == c) ≡ false → get_or (map f (set xs place new)) d [] ≡ get_or (map f xs) d []
  written_there d other =
      let apart : d ≢ c = λ same. no_truth (d == c) (eq-eqb d c same) other in
      ap (λ (p : ℕ). get_or (map f (set xs p new)) d []) at
      ∙ ap (λ (ys : List (List B)). get_or ys d []) (map-set f xs c new)
      ∙ get_or-set_other (map f xs) c d (f new) [] apart

-- ---- rows at a place

cond_true : {X : Type 0} (b : Bool) (x y : X) → b ≡ true → x ≡ cond b x y
cond_true true x y is = refl
cond_true false x y is = absurd cc

cond_false : {X : Type 0} (b : Bool) (x y : X) → b ≡ false → y ≡ cond b x y
cond_false false x y is = refl
cond_false true x y is = absurd cc

-- the first row of a channel was taken
pub row_taken : {A : Type 0} (f : A → List (List Item)) (xs : List A) (place c : ℕ) (old new : A) → place ≡ c → place < length xs → old ≡ get_or xs place old → f new ≡ drop 1 (f old)
    → (k : ℕ) → rows_at (map f (set xs place new)) k ≡ without_first (rows_at (map f xs)) c k
row_taken f xs place c old new at room was rest k =
    let had : f old ≡ rows_at (map f xs) c = ap f (was ∙ ap (λ (p : ℕ). get_or xs p old) at) ∙ sym (get_or-map f xs c old [] (subst (λ (p : ℕ). p < length xs) at room)) in
    elim (cases_Bool (k == c)) [
      | inl on ↦
          let same : k ≡ c = eqb-true k c on in
          ap (λ (n : ℕ). rows_at (map f (set xs place new)) n) same
          ∙ written_here f xs place c new at (subst (λ (p : ℕ). p < length xs) at room)
          ∙ rest ∙ ap (drop 1) had ∙ ap (λ (n : ℕ). drop 1 (rows_at (map f xs) n)) (sym same)
          ∙ cond_true (k == c) (drop 1 (rows_at (map f xs) k)) (rows_at (map f xs) k) on
      | inr off ↦ written_there f xs place c new at k off ∙ cond_false (k == c) (drop 1 (rows_at (map f xs) k)) (rows_at (map f xs) k) off
    ]

-- a list in which one place was written, and each element is read so
pub written : {A B : Type 0} (f : A → B) (xs : List A) (place c : ℕ) (new : A) → place ≡ c → map f (set xs place new) ≡ set (map f xs) c (f new)
written f xs place c new at = ap (λ (p : ℕ). map f (set xs p new)) at ∙ map-set f xs c new

-- ---- lists that are built of what is left of another

pub one_on : {A B : Type 0} (f : A → B) (made : List B) (x : A) (rest later : List A) (all : List B) → rest ≡ x ∷ later → made ++ map f rest ≡ all → (made ++ f x ∷ []) ++ map f later ≡ all
one_on f made x rest later all is so = append_assoc made (f x ∷ []) (map f later) ∙ ap (λ (xs : List _). made ++ map f xs) (sym is) ∙ so
