-- Lists that stand in a line, one thing after the other.
use Rattle.std.proofs.Common.{◌≡◌, ℕ, zero, suc, ◌+◌, ◌-◌, ◌<◌, ◌≤◌, List, [], ◌∷◌, ◌++◌, length, drop, map, refl, ap, sym, ◌∙◌, Bool, true, false, Result, Ok, Err, arith}
use Rattle.std.proofs.Common.{inl, inr, subst}
use Rattle.std.proofs.lemmas.Bool.{cases_lt}
use Rattle.std.proofs.lemmas.List.Elements.{All-push}
use Rattle.std.proofs.Math.Seq.{drop-nil}
use Rattle.std.specs.Prelude.{◌||◌, All}
use Rattle.std.specs.List.{list_any}
use Rattle.std.proofs.lemmas.List.{drop_more, drop_all, length-drop, map-append}
use Rattle.block_scanner.specs.declared.Kind.TheVariants as kind
use Rattle.block_scanner.specs.declared.Token.{Token}
use Rattle.block_scanner.specs.WordsView.{WordsView}
use Rattle.nc_expressions.specs.Value.{◌>>=◌}
use Rattle.nc_blocks.specs.Lists.{Item, go_on, list_from, list_at}

pub any_of_views : {X Y : Type 0} (f : X → Y) (p : Y → Bool) (xs : List X) → list_any p (map f xs) ≡ list_any (λ x. p (f x)) xs
any_of_views f p [] = refl
any_of_views f p (x ∷ xs) = ap (λ b. p (f x) || b) (any_of_views f p xs)

-- the tokens of what was read are passed
passed : {A : Type 0} (item : List A → ℕ → Result (Item A) ℕ) (before : List A) (more at : ℕ) (tokens : List Token) → more ≤ length tokens →
    list_from item before at tokens more ≡ list_from item before (at + more) (drop more tokens) zero
unfolding list_from
passed item before zero at tokens h = let same : at ≡ at + zero = omega arith in ap (λ n. list_from item before n tokens zero) same
passed item before (suc more) at [] h = absurd (omega arith)
passed item before (suc more) at (t ∷ ts) h =
    let same : at + 1 + more ≡ at + suc more = omega arith in
    passed item before more (at + 1) ts (omega arith) ∙ ap (λ n. list_from item before n (drop more ts) zero) same

skip_more : (at more : ℕ) (ts : List Token) → drop more (drop at ts) ≡ drop (at + more) ts
skip_more zero more ts = let same : more ≡ zero + more = omega arith in ap (λ n. drop n ts) same
skip_more (suc at) more [] = drop-nil more ∙ sym (drop-nil (suc at + more))
skip_more (suc at) more (t ∷ ts) =
    let same : suc (at + more) ≡ suc at + more = omega arith in skip_more at more ts ∙ ap (λ n. drop n (t ∷ ts)) same

-- what is read at a place comes first
step : {A : Type 0} (item : List A → ℕ → Result (Item A) ℕ) (before : List A) (at : ℕ) (tokens : List Token) → at < length tokens →
    list_from item before at (drop at tokens) zero ≡ (item before at >>= λ one. go_on before at one (λ xs more. list_from item xs (at + 1) (drop (at + 1) tokens) more))
unfolding list_from
step item before at tokens h =
    let d : Token = record { kind = kind.Name; start = 0; end = 0 } in
    rw (drop_more tokens at d h) refl

-- another thing follows
pub list_goes_on : {A : Type 0} (item : List A → ℕ → Result (Item A) ℕ) (before : List A) (at : ℕ) (tokens : List Token) (x : A) (next : ℕ) →
    item before at ≡ Ok (x, true, next) → at < next → next ≤ length tokens →
    list_from item before at (drop at tokens) zero ≡ list_from item (before ++ x ∷ []) next (drop next tokens) zero
list_goes_on item before at tokens x next e above within =
    let more = next - (at + 1) in
    let place : at + 1 + more ≡ next = omega arith in
    let left : more ≤ length (drop (at + 1) tokens) = omega (arith, length-drop (at + 1) tokens) in
    let same : drop more (drop (at + 1) tokens) ≡ drop next tokens = skip_more (at + 1) more tokens ∙ ap (λ n. drop n tokens) place in
    step item before at tokens (omega arith)
    ∙ ap (λ r. r >>= λ one. go_on before at one (λ xs more. list_from item xs (at + 1) (drop (at + 1) tokens) more)) e
    ∙ passed item (before ++ x ∷ []) more (at + 1) (drop (at + 1) tokens) left
    ∙ ap (λ n. list_from item (before ++ x ∷ []) n (drop more (drop (at + 1) tokens)) zero) place
    ∙ ap (λ ts. list_from item (before ++ x ∷ []) next ts zero) same

-- this was the last
pub list_ends : {A : Type 0} (item : List A → ℕ → Result (Item A) ℕ) (before : List A) (at : ℕ) (tokens : List Token) (x : A) (next : ℕ) →
    item before at ≡ Ok (x, false, next) → at < next → next ≤ length tokens →
    list_from item before at (drop at tokens) zero ≡ Ok (before ++ x ∷ [], next)
list_ends item before at tokens x next e above within =
    step item before at tokens (omega arith)
    ∙ ap (λ r. r >>= λ one. go_on before at one (λ xs more. list_from item xs (at + 1) (drop (at + 1) tokens) more)) e

-- nothing can be read there
pub list_refused : {A : Type 0} (item : List A → ℕ → Result (Item A) ℕ) (before : List A) (at : ℕ) (tokens : List Token) (code : ℕ) →
    item before at ≡ Err code → list_from item before at (drop at tokens) zero ≡ Err code
unfolding list_from
list_refused item before at tokens code e =
    elim (cases_lt at (length tokens)) [
      | inl h ↦ step item before at tokens h
          ∙ ap (λ r. r >>= λ one. go_on before at one (λ xs more. list_from item xs (at + 1) (drop (at + 1) tokens) more)) e
      | inr h ↦ rw (drop_all at tokens h) (ap (λ r. r >>= λ one. Err 22) e)
    ]

-- a list begins with nothing before it
pub list_begins : {A : Type 0} (item : List A → ℕ → Result (Item A) ℕ) (words : WordsView) (at : ℕ) →
    list_from item [] at (drop at words.tokens) zero ≡ list_at item words at
unfolding list_at
list_begins item words at = refl

pub map_push : {X Y : Type 0} (f : X → Y) (xs : List X) (x : X) → map f (xs ++ x ∷ []) ≡ map f xs ++ f x ∷ []
map_push f xs x = map-append f xs (x ∷ [])

pub ruleset list_steps = (list_goes_on, list_ends, list_refused, list_begins, map_push)

-- the list so far and one thing more, where another one follows
pub list_more : {X A : Type 0} (item : List A → ℕ → Result (Item A) ℕ) (view : X → A) (words : WordsView) (start at next : ℕ) (before after : List X) (x : X) (more : Bool) →
    list_from item (map view before) at (drop at words.tokens) zero ≡ list_at item words start →
    item (map view before) at ≡ Ok (view x, more, next) → more ≡ true → at < next → next ≤ length words.tokens → after ≡ before ++ x ∷ [] →
    list_from item (map view after) next (drop next words.tokens) zero ≡ list_at item words start
list_more item view words start at next before after x more so_far e is above within pushed =
    let e' = e ∙ ap (λ m. Ok (view x, m, next)) is in
    let grown : map view after ≡ map view before ++ view x ∷ [] = ap (map view) pushed ∙ map_push view before x in
    ap (λ xs. list_from item xs next (drop next words.tokens) zero) grown
    ∙ sym (list_goes_on item (map view before) at words.tokens (view x) next e' above within)
    ∙ so_far

-- the list so far and the last thing
pub list_last : {X A : Type 0} (item : List A → ℕ → Result (Item A) ℕ) (view : X → A) (words : WordsView) (start at next : ℕ) (before after : List X) (x : X) (more : Bool) →
    list_from item (map view before) at (drop at words.tokens) zero ≡ list_at item words start →
    item (map view before) at ≡ Ok (view x, more, next) → more ≡ false → at < next → next ≤ length words.tokens → after ≡ before ++ x ∷ [] →
    list_at item words start ≡ Ok (map view after, next)
list_last item view words start at next before after x more so_far e is above within pushed =
    let e' = e ∙ ap (λ m. Ok (view x, m, next)) is in
    let grown : map view after ≡ map view before ++ view x ∷ [] = ap (map view) pushed ∙ map_push view before x in
    sym so_far
    ∙ list_ends item (map view before) at words.tokens (view x) next e' above within
    ∙ ap (λ xs. Ok (xs, next)) (sym grown)

-- the same of lists that the code holds as they are
pub plain_more : {A : Type 0} (item : List A → ℕ → Result (Item A) ℕ) (words : WordsView) (start at next : ℕ) (before after : List A) (x : A) (more : Bool) →
    list_from item before at (drop at words.tokens) zero ≡ list_at item words start →
    item before at ≡ Ok (x, more, next) → more ≡ true → at < next → next ≤ length words.tokens → after ≡ before ++ x ∷ [] →
    list_from item after next (drop next words.tokens) zero ≡ list_at item words start
plain_more item words start at next before after x more so_far e is above within pushed =
    let e' = e ∙ ap (λ m. Ok (x, m, next)) is in
    ap (λ xs. list_from item xs next (drop next words.tokens) zero) pushed
    ∙ sym (list_goes_on item before at words.tokens x next e' above within)
    ∙ so_far

pub plain_last : {A : Type 0} (item : List A → ℕ → Result (Item A) ℕ) (words : WordsView) (start at next : ℕ) (before after : List A) (x : A) (more : Bool) →
    list_from item before at (drop at words.tokens) zero ≡ list_at item words start →
    item before at ≡ Ok (x, more, next) → more ≡ false → at < next → next ≤ length words.tokens → after ≡ before ++ x ∷ [] →
    list_at item words start ≡ Ok (after, next)
plain_last item words start at next before after x more so_far e is above within pushed =
    let e' = e ∙ ap (λ m. Ok (x, m, next)) is in
    sym so_far
    ∙ list_ends item before at words.tokens x next e' above within
    ∙ ap (λ xs. Ok (xs, next)) (sym pushed)

-- what holds of all so far and of one more holds of all
pub fits_more : {X A : Type 0} (P : A → Type 0) (view : X → A) (before after : List X) (x : X) →
    All P (map view before) → P (view x) → after ≡ before ++ x ∷ [] → All P (map view after)
fits_more {A = A} P view before after x all here pushed =
    let grown : map view after ≡ map view before ++ view x ∷ [] = ap (map view) pushed ∙ map_push view before x in
    let Q : List A → Type 0 = λ xs. All P xs in
    subst Q (sym grown) (All-push P (map view before) (view x) all here)
