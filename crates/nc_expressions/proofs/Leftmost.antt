-- Where no expression goes on, and which refusal this is.
use Rattle.std.proofs.Common.{◌≡◌, ℕ, pos, Bool, true, false, ◌⊎◌, ◌<◌, List, [], ◌∷◌, ◌++◌, refl, ap, sym, ◌∙◌, subst, Ok, Err, IsSome, inl, inr, arith, rules}
use Rattle.std.proofs.lemmas.List.{append_assoc, append-nil}
use Rattle.nc_expressions.specs.declared.trees.UnaryOp.{UnaryOp}
use Rattle.nc_expressions.specs.declared.trees.BinaryOp.TheVariants.{Add, Sub}
use Rattle.nc_expressions.specs.declared.levels.Level.{Level}
use Rattle.nc_expressions.specs.declared.levels.Level.TheVariants.{Plain}
use Rattle.nc_expressions.specs.declared.symbols.Symbol.{Symbol}
use Rattle.nc_expressions.specs.declared.symbols.Symbol.TheVariants as symbol
use Rattle.nc_expressions.specs.declared.stack.Bracket.TheVariants.{Parentheses, Argument, Index}
use Rattle.nc_expressions.specs.Levels.{rank}
use Rattle.nc_expressions.specs.Limits.{Limits, all_limits, any_nesting, any_mixture}
use Rattle.nc_expressions.specs.Symbols.{index_of}
use Rattle.nc_expressions.specs.Syntax.{Syntax, Constant, Positive, Negative, Denied, Named, Indexing, Called, Grouped, Chained, spelling, tree, tightness, level, IsExpressionUnder}
use Rattle.nc_expressions.specs.Fronts.{IsFrontUnder, BeginsExpressionUnder, MayGoOn, Broken}
use Rattle.nc_expressions.specs.Machine.{Stack, State, at_last, finish, Wants, WantsIndex, WantsArgument, Has, Next, On, Ends, Refuse, step, run, go_on, read}
use Rattle.nc_expressions.proofs.LevelLaws.{some_is, rank_small}
use Rattle.nc_expressions.proofs.Complete.{complete}
use Rattle.nc_expressions.proofs.Softer.{limits_of, soft, soft_state, Softened, Stays, Gives, soft_step, EndsWith, end_code}
use Rattle.nc_expressions.proofs.Sound.{PlusBefore, MinusBefore, NotBefore, LeftOf, Within, Parts, written, LooseThan, Good, Operand, Stands, After, step_stands, starts, positive, negative, not_of, both_of, plain_operand}

-- an operand binds tightly enough for what waits for it
abbrev pub Takes : Parts → Syntax → Type 0
Takes [] x = Unit {0}
Takes (PlusBefore ∷ g) x = tightness x ≡ 6
Takes (MinusBefore ∷ g) x = tightness x ≡ 6
Takes (NotBefore ∷ g) x = tightness x ≡ 6
Takes (LeftOf a op ∷ g) x = rank op < tightness x
Takes (Within b lv ∷ g) x = Unit {0}

takes_tight : (g : Parts) (x : Syntax) → tightness x ≡ 6 → Takes g x
takes_tight [] x h = tt
takes_tight (PlusBefore ∷ g) x h = h
takes_tight (MinusBefore ∷ g) x h = h
takes_tight (NotBefore ∷ g) x h = h
takes_tight (LeftOf a op ∷ g) x h = omega (arith, h, rank_small op)
takes_tight (Within b lv ∷ g) x h = tt

takes_loose : (g : Parts) (x : Syntax) → LooseThan (tightness x) g → Takes g x
takes_loose [] x l = tt
takes_loose (PlusBefore ∷ g) x l = absurd l
takes_loose (MinusBefore ∷ g) x l = absurd l
takes_loose (NotBefore ∷ g) x l = absurd l
takes_loose (LeftOf a op ∷ g) x l = l
takes_loose (Within b lv ∷ g) x l = tt

-- what was written, with an operand after it, begins an expression
abbrev pub Closes : (lim : Limits) → Parts → Syntax → Type 0
Closes lim g x = (y : Syntax) × (more : List Symbol) × IsExpressionUnder lim y × (written g ++ (spelling x ++ more) ≡ spelling y)

-- an operand that took what stands on top
wrapped : (w front x back more y : List Symbol) → w ++ ((front ++ (x ++ back)) ++ more) ≡ y → (w ++ front) ++ (x ++ (back ++ more)) ≡ y
wrapped w front x back more y h =
    append_assoc w front (x ++ (back ++ more))
    ∙ ap (λ (k : List Symbol). w ++ (front ++ k)) (sym (append_assoc x back more))
    ∙ ap (λ (k : List Symbol). w ++ k) (sym (append_assoc front (x ++ back) more)) ∙ h

signed : (w front x more y : List Symbol) → w ++ ((front ++ x) ++ more) ≡ y → (w ++ front) ++ (x ++ more) ≡ y
signed w front x more y h =
    append_assoc w front (x ++ more) ∙ ap (λ (k : List Symbol). w ++ k) (sym (append_assoc front x more)) ∙ h

spelled_both : (w a op x more y : List Symbol) → w ++ ((a ++ (op ++ x)) ++ more) ≡ y → ((w ++ a) ++ op) ++ (x ++ more) ≡ y
spelled_both w a op x more y h =
    append_assoc (w ++ a) op (x ++ more)
    ∙ append_assoc w a (op ++ (x ++ more))
    ∙ ap (λ (k : List Symbol). w ++ (a ++ k)) (sym (append_assoc op x more))
    ∙ ap (λ (k : List Symbol). w ++ k) (sym (append_assoc a (op ++ x) more)) ∙ h

completes : (lim : Limits) → (g : Parts) (x : Syntax) (lv : Level) → Operand lim g x lv → Takes g x → Closes lim g x
completes lim [] x lv o h = (x, [], (some_is (level lim x) o.own o.has, o.fits), append-nil (spelling x))
completes lim (PlusBefore ∷ g) x lv o h =
    let c = completes lim g (Positive x) lv (positive lim g x lv h o) (takes_tight g (Positive x) refl) in
    (c.0, c.1, c.2, signed (written g) (symbol.Operator Add ∷ []) (spelling x) c.1 (spelling c.0) c.3)
completes lim (MinusBefore ∷ g) x lv o h =
    let c = completes lim g (Negative x) lv (negative lim g x lv h o) (takes_tight g (Negative x) refl) in
    (c.0, c.1, c.2, signed (written g) (symbol.Operator Sub ∷ []) (spelling x) c.1 (spelling c.0) c.3)
completes lim (NotBefore ∷ g) x lv o h =
    let c = completes lim g (Denied x) lv (not_of lim g x lv h o) (takes_tight g (Denied x) refl) in
    (c.0, c.1, c.2, signed (written g) (symbol.Not ∷ []) (spelling x) c.1 (spelling c.0) c.3)
completes lim (LeftOf a op ∷ g) x lv o h =
    let c = completes lim g (Chained op a x) lv (both_of lim g a x op lv h o) (takes_loose g (Chained op a x) o.good.9) in
    (c.0, c.1, c.2, spelled_both (written g) (spelling a) (symbol.Operator op ∷ []) (spelling x) c.1 (spelling c.0) c.3)
completes lim (Within Parentheses outer ∷ g) x lv o h =
    let p = plain_operand lim g (Grouped x) outer o.good.2 refl (o.good.1, some_is (level lim x) o.own o.has, o.fits) in
    let c = completes lim g (Grouped x) outer p (takes_tight g (Grouped x) refl) in
    (c.0, (symbol.Close ∷ []) ++ c.1, c.2, wrapped (written g) (symbol.Open ∷ []) (spelling x) (symbol.Close ∷ []) c.1 (spelling c.0) c.3)
completes lim (Within (Argument f) outer ∷ g) x lv o h =
    let p = plain_operand lim g (Called f x) outer o.good.2 refl (o.good.1, some_is (level lim x) o.own o.has, o.fits) in
    let c = completes lim g (Called f x) outer p (takes_tight g (Called f x) refl) in
    (c.0, (symbol.Close ∷ []) ++ c.1, c.2, wrapped (written g) (symbol.Function f ∷ (symbol.Open ∷ [])) (spelling x) (symbol.Close ∷ []) c.1 (spelling c.0) c.3)
completes lim (Within Index outer ∷ g) x lv o h =
    let p = plain_operand lim g (Indexing x) outer o.good.2 refl (some_is (level lim x) o.own o.has, o.fits) in
    let c = completes lim g (Indexing x) outer p (takes_tight g (Indexing x) refl) in
    (c.0, (symbol.CloseBracket ∷ []) ++ c.1, c.2, wrapped (written g) (symbol.Letter ∷ (symbol.OpenBracket ∷ [])) (spelling x) (symbol.CloseBracket ∷ []) c.1 (spelling c.0) c.3)

-- what waits for an operand begins an expression: 0 may stand there, and R0
begins : (lim : Limits) → (g : Parts) (lv : Level) → Good lim g lv → BeginsExpressionUnder lim (written g)
begins lim g lv good =
    let c = completes lim g (Constant (pos 0) true) lv (plain_operand lim g (Constant (pos 0) true) lv good refl tt) (takes_tight g (Constant (pos 0) true) refl) in
    (c.0, spelling (Constant (pos 0) true) ++ c.1, c.2, c.3)

zero_is_index : IsSome (index_of (pos 0))
unfolding index_of
zero_is_index = search rules

begins_index : (lim : Limits) → (g : Parts) (lv : Level) → Good lim g lv → BeginsExpressionUnder lim (written g ++ (symbol.Letter ∷ []))
begins_index lim g lv good =
    let x : Syntax = Named (pos 0) in
    let c = completes lim g x lv (plain_operand lim g x lv good refl zero_is_index) (takes_tight g x refl) in
    (c.0, (symbol.Number (pos 0) true ∷ []) ++ c.1, c.2, append_assoc (written g) (symbol.Letter ∷ []) ((symbol.Number (pos 0) true ∷ []) ++ c.1) ∙ c.3)

-- after the name of a function, where any number of parentheses may be open
begins_argument : (f : UnaryOp) (g : Parts) (lv : Level) → Good any_nesting g lv → BeginsExpressionUnder any_nesting (written g ++ (symbol.Function f ∷ []))
begins_argument f g lv good =
    let inner : Parts = Within (Argument f) lv ∷ g in
    let x : Syntax = Constant (pos 0) true in
    let c = completes any_nesting inner x Plain (plain_operand any_nesting inner x Plain (refl, refl, good) refl tt) tt in
    let rest : List Symbol = spelling x ++ c.1 in (
      c.0,
      symbol.Open ∷ rest,
      c.2,
      append_assoc (written g) (symbol.Function f ∷ []) (symbol.Open ∷ rest)
          ∙ sym (append_assoc (written g) (symbol.Function f ∷ (symbol.Open ∷ [])) rest) ∙ c.3,
    )

may_go_on : (ss : List Symbol) (state : State) → Stands all_limits ss state → Stands any_nesting ss (soft_state any_nesting state) → MayGoOn ss
may_go_on ss (Wants st lv) h n =
    let P : List Symbol → Type 0 = λ k. BeginsExpressionUnder all_limits k in inl (subst P h.3 (begins all_limits h.0 lv h.2))
may_go_on ss (WantsIndex st lv) h n =
    let P : List Symbol → Type 0 = λ k. BeginsExpressionUnder all_limits k in inl (subst P h.3 (begins_index all_limits h.0 lv h.2))
may_go_on ss (WantsArgument f st lv) h n =
    let P : List Symbol → Type 0 = λ k. BeginsExpressionUnder any_nesting k in
    inr (written h.0, f, sym h.3, begins all_limits h.0 lv h.2, subst P n.3 (begins_argument f n.0 (soft any_nesting lv) n.2))
may_go_on ss (Has t st lv) h n =
    let c = completes all_limits h.0 h.1 lv h.4 (takes_loose h.0 h.1 h.5) in
    let P : List Symbol → Type 0 = λ k. BeginsExpressionUnder all_limits k in
    inl (subst P h.7 (c.0, c.1, c.2, append_assoc (written h.0) (spelling h.1) c.1 ∙ c.3))

-- what was read so far leads here, whatever stands after it
abbrev pub Leads : (lim : Limits) → List Symbol → State → Type 0
Leads lim ss state = (following : List Symbol) → read lim (ss ++ following) ≡ run lim following state

-- a refusal does not come where an expression is spelled
not_front : (lim : Limits) → (ss : List Symbol) (s : Symbol) (state : State) (code : ℕ) → Leads lim ss state → step lim state s ≡ Refuse code → ¬ (IsFrontUnder lim (ss ++ (s ∷ [])))
unfolding run
not_front lim ss s state code leads e front =
    let x = front.0 in
    let found : read lim (spelling x ++ front.1) ≡ Ok (tree x, front.1) = complete lim x front.1 front.3 front.4 in
    let refused : read lim ((ss ++ (s ∷ [])) ++ front.2) ≡ Err code =
    ap (read lim) (append_assoc ss (s ∷ []) front.2) ∙ leads (s ∷ front.2) ∙ ap (λ (n : Next). go_on n (s ∷ front.2) (run lim front.2)) e in
    let same : read lim ((ss ++ (s ∷ [])) ++ front.2) ≡ read lim (spelling x ++ front.1) = ap (read lim) front.5 in
    cc

leads_on : (lim : Limits) → (ss : List Symbol) (s : Symbol) (state next : State) → Leads lim ss state → step lim state s ≡ On next → Leads lim (ss ++ (s ∷ [])) next
unfolding run
leads_on lim ss s state next leads e following =
    ap (read lim) (append_assoc ss (s ∷ []) following) ∙ leads (s ∷ following) ∙ ap (λ (n : Next). go_on n (s ∷ following) (run lim following)) e

no_expression : (lim : Limits) → (ss : List Symbol) (state : State) (code : ℕ) → Leads lim ss state → run lim [] state ≡ Err code → (x : Syntax) → IsExpressionUnder lim x → ¬ (ss ++ [] ≡ spelling x)
no_expression lim ss state code leads h x is e =
    let found : read lim (spelling x ++ []) ≡ Ok (tree x, []) = complete lim x [] is tt in
    let same : read lim (ss ++ []) ≡ read lim (spelling x ++ []) = ap (read lim) (e ∙ sym (append-nil (spelling x))) in
    let refused : read lim (ss ++ []) ≡ Err code = leads [] ∙ h in
    cc

-- where an operand is wanted, a line can go on
wants_front : (lim : Limits) (ss : List Symbol) (st : Stack) (lv : Level) → Stands lim ss (Wants st lv) → IsFrontUnder lim ss
wants_front lim ss st lv h =
    let P : List Symbol → Type 0 = λ k. BeginsExpressionUnder lim k in
    let b : BeginsExpressionUnder lim ss = subst P h.3 (begins lim h.0 lv h.2) in
    (b.0, [], b.1, b.2, tt, b.3 ∙ sym (append-nil (spelling b.0)))

-- a run with all limits goes along with one with some of them
abbrev pub Along : Limits → List Symbol → State → Type 0
Along lim ss state = Stands lim ss (soft_state lim state) × Leads lim ss (soft_state lim state)

along_on : (n a : Bool) (ss : List Symbol) (s : Symbol) (state next : State) → step all_limits state s ≡ On next → Along (limits_of n a) ss state →
    Along (limits_of n a) (ss ++ (s ∷ [])) next
along_on n a ss s state next e along =
    let lim : Limits = limits_of n a in
    let S : Next → Type 0 = λ k. Softened lim k (step lim (soft_state lim state) s) in
    let soft : step lim (soft_state lim state) s ≡ On (soft_state lim next) = subst S e (soft_step n a s state) in
    let A : Next → Type 0 = λ k. After lim ss s k in
    (subst A soft (step_stands lim s ss (soft_state lim state) along.0), leads_on lim ss s (soft_state lim state) (soft_state lim next) along.1 soft)

along_refused : (n a : Bool) (ss : List Symbol) (s : Symbol) (state : State) (code : ℕ) → step all_limits state s ≡ Refuse code → Along (limits_of n a) ss state →
    (Stays (limits_of n a) code × ¬ (IsFrontUnder (limits_of n a) (ss ++ (s ∷ [])))) ⊎ (Gives (limits_of n a) code × IsFrontUnder (limits_of n a) (ss ++ (s ∷ [])))
along_refused n a ss s state code e along =
    let lim : Limits = limits_of n a in
    let S : Next → Type 0 = λ k. Softened lim k (step lim (soft_state lim state) s) in
    let A : Next → Type 0 = λ k. After lim ss s k in
    elim (subst S e (soft_step n a s state)) [
      | inl h ↦ inl (h.1, not_front lim ss s (soft_state lim state) code along.1 h.0)
      | inr h ↦ inr (h.3, wants_front lim (ss ++ (s ∷ [])) h.0 h.1 (subst A h.2 (step_stands lim s ss (soft_state lim state) along.0)))
    ]

not_both : false ≡ true → ⊥
not_both h = cc

nor_both : true ≡ false → ⊥
nor_both h = cc

nesting_code : (code : ℕ) (N : Type 0) → ((Stays any_nesting code × ¬ N) ⊎ (Gives any_nesting code × N)) → ((code ≡ 26) × N) ⊎ (((code ≡ 22) ⊎ (code ≡ 23)) × ¬ N)
nesting_code code N (inl (inl e, n)) = inr (inl e, n)
nesting_code code N (inl (inr (inl x), n)) = absurd (not_both x.1)
nesting_code code N (inl (inr (inr x), n)) = inr (inr x.0, n)
nesting_code code N (inr (inl x, n)) = inl (x.0, n)
nesting_code code N (inr (inr x, n)) = absurd (nor_both x.1)

mixture_code : (code : ℕ) (M : Type 0) → ((Stays any_mixture code × ¬ M) ⊎ (Gives any_mixture code × M)) → ((code ≡ 23) × M) ⊎ (((code ≡ 22) ⊎ (code ≡ 26)) × ¬ M)
mixture_code code M (inl (inl e, m)) = inr (inl e, m)
mixture_code code M (inl (inr (inl x), m)) = inr (inr x.0, m)
mixture_code code M (inl (inr (inr x), m)) = absurd (not_both x.1)
mixture_code code M (inr (inl x, m)) = absurd (nor_both x.1)
mixture_code code M (inr (inr x, m)) = inl (x.0, m)

both_codes : (code : ℕ) (N M : Type 0) → ((code ≡ 26) × N) ⊎ (((code ≡ 22) ⊎ (code ≡ 23)) × ¬ N) → ((code ≡ 23) × M) ⊎ (((code ≡ 22) ⊎ (code ≡ 26)) × ¬ M) →
    ((code ≡ 26) × N × ¬ M) ⊎ (((code ≡ 23) × ¬ N × M) ⊎ ((code ≡ 22) × ¬ N × ¬ M))
both_codes code N M (inl x) (inl y) = absurd (omega (arith, x.0, y.0))
both_codes code N M (inl x) (inr y) = inl (x.0, x.1, y.1)
both_codes code N M (inr x) (inl y) = inr (inl (y.0, x.1, y.1))
both_codes code N M (inr (inl e, n)) (inr y) = inr (inr (e, n, y.1))
both_codes code N M (inr (inr e, n)) (inr (inl f, m)) = inr (inr (f, n, m))
both_codes code N M (inr (inr e, n)) (inr (inr f, m)) = absurd (omega (arith, e, f))

-- the state of the run, with all limits and with some
pub record Runs (ss : List Symbol) (state : State) : Type 0 where
  pub stands : Stands all_limits ss state
  pub leads : Leads all_limits ss state
  pub nesting : Along any_nesting ss state
  pub mixture : Along any_mixture ss state

runs_on : (ss : List Symbol) (s : Symbol) (state next : State) → step all_limits state s ≡ On next → Runs ss state → Runs (ss ++ (s ∷ [])) next
runs_on ss s state next e r =
    let A : Next → Type 0 = λ k. After all_limits ss s k in
    record {
      stands = subst A e (step_stands all_limits s ss state r.stands);
      leads = leads_on all_limits ss s state next r.leads e;
      nesting = along_on false true ss s state next e r.nesting;
      mixture = along_on true false ss s state next e r.mixture;
    }

broken_step : (s : Symbol) (ss rest : List Symbol) (state : State) (code : ℕ) (n : Next) → step all_limits state s ≡ n → Runs ss state →
    ((next : State) → Runs (ss ++ (s ∷ [])) next → run all_limits rest next ≡ Err code → Broken ((ss ++ (s ∷ [])) ++ rest) code) →
    go_on n (s ∷ rest) (run all_limits rest) ≡ Err code → Broken (ss ++ (s ∷ rest)) code
broken_step s ss rest state code (On next) e runs again h =
    let P : List Symbol → Type 0 = λ k. Broken k code in
    subst P (append_assoc ss (s ∷ []) rest) (again next (runs_on ss s state next e runs) h)
broken_step s ss rest state code (Ends t) e runs again h = cc
broken_step s ss rest state code (Refuse c) e runs again h =
    let same : c ≡ code = cc in
    let e' : step all_limits state s ≡ Refuse code = e ∙ ap (λ (k : ℕ). Refuse k) same in
    let front : List Symbol = ss ++ (s ∷ []) in
    inl (
      ss,
      s,
      rest,
      refl,
      may_go_on ss state runs.stands runs.nesting.0,
      not_front all_limits ss s state code runs.leads e',
      both_codes code (IsFrontUnder any_nesting front) (IsFrontUnder any_mixture front)
          (nesting_code code (IsFrontUnder any_nesting front) (along_refused false true ss s state code e' runs.nesting))
          (mixture_code code (IsFrontUnder any_mixture front) (along_refused true false ss s state code e' runs.mixture)),
    )

-- a line that ends too early is refused with 22
stop_code : (n : Next) (code : ℕ) → EndsWith n → at_last n ≡ Err code → code ≡ 22
stop_code (On state) code h e = cc
stop_code (Ends t) code h e = cc
stop_code (Refuse c) code h e = let s : c ≡ code = cc in sym s ∙ h

broken : (rest ss : List Symbol) (state : State) (code : ℕ) → Runs ss state → run all_limits rest state ≡ Err code → Broken (ss ++ rest) code
unfolding run
broken [] ss state code runs h =
    let P : List Symbol → Type 0 = λ k. MayGoOn k in
    inr (subst P (sym (append-nil ss)) (may_go_on ss state runs.stands runs.nesting.0), no_expression all_limits ss state code runs.leads h, stop_code (finish state) code (end_code state) h)
broken (s ∷ rest) ss state code runs h =
    broken_step s ss rest state code (step all_limits state s) refl runs
    (λ (next : State) (r : Runs (ss ++ (s ∷ [])) next) (e : run all_limits rest next ≡ Err code). broken rest (ss ++ (s ∷ [])) next code r e) h

pub leftmost : (symbols : List Symbol) (code : ℕ) → read all_limits symbols ≡ Err code → Broken symbols code
unfolding read
leftmost symbols code h =
    let start : Runs [] (Wants [] Plain) = record {
      stands = starts all_limits;
      leads = λ (following : List Symbol). refl;
      nesting = (starts any_nesting, λ (following : List Symbol). refl);
      mixture = (starts any_mixture, λ (following : List Symbol). refl);
    } in
    broken symbols [] (Wants [] Plain) code start h
