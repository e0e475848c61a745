-- What is read as a tree is spelled as an expression of it.
use Rattle.std.proofs.Common.{◌≡◌, ℕ, ℤ, ◌<◌, ◌≤◌, Bool, true, false, cond, leb, List, [], ◌∷◌, ◌++◌, refl, ap, sym, ◌∙◌, subst, Option, Some, None, Ok, IsSome, IsTrue, arith, rules, tests}
use Rattle.std.proofs.lemmas.List.{append_assoc}
use Rattle.nc_expressions.specs.declared.trees.UnaryOp.{UnaryOp}
use Rattle.nc_expressions.specs.declared.trees.UnaryOp.TheVariants as unary
use Rattle.nc_expressions.specs.declared.trees.BinaryOp.{BinaryOp}
use Rattle.nc_expressions.specs.declared.trees.BinaryOp.TheVariants.{Add, Sub, Mul, Div, WholeDiv, Modulo, And, Or, Xor, Equal, NotEqual, Greater, Less, GreaterEqual, LessEqual}
use Rattle.nc_expressions.specs.declared.levels.Level.{Level}
use Rattle.nc_expressions.specs.declared.levels.Level.TheVariants.{Plain}
use Rattle.nc_expressions.specs.declared.symbols.Symbol.{Symbol}
use Rattle.nc_expressions.specs.declared.symbols.Symbol.TheVariants as symbol
use Rattle.nc_expressions.specs.declared.stack.Bracket.{Bracket}
use Rattle.nc_expressions.specs.declared.stack.Bracket.TheVariants.{Parentheses, Argument, Index}
use Rattle.nc_expressions.specs.Tree.{Tree, Binary}
use Rattle.nc_expressions.specs.Levels.{connecting, rank, kind, joint_level, clash}
use Rattle.nc_expressions.specs.Limits.{Limits, all_limits, has_room}
use Rattle.nc_expressions.specs.Symbols.{index_of}
use Rattle.nc_expressions.specs.Syntax.{Syntax, Constant, Truth, Positive, Negative, Denied, Named, Indexing, Called, Grouped, Chained, spelling, parameter_of, tree, tightness, and_then, level, Fits, IsExpressionUnder, Follows}
use Rattle.nc_expressions.specs.Machine.{Prefix, Left, Opened, Stack, State, Wants, WantsIndex, WantsArgument, Has, Next, On, Ends, Refuse, depth, attach, join, state_with_tree, next_in_bracket, with_left, with_prefix, with_parameter, close_parenthesis, close_bracket, stop, finish, at_last, on_sign, on_operand, on_index, on_argument, on_operator, on_close, on_close_bracket, on_other, on_ended, step, run, go_on, read}
use Rattle.nc_expressions.proofs.LevelLaws.{together_plain, some_is, some_of, associates, rank_small}
use Rattle.nc_expressions.specs.Fronts.{Found}

-- one thing that was written and waits: a sign or NOT, a left operand with its operator, or an open bracket
pub data Part : Type 0 where
  PlusBefore : Part
  MinusBefore : Part
  NotBefore : Part
  LeftOf : Syntax → BinaryOp → Part
  Within : Bracket → Level → Part

abbrev pub Parts : Type 0
Parts = List Part

-- the machine's stack of it
abbrev pub image : Parts → Stack
image [] = []
image (PlusBefore ∷ g) = image g
image (MinusBefore ∷ g) = Prefix unary.Minus ∷ image g
image (NotBefore ∷ g) = Prefix unary.Not ∷ image g
image (LeftOf a op ∷ g) = Left (tree a) op ∷ image g
image (Within b lv ∷ g) = Opened b lv ∷ image g

-- its symbols
abbrev pub opening : Bracket → List Symbol
opening Parentheses = symbol.Open ∷ []
opening (Argument f) = symbol.Function f ∷ (symbol.Open ∷ [])
opening Index = symbol.Letter ∷ (symbol.OpenBracket ∷ [])

abbrev pub written : Parts → List Symbol
written [] = []
written (PlusBefore ∷ g) = written g ++ (symbol.Operator Add ∷ [])
written (MinusBefore ∷ g) = written g ++ (symbol.Operator Sub ∷ [])
written (NotBefore ∷ g) = written g ++ (symbol.Not ∷ [])
written (LeftOf a op ∷ g) = (written g ++ spelling a) ++ (symbol.Operator op ∷ [])
written (Within b lv ∷ g) = written g ++ opening b

-- no sign is on top, and no operator that binds as tightly
abbrev pub LooseThan : ℕ → Parts → Type 0
LooseThan r [] = Unit {0}
LooseThan r (PlusBefore ∷ g) = ⊥
LooseThan r (MinusBefore ∷ g) = ⊥
LooseThan r (NotBefore ∷ g) = ⊥
LooseThan r (LeftOf a op ∷ g) = rank op < r
LooseThan r (Within b lv ∷ g) = Unit {0}

abbrev pub HasRoom : (lim : Limits) → Bracket → ℕ → Type 0
HasRoom lim Parentheses n = IsTrue (has_room lim n)
HasRoom lim (Argument f) n = IsTrue (has_room lim n)
HasRoom lim Index n = Unit {0}

-- it is of the grammar, and its innermost level has this so far
abbrev pub Good : (lim : Limits) → Parts → Level → Type 0
Good lim [] lv = lv ≡ Plain
Good lim (PlusBefore ∷ g) lv = Good lim g lv
Good lim (MinusBefore ∷ g) lv = Good lim g lv
Good lim (NotBefore ∷ g) lv = (l : Level) × Good lim g l × (joint_level l (connecting lim) ≡ Some lv)
Good lim (LeftOf a op ∷ g) lv =
    (l : Level) × (la : Level) × (m : Level) × Good lim g l × (level lim a ≡ Some la) × (joint_level l la ≡ Some m) × (joint_level m (kind lim op) ≡ Some lv)
    × Fits lim (depth (image g)) a × (rank op ≤ tightness a) × LooseThan (rank op) g
Good lim (Within b outer ∷ g) lv = (lv ≡ Plain) × HasRoom lim b (depth (image g)) × Good lim g outer

-- an operand after it, with which the level has this
pub record Operand (lim : Limits) (g : Parts) (x : Syntax) (lv : Level) : Type 0 where
  pub before : Level
  pub own : Level
  pub good : Good lim g before
  pub has : level lim x ≡ Some own
  pub levels : joint_level before own ≡ Some lv
  pub fits : Fits lim (depth (image g)) x

-- the state of the machine after these symbols
abbrev pub Stands : (lim : Limits) → List Symbol → State → Type 0
Stands lim ss (Wants st lv) = (g : Parts) × (image g ≡ st) × Good lim g lv × (written g ≡ ss)
Stands lim ss (WantsIndex st lv) = (g : Parts) × (image g ≡ st) × Good lim g lv × (written g ++ (symbol.Letter ∷ []) ≡ ss)
Stands lim ss (WantsArgument f st lv) = (g : Parts) × (image g ≡ st) × Good lim g lv × (written g ++ (symbol.Function f ∷ []) ≡ ss)
Stands lim ss (Has t st lv) =
    (g : Parts) × (x : Syntax) × (image g ≡ st) × (tree x ≡ t) × Operand lim g x lv × LooseThan (tightness x) g × (tightness x ≡ 6) × (written g ++ spelling x ≡ ss)

abbrev pub IsSpelled : (lim : Limits) → List Symbol → Tree → Type 0
IsSpelled lim ss t = (x : Syntax) × IsExpressionUnder lim x × (tree x ≡ t) × (spelling x ≡ ss)

abbrev pub After : (lim : Limits) → List Symbol → Symbol → Next → Type 0
After lim ss s (On state) = Stands lim (ss ++ (s ∷ [])) state
After lim ss s (Ends t) = IsSpelled lim ss t × Follows (s ∷ [])
After lim ss s (Refuse code) = Unit {0}

-- a NOT before an operand, as a level of the operand
denied : (l c before own lv : Level) → joint_level l c ≡ Some before → joint_level before own ≡ Some lv →
    (k : Level) × (joint_level c own ≡ Some k) × (joint_level l k ≡ Some lv)
denied l c before own lv h e =
    let f : and_then (joint_level c own) (joint_level l) ≡ Some lv = sym (associates l c own) ∙ ap (λ (o : Option Level). and_then o (λ x. joint_level x own)) h ∙ e in
    some_of (joint_level c own) (joint_level l) lv f

-- a left and a right operand, as a level of both
pub chained : (l la m k before own lv : Level) → joint_level l la ≡ Some m → joint_level m k ≡ Some before → joint_level before own ≡ Some lv →
    (both : Level) × (and_then (joint_level k own) (joint_level la) ≡ Some both) × (joint_level l both ≡ Some lv)
chained l la m k before own lv h i e =
    let f : and_then (joint_level k own) (joint_level m) ≡ Some lv =
    sym (associates m k own) ∙ ap (λ (o : Option Level). and_then o (λ x. joint_level x own)) i ∙ e in
    let right = some_of (joint_level k own) (joint_level m) lv f in
    let j : and_then (joint_level la right.0) (joint_level l) ≡ Some lv =
    sym (associates l la right.0) ∙ ap (λ (o : Option Level). and_then o (λ x. joint_level x right.0)) h ∙ right.2 in
    let both = some_of (joint_level la right.0) (joint_level l) lv j in
    (both.0, ap (λ (o : Option Level). and_then o (joint_level la)) right.1 ∙ both.1, both.2)

pub positive : (lim : Limits) → (g : Parts) (x : Syntax) (lv : Level) → tightness x ≡ 6 → Operand lim (PlusBefore ∷ g) x lv → Operand lim g (Positive x) lv
positive lim g x lv h o = record { before = o.before; own = o.own; good = o.good; has = o.has; levels = o.levels; fits = (h, o.fits) }

pub negative : (lim : Limits) → (g : Parts) (x : Syntax) (lv : Level) → tightness x ≡ 6 → Operand lim (MinusBefore ∷ g) x lv → Operand lim g (Negative x) lv
negative lim g x lv h o = record { before = o.before; own = o.own; good = o.good; has = o.has; levels = o.levels; fits = (h, o.fits) }

pub not_of : (lim : Limits) → (g : Parts) (x : Syntax) (lv : Level) → tightness x ≡ 6 → Operand lim (NotBefore ∷ g) x lv → Operand lim g (Denied x) lv
not_of lim g x lv h o =
    let k = denied o.good.0 (connecting lim) o.before o.own lv o.good.2 o.levels in
    record {
      before = o.good.0;
      own = k.0;
      good = o.good.1;
      has = ap (λ (m : Option Level). and_then m (joint_level (connecting lim))) o.has ∙ k.1;
      levels = k.2;
      fits = (h, o.fits);
    }

pub both_of : (lim : Limits) → (g : Parts) (a x : Syntax) (op : BinaryOp) (lv : Level) → rank op < tightness x → Operand lim (LeftOf a op ∷ g) x lv → Operand lim g (Chained op a x) lv
both_of lim g a x op lv h o =
    let w = o.good in
    let k = chained w.0 w.1 w.2 (kind lim op) o.before o.own lv w.5 w.6 o.levels in
    let e : level lim (Chained op a x) ≡ Some k.0 =
    ap (λ (i : Option Level). and_then i (λ l. and_then (level lim x) (λ m. and_then (joint_level (kind lim op) m) (joint_level l)))) w.4
    ∙ ap (λ (i : Option Level). and_then i (λ m. and_then (joint_level (kind lim op) m) (joint_level w.1))) o.has
    ∙ k.1 in
    record { before = w.0; own = k.0; good = w.3; has = e; levels = k.2; fits = (w.8, h, w.7, o.fits) }

-- the same operand in brackets
pub plain_operand : (lim : Limits) → (g : Parts) (x : Syntax) (lv : Level) → Good lim g lv → level lim x ≡ Some Plain → Fits lim (depth (image g)) x → Operand lim g x lv
plain_operand lim g x lv good h f =
    record { before = lv; own = Plain; good = good; has = h; levels = together_plain lv; fits = f }

-- an operand takes the signs before it
attached : (lim : Limits) → (g : Parts) (x : Syntax) (lv : Level) (ss : List Symbol) → Operand lim g x lv → tightness x ≡ 6 → written g ++ spelling x ≡ ss →
    Stands lim ss (state_with_tree lv (attach (tree x) (image g)))
attached lim [] x lv ss o h w = ([], x, refl, refl, o, tt, h, w)
attached lim (PlusBefore ∷ g) x lv ss o h w =
    attached lim g (Positive x) lv ss (positive lim g x lv h o) refl (sym (append_assoc (written g) (symbol.Operator Add ∷ []) (spelling x)) ∙ w)
attached lim (MinusBefore ∷ g) x lv ss o h w =
    attached lim g (Negative x) lv ss (negative lim g x lv h o) refl (sym (append_assoc (written g) (symbol.Operator Sub ∷ []) (spelling x)) ∙ w)
attached lim (NotBefore ∷ g) x lv ss o h w =
    attached lim g (Denied x) lv ss (not_of lim g x lv h o) refl (sym (append_assoc (written g) (symbol.Not ∷ []) (spelling x)) ∙ w)
attached lim (LeftOf a op ∷ g) x lv ss o h w =
    let l : rank op < tightness x = omega (arith, h, rank_small op) in (LeftOf a op ∷ g, x, refl, refl, o, l, h, w)
attached lim (Within b outer ∷ g) x lv ss o h w = (Within b outer ∷ g, x, refl, refl, o, tt, h, w)

abbrev pub Joins : (lim : Limits) → ℕ → Level → List Symbol → Tree × Stack → Type 0
Joins lim r lv ss p =
    (g : Parts) × (x : Syntax) × (image g ≡ p.1) × (tree x ≡ p.0) × Operand lim g x lv × (r ≤ tightness x) × LooseThan r g × (written g ++ spelling x ≡ ss)

-- an operand is taken by the operators before it that bind at least so tightly
joins_cases : (lim : Limits) → (b : Bool) (r : ℕ) (g : Parts) (a x : Syntax) (op : BinaryOp) (lv : Level) (ss : List Symbol) (p : Tree × Stack) →
    (b ≡ true → Joins lim r lv ss p) → (b ≡ false → Joins lim r lv ss (tree x, Left (tree a) op ∷ image g)) →
    Joins lim r lv ss (cond b p (tree x, Left (tree a) op ∷ image g))
joins_cases lim true r g a x op lv ss p h i = h refl
joins_cases lim false r g a x op lv ss p h i = i refl

joins_to : (lim : Limits) → (r : ℕ) (g : Parts) (x : Syntax) (lv : Level) (ss : List Symbol) → Operand lim g x lv → LooseThan (tightness x) g → r ≤ tightness x →
    written g ++ spelling x ≡ ss → Joins lim r lv ss (join r (tree x) (image g))
joins_to lim r [] x lv ss o l h w = ([], x, refl, refl, o, h, tt, w)
joins_to lim r (PlusBefore ∷ g) x lv ss o l h w = absurd l
joins_to lim r (MinusBefore ∷ g) x lv ss o l h w = absurd l
joins_to lim r (NotBefore ∷ g) x lv ss o l h w = absurd l
joins_to lim r (LeftOf a op ∷ g) x lv ss o l h w =
    joins_cases lim (leb r (rank op)) r g a x op lv ss (join r (Binary op (tree a) (tree x)) (image g))
    (λ (e : leb r (rank op) ≡ true). let le : r ≤ rank op = search (rules, tests) in
    joins_to lim r g (Chained op a x) lv ss (both_of lim g a x op lv l o) o.good.9 le
    (sym (ap (λ (k : List Symbol). k ++ spelling x) (append_assoc (written g) (spelling a) (symbol.Operator op ∷ [])) ∙ append_assoc (written g) (spelling a ++ (symbol.Operator op ∷ [])) (spelling x) ∙ ap (λ (k : List Symbol). written g ++ k) (append_assoc (spelling a) (symbol.Operator op ∷ []) (spelling x))) ∙ w))
    (λ (e : leb r (rank op) ≡ false). let lt : rank op < r = search (rules, tests) in (LeftOf a op ∷ g, x, refl, refl, o, h, lt, w))
joins_to lim r (Within b outer ∷ g) x lv ss o l h w = (Within b outer ∷ g, x, refl, refl, o, h, tt, w)

-- what each symbol makes of what was written
more : (s ss : List Symbol) (t : List Symbol) → s ≡ ss → s ++ t ≡ ss ++ t
more s ss t h = ap (λ (k : List Symbol). k ++ t) h

after_sign : (lim : Limits) → (op : BinaryOp) (g : Parts) (lv : Level) (ss : List Symbol) → Good lim g lv → written g ≡ ss → After lim ss (symbol.Operator op) (on_sign op (image g) lv)
unfolding on_sign
after_sign lim Add g lv ss good w = (PlusBefore ∷ g, refl, good, more (written g) ss (symbol.Operator Add ∷ []) w)
after_sign lim Sub g lv ss good w = (MinusBefore ∷ g, refl, good, more (written g) ss (symbol.Operator Sub ∷ []) w)
after_sign lim Mul g lv ss good w = tt
after_sign lim Div g lv ss good w = tt
after_sign lim WholeDiv g lv ss good w = tt
after_sign lim Modulo g lv ss good w = tt
after_sign lim And g lv ss good w = tt
after_sign lim Or g lv ss good w = tt
after_sign lim Xor g lv ss good w = tt
after_sign lim Equal g lv ss good w = tt
after_sign lim NotEqual g lv ss good w = tt
after_sign lim Greater g lv ss good w = tt
after_sign lim Less g lv ss good w = tt
after_sign lim GreaterEqual g lv ss good w = tt
after_sign lim LessEqual g lv ss good w = tt

after_not : (lim : Limits) → (o : Option Level) (code : ℕ) (g : Parts) (lv : Level) (ss : List Symbol) → joint_level lv (connecting lim) ≡ o → Good lim g lv → written g ≡ ss →
    After lim ss symbol.Not (with_prefix o code unary.Not (image g))
after_not lim None code g lv ss h good w = tt
after_not lim (Some l) code g lv ss h good w = (NotBefore ∷ g, refl, (lv, good, h), more (written g) ss (symbol.Not ∷ []) w)

opened_cases : (b : Bool) (x y : Next) (P : Next → Type 0) → (IsTrue b → P x) → P y → P (cond b x y)
opened_cases true x y P h i = h refl
opened_cases false x y P h i = i

after_open : (lim : Limits) → (g : Parts) (lv : Level) (ss : List Symbol) → Good lim g lv → written g ≡ ss → After lim ss symbol.Open (next_in_bracket lim Parentheses (image g) lv)
unfolding next_in_bracket
after_open lim g lv ss good w =
    let P : Next → Type 0 = λ n. After lim ss symbol.Open n in
    opened_cases (has_room lim (depth (image g))) (On (Wants (Opened Parentheses lv ∷ image g) Plain)) (Refuse 26) P
    (λ (e : IsTrue (has_room lim (depth (image g)))).
    (Within Parentheses lv ∷ g, refl, (refl, e, good), more (written g) ss (symbol.Open ∷ []) w)) tt

after_argument_open : (lim : Limits) → (f : UnaryOp) (g : Parts) (lv : Level) (ss : List Symbol) → Good lim g lv → written g ++ (symbol.Function f ∷ []) ≡ ss →
    After lim ss symbol.Open (next_in_bracket lim (Argument f) (image g) lv)
unfolding next_in_bracket
after_argument_open lim f g lv ss good w =
    let P : Next → Type 0 = λ n. After lim ss symbol.Open n in
    opened_cases (has_room lim (depth (image g))) (On (Wants (Opened (Argument f) lv ∷ image g) Plain)) (Refuse 26) P
    (λ (e : IsTrue (has_room lim (depth (image g)))). (
      Within (Argument f) lv ∷ g,
      refl,
      (refl, e, good),
      sym (append_assoc (written g) (symbol.Function f ∷ []) (symbol.Open ∷ [])) ∙ more (written g ++ (symbol.Function f ∷ [])) ss (symbol.Open ∷ []) w,
    )) tt

after_operand : (lim : Limits) → (s : Symbol) (g : Parts) (lv : Level) (ss : List Symbol) → Good lim g lv → written g ≡ ss → After lim ss s (on_operand lim (image g) lv s)
unfolding on_operand
after_operand lim (symbol.Number z d) g lv ss good w =
    attached lim g (Constant z d) lv (ss ++ (symbol.Number z d ∷ [])) (plain_operand lim g (Constant z d) lv good refl tt) refl (more (written g) ss (symbol.Number z d ∷ []) w)
after_operand lim (symbol.Truth b) g lv ss good w =
    attached lim g (Truth b) lv (ss ++ (symbol.Truth b ∷ [])) (plain_operand lim g (Truth b) lv good refl tt) refl (more (written g) ss (symbol.Truth b ∷ []) w)
after_operand lim (symbol.Operator op) g lv ss good w = after_sign lim op g lv ss good w
after_operand lim symbol.Not g lv ss good w = after_not lim (joint_level lv (connecting lim)) (clash lv (connecting lim)) g lv ss refl good w
after_operand lim (symbol.Function f) g lv ss good w = (g, refl, good, more (written g) ss (symbol.Function f ∷ []) w)
after_operand lim symbol.Letter g lv ss good w = (g, refl, good, more (written g) ss (symbol.Letter ∷ []) w)
after_operand lim symbol.Open g lv ss good w = after_open lim g lv ss good w
after_operand lim symbol.Close g lv ss good w = tt
after_operand lim symbol.OpenBracket g lv ss good w = tt
after_operand lim symbol.CloseBracket g lv ss good w = tt
after_operand lim symbol.Exponent g lv ss good w = tt
after_operand lim symbol.Other g lv ss good w = tt

after_number : (lim : Limits) → (o : Option ℕ) (z : ℤ) (g : Parts) (lv : Level) (ss : List Symbol) → index_of z ≡ o → Good lim g lv → written g ++ (symbol.Letter ∷ []) ≡ ss →
    After lim ss (symbol.Number z true) (with_parameter o (image g) lv)
after_number lim None z g lv ss h good w = tt
after_number lim (Some i) z g lv ss h good w =
    let fits : IsSome (index_of z) = rw h (search rules) in
    let w' : written g ++ spelling (Named z) ≡ ss ++ (symbol.Number z true ∷ []) =
    sym (append_assoc (written g) (symbol.Letter ∷ []) (symbol.Number z true ∷ [])) ∙ more (written g ++ (symbol.Letter ∷ [])) ss (symbol.Number z true ∷ []) w in
    let P : Option ℕ → Type 0 = λ k. Stands lim (ss ++ (symbol.Number z true ∷ [])) (state_with_tree lv (attach (parameter_of k) (image g))) in
    subst P h (attached lim g (Named z) lv (ss ++ (symbol.Number z true ∷ [])) (plain_operand lim g (Named z) lv good refl fits) refl w')

after_index : (lim : Limits) → (s : Symbol) (g : Parts) (lv : Level) (ss : List Symbol) → Good lim g lv → written g ++ (symbol.Letter ∷ []) ≡ ss → After lim ss s (on_index (image g) lv s)
unfolding on_index
after_index lim (symbol.Number z true) g lv ss good w = after_number lim (index_of z) z g lv ss refl good w
after_index lim (symbol.Number z false) g lv ss good w = tt
after_index lim symbol.OpenBracket g lv ss good w = (
  Within Index lv ∷ g,
  refl,
  (refl, tt, good),
  sym (append_assoc (written g) (symbol.Letter ∷ []) (symbol.OpenBracket ∷ [])) ∙ more (written g ++ (symbol.Letter ∷ [])) ss (symbol.OpenBracket ∷ []) w,
)
after_index lim (symbol.Truth b) g lv ss good w = tt
after_index lim (symbol.Operator op) g lv ss good w = tt
after_index lim symbol.Not g lv ss good w = tt
after_index lim (symbol.Function f) g lv ss good w = tt
after_index lim symbol.Letter g lv ss good w = tt
after_index lim symbol.Open g lv ss good w = tt
after_index lim symbol.Close g lv ss good w = tt
after_index lim symbol.CloseBracket g lv ss good w = tt
after_index lim symbol.Exponent g lv ss good w = tt
after_index lim symbol.Other g lv ss good w = tt

after_argument : (lim : Limits) → (s : Symbol) (f : UnaryOp) (g : Parts) (lv : Level) (ss : List Symbol) → Good lim g lv → written g ++ (symbol.Function f ∷ []) ≡ ss →
    After lim ss s (on_argument lim f (image g) lv s)
unfolding on_argument
after_argument lim symbol.Open f g lv ss good w = after_argument_open lim f g lv ss good w
after_argument lim (symbol.Number z d) f g lv ss good w = tt
after_argument lim (symbol.Truth b) f g lv ss good w = tt
after_argument lim (symbol.Operator op) f g lv ss good w = tt
after_argument lim symbol.Not f g lv ss good w = tt
after_argument lim (symbol.Function h) f g lv ss good w = tt
after_argument lim symbol.Letter f g lv ss good w = tt
after_argument lim symbol.Close f g lv ss good w = tt
after_argument lim symbol.OpenBracket f g lv ss good w = tt
after_argument lim symbol.CloseBracket f g lv ss good w = tt
after_argument lim symbol.Exponent f g lv ss good w = tt
after_argument lim symbol.Other f g lv ss good w = tt

-- an operand that has ended, before an operator, a closing bracket and anything else
after_left : (lim : Limits) → (o : Option Level) (code : ℕ) (op : BinaryOp) (lv : Level) (ss : List Symbol) (p : Tree × Stack) → joint_level lv (kind lim op) ≡ o → Joins lim (rank op) lv ss p →
    After lim ss (symbol.Operator op) (with_left o code op p)
after_left lim None code op lv ss p h j = tt
after_left lim (Some l) code op lv ss p h j =
    let g = j.0 in
    let x = j.1 in
    let o : Operand lim g x lv = j.4 in
    let e : Left (tree x) op ∷ image g ≡ Left p.0 op ∷ p.1 =
    ap (λ (t : Tree). Left t op ∷ image g) j.3 ∙ ap (λ (st : Stack). Left p.0 op ∷ st) j.2 in
    (LeftOf x op ∷ g, e, (o.before, o.own, lv, o.good, o.has, o.levels, h, o.fits, j.5, j.6), more (written g ++ spelling x) ss (symbol.Operator op ∷ []) j.7)

whole : (lim : Limits) → (x : Syntax) (lv : Level) (ss : List Symbol) → Operand lim [] x lv → spelling x ≡ ss → IsSpelled lim ss (tree x)
whole lim x lv ss o w = (x, (some_is (level lim x) o.own o.has, o.fits), refl, w)

close_written : (g : Parts) (x : Syntax) (ss front back : List Symbol) → (written g ++ front) ++ spelling x ≡ ss →
    written g ++ (front ++ (spelling x ++ back)) ≡ ss ++ back
close_written g x ss front back w =
    ap (λ (k : List Symbol). written g ++ k) (sym (append_assoc front (spelling x) back))
    ∙ sym (append_assoc (written g) (front ++ spelling x) back)
    ∙ more (written g ++ (front ++ spelling x)) ss back (sym (append_assoc (written g) front (spelling x)) ∙ w)

after_close : (lim : Limits) → (g : Parts) (x : Syntax) (lv : Level) (ss : List Symbol) → Operand lim g x lv → LooseThan 0 g → written g ++ spelling x ≡ ss →
    After lim ss symbol.Close (close_parenthesis (tree x) (image g))
after_close lim [] x lv ss o l w = (whole lim x lv ss o w, tt)
after_close lim (PlusBefore ∷ g) x lv ss o l w = absurd l
after_close lim (MinusBefore ∷ g) x lv ss o l w = absurd l
after_close lim (NotBefore ∷ g) x lv ss o l w = absurd l
after_close lim (LeftOf a op ∷ g) x lv ss o l w = absurd (omega (arith, l))
after_close lim (Within Parentheses outer ∷ g) x lv ss o l w =
    attached lim g (Grouped x) outer (ss ++ (symbol.Close ∷ []))
    (plain_operand lim g (Grouped x) outer o.good.2 refl (o.good.1, some_is (level lim x) o.own o.has, o.fits)) refl
    (close_written g x ss (symbol.Open ∷ []) (symbol.Close ∷ []) w)
after_close lim (Within (Argument f) outer ∷ g) x lv ss o l w =
    attached lim g (Called f x) outer (ss ++ (symbol.Close ∷ []))
    (plain_operand lim g (Called f x) outer o.good.2 refl (o.good.1, some_is (level lim x) o.own o.has, o.fits)) refl
    (close_written g x ss (symbol.Function f ∷ (symbol.Open ∷ [])) (symbol.Close ∷ []) w)
after_close lim (Within Index outer ∷ g) x lv ss o l w = tt

after_close_bracket : (lim : Limits) → (g : Parts) (x : Syntax) (lv : Level) (ss : List Symbol) → Operand lim g x lv → LooseThan 0 g → written g ++ spelling x ≡ ss →
    After lim ss symbol.CloseBracket (close_bracket (tree x) (image g))
after_close_bracket lim [] x lv ss o l w = (whole lim x lv ss o w, tt)
after_close_bracket lim (PlusBefore ∷ g) x lv ss o l w = absurd l
after_close_bracket lim (MinusBefore ∷ g) x lv ss o l w = absurd l
after_close_bracket lim (NotBefore ∷ g) x lv ss o l w = absurd l
after_close_bracket lim (LeftOf a op ∷ g) x lv ss o l w = absurd (omega (arith, l))
after_close_bracket lim (Within Parentheses outer ∷ g) x lv ss o l w = tt
after_close_bracket lim (Within (Argument f) outer ∷ g) x lv ss o l w = tt
after_close_bracket lim (Within Index outer ∷ g) x lv ss o l w =
    attached lim g (Indexing x) outer (ss ++ (symbol.CloseBracket ∷ []))
    (plain_operand lim g (Indexing x) outer o.good.2 refl (some_is (level lim x) o.own o.has, o.fits)) refl
    (close_written g x ss (symbol.Letter ∷ (symbol.OpenBracket ∷ [])) (symbol.CloseBracket ∷ []) w)

-- where it ends, it is spelled; so it is at the end of the line
abbrev pub Stops : (lim : Limits) → List Symbol → Next → Type 0
Stops lim ss (On state) = ⊥
Stops lim ss (Ends t) = IsSpelled lim ss t
Stops lim ss (Refuse code) = Unit {0}

stops : (lim : Limits) → (g : Parts) (x : Syntax) (lv : Level) (ss : List Symbol) → Operand lim g x lv → LooseThan 0 g → written g ++ spelling x ≡ ss → Stops lim ss (stop (tree x) (image g))
stops lim [] x lv ss o l w = whole lim x lv ss o w
stops lim (PlusBefore ∷ g) x lv ss o l w = absurd l
stops lim (MinusBefore ∷ g) x lv ss o l w = absurd l
stops lim (NotBefore ∷ g) x lv ss o l w = absurd l
stops lim (LeftOf a op ∷ g) x lv ss o l w = tt
stops lim (Within b outer ∷ g) x lv ss o l w = tt

after_stop : (lim : Limits) → (s : Symbol) (ss : List Symbol) (n : Next) → Stops lim ss n → Follows (s ∷ []) → After lim ss s n
after_stop lim s ss (On state) h f = absurd h
after_stop lim s ss (Ends t) h f = (h, f)
after_stop lim s ss (Refuse code) h f = tt

-- at the operand and the stack that the machine has
moved : (P : Tree → Stack → Type 0) (x : Syntax) (g : Parts) (p : Tree × Stack) → image g ≡ p.1 → tree x ≡ p.0 → P (tree x) (image g) → P p.0 p.1
moved P x g p e f h =
    let Q : Tree → Type 0 = λ t. P t (image g) in
    let R : Stack → Type 0 = λ st. P p.0 st in
    subst R e (subst Q f h)

join_stops : (lim : Limits) → (lv : Level) (ss : List Symbol) (p : Tree × Stack) → Joins lim 0 lv ss p → Stops lim ss (stop p.0 p.1)
join_stops lim lv ss p j = moved (λ t st. Stops lim ss (stop t st)) j.1 j.0 p j.2 j.3 (stops lim j.0 j.1 lv ss j.4 j.6 j.7)

after_ended : (lim : Limits) → (s : Symbol) (g : Parts) (x : Syntax) (lv : Level) (ss : List Symbol) → Operand lim g x lv → LooseThan (tightness x) g → tightness x ≡ 6 →
    written g ++ spelling x ≡ ss → After lim ss s (on_ended lim (tree x) (image g) lv s)
unfolding on_ended on_operator on_close on_close_bracket on_other
after_ended lim (symbol.Operator op) g x lv ss o l h w =
    let le : rank op ≤ tightness x = omega (arith, h, rank_small op) in
    after_left lim (joint_level lv (kind lim op)) (clash lv (kind lim op)) op lv ss (join (rank op) (tree x) (image g)) refl (joins_to lim (rank op) g x lv ss o l le w)
after_ended lim symbol.Close g x lv ss o l h w =
    let p : Tree × Stack = join 0 (tree x) (image g) in
    let j : Joins lim 0 lv ss p = joins_to lim 0 g x lv ss o l (omega arith) w in
    moved (λ t st. After lim ss symbol.Close (close_parenthesis t st)) j.1 j.0 p j.2 j.3 (after_close lim j.0 j.1 lv ss j.4 j.6 j.7)
after_ended lim symbol.CloseBracket g x lv ss o l h w =
    let p : Tree × Stack = join 0 (tree x) (image g) in
    let j : Joins lim 0 lv ss p = joins_to lim 0 g x lv ss o l (omega arith) w in
    moved (λ t st. After lim ss symbol.CloseBracket (close_bracket t st)) j.1 j.0 p j.2 j.3 (after_close_bracket lim j.0 j.1 lv ss j.4 j.6 j.7)
after_ended lim symbol.Exponent g x lv ss o l h w = tt
after_ended lim (symbol.Number z d) g x lv ss o l h w =
    after_stop lim (symbol.Number z d) ss (stop (join 0 (tree x) (image g)).0 (join 0 (tree x) (image g)).1) (join_stops lim lv ss (join 0 (tree x) (image g)) (joins_to lim 0 g x lv ss o l (omega arith) w)) tt
after_ended lim (symbol.Truth b) g x lv ss o l h w =
    after_stop lim (symbol.Truth b) ss (stop (join 0 (tree x) (image g)).0 (join 0 (tree x) (image g)).1) (join_stops lim lv ss (join 0 (tree x) (image g)) (joins_to lim 0 g x lv ss o l (omega arith) w)) tt
after_ended lim symbol.Not g x lv ss o l h w =
    after_stop lim symbol.Not ss (stop (join 0 (tree x) (image g)).0 (join 0 (tree x) (image g)).1) (join_stops lim lv ss (join 0 (tree x) (image g)) (joins_to lim 0 g x lv ss o l (omega arith) w)) tt
after_ended lim (symbol.Function f) g x lv ss o l h w =
    after_stop lim (symbol.Function f) ss (stop (join 0 (tree x) (image g)).0 (join 0 (tree x) (image g)).1) (join_stops lim lv ss (join 0 (tree x) (image g)) (joins_to lim 0 g x lv ss o l (omega arith) w)) tt
after_ended lim symbol.Letter g x lv ss o l h w =
    after_stop lim symbol.Letter ss (stop (join 0 (tree x) (image g)).0 (join 0 (tree x) (image g)).1) (join_stops lim lv ss (join 0 (tree x) (image g)) (joins_to lim 0 g x lv ss o l (omega arith) w)) tt
after_ended lim symbol.Open g x lv ss o l h w =
    after_stop lim symbol.Open ss (stop (join 0 (tree x) (image g)).0 (join 0 (tree x) (image g)).1) (join_stops lim lv ss (join 0 (tree x) (image g)) (joins_to lim 0 g x lv ss o l (omega arith) w)) tt
after_ended lim symbol.OpenBracket g x lv ss o l h w =
    after_stop lim symbol.OpenBracket ss (stop (join 0 (tree x) (image g)).0 (join 0 (tree x) (image g)).1) (join_stops lim lv ss (join 0 (tree x) (image g)) (joins_to lim 0 g x lv ss o l (omega arith) w)) tt
after_ended lim symbol.Other g x lv ss o l h w =
    after_stop lim symbol.Other ss (stop (join 0 (tree x) (image g)).0 (join 0 (tree x) (image g)).1) (join_stops lim lv ss (join 0 (tree x) (image g)) (joins_to lim 0 g x lv ss o l (omega arith) w)) tt

pub step_stands : (lim : Limits) → (s : Symbol) (ss : List Symbol) (state : State) → Stands lim ss state → After lim ss s (step lim state s)
unfolding step
step_stands lim s ss (Wants st lv) h =
    let P : Stack → Type 0 = λ k. After lim ss s (on_operand lim k lv s) in subst P h.1 (after_operand lim s h.0 lv ss h.2 h.3)
step_stands lim s ss (WantsIndex st lv) h =
    let P : Stack → Type 0 = λ k. After lim ss s (on_index k lv s) in subst P h.1 (after_index lim s h.0 lv ss h.2 h.3)
step_stands lim s ss (WantsArgument f st lv) h =
    let P : Stack → Type 0 = λ k. After lim ss s (on_argument lim f k lv s) in subst P h.1 (after_argument lim s f h.0 lv ss h.2 h.3)
step_stands lim s ss (Has t st lv) h =
    moved (λ u k. After lim ss s (on_ended lim u k lv s)) h.1 h.0 (t, st) h.2 h.3 (after_ended lim s h.0 h.1 lv ss h.4 h.5 h.6 h.7)

finish_stands : (lim : Limits) → (ss : List Symbol) (state : State) → Stands lim ss state → Stops lim ss (finish state)
unfolding finish on_other
finish_stands lim ss (Wants st lv) h = tt
finish_stands lim ss (WantsIndex st lv) h = tt
finish_stands lim ss (WantsArgument f st lv) h = tt
finish_stands lim ss (Has t st lv) h =
    let P : Tree → Stack → Type 0 = λ u k. Stops lim ss (stop (join 0 u k).0 (join 0 u k).1) in
    moved P h.1 h.0 (t, st) h.2 h.3 (join_stops lim lv ss (join 0 (tree h.1) (image h.0)) (joins_to lim 0 h.0 h.1 lv ss h.4 h.5 (omega arith) h.7))

-- a whole run
abbrev pub Reached : (lim : Limits) → List Symbol → Tree → List Symbol → Type 0
Reached lim all t left = (ss : List Symbol) × IsSpelled lim ss t × Follows left × (all ≡ ss ++ left)

follows_more : (s : Symbol) (ss : List Symbol) → Follows (s ∷ []) → Follows (s ∷ ss)
follows_more (symbol.Number z d) ss h = h
follows_more (symbol.Truth b) ss h = h
follows_more (symbol.Operator op) ss h = h
follows_more symbol.Not ss h = h
follows_more (symbol.Function f) ss h = h
follows_more symbol.Letter ss h = h
follows_more symbol.Open ss h = h
follows_more symbol.Close ss h = h
follows_more symbol.OpenBracket ss h = h
follows_more symbol.CloseBracket ss h = h
follows_more symbol.Exponent ss h = h
follows_more symbol.Other ss h = h

at_end : (lim : Limits) → (ss : List Symbol) (n : Next) (t : Tree) (left : List Symbol) → Stops lim ss n → at_last n ≡ Ok (t, left) → Reached lim (ss ++ []) t left
at_end lim ss (On state) t left h e = absurd h
at_end lim ss (Ends u) t left h e =
    let p : (u, []) ≡ (t, left) = cc in
    let P : Tree → Type 0 = λ k. IsSpelled lim ss k in
    let F : List Symbol → Type 0 = λ k. Follows k in
    (ss, subst P (ap (λ (q : Tree × List Symbol). q.0) p) h, subst F (ap (λ (q : Tree × List Symbol). q.1) p) tt, ap (λ (q : Tree × List Symbol). ss ++ q.1) p)
at_end lim ss (Refuse code) t left h e = cc

at_step : (lim : Limits) → (s : Symbol) (ss rest : List Symbol) (n : Next) (t : Tree) (left : List Symbol) → After lim ss s n →
    ((state : State) → Stands lim (ss ++ (s ∷ [])) state → run lim rest state ≡ Ok (t, left) → Reached lim ((ss ++ (s ∷ [])) ++ rest) t left) →
    go_on n (s ∷ rest) (run lim rest) ≡ Ok (t, left) → Reached lim (ss ++ (s ∷ rest)) t left
at_step lim s ss rest (On state) t left h again e =
    let P : List Symbol → Type 0 = λ k. Reached lim k t left in
    subst P (append_assoc ss (s ∷ []) rest) (again state h e)
at_step lim s ss rest (Ends u) t left h again e =
    let p : (u, s ∷ rest) ≡ (t, left) = cc in
    let P : Tree → Type 0 = λ k. IsSpelled lim ss k in
    let F : List Symbol → Type 0 = λ k. Follows k in
    (ss, subst P (ap (λ (q : Tree × List Symbol). q.0) p) h.0, subst F (ap (λ (q : Tree × List Symbol). q.1) p) (follows_more s rest h.1), ap (λ (q : Tree × List Symbol). ss ++ q.1) p)
at_step lim s ss rest (Refuse code) t left h again e = cc

reached : (lim : Limits) → (rest ss : List Symbol) (state : State) (t : Tree) (left : List Symbol) → Stands lim ss state → run lim rest state ≡ Ok (t, left) → Reached lim (ss ++ rest) t left
unfolding run
reached lim [] ss state t left h e = at_end lim ss (finish state) t left (finish_stands lim ss state h) e
reached lim (s ∷ rest) ss state t left h e =
    at_step lim s ss rest (step lim state s) t left (step_stands lim s ss state h) (λ (k : State) (i : Stands lim (ss ++ (s ∷ [])) k) (f : run lim rest k ≡ Ok (t, left)). reached lim rest (ss ++ (s ∷ [])) k t left i f) e

pub starts : (lim : Limits) → Stands lim [] (Wants [] Plain)
starts lim = ([], refl, refl, refl)

pub sound : (symbols : List Symbol) (t : Tree) (left : List Symbol) → read all_limits symbols ≡ Ok (t, left) → Found symbols t left
unfolding read
sound symbols t left e =
    let r = reached all_limits symbols [] (Wants [] Plain) t left (starts all_limits) e in
    let x = r.1 in
    (x.0, x.1, x.2, r.2, r.3 ∙ ap (λ (k : List Symbol). k ++ left) (sym x.3))
