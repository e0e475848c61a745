-- What is spelled as an expression is read as its tree.
use Rattle.std.proofs.Common.{◌≡◌, ℕ, ◌+◌, ◌<◌, ◌≤◌, Bool, true, false, cond, leb, List, [], ◌∷◌, ◌++◌, refl, ap, ◌∙◌, Option, Some, None, Ok, IsSome, IsTrue, arith, rules, tests}
use Rattle.std.proofs.lemmas.List.{append_assoc}
use Rattle.nc_expressions.specs.declared.trees.UnaryOp.{UnaryOp}
use Rattle.nc_expressions.specs.declared.trees.UnaryOp.TheVariants as unary
use Rattle.nc_expressions.specs.declared.trees.BinaryOp.{BinaryOp}
use Rattle.nc_expressions.specs.declared.levels.Level.{Level}
use Rattle.nc_expressions.specs.declared.levels.Level.TheVariants.{Plain}
use Rattle.nc_expressions.specs.declared.symbols.Symbol.{Symbol}
use Rattle.nc_expressions.specs.declared.symbols.Symbol.TheVariants as symbol
use Rattle.nc_expressions.specs.declared.stack.Bracket.{Bracket}
use Rattle.nc_expressions.specs.declared.stack.Bracket.TheVariants.{Parentheses, Argument, Index}
use Rattle.nc_expressions.specs.Tree.{Tree, Number, Indexed, Unary, Binary}
use Rattle.nc_expressions.specs.Levels.{connecting, rank, kind, joint_level, clash}
use Rattle.nc_expressions.specs.Limits.{Limits, has_room}
use Rattle.nc_expressions.specs.Symbols.{truth, index_of}
use Rattle.nc_expressions.specs.Syntax.{Syntax, Constant, Truth, Positive, Negative, Denied, Named, Indexing, Called, Grouped, Chained, spelling, parameter_of, tree, tightness, and_then, level, Fits, IsExpressionUnder, Follows}
use Rattle.nc_expressions.specs.Machine.{Prefix, Left, Opened, Stack, Wants, Next, On, Refuse, depth, attach, join, state_with_tree, next_in_bracket, with_left, with_prefix, with_parameter, close_parenthesis, close_bracket, stop, finish, at_last, on_sign, on_operand, on_index, on_argument, on_operator, on_close, on_close_bracket, on_other, on_ended, step, run, go_on, read}
use Rattle.nc_expressions.proofs.LevelLaws.{together_plain, plain_together, level_is, some_of, two_levels, three_levels, rank_small}

-- nothing at the top of the stack binds so tightly
abbrev pub Loose : ℕ → Stack → Type 0
Loose r [] = Unit {0}
Loose r (Prefix op ∷ st) = ⊥
Loose r (Left a op ∷ st) = rank op < r
Loose r (Opened b lv ∷ st) = Unit {0}

looser : (q r : ℕ) (st : Stack) → q ≤ r → Loose q st → Loose r st
looser q r [] h l = tt
looser q r (Prefix op ∷ st) h l = l
looser q r (Left a op ∷ st) h l = omega (arith, h, l)
looser q r (Opened b lv ∷ st) h l = tt

-- what an expression leaves of itself, before what comes joins it
abbrev pub fed : Syntax → Stack → Tree × Stack
fed (Constant z d) st = attach (tree (Constant z d)) st
fed (Truth b) st = attach (tree (Truth b)) st
fed (Positive x) st = attach (tree (Positive x)) st
fed (Negative x) st = attach (tree (Negative x)) st
fed (Denied x) st = attach (tree (Denied x)) st
fed (Named z) st = attach (tree (Named z)) st
fed (Indexing x) st = attach (tree (Indexing x)) st
fed (Called f x) st = attach (tree (Called f x)) st
fed (Grouped x) st = attach (tree (Grouped x)) st
fed (Chained op a b) st = fed b (Left (tree a) op ∷ st)

attach_loose : (q : ℕ) (t : Tree) (st : Stack) → Loose q st → attach t st ≡ (t, st)
attach_loose q t [] l = refl
attach_loose q t (Prefix op ∷ st) l = absurd l
attach_loose q t (Left a op ∷ st) l = refl
attach_loose q t (Opened b lv ∷ st) l = refl

chosen : {A : Type 0} (m n : ℕ) (x y : A) → m ≤ n → cond (leb m n) x y ≡ x
chosen m n x y h = let e : leb m n ≡ true = search (rules, tests) in rw e refl

not_chosen : {A : Type 0} (m n : ℕ) (x y : A) → n < m → cond (leb m n) x y ≡ y
not_chosen m n x y h = let e : leb m n ≡ false = search (rules, tests) in rw e refl

allowed : {A : Type 0} (b : Bool) (x y : A) → IsTrue b → cond b x y ≡ x
allowed true x y h = refl
allowed false x y h = cc

join_loose : (r : ℕ) (t : Tree) (st : Stack) → Loose r st → join r t st ≡ (t, st)
join_loose r t [] l = refl
join_loose r t (Prefix op ∷ st) l = absurd l
join_loose r t (Left a op ∷ st) l = not_chosen r (rank op) (join r (Binary op a t) st) (t, Left a op ∷ st) l
join_loose r t (Opened b lv ∷ st) l = refl

join_left : (r : ℕ) (t a : Tree) (op : BinaryOp) (st : Stack) → r ≤ rank op → join r t (Left a op ∷ st) ≡ join r (Binary op a t) st
join_left r t a op st h = chosen r (rank op) (join r (Binary op a t) st) (t, Left a op ∷ st) h

joined_at : (q r : ℕ) (t : Tree) (st : Stack) → Loose q st → join r (attach t st).0 (attach t st).1 ≡ join r t st
joined_at q r t st l = ap (λ (p : Tree × Stack). join r p.0 p.1) (attach_loose q t st l)

-- what comes and binds no more tightly joins all of an expression
pub joins : (lim : Limits) → (x : Syntax) (n r q : ℕ) (st : Stack) → Fits lim n x → r ≤ tightness x → Loose q st → join r (fed x st).0 (fed x st).1 ≡ join r (tree x) st
joins lim (Constant z d) n r q st f h l = joined_at q r (tree (Constant z d)) st l
joins lim (Truth b) n r q st f h l = joined_at q r (tree (Truth b)) st l
joins lim (Positive x) n r q st f h l = joined_at q r (tree (Positive x)) st l
joins lim (Negative x) n r q st f h l = joined_at q r (tree (Negative x)) st l
joins lim (Denied x) n r q st f h l = joined_at q r (tree (Denied x)) st l
joins lim (Named z) n r q st f h l = joined_at q r (tree (Named z)) st l
joins lim (Indexing x) n r q st f h l = joined_at q r (tree (Indexing x)) st l
joins lim (Called g x) n r q st f h l = joined_at q r (tree (Called g x)) st l
joins lim (Grouped x) n r q st f h l = joined_at q r (tree (Grouped x)) st l
joins lim (Chained op a b) n r q st f h l =
    joins lim b n r (rank op + 1) (Left (tree a) op ∷ st) f.3 (omega (arith, h, f.1)) (omega arith) ∙ join_left r (tree b) (tree a) op st h

-- the stack on which an expression can be read
abbrev pub Ready : Syntax → Stack → Type 0
Ready (Constant z d) st = Unit {0}
Ready (Truth b) st = Unit {0}
Ready (Positive x) st = Unit {0}
Ready (Negative x) st = Unit {0}
Ready (Denied x) st = Unit {0}
Ready (Named z) st = Unit {0}
Ready (Indexing x) st = Unit {0}
Ready (Called f x) st = Unit {0}
Ready (Grouped x) st = Unit {0}
Ready (Chained op a b) st = Loose (rank op) st

-- a stack on which nothing binds as tightly as r is ready for what binds as tightly
ready_above : (x : Syntax) (r : ℕ) (st : Stack) → r ≤ tightness x → Loose r st → Ready x st
ready_above (Constant z d) r st h l = tt
ready_above (Truth b) r st h l = tt
ready_above (Positive x) r st h l = tt
ready_above (Negative x) r st h l = tt
ready_above (Denied x) r st h l = tt
ready_above (Named z) r st h l = tt
ready_above (Indexing x) r st h l = tt
ready_above (Called f x) r st h l = tt
ready_above (Grouped x) r st h l = tt
ready_above (Chained op a b) r st h l = looser r (rank op) st h l

-- after a sign stands no operator
ready_tight : (x : Syntax) (st : Stack) → tightness x ≡ 6 → Ready x st
ready_tight (Constant z d) st h = tt
ready_tight (Truth b) st h = tt
ready_tight (Positive x) st h = tt
ready_tight (Negative x) st h = tt
ready_tight (Denied x) st h = tt
ready_tight (Named z) st h = tt
ready_tight (Indexing x) st h = tt
ready_tight (Called f x) st h = tt
ready_tight (Grouped x) st h = tt
ready_tight (Chained op a b) st h = absurd (omega (arith, h, rank_small op))

pub fed_tight : (x : Syntax) (st : Stack) → tightness x ≡ 6 → fed x st ≡ attach (tree x) st
fed_tight (Constant z d) st h = refl
fed_tight (Truth b) st h = refl
fed_tight (Positive x) st h = refl
fed_tight (Negative x) st h = refl
fed_tight (Denied x) st h = refl
fed_tight (Named z) st h = refl
fed_tight (Indexing x) st h = refl
fed_tight (Called f x) st h = refl
fed_tight (Grouped x) st h = refl
fed_tight (Chained op a b) st h = absurd (omega (arith, h, rank_small op))

-- single steps
pub opens : (lim : Limits) → (b : Bracket) (st : Stack) (lv : Level) → IsTrue (has_room lim (depth st)) → next_in_bracket lim b st lv ≡ On (Wants (Opened b lv ∷ st) Plain)
unfolding next_in_bracket
opens lim b st lv h = allowed (has_room lim (depth st)) (On (Wants (Opened b lv ∷ st) Plain)) (Refuse 26) h

named : (o : Option ℕ) (st : Stack) (lv : Level) → IsSome o → with_parameter o st lv ≡ On (state_with_tree lv (attach (parameter_of o) st))
named None st lv h = cc
named (Some i) st lv h = refl

same_level : (lv out : Level) → joint_level lv Plain ≡ Some out → lv ≡ out
same_level lv out h = let e : joint_level lv Plain ≡ Some lv = together_plain lv in cc

-- a closing parenthesis or bracket, where its opening one is on top once all is joined
pub closes : (lim : Limits) → (p : Tree × Stack) (t : Tree) (lv inner : Level) (st : Stack) (ss : List Symbol) → join 0 p.0 p.1 ≡ (t, Opened Parentheses lv ∷ st) →
    run lim (symbol.Close ∷ ss) (state_with_tree inner p) ≡ run lim ss (state_with_tree lv (attach t st))
unfolding run step on_ended on_close
closes lim p t lv inner st ss e = ap (λ (q : Tree × Stack). go_on (close_parenthesis q.0 q.1) (symbol.Close ∷ ss) (run lim ss)) e

pub closes_argument : (lim : Limits) → (p : Tree × Stack) (g : UnaryOp) (t : Tree) (lv inner : Level) (st : Stack) (ss : List Symbol) → join 0 p.0 p.1 ≡ (t, Opened (Argument g) lv ∷ st) →
    run lim (symbol.Close ∷ ss) (state_with_tree inner p) ≡ run lim ss (state_with_tree lv (attach (Unary g t) st))
unfolding run step on_ended on_close
closes_argument lim p g t lv inner st ss e = ap (λ (q : Tree × Stack). go_on (close_parenthesis q.0 q.1) (symbol.Close ∷ ss) (run lim ss)) e

pub closes_index : (lim : Limits) → (p : Tree × Stack) (t : Tree) (lv inner : Level) (st : Stack) (ss : List Symbol) → join 0 p.0 p.1 ≡ (t, Opened Index lv ∷ st) →
    run lim (symbol.CloseBracket ∷ ss) (state_with_tree inner p) ≡ run lim ss (state_with_tree lv (attach (Indexed t) st))
unfolding run step on_ended on_close_bracket
closes_index lim p t lv inner st ss e = ap (λ (q : Tree × Stack). go_on (close_bracket q.0 q.1) (symbol.CloseBracket ∷ ss) (run lim ss)) e

-- an operator after a left operand that nothing else takes
pub joins_operator : (lim : Limits) → (p : Tree × Stack) (t : Tree) (op : BinaryOp) (lv next : Level) (st : Stack) (ss : List Symbol) →
    join (rank op) p.0 p.1 ≡ (t, st) → joint_level lv (kind lim op) ≡ Some next →
    run lim (symbol.Operator op ∷ ss) (state_with_tree lv p) ≡ run lim ss (Wants (Left t op ∷ st) next)
unfolding run step on_ended on_operator
joins_operator lim p t op lv next st ss e h =
    ap (λ (q : Tree × Stack). go_on (with_left (joint_level lv (kind lim op)) (clash lv (kind lim op)) op q) (symbol.Operator op ∷ ss) (run lim ss)) e
    ∙ ap (λ (o : Option Level). go_on (with_left o (clash lv (kind lim op)) op (t, st)) (symbol.Operator op ∷ ss) (run lim ss)) h

inside : (o : Option Level) (l : Level) → o ≡ Some l → and_then o (joint_level Plain) ≡ Some l
inside o l h = ap (λ (k : Option Level). and_then k (joint_level Plain)) h ∙ plain_together l

-- an expression is read, on a stack where it can stand, as far as it goes
pub reads : (lim : Limits) → (x : Syntax) (st : Stack) (lv out : Level) (rest : List Symbol) → Fits lim (depth st) x → and_then (level lim x) (joint_level lv) ≡ Some out → Ready x st →
    run lim (spelling x ++ rest) (Wants st lv) ≡ run lim rest (state_with_tree out (fed x st))
unfolding run step on_operand on_sign on_index on_argument
reads lim (Constant z d) st lv out rest f h r = ap (λ (l : Level). run lim rest (state_with_tree l (attach (Number z) st))) (same_level lv out h)
reads lim (Truth b) st lv out rest f h r = ap (λ (l : Level). run lim rest (state_with_tree l (attach (Number (truth b)) st))) (same_level lv out h)
reads lim (Positive x) st lv out rest f h r =
    reads lim x st lv out rest f.1 h (ready_tight x st f.0) ∙ ap (λ (p : Tree × Stack). run lim rest (state_with_tree out p)) (fed_tight x st f.0)
reads lim (Negative x) st lv out rest f h r =
    reads lim x (Prefix unary.Minus ∷ st) lv out rest f.1 h (ready_tight x (Prefix unary.Minus ∷ st) f.0)
    ∙ ap (λ (p : Tree × Stack). run lim rest (state_with_tree out p)) (fed_tight x (Prefix unary.Minus ∷ st) f.0)
reads lim (Denied x) st lv out rest f h r =
    let l = some_of (and_then (level lim x) (joint_level (connecting lim))) (joint_level lv) out h in
    let m = some_of (level lim x) (joint_level (connecting lim)) l.0 l.1 in
    let e : and_then (joint_level (connecting lim) m.0) (joint_level lv) ≡ Some out = ap (λ (o : Option Level). and_then o (joint_level lv)) m.2 ∙ l.2 in
    let k = two_levels lv (connecting lim) m.0 out e in
    let inner : and_then (level lim x) (joint_level k.0) ≡ Some out = ap (λ (o : Option Level). and_then o (joint_level k.0)) m.1 ∙ k.2 in
    ap (λ (o : Option Level). go_on (with_prefix o (clash lv (connecting lim)) unary.Not st) (symbol.Not ∷ (spelling x ++ rest)) (run lim (spelling x ++ rest))) k.1
    ∙ reads lim x (Prefix unary.Not ∷ st) k.0 out rest f.1 inner (ready_tight x (Prefix unary.Not ∷ st) f.0)
    ∙ ap (λ (p : Tree × Stack). run lim rest (state_with_tree out p)) (fed_tight x (Prefix unary.Not ∷ st) f.0)
reads lim (Named z) st lv out rest f h r =
    ap (λ (n : Next). go_on n (symbol.Number z true ∷ rest) (run lim rest)) (named (index_of z) st lv f)
    ∙ ap (λ (l : Level). run lim rest (state_with_tree l (attach (parameter_of (index_of z)) st))) (same_level lv out h)
reads lim (Indexing x) st lv out rest f h r =
    let l = level_is (level lim x) f.0 in
    let st' : Stack = Opened Index lv ∷ st in
    ap (λ (ss : List Symbol). run lim ss (Wants st' Plain)) (append_assoc (spelling x) (symbol.CloseBracket ∷ []) rest)
    ∙ reads lim x st' Plain l.0 (symbol.CloseBracket ∷ rest) f.1 (inside (level lim x) l.0 l.1) (ready_above x 0 st' (omega arith) tt)
    ∙ closes_index lim (fed x st') (tree x) lv l.0 st rest (joins lim x (depth st') 0 0 st' f.1 (omega arith) tt)
    ∙ ap (λ (k : Level). run lim rest (state_with_tree k (attach (Indexed (tree x)) st))) (same_level lv out h)
reads lim (Called g x) st lv out rest f h r =
    let l = level_is (level lim x) f.1 in
    let st' : Stack = Opened (Argument g) lv ∷ st in
    ap (λ (n : Next). go_on n (symbol.Open ∷ ((spelling x ++ (symbol.Close ∷ [])) ++ rest)) (run lim ((spelling x ++ (symbol.Close ∷ [])) ++ rest))) (opens lim (Argument g) st lv f.0)
    ∙ ap (λ (ss : List Symbol). run lim ss (Wants st' Plain)) (append_assoc (spelling x) (symbol.Close ∷ []) rest)
    ∙ reads lim x st' Plain l.0 (symbol.Close ∷ rest) f.2 (inside (level lim x) l.0 l.1) (ready_above x 0 st' (omega arith) tt)
    ∙ closes_argument lim (fed x st') g (tree x) lv l.0 st rest (joins lim x (depth st') 0 0 st' f.2 (omega arith) tt)
    ∙ ap (λ (k : Level). run lim rest (state_with_tree k (attach (Unary g (tree x)) st))) (same_level lv out h)
reads lim (Grouped x) st lv out rest f h r =
    let l = level_is (level lim x) f.1 in
    let st' : Stack = Opened Parentheses lv ∷ st in
    ap (λ (n : Next). go_on n (symbol.Open ∷ ((spelling x ++ (symbol.Close ∷ [])) ++ rest)) (run lim ((spelling x ++ (symbol.Close ∷ [])) ++ rest))) (opens lim Parentheses st lv f.0)
    ∙ ap (λ (ss : List Symbol). run lim ss (Wants st' Plain)) (append_assoc (spelling x) (symbol.Close ∷ []) rest)
    ∙ reads lim x st' Plain l.0 (symbol.Close ∷ rest) f.2 (inside (level lim x) l.0 l.1) (ready_above x 0 st' (omega arith) tt)
    ∙ closes lim (fed x st') (tree x) lv l.0 st rest (joins lim x (depth st') 0 0 st' f.2 (omega arith) tt)
    ∙ ap (λ (k : Level). run lim rest (state_with_tree k (attach (tree x) st))) (same_level lv out h)
reads lim (Chained op a b) st lv out rest f h r =
    let o = some_of (level lim (Chained op a b)) (joint_level lv) out h in
    let la = some_of (level lim a) (λ (l : Level). and_then (level lim b) (λ (m : Level). and_then (joint_level (kind lim op) m) (joint_level l))) o.0 o.1 in
    let lb = some_of (level lim b) (λ (m : Level). and_then (joint_level (kind lim op) m) (joint_level la.0)) o.0 la.2 in
    let e : and_then (and_then (joint_level (kind lim op) lb.0) (joint_level la.0)) (joint_level lv) ≡ Some out =
    ap (λ (k : Option Level). and_then k (joint_level lv)) lb.2 ∙ o.2 in
    let cut = three_levels lv la.0 (kind lim op) lb.0 out e in
    let ea : and_then (level lim a) (joint_level lv) ≡ Some cut.0 = ap (λ (k : Option Level). and_then k (joint_level lv)) la.1 ∙ cut.2 in
    let eb : and_then (level lim b) (joint_level cut.1) ≡ Some out = ap (λ (k : Option Level). and_then k (joint_level cut.1)) lb.1 ∙ cut.4 in
    ap (λ (ss : List Symbol). run lim ss (Wants st lv)) (append_assoc (spelling a) (symbol.Operator op ∷ spelling b) rest)
    ∙ reads lim a st lv cut.0 (symbol.Operator op ∷ (spelling b ++ rest)) f.2 ea (ready_above a (rank op) st f.0 r)
    ∙ joins_operator lim (fed a st) (tree a) op cut.0 cut.1 st (spelling b ++ rest)
    (joins lim a (depth st) (rank op) (rank op) st f.2 f.0 r ∙ join_loose (rank op) (tree a) st r) cut.3
    ∙ reads lim b (Left (tree a) op ∷ st) cut.1 out rest f.3 eb (ready_above b (rank op + 1) (Left (tree a) op ∷ st) (omega (arith, f.1)) (omega arith))

-- what is spelled as an expression is read as its tree, where what follows can follow it
ends_here : (lim : Limits) → (p : Tree × Stack) (t : Tree) (lv : Level) (rest : List Symbol) → join 0 p.0 p.1 ≡ (t, []) → Follows rest → run lim rest (state_with_tree lv p) ≡ Ok (t, rest)
unfolding run step on_ended finish on_other on_close on_close_bracket
ends_here lim p t lv [] e f = ap (λ (q : Tree × Stack). at_last (stop q.0 q.1)) e
ends_here lim p t lv (symbol.Number z d ∷ ss) e f = ap (λ (q : Tree × Stack). go_on (stop q.0 q.1) (symbol.Number z d ∷ ss) (run lim ss)) e
ends_here lim p t lv (symbol.Truth b ∷ ss) e f = ap (λ (q : Tree × Stack). go_on (stop q.0 q.1) (symbol.Truth b ∷ ss) (run lim ss)) e
ends_here lim p t lv (symbol.Not ∷ ss) e f = ap (λ (q : Tree × Stack). go_on (stop q.0 q.1) (symbol.Not ∷ ss) (run lim ss)) e
ends_here lim p t lv (symbol.Function g ∷ ss) e f = ap (λ (q : Tree × Stack). go_on (stop q.0 q.1) (symbol.Function g ∷ ss) (run lim ss)) e
ends_here lim p t lv (symbol.Letter ∷ ss) e f = ap (λ (q : Tree × Stack). go_on (stop q.0 q.1) (symbol.Letter ∷ ss) (run lim ss)) e
ends_here lim p t lv (symbol.Open ∷ ss) e f = ap (λ (q : Tree × Stack). go_on (stop q.0 q.1) (symbol.Open ∷ ss) (run lim ss)) e
ends_here lim p t lv (symbol.OpenBracket ∷ ss) e f = ap (λ (q : Tree × Stack). go_on (stop q.0 q.1) (symbol.OpenBracket ∷ ss) (run lim ss)) e
ends_here lim p t lv (symbol.Other ∷ ss) e f = ap (λ (q : Tree × Stack). go_on (stop q.0 q.1) (symbol.Other ∷ ss) (run lim ss)) e
ends_here lim p t lv (symbol.Operator op ∷ ss) e f = absurd f
ends_here lim p t lv (symbol.Close ∷ ss) e f = ap (λ (q : Tree × Stack). go_on (close_parenthesis q.0 q.1) (symbol.Close ∷ ss) (run lim ss)) e
ends_here lim p t lv (symbol.CloseBracket ∷ ss) e f = ap (λ (q : Tree × Stack). go_on (close_bracket q.0 q.1) (symbol.CloseBracket ∷ ss) (run lim ss)) e
ends_here lim p t lv (symbol.Exponent ∷ ss) e f = absurd f

pub complete : (lim : Limits) → (x : Syntax) (rest : List Symbol) → IsExpressionUnder lim x → Follows rest → read lim (spelling x ++ rest) ≡ Ok (tree x, rest)
unfolding read
complete lim x rest h f =
    let l = level_is (level lim x) h.0 in
    reads lim x [] Plain l.0 rest h.1 (inside (level lim x) l.0 l.1) (ready_above x 0 [] (omega arith) tt)
    ∙ ends_here lim (fed x []) (tree x) l.0 rest (joins lim x 0 0 0 [] h.1 (omega arith) tt) f
