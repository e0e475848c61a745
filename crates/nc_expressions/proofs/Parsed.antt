-- What an exact reading says of the grammar.
use Rattle.std.proofs.Common.{◌≡◌, ℕ, ℤ, pos, negsuc, ◌+◌, ◌<◌, ◌≤◌, List, [], ◌∷◌, ◌++◌, length, drop, refl, ap, ◌∙◌, subst, Option, Some, None, Ok, Err, Result, IfOk, IfErr, IsSome, Bool, true, false, cond, arith}
use Rattle.std.specs.Prelude.{◌/◌, ◌%◌, ◌==◌, ◌&&◌, nat_lt}
use Rattle.std.proofs.lemmas.Bool.Decides.{Decides-ltb}
use Rattle.std.proofs.lemmas.List.{length-drop, length-append}
use Rattle.block_scanner.specs.WordsView.{WordsView}
use Rattle.nc_expressions.specs.declared.trees.Expr.{Expr}
use Rattle.nc_expressions.specs.declared.faults.SyntaxFault.{SyntaxFault}
use Rattle.nc_expressions.specs.declared.faults.SyntaxFault.TheVariants.{Refused, NoMemory}
use Rattle.nc_expressions.specs.declared.symbols.Symbol.{Symbol}
use Rattle.nc_expressions.specs.declared.symbols.Symbol.TheVariants as symbol
use Rattle.nc_expressions.specs.Tree.{Tree, tree_of, IndicesFit}
use Rattle.nc_expressions.specs.Symbols.{symbols_of, index_of}
use Rattle.nc_expressions.specs.Syntax.{Syntax, Constant, Truth, Positive, Negative, Denied, Named, Indexing, Called, Grouped, Chained, spelling, parameter_of, tree, Fits, IsExpression, Follows}
use Rattle.nc_expressions.specs.Limits.{all_limits}
use Rattle.nc_expressions.specs.Fronts.{Found, Broken}
use Rattle.nc_expressions.specs.Machine.{read}
use Rattle.nc_expressions.specs.Parsing.{Reads}
use Rattle.nc_expressions.proofs.Beginnings.{length-symbols_of}
use Rattle.nc_expressions.proofs.Complete.{complete}
use Rattle.nc_expressions.proofs.Sound.{sound}
use Rattle.nc_expressions.proofs.Leftmost.{leftmost}
use Rattle.nc_expressions.proofs.Runs.{gives_read}

-- an expression has a symbol
spelled : (x : Syntax) → 0 < length (spelling x)
spelled (Constant z d) = omega arith
spelled (Truth b) = omega arith
spelled (Positive x) = omega arith
spelled (Negative x) = omega arith
spelled (Denied x) = omega arith
spelled (Named z) = omega arith
spelled (Indexing x) = omega arith
spelled (Called f x) = omega arith
spelled (Grouped x) = omega arith
spelled (Chained op a b) = omega (arith, spelled a, length-append (spelling a) (symbol.Operator op ∷ spelling b))

parameter_fits : (o : Option ℕ) → IsSome o → ((i : ℕ) → o ≡ Some i → i ≤ 999) → IndicesFit (parameter_of o)
parameter_fits None h f = cc
parameter_fits (Some i) h f = f i refl

small_quotient : (n i : ℕ) → n < 1000000000 → n / 1000000 ≡ i → i ≤ 999
small_quotient n i h e = omega (arith, h, e)

index_cases : (b c : Bool) (n i : ℕ) → (c ≡ true → n < 1000000000) → cond (b && c) (Some (n / 1000000)) None ≡ Some i → i ≤ 999
index_cases true true n i h e = let q : n / 1000000 ≡ i = cc in small_quotient n i (h refl) q
index_cases true false n i h e = cc
index_cases false c n i h e = cc

index_small : (z : ℤ) (i : ℕ) → index_of z ≡ Some i → i ≤ 999
unfolding index_of
index_small (pos n) i h = index_cases (n % 1000000 == 0) (nat_lt n 1000000000) n i (λ (t : nat_lt n 1000000000 ≡ true). (Decides-ltb n 1000000000).0 t) h
index_small (negsuc n) i h = cc

fits_indices : (x : Syntax) (n : ℕ) → Fits all_limits n x → IndicesFit (tree x)
fits_indices (Constant z d) n f = tt
fits_indices (Truth b) n f = tt
fits_indices (Positive x) n f = fits_indices x n f.1
fits_indices (Negative x) n f = fits_indices x n f.1
fits_indices (Denied x) n f = fits_indices x n f.1
fits_indices (Named z) n f = parameter_fits (index_of z) f (index_small z)
fits_indices (Indexing x) n f = fits_indices x n f.1
fits_indices (Called g x) n f = fits_indices x (n + 1) f.2
fits_indices (Grouped x) n f = fits_indices x (n + 1) f.2
fits_indices (Chained op a b) n f = (fits_indices a n f.2, fits_indices b n f.3)

pub found_of : (words : WordsView) (start : ℕ) (r : Result (Expr × ℕ) SyntaxFault) → start ≤ length words.tokens →
    Reads (symbols_of words) (read all_limits (drop start (symbols_of words))) r →
    IfOk r (λ p. (start < p.1) × (p.1 ≤ length words.tokens) × Found (drop start (symbols_of words)) (tree_of p.0) (drop p.1 (symbols_of words)))
found_of words start (Ok p) within h =
    let ss = symbols_of words in
    let f = sound (drop start ss) (tree_of p.0) (drop p.1 ss) h.1 in
    let n : length (drop start ss) ≡ length (spelling f.0) + length (drop p.1 ss) = ap length f.4 ∙ length-append (spelling f.0) (drop p.1 ss) in
    let all = length-symbols_of words in
    (omega (arith, spelled f.0, n, length-drop start ss, length-drop p.1 ss, all, h.0, within), omega (arith, all, h.0), f)
found_of words start (Err e) within h = tt

pub only_of : (symbols : List Symbol) (start : ℕ) (r : Result (Expr × ℕ) SyntaxFault) → Reads symbols (read all_limits (drop start symbols)) r →
    (x : Syntax) (rest : List Symbol) → IsExpression x → Follows rest → drop start symbols ≡ spelling x ++ rest → Reads symbols (Ok (tree x, rest)) r
only_of symbols start r h x rest is follows e =
    let same : read all_limits (drop start symbols) ≡ Ok (tree x, rest) = ap (read all_limits) e ∙ complete all_limits x rest is follows in
    let P = λ (k : Result (Tree × List Symbol) ℕ). Reads symbols k r in
    subst P same h

pub broken_of : (symbols : List Symbol) (start : ℕ) (r : Result (Expr × ℕ) SyntaxFault) → Reads symbols (read all_limits (drop start symbols)) r →
    IfErr r (λ e. (code : ℕ) → e ≡ Refused code → Broken (drop start symbols) code)
broken_of symbols start (Ok p) h = tt
broken_of symbols start (Err (Refused c)) h = λ code e.
    let same : c ≡ code = cc in
    let P : ℕ → Type 0 = λ k. Broken (drop start symbols) k in
    subst P same (leftmost (drop start symbols) c h)
broken_of symbols start (Err NoMemory) h = λ code e. cc

pub indices_of : (symbols : List Symbol) (start : ℕ) (r : Result (Expr × ℕ) SyntaxFault) → Reads symbols (read all_limits (drop start symbols)) r →
    IfOk r (λ p. IndicesFit (tree_of p.0))
indices_of symbols start (Ok p) h =
    let f = sound (drop start symbols) (tree_of p.0) (drop p.1 symbols) h.1 in
    let P = λ (t : Tree). IndicesFit t in
    subst P f.2 (fits_indices f.0 0 f.1.1)
indices_of symbols start (Err e) h = tt

pub one_tree : (x y : Syntax) → IsExpression x → IsExpression y → spelling x ≡ spelling y → tree x ≡ tree y
one_tree x y h i e =
    let a : read all_limits (spelling x ++ []) ≡ Ok (tree x, []) = complete all_limits x [] h tt in
    let b : read all_limits (spelling y ++ []) ≡ Ok (tree y, []) = complete all_limits y [] i tt in
    let same : read all_limits (spelling x ++ []) ≡ read all_limits (spelling y ++ []) = ap (λ (k : List Symbol). read all_limits (k ++ [])) e in
    let p : (tree x, []) ≡ (tree y, []) = cc in
    ap (λ (q : Tree × List Symbol). q.0) p

pub ruleset answers = (found_of, only_of, broken_of, indices_of, gives_read)
