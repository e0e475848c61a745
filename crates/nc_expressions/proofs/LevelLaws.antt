-- Levels beside one another, and ranks.
use Rattle.std.proofs.Common.{◌≡◌, ◌<◌, refl, ap, ◌∙◌, Option, Some, None, IsSome, lit<, rules}
use Rattle.nc_expressions.specs.declared.trees.BinaryOp.{BinaryOp}
use Rattle.nc_expressions.specs.declared.trees.BinaryOp.TheVariants.{Add, Sub, Mul, Div, WholeDiv, Modulo, And, Or, Xor, Equal, NotEqual, Greater, Less, GreaterEqual, LessEqual}
use Rattle.nc_expressions.specs.declared.levels.Level.{Level}
use Rattle.nc_expressions.specs.declared.levels.Level.TheVariants.{Plain, Compares, Connects}
use Rattle.nc_expressions.specs.Levels.{rank, joint_level}
use Rattle.nc_expressions.specs.Syntax.{and_then}

pub together_plain : (l : Level) → joint_level l Plain ≡ Some l
together_plain Plain = refl
together_plain Compares = refl
together_plain Connects = refl

pub plain_together : (l : Level) → joint_level Plain l ≡ Some l
plain_together Plain = refl
plain_together Compares = refl
plain_together Connects = refl

pub associates : (a b c : Level) → and_then (joint_level a b) (λ x. joint_level x c) ≡ and_then (joint_level b c) (joint_level a)
associates Plain Plain Plain = refl
associates Plain Plain Compares = refl
associates Plain Plain Connects = refl
associates Plain Compares Plain = refl
associates Plain Compares Compares = refl
associates Plain Compares Connects = refl
associates Plain Connects Plain = refl
associates Plain Connects Compares = refl
associates Plain Connects Connects = refl
associates Compares Plain Plain = refl
associates Compares Plain Compares = refl
associates Compares Plain Connects = refl
associates Compares Compares Plain = refl
associates Compares Compares Compares = refl
associates Compares Compares Connects = refl
associates Compares Connects Plain = refl
associates Compares Connects Compares = refl
associates Compares Connects Connects = refl
associates Connects Plain Plain = refl
associates Connects Plain Compares = refl
associates Connects Plain Connects = refl
associates Connects Compares Plain = refl
associates Connects Compares Compares = refl
associates Connects Compares Connects = refl
associates Connects Connects Plain = refl
associates Connects Connects Compares = refl
associates Connects Connects Connects = refl

pub level_is : (o : Option Level) → IsSome o → (l : Level) × (o ≡ Some l)
level_is None h = cc
level_is (Some l) h = (l, refl)

pub some_of : (o : Option Level) (f : Level → Option Level) (out : Level) → and_then o f ≡ Some out → (l : Level) × (o ≡ Some l) × (f l ≡ Some out)
some_of None f out h = cc
some_of (Some l) f out h = (l, refl, h)

pub some_is : (o : Option Level) (l : Level) → o ≡ Some l → IsSome o
some_is None l h = cc
some_is (Some m) l h = search rules

-- the levels before, at and after a part whose level is allowed beside what stands before it
pub two_levels : (lv a b out : Level) → and_then (joint_level a b) (joint_level lv) ≡ Some out →
    (l : Level) × (joint_level lv a ≡ Some l) × (joint_level l b ≡ Some out)
two_levels lv a b out h = some_of (joint_level lv a) (λ x. joint_level x b) out (associates lv a b ∙ h)

pub three_levels : (lv a k b out : Level) → and_then (and_then (joint_level k b) (joint_level a)) (joint_level lv) ≡ Some out →
    (l : Level) × (m : Level) × (joint_level lv a ≡ Some l) × (joint_level l k ≡ Some m) × (joint_level m b ≡ Some out)
three_levels lv a k b out h =
    let x = some_of (and_then (joint_level k b) (joint_level a)) (joint_level lv) out h in
    let y = some_of (joint_level k b) (joint_level a) x.0 x.1 in
    let e : and_then (joint_level a y.0) (joint_level lv) ≡ Some out = ap (λ (o : Option Level). and_then o (joint_level lv)) y.2 ∙ x.2 in
    let l = two_levels lv a y.0 out e in
    let f : and_then (joint_level k b) (joint_level l.0) ≡ Some out = ap (λ (o : Option Level). and_then o (joint_level l.0)) y.1 ∙ l.2 in
    let m = two_levels l.0 k b out f in
    (l.0, m.0, l.1, m.1, m.2)

pub rank_small : (op : BinaryOp) → rank op < 6
rank_small Add = lit< tt
rank_small Sub = lit< tt
rank_small Mul = lit< tt
rank_small Div = lit< tt
rank_small WholeDiv = lit< tt
rank_small Modulo = lit< tt
rank_small And = lit< tt
rank_small Or = lit< tt
rank_small Xor = lit< tt
rank_small Equal = lit< tt
rank_small NotEqual = lit< tt
rank_small Greater = lit< tt
rank_small Less = lit< tt
rank_small GreaterEqual = lit< tt
rank_small LessEqual = lit< tt
