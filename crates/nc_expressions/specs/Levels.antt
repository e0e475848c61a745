-- Meaning. How tightly operators bind, and what may stand at one level outside brackets.
use Rattle.std.specs.Prelude.{ℕ, Option, Some, None, if◌then◌else◌}
use Rattle.nc_expressions.specs.declared.trees.BinaryOp.{BinaryOp}
use Rattle.nc_expressions.specs.declared.trees.BinaryOp.TheVariants.{Add, Sub, Mul, Div, WholeDiv, Modulo, And, Or, Xor, Equal, NotEqual, Greater, Less, GreaterEqual, LessEqual}
use Rattle.nc_expressions.specs.declared.levels.Level.{Level}
use Rattle.nc_expressions.specs.declared.levels.Level.TheVariants.{Plain, Compares, Connects}
use Rattle.nc_expressions.specs.Limits.{Limits}

-- the greater, the tighter
abbrev pub rank : BinaryOp → ℕ
rank Equal = 0
rank NotEqual = 0
rank Greater = 0
rank Less = 0
rank GreaterEqual = 0
rank LessEqual = 0
rank Or = 1
rank Xor = 2
rank And = 3
rank Add = 4
rank Sub = 4
rank Mul = 5
rank Div = 5
rank WholeDiv = 5
rank Modulo = 5

-- what AND, OR, XOR and NOT make of the level where they stand
abbrev pub connecting : Limits → Level
connecting limits = if limits.apart then Connects else Plain

-- what an operator makes of the level where it stands
abbrev pub kind : Limits → BinaryOp → Level
kind limits Equal = Compares
kind limits NotEqual = Compares
kind limits Greater = Compares
kind limits Less = Compares
kind limits GreaterEqual = Compares
kind limits LessEqual = Compares
kind limits Or = connecting limits
kind limits Xor = connecting limits
kind limits And = connecting limits
kind limits Add = Plain
kind limits Sub = Plain
kind limits Mul = Plain
kind limits Div = Plain
kind limits WholeDiv = Plain
kind limits Modulo = Plain

-- the level of two parts that stand beside one another; one comparison at most, and none beside AND, OR, XOR or NOT
abbrev pub joint_level : Level → Level → Option Level
joint_level Plain Plain = Some Plain
joint_level Plain Compares = Some Compares
joint_level Plain Connects = Some Connects
joint_level Compares Plain = Some Compares
joint_level Compares Compares = None
joint_level Compares Connects = None
joint_level Connects Plain = Some Connects
joint_level Connects Compares = None
joint_level Connects Connects = Some Connects

-- the refusal where two parts may not stand beside one another: a second comparison, or a comparison beside AND, OR, XOR or NOT
abbrev pub clash : Level → Level → ℕ
clash Compares Compares = 22
clash Compares Connects = 23
clash Compares Plain = 23
clash Connects l = 23
clash Plain l = 23
