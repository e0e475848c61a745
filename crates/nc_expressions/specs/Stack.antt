-- Steps. The stack of the machine, as the code holds it.
use Rattle.std.specs.Prelude.{◌≡◌, List, [], ◌∷◌, map, reverse, Option, Some, None, Result, Ok, Err}
use Rattle.nc_expressions.specs.declared.levels.Level.{Level}
use Rattle.nc_expressions.specs.declared.faults.SyntaxFault.{SyntaxFault}
use Rattle.nc_expressions.specs.declared.faults.SyntaxFault.TheVariants.{Refused, NoMemory}
use Rattle.nc_expressions.specs.declared.stack.Held.{Held}
use Rattle.nc_expressions.specs.declared.stack.Held.TheVariants as held
use Rattle.nc_expressions.specs.declared.steps.Mode.{Mode}
use Rattle.nc_expressions.specs.declared.steps.Mode.TheVariants as mode
use Rattle.nc_expressions.specs.declared.steps.Step.{Step}
use Rattle.nc_expressions.specs.declared.steps.Step.TheVariants as step
use Rattle.nc_expressions.specs.Tree.{tree_of}
use Rattle.nc_expressions.specs.Machine.{Pending, Prefix, Left, Opened, Stack, State, Wants, WantsIndex, WantsArgument, Has, Next, On, Ends, Refuse}

abbrev pub pending_of : Held → Pending
pending_of (held.Prefix op) = Prefix op
pending_of (held.Left a op) = Left (tree_of a) op
pending_of (held.Opened b lv) = Opened b lv

-- the code pushes at the end of its list
unfoldable pub stack_of : List Held → Stack
stack_of items = reverse (map pending_of items)

-- what a pop leaves and gives
abbrev pub Pops : Stack → Option Held → Stack → Type 0
Pops old None new = (old ≡ []) × (new ≡ [])
Pops old (Some x) new = old ≡ pending_of x ∷ new

abbrev pub state_of : Mode → Stack → Level → State
state_of mode.Wants st lv = Wants st lv
state_of mode.WantsIndex st lv = WantsIndex st lv
state_of (mode.WantsArgument f) st lv = WantsArgument f st lv
state_of (mode.Has e) st lv = Has (tree_of e) st lv

-- the code's step is the machine's, with this stack left
abbrev pub Steps : Next → Result Step SyntaxFault → Stack → Type 0
Steps next (Ok (step.On m lv)) st = next ≡ On (state_of m st lv)
Steps next (Ok (step.Ends e)) st = next ≡ Ends (tree_of e)
Steps next (Err (Refused code)) st = next ≡ Refuse code
Steps next (Err NoMemory) st = Unit {0}
