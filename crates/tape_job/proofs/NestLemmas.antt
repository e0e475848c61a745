-- The open structures of a program with one more block, and the codes by which a block breaks them.
use Rattle.std.proofs.Common.{◌≡◌, ◌∙◌, ℕ, List, [], ◌∷◌, ◌++◌, Bool, true, false, Result, Ok, Err, None, Some, length, map, ap, subst, refl, ◌==◌, if◌then◌else◌}
use Rattle.std.proofs.lemmas.List.{map-append}
use Rattle.std.proofs.lemmas.List.Sums.{fold_push}
use Rattle.nc_blocks.specs.declared.blocks.Block.{Block}
use Rattle.job_types.specs.Job.{ProgramView, block_entry, program_of}
use Rattle.nc_blocks.specs.Statement.{BlockView, Statement, If, Else, EndIf, While, EndWhile, Repeat, Until, Loop, EndLoop, For, EndFor}
use Rattle.nc_control_flow.specs.declared.nest.Opened.{Opened}
use Rattle.nc_control_flow.specs.declared.nest.Structure.{Structure}
use Rattle.nc_control_flow.specs.declared.nest.Structure.TheVariants as structure
use Rattle.nc_control_flow.specs.Nest.{ends, nest_without, with_else, nest_with_else, nest_after, Nests}
use Rattle.nc_control_flow.specs.Nested.{nested_on, nest_of}
use Rattle.fault_codes.specs.Codes.{IsRefusalCode, refusal_codes}
use Rattle.tape_job.specs.Rules.{structure_fault, fault_of}

pub nest_push : (blocks : List (ℕ × BlockView)) (block : ℕ × BlockView) → nest_of (blocks ++ block ∷ []) ≡ nested_on (nest_of blocks) block
nest_push blocks block = fold_push nested_on (Ok []) blocks block

pub nest_goes_on : (blocks : List (ℕ × BlockView)) (block : ℕ × BlockView) (all : List Opened) → nest_of blocks ≡ Ok all
    → nest_of (blocks ++ block ∷ []) ≡ nest_after all block.0 block.1.statement
nest_goes_on blocks block all nest = nest_push blocks block ∙ ap (λ so_far. nested_on so_far block) nest

pub fault_is : (blocks : List (ℕ × BlockView)) (block : ℕ × BlockView) (all : List Opened) → nest_of blocks ≡ Ok all
    → structure_fault blocks block ≡ fault_of (nest_after all block.0 block.1.statement)
unfolding structure_fault
fault_is blocks block all nest = ap fault_of (nest_goes_on blocks block all nest)

-- ---- a structure is refused with 25 or 26, and both have a text
has_25 : IsRefusalCode 25
unfolding IsRefusalCode refusal_codes
has_25 = refl

has_26 : IsRefusalCode 26
unfolding IsRefusalCode refusal_codes
has_26 = refl

opened_code : (full : Bool) (code : ℕ) (all : List Opened) → ◌≡◌ {A = Result (List Opened) ℕ} (if full then Err 26 else Ok all) (Err code) → IsRefusalCode code
opened_code true code all e = let same : 26 ≡ code = cc in subst IsRefusalCode same has_26
opened_code false code all e = absurd cc

closed_code : (fits : Bool) (code : ℕ) (all : List Opened) → ◌≡◌ {A = Result (List Opened) ℕ} (if fits then Ok all else Err 25) (Err code) → IsRefusalCode code
closed_code true code all e = absurd cc
closed_code false code all e = let same : 25 ≡ code = cc in subst IsRefusalCode same has_25

close_code : (one : Structure) (all : List Opened) (code : ℕ) → nest_without one all ≡ Err code → IsRefusalCode code
close_code one [] code e = let same : 25 ≡ code = cc in subst IsRefusalCode same has_25
close_code one (o ∷ os) code e = closed_code (ends one o.structure) code os e

else_code : (one : Structure) (o : Opened) (os : List Opened) (code : ℕ) → with_else one o os ≡ Err code → IsRefusalCode code
else_code structure.If o os code e = absurd cc
else_code other o os code e = let same : 25 ≡ code = cc in subst IsRefusalCode same has_25

branch_code : (all : List Opened) (code : ℕ) → nest_with_else all ≡ Err code → IsRefusalCode code
branch_code [] code e = let same : 25 ≡ code = cc in subst IsRefusalCode same has_25
branch_code (o ∷ os) code e = else_code o.structure o os code e

pub nested_code : (all : List Opened) (line code : ℕ) (statement : Statement) → nest_after all line statement ≡ Err code → IsRefusalCode code
unfolding nest_after
nested_code all line code (If c) e = opened_code (length all == 16) code _ e
nested_code all line code (While c) e = opened_code (length all == 16) code _ e
nested_code all line code Repeat e = opened_code (length all == 16) code _ e
nested_code all line code Loop e = opened_code (length all == 16) code _ e
nested_code all line code (For i a b) e = opened_code (length all == 16) code _ e
nested_code all line code Else e = branch_code all code e
nested_code all line code EndIf e = close_code structure.If all code e
nested_code all line code EndWhile e = close_code structure.While all code e
nested_code all line code (Until c) e = close_code structure.Repeat all code e
nested_code all line code EndLoop e = close_code structure.Loop all code e
nested_code all line code EndFor e = close_code structure.For all code e
nested_code all line code other e = absurd cc

-- ---- what a step of the nest says of a program with one more block
broken_by : (next : Result (List Opened) ℕ) (all new : List Opened) (code : ℕ) → Nests next (Err code) all new → fault_of next ≡ Some code
broken_by (Ok next) all new code nests = absurd cc
broken_by (Err other) all new code nests = let same : other ≡ code = cc in ap Some same

taken_by : (next : Result (List Opened) ℕ) (all new : List Opened) → Nests next (Ok tt) all new → fault_of next ≡ None
taken_by (Ok next) all new nests = refl
taken_by (Err other) all new nests = absurd cc

pub step_breaks : (blocks : List (ℕ × BlockView)) (block : ℕ × BlockView) (all new : List Opened) (code : ℕ) → nest_of blocks ≡ Ok all
    → Nests (nest_after all block.0 block.1.statement) (Err code) all new → structure_fault blocks block ≡ Some code
step_breaks blocks block all new code nest nests = fault_is blocks block all nest ∙ broken_by (nest_after all block.0 block.1.statement) all new code nests

pub step_taken : (blocks : List (ℕ × BlockView)) (block : ℕ × BlockView) (all new : List Opened) → nest_of blocks ≡ Ok all
    → Nests (nest_after all block.0 block.1.statement) (Ok tt) all new → structure_fault blocks block ≡ None
step_taken blocks block all new nest nests = fault_is blocks block all nest ∙ taken_by (nest_after all block.0 block.1.statement) all new nests

pub pushed_view : (name : List ℕ) (line : ℕ) (blocks : List (ℕ × Block)) (block : ℕ × Block)
    → ◌≡◌ {A = List ℕ × ProgramView} (name, program_of line (map block_entry (blocks ++ block ∷ []))) (name, program_of line (map block_entry blocks ++ block_entry block ∷ []))
pushed_view name line blocks block = ap (λ all. (name, program_of line all)) (map-append block_entry blocks (block ∷ []))
