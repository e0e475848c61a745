-- What headers and blocks tell that break no rule is sound.
use Rattle.std.specs.Bool.{⊤}
use Rattle.std.proofs.Common.{◌≡◌, ◌≢◌, ◌∙◌, ℕ, suc, Bool, true, false, true≢false, ◌||◌, List, [], ◌∷◌, ◌++◌, length, Result, Ok, Err, None, refl, sym, ap, arith}
use Rattle.std.specs.List.{All, Any, list_any}
use Rattle.std.specs.Map.{keys_of}
use Rattle.std.specs.Str.{bytes_eq}
use Rattle.std.proofs.lemmas.Slice.Eq.{bytes_eq-Decides}
use Rattle.std.proofs.lemmas.List.Elements.{All-nil, All-cons, All-push, All-weaker}
use Rattle.nc_blocks.specs.Statement.{BlockView}
use Rattle.nc_control_flow.specs.declared.nest.Opened.{Opened}
use Rattle.nc_control_flow.specs.Nested.{nest_of, IsNested}
use Rattle.job_types.specs.Job.{ProgramView, program_of}
use Rattle.tape_job.specs.Rules as rule
use Rattle.tape_job.specs.Steps.{with_block}
use Rattle.tape_job.proofs.SoundLists.{none_pass, found}

-- what holds of each block of each program
module _ (P : ℕ × BlockView → Type 0) where
  abbrev pub InAll : List (List ℕ × ProgramView) → Type 0
  InAll programs = All (λ program. All P program.1.blocks) programs

  pub block_told : (programs : List (List ℕ × ProgramView)) (block : ℕ × BlockView) → InAll programs → P block → InAll (with_block programs block)
  block_told [] block all holds = All-nil (λ program. All P program.1.blocks)
  block_told (program ∷ []) block all holds =
      All-cons (λ program. All P program.1.blocks) (program.0, program_of program.1.line (program.1.blocks ++ block ∷ [])) []
      (All-push P program.1.blocks block (all 0 program (omega arith)) holds) (All-nil (λ program. All P program.1.blocks))
  block_told (program ∷ next ∷ programs) block all holds =
      All-cons (λ program. All P program.1.blocks) program (with_block (next ∷ programs) block)
      (all 0 program (omega arith)) (block_told (next ∷ programs) block (λ k d within. all (suc k) d (omega arith)) holds)

  pub header_told : (programs : List (List ℕ × ProgramView)) (number : ℕ) (name : List ℕ) → InAll programs
      → InAll (programs ++ (name, program_of number []) ∷ [])
  header_told programs number name all =
      All-push (λ program. All P program.1.blocks) programs (name, program_of number []) all (All-nil P)

-- the names of the programs
pub keys-with_block : (programs : List (List ℕ × ProgramView)) (block : ℕ × BlockView) → keys_of (with_block programs block) ≡ keys_of programs
keys-with_block [] block = refl
keys-with_block (program ∷ []) block = refl
keys-with_block (program ∷ next ∷ programs) block = ap (λ names. program.0 ∷ names) (keys-with_block (next ∷ programs) block)

pub length-with_block : (programs : List (List ℕ × ProgramView)) (block : ℕ × BlockView) → length (with_block programs block) ≡ length programs
length-with_block [] block = refl
length-with_block (program ∷ []) block = refl
length-with_block (program ∷ next ∷ programs) block = ap suc (length-with_block (next ∷ programs) block)

pub keys-push : (programs : List (List ℕ × ProgramView)) (program : List ℕ × ProgramView) → keys_of (programs ++ program ∷ []) ≡ keys_of programs ++ program.0 ∷ []
keys-push [] program = refl
keys-push (first ∷ programs) program = ap (λ names. first.0 ∷ names) (keys-push programs program)

name_differs : (name other : List ℕ) → bytes_eq name other ≡ false → other ≢ name
name_differs name other fails same = true≢false (sym ((bytes_eq-Decides name other).1 (sym same)) ∙ fails)

pub names_differ : (programs : List (List ℕ × ProgramView)) (name : List ℕ) → rule.has_program programs name ≡ false → All (λ other. other ≢ name) (keys_of programs)
unfolding rule.has_program
names_differ programs name none =
    All-weaker (λ other. bytes_eq name other ≡ false) (λ other. other ≢ name) (name_differs name) (keys_of programs) (none_pass (bytes_eq name) (keys_of programs) none)

any_key : (programs : List (List ℕ × ProgramView)) (test : List ℕ → Bool) → list_any test (keys_of programs) ≡ list_any (λ (p : List ℕ × ProgramView). test p.0) programs
any_key [] test = refl
any_key (program ∷ programs) test = ap (λ b. test program.0 || b) (any_key programs test)

-- a program of the library, by its name
pub program_found : (programs : List (List ℕ × ProgramView)) (name : List ℕ) → rule.has_program programs name ≡ true → Any (λ program. program.0 ≡ name) programs
unfolding rule.has_program
program_found programs name has =
    found (λ (p : List ℕ × ProgramView). p.0 ≡ name) (λ p. bytes_eq name p.0) (λ p same. sym ((bytes_eq-Decides name p.0).0 same)) programs
    (sym (any_key programs (bytes_eq name)) ∙ has)

-- ---- structures: those of each program but the last match, and the last breaks none so far
abbrev pub HasNest : Result (List Opened) ℕ → Type 0
HasNest nest = (all : List Opened) × (nest ≡ Ok all)

abbrev pub NestedSoFar : List (List ℕ × ProgramView) → Type 0
NestedSoFar [] = ⊤
NestedSoFar (program ∷ []) = HasNest (nest_of program.1.blocks)
NestedSoFar (program ∷ next ∷ programs) = IsNested program.1.blocks × NestedSoFar (next ∷ programs)

no_fault : (nest : Result (List Opened) ℕ) → rule.fault_of nest ≡ None → HasNest nest
no_fault (Ok all) none = (all, refl)
no_fault (Err code) none = absurd cc

nothing_open : (nest : Result (List Opened) ℕ) → HasNest nest → rule.innermost nest ≡ None → nest ≡ Ok []
nothing_open (Ok []) some none = refl
nothing_open (Ok (one ∷ all)) some none = absurd cc
nothing_open (Err code) some none = absurd cc

pub nested_block : (programs : List (List ℕ × ProgramView)) (block : ℕ × BlockView) → NestedSoFar programs → rule.structure_rule programs block ≡ None
    → NestedSoFar (with_block programs block)
unfolding rule.structure_rule rule.structure_fault
nested_block [] block all none = tt
nested_block (program ∷ []) block all none = no_fault (nest_of (program.1.blocks ++ block ∷ [])) none
nested_block (program ∷ next ∷ []) block all none = (all.0, nested_block (next ∷ []) block all.1 none)
nested_block (program ∷ next ∷ third ∷ programs) block all none = (all.0, nested_block (next ∷ third ∷ programs) block all.1 none)

pub nested_header : (programs : List (List ℕ × ProgramView)) (number : ℕ) (name : List ℕ) → NestedSoFar programs → rule.left_open programs ≡ None
    → NestedSoFar (programs ++ (name, program_of number []) ∷ [])
unfolding rule.left_open rule.open_line
nested_header [] number name all none = ([], refl)
nested_header (program ∷ []) number name all none = (nothing_open (nest_of program.1.blocks) all none, ([], refl))
nested_header (program ∷ next ∷ programs) number name all none = (all.0, nested_header (next ∷ programs) number name all.1 none)

pub all_nested : (programs : List (List ℕ × ProgramView)) → NestedSoFar programs → rule.left_open programs ≡ None
    → All (λ program. IsNested program.1.blocks) programs
unfolding rule.left_open rule.open_line
all_nested [] all none = All-nil (λ program. IsNested program.1.blocks)
all_nested (program ∷ []) all none =
    All-cons (λ program. IsNested program.1.blocks) program [] (nothing_open (nest_of program.1.blocks) all none) (All-nil (λ program. IsNested program.1.blocks))
all_nested (program ∷ next ∷ programs) all none =
    All-cons (λ program. IsNested program.1.blocks) program (next ∷ programs) all.0 (all_nested (next ∷ programs) all.1 none)
