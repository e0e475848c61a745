-- The place of a line.
use Rattle.std.proofs.Common.{◌≡◌, ◌∙◌, ℕ, zero, suc, ◌<◌, ◌≤◌, ◌==◌, nat_lt, Bool, true, false, cond, not, ◌+◌, List, [], ◌∷◌, map, length, slice_get, Option, None, Some, refl, sym, ap, subst, arith}
use Rattle.std.proofs.lemmas.Bool.Decides.{nat_tests}
use Rattle.std.proofs.lemmas.List.{length-map}
use Rattle.std.proofs.lemmas.Option.{slice_get_past}
use Rattle.std.specs.List.{position, position_or_len}
use Rattle.std.specs.Option.{option_and_then, option_map_or}
use Rattle.channel_machine.specs.Levels.{lines_of}
use Rattle.job_types.specs.Job.{ProgramView, block_entry}
use Rattle.nc_blocks.specs.Statement.{BlockView}
use Rattle.nc_blocks.specs.declared.blocks.Block.{Block}
use Rattle.explain_alarms.specs.Blocks.{place_at, place_in, short}

place_or_end : {X Y : Type 0} (p : Y → Bool) (view : X → Y) (xs : List X) → position_or_len p (map view xs) ≡ position_or_len (λ x. p (view x)) xs
place_or_end p view [] = refl
place_or_end p view (x ∷ xs) = by_test (p (view x)) (place_or_end p view xs)
  where
    by_test : (t : Bool) → position_or_len p (map view xs) ≡ position_or_len (λ y. p (view y)) xs
        → cond (not t) (1 + position_or_len p (map view xs)) 0 ≡ cond (not t) (1 + position_or_len (λ y. p (view y)) xs) 0
    by_test true same = refl
    by_test false same = ap (λ n. 1 + n) same

in_views : {X Y : Type 0} (p : Y → Bool) (view : X → Y) (xs : List X) → position p (map view xs) ≡ position (λ x. p (view x)) xs
in_views p view xs = rw (place_or_end p view xs, length-map xs view) refl

-- the first place of a line, by the blocks themselves
pub place_in_views : (line : ℕ) (flow : List (ℕ × Block)) → place_in line (map block_entry flow) ≡ option_and_then short (position (λ (b : ℕ × Block). b.0 == line) flow)
unfolding place_in
place_in_views line flow = ap (option_and_then short) (in_views (λ (b : ℕ × BlockView). b.0 == line) block_entry flow)

-- no place in no lines
pub nowhere : (line : ℕ) → place_in line [] ≡ None
unfolding place_in
nowhere line = refl

-- past the last program there is none
pub past_all : (line : ℕ) (programs : List (List ℕ × ProgramView)) (number : ℕ) → length programs ≤ number → place_in line (lines_of programs number) ≡ None
past_all line programs number past =
    ap (λ (o : Option (List ℕ × ProgramView)). place_in line (option_map_or (λ p. p.1.blocks) o [])) (slice_get_past programs number past) ∙ nowhere line

-- a place of a line is one of the places
within : {X : Type 0} (p : X → Bool) (xs : List X) (place : ℕ) → position p xs ≡ Some place → place < length xs
within p xs place is = by_test (nat_lt (position_or_len p xs) (length xs)) refl is
  where
    by_test : (t : Bool) → nat_lt (position_or_len p xs) (length xs) ≡ t → cond t (Some (position_or_len p xs)) None ≡ Some place → place < length xs
    by_test true below found = let same : position_or_len p xs ≡ place = cc in grind (arith, nat_tests)
    by_test false below found = absurd cc

is_short : (o : Option ℕ) (pc : ℕ) → option_and_then short o ≡ Some pc → o ≡ Some pc
is_short None pc is = absurd cc
is_short (Some place) pc is = by_test (nat_lt place 4294967296) is
  where
    by_test : (t : Bool) → cond t (Some place) None ≡ Some pc → Some place ≡ Some pc
    by_test true found = found
    by_test false found = absurd cc

pub place_within : (line : ℕ) (programs : List (List ℕ × ProgramView)) (number pc : ℕ) → place_at line programs number ≡ Some pc → pc < length (lines_of programs number)
unfolding place_in
place_within line programs number pc is =
    within (λ (b : ℕ × BlockView). b.0 == line) (lines_of programs number) pc (is_short (position (λ (b : ℕ × BlockView). b.0 == line) (lines_of programs number)) pc is)

-- in the program of the number
pub here_in : (lines : List (ℕ × BlockView)) (flow : List (ℕ × Block)) (pc : ℕ) → lines ≡ map block_entry flow → pc < length lines → pc < length flow
here_in lines flow pc is there =
    let long : length lines ≡ length flow = ap length is ∙ length-map flow block_entry in
    omega (arith, long, there)
