-- Meaning. The job of a number: two channels that make random moves, and wait for each other after every hundredth.
use Rattle.std.specs.Prelude.{ℕ, zero, suc, ◌+◌, ◌*◌, ◌/◌, ◌%◌, ◌==◌, if◌then◌else◌, List, [], ◌∷◌, ◌++◌, codes}
use Rattle.std.specs.Fmt.{decimal}
use Rattle.std.specs.List.{flat_map, range_with_len}
use Rattle.sample_jobs.specs.declared.Program.{Program}
use Rattle.sample_jobs.specs.declared.Program.TheVariants.{First, Second}

-- the lines of the job list
abbrev pub list_lines : List (List ℕ)
list_lines =
    codes "JOB 1"
    ∷ codes "CHANNEL 1 S1 START"
    ∷ codes "CHANNEL 2 S2 START"
    ∷ codes "AXIS X1 1 100"
    ∷ codes "AXIS Z1 1 0"
    ∷ codes "AXIS X2 2 -100"
    ∷ codes "AXIS Z2 2 0"
    ∷ codes "GEO 1 X X1"
    ∷ codes "GEO 1 Z Z1"
    ∷ codes "GEO 2 X X2"
    ∷ codes "GEO 2 Z Z2"
    ∷ codes "ZONE 1 1 1 ON +X1 -10 10 - -10 10 +Z1 -10 10"
    ∷ codes "ZONE 2 2 2 ON +X2 -10 10 - -10 10 +Z2 -10 10"
    ∷ codes "BUDGET 100000000"
    ∷ []

-- each line ends with a line feed
abbrev pub list_text : List ℕ
list_text = flat_map (λ line. line ++ codes "\n") list_lines

-- the line before the blocks of a program
abbrev pub head_line : Program → List ℕ
head_line First = codes "%_N_S1_MPF\n"
head_line Second = codes "%_N_S2_MPF\n"

-- the number from which the random numbers of a program are made
abbrev pub seed_of : Program → ℕ → ℕ
seed_of First number = number
seed_of Second number = number + 1

-- the i-th random number after a seed
abbrev pub random : ℕ → ℕ → ℕ
random seed zero = seed
random seed (suc i) = (1664525 * random seed i + 1013904223) % 4294967296

-- the first program moves at positive X, the second at negative X
abbrev pub sign_of : Program → List ℕ
sign_of First = []
sign_of Second = codes "-"

-- the move that a random number gives
unfoldable pub move_line : Program → ℕ → List ℕ
move_line program r = codes "G1 X" ++ (sign_of program ++ (decimal (50 + r % 100) ++ (codes " Z" ++ (decimal (r / 100 % 500) ++ codes "\n"))))

-- each program waits for the other one's channel
abbrev pub wait_line : Program → List ℕ
wait_line First = codes "WAITM(1,2)\n"
wait_line Second = codes "WAITM(1,1)\n"

-- the i-th move, by its random number, with the wait after every hundredth
unfoldable pub move_lines : Program → ℕ → ℕ → List ℕ
move_lines program r i = move_line program r ++ (if i % 100 == 0 then wait_line program else [])

-- the first so many moves of a program, counted from 1
unfoldable pub rows : Program → ℕ → ℕ → List ℕ
rows program seed count = flat_map (λ i. move_lines program (random seed i) i) (range_with_len 1 count)

-- a program: its head, ten thousand moves and its end
unfoldable pub program_text : Program → ℕ → List ℕ
program_text program number = head_line program ++ (rows program (seed_of program number) 10000 ++ codes "M30\n")

-- the job of a number
unfoldable pub sample_bytes : ℕ → List ℕ
sample_bytes number = list_text ++ (program_text First number ++ program_text Second number)
