-- Each sample is a job.
use Rattle.std.proofs.Common.{◌≡◌, ◌∙◌, ℕ, ◌+◌, ◌/◌, ◌%◌, ◌==◌, if◌then◌else◌, Bool, true, false, List, [], ◌∷◌, ◌++◌, flat_map, decimal, codes, Result, IsOk, refl, sym, ap, subst, append_assoc, append-nil, arith}
use Rattle.std.specs.List.{range_with_len}
use Rattle.job_types.specs.Job.{JobView, ProgramView}
use Rattle.nc_blocks.specs.Statement.{BlockView}
use Rattle.fault_codes.specs.declared.Refusal.{Refusal}
use Rattle.sample_jobs.specs.Samples.{seed_of, random, move_line, wait_line, move_lines, rows, program_text, sample_bytes}
use Rattle.sample_jobs.specs.declared.Program.{Program}
use Rattle.sample_jobs.specs.declared.Program.TheVariants.{First, Second}
use Rattle.tape_job.specs.Read.{read_of}
use Rattle.tape_job.specs.Told.{facts_of}
use Rattle.tape_job.proofs.TellingLemmas.{read_of_is}
use Rattle.sample_laws.proofs.Blocks.{IsBlock, first_move_is, second_move_is, first_wait_is, second_wait_is, end_is}
use Rattle.sample_laws.proofs.JobLists.{list_goes}
use Rattle.sample_laws.proofs.Numbers.{short_decimal}
use Rattle.sample_laws.proofs.Scans.{first_move, second_move}
use Rattle.sample_laws.proofs.Taken.{IsJobFrom, GoesOn, block_goes, first_program, second_goes, end_goes}

-- the program that is being read, after others and from its header's line on
record Place : Type 0 where
  others : List (List ℕ × ProgramView)
  name : List ℕ
  line : ℕ

abbrev GoesAt : Place → List ℕ → Type 0
GoesAt place more = GoesOn place.others place.name place.line more

block_at : (place : Place) (text more : List ℕ) → IsBlock text → GoesAt place more → GoesAt place (text ++ 10 ∷ more)
block_at place text more is goes = block_goes place.others place.name place.line text more is goes

-- ---- a move and its wait

one_line : (x z more : List ℕ) → (x ++ (32 ∷ 90 ∷ (z ++ 10 ∷ []))) ++ more ≡ (x ++ 32 ∷ 90 ∷ z) ++ 10 ∷ more
one_line x z more =
    append_assoc x (32 ∷ 90 ∷ (z ++ 10 ∷ [])) more
    ∙ ap (λ (l : List ℕ). x ++ 32 ∷ 90 ∷ l) (append_assoc z (10 ∷ []) more)
    ∙ sym (append_assoc x (32 ∷ 90 ∷ z) (10 ∷ more))

move_goes : (program : Program) (r : ℕ) (place : Place) (more : List ℕ) → GoesAt place more → GoesAt place (move_line program r ++ more)
unfolding move_line
move_goes First r place more goes =
    let x = decimal (50 + r % 100) in
    let z = decimal (r / 100 % 500) in
    let is_x = short_decimal (50 + r % 100) (omega arith) in
    let is_z = short_decimal (r / 100 % 500) (omega arith) in
    subst (GoesAt place) (sym (ap (λ (l : List ℕ). 71 ∷ 49 ∷ 32 ∷ 88 ∷ l) (one_line x z more)))
    (block_at place (first_move x z) more (first_move_is x z is_x is_z) goes)
move_goes Second r place more goes =
    let x = decimal (50 + r % 100) in
    let z = decimal (r / 100 % 500) in
    let is_x = short_decimal (50 + r % 100) (omega arith) in
    let is_z = short_decimal (r / 100 % 500) (omega arith) in
    subst (GoesAt place) (sym (ap (λ (l : List ℕ). 71 ∷ 49 ∷ 32 ∷ 88 ∷ 45 ∷ l) (one_line x z more)))
    (block_at place (second_move x z) more (second_move_is x z is_x is_z) goes)

wait_goes : (waits : Bool) (program : Program) (place : Place) (more : List ℕ) → GoesAt place more
    → GoesAt place ((if waits then wait_line program else []) ++ more)
wait_goes true First place more goes = block_at place (codes "WAITM(1,2)") more first_wait_is goes
wait_goes true Second place more goes = block_at place (codes "WAITM(1,1)") more second_wait_is goes
wait_goes false program place more goes = goes

moves_go : (program : Program) (r i : ℕ) (place : Place) (more : List ℕ) → GoesAt place more → GoesAt place (move_lines program r i ++ more)
unfolding move_lines
moves_go program r i place more goes =
    let wait : List ℕ = if i % 100 == 0 then wait_line program else [] in
    subst (GoesAt place) (sym (append_assoc (move_line program r) wait more))
    (move_goes program r place (wait ++ more) (wait_goes (i % 100 == 0) program place more goes))

-- ---- a program

rows_go : (program : Program) (seed : ℕ) (indices : List ℕ) (place : Place) (more : List ℕ) → GoesAt place more
    → GoesAt place (flat_map (λ i. move_lines program (random seed i) i) indices ++ more)
rows_go program seed [] place more goes = goes
rows_go program seed (i ∷ indices) place more goes =
    let others = flat_map (λ (j : ℕ). move_lines program (random seed j) j) indices in
    subst (GoesAt place) (sym (append_assoc (move_lines program (random seed i) i) others more))
    (moves_go program (random seed i) i place (others ++ more) (rows_go program seed indices place more goes))

-- the blocks of a program and its end, and then more
program_goes : (program : Program) (seed count : ℕ) (place : Place) (more : List ℕ) → GoesAt place more
    → GoesAt place ((rows program seed count ++ codes "M30\n") ++ more)
unfolding rows
program_goes program seed count place more goes =
    subst (GoesAt place) (sym (append_assoc (rows program seed count) (codes "M30\n") more))
    (rows_go program seed (range_with_len 1 count) place (codes "M30\n" ++ more) (block_at place (codes "M30") more end_is goes))

-- the first program, and the second one
abbrev first_place : Place
first_place = record { others = []; name = codes "S1"; line = 15 }

abbrev second_place : List (ℕ × BlockView) → ℕ → Place
second_place blocks line = record { others = first_program blocks; name = codes "S2"; line = line }

second_ends : (seed : ℕ) (blocks : List (ℕ × BlockView)) (line : ℕ) → GoesAt (second_place blocks line) (rows Second seed 10000 ++ codes "M30\n")
second_ends seed blocks line =
    subst (GoesAt (second_place blocks line)) (append-nil (rows Second seed 10000 ++ codes "M30\n"))
    (program_goes Second seed 10000 (second_place blocks line) [] (end_goes blocks line))

sample_goes : (number : ℕ) → IsJobFrom (facts_of []) 1 (sample_bytes number)
unfolding sample_bytes program_text
sample_goes number =
    let first = rows First (seed_of First number) 10000 ++ codes "M30\n" in
    let second = rows Second (seed_of Second number) 10000 ++ codes "M30\n" in
    let header = codes "%_N_S2_MPF" ++ 10 ∷ second in
    list_goes (first ++ header)
    (program_goes First (seed_of First number) 10000 first_place header
    (second_goes second (λ blocks line closed. second_ends (seed_of Second number) blocks line)) 16 [] refl)

pub sample_accepted : (number : ℕ) → IsOk (read_of (sample_bytes number))
unfolding IsJobFrom
sample_accepted number = subst (λ (r : Result JobView Refusal). IsOk r) (sym (read_of_is (sample_bytes number))) (sample_goes number)
