-- The parameter numbers of blocks fit, one line after the other.
use Rattle.std.proofs.Common.{◌≡◌, ℕ, ◌+◌, ◌≤◌, List, [], ◌∷◌, ◌++◌, length-append, Result, Ok, Err, IfOk, Option, Some, None, ap, subst, sym, arith}
use Rattle.std.specs.List.{All}
use Rattle.std.proofs.lemmas.List.Elements.{All-nil}
use Rattle.nc_blocks.specs.Indices.{StatementFits, StatementIndicesFit}
use Rattle.fault_codes.specs.declared.Refusal.{Refusal}
use Rattle.tape_job.specs.declared.fault.JobFault.{JobFault}
use Rattle.tape_job.specs.declared.fault.JobFault.TheVariants.{Refused, NoMemory}
use Rattle.job_types.specs.declared.job.Job.{Job}
use Rattle.nc_blocks.specs.Statement.{BlockView}
use Rattle.job_types.specs.Job.{JobView, ProgramView, names_of, program_of}
use Rattle.tape_job.specs.Lines.{Line}
use Rattle.tape_job.specs.Read.{answer, GivesRead}
use Rattle.tape_job.specs.Reading.{ReadingView, Blank, First, DeclarationLine, Header, BlockLine, reading_of, ReadingFits}
use Rattle.tape_job.specs.Rules.{last_count, count_in}
use Rattle.job_types.specs.SoundJob.{BlocksFit}
use Rattle.tape_job.specs.Steps.{with_block, with_line, tell}
use Rattle.tape_job.specs.Told.{Told, facts_of}
use Rattle.tape_job.proofs.LibraryLemmas.{last_program_is}
use Rattle.tape_job.proofs.SoundPrograms.{block_told, header_told}

reading_fits : (job : JobView) (number : ℕ) (reading : ReadingView) → BlocksFit job → ReadingFits reading → BlocksFit (with_line job number (Ok reading))
unfolding with_line
reading_fits job number Blank all fits = all
reading_fits job number First all fits = all
reading_fits job number (DeclarationLine declaration) all fits = all
reading_fits job number (Header name) all fits = header_told (λ block. StatementIndicesFit block.1.statement) job.programs number name all
reading_fits job number (BlockLine block) all fits = block_told (λ b. StatementIndicesFit b.1.statement) job.programs (number, block) all fits

pub line_fits : (facts_of new : Told) (line : Line) (reading : ReadingView) → reading_of facts_of.seen facts_of.in_programs facts_of.job.compensation line.1 ≡ Ok reading → ReadingFits reading
    → BlocksFit facts_of.job → new ≡ tell facts_of line → BlocksFit new.job
unfolding tell
line_fits facts_of new line reading says fits all same =
    subst (λ (t : Told). BlocksFit t.job) (sym same)
    (subst (λ read. BlocksFit (with_line facts_of.job line.0 read)) (sym says) (reading_fits facts_of.job line.0 reading all fits))

pub nothing_fits : (now : Told) → now ≡ facts_of [] → BlocksFit now.job
unfolding facts_of
nothing_fits now same = subst (λ (t : Told). BlocksFit t.job) (sym same) (All-nil (λ program. All (λ block. StatementFits (names_of program.1.blocks) block.1.statement) program.1.blocks))

pub answered_fits : (refused : Option Refusal) (facts_of job : JobView) → BlocksFit facts_of → answer refused facts_of ≡ Ok job → BlocksFit job
answered_fits None facts_of job all same = let is : facts_of ≡ job = cc in subst BlocksFit is all
answered_fits (Some refused) facts_of job all same = absurd cc

-- ---- a line adds at most one block to the last program
one_more : (programs : List (List ℕ × ProgramView)) (block : ℕ × BlockView) → last_count (with_block programs block) ≤ last_count programs + 1
one_more [] block = omega arith
one_more (program ∷ []) block = let further = length-append program.1.blocks (block ∷ []) in omega arith
one_more (program ∷ next ∷ []) block = one_more (next ∷ []) block
one_more (program ∷ next ∷ third ∷ programs) block = one_more (next ∷ third ∷ programs) block

none_yet : (programs : List (List ℕ × ProgramView)) (name : List ℕ) (number : ℕ) → last_count (programs ++ (name, program_of number []) ∷ []) ≡ 0
none_yet programs name number = ap count_in (last_program_is programs (name, program_of number []))

reading_short : (job : JobView) (number : ℕ) (read : Result ReadingView ℕ) → last_count (with_line job number read).programs ≤ last_count job.programs + 1
unfolding with_line
reading_short job number (Err code) = omega arith
reading_short job number (Ok Blank) = omega arith
reading_short job number (Ok First) = omega arith
reading_short job number (Ok (DeclarationLine declaration)) = omega arith
reading_short job number (Ok (Header name)) = let none = none_yet job.programs name number in omega arith
reading_short job number (Ok (BlockLine block)) = one_more job.programs (number, block)

pub line_short : (facts_of new : Told) (line : Line) → new ≡ tell facts_of line → last_count new.job.programs ≤ last_count facts_of.job.programs + 1
unfolding tell
line_short facts_of new line same =
    subst (λ (t : Told). last_count t.job.programs ≤ last_count facts_of.job.programs + 1) (sym same)
    (reading_short facts_of.job line.0 (reading_of facts_of.seen facts_of.in_programs facts_of.job.compensation line.1))

pub nothing_short : (now : Told) → now ≡ facts_of [] → last_count now.job.programs ≡ 0
unfolding facts_of
nothing_short now same = ap (λ (t : Told). last_count t.job.programs) same

-- the job that a call gives where nothing was refused
pub given_fits : (result : Result Job JobFault) (refused : Option Refusal) (facts_of : JobView) → BlocksFit facts_of → GivesRead result (answer refused facts_of) → IfOk result BlocksFit
given_fits (Ok job) refused facts_of all same = answered_fits refused facts_of job all same
given_fits (Err (Refused other)) refused facts_of all same = tt
given_fits (Err NoMemory) refused facts_of all same = tt
