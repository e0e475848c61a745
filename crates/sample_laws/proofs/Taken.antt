-- An input is a job where what its lines tell goes on to one.
use Rattle.std.proofs.Common.{◌≡◌, ◌∙◌, ℕ, ◌+◌, pos, negsuc, Bool, true, false, List, [], ◌∷◌, ◌++◌, Option, None, Some, Result, Ok, IsOk, codes, refl, sym, ap, subst}
use Rattle.std.specs.List.{enumerate_from}
use Rattle.job_types.specs.declared.job.AxisLine.{AxisLine}
use Rattle.job_types.specs.declared.job.ChannelLine.{ChannelLine}
use Rattle.job_types.specs.declared.job.GeoLine.{GeoLine}
use Rattle.job_types.specs.declared.job.Side.{Side}
use Rattle.job_types.specs.declared.job.ZoneLine.{ZoneLine}
use Rattle.job_types.specs.Job.{ProgramView, program_of}
use Rattle.nc_blocks.specs.Statement.{BlockView}
use Rattle.nc_control_flow.specs.Nested.{nest_of}
use Rattle.fault_codes.specs.declared.Refusal.{Refusal}
use Rattle.tape_job.specs.Draft.{nothing_told}
use Rattle.tape_job.specs.Lines.{raw_lines, text_of, before_comment, begins_with_percent}
use Rattle.tape_job.specs.Pieces.{lacks_feed}
use Rattle.tape_job.specs.Read.{end_of_program, line_trial, trial, end_trial}
use Rattle.tape_job.specs.Reading.{Header, is_bad_byte, header_line, form_of, entry_reading, reading_of}
use Rattle.tape_job.specs.Rules as rule
use Rattle.tape_job.specs.Rules.{last_program}
use Rattle.tape_job.specs.Steps.{with_block, with_line, tell, unless_refused, run, finish}
use Rattle.tape_job.specs.Told.{Told}
use Rattle.job_lines.specs.Header as headers
use Rattle.tape_job.proofs.LineLemmas.{whole_line}
use Rattle.tape_job.proofs.NestLemmas.{nest_goes_on}
use Rattle.sample_laws.proofs.Blocks.{IsBlock}

-- after what was told, the lines of these bytes from this number on make a job
unfoldable pub IsJobFrom : Told → ℕ → List ℕ → Type 0
IsJobFrom told number bytes = IsOk (finish (run told (enumerate_from number (raw_lines bytes))))

line_goes : (told : Told) (number : ℕ) (line more : List ℕ) → lacks_feed line ≡ true → trial told (number, line ++ 10 ∷ []) ≡ None
    → IsJobFrom (tell told (number, line ++ 10 ∷ [])) (number + 1) more → IsJobFrom told number (line ++ 10 ∷ more)
unfolding IsJobFrom
line_goes told number line more lacks taken goes =
    let next = run (tell told (number, line ++ 10 ∷ [])) (enumerate_from (number + 1) (raw_lines more)) in
    let same : run told (enumerate_from number (raw_lines (line ++ 10 ∷ more))) ≡ next =
    ap (λ (lines : List (List ℕ)). run told (enumerate_from number lines)) (whole_line line more lacks)
    ∙ ap (λ (refused : Option Refusal). unless_refused refused next) taken in
    subst (λ (r : Result Told Refusal). IsOk (finish r)) (sym same) goes

-- the line is not refused, and then this is told
pub record IsTaken (told : Told) (number : ℕ) (line : List ℕ) (next : Told) : Type 0 where
  pub lacks : lacks_feed line ≡ true
  pub taken : trial told (number, line ++ 10 ∷ []) ≡ None
  pub tells : tell told (number, line ++ 10 ∷ []) ≡ next

pub taken_goes : (told next : Told) (number : ℕ) (line more : List ℕ) → IsTaken told number line next → IsJobFrom next (number + 1) more → IsJobFrom told number (line ++ 10 ∷ more)
taken_goes told next number line more is goes =
    line_goes told number line more is.lacks is.taken (subst (λ (t : Told). IsJobFrom t (number + 1) more) (sym is.tells) goes)

-- ---- what the list of a sample tells

abbrev pub channel_of : ℕ → List ℕ → ℕ → ChannelLine
channel_of line name channel = record { line = line; channel = channel; program = Some name; starts = true }

abbrev pub channels : List ChannelLine
channels = channel_of 2 (codes "S1") 1 ∷ channel_of 3 (codes "S2") 2 ∷ []

abbrev pub axes : List AxisLine
axes =
    record { line = 4; letter = 88; number = 1; owner = Some 1; at = pos 100000 }
    ∷ record { line = 5; letter = 90; number = 1; owner = Some 1; at = pos 0 }
    ∷ record { line = 6; letter = 88; number = 2; owner = Some 2; at = negsuc 99999 }
    ∷ record { line = 7; letter = 90; number = 2; owner = Some 2; at = pos 0 }
    ∷ []

abbrev pub slots : List GeoLine
slots =
    record { line = 8; channel = 1; slot = 0; axis = 0 }
    ∷ record { line = 9; channel = 1; slot = 2; axis = 1 }
    ∷ record { line = 10; channel = 2; slot = 0; axis = 2 }
    ∷ record { line = 11; channel = 2; slot = 2; axis = 3 }
    ∷ []

-- 10 millimetres to both sides, on this axis or on none
abbrev side : Option (ℕ × Bool) → Side
side carrier = record { carrier = carrier; lo = negsuc 9999; hi = pos 10000 }

abbrev zone_of : ℕ → ℕ → ℕ → ℕ → ZoneLine
zone_of line number x z = record {
  line = line;
  zone = number;
  group = number;
  holder = Some number;
  on = true;
  sides = side (Some (x, false)) ∷ side None ∷ side (Some (z, false)) ∷ [];
}

abbrev pub zones : List ZoneLine
zones = zone_of 12 1 0 1 ∷ zone_of 13 2 2 3 ∷ []

-- the list is told, and these programs, or none has begun
abbrev pub told_at : Bool → List (List ℕ × ProgramView) → Told
told_at begun programs = record {
  seen = true;
  in_programs = begun;
  options = record { margin = false; depth = false; budget = true };
  job = record nothing_told {
    line = 1;
    channels = channels;
    axes = axes;
    geo = slots;
    zones = zones;
    budget = 100000000;
    programs = programs;
  };
}

-- ---- blocks

-- a program after others
abbrev pub within : List (List ℕ × ProgramView) → List ℕ → ℕ → List (ℕ × BlockView) → List (List ℕ × ProgramView)
within others name line blocks = others ++ (name, program_of line blocks) ∷ []

last_within : (others : List (List ℕ × ProgramView)) (name : List ℕ) (line : ℕ) (blocks : List (ℕ × BlockView))
    → last_program (within others name line blocks) ≡ Some (program_of line blocks)
last_within [] name line blocks = refl
last_within (program ∷ []) name line blocks = refl
last_within (program ∷ next ∷ others) name line blocks = last_within (next ∷ others) name line blocks

block_within : (others : List (List ℕ × ProgramView)) (name : List ℕ) (line : ℕ) (blocks : List (ℕ × BlockView)) (block : ℕ × BlockView)
    → with_block (within others name line blocks) block ≡ within others name line (blocks ++ block ∷ [])
block_within [] name line blocks block = refl
block_within (program ∷ []) name line blocks block = refl
block_within (program ∷ next ∷ others) name line blocks block = ap (λ (l : List (List ℕ × ProgramView)). program ∷ l) (block_within (next ∷ others) name line blocks block)

block_is_taken : (others : List (List ℕ × ProgramView)) (name : List ℕ) (line : ℕ) (blocks : List (ℕ × BlockView)) (number : ℕ) (text : List ℕ) (is : IsBlock text)
    → nest_of (blocks ++ (number, is.block) ∷ []) ≡ Ok []
    → IsTaken (told_at true (within others name line blocks)) number text (told_at true (within others name line (blocks ++ (number, is.block) ∷ [])))
unfolding trial end_of_program line_trial rule.structure_rule rule.structure_fault tell with_line
block_is_taken others name line blocks number text is closed = record {
  lacks = is.lacks;
  taken = rw (is.inside, is.read, last_within others name line blocks, closed) refl;
  tells = rw (is.read, block_within others name line blocks (number, is.block)) refl;
}

-- whatever blocks the program has, if they leave no structure open, what follows makes a job
abbrev pub GoesOn : List (List ℕ × ProgramView) → List ℕ → ℕ → List ℕ → Type 0
GoesOn others name line more =
    (number : ℕ) (blocks : List (ℕ × BlockView)) → nest_of blocks ≡ Ok [] → IsJobFrom (told_at true (within others name line blocks)) number more

pub block_goes : (others : List (List ℕ × ProgramView)) (name : List ℕ) (line : ℕ) (text more : List ℕ) → IsBlock text → GoesOn others name line more
    → GoesOn others name line (text ++ 10 ∷ more)
block_goes others name line text more is goes number blocks closed =
    let longer = blocks ++ (number, is.block) ∷ [] in
    let closed_on : nest_of longer ≡ Ok [] = nest_goes_on blocks (number, is.block) [] closed ∙ is.alone number in
    taken_goes (told_at true (within others name line blocks)) (told_at true (within others name line longer)) number text more
    (block_is_taken others name line blocks number text is closed_on) (goes (number + 1) longer closed_on)

-- ---- the second program, and the end

abbrev pub first_program : List (ℕ × BlockView) → List (List ℕ × ProgramView)
first_program blocks = within [] (codes "S1") 15 blocks

header_read : reading_of true true false (codes "%_N_S2_MPF" ++ 10 ∷ []) ≡ Ok (Header (codes "S2"))
unfolding reading_of text_of before_comment begins_with_percent entry_reading is_bad_byte form_of header_line headers.header_of headers.header_word_of headers.is_header headers.has_header_form headers.is_name_byte
header_read = refl

header_is_taken : (blocks : List (ℕ × BlockView)) (number : ℕ) → nest_of blocks ≡ Ok []
    → IsTaken (told_at true (first_program blocks)) number (codes "%_N_S2_MPF") (told_at true (within (first_program blocks) (codes "S2") number []))
unfolding trial end_of_program line_trial begins_with_percent rule.open_structure_refusal rule.left_open rule.open_line rule.rule_of rule.header_rule rule.has_program tell with_line
header_is_taken blocks number closed = record { lacks = refl; taken = rw (closed, header_read) refl; tells = rw header_read refl }

pub second_goes : (more : List ℕ) → ((blocks : List (ℕ × BlockView)) (line : ℕ) → nest_of blocks ≡ Ok [] → GoesOn (first_program blocks) (codes "S2") line more)
    → GoesOn [] (codes "S1") 15 (codes "%_N_S2_MPF" ++ 10 ∷ more)
second_goes more goes number blocks closed =
    taken_goes (told_at true (first_program blocks)) (told_at true (within (first_program blocks) (codes "S2") number [])) number (codes "%_N_S2_MPF") more
    (header_is_taken blocks number closed) (goes blocks number closed (number + 1) [] refl)

end_is_taken : (first second : List (ℕ × BlockView)) (line : ℕ) → nest_of second ≡ Ok [] → end_trial (told_at true (within (first_program first) (codes "S2") line second)) ≡ None
unfolding end_trial rule.open_structure_refusal rule.left_open rule.open_line rule.missing_program_refusal rule.has_program
end_is_taken first second line closed = rw closed refl

pub end_goes : (first : List (ℕ × BlockView)) (line : ℕ) → GoesOn (first_program first) (codes "S2") line []
unfolding IsJobFrom finish
end_goes first line number blocks closed = rw (end_is_taken first blocks line closed) refl
