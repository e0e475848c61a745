-- One line more: what lines tell together, and what is told line by line, are the same.
use Rattle.std.proofs.Common.{is_some, unwrap_or, ◌≡◌, ◌∙◌, ℕ, Bool, true, false, not, ◌&&◌, ◌||◌, if◌then◌else◌, nat_lt, List, [], ◌∷◌, ◌++◌, Result, Ok, Err, IfOk, Option, Some, None, IfSome, ◌≤◌, refl, sym, ap, append_assoc, append-nil, ◌+◌, length, arith}
use Rattle.std.specs.List.{list_any, cons_option, enumerate_from}
use Rattle.std.specs.Option.{option_or}
use Rattle.fault_codes.specs.declared.Refusal.{Refusal}
use Rattle.nc_blocks.specs.Statement.{BlockView}
use Rattle.tape_job.specs.Draft.{nothing_told}
use Rattle.tape_job.specs.Reading.{ReadingView, DeclarationLine, Header, BlockLine, words_of, block_line, tokens_reading, block_reading, entry_reading, with_shown, reading_of}
use Rattle.nc_syntax.specs.Blocks.{statement_of}
use Rattle.block_scanner.specs.Tokens.{tokens_of}
use Rattle.block_scanner.specs.declared.ScanFault.{ScanFault}
use Rattle.block_scanner.specs.declared.ScanFault.TheVariants as fault
use Rattle.block_scanner.specs.declared.Token.{Token}
use Rattle.job_lines.specs.Code.{refusal_code}
use Rattle.job_lines.specs.declared.code.Code.TheVariants.{LineTooLong}
use Rattle.tape_job.specs.declared.fault.JobFault.{JobFault}
use Rattle.tape_job.specs.declared.fault.JobFault.TheVariants.{Refused, NoMemory}
use Rattle.job_types.specs.Job.{JobView, ProgramView, program_of}
use Rattle.tape_job.specs.Lines.{Line, has_token, begins_with_percent, raw_lines, text_of, before_comment}
use Rattle.tape_job.specs.Told.{Told, facts_of, reading_under, reading_after, accept_compensation, says_compensation, says_skip, any_after, last_of, option_in, job_line_in, entries, axes_in, job_line_from, channel_from, axis_from, geo_from, offset_from, zone_from, tool_from, tools_in, by_channel, margin_from, depth_from, budget_from, block_from, name_from, until_header, blocks_in, with_program, programs_in}
use Rattle.tape_job.specs.Read.{trial, first_trial, end_trial, answer, read_of, GivesRead}
use Rattle.axis_sets.specs.declared.limits.TheConstants.{CHANNEL_LIMIT}
use Rattle.job_lines.specs.declared.declaration.Declaration.TheVariants.{Tool}
use Rattle.tool_offsets.specs.declared.tools.ToolEdge.{ToolEdge}
use Rattle.tape_job.proofs.SoundReadings.{IsSoundReading, reading_sound}
use Rattle.tape_job.proofs.ToolChannels.{by_channel_push}
use Rattle.tape_job.specs.Steps.{with_tool, with_entry, with_block_of, with_header, with_line, tell, unless_refused, run, finish, Tells}

-- a test of a list with one more
or_false : (b : Bool) → b || false ≡ b
or_false true = refl
or_false false = refl

or_assoc : (a b c : Bool) → a || (b || c) ≡ (a || b) || c
or_assoc true b c = refl
or_assoc false b c = refl

any_push : {A : Type 0} (test : A → Bool) (xs : List A) (x : A) → list_any test (xs ++ x ∷ []) ≡ list_any test xs || test x
any_push test [] x = or_false (test x)
any_push test (y ∷ ys) x = ap (λ b. test y || b) (any_push test ys x) ∙ or_assoc (test y) (list_any test ys) (test x)

-- the entries of lines with one more
cons_with_entry : {A : Type 0} (first : Option A) (xs : List A) (last : Option A) → cons_option first (with_entry xs last) ≡ with_entry (cons_option first xs) last
cons_with_entry None xs last = refl
cons_with_entry (Some x) xs None = refl
cons_with_entry (Some x) xs (Some y) = refl

one_entry : {A : Type 0} (only : Option A) → cons_option only [] ≡ with_entry [] only
one_entry None = refl
one_entry (Some x) = refl

entries_push : {A : Type 0} (give : List Line → Line → Option A) (before lines : List Line) (line : Line)
    → entries give before (lines ++ line ∷ []) ≡ with_entry (entries give before lines) (give (before ++ lines) line)
entries_push give before [] line = one_entry (give before line) ∙ ap (λ b. with_entry [] (give b line)) (sym (append-nil before))
entries_push give before (next ∷ lines) line =
    ap (cons_option (give before next)) (entries_push give (before ++ next ∷ []) lines line)
    ∙ cons_with_entry (give before next) (entries give (before ++ next ∷ []) lines) (give ((before ++ next ∷ []) ++ lines) line)
    ∙ ap (λ b. with_entry (cons_option (give before next) (entries give (before ++ next ∷ []) lines)) (give b line)) (append_assoc before (next ∷ []) lines)

-- a test of each line in the light of those before it
or_other : (a b c : Bool) → a || (b || c) ≡ b || (a || c)
or_other true true c = refl
or_other true false c = refl
or_other false b c = refl

any_after_push : (test : List Line → Line → Bool) (before lines : List Line) (line : Line)
    → any_after test before (lines ++ line ∷ []) ≡ test (before ++ lines) line || any_after test before lines
any_after_push test before [] line = ap (λ b. test b line || false) (sym (append-nil before))
any_after_push test before (next ∷ lines) line =
    ap (λ b. test before next || b) (any_after_push test (before ++ next ∷ []) lines line)
    ∙ or_other (test before next) (test ((before ++ next ∷ []) ++ lines) line) (any_after test (before ++ next ∷ []) lines)
    ∙ ap (λ b. test b line || (test before next || any_after test (before ++ next ∷ []) lines)) (append_assoc before (next ∷ []) lines)

-- the last entry
last_push : {A : Type 0} (xs : List A) (x : A) → last_of (xs ++ x ∷ []) ≡ Some x
last_push [] x = refl
last_push (y ∷ []) x = refl
last_push (y ∷ z ∷ xs) x = last_push (z ∷ xs) x

last_with_entry : {A : Type 0} (xs : List A) (entry : Option A) → last_of (with_entry xs entry) ≡ option_or entry (last_of xs)
last_with_entry xs None = refl
last_with_entry xs (Some x) = last_push xs x

option_push : {A : Type 0} (give : Result ReadingView ℕ → Option A) (lines : List Line) (line : Line)
    → option_in give (lines ++ line ∷ []) ≡ option_or (give (reading_after lines line.1)) (option_in give lines)
option_push give lines line =
    ap last_of (entries_push (λ before (l : Line). give (reading_after before l.1)) [] lines line)
    ∙ last_with_entry (entries (λ before (l : Line). give (reading_after before l.1)) [] lines) (give (reading_after lines line.1))

unwrap_either : {A : Type 0} (a b : Option A) (d : A) → unwrap_or (option_or a b) d ≡ unwrap_or a (unwrap_or b d)
unwrap_either None b d = refl
unwrap_either (Some a) b d = refl

some_either : {A : Type 0} (a b : Option A) → is_some (option_or a b) ≡ is_some a || is_some b
some_either None b = refl
some_either (Some a) b = refl

value_push : {A : Type 0} (give : Result ReadingView ℕ → Option A) (d : A) (lines : List Line) (line : Line)
    → unwrap_or (option_in give (lines ++ line ∷ [])) d ≡ unwrap_or (give (reading_after lines line.1)) (unwrap_or (option_in give lines) d)
value_push give d lines line =
    ap (λ o. unwrap_or o d) (option_push give lines line) ∙ unwrap_either (give (reading_after lines line.1)) (option_in give lines) d

given_push : {A : Type 0} (give : Result ReadingView ℕ → Option A) (lines : List Line) (line : Line)
    → is_some (option_in give (lines ++ line ∷ [])) ≡ is_some (give (reading_after lines line.1)) || is_some (option_in give lines)
given_push give lines line = ap is_some (option_push give lines line) ∙ some_either (give (reading_after lines line.1)) (option_in give lines)

line_push : (d : ℕ) (lines : List Line) (line : Line)
    → unwrap_or (job_line_in (lines ++ line ∷ [])) d ≡ unwrap_or (job_line_from line.0 (reading_after lines line.1)) (unwrap_or (job_line_in lines) d)
line_push d lines line =
    let entries_before : List ℕ = entries (λ before (l : Line). job_line_from l.0 (reading_after before l.1)) [] lines in
    let last : job_line_in (lines ++ line ∷ []) ≡ option_or (job_line_from line.0 (reading_after lines line.1)) (job_line_in lines) =
    ap last_of (entries_push (λ before (l : Line). job_line_from l.0 (reading_after before l.1)) [] lines line)
    ∙ last_with_entry entries_before (job_line_from line.0 (reading_after lines line.1)) in
    ap (λ o. unwrap_or o d) last ∙ unwrap_either (job_line_from line.0 (reading_after lines line.1)) (job_line_in lines) d

-- the channel of a line that gives an edge is one of those that there are
tool_channel : (percent : Bool) (read : Result ReadingView ℕ) → IfOk read (IsSoundReading percent) → IfSome (tool_from read) (λ line. (1 ≤ line.0) × (line.0 ≤ CHANNEL_LIMIT))
tool_channel percent (Ok (DeclarationLine (Tool channel edge))) sound = sound.0
tool_channel percent read sound = tt

with_tool_push : (lines : List (ℕ × ToolEdge)) (line : Option (ℕ × ToolEdge)) → IfSome line (λ l. (1 ≤ l.0) × (l.0 ≤ CHANNEL_LIMIT))
    → by_channel (with_entry lines line) ≡ with_tool (by_channel lines) line
with_tool_push lines None known = refl
with_tool_push lines (Some line) known = by_channel_push lines line known.0 known.1

tools_push : (lines : List Line) (line : Line) → tools_in (lines ++ line ∷ []) ≡ with_tool (tools_in lines) (tool_from (reading_after lines line.1))
tools_push lines line =
    ap by_channel (entries_push (λ before (l : Line). tool_from (reading_after before l.1)) [] lines line)
    ∙ with_tool_push (entries (λ before (l : Line). tool_from (reading_after before l.1)) [] lines) (tool_from (reading_after lines line.1))
    (tool_channel (begins_with_percent line.1) (reading_after lines line.1)
    (reading_sound (list_any (λ (l : Line). has_token l.1) lines) (list_any (λ (l : Line). begins_with_percent l.1) lines) (accept_compensation lines) line.1))

-- no block accepts compensation, so that a line does so hangs on no line before it that does
block_accepts_none : (read : Result BlockView ℕ) → says_compensation (block_line read) ≡ false
unfolding block_line
block_accepts_none (Ok block) = refl
block_accepts_none (Err code) = refl

tokens_accept_none : (compensation : Bool) (text : List ℕ) (tokens : Result (List Token) ScanFault) → says_compensation (tokens_reading compensation text tokens) ≡ false
tokens_accept_none compensation text (Ok []) = refl
tokens_accept_none compensation text (Ok (token ∷ tokens)) = block_accepts_none (statement_of (words_of text (token ∷ tokens)) compensation)
tokens_accept_none compensation text (Err (fault.OpenText place)) = refl
tokens_accept_none compensation text (Err _) = refl

text_accepts_none : (compensation : Bool) (text : List ℕ) → says_compensation (block_reading compensation text) ≡ false
unfolding block_reading
text_accepts_none compensation text = tokens_accept_none compensation text (tokens_of text)

accepts_alike : (long block : Bool) (a b other : Result ReadingView ℕ) → says_compensation a ≡ false → says_compensation b ≡ false
    → says_compensation (if long then Err (refusal_code LineTooLong) else if block then a else other) ≡ says_compensation (if long then Err (refusal_code LineTooLong) else if block then b else other)
accepts_alike true block a b other none_a none_b = refl
accepts_alike false true a b other none_a none_b = none_a ∙ sym none_b
accepts_alike false false a b other none_a none_b = refl

compensation_alike : (seen in_programs compensation : Bool) (raw : List ℕ)
    → says_compensation (reading_of seen in_programs false raw) ≡ says_compensation (reading_of seen in_programs compensation raw)
unfolding reading_of
compensation_alike seen in_programs compensation raw =
    accepts_alike (nat_lt 512 (length raw)) (in_programs && not (begins_with_percent raw)) (block_reading false (text_of raw)) (block_reading compensation (text_of raw))
    (with_shown (entry_reading seen (begins_with_percent raw) (before_comment (text_of raw))))
    (text_accepts_none false (text_of raw)) (text_accepts_none compensation (text_of raw))

accept_push : (lines : List Line) (line : Line)
    → accept_compensation (lines ++ line ∷ []) ≡ says_compensation (reading_after lines line.1) || accept_compensation lines
unfolding accept_compensation
accept_push lines line =
    any_after_push (λ before (l : Line). says_compensation (reading_under false before l.1)) [] lines line
    ∙ ap (λ says. says || accept_compensation lines)
    (compensation_alike (list_any (λ (l : Line). has_token l.1) lines) (list_any (λ (l : Line). begins_with_percent l.1) lines) (accept_compensation lines) line.1)

-- the blocks of a program go on where no header follows
abbrev extended : List (List ℕ × ProgramView) → ℕ → Result ReadingView ℕ → List (ℕ × BlockView) → List (ℕ × BlockView)
extended [] number reading blocks = with_entry blocks (block_from number reading)
extended (program ∷ programs) number reading blocks = blocks

one_block : (number : ℕ) (reading : Result ReadingView ℕ) → until_header (name_from reading) (block_from number reading) [] ≡ with_entry [] (block_from number reading)
one_block number (Ok (Header name)) = refl
one_block number (Ok (BlockLine block)) = refl
one_block number reading = refl

cons_extended : (first : Option (ℕ × BlockView)) (programs : List (List ℕ × ProgramView)) (number : ℕ) (reading : Result ReadingView ℕ) (blocks : List (ℕ × BlockView))
    → cons_option first (extended programs number reading blocks) ≡ extended programs number reading (cons_option first blocks)
cons_extended first [] number reading blocks = cons_with_entry first blocks (block_from number reading)
cons_extended first (program ∷ programs) number reading blocks = refl

block_after : (name : Option (List ℕ)) (first : Option (ℕ × BlockView)) (program : ProgramView) (programs : List (List ℕ × ProgramView)) (number : ℕ) (reading : Result ReadingView ℕ) (blocks : List (ℕ × BlockView))
    → until_header name first (extended programs number reading blocks) ≡ extended (with_program name program programs) number reading (until_header name first blocks)
block_after None first program programs number reading blocks = cons_extended first programs number reading blocks
block_after (Some name) first program programs number reading blocks = refl

blocks_push : (before lines : List Line) (line : Line)
    → blocks_in before (lines ++ line ∷ []) ≡ extended (programs_in before lines) line.0 (reading_after (before ++ lines) line.1) (blocks_in before lines)
blocks_push before [] line = one_block line.0 (reading_after before line.1) ∙ ap (λ b. with_entry [] (block_from line.0 (reading_after b line.1))) (sym (append-nil before))
blocks_push before (next ∷ lines) line =
    ap (until_header (name_from (reading_after before next.1)) (block_from next.0 (reading_after before next.1))) (blocks_push (before ++ next ∷ []) lines line)
    ∙ block_after (name_from (reading_after before next.1)) (block_from next.0 (reading_after before next.1))
    (program_of next.0 (blocks_in (before ++ next ∷ []) lines)) (programs_in (before ++ next ∷ []) lines)
    line.0 (reading_after ((before ++ next ∷ []) ++ lines) line.1) (blocks_in (before ++ next ∷ []) lines)
    ∙ ap (λ b. extended (programs_in before (next ∷ lines)) line.0 (reading_after b line.1) (blocks_in before (next ∷ lines))) (append_assoc before (next ∷ []) lines)

-- the programs of lines with one more
abbrev grown : List (List ℕ × ProgramView) → ℕ → Result ReadingView ℕ → List (List ℕ × ProgramView)
grown programs number reading = with_header (with_block_of programs (block_from number reading)) number (name_from reading)

one_program : (number : ℕ) (reading : Result ReadingView ℕ) → with_program (name_from reading) (program_of number []) [] ≡ grown [] number reading
one_program number (Ok (Header name)) = refl
one_program number (Ok (BlockLine block)) = refl
one_program number reading = refl

grown_after : (name : List ℕ) (header : ℕ) (blocks : List (ℕ × BlockView)) (programs : List (List ℕ × ProgramView)) (number : ℕ) (reading : Result ReadingView ℕ)
    → (name, program_of header (extended programs number reading blocks)) ∷ grown programs number reading
    ≡ grown ((name, program_of header blocks) ∷ programs) number reading
grown_after name header blocks [] number (Ok (Header other)) = refl
grown_after name header blocks [] number (Ok (BlockLine block)) = refl
grown_after name header blocks [] number reading = refl
grown_after name header blocks (program ∷ programs) number (Ok (Header other)) = refl
grown_after name header blocks (program ∷ programs) number (Ok (BlockLine block)) = refl
grown_after name header blocks (program ∷ programs) number reading = refl

program_after : (name : Option (List ℕ)) (header : ℕ) (blocks : List (ℕ × BlockView)) (programs : List (List ℕ × ProgramView)) (number : ℕ) (reading : Result ReadingView ℕ)
    → with_program name (program_of header (extended programs number reading blocks)) (grown programs number reading)
    ≡ grown (with_program name (program_of header blocks) programs) number reading
program_after None header blocks programs number reading = refl
program_after (Some name) header blocks programs number reading = grown_after name header blocks programs number reading

programs_push : (before lines : List Line) (line : Line)
    → programs_in before (lines ++ line ∷ []) ≡ grown (programs_in before lines) line.0 (reading_after (before ++ lines) line.1)
programs_push before [] line = one_program line.0 (reading_after before line.1) ∙ ap (λ b. grown [] line.0 (reading_after b line.1)) (sym (append-nil before))
programs_push before (next ∷ lines) line =
    ap (λ blocks. with_program (name_from (reading_after before next.1)) (program_of next.0 blocks) (programs_in (before ++ next ∷ []) (lines ++ line ∷ [])))
    (blocks_push (before ++ next ∷ []) lines line)
    ∙ ap (with_program (name_from (reading_after before next.1)) (program_of next.0 (extended (programs_in (before ++ next ∷ []) lines) line.0 (reading_after ((before ++ next ∷ []) ++ lines) line.1) (blocks_in (before ++ next ∷ []) lines))))
    (programs_push (before ++ next ∷ []) lines line)
    ∙ program_after (name_from (reading_after before next.1)) next.0 (blocks_in (before ++ next ∷ []) lines) (programs_in (before ++ next ∷ []) lines)
    line.0 (reading_after ((before ++ next ∷ []) ++ lines) line.1)
    ∙ ap (λ b. grown (programs_in before (next ∷ lines)) line.0 (reading_after b line.1)) (append_assoc before (next ∷ []) lines)

pub told-push : (lines : List Line) (line : Line) → facts_of (lines ++ line ∷ []) ≡ tell (facts_of lines) line
unfolding facts_of tell with_line
told-push lines line =
    rw (
      any_push (λ (l : Line). has_token l.1) lines line,
      any_push (λ (l : Line). begins_with_percent l.1) lines line,
      line_push nothing_told.line lines line,
      entries_push (λ before (l : Line). channel_from l.0 (reading_after before l.1)) [] lines line,
      entries_push (λ before (l : Line). axis_from l.0 (reading_after before l.1)) [] lines line,
      entries_push (λ before (l : Line). geo_from (axes_in before) l.0 (reading_after before l.1)) [] lines line,
      entries_push (λ before (l : Line). offset_from l.0 (reading_after before l.1)) [] lines line,
      entries_push (λ before (l : Line). zone_from (axes_in before) l.0 (reading_after before l.1)) [] lines line,
      given_push margin_from lines line,
      given_push depth_from lines line,
      given_push budget_from lines line,
      value_push margin_from nothing_told.margin lines line,
      value_push depth_from nothing_told.depth lines line,
      value_push budget_from nothing_told.budget lines line,
      accept_push lines line,
      tools_push lines line,
      any_after_push (λ before (l : Line). says_skip (reading_after before l.1)) [] lines line,
      programs_push [] lines line,
    )
    refl

-- the first line that is refused, and the run that stops there
step : (refused : Option Refusal) (now : Told) (more : Option Refusal) (rest : Result Told Refusal) (job : JobView)
    → answer (option_or more (end_trial now)) job ≡ finish rest
    → answer (option_or (option_or refused more) (end_trial now)) job ≡ finish (unless_refused refused rest)
unfolding finish
step None now more rest job same = same
step (Some refused) now more rest job same = refl

read_lines_is : (before lines : List Line)
    → answer (option_or (first_trial before lines) (end_trial (facts_of (before ++ lines)))) (facts_of (before ++ lines)).job ≡ finish (run (facts_of before) lines)
unfolding finish
read_lines_is before [] = rw (append-nil before) refl
read_lines_is before (line ∷ lines) =
    let following : answer (option_or (first_trial (before ++ line ∷ []) lines) (end_trial (facts_of (before ++ line ∷ lines)))) (facts_of (before ++ line ∷ lines)).job
    ≡ finish (run (tell (facts_of before) line) lines) =
    ap (λ all. answer (option_or (first_trial (before ++ line ∷ []) lines) (end_trial (facts_of all))) (facts_of all).job) (sym (append_assoc before (line ∷ []) lines))
    ∙ read_lines_is (before ++ line ∷ []) lines
    ∙ ap (λ now. finish (run now lines)) (told-push before line) in
    step (trial (facts_of before) line) (facts_of (before ++ line ∷ lines)) (first_trial (before ++ line ∷ []) lines) (run (tell (facts_of before) line) lines) (facts_of (before ++ line ∷ lines)).job following

pub read_of_is : (bytes : List ℕ) → read_of bytes ≡ finish (run (facts_of []) (enumerate_from 1 (raw_lines bytes)))
unfolding read_of
read_of_is bytes = read_lines_is [] (enumerate_from 1 (raw_lines bytes))

-- where a line is refused, so is the input
pub read_refused : (bytes rest raw after : List ℕ) (reader new : Told) (number : ℕ) (fault : JobFault)
    → run reader (enumerate_from (number + 1) (raw_lines rest)) ≡ run (facts_of []) (enumerate_from 1 (raw_lines bytes))
    → raw_lines rest ≡ raw ∷ raw_lines after → Tells reader (number + 1, raw) (Err fault) new → GivesRead (Err fault) (read_of bytes)
unfolding finish
read_refused bytes rest raw after reader new number (Refused refused) same lines tells =
    let here : run reader (enumerate_from (number + 1) (raw_lines rest)) ≡ Err refused = rw (lines, tells) refl in
    read_of_is bytes ∙ ap finish (sym same ∙ here)
read_refused bytes rest raw after reader new number NoMemory same lines tells = tt

-- where no line is left, the input is what is tried at the end
pub read_finished : (bytes rest : List ℕ) (reader : Told) (number : ℕ)
    → run reader (enumerate_from (number + 1) (raw_lines rest)) ≡ run (facts_of []) (enumerate_from 1 (raw_lines bytes))
    → length rest ≡ 0 → read_of bytes ≡ answer (end_trial reader) reader.job
unfolding finish
read_finished bytes [] reader number same empty = read_of_is bytes ∙ ap finish (sym same)
read_finished bytes (byte ∷ rest) reader number same empty = absurd (omega arith)
