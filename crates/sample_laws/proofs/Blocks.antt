-- The lines of the programs: moves, waits and the end, each of which is read as a block.
use Rattle.std.proofs.Common.{◌≡◌, ◌∙◌, ℕ, zero, suc, ◌-◌, ◌*◌, ◌≤◌, pos, neg_ℤ, ◌==◌, not, nat_lt, Bool, true, false, List, [], ◌∷◌, ◌++◌, length, slice_index, None, Ok, codes, refl, ap, arith}
use Rattle.std.specs.List.{list_all}
use Rattle.std.specs.Char.{is_ascii_digit}
use Rattle.std.proofs.Math.Seq.{take-append_seam, get_or-append_seam}
use Rattle.std.proofs.lemmas.Bool.{and_parts, and_from, not-true, not_from_false, le-ltb}
use Rattle.std.proofs.lemmas.List.{length-append}
use Rattle.std.proofs.lemmas.List.Folds.{list_all-append}
use Rattle.block_scanner.specs.Front as fronts
use Rattle.block_scanner.specs.Signs as signs
use Rattle.block_scanner.specs.Tokens.{tokens_from, tokens_of}
use Rattle.block_scanner.specs.WordsView.{WordsView}
use Rattle.micro_units.specs.NumberText.{number_of}
use Rattle.micro_units.specs.Rounding.{half_away}
use Rattle.nc_blocks.specs.declared.blocks.CoordWord.TheVariants.{WaitM}
use Rattle.nc_blocks.specs.Lists as lists
use Rattle.nc_blocks.specs.Marks as marks
use Rattle.nc_blocks.specs.Pieces as pieces
use Rattle.nc_blocks.specs.Reading as values
use Rattle.nc_blocks.specs.AxisNames as axis_names
use Rattle.nc_blocks.specs.Wording as wording
use Rattle.nc_blocks.specs.Statement.{BlockView, WordBlock, End, Coord, Value}
use Rattle.nc_control_flow.specs.Nest.{nest_after}
use Rattle.nc_expressions.specs.Machine as machine
use Rattle.nc_expressions.specs.Parsing as parsing
use Rattle.nc_expressions.specs.Symbols as symbols
use Rattle.nc_expressions.specs.Tree.{Number}
use Rattle.nc_forms.specs.Coordination as coordination
use Rattle.nc_forms.specs.LineEnds as line_ends
use Rattle.nc_syntax.specs.Blocks as blocks
use Rattle.nc_syntax.specs.Bodies as bodies
use Rattle.nc_syntax.specs.Jumps as jumps
use Rattle.tape_job.specs.Lines.{text_of, begins_with_percent}
use Rattle.tape_job.specs.Pieces.{lacks_feed}
use Rattle.tape_job.specs.Reading.{BlockLine, block_line, block_reading, reading_of}
use Rattle.tape_job.proofs.ReadingLemmas.{block_from_scan}
use Rattle.word_tables.specs.LargeNumbers as large
use Rattle.word_tables.specs.Refused as refused
use Rattle.name_tables.specs.RefusedNames.{refused_name}
use Rattle.sample_laws.proofs.Numbers.{IsShort}
use Rattle.sample_laws.proofs.Scans.{digit_apart, first_move, second_move, first_tokens, second_tokens}
use Rattle.sample_laws.proofs.Moves.{move_block, first_words, second_words, first_block, second_block}

-- in a program the line with its line feed is read as a block that opens and closes no structure
pub record IsBlock (line : List ℕ) : Type 0 where
  pub block : BlockView
  pub lacks : lacks_feed line ≡ true
  pub inside : begins_with_percent (line ++ 10 ∷ []) ≡ false
  pub read : reading_of true true false (line ++ 10 ∷ []) ≡ Ok (BlockLine block)
  pub alone : (number : ℕ) → nest_after [] number block.statement ≡ Ok []

-- ---- a line and its line feed

-- the byte is no carriage return
abbrev is_plain : ℕ → Bool
is_plain byte = not (byte == 13)

plain_at : (line : List ℕ) (place : ℕ) → list_all is_plain line ≡ true → (slice_index line place == 13) ≡ false
plain_at [] place plain = refl
plain_at (byte ∷ bytes) zero plain = not-true (byte == 13) (and_parts (is_plain byte) (list_all is_plain bytes) plain).0
plain_at (byte ∷ bytes) (suc place) plain = plain_at bytes place (and_parts (is_plain byte) (list_all is_plain bytes) plain).1

text_is : (line : List ℕ) → list_all is_plain line ≡ true → text_of (line ++ 10 ∷ []) ≡ line
unfolding text_of
text_is line plain =
    let last : length (line ++ 10 ∷ []) - 1 ≡ length line = let long = length-append line (10 ∷ []) in omega (arith, long) in
    rw (last, get_or-append_seam line 10 [] 0, take-append_seam line (10 ∷ []), plain_at line (length line - 1) plain) refl

program_line : (line : List ℕ) → length line ≤ 500 → list_all is_plain line ≡ true → begins_with_percent (line ++ 10 ∷ []) ≡ false
    → reading_of true true false (line ++ 10 ∷ []) ≡ block_reading false line
unfolding reading_of
program_line line few plain inside =
    let short : nat_lt 512 (length (line ++ 10 ∷ [])) ≡ false =
    le-ltb 512 (length (line ++ 10 ∷ [])) (let long = length-append line (10 ∷ []) in omega (arith, long)) in
    rw (short, inside, text_is line plain) refl

read_as : (words : WordsView) (block : BlockView) → tokens_of words.line ≡ Ok words.tokens → (length words.tokens == 0) ≡ false → blocks.statement_of words false ≡ Ok block
    → block_reading false words.line ≡ Ok (BlockLine block)
unfolding block_line
read_as words block scanned some read = block_from_scan false words.line words refl scanned some ∙ ap block_line read

-- ---- moves

digits_pass : (test : ℕ → Bool) → ((byte : ℕ) → is_ascii_digit byte ≡ true → test byte ≡ true) → (text : List ℕ) → list_all is_ascii_digit text ≡ true → list_all test text ≡ true
digits_pass test each [] digits = refl
digits_pass test each (byte ∷ bytes) digits =
    let parts = and_parts (is_ascii_digit byte) (list_all is_ascii_digit bytes) digits in
    and_from (test byte) (list_all test bytes) (each byte parts.0) (digits_pass test each bytes parts.1)

-- no byte of the two numbers, of the blank and of Z between them is another one
tail_lacks : (other : ℕ) (x z : List ℕ) → is_ascii_digit other ≡ false → not (32 == other) ≡ true → not (90 == other) ≡ true → IsShort x → IsShort z
    → list_all (λ byte. not (byte == other)) (x ++ 32 ∷ 90 ∷ z) ≡ true
tail_lacks other x z none blank letter is_x is_z =
    let test = λ (byte : ℕ). not (byte == other) in
    let each = λ (byte : ℕ) (digit : is_ascii_digit byte ≡ true). not_from_false (byte == other) (digit_apart byte other digit none) in
    let after : list_all test (32 ∷ 90 ∷ z) ≡ true =
    and_from (test 32) (list_all test (90 ∷ z)) blank (and_from (test 90) (list_all test z) letter (digits_pass test each z is_z.digits)) in
    list_all-append test x (32 ∷ 90 ∷ z) ∙ and_from (list_all test x) (list_all test (32 ∷ 90 ∷ z)) (digits_pass test each x is_x.digits) after

tail_is_short : (x z : List ℕ) → IsShort x → IsShort z → length (x ++ 32 ∷ 90 ∷ z) ≤ 8
tail_is_short x z is_x is_z =
    let long = length-append x (32 ∷ 90 ∷ z) in
    let few_x = is_x.few in
    let few_z = is_z.few in
    omega (arith, long, few_x, few_z)

pub first_move_is : (x z : List ℕ) → IsShort x → IsShort z → IsBlock (first_move x z)
unfolding begins_with_percent nest_after
first_move_is x z is_x is_z =
    let few = tail_is_short x z is_x is_z in
    record {
      block = move_block is_x.value is_z.value;
      lacks = tail_lacks 10 x z refl refl refl is_x is_z;
      inside = refl;
      read = program_line (first_move x z) (omega (arith, few)) (tail_lacks 13 x z refl refl refl is_x is_z) refl
          ∙ read_as (first_words x z) (move_block is_x.value is_z.value) (first_tokens x z is_x is_z) refl (first_block x z is_x is_z);
      alone = λ number. refl;
    }

pub second_move_is : (x z : List ℕ) → IsShort x → IsShort z → IsBlock (second_move x z)
unfolding begins_with_percent nest_after
second_move_is x z is_x is_z =
    let few = tail_is_short x z is_x is_z in
    record {
      block = move_block (neg_ℤ is_x.value) is_z.value;
      lacks = tail_lacks 10 x z refl refl refl is_x is_z;
      inside = refl;
      read = program_line (second_move x z) (omega (arith, few)) (tail_lacks 13 x z refl refl refl is_x is_z) refl
          ∙ read_as (second_words x z) (move_block (neg_ℤ is_x.value) is_z.value) (second_tokens x z is_x is_z) refl (second_block x z is_x is_z);
      alone = λ number. refl;
    }

-- ---- waits and the end

-- opens what a line of words is read by
scanned_open : Unit {0}
unfolding reading_of begins_with_percent text_of block_reading block_line tokens_from fronts.front fronts.word_front fronts.number_more fronts.sign_front signs.short_sign signs.long_sign number_of half_away
scanned_open = tt

-- opens what its tokens mean
pieces_open : Unit {0}
unfolding pieces.sign_piece pieces.number_piece pieces.plain_piece pieces.piece_of pieces.piece_at pieces.text_at symbols.sign_symbol symbols.value_symbol symbols.name_symbol symbols.number_symbol symbols.kind_symbol symbols.is_exponent symbols.symbol_of symbols.symbols_of
pieces_open = tt

-- opens what its block is found by
block_open : Unit {0}
unfolding blocks.statement_of blocks.block_of blocks.head_of blocks.skip_of blocks.has_number blocks.number_at blocks.label_at refused.refused_kind refused.refused_before refused.refused_g refused_name large.is_large_kind bodies.body_at bodies.named_body bodies.lettered_body bodies.form_of bodies.structure_name bodies.control_name bodies.frame_name bodies.coordination_name bodies.form_body jumps.way_of
block_open = tt

-- opens how a wait is read
wait_open : Unit {0}
unfolding coordination.coordination_form coordination.arguments_form coordination.value_argument_at coordination.separator_at lists.list_at lists.list_from marks.open_at marks.close_at marks.end_at line_ends.statement_alone values.expression_at parsing.expr_at machine.read machine.run machine.step machine.on_operand machine.on_ended machine.on_close machine.on_other machine.finish
wait_open = tt

-- opens how a program end is read
end_open : Unit {0}
unfolding wording.words_form wording.word_item_at wording.word_at wording.lettered_word wording.aux_at wording.numbered_aux wording.has_digits_assign axis_names.has_digits lists.list_at lists.list_from
end_open = tt

-- a wait for marker 1 with this channel
abbrev wait_block : ℕ → BlockView
wait_block channel = record { skip = false; number = None; label = None; statement = Coord WaitM (Value (Number (pos 1000000)) ∷ Value (Number (pos (channel * 1000000))) ∷ []) }

pub first_wait_is : IsBlock (codes "WAITM(1,2)")
unfolding scanned_open pieces_open block_open wait_open nest_after
first_wait_is = record { block = wait_block 2; lacks = refl; inside = refl; read = refl; alone = λ number. refl }

pub second_wait_is : IsBlock (codes "WAITM(1,1)")
unfolding scanned_open pieces_open block_open wait_open nest_after
second_wait_is = record { block = wait_block 1; lacks = refl; inside = refl; read = refl; alone = λ number. refl }

pub end_is : IsBlock (codes "M30")
unfolding scanned_open pieces_open block_open end_open nest_after
end_is = record {
  block = record { skip = false; number = None; label = None; statement = WordBlock (End ∷ []) };
  lacks = refl;
  inside = refl;
  read = refl;
  alone = λ number. refl;
}
