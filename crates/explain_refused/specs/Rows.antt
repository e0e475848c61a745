-- Meaning. What is told of a refused line.
use Rattle.std.specs.Prelude.{ℕ, List, Option}
use Rattle.std.specs.Option.{option_or, option_map}
use Rattle.explain_lines.specs.Lines.{line_text}
use Rattle.fault_codes.specs.declared.Refusal.{Refusal}
use Rattle.explain_refused.specs.Effects.{effect_by, quiet_place_in}
use Rattle.explain_refused.specs.LineWords.{words_of}
use Rattle.explain_refused.specs.Places.{byte_place}
use Rattle.explain_refused.specs.Slips.{slip_in}
use Rattle.explain_refused.specs.WordPlaces.{word_place}
use Rattle.explain_refused.specs.declared.line_words.LineWord.{LineWord}
use Rattle.explain_refused.specs.declared.rows.RefusedLine.{RefusedLine}
use Rattle.explain_refused.specs.declared.slips.FoundSlip.{FoundSlip}

-- the place of a refusal in the text of its line with these words: of a byte or an open text, of a slip, or of a word
unfoldable pub place_in : ℕ → List ℕ → List LineWord → Option ℕ
place_in code text words = option_or (byte_place code text) (option_or (option_map (λ (found : FoundSlip). found.place) (slip_in code text words)) (word_place code text words))

-- what is told of a refused line with this text
abbrev pub row_of : Refusal → List ℕ → RefusedLine
row_of refusal text = record {
  code = refusal.code;
  line = refusal.line;
  effect = effect_by (quiet_place_in refusal.code (words_of text));
  slip = option_map (λ (found : FoundSlip). found.slip) (slip_in refusal.code text (words_of text));
  place = place_in refusal.code text (words_of text);
}

-- what is told of a line that is refused, by its text without the white space around it
unfoldable pub refused_line : List ℕ → Refusal → RefusedLine
refused_line input refusal = row_of refusal (line_text input refusal.line)
