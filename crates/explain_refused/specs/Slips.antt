-- Meaning. The slips that are made most often in refused lines.
use Rattle.std.specs.Prelude.{ℕ, Bool, true, false, not, ◌==◌, ◌&&◌, ◌||◌, List, [], ◌∷◌, if◌then◌else◌, Option, None, Some}
use Rattle.std.specs.List.{list_any}
use Rattle.std.specs.Option.{option_or}
use Rattle.block_scanner.specs.Bytes.{is_blank}
use Rattle.explain_refused.specs.Kinds.{is_some_letter, is_number, is_colon, is_comma, is_parenthesis, depth_after}
use Rattle.explain_refused.specs.Places.{begins_with_percent, is_strange}
use Rattle.explain_refused.specs.declared.line_words.LineWord.{LineWord}
use Rattle.explain_refused.specs.declared.names.NameClass.{NameClass}
use Rattle.explain_refused.specs.declared.names.NameClass.TheVariants as class
use Rattle.explain_refused.specs.declared.slips.FoundSlip.{FoundSlip}
use Rattle.explain_refused.specs.declared.slips.Slip.{Slip}
use Rattle.explain_refused.specs.declared.slips.Slip.TheVariants.{CommaInNumber, CommentInParentheses, ColonFirst, Then, AxisWithoutNumber, BlankBeforePercent, ByteOrderMark, Utf16, LonePercent}
use Rattle.explain_refused.specs.declared.slips.TheConstants.{FORM_CODES}

-- a code of blocks whose form is not readable
abbrev pub is_form_code : ℕ → Bool
is_form_code code = list_any (λ other. other == code) FORM_CODES

abbrev pub found_at : Slip → Option ℕ → Option FoundSlip
found_at slip None = None
found_at slip (Some place) = Some (record { slip = slip; place = place })

-- a byte order mark in UTF-8: 239, 187, 191
abbrev pub has_mark : List ℕ → Bool
has_mark (first ∷ second ∷ third ∷ bytes) = first == 239 && (second == 187 && third == 191)
has_mark bytes = false

-- a text in UTF-16: a byte order mark, 255 and 254 in either order, or a zero byte beside a first letter
abbrev pub is_wide : List ℕ → Bool
is_wide [] = false
is_wide (first ∷ []) = first == 0
is_wide (first ∷ second ∷ bytes) = first == 0 || second == 0 || (first == 255 && second == 254) || (first == 254 && second == 255)

-- a byte that is not allowed, 3, begins a text in another encoding
unfoldable pub encoding_slip : ℕ → List ℕ → Option FoundSlip
encoding_slip code text =
    if not (code == 3) then None
    else if has_mark text then found_at ByteOrderMark (Some 0)
    else if is_wide text then found_at Utf16 (Some 0)
    else None

-- '%', 37, with nothing after it but a comment, which ';', 59, begins
abbrev pub is_lone_percent : List ℕ → Bool
is_lone_percent [] = false
is_lone_percent (percent ∷ []) = percent == 37
is_lone_percent (percent ∷ next ∷ bytes) = percent == 37 && (is_blank next || next == 59)

-- of a line without the white space around it: '%' that begins a line makes it a header, which is no job line, 4, and is allowed, 3; so white space stood before it
unfoldable pub is_moved_percent : ℕ → List ℕ → Bool
is_moved_percent code text = begins_with_percent text && (code == 4 || (code == 3 && not (list_any is_strange text)))

-- a line that begins with '%', at the codes of a moved one and of a bad header, 10
unfoldable pub percent_slip : ℕ → List ℕ → Option FoundSlip
percent_slip code text =
    if is_moved_percent code text then found_at BlankBeforePercent (Some 0)
    else if code == 10 && is_lone_percent text then found_at LonePercent (Some 0)
    else None

-- a ':' begins the line
abbrev pub colon_place : List LineWord → Option ℕ
colon_place [] = None
colon_place (word ∷ words) = if is_colon word.kind then Some word.start else None

abbrev pub is_then : NameClass → Bool
is_then class.Then = true
is_then _ = false

-- the first THEN
abbrev pub then_place : List LineWord → Option ℕ
then_place [] = None
then_place (word ∷ words) = if is_then word.class then Some word.start else then_place words

-- a number, a comma and a number, with nothing between
unfoldable pub is_comma_number : LineWord → LineWord → LineWord → Bool
is_comma_number whole comma decimals =
    is_number whole.kind && is_comma comma.kind && is_number decimals.kind && whole.end == comma.start && comma.end == decimals.start

-- the first such comma outside parentheses and brackets, of which so many are open
abbrev pub comma_place : ℕ → List LineWord → Option ℕ
comma_place depth [] = None
comma_place depth (whole ∷ []) = None
comma_place depth (whole ∷ comma ∷ []) = None
comma_place depth (whole ∷ comma ∷ decimals ∷ words) =
    if depth == 0 && is_comma_number whole comma decimals then Some comma.start else comma_place (depth_after whole.kind depth) (comma ∷ decimals ∷ words)

-- the first '(' that stands after a number, or here at the beginning, where none can stand
abbrev pub comment_place : Bool → List LineWord → Option ℕ
comment_place here [] = None
comment_place here (word ∷ words) = if here && is_parenthesis word.kind then Some word.start else comment_place (is_number word.kind) words

-- a letter that begins these words with no number directly after it
abbrev pub bare_letter : List LineWord → Option ℕ
bare_letter [] = None
bare_letter (letter ∷ []) = if is_some_letter letter.kind then Some letter.start else None
bare_letter (letter ∷ next ∷ words) = if is_some_letter letter.kind && not (letter.end == next.start) then Some letter.start else None

-- after the number of a channel and a slot
abbrev pub geo_place : List LineWord → Option ℕ
geo_place (channel ∷ slot ∷ words) = bare_letter words
geo_place words = None

-- after the first word of a job line of this class
abbrev pub axis_place_in : NameClass → List LineWord → Option ℕ
axis_place_in class.Axis words = bare_letter words
axis_place_in class.Geo words = geo_place words
axis_place_in _ words = None

-- the name of an axis without its number: after AXIS, or as the third word after GEO
abbrev pub axis_place : List LineWord → Option ℕ
axis_place [] = None
axis_place (word ∷ words) = axis_place_in word.class words

-- the first that is found of a ':' at the beginning, a comma between digits and a comment in parentheses
unfoldable pub form_slip : List LineWord → Option FoundSlip
form_slip words =
    option_or (found_at ColonFirst (colon_place words)) (option_or (found_at CommaInNumber (comma_place 0 words)) (found_at CommentInParentheses (comment_place true words)))

-- THEN, where something stands after a form that has ended, 24
unfoldable pub then_slip : ℕ → List LineWord → Option FoundSlip
then_slip code words = if code == 24 then found_at Then (then_place words) else None

-- a comma between digits, or an axis without its number
unfoldable pub range_slip : List LineWord → Option FoundSlip
range_slip words = option_or (found_at CommaInNumber (comma_place 0 words)) (found_at AxisWithoutNumber (axis_place words))

-- THEN; or in a block whose form is not readable, or in a job line with a number out of range, 5
unfoldable pub word_slip : ℕ → List LineWord → Option FoundSlip
word_slip code words =
    option_or (then_slip code words) (if is_form_code code then form_slip words else if code == 5 then range_slip words else None)

-- the slip of a line that is refused with this code: of its text without the white space around it, and of its words
unfoldable pub slip_in : ℕ → List ℕ → List LineWord → Option FoundSlip
slip_in code text words = option_or (encoding_slip code text) (option_or (percent_slip code text) (word_slip code words))
