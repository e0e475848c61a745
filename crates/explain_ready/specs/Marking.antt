-- Meaning. How a line is left out.
use Rattle.std.specs.Prelude.{ℕ, ◌+◌, ◌==◌, Bool, false, List, ◌++◌, if◌then◌else◌, Option, None, Some, length, take, drop, position, nat_le}
use Rattle.std.specs.Str.{bytes_eq}
use Rattle.block_scanner.specs.declared.limits.TheConstants.{LINE_LIMIT}
use Rattle.explain_ready.specs.declared.marking.TheConstants.{LEFT_OUT}
use Rattle.explain_refused.specs.Effects.{quiet_place}
use Rattle.tape_job.specs.Lines.{text_of}

-- the mark has room in the line
abbrev pub has_room : List ℕ → Bool
has_room raw = nat_le (length raw + length LEFT_OUT.now) LINE_LIMIT

-- where the body begins of a line that is refused with this code and moves nothing; none of another line, or where the mark has no room
abbrev pub place_at : ℕ → List ℕ → Option ℕ
place_at code raw = if has_room raw then quiet_place code (text_of raw) else None

-- the same of a line that is refused with a code, or is not
abbrev pub mark_place : Option ℕ → List ℕ → Option ℕ
mark_place None raw = None
mark_place (Some code) raw = place_at code raw

-- a line with the mark at a place: what stands before it is kept, and its body is a comment
abbrev pub marked_at : ℕ → List ℕ → List ℕ
marked_at place raw = take place raw ++ (LEFT_OUT.now ++ drop place raw)

abbrev pub marked : Option ℕ → List ℕ → List ℕ
marked None raw = raw
marked (Some place) raw = marked_at place raw

abbrev pub begins_with_mark : List ℕ → Bool
begins_with_mark text = bytes_eq (take (length LEFT_OUT.now) text) LEFT_OUT.now

-- what stands at a place begins with the mark
abbrev pub has_mark_at : Option ℕ → List ℕ → Bool
has_mark_at None raw = false
has_mark_at (Some place) raw = begins_with_mark (drop place raw)

-- the first ';', 59, of the line begins the mark
unfoldable pub is_left_out : List ℕ → Bool
is_left_out raw = has_mark_at (position (λ byte. byte == 59) raw) raw
