-- An input that comes in pieces is read as it is whole.
use Rattle.std.proofs.Common.{◌≡◌, ◌∙◌, ℕ, zero, suc, ◌+◌, ◌-◌, ◌<◌, ◌≤◌, ◌==◌, Bool, true, false, not, cond, nat_lt, List, [], ◌∷◌, ◌++◌, length, take, drop, slice_index, Some, Ok, Err, inl, inr, refl, sym, ap, subst, true≢false, append_assoc, append-nil, arith, length-append}
use Rattle.std.specs.Option.{option_or}
use Rattle.std.specs.Str.Lines.{strip_carriage_return}
use Rattle.std.proofs.Math.Seq.{take-append_seam, take-length, drop-length, get_or-append_seam}
use Rattle.std.proofs.lemmas.Bool.{and_parts, and_from, eqb-true}
use Rattle.std.proofs.lemmas.Bool.Decides.{nat_tests}
use Rattle.std.proofs.lemmas.List.{take_all, take-append-drop, get_or-take, get_or_append_left, length-take}
use Rattle.std.proofs.lemmas.List.Folds.{list_all-append}
use Rattle.block_scanner.specs.LineParts.{LinePart, first_of, part_of, line_of, without_end}
use Rattle.job_lines.specs.declared.code.Code.TheVariants.{LineTooLong}
use Rattle.job_types.specs.Job.{JobView}
use Rattle.fault_codes.specs.declared.Refusal.{Refusal}
use Rattle.tape_job.specs.declared.fault.JobFault.{JobFault}
use Rattle.tape_job.specs.declared.fault.JobFault.TheVariants.{Refused, NoMemory}
use Rattle.tape_job.specs.declared.numbered_reader.NumberedReader.{NumberedReader}
use Rattle.tape_job.specs.declared.piece_reader.PieceReader.{PieceReader}
use Rattle.tape_job.specs.Lines.{is_feed, raw_lines, text_of, has_token, begins_with_percent}
use Rattle.tape_job.specs.Pieces.{lacks_feed, AreAlike, run_on, TakesLine, begun_line, HoldsLine, IsReady, outcome, TakesFront, TakesPiece}
use Rattle.tape_job.specs.Read.{end_of_program, line_trial, trial, GivesRead}
use Rattle.tape_job.specs.Reading.{reading_of}
use Rattle.tape_job.specs.Rules.{refusal}
use Rattle.tape_job.specs.Steps.{tell, finish}
use Rattle.tape_job.specs.Told.{Told}
use Rattle.tape_job.proofs.LineLemmas.{is_no, whole_line, only_line, BeginsWith, goes_on, EndsFirst, ends_first, open_first}

-- ---- lines that say the same

-- a line that is too long is refused as such, after the program that it may end
pub long_trial : (told : Told) (number : ℕ) (line : List ℕ) → 512 < length line → trial told (number, line) ≡ option_or (end_of_program told.job line) (Some (refusal LineTooLong number))
unfolding trial line_trial reading_of refusal
long_trial told number line long =
    let is : nat_lt 512 (length line) ≡ true = grind (arith, nat_tests) in
    rw is refl

pub same_end : (job : JobView) (line other : List ℕ) → begins_with_percent line ≡ begins_with_percent other → end_of_program job line ≡ end_of_program job other
unfolding end_of_program
same_end job line other same = rw same refl

alike_by : (line other : List ℕ) → begins_with_percent line ≡ begins_with_percent other → text_of line ≡ text_of other → nat_lt 512 (length line) ≡ nat_lt 512 (length other)
    → AreAlike line other
unfolding trial end_of_program line_trial reading_of has_token tell
alike_by line other percent text long = λ told number. (rw (percent, text, long) refl, rw (percent, text, long) refl)

pub alike_same : (line other : List ℕ) → other ≡ line → AreAlike line other
alike_same line other same = subst (AreAlike line) (sym same) (λ told number. (refl, refl))

-- ---- a line without its line end

not_feed_at : (xs : List ℕ) (i : ℕ) → lacks_feed xs ≡ true → is_feed (slice_index xs i) ≡ false
not_feed_at [] i lacks = refl
not_feed_at (x ∷ xs) zero lacks = is_no (is_feed x) (and_parts (not (is_feed x)) (lacks_feed xs) lacks).0
not_feed_at (x ∷ xs) (suc i) lacks = not_feed_at xs i (and_parts (not (is_feed x)) (lacks_feed xs) lacks).1

open_text : (xs : List ℕ) → lacks_feed xs ≡ true → text_of xs ≡ xs
unfolding text_of
open_text xs lacks = rw (not_feed_at xs (length xs - 1) lacks) refl

open_line_text : (xs : List ℕ) → lacks_feed xs ≡ true → without_end xs ≡ xs
unfolding without_end
open_line_text xs lacks = rw (not_feed_at xs (length xs - 1) lacks) refl

ended_text : (xs : List ℕ) → text_of (xs ++ 10 ∷ []) ≡ strip_carriage_return xs
unfolding text_of
ended_text xs =
    let last : length (xs ++ 10 ∷ []) - 1 ≡ length xs = let long = length-append xs (10 ∷ []) in omega (arith, long) in
    rw (last, get_or-append_seam xs 10 [] 0, take-append_seam xs (10 ∷ [])) refl

ended_line_text : (xs : List ℕ) → without_end (xs ++ 10 ∷ []) ≡ strip_carriage_return xs
unfolding without_end
ended_line_text xs =
    let last : length (xs ++ 10 ∷ []) - 1 ≡ length xs = let long = length-append xs (10 ∷ []) in omega (arith, long) in
    rw (last, get_or-append_seam xs 10 [] 0, take-append_seam xs (10 ∷ [])) refl

-- a line without its carriage return is a front of it
record Strips (xs : List ℕ) : Type 0 where
  lacks : lacks_feed (strip_carriage_return xs) ≡ true
  short : length (strip_carriage_return xs) ≤ length xs

strips : (xs : List ℕ) → lacks_feed xs ≡ true → Strips xs
strips xs lacks = by (slice_index xs (length xs - 1) == 13) refl
  where
    front : lacks_feed (take (length xs - 1) xs) ≡ true
    front = (and_parts (lacks_feed (take (length xs - 1) xs)) (lacks_feed (drop (length xs - 1) xs))
        (sym (list_all-append (λ byte. not (is_feed byte)) (take (length xs - 1) xs) (drop (length xs - 1) xs)) ∙ ap lacks_feed (take-append-drop (length xs - 1) xs) ∙ lacks)).0

    by : (b : Bool) → (slice_index xs (length xs - 1) == 13) ≡ b → Strips xs
    by true is = record { lacks = rw is front; short = rw is (let n = length-take (length xs - 1) xs in omega (arith, n)) }
    by false is = record { lacks = rw is lacks; short = rw is (omega arith) }

begins_as : (xs : List ℕ) → begins_with_percent (xs ++ 10 ∷ []) ≡ begins_with_percent (strip_carriage_return xs)
unfolding begins_with_percent
begins_as [] = refl
begins_as (x ∷ []) = by (x == 13) refl
  where
    by : (b : Bool) → (x == 13) ≡ b → (x == 37) ≡ (slice_index (cond (x == 13) [] (x ∷ [])) 0 == 37)
    by true is = let same : x ≡ 13 = eqb-true x 13 is in rw same refl
    by false is = rw is refl
begins_as (x ∷ y ∷ ys) = by (slice_index (x ∷ y ∷ ys) (length (x ∷ y ∷ ys) - 1) == 13) refl
  where
    by : (b : Bool) → (slice_index (x ∷ y ∷ ys) (length (x ∷ y ∷ ys) - 1) == 13) ≡ b → (x == 37) ≡ (slice_index (strip_carriage_return (x ∷ y ∷ ys)) 0 == 37)
    by true is =
        let more : length (x ∷ y ∷ ys) - 1 ≡ suc (length ys) = omega arith in
        rw (is, more) refl
    by false is = rw is refl

text_alike : (xs : List ℕ) → lacks_feed xs ≡ true → length (xs ++ 10 ∷ []) ≤ 512 → AreAlike (xs ++ 10 ∷ []) (strip_carriage_return xs)
text_alike xs lacks short =
    let stripped = strips xs lacks in
    let text : text_of (xs ++ 10 ∷ []) ≡ text_of (strip_carriage_return xs) = ended_text xs ∙ sym (open_text (strip_carriage_return xs) stripped.lacks) in
    let fewer : length (strip_carriage_return xs) ≤ 512 = let long = length-append xs (10 ∷ []) in omega (arith, long, stripped.short) in
    let one : nat_lt 512 (length (xs ++ 10 ∷ [])) ≡ false = grind (arith, nat_tests) in
    let two : nat_lt 512 (length (strip_carriage_return xs)) ≡ false = grind (arith, nat_tests) in
    alike_by (xs ++ 10 ∷ []) (strip_carriage_return xs) (begins_as xs) text (one ∙ sym two)

-- ---- what the cutter holds

pub lacks_begun : (begun : Bool) (part : LinePart) → HoldsLine begun part → lacks_feed (cond begun part.front []) ≡ true
lacks_begun true part holds = holds.1
lacks_begun false part holds = refl

pub part_after : (begun : Bool) (old new : LinePart) (piece : List ℕ) (taken : ℕ × Bool) → HoldsLine begun old
    → ((line : List ℕ) → old ≡ part_of line false → new ≡ part_of (line ++ take taken.0 piece) taken.1)
    → ((line : List ℕ) → old ≡ part_of line true → new ≡ part_of (take taken.0 piece) taken.1)
    → new ≡ part_of (cond begun old.front [] ++ take taken.0 piece) taken.1
part_after true old new piece taken holds on begins = on old.front holds.0
part_after false old new piece taken (inl is) on begins = on [] is
part_after false old new piece taken (inr is) on begins = begins is.0 is.1

-- what is kept of a line that is not too long
kept_whole : (line : List ℕ) (ended : Bool) (part : LinePart) → part ≡ part_of line ended → part.too_long ≡ false → (part.front ≡ line) × (length line ≤ 512)
unfolding part_of
kept_whole line ended part is short =
    let long : nat_lt 512 (length line) ≡ false = sym (ap (λ (p : LinePart). p.too_long) is) ∙ short in
    let few : length line ≤ 512 = grind (arith, nat_tests) in
    (ap (λ (p : LinePart). p.front) is ∙ take_all 512 line few, few)

-- and of one that is
kept_front : (line : List ℕ) (ended : Bool) (part : LinePart) → part ≡ part_of line ended → part.too_long ≡ true → (part.front ≡ take 512 line) × (512 < length line)
unfolding part_of
kept_front line ended part is is_long =
    let long : nat_lt 512 (length line) ≡ true = sym (ap (λ (p : LinePart). p.too_long) is) ∙ is_long in
    (ap (λ (p : LinePart). p.front) is, grind (arith, nat_tests))

shown_whole : (part : LinePart) → part.too_long ≡ false → line_of part ≡ without_end part.front
unfolding line_of
shown_whole part short = rw short refl

shown_front : (part : LinePart) → part.too_long ≡ true → line_of part ≡ part.front
unfolding line_of
shown_front part is_long = rw is_long refl

-- the line whose end was taken is read from the cutter as it is
pub cut_line : (begun piece : List ℕ) (taken : ℕ) (part : LinePart) (shown : List ℕ) → lacks_feed begun ≡ true → EndsFirst taken piece → part ≡ part_of (begun ++ take taken piece) true
    → part.too_long ≡ false → shown ≡ line_of part → AreAlike (begun ++ take taken piece) shown
cut_line begun piece taken part shown lacks ends is short shows =
    let line : begun ++ take taken piece ≡ (begun ++ ends.front) ++ 10 ∷ [] = ap (λ xs. begun ++ xs) ends.line ∙ sym (append_assoc begun ends.front (10 ∷ [])) in
    let kept = kept_whole (begun ++ take taken piece) true part is short in
    let open_ : lacks_feed (begun ++ ends.front) ≡ true = list_all-append (λ byte. not (is_feed byte)) begun ends.front ∙ and_from (lacks_feed begun) (lacks_feed ends.front) lacks ends.lacks in
    let text : shown ≡ strip_carriage_return (begun ++ ends.front) = shows ∙ shown_whole part short ∙ ap without_end (kept.0 ∙ line) ∙ ended_line_text (begun ++ ends.front) in
    let few : length ((begun ++ ends.front) ++ 10 ∷ []) ≤ 512 = subst (λ xs. length xs ≤ 512) line kept.1 in
    subst (λ xs. AreAlike xs shown) (sym line) (subst (AreAlike ((begun ++ ends.front) ++ 10 ∷ [])) (sym text) (text_alike (begun ++ ends.front) open_ few))

-- ---- the front of a piece

front_lines : (begun piece more : List ℕ) (taken : ℕ) → lacks_feed begun ≡ true → EndsFirst taken piece
    → raw_lines (begun ++ (piece ++ more)) ≡ (begun ++ take taken piece) ∷ raw_lines (drop taken piece ++ more)
front_lines begun piece more taken lacks ends =
    let open_ : lacks_feed (begun ++ ends.front) ≡ true = list_all-append (λ byte. not (is_feed byte)) begun ends.front ∙ and_from (lacks_feed begun) (lacks_feed ends.front) lacks ends.lacks in
    let joined : begun ++ (piece ++ more) ≡ (begun ++ ends.front) ++ 10 ∷ (drop taken piece ++ more) =
    ap (λ xs. begun ++ (xs ++ more)) ends.all ∙ ap (λ xs. begun ++ xs) (append_assoc ends.front (10 ∷ drop taken piece) more)
    ∙ sym (append_assoc begun ends.front (10 ∷ (drop taken piece ++ more))) in
    let line : (begun ++ ends.front) ++ 10 ∷ [] ≡ begun ++ take taken piece = append_assoc begun ends.front (10 ∷ []) ∙ ap (λ xs. begun ++ xs) (sym ends.line) in
    ap raw_lines joined ∙ whole_line (begun ++ ends.front) (drop taken piece ++ more) open_ ∙ ap (λ xs. xs ∷ raw_lines (drop taken piece ++ more)) line

-- a line is refused whatever follows
outcome_refused : (old : PieceReader) (bytes line : List ℕ) (rest : List (List ℕ)) (refused : Refusal) (lines : NumberedReader) → raw_lines (begun_line old ++ bytes) ≡ line ∷ rest
    → TakesLine old.lines line (Err (Refused refused)) lines → outcome old bytes ≡ Err refused
unfolding outcome finish
outcome_refused old bytes line rest refused lines is refuses = ap (λ ls. finish (run_on old.lines ls)) is ∙ ap finish (refuses rest)

pub line_fails : (old new : PieceReader) (piece : List ℕ) (taken : ℕ) (fault : JobFault) (lines : NumberedReader) → IsReady old → EndsFirst taken piece
    → TakesLine old.lines (begun_line old ++ take taken piece) (Err fault) lines → TakesFront old piece (Err fault) new
line_fails old new piece taken (Refused refused) lines ready ends refuses = λ more.
    outcome_refused old (piece ++ more) (begun_line old ++ take taken piece) (raw_lines (drop taken piece ++ more)) refused lines
    (front_lines (begun_line old) piece more taken (lacks_begun old.begun old.cutter ready.holds) ends) refuses
line_fails old new piece taken NoMemory lines ready ends refuses = tt

pub line_taken : (old new : PieceReader) (piece : List ℕ) (taken : ℕ) → IsReady old → EndsFirst taken piece → TakesLine old.lines (begun_line old ++ take taken piece) (Ok tt) new.lines
    → HoldsLine false new.cutter → new.begun ≡ false → TakesFront old piece (Ok taken) new
unfolding outcome
line_taken old new piece taken ready ends takes holds none =
    let ready_new : IsReady new = record { in_order = takes.0; holds = rw none holds } in
    let nothing : begun_line new ≡ [] = rw none refl in
    let fewer : new.lines.number ≤ old.lines.number + taken = let one = takes.1 in let some = ends.some in omega (arith, one, some) in (
      ready_new,
      ends.some,
      ends.within,
      fewer,
      λ more.
          ap (λ xs. finish (run_on new.lines (raw_lines (xs ++ (drop taken piece ++ more))))) nothing
          ∙ sym (ap (λ ls. finish (run_on old.lines ls)) (front_lines (begun_line old) piece more taken (lacks_begun old.begun old.cutter ready.holds) ends)
          ∙ ap finish (takes.2 (raw_lines (drop taken piece ++ more)))),
    )

pub line_begun : (old new : PieceReader) (piece : List ℕ) (taken : ℕ) → IsReady old → 0 < length piece → first_of piece ≡ (taken, false)
    → new.cutter ≡ part_of (begun_line old ++ take taken piece) false → new.cutter.too_long ≡ false → new.lines ≡ old.lines → new.begun ≡ true → TakesFront old piece (Ok taken) new
unfolding outcome
line_begun old new piece taken ready some first part short same begun =
    let opens = open_first taken piece first in
    let kept = kept_whole (begun_line old ++ take taken piece) false new.cutter part short in
    let all : take taken piece ≡ piece = ap (λ n. take n piece) opens.0 ∙ take-length piece in
    let rest : drop taken piece ≡ [] = ap (λ n. drop n piece) opens.0 ∙ drop-length piece in
    let line : begun_line new ≡ begun_line old ++ piece = rw begun (kept.0 ∙ ap (λ xs. begun_line old ++ xs) all) in
    let front : new.cutter.front ≡ begun_line old ++ piece = kept.0 ∙ ap (λ xs. begun_line old ++ xs) all in
    let lacks : lacks_feed new.cutter.front ≡ true =
    ap lacks_feed front ∙ list_all-append (λ byte. not (is_feed byte)) (begun_line old) piece
    ∙ and_from (lacks_feed (begun_line old)) (lacks_feed piece) (lacks_begun old.begun old.cutter ready.holds) opens.1 in
    let number : 0 < length new.cutter.front = let long = ap length front ∙ length-append (begun_line old) piece in omega (arith, long, some) in
    let is : new.cutter ≡ part_of new.cutter.front false = part ∙ ap (λ xs. part_of xs false) (sym kept.0) in
    let holds : HoldsLine new.begun new.cutter = subst (λ b. HoldsLine b new.cutter) (sym begun) (is, lacks, number) in
    let ready_new : IsReady new = record { in_order = rw same ready.in_order; holds = holds } in
    let long : taken ≡ length piece = opens.0 in
    let fewer : new.lines.number ≤ old.lines.number + taken = rw same (omega arith) in (
      ready_new,
      omega (arith, long, some),
      omega (arith, long),
      fewer,
      λ more.
          ap (λ xs. finish (run_on new.lines (raw_lines (begun_line new ++ (xs ++ more))))) rest
          ∙ ap (λ xs. finish (run_on new.lines (raw_lines (xs ++ more)))) line
          ∙ ap (λ xs. finish (run_on new.lines (raw_lines xs))) (append_assoc (begun_line old) piece more)
          ∙ ap (λ ls. finish (run_on ls (raw_lines (begun_line old ++ (piece ++ more))))) same,
    )

-- ---- a line that is too long

-- the first line begins with what was taken of it
taken_begins : (begun piece more : List ℕ) (taken : ℕ) (ended : Bool) → lacks_feed begun ≡ true → 0 < length piece → first_of piece ≡ (taken, ended)
    → BeginsWith (begun ++ take taken piece) (begun ++ (piece ++ more))
taken_begins begun piece more taken true lacks some first =
    let ends = ends_first taken piece first in
    record {
      tail = [];
      rest = raw_lines (drop taken piece ++ more);
      lines = front_lines begun piece more taken lacks ends ∙ ap (λ xs. xs ∷ raw_lines (drop taken piece ++ more)) (sym (append-nil (begun ++ take taken piece)));
    }
taken_begins begun piece more taken false lacks some first =
    let opens = open_first taken piece first in
    let all : take taken piece ≡ piece = ap (λ n. take n piece) opens.0 ∙ take-length piece in
    let lacks_all : lacks_feed (begun ++ piece) ≡ true = list_all-append (λ byte. not (is_feed byte)) begun piece ∙ and_from (lacks_feed begun) (lacks_feed piece) lacks opens.1 in
    let number : 0 < length (begun ++ piece) = let long = length-append begun piece in omega (arith, long, some) in
    subst (λ xs. BeginsWith (begun ++ xs) (begun ++ (piece ++ more))) (sym all)
    (subst (BeginsWith (begun ++ piece)) (append_assoc begun piece more) (by (begun ++ piece) number lacks_all))
  where
    by : (xs : List ℕ) → 0 < length xs → lacks_feed xs ≡ true → BeginsWith xs (xs ++ more)
    by [] number lacks_all = absurd (omega arith)
    by (x ∷ xs) number lacks_all = goes_on x xs more lacks_all

same_percent : (front tail : List ℕ) → 512 < length front → begins_with_percent (front ++ tail) ≡ begins_with_percent (take 512 front)
unfolding begins_with_percent
same_percent front tail long =
    let some : 0 < length front = omega arith in
    ap (λ byte. byte == 37) (get_or_append_left front tail 0 0 some ∙ sym (get_or-take 512 front 0 0 (omega arith)))

pub long_fails : (old new : PieceReader) (piece : List ℕ) (taken : ℕ) (ended : Bool) (part : LinePart) (shown : List ℕ) (fault : JobFault) → IsReady old → 0 < length piece
    → first_of piece ≡ (taken, ended) → part ≡ part_of (begun_line old ++ take taken piece) ended → part.too_long ≡ true → shown ≡ line_of part
    → ((line : List ℕ) → 512 < length line → begins_with_percent line ≡ begins_with_percent shown → TakesLine old.lines line (Err fault) old.lines)
    → TakesFront old piece (Err fault) new
long_fails old new piece taken ended part shown (Refused refused) ready some first is is_long shows refuses = λ more.
    let kept = kept_front (begun_line old ++ take taken piece) ended part is is_long in
    let begins = taken_begins (begun_line old) piece more taken ended (lacks_begun old.begun old.cutter ready.holds) some first in
    let all = length-append (begun_line old ++ take taken piece) begins.tail in
    let shown_is : shown ≡ take 512 (begun_line old ++ take taken piece) = shows ∙ shown_front part is_long ∙ kept.0 in
    let percent : begins_with_percent ((begun_line old ++ take taken piece) ++ begins.tail) ≡ begins_with_percent shown =
    same_percent (begun_line old ++ take taken piece) begins.tail kept.1 ∙ ap begins_with_percent (sym shown_is) in
    outcome_refused old (piece ++ more) ((begun_line old ++ take taken piece) ++ begins.tail) begins.rest refused old.lines begins.lines
    (refuses ((begun_line old ++ take taken piece) ++ begins.tail) (let enough = kept.1 in omega (arith, all, enough)) percent)
long_fails old new piece taken ended part shown NoMemory ready some first is is_long shows refuses = tt

-- ---- the line that lacks its line feed

held_short : (line : List ℕ) (part : LinePart) → part ≡ part_of line false → part.front ≡ line → part.too_long ≡ false
unfolding part_of
held_short line part is same =
    let few : length line ≤ 512 =
    let long = ap length (sym same ∙ ap (λ (p : LinePart). p.front) is) in let most = length-take 512 line in omega (arith, long, most) in
    let tests : nat_lt 512 (length line) ≡ false = grind (arith, nat_tests) in
    ap (λ (p : LinePart). p.too_long) is ∙ tests

pub last_alike : (begun : Bool) (part : LinePart) (shown : List ℕ) → begun ≡ true → HoldsLine begun part → shown ≡ line_of part → AreAlike part.front shown
last_alike true part shown is holds shows =
    alike_same part.front shown (shows ∙ shown_whole part (held_short part.front part holds.0 refl) ∙ open_line_text part.front holds.1)
last_alike false part shown is holds shows = absurd (true≢false (sym is))

only_one : (line : List ℕ) → lacks_feed line ≡ true → 0 < length line → raw_lines (line ++ []) ≡ line ∷ []
only_one [] lacks some = absurd (omega arith)
only_one (x ∷ xs) lacks some = ap raw_lines (append-nil (x ∷ xs)) ∙ only_line x xs lacks

last_lines : (begun : Bool) (part : LinePart) → begun ≡ true → HoldsLine begun part → raw_lines (cond begun part.front [] ++ []) ≡ part.front ∷ []
last_lines true part is holds = only_one part.front holds.1 holds.2
last_lines false part is holds = absurd (true≢false (sym is))

pub last_fails : (pieces : PieceReader) (fault : JobFault) (lines : NumberedReader) → IsReady pieces → pieces.begun ≡ true → TakesLine pieces.lines pieces.cutter.front (Err fault) lines
    → GivesRead (Err fault) (outcome pieces [])
last_fails pieces (Refused refused) lines ready begun refuses = outcome_refused pieces [] pieces.cutter.front [] refused lines (last_lines pieces.begun pieces.cutter begun ready.holds) refuses
last_fails pieces NoMemory lines ready begun refuses = tt

pub last_taken : (pieces : PieceReader) (lines : NumberedReader) → IsReady pieces → pieces.begun ≡ true → TakesLine pieces.lines pieces.cutter.front (Ok tt) lines
    → finish (run_on lines []) ≡ outcome pieces []
unfolding outcome
last_taken pieces lines ready begun takes =
    sym (ap (λ ls. finish (run_on pieces.lines ls)) (last_lines pieces.begun pieces.cutter begun ready.holds) ∙ ap finish (takes.2 []))

pub none_before : (pieces : PieceReader) (xs : List ℕ) → pieces.begun ≡ false → xs ≡ begun_line pieces ++ xs
none_before pieces xs begun = by pieces.begun begun
  where
    by : (b : Bool) → b ≡ false → xs ≡ cond b pieces.cutter.front [] ++ xs
    by true is = absurd (true≢false is)
    by false is = refl

pub none_begun : (pieces : PieceReader) → pieces.begun ≡ false → finish (run_on pieces.lines []) ≡ outcome pieces []
unfolding outcome
none_begun pieces begun = rw begun refl

-- ---- a whole piece

pub piece_fails : (first last new : PieceReader) (piece rest : List ℕ) (fault : JobFault) → ((more : List ℕ) → outcome last (rest ++ more) ≡ outcome first (piece ++ more))
    → TakesFront last rest (Err fault) new → TakesPiece first piece (Err fault) new
piece_fails first last new piece rest (Refused refused) leads refuses = λ more. sym (leads more) ∙ refuses more
piece_fails first last new piece rest NoMemory leads refuses = tt

pub piece_ends : (first last : PieceReader) (piece rest : List ℕ) → IsReady last → last.lines.number + length rest ≤ first.lines.number + length piece
    → ((more : List ℕ) → outcome last (rest ++ more) ≡ outcome first (piece ++ more)) → length rest ≡ 0 → TakesPiece first piece (Ok tt) last
piece_ends first last piece [] ready number leads none = (ready, omega arith, leads)
piece_ends first last piece (x ∷ xs) ready number leads none = absurd (omega arith)
