-- A copy is made line by line.
use Rattle.std.proofs.Common.{◌≡◌, ◌∙◌, ℕ, ◌+◌, ◌-◌, ◌<◌, ◌≤◌, Bool, cond, List, [], ◌∷◌, ◌++◌, Option, Some, None, is_some, not, ◌&&◌, count_by, drop, take, length, get_or, refl, sym, ap, append_assoc, append-nil, arith}
use Rattle.std.proofs.Math.Seq.{take-length}
use Rattle.std.proofs.lemmas.List.{drop_more, length-drop}
use Rattle.std.proofs.lemmas.List.Sums.{sum_by-cons}
use Rattle.std.specs.List.{flat_map, zip}
use Rattle.explain_ready.specs.Copies.{CodedLine, IsFinished, IsReady, coded_lines, copied_line, counts_with, is_marked, stays_refused}
use Rattle.explain_ready.specs.Marking.{mark_place, marked}
use Rattle.explain_ready.specs.declared.copying.Counts.{Counts}
use Rattle.explain_ready.specs.declared.copying.Ready.{Ready}
use Rattle.tape_job.specs.Lines.{IsFirstLine, raw_lines}

-- what follows the first line, as a slice has it
pub left_over : (n : ℕ) (rest : List ℕ) → take (length rest - n) (drop n rest) ≡ drop n rest
left_over n rest = rw (sym (length-drop n rest)) (take-length (drop n rest))

-- the lines that are left, by the first of them
pub first_of : (codes : List (Option ℕ)) (i : ℕ) (d : Option ℕ) (rest more : List ℕ) (n : ℕ) → i < length codes → IsFirstLine rest n → more ≡ drop n rest
    → zip (drop i codes) (raw_lines rest) ≡ (get_or codes i d, take n rest) ∷ zip (drop (i + 1) codes) (raw_lines more)
first_of codes i d rest more n within first same =
    ap (λ cs. zip cs (raw_lines rest)) (drop_more codes i d within) ∙ ap (zip (get_or codes i d ∷ drop (i + 1) codes)) (first.lines ∙ ap (λ bytes. take n rest ∷ raw_lines bytes) (sym same))

-- no line is left
pub none_left : (codes : List (Option ℕ)) (rest : List ℕ) → length rest ≡ 0 → zip codes (raw_lines rest) ≡ []
none_left [] [] empty = refl
none_left (code ∷ codes) [] empty = refl
none_left codes (byte ∷ rest) empty = absurd (omega (arith, empty))

-- the text with one line more
pub text_step : (text new : List ℕ) (code place : Option ℕ) (raw : List ℕ) (lines all : List CodedLine) → all ≡ (code, raw) ∷ lines → place ≡ mark_place code raw
    → new ≡ text ++ marked place raw → new ++ flat_map copied_line lines ≡ text ++ flat_map copied_line all
text_step text new code place raw lines all is at added = rw (is, added, at) (append_assoc text (copied_line (code, raw)) (flat_map copied_line lines))

-- the counts with one line more
pub left_step : (counts new : Counts) (code place : Option ℕ) (raw : List ℕ) (lines all : List CodedLine) → all ≡ (code, raw) ∷ lines → place ≡ mark_place code raw
    → new ≡ counts_with counts place code → new.left_out + count_by is_marked lines ≡ counts.left_out + count_by is_marked all
left_step counts new code place raw lines all is at made =
    rw (is, made, at)
    (by (mark_place code raw) code ∙ ap (λ n. counts.left_out + n) (sym (sum_by-cons (λ (other : CodedLine). cond (is_marked other) 1 0) (code, raw) lines)))
  where
    by : (place code : Option ℕ) → (counts_with counts place code).left_out + count_by is_marked lines ≡ counts.left_out + (cond (is_some place) 1 0 + count_by is_marked lines)
    by None None = omega arith
    by (Some place) None = omega arith
    by None (Some code) = omega arith
    by (Some place) (Some code) = omega arith

pub stays_step : (counts new : Counts) (code place : Option ℕ) (raw : List ℕ) (lines all : List CodedLine) → all ≡ (code, raw) ∷ lines → place ≡ mark_place code raw
    → new ≡ counts_with counts place code → new.refused + count_by stays_refused lines ≡ counts.refused + count_by stays_refused all
stays_step counts new code place raw lines all is at made =
    rw (is, made, at)
    (by (mark_place code raw) code ∙ ap (λ n. counts.refused + n) (sym (sum_by-cons (λ (other : CodedLine). cond (stays_refused other) 1 0) (code, raw) lines)))
  where
    by : (place code : Option ℕ) → (counts_with counts place code).refused + count_by stays_refused lines
        ≡ counts.refused + (cond (is_some code && not (is_some place)) 1 0 + count_by stays_refused lines)
    by None None = omega arith
    by (Some place) None = omega arith
    by None (Some code) = omega arith
    by (Some place) (Some code) = omega arith

-- one of the two counts is greater by one at most
pub few_step : (counts : Counts) (place code : Option ℕ) → (counts_with counts place code).left_out + (counts_with counts place code).refused ≤ counts.left_out + counts.refused + 1
few_step counts (Some place) code = omega arith
few_step counts None (Some code) = omega arith
few_step counts None None = omega arith

-- there are no more lines than bytes
pub few_more : (counts new : Counts) (place code : Option ℕ) (rest more : List ℕ) (n total : ℕ) → new ≡ counts_with counts place code → IsFirstLine rest n → more ≡ drop n rest
    → counts.left_out + counts.refused + length rest ≤ total → new.left_out + new.refused + length more ≤ total
few_more counts new place code rest more n total made first same below =
    let long = length-drop n rest in
    rw (made, same) (omega (arith, few_step counts place code, first.some, first.within, below, long))

-- the copy is finished where no line is left
pub finishes : (input text : List ℕ) (counts : Counts) (lines : List CodedLine) (ready : Ready) → lines ≡ [] → text ++ flat_map copied_line lines ≡ flat_map copied_line (coded_lines input)
    → counts.left_out + count_by is_marked lines ≡ count_by is_marked (coded_lines input) → counts.refused + count_by stays_refused lines ≡ count_by stays_refused (coded_lines input)
    → IsFinished text counts ready → IsReady input ready.text.items ready.left_out ready.refused
finishes input text counts lines ready none copied left stays done =
    let text_is : text ++ flat_map copied_line lines ≡ text = rw none (append-nil text) in
    let left_is : count_by is_marked lines ≡ 0 = rw none refl in
    let stays_is : count_by stays_refused lines ≡ 0 = rw none refl in
    record {
      copied = done.0 ∙ sym text_is ∙ copied;
      left = omega (arith, done.1, left, left_is);
      stays = omega (arith, done.2, stays, stays_is);
    }

-- how many of the lines pass a test, by the first of them
pub count_step : (p : List ℕ → Bool) (raw : List ℕ) (raws all : List (List ℕ)) → all ≡ raw ∷ raws → count_by p all ≡ cond (p raw) 1 0 + count_by p raws
count_step p raw raws all is = rw is (sum_by-cons (λ other. cond (p other) 1 0) raw raws)
