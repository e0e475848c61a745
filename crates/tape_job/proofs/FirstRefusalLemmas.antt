-- The trial of all lines finds the first that is refused.
use Rattle.std.proofs.Common.{◌≡◌, ◌∙◌, inl, inr, ℕ, List, [], ◌∷◌, ◌++◌, Option, Some, None, subst, refl, ap, append_assoc, append-nil}
use Rattle.std.specs.Option.{option_or}
use Rattle.fault_codes.specs.declared.Refusal.{Refusal}
use Rattle.tape_job.specs.Lines.{Line, numbered_lines}
use Rattle.tape_job.specs.Told.{facts_of}
use Rattle.tape_job.specs.Read.{trial, first_trial, end_trial, answer, read_of}
use Rattle.tape_job.specs.FirstRefusal.{IsReadAs}

neither : {A : Type 0} (a b : Option A) → option_or a b ≡ None → (a ≡ None) × (b ≡ None)
neither None b none = (refl, none)
neither (Some a) b none = absurd cc

-- after the lines before, no line is refused
abbrev NoneRefusedAfter : List Line → List Line → Type 0
NoneRefusedAfter before lines = (front : List Line) (line : Line) (rest : List Line) → lines ≡ front ++ line ∷ rest → trial (facts_of (before ++ front)) line ≡ None

none_after : (before lines : List Line) → first_trial before lines ≡ None → NoneRefusedAfter before lines
none_after before [] none [] line rest all = absurd cc
none_after before [] none (first ∷ front) line rest all = absurd cc
none_after before (next ∷ lines) none [] line rest all =
    let here = neither (trial (facts_of before) next) _ none in
    let same : next ≡ line = cc in
    rw (append-nil before) (subst (λ l. trial (facts_of before) l ≡ None) same here.0)
none_after before (next ∷ lines) none (first ∷ front) line rest all =
    let here = neither (trial (facts_of before) next) _ none in
    let same : next ≡ first = cc in
    let more : lines ≡ front ++ line ∷ rest = cc in
    subst (λ f. trial (facts_of (before ++ f ∷ front)) line ≡ None) same
    (subst (λ b. trial (facts_of b) line ≡ None) (append_assoc before (next ∷ []) front) (none_after (before ++ next ∷ []) lines here.1 front line rest more))

-- a refused line after the lines before, none of which is refused
record RefusedAfter (before lines : List Line) (refused : Refusal) : Type 0 where
  front : List Line
  line : Line
  rest : List Line
  all : lines ≡ front ++ line ∷ rest
  before_it : first_trial before front ≡ None
  here : trial (facts_of (before ++ front)) line ≡ Some refused

refused_after : (before lines : List Line) (refused : Refusal) → first_trial before lines ≡ Some refused → RefusedAfter before lines refused
refused_after before [] refused some = absurd cc
refused_after before (next ∷ lines) refused some = by (trial (facts_of before) next) refl some (refused_after (before ++ next ∷ []) lines refused)
  where
    by : (first : Option Refusal) → trial (facts_of before) next ≡ first → option_or first (first_trial (before ++ next ∷ []) lines) ≡ Some refused
        → (first_trial (before ++ next ∷ []) lines ≡ Some refused → RefusedAfter (before ++ next ∷ []) lines refused) → RefusedAfter before (next ∷ lines) refused
    by None first some later =
        let more = later some in
        record {
          front = next ∷ more.front;
          line = more.line;
          rest = more.rest;
          all = ap (λ ls. next ∷ ls) more.all;
          before_it = rw first more.before_it;
          here = subst (λ b. trial (facts_of b) more.line ≡ Some refused) (append_assoc before (next ∷ []) more.front) more.here;
        }
    by (Some found) first some later = record {
      front = [];
      line = next;
      rest = lines;
      all = refl;
      before_it = refl;
      here = let same : found ≡ refused = cc in rw (append-nil before) (first ∙ ap Some same);
    }

read_by : (lines : List Line) (first end : Option Refusal) → first_trial [] lines ≡ first → end_trial (facts_of lines) ≡ end
    → IsReadAs lines (answer (option_or first end) (facts_of lines).job)
read_by lines None None first end = record { before = none_after [] lines first; here = end; tells = refl }
read_by lines None (Some refused) first end = inr (record { before = none_after [] lines first; here = end })
read_by lines (Some refused) end first at_end =
    let found = refused_after [] lines refused first in
    inl (record {
      front = found.front;
      line = found.line;
      rest = found.rest;
      all = found.all;
      before = none_after [] found.front found.before_it;
      here = found.here;
    })

pub read_as : (input : List ℕ) → IsReadAs (numbered_lines input) (read_of input)
unfolding read_of
read_as input = read_by (numbered_lines input) (first_trial [] (numbered_lines input)) (end_trial (facts_of (numbered_lines input))) refl refl
