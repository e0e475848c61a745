-- In a program whose structures match, each search finds a place.
use Rattle.std.proofs.Common.{◌≡◌, ℕ, zero, suc, ◌+◌, ◌<◌, ◌≤◌, ◌==◌, Bool, true, false, if◌then◌else◌, List, [], ◌∷◌, length, get_or, take, drop, refl, sym, ap, ◌∙◌, subst, arith, Option, None, Result, Ok, Err}
use Rattle.std.specs.Prelude.{fold, IsSome}
use Rattle.std.specs.List.{enumerate_from}
use Rattle.std.proofs.lemmas.List.{take-append-drop, take_more, drop-map, get_or-map, length-map}
use Rattle.std.proofs.lemmas.List.Sums.{fold-append, fold_push}
use Rattle.std.proofs.lemmas.Option.{slice_get-get_or, slice_get_past}
use Rattle.std.proofs.lemmas.Bool.{cases_lt}
use Rattle.std.proofs.Common.{⊎_elim}
use Rattle.nc_blocks.specs.Statement.{BlockView, Statement, Empty, If, Else, EndIf, While, EndWhile, Repeat, Until, Loop, EndLoop, For, EndFor}
use Rattle.nc_control_flow.specs.declared.nest.Opened.{Opened}
use Rattle.nc_control_flow.specs.declared.nest.Structure.{Structure}
use Rattle.nc_control_flow.specs.declared.nest.Structure.TheVariants as structure
use Rattle.nc_control_flow.specs.declared.parts.Part.{Part}
use Rattle.nc_control_flow.specs.declared.parts.Part.TheVariants.{Opens, Branches, Closes, Neither}
use Rattle.nc_control_flow.specs.declared.parts.Sought.TheVariants.{End, Branch, Opener}
use Rattle.nc_control_flow.specs.Parts.{part_of, parts, statement_or_empty, statement_at}
use Rattle.nc_control_flow.specs.Places.{those_after, those_before}
use Rattle.nc_control_flow.specs.Matching.{part_in_search, count, matching}
use Rattle.nc_control_flow.specs.Nest.{ends, nest_with, nest_without, with_else, nest_with_else, nest_after}
use Rattle.nc_control_flow.specs.Nested.{nested_on, nest_of, IsNested, blocks_of}
use Rattle.nc_control_flow.proofs.Matched.{before_at}

-- ---- how many structures are open before and after a part
abbrev pub Steps : Part → ℕ → ℕ → Type 0
Steps Opens before after = after ≡ before + 1
Steps Closes before after = before ≡ after + 1
Steps Branches before after = (before ≡ after) × (0 < before)
Steps Neither before after = before ≡ after

same_list : (xs ys : List Opened) → ◌≡◌ {A = Result (List Opened) ℕ} (Ok xs) (Ok ys) → length xs ≡ length ys
same_list xs ys e = let same : xs ≡ ys = cc in ap length same

opened_by : (full : Bool) (all new : List Opened) (one : Opened) → ◌≡◌ {A = Result (List Opened) ℕ} (if full then Err 26 else Ok (one ∷ all)) (Ok new) → length new ≡ length all + 1
opened_by true all new one e = absurd (cc)
opened_by false all new one e = let same = same_list (one ∷ all) new e in omega arith

open_more : (all new : List Opened) (one : Structure) (line : ℕ) → nest_with all one line ≡ Ok new → length new ≡ length all + 1
open_more all new one line e = opened_by (length all == 16) all new (record { structure = one; line = line }) e

closed_by : (fits : Bool) (others new : List Opened) → ◌≡◌ {A = Result (List Opened) ℕ} (if fits then Ok others else Err 25) (Ok new) → length others + 1 ≡ length new + 1
closed_by true others new e = let same = same_list others new e in omega arith
closed_by false others new e = absurd (cc)

close_one : (one : Structure) (all new : List Opened) → nest_without one all ≡ Ok new → length all ≡ length new + 1
close_one one [] new e = absurd (cc)
close_one one (o ∷ os) new e = let less = closed_by (ends one o.structure) os new e in omega arith

branched_by : (one : Structure) (o : Opened) (os new : List Opened) → with_else one o os ≡ Ok new → length os + 1 ≡ length new
branched_by structure.If o os new e = let same = same_list (record o { structure = structure.IfElse } ∷ os) new e in omega arith
branched_by other o os new e = absurd (cc)

branch_one : (all new : List Opened) → nest_with_else all ≡ Ok new → (length all ≡ length new) × (0 < length all)
branch_one [] new e = absurd (cc)
branch_one (o ∷ os) new e = let same = branched_by o.structure o os new e in (omega arith, omega arith)

pub nest_step : (all new : List Opened) (line : ℕ) (statement : Statement) → nest_after all line statement ≡ Ok new
    → Steps (part_of statement) (length all) (length new)
unfolding nest_after
nest_step all new line (If c) e = open_more all new structure.If line e
nest_step all new line (While c) e = open_more all new structure.While line e
nest_step all new line Repeat e = open_more all new structure.Repeat line e
nest_step all new line Loop e = open_more all new structure.Loop line e
nest_step all new line (For i a b) e = open_more all new structure.For line e
nest_step all new line Else e = branch_one all new e
nest_step all new line EndIf e = close_one structure.If all new e
nest_step all new line EndWhile e = close_one structure.While all new e
nest_step all new line (Until c) e = close_one structure.Repeat all new e
nest_step all new line EndLoop e = close_one structure.Loop all new e
nest_step all new line EndFor e = close_one structure.For all new e
nest_step all new line other e = same_list all new e

-- ---- a search over one part
end_step : (part : Part) (place more before after : ℕ) (onward : ℕ → Option ℕ) → Steps part before after → more < before
    → ((k : ℕ) → k < after → IsSome (onward k)) → IsSome (count (part_in_search End part) place more onward)
end_step Opens place more before after onward s h rest = rest (suc more) (omega arith)
end_step Closes place zero before after onward s h rest = refl
end_step Closes place (suc more) before after onward s h rest = rest more (omega arith)
end_step Branches place more before after onward s h rest = rest more (omega (arith, s.0))
end_step Neither place more before after onward s h rest = rest more (omega arith)

branch_step : (part : Part) (place more before after : ℕ) (onward : ℕ → Option ℕ) → Steps part before after → more < before
    → ((k : ℕ) → k < after → IsSome (onward k)) → IsSome (count (part_in_search Branch part) place more onward)
branch_step Opens place more before after onward s h rest = rest (suc more) (omega arith)
branch_step Closes place zero before after onward s h rest = refl
branch_step Closes place (suc more) before after onward s h rest = rest more (omega arith)
branch_step Branches place zero before after onward s h rest = refl
branch_step Branches place (suc more) before after onward s h rest = rest (suc more) (omega (arith, s.0))
branch_step Neither place more before after onward s h rest = rest more (omega arith)

opener_step : (part : Part) (place more before after : ℕ) (onward : ℕ → Option ℕ) → Steps part before after → more < after
    → ((k : ℕ) → k < before → IsSome (onward k)) → IsSome (count (part_in_search Opener part) place more onward)
opener_step Opens place zero before after onward s h rest = refl
opener_step Opens place (suc more) before after onward s h rest = rest more (omega arith)
opener_step Closes place more before after onward s h rest = rest (suc more) (omega arith)
opener_step Branches place more before after onward s h rest = rest more (omega (arith, s.0))
opener_step Neither place more before after onward s h rest = rest more (omega arith)

-- ---- a fault stays
fault_stays : (code : ℕ) (lines : List (ℕ × BlockView)) → fold nested_on (Err code) lines ≡ Err code
fault_stays code [] = refl
fault_stays code (line ∷ lines) = fault_stays code lines

-- ---- ahead
end_from : (lines : List (ℕ × BlockView)) (line : ℕ × BlockView) (all : List Opened) (r : Result (List Opened) ℕ) (at more : ℕ)
    → nest_after all line.0 line.1.statement ≡ r → fold nested_on r lines ≡ Ok [] → more < length all
    → ((new : List Opened) (k : ℕ) → fold nested_on (Ok new) lines ≡ Ok [] → k < length new → IsSome (matching End k (enumerate_from (at + 1) (parts (blocks_of lines)))))
    → IsSome (matching End more (enumerate_from at (parts (blocks_of (line ∷ lines)))))
end_from lines line all (Err code) at more n f h rest = absurd (let stays = fault_stays code lines in cc)
end_from lines line all (Ok new) at more n f h rest =
    end_step (part_of line.1.statement) at more (length all) (length new) (λ k. matching End k (enumerate_from (at + 1) (parts (blocks_of lines))))
    (nest_step all new line.0 line.1.statement n) h (λ k below. rest new k f below)

end_found : (lines : List (ℕ × BlockView)) (all : List Opened) (at more : ℕ) → fold nested_on (Ok all) lines ≡ Ok [] → more < length all
    → IsSome (matching End more (enumerate_from at (parts (blocks_of lines))))
end_found [] all at more f h = absurd (let same = same_list all [] f in omega arith)
end_found (line ∷ lines) all at more f h =
    end_from lines line all (nest_after all line.0 line.1.statement) at more refl f h (λ new k e below. end_found lines new (at + 1) k e below)

branch_from : (lines : List (ℕ × BlockView)) (line : ℕ × BlockView) (all : List Opened) (r : Result (List Opened) ℕ) (at more : ℕ)
    → nest_after all line.0 line.1.statement ≡ r → fold nested_on r lines ≡ Ok [] → more < length all
    → ((new : List Opened) (k : ℕ) → fold nested_on (Ok new) lines ≡ Ok [] → k < length new → IsSome (matching Branch k (enumerate_from (at + 1) (parts (blocks_of lines)))))
    → IsSome (matching Branch more (enumerate_from at (parts (blocks_of (line ∷ lines)))))
branch_from lines line all (Err code) at more n f h rest = absurd (let stays = fault_stays code lines in cc)
branch_from lines line all (Ok new) at more n f h rest =
    branch_step (part_of line.1.statement) at more (length all) (length new) (λ k. matching Branch k (enumerate_from (at + 1) (parts (blocks_of lines))))
    (nest_step all new line.0 line.1.statement n) h (λ k below. rest new k f below)

branch_found : (lines : List (ℕ × BlockView)) (all : List Opened) (at more : ℕ) → fold nested_on (Ok all) lines ≡ Ok [] → more < length all
    → IsSome (matching Branch more (enumerate_from at (parts (blocks_of lines))))
branch_found [] all at more f h = absurd (let same = same_list all [] f in omega arith)
branch_found (line ∷ lines) all at more f h =
    branch_from lines line all (nest_after all line.0 line.1.statement) at more refl f h (λ new k e below. branch_found lines new (at + 1) k e below)

-- ---- after
nest_front : (lines : List (ℕ × BlockView)) (n : ℕ) (d : ℕ × BlockView) → n < length lines
    → nest_of (take (n + 1) lines) ≡ nested_on (nest_of (take n lines)) (get_or lines n d)
nest_front lines n d h =
    ap (λ ls. nest_of ls) (take_more lines n d h) ∙ fold_push nested_on (Ok []) (take n lines) (get_or lines n d)

part_at : (lines : List (ℕ × BlockView)) (n : ℕ) (d : ℕ × BlockView) (part : Part) → n < length lines
    → get_or (parts (blocks_of lines)) n part ≡ part_of (get_or lines n d).1.statement
part_at lines n d part h =
    let long : length (blocks_of lines) ≡ length lines = length-map lines (λ line. line.1) in
    get_or-map (λ (b : BlockView). part_of b.statement) (blocks_of lines) n d.1 part (omega arith)
    ∙ ap (λ (b : BlockView). part_of b.statement) (get_or-map (λ (line : ℕ × BlockView). line.1) lines n d d.1 h)

opener_from : (lines : List (ℕ × BlockView)) (n more : ℕ) (d : ℕ × BlockView) (r : Result (List Opened) ℕ) (all : List Opened) → n < length lines
    → nest_of (take n lines) ≡ r → nested_on r (get_or lines n d) ≡ Ok all → more < length all
    → ((old : List Opened) (k : ℕ) → nest_of (take n lines) ≡ Ok old → k < length old → IsSome (matching Opener k (those_before n (parts (blocks_of lines)))))
    → IsSome (matching Opener more (those_before (n + 1) (parts (blocks_of lines))))
opener_from lines n more d (Err code) all h before e below rest = absurd (cc)
opener_from lines n more d (Ok old) all h before e below rest =
    let long : length (parts (blocks_of lines)) ≡ length lines =
    length-map (blocks_of lines) (λ b. part_of b.statement) ∙ length-map lines (λ line. line.1) in
    let front : those_before (n + 1) (parts (blocks_of lines)) ≡ (n, part_of (get_or lines n d).1.statement) ∷ those_before n (parts (blocks_of lines)) =
    before_at n (parts (blocks_of lines)) Neither (omega arith)
    ∙ ap (λ part. (n, part) ∷ those_before n (parts (blocks_of lines))) (part_at lines n d Neither h) in
    rw front (opener_step (part_of (get_or lines n d).1.statement) n more (length old) (length all)
    (λ k. matching Opener k (those_before n (parts (blocks_of lines)))) (nest_step old all (get_or lines n d).0 (get_or lines n d).1.statement e) below
    (λ k less. rest old k before less))

opener_found : (lines : List (ℕ × BlockView)) (d : ℕ × BlockView) (n more : ℕ) (all : List Opened) → n ≤ length lines → nest_of (take n lines) ≡ Ok all
    → more < length all → IsSome (matching Opener more (those_before n (parts (blocks_of lines))))
opener_found lines d zero more all h e below = absurd (let same = same_list [] all e in omega arith)
opener_found lines d (suc n) more all h e below =
    let next : n + 1 ≡ suc n = omega arith in
    let P : ℕ → Type 0 = λ k. IsSome (matching Opener more (those_before k (parts (blocks_of lines)))) in
    subst P next (opener_from lines n more d (nest_of (take n lines)) all (omega arith) refl
    (sym (nest_front lines n d (omega arith)) ∙ ap (λ k. nest_of (take k lines)) next ∙ e) below
    (λ old k o less. opener_found lines d n k old (omega arith) o less))

-- ---- a block within the program
said_is : (lines : List (ℕ × BlockView)) (pc : ℕ) (d : ℕ × BlockView) → pc < length lines → statement_at pc (blocks_of lines) ≡ (get_or lines pc d).1.statement
said_is lines pc d h =
    let long : length (blocks_of lines) ≡ length lines = length-map lines (λ line. line.1) in
    ap (λ o. statement_or_empty o) (slice_get-get_or (blocks_of lines) pc d.1 (omega arith))
    ∙ ap (λ (b : BlockView). b.statement) (get_or-map (λ (line : ℕ × BlockView). line.1) lines pc d d.1 h)

said_past : (lines : List (ℕ × BlockView)) (pc : ℕ) → length lines ≤ pc → statement_at pc (blocks_of lines) ≡ Empty
said_past lines pc h =
    let long : length (blocks_of lines) ≡ length lines = length-map lines (λ line. line.1) in
    ap (λ o. statement_or_empty o) (slice_get_past (blocks_of lines) pc (omega arith))

-- ---- the law
past_is_neither : (part : Part) (lines : List (ℕ × BlockView)) (pc : ℕ) → length lines ≤ pc → part_of (statement_at pc (blocks_of lines)) ≡ part → Neither ≡ part
past_is_neither part lines pc h e = sym (ap (λ s. part_of s) (said_past lines pc h)) ∙ e

-- what stands open before and after one line of a program whose structures match
record IsWithin (lines : List (ℕ × BlockView)) (pc : ℕ) : Type 0 where
  old : List Opened
  new : List Opened
  before : nest_of (take pc lines) ≡ Ok old
  after : fold nested_on (Ok new) (drop (pc + 1) lines) ≡ Ok []
  steps : Steps (part_of (statement_at pc (blocks_of lines))) (length old) (length new)

within_new : (lines : List (ℕ × BlockView)) (pc : ℕ) (d : ℕ × BlockView) (old : List Opened) (r : Result (List Opened) ℕ) → pc < length lines
    → nest_of (take pc lines) ≡ Ok old → nest_after old (get_or lines pc d).0 (get_or lines pc d).1.statement ≡ r → fold nested_on r (drop (pc + 1) lines) ≡ Ok []
    → IsWithin lines pc
within_new lines pc d old (Err code) h o n f = absurd (let stays = fault_stays code (drop (pc + 1) lines) in cc)
within_new lines pc d old (Ok new) h o n f = record {
  old = old;
  new = new;
  before = o;
  after = f;
  steps = rw (said_is lines pc d h) (nest_step old new (get_or lines pc d).0 (get_or lines pc d).1.statement n);
}

within_old : (lines : List (ℕ × BlockView)) (pc : ℕ) (d : ℕ × BlockView) (r : Result (List Opened) ℕ) → pc < length lines → nest_of (take pc lines) ≡ r
    → fold nested_on (nested_on r (get_or lines pc d)) (drop (pc + 1) lines) ≡ Ok [] → IsWithin lines pc
within_old lines pc d (Err code) h o f = absurd (let stays = fault_stays code (drop (pc + 1) lines) in cc)
within_old lines pc d (Ok old) h o f = within_new lines pc d old (nest_after old (get_or lines pc d).0 (get_or lines pc d).1.statement) h o refl f

within : (lines : List (ℕ × BlockView)) (pc : ℕ) (d : ℕ × BlockView) → IsNested lines → pc < length lines → IsWithin lines pc
within lines pc d n h =
    within_old lines pc d (nest_of (take pc lines)) h refl
    (ap (λ r. fold nested_on r (drop (pc + 1) lines)) (sym (nest_front lines pc d h))
    ∙ sym (fold-append nested_on (Ok []) (take (pc + 1) lines) (drop (pc + 1) lines))
    ∙ ap (λ ls. nest_of ls) (take-append-drop (pc + 1) lines) ∙ n)

left_from : {B : Type 0} (at n : ℕ) (bs : List B) → drop n (enumerate_from at bs) ≡ enumerate_from (at + n) (drop n bs)
left_from at zero bs = let same : at ≡ at + zero = omega arith in ap (λ k. enumerate_from k bs) same
left_from at (suc n) [] = refl
left_from at (suc n) (b ∷ bs) =
    let same : at + 1 + n ≡ at + suc n = omega arith in left_from (at + 1) n bs ∙ ap (λ k. enumerate_from k (drop n bs)) same

ahead_is : (lines : List (ℕ × BlockView)) (pc : ℕ) → those_after pc (parts (blocks_of lines)) ≡ enumerate_from (pc + 1) (parts (blocks_of (drop (pc + 1) lines)))
ahead_is lines pc =
    let start : 0 + (pc + 1) ≡ pc + 1 = omega arith in
    left_from 0 (pc + 1) (parts (blocks_of lines))
    ∙ ap (λ k. enumerate_from k (drop (pc + 1) (parts (blocks_of lines)))) start
    ∙ ap (λ ps. enumerate_from (pc + 1) ps)
    (drop-map (λ (b : BlockView). part_of b.statement) (pc + 1) (blocks_of lines)
    ∙ ap (λ bs. parts bs) (drop-map (λ (line : ℕ × BlockView). line.1) (pc + 1) lines))

no_line : ℕ × BlockView
no_line = (0, record { skip = false; number = None; label = None; statement = Empty })

end_after : (lines : List (ℕ × BlockView)) (pc : ℕ) (w : IsWithin lines pc) → 0 < length w.new → IsSome (matching End 0 (those_after pc (parts (blocks_of lines))))
end_after lines pc w h = rw (ahead_is lines pc) (end_found (drop (pc + 1) lines) w.new (pc + 1) 0 w.after h)

branch_after : (lines : List (ℕ × BlockView)) (pc : ℕ) (w : IsWithin lines pc) → 0 < length w.new → IsSome (matching Branch 0 (those_after pc (parts (blocks_of lines))))
branch_after lines pc w h = rw (ahead_is lines pc) (branch_found (drop (pc + 1) lines) w.new (pc + 1) 0 w.after h)

opens_more : (part : Part) (before after : ℕ) → part ≡ Opens → Steps part before after → 0 < after
opens_more Opens before after e s = omega arith
opens_more other before after e s = absurd (cc)

branches_within : (part : Part) (before after : ℕ) → part ≡ Branches → Steps part before after → 0 < after
branches_within Branches before after e s = omega (arith, s.0, s.1)
branches_within other before after e s = absurd (cc)

closes_more : (part : Part) (before after : ℕ) → part ≡ Closes → Steps part before after → 0 < before
closes_more Closes before after e s = omega arith
closes_more other before after e s = absurd (cc)

inside : (lines : List (ℕ × BlockView)) (pc : ℕ) (part : Part) → (Neither ≡ part → ⊥) → part_of (statement_at pc (blocks_of lines)) ≡ part → pc < length lines
inside lines pc part ne e = ⊎_elim (λ h. h) (λ h. absurd (ne (past_is_neither part lines pc h e))) (cases_lt pc (length lines))

pub end_of_opener : (lines : List (ℕ × BlockView)) (pc : ℕ) → IsNested lines → part_of (statement_at pc (blocks_of lines)) ≡ Opens
    → IsSome (matching End 0 (those_after pc (parts (blocks_of lines))))
end_of_opener lines pc n e =
    let w = within lines pc no_line n (inside lines pc Opens (λ x. cc) e) in
    end_after lines pc w (opens_more (part_of (statement_at pc (blocks_of lines))) (length w.old) (length w.new) e w.steps)

pub branch_of_opener : (lines : List (ℕ × BlockView)) (pc : ℕ) → IsNested lines → part_of (statement_at pc (blocks_of lines)) ≡ Opens
    → IsSome (matching Branch 0 (those_after pc (parts (blocks_of lines))))
branch_of_opener lines pc n e =
    let w = within lines pc no_line n (inside lines pc Opens (λ x. cc) e) in
    branch_after lines pc w (opens_more (part_of (statement_at pc (blocks_of lines))) (length w.old) (length w.new) e w.steps)

pub end_of_else : (lines : List (ℕ × BlockView)) (pc : ℕ) → IsNested lines → part_of (statement_at pc (blocks_of lines)) ≡ Branches
    → IsSome (matching End 0 (those_after pc (parts (blocks_of lines))))
end_of_else lines pc n e =
    let w = within lines pc no_line n (inside lines pc Branches (λ x. cc) e) in
    end_after lines pc w (branches_within (part_of (statement_at pc (blocks_of lines))) (length w.old) (length w.new) e w.steps)

pub opener_of_end : (lines : List (ℕ × BlockView)) (pc : ℕ) → IsNested lines → part_of (statement_at pc (blocks_of lines)) ≡ Closes
    → IsSome (matching Opener 0 (those_before pc (parts (blocks_of lines))))
opener_of_end lines pc n e =
    let h = inside lines pc Closes (λ x. cc) e in
    let w = within lines pc no_line n h in
    opener_found lines no_line pc 0 w.old (omega arith) w.before
    (closes_more (part_of (statement_at pc (blocks_of lines))) (length w.old) (length w.new) e w.steps)
