-- Where an edge of a tool is put among those of the channels.
use Rattle.std.proofs.Common.{◌≡◌, ◌≢◌, ◌∙◌, ℕ, zero, suc, ◌+◌, ◌<◌, ◌≤◌, Bool, true, false, cond, not, ◌||◌, ◌&&◌, ◌==◌, nat_le, nat_lt, List, [], ◌∷◌, ◌++◌, length, get_or, set, take, drop, position, Some, None, refl, sym, ap, arith, rules}
use Rattle.std.specs.List.{insert, list_any, position_or_len}
use Rattle.std.proofs.lemmas.Bool.{eq-eqb, ne_eqb, or_parts}
use Rattle.std.proofs.lemmas.Bool.Decides.{nat_tests}
use Rattle.std.proofs.lemmas.List.{get_or_default}
use Rattle.std.proofs.lemmas.List.Quantifiers.{position-Some}
use Rattle.tool_offsets.specs.declared.tools.ToolEdge.{ToolEdge}
use Rattle.tape_job.specs.Steps.{with_edge, is_due}

-- tests of the numbers of two channels
is_below : (channel number : ℕ) → nat_le channel number ≡ false → nat_lt number channel ≡ true
is_below channel number due = grind (arith, nat_tests)

not_below : (channel number : ℕ) → nat_le channel number ≡ true → nat_lt number channel ≡ false
not_below channel number due = grind (arith, nat_tests)

same_below : (channel number : ℕ) → number ≡ channel → nat_lt number channel ≡ false
same_below channel number same = grind (arith, nat_tests)

abbrev none_due : ℕ → ℕ × List ToolEdge → List (ℕ × List ToolEdge) → ℕ → Type 0
none_due channel d tools place = (k : ℕ) → k < place → is_due channel (get_or tools k d) ≡ false

passed : (one : ℕ × List ToolEdge) (tools : List (ℕ × List ToolEdge)) (channel : ℕ) (edge : ToolEdge) → nat_lt one.0 channel ≡ true
    → with_edge (one ∷ tools) channel edge ≡ one ∷ with_edge tools channel edge
unfolding with_edge
passed one tools channel edge below = rw below refl

joined : (one : ℕ × List ToolEdge) (tools : List (ℕ × List ToolEdge)) (channel : ℕ) (edge : ToolEdge) → one.0 ≡ channel
    → with_edge (one ∷ tools) channel edge ≡ (one.0, one.1 ++ edge ∷ []) ∷ tools
unfolding with_edge
joined one tools channel edge same = rw (same_below channel one.0 same, eq-eqb one.0 channel same) refl

put : (one : ℕ × List ToolEdge) (tools : List (ℕ × List ToolEdge)) (channel : ℕ) (edge : ToolEdge) → nat_lt one.0 channel ≡ false → one.0 ≢ channel
    → with_edge (one ∷ tools) channel edge ≡ (channel, edge ∷ []) ∷ one ∷ tools
unfolding with_edge
put one tools channel edge above other = rw (above, ne_eqb one.0 channel other) refl

-- the channel has tools at the first place that is due
pub edge_joined : (tools : List (ℕ × List ToolEdge)) (channel : ℕ) (edge : ToolEdge) (place : ℕ) (d : ℕ × List ToolEdge) → place < length tools → none_due channel d tools place
    → (get_or tools place d).0 ≡ channel → set tools place ((get_or tools place d).0, (get_or tools place d).1 ++ edge ∷ []) ≡ with_edge tools channel edge
edge_joined [] channel edge place d within before same = absurd (omega arith)
edge_joined (one ∷ tools) channel edge zero d within before same = sym (joined one tools channel edge same)
edge_joined (one ∷ tools) channel edge (suc place) d within before same =
    ap (λ (more : List (ℕ × List ToolEdge)). one ∷ more) (edge_joined tools channel edge place d (omega arith) (λ k less. before (suc k) (omega arith)) same)
    ∙ sym (passed one tools channel edge (is_below channel one.0 (before 0 (omega arith))))

-- another channel has tools there
pub edge_put : (tools : List (ℕ × List ToolEdge)) (channel : ℕ) (edge : ToolEdge) (place : ℕ) (d : ℕ × List ToolEdge) → place < length tools → none_due channel d tools place
    → is_due channel (get_or tools place d) ≡ true → (get_or tools place d).0 ≢ channel → insert tools place (channel, edge ∷ []) ≡ with_edge tools channel edge
edge_put [] channel edge place d within before due other = absurd (omega arith)
edge_put (one ∷ tools) channel edge zero d within before due other = sym (put one tools channel edge (not_below channel one.0 due) other)
edge_put (one ∷ tools) channel edge (suc place) d within before due other =
    ap (λ (more : List (ℕ × List ToolEdge)). one ∷ more) (edge_put tools channel edge place d (omega arith) (λ k less. before (suc k) (omega arith)) due other)
    ∙ sym (passed one tools channel edge (is_below channel one.0 (before 0 (omega arith))))

-- no place is due
pub edge_last : (tools : List (ℕ × List ToolEdge)) (channel : ℕ) (edge : ToolEdge) → list_any (is_due channel) tools ≡ false → tools ++ (channel, edge ∷ []) ∷ [] ≡ with_edge tools channel edge
unfolding with_edge
edge_last [] channel edge none = refl
edge_last (one ∷ tools) channel edge none =
    let both = or_parts (is_due channel one) (list_any (is_due channel) tools) none in
    ap (λ (more : List (ℕ × List ToolEdge)). one ∷ more) (edge_last tools channel edge both.1) ∙ sym (passed one tools channel edge (is_below channel one.0 both.0))

past_all : {A : Type 0} (p : A → Bool) (xs : List A) → length xs ≤ position_or_len p xs → list_any p xs ≡ false
past_all p [] past = refl
past_all {A} p (x ∷ xs) past = by (p x) refl past (past_all p xs)
  where
    by : (b : Bool) → p x ≡ b → suc (length xs) ≤ cond (not b) (1 + position_or_len p xs) 0 → (length xs ≤ position_or_len p xs → list_any p xs ≡ false)
        → p x || list_any p xs ≡ false
    by true here past rest = absurd (omega arith)
    by false here past rest = rw here (rest (omega arith))

pub none_passes : {A : Type 0} (p : A → Bool) (xs : List A) → position p xs ≡ None → list_any p xs ≡ false
none_passes p xs none = by (nat_lt (position_or_len p xs) (length xs)) refl none
  where
    by : (b : Bool) → nat_lt (position_or_len p xs) (length xs) ≡ b → cond b (Some (position_or_len p xs)) None ≡ None → list_any p xs ≡ false
    by true less none = absurd cc
    by false less none = past_all p xs (grind (arith, nat_tests))

-- what is found at the first place that is due
pub joined_at : (tools slice : List (ℕ × List ToolEdge)) (channel : ℕ) (edge : ToolEdge) (place : ℕ) (seen one : ℕ × List ToolEdge) (edges : List ToolEdge)
    → slice ≡ tools → Some place ≡ position (is_due channel) slice → seen ≡ get_or tools place seen → seen.0 ≡ channel → one ≡ get_or tools place one → edges ≡ one.1 ++ edge ∷ []
    → set tools place (one.0, edges) ≡ with_edge tools channel edge
joined_at tools slice channel edge place seen one edges whole at seen_is same is joined =
    let found = position-Some (is_due channel) tools place one (ap (position (is_due channel)) (sym whole) ∙ sym at) in
    let number : (get_or tools place one).0 ≡ channel = ap (λ (entry : ℕ × List ToolEdge). entry.0) (get_or_default tools place one seen found.0 ∙ sym seen_is) ∙ same in
    ap (λ (more : List ToolEdge). set tools place (one.0, more)) joined
    ∙ ap (λ (entry : ℕ × List ToolEdge). set tools place (entry.0, entry.1 ++ edge ∷ [])) is
    ∙ edge_joined tools channel edge place one found.0 found.2 number

pub put_at : (tools slice : List (ℕ × List ToolEdge)) (channel : ℕ) (edge : ToolEdge) (place : ℕ) (seen one : ℕ × List ToolEdge)
    → slice ≡ tools → Some place ≡ position (is_due channel) slice → seen ≡ get_or tools place seen → seen.0 ≢ channel → one ≡ (channel, edge ∷ [])
    → insert tools place one ≡ with_edge tools channel edge
put_at tools slice channel edge place seen one whole at seen_is other is =
    let found = position-Some (is_due channel) tools place seen (ap (position (is_due channel)) (sym whole) ∙ sym at) in
    ap (insert tools place) is
    ∙ edge_put tools channel edge place seen found.0 found.2 found.1 (λ same. other (ap (λ (entry : ℕ × List ToolEdge). entry.0) seen_is ∙ same))

pub last_at : (tools slice : List (ℕ × List ToolEdge)) (channel : ℕ) (edge : ToolEdge) (one : ℕ × List ToolEdge) → slice ≡ tools → None ≡ position (is_due channel) slice
    → one ≡ (channel, edge ∷ []) → tools ++ one ∷ [] ≡ with_edge tools channel edge
last_at tools slice channel edge one whole none is =
    ap (λ (entry : ℕ × List ToolEdge). tools ++ entry ∷ []) is
    ∙ edge_last tools channel edge (none_passes (is_due channel) tools (ap (position (is_due channel)) (sym whole) ∙ sym none))
