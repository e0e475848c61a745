-- One TOOL line more: its edge is put among those of its channel.
use Rattle.std.proofs.Common.{◌≡◌, ◌≢◌, ◌∙◌, ℕ, zero, suc, ◌+◌, ◌<◌, ◌≤◌, Bool, true, false, ◌==◌, nat_lt, if◌then◌else◌, List, [], ◌∷◌, ◌++◌, filter, map, Option, Some, None, IfSome, refl, sym, ap, arith, rules}
use Rattle.std.specs.List.{cons_option, filter_map, range_with_len}
use Rattle.std.proofs.lemmas.Bool.{eqb-true, eqb-false, eq-eqb, ne_eqb}
use Rattle.std.proofs.lemmas.Bool.Decides.{nat_tests}
use Rattle.axis_sets.specs.declared.limits.TheConstants.{CHANNEL_LIMIT}
use Rattle.tool_offsets.specs.declared.tools.ToolEdge.{ToolEdge}
use Rattle.tape_job.specs.Steps.{with_edge}
use Rattle.tape_job.specs.Told.{edges_of, with_tools, by_channel}

-- the channels from a number on, so many of them
abbrev from : List (ℕ × ToolEdge) → ℕ → ℕ → List (ℕ × List ToolEdge)
from lines first count = filter_map (λ channel. with_tools channel (edges_of channel lines)) (range_with_len first count)

edges_same : (lines : List (ℕ × ToolEdge)) (channel : ℕ) (edge : ToolEdge) → edges_of channel (lines ++ (channel, edge) ∷ []) ≡ edges_of channel lines ++ edge ∷ []
edges_same [] channel edge = rw (eq-eqb channel channel refl) refl
edges_same (line ∷ lines) channel edge = by (line.0 == channel) refl (edges_same lines channel edge)
  where
    by : (same : Bool) → (line.0 == channel) ≡ same → edges_of channel (lines ++ (channel, edge) ∷ []) ≡ edges_of channel lines ++ edge ∷ []
        → edges_of channel (line ∷ (lines ++ (channel, edge) ∷ [])) ≡ edges_of channel (line ∷ lines) ++ edge ∷ []
    by true is rest = rw is (ap (λ (more : List ToolEdge). line.1 ∷ more) rest)
    by false is rest = rw is rest

edges_other : (lines : List (ℕ × ToolEdge)) (number channel : ℕ) (edge : ToolEdge) → channel ≢ number → edges_of number (lines ++ (channel, edge) ∷ []) ≡ edges_of number lines
edges_other [] number channel edge other = rw (ne_eqb channel number other) refl
edges_other (line ∷ lines) number channel edge other = by (line.0 == number) refl (edges_other lines number channel edge other)
  where
    by : (same : Bool) → (line.0 == number) ≡ same → edges_of number (lines ++ (channel, edge) ∷ []) ≡ edges_of number lines
        → edges_of number (line ∷ (lines ++ (channel, edge) ∷ [])) ≡ edges_of number (line ∷ lines)
    by true is rest = rw is (ap (λ (more : List ToolEdge). line.1 ∷ more) rest)
    by false is rest = rw is rest

-- no channel that comes has tools of another
others_stay : (lines : List (ℕ × ToolEdge)) (channel : ℕ) (edge : ToolEdge) (first count : ℕ) → channel < first → from (lines ++ (channel, edge) ∷ []) first count ≡ from lines first count
others_stay lines channel edge first zero below = refl
others_stay lines channel edge first (suc count) below =
    let other : channel ≢ first = omega arith in
    ap (λ (edges : List ToolEdge). cons_option (with_tools first edges) (from (lines ++ (channel, edge) ∷ []) (first + 1) count)) (edges_other lines first channel edge other)
    ∙ ap (cons_option (with_tools first (edges_of first lines))) (others_stay lines channel edge (first + 1) count (omega arith))

-- a channel below all that come is put before them
put_first : (lines : List (ℕ × ToolEdge)) (channel : ℕ) (edge : ToolEdge) (first count : ℕ) → channel < first
    → with_edge (from lines first count) channel edge ≡ (channel, edge ∷ []) ∷ from lines first count
unfolding with_edge
put_first lines channel edge first zero below = refl
put_first lines channel edge first (suc count) below = by (edges_of first lines) (put_first lines channel edge (first + 1) count (omega arith))
  where
    by : (edges : List ToolEdge) → with_edge (from lines (first + 1) count) channel edge ≡ (channel, edge ∷ []) ∷ from lines (first + 1) count
        → with_edge (cons_option (with_tools first edges) (from lines (first + 1) count)) channel edge ≡ (channel, edge ∷ []) ∷ cons_option (with_tools first edges) (from lines (first + 1) count)
    by [] rest = rest
    by (one ∷ edges) rest =
        let above : nat_lt first channel ≡ false = grind (arith, nat_tests) in
        let other : first ≢ channel = omega arith in
        rw (above, ne_eqb first channel other) refl

push_from : (lines : List (ℕ × ToolEdge)) (channel : ℕ) (edge : ToolEdge) (first count : ℕ) → first ≤ channel → channel < first + count
    → from (lines ++ (channel, edge) ∷ []) first count ≡ with_edge (from lines first count) channel edge
unfolding with_edge
push_from lines channel edge first zero low high = absurd (omega arith)
push_from lines channel edge first (suc count) low high = by (first == channel) refl (push_from lines channel edge (first + 1) count)
  where
    more : List (ℕ × List ToolEdge)
    more = from lines (first + 1) count

    passed : (edges : List ToolEdge) → first < channel → with_edge (cons_option (with_tools first edges) more) channel edge ≡ cons_option (with_tools first edges) (with_edge more channel edge)
    passed [] below = refl
    passed (one ∷ edges) below = let less : nat_lt first channel ≡ true = grind (arith, nat_tests) in rw less refl

    joined : (edges : List ToolEdge) → first ≡ channel → with_edge more channel edge ≡ (channel, edge ∷ []) ∷ more
        → with_edge (cons_option (with_tools first edges) more) channel edge ≡ cons_option (with_tools first (edges ++ edge ∷ [])) more
    joined [] same start = start ∙ ap (λ (n : ℕ). (n, edge ∷ []) ∷ more) (sym same)
    joined (one ∷ edges) same start =
        let least : nat_lt first channel ≡ false = grind (arith, nat_tests) in
        rw (least, eq-eqb first channel same) refl

    by : (same : Bool) → (first == channel) ≡ same → (first + 1 ≤ channel → channel < first + 1 + count → from (lines ++ (channel, edge) ∷ []) (first + 1) count ≡ with_edge more channel edge)
        → from (lines ++ (channel, edge) ∷ []) first (suc count) ≡ with_edge (from lines first (suc count)) channel edge
    by true is rest =
        let same : first ≡ channel = eqb-true first channel is in
        ap (λ (edges : List ToolEdge). cons_option (with_tools first edges) (from (lines ++ (channel, edge) ∷ []) (first + 1) count))
        (ap (λ (n : ℕ). edges_of first (lines ++ (n, edge) ∷ [])) (sym same) ∙ edges_same lines first edge)
        ∙ ap (cons_option (with_tools first (edges_of first lines ++ edge ∷ []))) (others_stay lines channel edge (first + 1) count (omega arith))
        ∙ sym (joined (edges_of first lines) same (put_first lines channel edge (first + 1) count (omega arith)))
    by false is rest =
        let other : first ≢ channel = eqb-false first channel is in
        let apart : channel ≢ first = omega (arith, other) in
        ap (λ (edges : List ToolEdge). cons_option (with_tools first edges) (from (lines ++ (channel, edge) ∷ []) (first + 1) count)) (edges_other lines first channel edge apart)
        ∙ ap (cons_option (with_tools first (edges_of first lines))) (rest (omega (arith, other)) (omega arith))
        ∙ sym (passed (edges_of first lines) (omega (arith, other)))

-- where a line gives an edge, its channel is one of those that there are
pub by_channel_push : (lines : List (ℕ × ToolEdge)) (line : ℕ × ToolEdge) → 1 ≤ line.0 → line.0 ≤ CHANNEL_LIMIT
    → by_channel (lines ++ line ∷ []) ≡ with_edge (by_channel lines) line.0 line.1
unfolding by_channel
by_channel_push lines line low high = push_from lines line.0 line.1 1 CHANNEL_LIMIT low (omega arith)
