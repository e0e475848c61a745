-- With one edge more that was not given, tools stay sound.
use Rattle.std.proofs.Common.{◌≡◌, ◌≢◌, ◌∙◌, ℕ, zero, suc, ◌+◌, ◌<◌, ◌≤◌, Bool, true, false, true≢false, ◌&&◌, ◌==◌, nat_lt, if◌then◌else◌, List, [], ◌∷◌, ◌++◌, length, get_or, refl, sym, ap, arith, rules}
use Rattle.std.specs.List.{All, AllPairs}
use Rattle.std.proofs.lemmas.Bool.{eqb-true, eqb-false, eq-eqb}
use Rattle.std.proofs.lemmas.Bool.Decides.{nat_tests}
use Rattle.std.proofs.lemmas.List.Elements.{All-nil, All-cons, All-head, All-tail, All-push, All-weaker}
use Rattle.std.proofs.lemmas.List.Kept.{AllPairs-cons}
use Rattle.std.proofs.lemmas.List.Quantifiers.{all_pairs_push}
use Rattle.tool_offsets.specs.declared.tools.ToolEdge.{ToolEdge}
use Rattle.tool_offsets.specs.Tools.{AreApart, AreSound, has_edge as edges_has_edge}
use Rattle.tape_job.specs.Steps.{with_edge}

-- what holds of the tools of each channel, where it holds of those that are new and of those that have one edge more
module _ (P : ℕ × List ToolEdge → Type 0) (channel : ℕ) (line : ToolEdge) where
  pub all_with : (tools : List (ℕ × List ToolEdge)) → ((one : ℕ × List ToolEdge) → P one → one.0 ≡ channel → (one.0 == channel) && edges_has_edge one.1 line.tool line.edge ≡ false → P (one.0, one.1 ++ line ∷ []))
      → P (channel, line ∷ []) → All (λ (one : ℕ × List ToolEdge). (one.0 == channel) && edges_has_edge one.1 line.tool line.edge ≡ false) tools → All P tools → All P (with_edge tools channel line)
  unfolding with_edge
  all_with [] grows new fresh all = All-cons P (channel, line ∷ []) [] new (All-nil P)
  all_with (one ∷ tools) grows new fresh all =
      by (nat_lt one.0 channel) (one.0 == channel) refl (all_with tools grows new (All-tail (λ (l : ℕ × List ToolEdge). (l.0 == channel) && edges_has_edge l.1 line.tool line.edge ≡ false) one tools fresh) (All-tail P one tools all))
    where
      here : P one
      here = All-head P one tools all

      rest : All P tools
      rest = All-tail P one tools all

      by : (below same : Bool) → (one.0 == channel) ≡ same → All P (with_edge tools channel line)
          → All P (if below then one ∷ with_edge tools channel line else if same then (one.0, one.1 ++ line ∷ []) ∷ tools else (channel, line ∷ []) ∷ one ∷ tools)
      by true same is more = All-cons P one (with_edge tools channel line) here more
      by false true is more =
          All-cons P (one.0, one.1 ++ line ∷ []) tools
          (grows one here (eqb-true one.0 channel is) (All-head (λ (l : ℕ × List ToolEdge). (l.0 == channel) && edges_has_edge l.1 line.tool line.edge ≡ false) one tools fresh)) rest
      by false false is more = All-cons P (channel, line ∷ []) (one ∷ tools) new (All-cons P one tools here rest)

-- channels ascend
abbrev pub IsBefore : ℕ × List ToolEdge → ℕ × List ToolEdge → Type 0
IsBefore one other = one.0 < other.0

pairs_head : {A : Type 0} (R : A → A → Type 0) (x : A) (xs : List A) → AllPairs R (x ∷ xs) → All (R x) xs
pairs_head R x xs pairs k d within = pairs 0 (suc k) d (omega arith) (omega arith)

pairs_tail : {A : Type 0} (R : A → A → Type 0) (x : A) (xs : List A) → AllPairs R (x ∷ xs) → AllPairs R xs
pairs_tail R x xs pairs i j d before within = pairs (suc i) (suc j) d (omega arith) (omega arith)

pub ascends_with : (tools : List (ℕ × List ToolEdge)) (channel : ℕ) (line : ToolEdge) → All (λ (one : ℕ × List ToolEdge). (one.0 == channel) && edges_has_edge one.1 line.tool line.edge ≡ false) tools
    → AllPairs IsBefore tools → AllPairs IsBefore (with_edge tools channel line)
unfolding with_edge
ascends_with [] channel line fresh pairs = AllPairs-cons IsBefore (channel, line ∷ []) [] (All-nil (IsBefore (channel, line ∷ []))) pairs
ascends_with (one ∷ tools) channel line fresh pairs =
    by (nat_lt one.0 channel) (one.0 == channel) refl refl (ascends_with tools channel line fresh_rest rest)
  where
    fresh_rest : All (λ (l : ℕ × List ToolEdge). (l.0 == channel) && edges_has_edge l.1 line.tool line.edge ≡ false) tools
    fresh_rest = All-tail (λ (l : ℕ × List ToolEdge). (l.0 == channel) && edges_has_edge l.1 line.tool line.edge ≡ false) one tools fresh

    first : All (IsBefore one) tools
    first = pairs_head IsBefore one tools pairs

    rest : AllPairs IsBefore tools
    rest = pairs_tail IsBefore one tools pairs

    by : (below same : Bool) → nat_lt one.0 channel ≡ below → (one.0 == channel) ≡ same → AllPairs IsBefore (with_edge tools channel line)
        → AllPairs IsBefore (if below then one ∷ with_edge tools channel line else if same then (one.0, one.1 ++ line ∷ []) ∷ tools else (channel, line ∷ []) ∷ one ∷ tools)
    by true same is_below is more =
        let before : one.0 < channel = grind (arith, nat_tests) in
        AllPairs-cons IsBefore one (with_edge tools channel line) (all_with (IsBefore one) channel line tools (λ l holds same_channel new. holds) before fresh_rest first) more
    by false true is_below is more = AllPairs-cons IsBefore (one.0, one.1 ++ line ∷ []) tools first rest
    by false false is_below is more =
        let other : one.0 ≢ channel = eqb-false one.0 channel is in
        let after : channel ≤ one.0 = grind (arith, nat_tests) in
        let before : channel < one.0 = omega (arith, other) in
        AllPairs-cons IsBefore (channel, line ∷ []) (one ∷ tools)
        (All-cons (IsBefore (channel, line ∷ [])) one tools before
        (All-weaker (IsBefore one) (IsBefore (channel, line ∷ [])) (λ l later. omega (arith, before, later)) tools first)) pairs

-- an edge that is not given is apart from all that are
pub sound_push : (edges : List ToolEdge) (line : ToolEdge) → 1 ≤ line.tool → 1 ≤ line.edge → All (λ (l : ToolEdge). l.tool == line.tool && l.edge == line.edge ≡ false) edges
    → AreSound edges → AreSound (edges ++ line ∷ [])
sound_push edges line tool edge fresh sound = record {
  apart = all_pairs_push AreApart edges line sound.apart (λ k d within same also. true≢false (sym (rw (eq-eqb (get_or edges k d).tool line.tool same, eq-eqb (get_or edges k d).edge line.edge also) refl) ∙ fresh k d within));
  tools = All-push (λ (l : ToolEdge). 1 ≤ l.tool) edges line sound.tools tool;
  numbers = All-push (λ (l : ToolEdge). 1 ≤ l.edge) edges line sound.numbers edge;
}

pub sound_none : AreSound []
sound_none = record {
  apart = λ i j d before within. absurd (omega arith);
  tools = All-nil (λ (l : ToolEdge). 1 ≤ l.tool);
  numbers = All-nil (λ (l : ToolEdge). 1 ≤ l.edge);
}
