-- One choice more makes active what is selected.
use Rattle.std.proofs.Common.{◌≡◌, ◌∙◌, ◌==◌, ◌&&◌, ◌||◌, ℕ, Bool, true, false, cond, List, [], ◌∷◌, ◌++◌, find, fold, Option, None, Some, Result, Ok, Err, refl, ap, subst, sym}
use Rattle.std.proofs.lemmas.List.Elements.{filter_map-append}
use Rattle.std.proofs.lemmas.Bool.{and_parts, eqb-true, ne_eqb}
use Rattle.std.proofs.lemmas.List.Sums.{fold-append}
use Rattle.std.specs.List.{filter_map, list_any}
use Rattle.number_laws.proofs.Lists.{found_passes}
use Rattle.tool_offsets.specs.Choices.{Choice, OfTool, OfEdge, tool_of, edge_by, tool_after, edge_after, active_after, choices_with, in_use_or_alarm, with_lengths}
use Rattle.tool_offsets.specs.Tools.{first_edge, has_tool, has_edge, selection, edge_selection, lengths_of}
use Rattle.tool_offsets.specs.declared.tools.Active.{Active}
use Rattle.tool_offsets.specs.declared.tools.ToolEdge.{ToolEdge}

-- the last choice decides on the edge
edge_pushed : (edges : List ToolEdge) (choices : List Choice) (choice : Choice) → edge_after edges (choices ++ choice ∷ []) ≡ edge_by edges choice
unfolding edge_after
edge_pushed edges choices choice = fold-append (λ _ c. edge_by edges c) 0 choices (choice ∷ [])

-- a word T on the tool
tool_pushed : (choices : List Choice) (tool : ℕ) → tool_after (choices ++ OfTool tool ∷ []) ≡ tool
unfolding tool_after
tool_pushed choices tool =
    ap (λ (tools : List ℕ). fold (λ _ t. t) 0 tools) (filter_map-append tool_of choices (OfTool tool ∷ []))
    ∙ fold-append (λ _ t. t) 0 (filter_map tool_of choices) (tool ∷ [])

-- a word D leaves it
tool_left : (choices : List Choice) (edge : ℕ) → tool_after (choices ++ OfEdge edge ∷ []) ≡ tool_after choices
unfolding tool_after
tool_left choices edge =
    ap (λ (tools : List ℕ). fold (λ _ t. t) 0 tools) (filter_map-append tool_of choices (OfEdge edge ∷ []))
    ∙ fold-append (λ _ t. t) 0 (filter_map tool_of choices) []

active_is : (tool edge other_tool other_edge : ℕ) → tool ≡ other_tool → edge ≡ other_edge
    → (let a : Active = record { tool = tool; edge = edge } in a) ≡ record { tool = other_tool; edge = other_edge }
active_is tool edge other_tool other_edge t e = rw (t, e) refl

module _ (edges : List ToolEdge) (choices : List Choice) where
  in_use_pushed : (choice : Choice) (active : Active) → active_after edges (choices ++ choice ∷ []) ≡ active
      → in_use_or_alarm edges (Ok (choices ++ choice ∷ [])) ≡ with_lengths edges (Ok active)
  in_use_pushed choice active is = ap (λ (a : Active). with_lengths edges (Ok a)) is

  first_of_none : (tool : ℕ) → tool == 0 ≡ true → first_edge edges tool ≡ 0
  first_of_none tool is = rw is refl

  -- a word T
  pub tool_selected : (tool : ℕ) → in_use_or_alarm edges (choices_with edges choices (OfTool tool)) ≡ with_lengths edges (selection edges tool)
  unfolding choices_with selection
  tool_selected tool = by_tests (tool == 0) (has_tool edges tool) refl
    where
      by_tests : (none has : Bool) → tool == 0 ≡ none
          → in_use_or_alarm edges (cond (none || has) (Ok (choices ++ OfTool tool ∷ [])) (Err 34))
          ≡ with_lengths edges (cond none (Ok (record { tool = 0; edge = 0 })) (cond has (Ok (record { tool = tool; edge = first_edge edges tool })) (Err 34)))
      by_tests true has is =
          let nothing : tool ≡ 0 = eqb-true tool 0 is in
          in_use_pushed (OfTool tool) (record { tool = 0; edge = 0 })
          (active_is _ _ _ _ (tool_pushed choices tool ∙ nothing) (edge_pushed edges choices (OfTool tool) ∙ first_of_none tool is))
      by_tests false true is =
          in_use_pushed (OfTool tool) (record { tool = tool; edge = first_edge edges tool })
          (active_is _ _ _ _ (tool_pushed choices tool) (edge_pushed edges choices (OfTool tool)))
      by_tests false false is = refl

  -- a word D
  pub edge_selected : (edge : ℕ) → in_use_or_alarm edges (choices_with edges choices (OfEdge edge)) ≡ with_lengths edges (edge_selection edges (active_after edges choices) edge)
  unfolding choices_with edge_selection
  edge_selected edge = by_test (edge == 0 || has_edge edges (tool_after choices) edge)
    where
      by_test : (may : Bool)
          → in_use_or_alarm edges (cond may (Ok (choices ++ OfEdge edge ∷ [])) (Err 34))
          ≡ with_lengths edges (cond may (Ok (record { tool = tool_after choices; edge = edge })) (Err 34))
      by_test true =
          in_use_pushed (OfEdge edge) (record { tool = tool_after choices; edge = edge })
          (active_is _ _ _ _ (tool_left choices edge) (edge_pushed edges choices (OfEdge edge)))
      by_test false = refl

-- what is looked for and not found is nowhere
none_any : {X : Type 0} (test : X → Bool) (xs : List X) → find test xs ≡ None → list_any test xs ≡ false
none_any test [] none = refl
none_any test (x ∷ xs) none = by_test (test x) none (none_any test xs)
  where
    by_test : (b : Bool) → cond b (Some x) (find test xs) ≡ None → (find test xs ≡ None → list_any test xs ≡ false) → b || list_any test xs ≡ false
    by_test true none rest = absurd cc
    by_test false none rest = rest none

pub no_tool : (edges : List ToolEdge) (tool : ℕ) → (tool ≡ 0 → ⊥) → find (λ line. line.tool == tool) edges ≡ None → (tool == 0 || has_tool edges tool) ≡ false
unfolding has_tool
no_tool edges tool not none = rw (ne_eqb tool 0 not) (none_any (λ line. line.tool == tool) edges none)

pub no_edge : (edges : List ToolEdge) (tool edge : ℕ) → (edge ≡ 0 → ⊥) → find (λ line. line.tool == tool && line.edge == edge) edges ≡ None
    → (edge == 0 || has_edge edges tool edge) ≡ false
unfolding has_edge
no_edge edges tool edge not none = rw (ne_eqb edge 0 not) (none_any (λ line. line.tool == tool && line.edge == edge) edges none)

-- what is found has the number
pub its_tool : (edges : List ToolEdge) (tool : ℕ) (line : ToolEdge) → find (λ line. line.tool == tool) edges ≡ Some line → line.tool ≡ tool
its_tool edges tool line found = eqb-true line.tool tool (found_passes (λ line. line.tool == tool) edges line found)

pub its_edge : (edges : List ToolEdge) (tool edge : ℕ) (line : ToolEdge) → find (λ line. line.tool == tool && line.edge == edge) edges ≡ Some line → line.edge ≡ edge
its_edge edges tool edge line found =
    eqb-true line.edge edge (and_parts (line.tool == tool) (line.edge == edge) (found_passes (λ line. line.tool == tool && line.edge == edge) edges line found)).1

-- ---- what is in use after a word

module _ (edges : List ToolEdge) (choices : List Choice) where
  pub tool_used : (tool number : ℕ) (selected : Result Active ℕ) → number ≡ tool → selected ≡ selection edges number
      → with_lengths edges selected ≡ in_use_or_alarm edges (choices_with edges choices (OfTool tool))
  tool_used tool number selected same is = ap (with_lengths edges) (is ∙ ap (selection edges) same) ∙ sym (tool_selected edges choices tool)

  pub tool_refused : (tool : ℕ) → (tool == 0 || has_tool edges tool) ≡ false → Err 34 ≡ in_use_or_alarm edges (choices_with edges choices (OfTool tool))
  unfolding choices_with
  tool_refused tool not = rw not refl

  pub edge_used : (before : Active) (edge number : ℕ) (selected : Result Active ℕ) → before ≡ active_after edges choices → number ≡ edge
      → selected ≡ edge_selection edges before number → with_lengths edges selected ≡ in_use_or_alarm edges (choices_with edges choices (OfEdge edge))
  edge_used before edge number selected was same is =
      ap (with_lengths edges) (is ∙ ap (edge_selection edges before) same ∙ ap (λ (a : Active). edge_selection edges a edge) was) ∙ sym (edge_selected edges choices edge)

  pub edge_refused : (tool edge : ℕ) → tool ≡ tool_after choices → (edge == 0 || has_edge edges tool edge) ≡ false
      → Err 34 ≡ in_use_or_alarm edges (choices_with edges choices (OfEdge edge))
  unfolding choices_with
  edge_refused tool edge was not =
      let here : (edge == 0 || has_edge edges (tool_after choices) edge) ≡ false = subst (λ (t : ℕ). (edge == 0 || has_edge edges t edge) ≡ false) was not in
      rw here refl
