-- The axes of a block, moved one after another.
use Rattle.axis_sets.specs.declared.limits.TheConstants.{AXIS_LIMIT}
use Rattle.std.proofs.Common.{◌≡◌, ◌≢◌, ◌∙◌, ℕ, ℤ, pos, ◌+◌, ◌<◌, ◌≤◌, ◌==◌, true, cond, List, [], ◌∷◌, ◌++◌, length, length-append, get_or, below_more, Option, None, Some, option_map, unwrap_or, refl, sym, ap, arith}
use Rattle.std.proofs.lemmas.Bool.{eq-eqb, ne_eqb}
use Rattle.std.proofs.lemmas.List.{get_or_default}
use Rattle.std.specs.List.{filter_map, range_with_len}
use Rattle.axis_sets.specs.Positions.{position_of}
use Rattle.block_motions.specs.declared.goals.Goal.{Goal}
use Rattle.axis_sets.specs.Positions.{stands}
use Rattle.block_motions.specs.Motions.{end_from, end_for, is_goal_in_reach, is_in_reach, AreReached}
use Rattle.number_laws.proofs.Lists.{filter_map-range_some, filter_map-range_none}

-- an axis is put at a position, and the others keep theirs
abbrev pub Puts : ℕ → ℤ → List (Option ℤ) → List (Option ℤ) → Type 0
Puts axis end old new = (a : ℕ) → position_of new a ≡ cond (a == axis) (Some end) (position_of old a)

module _ (axis : ℕ) (end : ℤ) (old new : List (Option ℤ)) (puts : Puts axis end old new) where
  put_here : stands new axis ≡ end
  put_here = ap (λ o. unwrap_or o (pos 0)) (puts axis ∙ ap (λ b. cond b (Some end) (position_of old axis)) (eq-eqb axis axis refl))

  put_elsewhere : (a : ℕ) → a ≢ axis → stands new a ≡ stands old a
  put_elsewhere a other = ap (λ o. unwrap_or o (pos 0)) (puts a ∙ ap (λ b. cond b (Some end) (position_of old a)) (ne_eqb a axis other))

-- the axes below a number have moved to their ends, and the others stand where they stood
pub record Moves (goals : List (Option Goal)) (old : List (Option ℤ)) (index : ℕ) (at : List (Option ℤ)) (axes : List (ℕ × ℤ × ℤ)) : Type 0 where
  pub ends : axes ≡ filter_map (λ axis. option_map (λ to. (axis, stands old axis, to)) (end_for (stands old) goals axis)) (range_with_len 0 index)
  pub short : length axes ≤ index
  pub moved : (k : ℕ) → k < index → stands at k ≡ unwrap_or (end_for (stands old) goals k) (stands old k)
  pub kept : (k : ℕ) → index ≤ k → stands at k ≡ stands old k

module _ (goals : List (Option Goal)) (old : List (Option ℤ)) (index : ℕ) (at : List (Option ℤ)) (axes : List (ℕ × ℤ × ℤ)) (moves : Moves goals old index at axes) where
  -- one axis more moves
  pub moves_on : (goal : Goal) (end start : ℤ) (d : Option Goal) (new : List (Option ℤ)) → index < AXIS_LIMIT → length goals ≡ AXIS_LIMIT → get_or goals index d ≡ Some goal → end ≡ end_from start goal
      → start ≡ stands at index → Puts index end at new → Moves goals old (index + 1) new (axes ++ (index, start, end) ∷ [])
  moves_on goal end start d new inside long is to from puts =
      let begin : start ≡ stands old index = from ∙ moves.kept index (omega arith) in
      let ends : end_from (stands old index) goal ≡ end = ap (λ (z : ℤ). end_from z goal) (sym begin) ∙ sym to in
      let here : end_for (stands old) goals index ≡ Some end =
      ap (option_map (end_from (stands old index))) (get_or_default goals index None d (omega arith) ∙ is) ∙ ap (λ (z : ℤ). Some z) ends in
      record {
        ends = filter_map-range_some (λ axis. option_map (λ to. (axis, stands old axis, to)) (end_for (stands old) goals axis)) index (index, start, end) axes moves.ends
            (ap (option_map (λ (to : ℤ). (index, stands old index, to))) here ∙ ap (λ (s : ℤ). Some (index, s, end)) (sym begin));
        short = rw length-append (omega (arith, moves.short));
        moved = below_more (λ k. stands new k ≡ unwrap_or (end_for (stands old) goals k) (stands old k)) index
            (λ k below. let other : k ≢ index = omega arith in put_elsewhere index end at new puts k other ∙ moves.moved k below)
            (put_here index end at new puts ∙ sym (ap (λ o. unwrap_or o (stands old index)) here));
        kept = λ k above. let other : k ≢ index = omega arith in put_elsewhere index end at new puts k other ∙ moves.kept k (omega arith);
      }

  -- one axis more stays
  pub moves_not : (d : Option Goal) → index < AXIS_LIMIT → length goals ≡ AXIS_LIMIT → get_or goals index d ≡ None → Moves goals old (index + 1) at axes
  moves_not d inside long is =
      let here : end_for (stands old) goals index ≡ None = ap (option_map (end_from (stands old index))) (get_or_default goals index None d (omega arith) ∙ is) in
      record {
        ends = filter_map-range_none (λ axis. option_map (λ to. (axis, stands old axis, to)) (end_for (stands old) goals axis)) index axes moves.ends
            (ap (option_map (λ (to : ℤ). (index, stands old index, to))) here);
        short = omega (arith, moves.short);
        moved = below_more (λ k. stands at k ≡ unwrap_or (end_for (stands old) goals k) (stands old k)) index moves.moved
            (rw here (moves.kept index (omega arith)));
        kept = λ k above. moves.kept k (omega arith);
      }

  -- an axis that has not moved yet reaches its goal
  pub reaches : (goal : Goal) (start : ℤ) (d : Option Goal) → index < AXIS_LIMIT → length goals ≡ AXIS_LIMIT → get_or goals index d ≡ Some goal → start ≡ stands at index
      → AreReached (stands old) goals → is_goal_in_reach true start goal ≡ true
  reaches goal start d inside long is from reached =
      let begin : start ≡ stands old index = from ∙ moves.kept index (omega arith) in
      ap (λ (z : ℤ). is_goal_in_reach true z goal) begin
      ∙ sym (ap (is_in_reach true (stands old index)) (get_or_default goals index None d (omega arith) ∙ is))
      ∙ reached index inside
