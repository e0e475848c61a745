-- A channel that goes on with a grant.
use Rattle.std.proofs.Common.{◌≡◌, ◌∙◌, ℕ, ℤ, ◌≤◌, nat_lt, Bool, true, false, cond, List, [], fold, map, length, unwrap_or, Option, None, refl, sym, ap, subst, arith}
use Rattle.std.proofs.lemmas.Bool.Decides.{nat_tests}
use Rattle.std.proofs.lemmas.List.{get_or_past}
use Rattle.axis_sets.specs.Positions.{position_of, stands}
use Rattle.axis_sets.specs.declared.limits.TheConstants.{AXIS_LIMIT}
use Rattle.block_effects.specs.Effects.{group_words}
use Rattle.block_effects.specs.Words.{zeros}
use Rattle.frames.specs.Composition.{IsComposed}
use Rattle.frames.specs.Maps.{Map}
use Rattle.frames.specs.declared.Frame.{Frame}
use Rattle.g_groups.specs.Modal.{IsAfter}
use Rattle.sync_types.specs.declared.Grant.{Grant}
use Rattle.channel_machine.specs.Kept.{StateView, Keeps, IsAfterGrant}
use Rattle.channel_machine.specs.Run.{SurroundingsView, Executed, Channel, chain_after, channel_after_grant, edges_in, header_of, words_after}
use Rattle.tool_offsets.specs.Choices.{Choice, in_use_after}
use Rattle.channel_machine.proofs.Pasts.{blocks_of-got, grant-got, on-got, stands-got}

module _ (s : SurroundingsView) (c : Channel) (old new : StateView) (grant : Grant) (keeps : Keeps s c old) (is : IsAfterGrant old grant new) where
  pub goes_on_with : Keeps s (channel_after_grant c grant) new
  goes_on_with =
      let blocks = blocks_of-got c.past grant in
      record {
        levels = ap (λ (k : StateView). k.levels) is.same ∙ keeps.levels;
        count = ap (λ (k : StateView). k.count) is.same ∙ keeps.count ∙ sym (ap length blocks);
        last = ap (λ (k : StateView). k.last) is.same ∙ keeps.last ∙ sym (ap (λ (es : List Executed). fold (λ _ (e : Executed). e.line) (header_of s) es) blocks);
        parameters = ap (λ (k : StateView). k.parameters) is.same ∙ keeps.parameters ∙ sym (ap (λ (es : List Executed). fold (λ _ (e : Executed). e.effect.parameters) zeros es) blocks);
        modal =
            subst (λ (es : List Executed). IsAfter (map (λ (e : Executed). group_words e.block.statement) es) new.modal) (sym blocks)
            (subst (λ (m : List ℕ). IsAfter (words_after c.past) m) (sym (ap (λ (k : StateView). k.modal) is.same)) keeps.modal);
        frame =
            subst (λ (es : List Executed). IsComposed (fold (λ (_ : List Map) (e : Executed). e.effect.chain) [] es) new.frame) (sym blocks)
            (subst (λ (f : Frame). IsComposed (chain_after c.past) f) (sym (ap (λ (k : StateView). k.frame) is.same)) keeps.frame);
        tool =
            ap (λ (k : StateView). k.tool) is.same ∙ keeps.tool
            ∙ sym (ap (λ (es : List Executed). in_use_after (edges_in s) (fold (λ (_ : List Choice) (e : Executed). e.effect.choices) [] es)) blocks);
        at = λ axis. is.at axis ∙ ap (λ (z : ℤ). unwrap_or (position_of grant.at axis) z) (keeps.at axis) ∙ sym (stands-got s c.past grant axis);
        slots = ap (λ (k : StateView). k.slots) is.same ∙ keeps.slots;
        axes = ap (λ (k : StateView). k.axes) is.same ∙ sym (ap (λ (g : Grant). g.axes) (grant-got s c.past grant));
        on = ap (λ (k : StateView). k.on) is.same ∙ sym (on-got s c.past grant);
      }

-- the axes stand where a grant has them, once each has been put there
pub put_all : (granted at old : List (Option ℤ)) (index : ℕ) → length granted ≡ AXIS_LIMIT → AXIS_LIMIT ≤ index
    → ((a : ℕ) → stands at a ≡ unwrap_or (cond (nat_lt a index) (position_of granted a) None) (stands old a))
    → (axis : ℕ) → stands at axis ≡ unwrap_or (position_of granted axis) (stands old axis)
put_all granted at old index long end each axis = by_test (nat_lt axis index) refl
  where
    past : nat_lt axis index ≡ false → AXIS_LIMIT ≤ axis
    past is = let all : index ≤ axis = grind (arith, nat_tests) in omega (arith, all, end)

    by_test : (t : Bool) → nat_lt axis index ≡ t → stands at axis ≡ unwrap_or (position_of granted axis) (stands old axis)
    by_test true is = each axis ∙ ap (λ (b : Bool). unwrap_or (cond b (position_of granted axis) None) (stands old axis)) is
    by_test false is =
        each axis ∙ ap (λ (b : Bool). unwrap_or (cond b (position_of granted axis) None) (stands old axis)) is
        ∙ ap (λ (o : Option ℤ). unwrap_or o (stands old axis)) (sym (get_or_past granted axis None (let far = past is in omega (arith, far, long))))
