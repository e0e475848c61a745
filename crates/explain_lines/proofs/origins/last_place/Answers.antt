use Rattle.std.proofs.Common.{◌≡◌, ◌∙◌, ◌-◌, sym, arith, length, take, drop, true, false}
use Rattle.std.proofs.lemmas.List.{take_rest}
use Rattle.std.specs.Str.{bytes_eq}
use Rattle.explain_lines.proofs.OriginLaws.{mark_found, mark_not_yet}
use Rattle.explain_lines.proofs.origins.last_place.Goals as goal

pub returns-then-begins_with : goal.returns-then-begins_with
returns-then-begins_with c =
    let stands : bytes_eq (take (length c.args.mark.now) (drop (c.loop-place.place - 1) c.args.text.now)) c.args.mark.now ≡ true = simp take_rest at (sym c.begins_with.ensures ∙ c.if-begins_with.true) in
    mark_found c.args.mark.now c.args.text.now c.loop-place.place (omega arith) c.loop-place.invariant.within c.loop-place.invariant.none stands

pub loop-place-preserved : goal.loop-place-preserved
loop-place-preserved c =
    let absent : bytes_eq (take (length c.args.mark.now) (drop (c.loop-place.place - 1) c.args.text.now)) c.args.mark.now ≡ false = simp take_rest at (sym c.begins_with.ensures ∙ c.if-begins_with.false) in
    record {
      within = omega arith;
      none = mark_not_yet c.args.mark.now c.args.text.now c.loop-place.place (omega arith) c.loop-place.invariant.within c.loop-place.invariant.none absent;
    }
