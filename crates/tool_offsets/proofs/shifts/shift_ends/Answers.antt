use Rattle.std.proofs.Common.{◌∙◌, ◌+ℤ◌, ◌≡◌, ◌<◌, false, length, get_or, refl, sym, subst, ap, arith, List, ℕ, ℤ, ◌&&◌}
use Rattle.micro_units.specs.Position.{is_position}
use Rattle.tool_offsets.specs.Shifts as model
use Rattle.tool_offsets.proofs.ShiftLaws.{none_where, out_at}
use Rattle.tool_offsets.proofs.shifts.shift_ends.Goals as goal

pub returns-in_default : goal.returns-in_default
returns-in_default c =
    let by = c.args.by.now in
    let axes = c.args.ends.now.axes in
    let e = c.end-item.result in
    let by_shift : is_position (e.1 +ℤ c.shift_of-shift.result) && is_position (e.2 +ℤ c.shift_of-shift.result) ≡ false =
    none_where _ _ (sym c.places_by.ensures ∙ c.in_default.is) in
    let out : model.is_entry_in_range (model.shifted_entry by e) ≡ false =
    subst (λ (shift : ℤ). is_position (e.1 +ℤ shift) && is_position (e.2 +ℤ shift) ≡ false) c.shift_of-shift.ensures by_shift in
    let inside : c.loop-end.end-index < length axes = subst (λ (xs : List (ℕ × ℤ × ℤ)). c.loop-end.end-index < length xs) c.loop-end.invariant.same c.loop-end-test.true in
    let here : e ≡ get_or axes c.loop-end.end-index e = subst (λ (xs : List (ℕ × ℤ × ℤ)). e ≡ get_or xs c.loop-end.end-index e) c.loop-end.invariant.same c.end-item.is in
    let none : model.are_in_range (model.shifted_ends by c.args.ends.now) ≡ false = out_at by axes c.loop-end.end-index e inside here out in
    rw none refl
