use Rattle.std.proofs.Common.{◌≡◌, ◌∙◌, ◌+◌, ◌-◌, suc, ℕ, Bool, true, drop, get_or, sym, subst, arith}
use Rattle.clash_check.proofs.PlaceLaws.{no_box}
use Rattle.clash_check.specs.PlaceRanges.{passes_place}
use Rattle.zone_stretches.proofs.ChainLaws.{leading_from}
use Rattle.zone_stretches.specs.Ascents.{leading}
use Rattle.zone_stretches.specs.declared.stretches.ZoneBox.{ZoneBox}
use Rattle.clash_check.proofs.place_ranges.place_from.Goals as goal

pub returns-then-passes_place-clause-left : goal.returns-then-passes_place-clause-left
returns-then-passes_place-clause-left c =
    let test : ZoneBox → Bool = passes_place c.args.ended c.args.own.now in
    let before : ℕ = c.args.hint - 1 in
    let here : suc before ≡ c.args.hint = omega arith in
    let on : test (get_or c.args.others.now before no_box) ≡ true = sym c.passes_place.ensures ∙ c.if-passes_place.true in
    subst (λ (k : ℕ). k + leading test (drop k c.args.others.now) ≡ leading test c.args.others.now) here
    (leading_from test c.args.others.now before no_box c.requires (omega arith) on)
