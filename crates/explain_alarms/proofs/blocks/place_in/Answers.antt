use Rattle.std.proofs.Common.{◌≡◌, ◌∙◌, ◌==◌, ℕ, List, Some, sym, ap}
use Rattle.std.specs.List.{position}
use Rattle.std.specs.Option.{option_and_then}
use Rattle.nc_blocks.specs.declared.blocks.Block.{Block}
use Rattle.explain_alarms.proofs.BlockLaws.{place_in_views}
use Rattle.explain_alarms.specs.Blocks.{short}
use Rattle.explain_alarms.proofs.blocks.place_in.Goals as goal

pub returns-in-Some : goal.returns-in-Some
returns-in-Some c =
    let there : position (λ (b : ℕ × Block). b.0 == c.args.line) c.args.flow.now ≡ Some c.in-Some.place =
    sym (c.in-Some.ensures ∙ ap (λ (bs : List (ℕ × Block)). position (λ b. b.0 == c.args.line) bs) c.blocks-2.ensures) in
    c.short.ensures ∙ sym (place_in_views c.args.line c.args.flow.now ∙ ap (option_and_then short) there)
