use Rattle.std.proofs.Common.{◌∙◌, not, List, Bool, length, ap}
use Rattle.std.specs.Prelude.{nat_lt}
use Rattle.std.specs.List.{list_any}
use Rattle.explain_reach.proofs.PartLaws.{any_has, no_length}
use Rattle.explain_reach.specs.Parts.{boxes_in}
use Rattle.explain_reach.specs.declared.parts.Part.{Part}
use Rattle.swept_boxes.specs.declared.Box3.{Box3}
use Rattle.explain_reach.proofs.parted.PartedBoxes.is_empty.Goals as goal

pub returns : goal.returns
returns c =
    ap (λ (b : Bool). not b) (c.have_boxes.ensures
    ∙ ap (λ (parts : List Part). list_any (λ part. nat_lt 0 (length (boxes_in part))) parts) c.as_slice.ensures.value
    ∙ any_has c.self.inside.parts.items
    ∙ ap (λ (bs : List Box3). nat_lt 0 (length bs)) c.self.view_is)
    ∙ no_length (length c.args.self.now)
