use Rattle.std.proofs.Common.{◌≡◌, ◌∙◌, ◌++◌, List, ap, subst}
use Rattle.std.specs.Prelude.{option_to_list}
use Rattle.std.specs.List.{flat_map}
use Rattle.explain_reach.proofs.PartLaws.{starts_there}
use Rattle.explain_reach.specs.Lots.{IsGreatest, reaches}
use Rattle.explain_reach.specs.Parts.{boxes_in}
use Rattle.explain_reach.specs.declared.parts.Part.{Part}
use Rattle.swept_boxes.specs.declared.Box3.{Box3}
use Rattle.explain_reach.proofs.parted.PartedBoxes.greatest_overlap.Goals as goal

pub returns : goal.returns
returns c =
    let own : flat_map boxes_in c.as_slice.result.now ≡ c.args.self.now = ap (λ (ps : List Part). flat_map boxes_in ps) c.as_slice.ensures.value ∙ c.self.view_is in
    let later : flat_map boxes_in c.as_slice-3.result.now ≡ c.args.other.now = ap (λ (ps : List Part). flat_map boxes_in ps) c.as_slice-3.ensures.value ∙ c.other.view_is in
    c.over.ensures (reaches c.args.self.now c.args.other.now)
    (subst (λ (ls : List Box3). IsGreatest c.most_of.result (option_to_list c.args.floor ++ reaches ls c.args.other.now)) own
    (subst (λ (rs : List Box3). IsGreatest c.most_of.result (option_to_list c.args.floor ++ reaches (flat_map boxes_in c.as_slice.result.now) rs)) later
    (c.most_of.ensures (option_to_list c.args.floor) (starts_there c.args.floor))))
