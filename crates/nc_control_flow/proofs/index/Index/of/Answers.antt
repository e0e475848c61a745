use Rattle.std.proofs.Common.{arith}
use Rattle.std.proofs.lemmas.List.{length-map}
use Rattle.nc_blocks.specs.Statement.{view_of}
use Rattle.nc_control_flow.specs.Parts.{views}
use Rattle.nc_control_flow.specs.Targets.{has_label, has_number}
use Rattle.nc_control_flow.specs.Index.{label_places, number_places}
use Rattle.nc_control_flow.proofs.Indexed.{places_more, places_all, view_at}
use Rattle.nc_control_flow.proofs.index.Index.of.Goals as goal

pub loop-place-preserved : goal.loop-place-preserved
loop-place-preserved c =
    let blocks = c.args.blocks.now in
    let n = c.loop-place.place in
    let one = view_of c.index-blocks-place.result.1 in
    let same = view_at blocks n c.index-blocks-place.result (omega arith) c.index-blocks-place.is in
    record {
      by_label = λ name. places_more (has_label name) (views blocks) n one (label_places c.loop-place.labels name) _ (omega (arith, length-map blocks (λ e. view_of e.1))) same
          (c.loop-place.invariant.by_label name) (c.in_ok-note_label_of.ensures name);
      by_number = λ number. places_more (has_number number) (views blocks) n one (number_places c.loop-place.numbers number) _ (omega (arith, length-map blocks (λ e. view_of e.1))) same
          (c.loop-place.invariant.by_number number) (c.in_ok-note_number_of.ensures number);
    }

pub returns : goal.returns
returns c =
    let blocks = c.args.blocks.now in
    record {
      by_label = λ name. places_all (has_label name) (views blocks) c.loop-place.place (label_places c.loop-place.labels name) (omega (arith, length-map blocks (λ e. view_of e.1))) (c.loop-place.invariant.by_label name);
      by_number = λ number. places_all (has_number number) (views blocks) c.loop-place.place (number_places c.loop-place.numbers number) (omega (arith, length-map blocks (λ e. view_of e.1))) (c.loop-place.invariant.by_number number);
    }
