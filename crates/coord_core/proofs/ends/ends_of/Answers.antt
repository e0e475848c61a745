use Rattle.std.proofs.Common.{◌+◌, ◌-◌, ◌++◌, List, append_assoc, ap, arith, sym, ◌∙◌}
use Rattle.std.specs.List.{range_with_len}
use Rattle.std.specs.Option.{option_to_list}
use Rattle.axis_sets.specs.declared.limits.TheConstants.{CHANNEL_PLACES}
use Rattle.coord_core.specs.Boards.{replayed}
use Rattle.coord_core.proofs.ChannelEnds.{ends_more}
use Rattle.coord_core.proofs.ends.ends_of.Goals as goal
use Rattle.coord_core.specs.Ends.{end_at}
use Rattle.sync_types.specs.BoardEnds.{ends_among}
use Rattle.sync_types.specs.declared.ChannelEnd.{ChannelEnd}

pub loop-number-preserved : goal.loop-number-preserved
loop-number-preserved c =
    let b = replayed c.args.board.now in
    let n = c.loop-number.number in
    let ends : List ChannelEnd = c.loop-number.ends.items in
    let rest : List ChannelEnd = ends_among b (range_with_len (n + 1) (CHANNEL_PLACES - (n + 1))) in (
      ap (λ (xs : List ChannelEnd). xs ++ rest) (c.push_some.ensures.items ∙ ap (λ o. ends ++ option_to_list o) c.end_at.ensures)
          ∙ append_assoc ends (option_to_list (end_at b n)) rest
          ∙ ap (λ (xs : List ChannelEnd). ends ++ xs) (sym (ends_more b n c.loop-number-test.true))
          ∙ c.loop-number.invariant.0,
      omega (arith, c.push_some.ensures.few, c.loop-number.invariant.1),
    )
