use Rattle.std.proofs.Common.{not, None, sym, ap, ◌∙◌}
use Rattle.axis_sets.specs.Sets.{has}
use Rattle.std.proofs.Common.{is_some, slice_index_or}
use Rattle.coord_core.proofs.Members.{all_named}
use Rattle.coord_core.specs.Tables.{board_in}
use Rattle.sync_types.specs.BoardAlarms.{starts_without_program}
use Rattle.coord_core.proofs.table.Table.starts_without_program.Goals as goal

pub returns-in-Start : goal.returns-in-Start
returns-in-Start c = λ channels.
    ap not (c.is_within.ensures.within ∙ all_named c.in-Start.named (has c.channels_with_program.result) (λ d. is_some (slice_index_or c.args.self.now.programs d None))
    c.is_within.ensures.none c.is_within.ensures.size c.channels_with_program.ensures.channels)
    ∙ ap (starts_without_program (board_in c.args.self.now channels)) (sym c.in-Start.is)
