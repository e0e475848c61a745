use Rattle.std.proofs.Common.{◌≡◌, true, false, refl, sym, ◌∙◌}
use Rattle.coord_core.specs.Tables.{board_in}
use Rattle.sync_types.specs.BoardAlarms.{alarm_of, names_no_mark, names_no_channel, names_no_axis, lets_go_of_others, splits_a_zone, finds_own_mark, finds_one_awake, starts_without_program}
use Rattle.coord_core.proofs.state.State.alarm_of.Goals as goal

pub returns-then-names_no_mark : goal.returns-then-names_no_mark
unfolding alarm_of
returns-then-names_no_mark c =
    let h_names_no_mark : names_no_mark c.args.action.now ≡ true = sym (c.names_no_mark.ensures) ∙ c.if-names_no_mark.true in
    rw h_names_no_mark refl

pub returns-then-names_no_channel : goal.returns-then-names_no_channel
unfolding alarm_of
returns-then-names_no_channel c =
    let h_names_no_mark : names_no_mark c.args.action.now ≡ false = sym (c.names_no_mark.ensures) ∙ c.if-names_no_mark.false in
    let h_names_no_channel : names_no_channel (board_in c.args.self.now.table c.args.self.now.channels) c.args.action.now ≡ true = sym (c.names_no_channel.ensures c.args.self.now.channels) ∙ c.if-names_no_channel.true in
    rw (h_names_no_mark, h_names_no_channel) refl

pub returns-then-names_no_axis : goal.returns-then-names_no_axis
unfolding alarm_of
returns-then-names_no_axis c =
    let h_names_no_mark : names_no_mark c.args.action.now ≡ false = sym (c.names_no_mark.ensures) ∙ c.if-names_no_mark.false in
    let h_names_no_channel : names_no_channel (board_in c.args.self.now.table c.args.self.now.channels) c.args.action.now ≡ false = sym (c.names_no_channel.ensures c.args.self.now.channels) ∙ c.if-names_no_channel.false in
    let h_names_no_axis : names_no_axis (board_in c.args.self.now.table c.args.self.now.channels) c.args.action.now ≡ true = sym (c.names_no_axis.ensures c.args.self.now.channels) ∙ c.if-names_no_axis.true in
    rw (h_names_no_mark, h_names_no_channel, h_names_no_axis) refl

pub returns-then-lets_go_of_others : goal.returns-then-lets_go_of_others
unfolding alarm_of
returns-then-lets_go_of_others c =
    let h_names_no_mark : names_no_mark c.args.action.now ≡ false = sym (c.names_no_mark.ensures) ∙ c.if-names_no_mark.false in
    let h_names_no_channel : names_no_channel (board_in c.args.self.now.table c.args.self.now.channels) c.args.action.now ≡ false = sym (c.names_no_channel.ensures c.args.self.now.channels) ∙ c.if-names_no_channel.false in
    let h_names_no_axis : names_no_axis (board_in c.args.self.now.table c.args.self.now.channels) c.args.action.now ≡ false = sym (c.names_no_axis.ensures c.args.self.now.channels) ∙ c.if-names_no_axis.false in
    let h_lets_go_of_others : lets_go_of_others (board_in c.args.self.now.table c.args.self.now.channels) c.args.channel c.args.action.now ≡ true = sym (c.lets_go_of_others.ensures c.args.self.now.channels) ∙ c.if-lets_go_of_others.true in
    rw (h_names_no_mark, h_names_no_channel, h_names_no_axis, h_lets_go_of_others) refl

pub returns-then-splits_a_zone : goal.returns-then-splits_a_zone
unfolding alarm_of
returns-then-splits_a_zone c =
    let h_names_no_mark : names_no_mark c.args.action.now ≡ false = sym (c.names_no_mark.ensures) ∙ c.if-names_no_mark.false in
    let h_names_no_channel : names_no_channel (board_in c.args.self.now.table c.args.self.now.channels) c.args.action.now ≡ false = sym (c.names_no_channel.ensures c.args.self.now.channels) ∙ c.if-names_no_channel.false in
    let h_names_no_axis : names_no_axis (board_in c.args.self.now.table c.args.self.now.channels) c.args.action.now ≡ false = sym (c.names_no_axis.ensures c.args.self.now.channels) ∙ c.if-names_no_axis.false in
    let h_lets_go_of_others : lets_go_of_others (board_in c.args.self.now.table c.args.self.now.channels) c.args.channel c.args.action.now ≡ false = sym (c.lets_go_of_others.ensures c.args.self.now.channels) ∙ c.if-lets_go_of_others.false in
    let h_splits_a_zone : splits_a_zone (board_in c.args.self.now.table c.args.self.now.channels) c.args.action.now ≡ true = sym (c.splits_a_zone.ensures c.args.self.now.channels) ∙ c.if-splits_a_zone.true in
    rw (h_names_no_mark, h_names_no_channel, h_names_no_axis, h_lets_go_of_others, h_splits_a_zone) refl

pub returns-then-finds_own_mark : goal.returns-then-finds_own_mark
unfolding alarm_of
returns-then-finds_own_mark c =
    let h_names_no_mark : names_no_mark c.args.action.now ≡ false = sym (c.names_no_mark.ensures) ∙ c.if-names_no_mark.false in
    let h_names_no_channel : names_no_channel (board_in c.args.self.now.table c.args.self.now.channels) c.args.action.now ≡ false = sym (c.names_no_channel.ensures c.args.self.now.channels) ∙ c.if-names_no_channel.false in
    let h_names_no_axis : names_no_axis (board_in c.args.self.now.table c.args.self.now.channels) c.args.action.now ≡ false = sym (c.names_no_axis.ensures c.args.self.now.channels) ∙ c.if-names_no_axis.false in
    let h_lets_go_of_others : lets_go_of_others (board_in c.args.self.now.table c.args.self.now.channels) c.args.channel c.args.action.now ≡ false = sym (c.lets_go_of_others.ensures c.args.self.now.channels) ∙ c.if-lets_go_of_others.false in
    let h_splits_a_zone : splits_a_zone (board_in c.args.self.now.table c.args.self.now.channels) c.args.action.now ≡ false = sym (c.splits_a_zone.ensures c.args.self.now.channels) ∙ c.if-splits_a_zone.false in
    let h_finds_own_mark : finds_own_mark (board_in c.args.self.now.table c.args.self.now.channels) c.args.channel c.args.action.now ≡ true = sym (c.finds_own_mark.ensures c.args.self.now.channels) ∙ c.if-finds_own_mark.true in
    rw (h_names_no_mark, h_names_no_channel, h_names_no_axis, h_lets_go_of_others, h_splits_a_zone, h_finds_own_mark) refl

pub returns-then-finds_one_awake : goal.returns-then-finds_one_awake
unfolding alarm_of
returns-then-finds_one_awake c =
    let h_names_no_mark : names_no_mark c.args.action.now ≡ false = sym (c.names_no_mark.ensures) ∙ c.if-names_no_mark.false in
    let h_names_no_channel : names_no_channel (board_in c.args.self.now.table c.args.self.now.channels) c.args.action.now ≡ false = sym (c.names_no_channel.ensures c.args.self.now.channels) ∙ c.if-names_no_channel.false in
    let h_names_no_axis : names_no_axis (board_in c.args.self.now.table c.args.self.now.channels) c.args.action.now ≡ false = sym (c.names_no_axis.ensures c.args.self.now.channels) ∙ c.if-names_no_axis.false in
    let h_lets_go_of_others : lets_go_of_others (board_in c.args.self.now.table c.args.self.now.channels) c.args.channel c.args.action.now ≡ false = sym (c.lets_go_of_others.ensures c.args.self.now.channels) ∙ c.if-lets_go_of_others.false in
    let h_splits_a_zone : splits_a_zone (board_in c.args.self.now.table c.args.self.now.channels) c.args.action.now ≡ false = sym (c.splits_a_zone.ensures c.args.self.now.channels) ∙ c.if-splits_a_zone.false in
    let h_finds_own_mark : finds_own_mark (board_in c.args.self.now.table c.args.self.now.channels) c.args.channel c.args.action.now ≡ false = sym (c.finds_own_mark.ensures c.args.self.now.channels) ∙ c.if-finds_own_mark.false in
    let h_finds_one_awake : finds_one_awake (board_in c.args.self.now.table c.args.self.now.channels) c.args.action.now ≡ true = sym (c.finds_one_awake.ensures) ∙ c.if-finds_one_awake.true in
    rw (h_names_no_mark, h_names_no_channel, h_names_no_axis, h_lets_go_of_others, h_splits_a_zone, h_finds_own_mark, h_finds_one_awake) refl

pub returns-then-starts_without_program : goal.returns-then-starts_without_program
unfolding alarm_of
returns-then-starts_without_program c =
    let h_names_no_mark : names_no_mark c.args.action.now ≡ false = sym (c.names_no_mark.ensures) ∙ c.if-names_no_mark.false in
    let h_names_no_channel : names_no_channel (board_in c.args.self.now.table c.args.self.now.channels) c.args.action.now ≡ false = sym (c.names_no_channel.ensures c.args.self.now.channels) ∙ c.if-names_no_channel.false in
    let h_names_no_axis : names_no_axis (board_in c.args.self.now.table c.args.self.now.channels) c.args.action.now ≡ false = sym (c.names_no_axis.ensures c.args.self.now.channels) ∙ c.if-names_no_axis.false in
    let h_lets_go_of_others : lets_go_of_others (board_in c.args.self.now.table c.args.self.now.channels) c.args.channel c.args.action.now ≡ false = sym (c.lets_go_of_others.ensures c.args.self.now.channels) ∙ c.if-lets_go_of_others.false in
    let h_splits_a_zone : splits_a_zone (board_in c.args.self.now.table c.args.self.now.channels) c.args.action.now ≡ false = sym (c.splits_a_zone.ensures c.args.self.now.channels) ∙ c.if-splits_a_zone.false in
    let h_finds_own_mark : finds_own_mark (board_in c.args.self.now.table c.args.self.now.channels) c.args.channel c.args.action.now ≡ false = sym (c.finds_own_mark.ensures c.args.self.now.channels) ∙ c.if-finds_own_mark.false in
    let h_finds_one_awake : finds_one_awake (board_in c.args.self.now.table c.args.self.now.channels) c.args.action.now ≡ false = sym (c.finds_one_awake.ensures) ∙ c.if-finds_one_awake.false in
    let h_starts_without_program : starts_without_program (board_in c.args.self.now.table c.args.self.now.channels) c.args.action.now ≡ true = sym (c.starts_without_program.ensures c.args.self.now.channels) ∙ c.if-starts_without_program.true in
    rw (h_names_no_mark, h_names_no_channel, h_names_no_axis, h_lets_go_of_others, h_splits_a_zone, h_finds_own_mark, h_finds_one_awake, h_starts_without_program) refl

pub returns-else-starts_without_program : goal.returns-else-starts_without_program
unfolding alarm_of
returns-else-starts_without_program c =
    let h_names_no_mark : names_no_mark c.args.action.now ≡ false = sym (c.names_no_mark.ensures) ∙ c.if-names_no_mark.false in
    let h_names_no_channel : names_no_channel (board_in c.args.self.now.table c.args.self.now.channels) c.args.action.now ≡ false = sym (c.names_no_channel.ensures c.args.self.now.channels) ∙ c.if-names_no_channel.false in
    let h_names_no_axis : names_no_axis (board_in c.args.self.now.table c.args.self.now.channels) c.args.action.now ≡ false = sym (c.names_no_axis.ensures c.args.self.now.channels) ∙ c.if-names_no_axis.false in
    let h_lets_go_of_others : lets_go_of_others (board_in c.args.self.now.table c.args.self.now.channels) c.args.channel c.args.action.now ≡ false = sym (c.lets_go_of_others.ensures c.args.self.now.channels) ∙ c.if-lets_go_of_others.false in
    let h_splits_a_zone : splits_a_zone (board_in c.args.self.now.table c.args.self.now.channels) c.args.action.now ≡ false = sym (c.splits_a_zone.ensures c.args.self.now.channels) ∙ c.if-splits_a_zone.false in
    let h_finds_own_mark : finds_own_mark (board_in c.args.self.now.table c.args.self.now.channels) c.args.channel c.args.action.now ≡ false = sym (c.finds_own_mark.ensures c.args.self.now.channels) ∙ c.if-finds_own_mark.false in
    let h_finds_one_awake : finds_one_awake (board_in c.args.self.now.table c.args.self.now.channels) c.args.action.now ≡ false = sym (c.finds_one_awake.ensures) ∙ c.if-finds_one_awake.false in
    let h_starts_without_program : starts_without_program (board_in c.args.self.now.table c.args.self.now.channels) c.args.action.now ≡ false = sym (c.starts_without_program.ensures c.args.self.now.channels) ∙ c.if-starts_without_program.false in
    rw (h_names_no_mark, h_names_no_channel, h_names_no_axis, h_lets_go_of_others, h_splits_a_zone, h_finds_own_mark, h_finds_one_awake, h_starts_without_program) c.own_alarm.ensures
