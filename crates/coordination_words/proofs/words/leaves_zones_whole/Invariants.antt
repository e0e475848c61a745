use Rattle.std.proofs.Common.{◌≡◌, drop}
use Rattle.std.specs.List.{list_all}
use Rattle.sync_types.specs.BoardAlarms.{is_whole}
use Rattle.coordination_words.proofs.words.leaves_zones_whole.Given as goal

abbrev pub invariant-loop-place : goal.invariant-loop-place
invariant-loop-place g l =
    list_all (is_whole l.axes) (drop l.place (g.S.Setting.setting l.setting).zones) ≡ list_all (is_whole l.axes) (g.S.Setting.setting l.setting).zones
