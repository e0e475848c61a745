use Rattle.axis_sets.specs.declared.limits.TheConstants.{CHANNEL_PLACES}
use Rattle.std.proofs.Common.{◌≡◌, ℕ, ◌≤◌, ◌&&◌, not, true, [], None, length, if◌then◌else◌}
use Rattle.std.specs.Prelude.{is_some, slice_index_or}
use Rattle.axis_sets.specs.Sets.{has}
use Rattle.order_clocks.specs.Watching.{IsGone, go_in}
use Rattle.order_clocks.proofs.WatchLaws.{is_done}
use Rattle.order_clocks.proofs.watch.BoardReplay.depart.Given as goal
use Rattle.step_deeds.specs.Holds.{lowers_at}

abbrev pub invariant-loop-number : goal.invariant-loop-number
invariant-loop-number l = record {
  size : length l.gone ≡ CHANNEL_PLACES;
  from : 1 ≤ l.number;
  gone : (c : ℕ) → is_done l.number c ≡ true → IsGone (slice_index_or l.gone c None) (slice_index_or l.initial.self.holds c None) (go_in l.goes c);
  none : slice_index_or l.gone 0 None ≡ None;
  holds : (c : ℕ) → slice_index_or l.self.holds c None ≡ (if is_done l.number c && is_some (go_in l.goes c) then None else slice_index_or l.initial.self.holds c None);
  marks : (c m : ℕ) → has (slice_index_or l.self.marks c []) m ≡ (has (slice_index_or l.initial.self.marks c []) m && not ((is_done l.number c && is_some (go_in l.goes c)) && lowers_at (slice_index_or l.initial.self.holds c None) m));
}
