-- The channels so far have gone on where they do, and the others are as they were.
use Rattle.std.proofs.Common.{◌≡◌, ℕ, ◌<◌, ◌≤◌, ◌&&◌, not, [], None, if◌then◌else◌, slice_index_or}
use Rattle.axis_sets.specs.Sets.{has}
use Rattle.axis_sets.specs.declared.limits.TheConstants.{AXIS_LIMIT}
use Rattle.explain_ends.specs.LastBoards.{taker_upto}
use Rattle.step_deeds.specs.Holds.{is_given, lowers_at}
use Rattle.explain_ends.proofs.boards.LastBoard.depart.Given as goal

abbrev pub invariant-loop-place : goal.invariant-loop-place
invariant-loop-place l = record {
  marks_done : (c m : ℕ) → 1 ≤ c → c ≤ l.place → has (slice_index_or l.self.marks c []) m
      ≡ (has (slice_index_or l.initial.self.marks c []) m && not (is_given (slice_index_or l.goes c None) && lowers_at (slice_index_or l.initial.self.holds c None) m));
  marks_left : (c m : ℕ) → l.place < c → has (slice_index_or l.self.marks c []) m ≡ has (slice_index_or l.initial.self.marks c []) m;
  holds_done : (c : ℕ) → 1 ≤ c → c ≤ l.place → slice_index_or l.self.holds c None ≡ (if is_given (slice_index_or l.goes c None) then None else slice_index_or l.initial.self.holds c None);
  holds_left : (c : ℕ) → l.place < c → slice_index_or l.self.holds c None ≡ slice_index_or l.initial.self.holds c None;
  owners : (x : ℕ) → x < AXIS_LIMIT → slice_index_or l.self.owners x None ≡ taker_upto l.goes l.place x (slice_index_or l.initial.self.owners x None);
}
