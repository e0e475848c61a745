use Rattle.std.proofs.Common.{◌≡◌, ◌≤◌, ℕ, length}
use Rattle.box_tree.specs.Rows.{box_count, row_of}
use Rattle.box_tree.proofs.kept.make_rows.Given as goal

abbrev pub invariant-loop-at : goal.invariant-loop-at
invariant-loop-at l =
    record {
      same : (k : ℕ) → row_of l.rows.items k ≡ row_of l.initial.rows.items k;
      room : l._at ≤ length l.rows.items;
      count : box_count l.rows.items ≡ box_count l.initial.rows.items;
    }
