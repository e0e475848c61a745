-- Steps. Counters for each event: how many events of each channel are it or before it.
use Rattle.std.specs.Prelude.{ℕ, zero, suc, max, List, ◌==◌, if◌then◌else◌, filter}
use Rattle.counter_rows.specs.Rows.{top}
use Rattle.order_clocks.specs.Happenings.{Key}
use Rattle.sync_types.specs.declared.runs.EventId.{EventId}
use Rattle.sync_types.specs.Boards.{among}
use Rattle.order_clocks.specs.Courses.{Course}

-- the counters of each channel's last event, and of the last Act that gave a key
pub record LastRows : Type 0 where
  pub past : ℕ → ℕ → ℕ
  pub last : Key → ℕ → ℕ

unfoldable pub act_row : Course → ℕ → LastRows → ℕ → ℕ
act_row run i s x = if x == run.actor i then suc (s.past (run.actor i) x) else s.past (run.actor i) x

unfoldable pub rows_after_act : Course → ℕ → LastRows → LastRows
rows_after_act run i s = record {
  past = λ c. if c == run.actor i then act_row run i s else s.past c;
  last = λ k. if run.gives i k then act_row run i s else s.last k;
}

unfoldable pub own_row : Course → ℕ → LastRows → ℕ → ℕ → ℕ
own_row run i s c x = max (s.past c x) (top (λ k. s.last k x) (run.asks i c))

abbrev pub members : Course → ℕ → ℕ → List ℕ
members run i g = filter (λ c. run.group i c == g) (run.goers i)

unfoldable pub go_row : Course → ℕ → LastRows → ℕ → ℕ → ℕ
go_row run i s g x =
    let most = top (λ c. own_row run i s c x) (members run i g) in
    if among (members run i g) x then suc most else most

unfoldable pub rows_after_goings : Course → ℕ → LastRows → LastRows
rows_after_goings run i s = record {
  past = λ c. if among (run.goers i) c then go_row run i s (run.group i c) else s.past c;
  last = s.last;
}

abbrev pub last_rows : Course → ℕ → LastRows
last_rows run zero = record { past = λ c x. 0; last = λ k x. 0 }
last_rows run (suc i) = rows_after_goings run i (rows_after_act run i (last_rows run i))

abbrev pub row : Course → EventId → ℕ → ℕ
row run e = if e.go then go_row run e.step (rows_after_act run e.step (last_rows run e.step)) (run.group e.step e.channel) else act_row run e.step (last_rows run e.step)
