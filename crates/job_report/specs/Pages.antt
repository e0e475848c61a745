-- Steps. Texts go to a sink by way of a page, whose bytes are written when it is full.
use Rattle.std.specs.Prelude.{◌≡◌, ℕ, List, ◌++◌, length, Option, Result, Ok, Err}
use Rattle.edge_io.specs.Moves.{Grows, Counts, GrowsByFront}

-- the bytes that a sink tells of and their number, and the bytes of the page that are still to be written
pub record Stage : Type 0 where
  pub written : Option (List ℕ)
  pub count : Option ℕ
  pub page : List ℕ

-- what a sink and a page have
abbrev pub stage : Option (List ℕ) → Option ℕ → List ℕ → Stage
stage written count page = record { written = written; count = count; page = page }

-- this text has come after what there was: a front of it all is written, and the page has the rest
pub record Prints (old new : Stage) (text : List ℕ) : Type 0 where
  pub gone : List ℕ
  pub split : old.page ++ text ≡ gone ++ new.page
  pub written : Grows old.written new.written gone
  pub number : Counts old.count new.count (length gone)

-- where a write fails, a front of it all is written
abbrev pub Puts : {T E : Type 0} → Stage → Stage → Result T E → List ℕ → Type 0
Puts old new (Ok x) text = Prints old new text
Puts old new (Err e) text = GrowsByFront old.written new.written (old.page ++ text)
