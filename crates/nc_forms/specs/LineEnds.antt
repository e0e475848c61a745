-- Meaning. A statement after which nothing stands in the line.
use Rattle.std.specs.Prelude.{ℕ, Result, Ok}
use Rattle.block_scanner.specs.WordsView.{WordsView}
use Rattle.nc_blocks.specs.Marks.{end_at}
use Rattle.nc_expressions.specs.Value.{◌>>=◌}
use Rattle.nc_blocks.specs.Statement.{Statement}

-- this statement, where nothing stands after it
unfoldable pub statement_alone : WordsView → ℕ → Statement → Result Statement ℕ
statement_alone words at statement = end_at words at >>= λ end. Ok statement
