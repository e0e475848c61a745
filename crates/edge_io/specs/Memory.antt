-- Meaning. What is seen of the sources and sinks in memory.
use Rattle.std.specs.Prelude.{◌≡◌, ℕ, ◌+◌, ◌-◌, ◌^◌, ◌==◌, min, Bool, true, false, List, ◌++◌, length, take, drop, Option, None, Some, Result, Ok, Err}
use Rattle.std.specs.List.{list_any}
use Rattle.edge_io.specs.Moves.{count_in_64_bits}

-- a source in memory: the bytes left, the most that one read gives, the calls to fail, the calls and the faults so far
pub record SourceView : Type 0 where
  pub left : List ℕ
  pub piece : ℕ
  pub fails : List ℕ
  pub calls : ℕ
  pub faults : ℕ

-- a sink in memory: the bytes written, the most that one write takes, the calls to fail, the calls and the faults so far
pub record SinkView : Type 0 where
  pub written : List ℕ
  pub piece : ℕ
  pub fails : List ℕ
  pub calls : ℕ
  pub faults : ℕ

-- the call of this number is one of those to fail
abbrev pub is_listed : List ℕ → ℕ → Bool
is_listed fails call = list_any (λ n. n == call) fails

-- a call is counted, while the count fits 64 bits
abbrev pub calls_after : ℕ → ℕ
calls_after calls = min (calls + 1) (2 ^ 64 - 1)

-- exactly the listed reads fail; each other moves as many bytes as fit, at most a piece
abbrev pub ReadsAsListed : {E : Type 0} → SourceView → SourceView → ℕ → Result ℕ E → Type 0
ReadsAsListed old new room (Ok n) =
    (is_listed old.fails old.calls ≡ false)
    × (n ≡ min (min (length old.left) room) old.piece)
    × (new ≡ record old { left = drop n old.left; calls = calls_after old.calls })
ReadsAsListed old new room (Err e) =
    (is_listed old.fails old.calls ≡ true)
    × (new ≡ record old { calls = calls_after old.calls; faults = old.faults + 1 })

-- the listed writes fail, and those that find no memory; each other takes as many bytes as fit, at most a piece
abbrev pub WritesAsListed : {E : Type 0} → SinkView → SinkView → List ℕ → Result ℕ E → Type 0
WritesAsListed old new bytes (Ok n) =
    (is_listed old.fails old.calls ≡ false)
    × (n ≡ min (length bytes) old.piece)
    × (new ≡ record old { written = old.written ++ take n bytes; calls = calls_after old.calls })
WritesAsListed old new bytes (Err e) =
    new ≡ record old { calls = calls_after old.calls; faults = old.faults + 1 }

-- whatever the number of bytes written was, it is n more
abbrev pub CountsOn : Option ℕ → Option ℕ → ℕ → Type 0
CountsOn old new n = (total : ℕ) → old ≡ count_in_64_bits total → new ≡ count_in_64_bits (total + n)
