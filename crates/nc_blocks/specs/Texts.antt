-- Meaning. Texts without their quotes.
use Rattle.std.specs.Prelude.{ℕ, ◌-◌, nat_lt, List, [], length, slice_range, if◌then◌else◌}

-- a text without its quotes
unfoldable pub text_within_quotes : List ℕ → List ℕ
text_within_quotes text = if nat_lt (length text) 2 then [] else slice_range text 1 (length text - 1)
