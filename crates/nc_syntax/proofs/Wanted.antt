-- Reading a block token by token.
use Rattle.std.proofs.Common.{ℕ, ◌+◌, List, [], ◌∷◌, drop, Option, Some, None, Result, Ok, Err}
use Rattle.block_scanner.specs.declared.Token.{Token}
use Rattle.block_scanner.specs.WordsView.{WordsView}
use Rattle.nc_syntax.specs.Wanted.{Done, Next, On, Refuse, Stack, mark_at, on_mark}

-- nothing, or the refusal
abbrev pub last : Next → Option ℕ
last (On st) = Some 22
last Done = None
last (Refuse code) = Some code

abbrev pub go : Next → (Stack → Option ℕ) → Option ℕ
go (On st) rest = rest st
go Done rest = None
go (Refuse code) rest = Some code

unfoldable pub run : WordsView → List Token → ℕ → Stack → Option ℕ
run words [] at st = last (on_mark st (mark_at words at))
run words (token ∷ tokens) at st = go (on_mark st (mark_at words at)) (run words tokens (at + 1))

-- the refusal of what is wanted from a place on, if there is one
unfoldable pub run_at : WordsView → ℕ → Stack → Option ℕ
run_at words at st = run words (drop at words.tokens) at st

-- what is read, and then this
abbrev pub follow : {A : Type 0} → Result A ℕ → (A → Option ℕ) → Option ℕ
follow (Ok x) f = f x
follow (Err code) f = Some code
