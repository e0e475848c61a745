-- Meaning. Lists of things that stand one after the other in a line.
use Rattle.std.specs.Prelude.{ℕ, zero, suc, ◌+◌, ◌-◌, Bool, true, false, List, [], ◌∷◌, ◌++◌, drop, Result, Ok, Err}
use Rattle.block_scanner.specs.declared.Token.{Token}
use Rattle.block_scanner.specs.WordsView.{WordsView}
use Rattle.nc_expressions.specs.Value.{◌>>=◌}

-- one thing is read: it, whether another one follows, and the place after it or where the next one begins
abbrev pub Item : Type 0 → Type 0
Item A = A × Bool × ℕ

abbrev pub go_on : {A : Type 0} → List A → ℕ → Item A → (List A → ℕ → Result (List A × ℕ) ℕ) → Result (List A × ℕ) ℕ
go_on before at (x, true, next) rest = rest (before ++ x ∷ []) (next - (at + 1))
go_on before at (x, false, next) rest = Ok (before ++ x ∷ [], next)

-- after those that came before, the things that the tokens from a place on have, where so many of them still belong to what was read
unfoldable pub list_from : {A : Type 0} → (List A → ℕ → Result (Item A) ℕ) → List A → ℕ → List Token → ℕ → Result (List A × ℕ) ℕ
list_from item before at [] more = item before at >>= λ one. Err 22
list_from item before at (token ∷ tokens) zero = item before at >>= λ one. go_on before at one (λ xs more. list_from item xs (at + 1) tokens more)
list_from item before at (token ∷ tokens) (suc more) = list_from item before (at + 1) tokens more

-- the things that stand from a place on, one at least, and the place after them
unfoldable pub list_at : {A : Type 0} → (List A → ℕ → Result (Item A) ℕ) → WordsView → ℕ → Result (List A × ℕ) ℕ
list_at item words at = list_from item [] at (drop at words.tokens) 0
