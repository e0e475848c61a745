-- What `clap` makes of the words of a sample.
use Rattle.std.proofs.Common.{◌≡◌, ℕ, zero, suc, ◌+◌, ◌-◌, ◌≤◌, true, List, [], ◌∷◌, ◌++◌, codes, Some, refl, subst, arith}
use Rattle.clap.proofs.OnLiterals.{clap_on_literals}
use Rattle.std.specs.Int.{IsInRange}
use Rattle.clap.specs.Words.{App, Rule, Text, first_of, is_simple, matches_of, new_app, new_rule, takes, with_rule}

-- the option, and the command
abbrev pub number_rule : Rule
number_rule = record (new_rule (codes "number")) { long = Some (codes "number") }

abbrev pub sample_app : App
sample_app = with_rule (new_app (codes "sample")) number_rule

-- the command takes these words, and finds this number
pub record Finds (words : List Text) (text : Text) : Type 0 where
  pub taken : takes sample_app words ≡ true
  pub simple : is_simple sample_app ≡ true
  pub found : first_of (codes "number") (matches_of sample_app words) ≡ Some text

pub finds_joined : (text : Text) → Finds (codes "sample" ∷ (codes "--number=" ++ text) ∷ []) text
unfolding clap_on_literals
finds_joined text = record { taken = refl; simple = refl; found = refl }

-- a word that begins with a digit is no option
abbrev apart : ℕ → Text → List Text
apart c rest = codes "sample" ∷ codes "--number" ∷ (c ∷ rest) ∷ []

finds_0 : (rest : Text) → Finds (apart 48 rest) (48 ∷ rest)
unfolding clap_on_literals
finds_0 rest = record { taken = refl; simple = refl; found = refl }

finds_1 : (rest : Text) → Finds (apart 49 rest) (49 ∷ rest)
unfolding clap_on_literals
finds_1 rest = record { taken = refl; simple = refl; found = refl }

finds_2 : (rest : Text) → Finds (apart 50 rest) (50 ∷ rest)
unfolding clap_on_literals
finds_2 rest = record { taken = refl; simple = refl; found = refl }

finds_3 : (rest : Text) → Finds (apart 51 rest) (51 ∷ rest)
unfolding clap_on_literals
finds_3 rest = record { taken = refl; simple = refl; found = refl }

finds_4 : (rest : Text) → Finds (apart 52 rest) (52 ∷ rest)
unfolding clap_on_literals
finds_4 rest = record { taken = refl; simple = refl; found = refl }

finds_5 : (rest : Text) → Finds (apart 53 rest) (53 ∷ rest)
unfolding clap_on_literals
finds_5 rest = record { taken = refl; simple = refl; found = refl }

finds_6 : (rest : Text) → Finds (apart 54 rest) (54 ∷ rest)
unfolding clap_on_literals
finds_6 rest = record { taken = refl; simple = refl; found = refl }

finds_7 : (rest : Text) → Finds (apart 55 rest) (55 ∷ rest)
unfolding clap_on_literals
finds_7 rest = record { taken = refl; simple = refl; found = refl }

finds_8 : (rest : Text) → Finds (apart 56 rest) (56 ∷ rest)
unfolding clap_on_literals
finds_8 rest = record { taken = refl; simple = refl; found = refl }

finds_9 : (rest : Text) → Finds (apart 57 rest) (57 ∷ rest)
unfolding clap_on_literals
finds_9 rest = record { taken = refl; simple = refl; found = refl }

finds_digit : (i : ℕ) (rest : Text) → i ≤ 9 → Finds (apart (48 + i) rest) ((48 + i) ∷ rest)
finds_digit zero rest le = finds_0 rest
finds_digit (suc zero) rest le = finds_1 rest
finds_digit (suc (suc zero)) rest le = finds_2 rest
finds_digit (suc (suc (suc zero))) rest le = finds_3 rest
finds_digit (suc (suc (suc (suc zero)))) rest le = finds_4 rest
finds_digit (suc (suc (suc (suc (suc zero))))) rest le = finds_5 rest
finds_digit (suc (suc (suc (suc (suc (suc zero)))))) rest le = finds_6 rest
finds_digit (suc (suc (suc (suc (suc (suc (suc zero))))))) rest le = finds_7 rest
finds_digit (suc (suc (suc (suc (suc (suc (suc (suc zero)))))))) rest le = finds_8 rest
finds_digit (suc (suc (suc (suc (suc (suc (suc (suc (suc zero))))))))) rest le = finds_9 rest
finds_digit (suc (suc (suc (suc (suc (suc (suc (suc (suc (suc i)))))))))) rest le = absurd (omega (arith, le))

pub finds_apart : (c : ℕ) (rest : Text) → IsInRange 48 57 c → Finds (apart c rest) (c ∷ rest)
finds_apart c rest range =
    let whole : 48 + (c - 48) ≡ c = omega (arith, range.0, range.1) in
    subst (λ (d : ℕ). Finds (apart d rest) (d ∷ rest)) whole (finds_digit (c - 48) rest (omega (arith, range.1)))
