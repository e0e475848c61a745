-- What is true of a row in two halves.
use Rattle.std.proofs.Common.{◌≡◌, ◌≢◌, ℕ, zero, suc, ◌+◌, ◌-◌, ◌<◌, ◌≤◌, ◌==◌, ◌&&◌, ◌||◌, ◌⊎◌, ◌↔◌, not, Bool, true, false, inl, inr, List, [], ◌∷◌, ◌++◌, length, take, drop, refl, sym, ap, ◌∙◌, arith}
use Rattle.std.proofs.lemmas.Bool.{eq-eqb, eqb-true, ne_eqb, cases_eq, cases_lt}
use Rattle.std.proofs.Math.Bool.{beq}
use Rattle.std.specs.Cmp.Lexicographic.{pointwise}
use Rattle.axis_sets.specs.Sets.{has, IsEmpty, IsLowest}

-- a place of the first half
has_low : (low high : List Bool) (m : ℕ) → m < length low → has (low ++ high) m ≡ has low m
has_low [] high m below = absurd (omega arith)
has_low (x ∷ low) high zero below = refl
has_low (x ∷ low) high (suc m) below = has_low low high m (omega arith)

-- a place of the second
has_high : (low high : List Bool) (m : ℕ) → length low ≤ m → has (low ++ high) m ≡ has high (m - length low)
has_high [] high m past = let same : m ≡ m - 0 = omega arith in ap (has high) same
has_high (x ∷ low) high zero past = absurd (omega arith)
has_high (x ∷ low) high (suc m) past =
    let same : m - length low ≡ suc m - suc (length low) = omega arith in
    let rest : has (low ++ high) m ≡ has high (m - length low) = has_high low high m (omega arith) in
    rest ∙ ap (λ (k : ℕ). has high k) same

pub low_has : (n : ℕ) (low high : List Bool) → length low ≡ n → (m : ℕ) → m < n → has (low ++ high) m ≡ has low m
low_has n low high size m below = has_low low high m (omega arith)

pub high_has : (n : ℕ) (low high : List Bool) → length low ≡ n → (m : ℕ) → n ≤ m → has (low ++ high) m ≡ has high (m - n)
high_has n low high size m past = has_high low high m (omega arith) ∙ ap (λ k. has high (m - k)) size

-- what is true of each half is true of both
halves : (n : ℕ) (low high : List Bool) → length low ≡ n → (f : ℕ → Bool) → ((m : ℕ) → m < n → has low m ≡ f m) → ((m : ℕ) → n ≤ m → has high (m - n) ≡ f m)
    → (m : ℕ) → has (low ++ high) m ≡ f m
halves n low high size f one two m = elim (cases_lt m n) [
  | inl below ↦ low_has n low high size m below ∙ one m below
  | inr past ↦ high_has n low high size m past ∙ two m past
]

-- places from a half on are the same where they are the same in it
shifted : (n m mark : ℕ) → n ≤ m → n ≤ mark → (m - n == mark - n) ≡ (m == mark)
shifted n m mark one two = elim (cases_eq m mark) [
  | inl here ↦ eq-eqb (m - n) (mark - n) (omega arith) ∙ sym (eq-eqb m mark here)
  | inr other ↦ ne_eqb (m - n) (mark - n) (λ e. other (omega arith)) ∙ sym (ne_eqb m mark other)
]

-- what is kept and is not this mark stays
stays : (b : Bool) → b ≡ (b && true)
stays true = refl
stays false = refl

-- no mark in either half
pub empty_halves : (n : ℕ) (low high : List Bool) → length low ≡ n → IsEmpty low → IsEmpty high → IsEmpty (low ++ high)
empty_halves n low high size one two = halves n low high size (λ m. false) (λ m below. one m) (λ m past. two (m - n))

pub halves_empty : (n : ℕ) (low high : List Bool) → length low ≡ n → length high ≡ n → IsEmpty (low ++ high) → IsEmpty low × IsEmpty high
halves_empty n low high size other none = (
  (λ m. elim (cases_lt m n) [
    | inl below ↦ sym (low_has n low high size m below) ∙ none m
    | inr past ↦ past_has low m (omega arith)
  ]),
  (λ m. let there : n + m - n ≡ m = omega arith in ap (has high) (sym there) ∙ sym (high_has n low high size (n + m) (omega arith)) ∙ none (n + m)),
)
  where
    past_has : (s : List Bool) (m : ℕ) → length s ≤ m → has s m ≡ false
    past_has [] m past = refl
    past_has (x ∷ s) zero past = absurd (omega arith)
    past_has (x ∷ s) (suc m) past = past_has s m (omega arith)

-- a mark of the first half is put in
pub with_low : (n mark : ℕ) (low new high : List Bool) → length low ≡ n → length new ≡ n → mark < n → ((m : ℕ) → has new m ≡ ((m == mark) || has low m))
    → (m : ℕ) → has (new ++ high) m ≡ ((m == mark) || has (low ++ high) m)
with_low n mark low new high size same within each = halves n new high same (λ m. (m == mark) || has (low ++ high) m)
    (λ m below. each m ∙ ap (λ (b : Bool). (m == mark) || b) (sym (low_has n low high size m below)))
    (λ m past. let other : (m == mark) ≡ false = ne_eqb m mark (λ e. omega arith) in rw other (sym (high_has n low high size m past)))

-- a mark of the second
pub with_high : (n mark : ℕ) (low high new : List Bool) → length low ≡ n → n ≤ mark → ((m : ℕ) → has new m ≡ ((m == mark - n) || has high m))
    → (m : ℕ) → has (low ++ new) m ≡ ((m == mark) || has (low ++ high) m)
with_high n mark low high new size past each = halves n low new size (λ m. (m == mark) || has (low ++ high) m)
    (λ m below. let other : (m == mark) ≡ false = ne_eqb m mark (λ e. omega arith) in rw other (sym (low_has n low high size m below)))
    (λ m from. each (m - n) ∙ rw (shifted n m mark from past, high_has n low high size m from) refl)

-- a mark of the first half is taken out
pub without_low : (n mark : ℕ) (low new high : List Bool) → length low ≡ n → length new ≡ n → mark < n → ((m : ℕ) → has new m ≡ (has low m && not (m == mark)))
    → (m : ℕ) → has (new ++ high) m ≡ (has (low ++ high) m && not (m == mark))
without_low n mark low new high size same within each = halves n new high same (λ m. has (low ++ high) m && not (m == mark))
    (λ m below. each m ∙ ap (λ (b : Bool). b && not (m == mark)) (sym (low_has n low high size m below)))
    (λ m past. let other : (m == mark) ≡ false = ne_eqb m mark (λ e. omega arith) in rw other (stays (has high (m - n)) ∙ ap (λ (b : Bool). b && true) (sym (high_has n low high size m past))))

-- a mark of the second
pub without_high : (n mark : ℕ) (low high new : List Bool) → length low ≡ n → n ≤ mark → ((m : ℕ) → has new m ≡ (has high m && not (m == mark - n)))
    → (m : ℕ) → has (low ++ new) m ≡ (has (low ++ high) m && not (m == mark))
without_high n mark low high new size past each = halves n low new size (λ m. has (low ++ high) m && not (m == mark))
    (λ m below. let other : (m == mark) ≡ false = ne_eqb m mark (λ e. omega arith) in rw other (stays (has low m) ∙ ap (λ (b : Bool). b && true) (sym (low_has n low high size m below))))
    (λ m from. each (m - n) ∙ rw (shifted n m mark from past, high_has n low high size m from) refl)

-- the marks of two sets, half by half
pub both_halves : (n : ℕ) (op : Bool → Bool → Bool) (low high more_low more_high new_low new_high : List Bool) → length low ≡ n → length more_low ≡ n → length new_low ≡ n
    → ((m : ℕ) → has new_low m ≡ op (has low m) (has more_low m)) → ((m : ℕ) → has new_high m ≡ op (has high m) (has more_high m))
    → (m : ℕ) → has (new_low ++ new_high) m ≡ op (has (low ++ high) m) (has (more_low ++ more_high) m)
both_halves n op low high more_low more_high new_low new_high one two three lows highs =
    halves n new_low new_high three (λ m. op (has (low ++ high) m) (has (more_low ++ more_high) m))
    (λ m below. lows m ∙ rw (low_has n low high one m below, low_has n more_low more_high two m below) refl)
    (λ m past. highs (m - n) ∙ rw (high_has n low high one m past, high_has n more_low more_high two m past) refl)

-- the lowest mark is that of the first half
pub lowest_low : (n place : ℕ) (low high : List Bool) → length low ≡ n → place < n → IsLowest low place → IsLowest (low ++ high) place
lowest_low n place low high size within is = record {
  is_member = low_has n low high size place within ∙ is.is_member;
  none_below = λ m below. low_has n low high size m (omega arith) ∙ is.none_below m below;
}

-- or that of the second, where the first has none
pub lowest_high : (n place : ℕ) (low high : List Bool) → length low ≡ n → IsEmpty low → IsLowest high place → IsLowest (low ++ high) (n + place)
lowest_high n place low high size none is = record {
  is_member = let there : n + place - n ≡ place = omega arith in high_has n low high size (n + place) (omega arith) ∙ ap (has high) there ∙ is.is_member;
  none_below = λ m below. elim (cases_lt m n) [
    | inl first ↦ low_has n low high size m first ∙ none m
    | inr past ↦ high_has n low high size m past ∙ is.none_below (m - n) (omega arith)
  ];
}

-- two rows are the same where their halves are
pub same_halves : (low high other_low other_high : List Bool) → length low ≡ length other_low
    → pointwise beq (low ++ high) (other_low ++ other_high) ≡ (pointwise beq low other_low && pointwise beq high other_high)
same_halves [] high [] other_high size = refl
same_halves [] high (y ∷ ys) other_high size = absurd (omega (arith, size))
same_halves (x ∷ xs) high [] other_high size = absurd (omega (arith, size))
same_halves (x ∷ xs) high (y ∷ ys) other_high size =
    ap (λ (b : Bool). beq x y && b) (same_halves xs high ys other_high (omega arith)) ∙ assoc (beq x y) (pointwise beq xs ys) (pointwise beq high other_high)
  where
    assoc : (a b c : Bool) → (a && (b && c)) ≡ ((a && b) && c)
    assoc true b c = refl
    assoc false b c = refl
