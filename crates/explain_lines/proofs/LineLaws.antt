-- Laws of lines, and of where they begin.
use Rattle.std.proofs.Common.{◌≡◌, ℕ, zero, suc, ◌+◌, ◌-◌, ◌<◌, ◌≤◌, ◌==◌, Bool, true, false, List, [], ◌∷◌, length, take, drop, get_or, drop-cons, add-one, None, Some, refl, sym, ap, arith}
use Rattle.std.proofs.lemmas.Bool.{ne_eqb}
use Rattle.std.proofs.lemmas.Grind.{common_steps}
use Rattle.std.specs.List.{slice_get}
use Rattle.std.specs.Option.{unwrap_or}
use Rattle.explain_lines.specs.Lines.{nth_line, starts_from, line_starts, line_text}
use Rattle.explain_lines.specs.Trimmed.{trimmed}
use native.Mathlib.Numerals.{unary_clauses}

-- where a line begins and ends that stands in these bytes, of which the first stands at a place
pub record IsLine (k p : ℕ) (bytes : List ℕ) (from upto : ℕ) : Type 0 where
  pub low : p ≤ from
  pub order : from ≤ upto
  pub high : upto ≤ p + length bytes
  pub line : take (upto - from) (drop (from - p) bytes) ≡ nth_line k bytes

-- the next line begins behind the place of the bytes
later_by : (p byte : ℕ) (bytes : List ℕ) (t : Bool) → (byte == 10) ≡ t → ((j f : ℕ) → slice_get (starts_from (p + 1) bytes) j ≡ Some f → (p + 1) + 1 ≤ f)
    → (j f : ℕ) → slice_get (starts_from p (byte ∷ bytes)) j ≡ Some f → p + 1 ≤ f
later_by p byte bytes true is ih zero f e = let h : Some (p + 1) ≡ Some f = rw is at e in grind arith
later_by p byte bytes true is ih (suc j) f e = let h : slice_get (starts_from (p + 1) bytes) j ≡ Some f = rw is at e in omega (arith, ih j f h)
later_by p byte bytes false is ih j f e = let h : slice_get (starts_from (p + 1) bytes) j ≡ Some f = rw is at e in omega (arith, ih j f h)

pub later : (p : ℕ) (bytes : List ℕ) (j f : ℕ) → slice_get (starts_from p bytes) j ≡ Some f → p + 1 ≤ f
later p [] j f e = grind arith
later p (byte ∷ bytes) j f e = later_by p byte bytes (byte == 10) refl (later (p + 1) bytes) j f e

-- a line of the rest is one of all
behind_feed : (k p byte from upto : ℕ) (bytes : List ℕ) → (byte == 10) ≡ true → IsLine k (p + 1) bytes from upto → IsLine (suc k) p (byte ∷ bytes) from upto
behind_feed k p byte from upto bytes is h =
    let e : from - p ≡ suc (from - (p + 1)) = omega (arith, h.low) in
    record { low = omega (arith, h.low); order = h.order; high = omega (arith, h.high); line = rw (e, is) h.line }

behind_byte : (k p byte from upto : ℕ) (bytes : List ℕ) → (byte == 10) ≡ false → IsLine (suc k) (p + 1) bytes from upto → IsLine (suc k) p (byte ∷ bytes) from upto
behind_byte k p byte from upto bytes is h =
    let e : from - p ≡ suc (from - (p + 1)) = omega (arith, h.low) in
    record { low = omega (arith, h.low); order = h.order; high = omega (arith, h.high); line = rw (e, is) h.line }

-- a byte more at the front of the first line
at_front : (p byte upto : ℕ) (bytes : List ℕ) → (byte == 10) ≡ false → IsLine zero (p + 1) bytes (p + 1) upto → IsLine zero p (byte ∷ bytes) p upto
at_front p byte upto bytes is h =
    let e : upto - p ≡ suc (upto - (p + 1)) = omega (arith, h.order) in
    let z : p - p ≡ 0 = omega arith in
    let y : (p + 1) - (p + 1) ≡ 0 = omega arith in
    let l : take (upto - (p + 1)) bytes ≡ nth_line zero bytes = rw y at h.line in
    record { low = omega arith; order = omega (arith, h.order); high = omega (arith, h.high); line = rw (z, e, is) (ap (λ (xs : List ℕ). byte ∷ xs) l) }

-- the line that begins at a start, up to the next one or the end of the bytes
line_at_by : (k p byte from : ℕ) (bytes : List ℕ) (t : Bool) → (byte == 10) ≡ t
    → ((j f : ℕ) → slice_get ((p + 1) ∷ starts_from (p + 1) bytes) j ≡ Some f → IsLine j (p + 1) bytes f (unwrap_or (slice_get (starts_from (p + 1) bytes) j) ((p + 1) + length bytes)))
    → slice_get (p ∷ starts_from p (byte ∷ bytes)) k ≡ Some from → IsLine k p (byte ∷ bytes) from (unwrap_or (slice_get (starts_from p (byte ∷ bytes)) k) (p + length (byte ∷ bytes)))
line_at_by zero p byte from bytes true is ih e =
    let same : p ≡ from = grind arith in
    let z : p - p ≡ 0 = omega arith in
    let o : (p + 1) - p ≡ 1 = omega arith in
    rw (← same, is) (record { low = omega arith; order = omega arith; high = omega arith; line = rw (z, o, is) refl })
line_at_by (suc k) p byte from bytes true is ih e =
    let h : slice_get ((p + 1) ∷ starts_from (p + 1) bytes) k ≡ Some from = rw is at e in
    let long : p + length (byte ∷ bytes) ≡ (p + 1) + length bytes = omega arith in
    rw (long, is) (behind_feed k p byte from (unwrap_or (slice_get (starts_from (p + 1) bytes) k) ((p + 1) + length bytes)) bytes is (ih k from h))
line_at_by zero p byte from bytes false is ih e =
    let same : p ≡ from = grind arith in
    let long : p + length (byte ∷ bytes) ≡ (p + 1) + length bytes = omega arith in
    rw (← same, long, is) (at_front p byte (unwrap_or (slice_get (starts_from (p + 1) bytes) zero) ((p + 1) + length bytes)) bytes is (ih zero (p + 1) refl))
line_at_by (suc k) p byte from bytes false is ih e =
    let h : slice_get ((p + 1) ∷ starts_from (p + 1) bytes) (suc k) ≡ Some from = rw is at e in
    let long : p + length (byte ∷ bytes) ≡ (p + 1) + length bytes = omega arith in
    rw (long, is) (behind_byte k p byte from (unwrap_or (slice_get (starts_from (p + 1) bytes) (suc k)) ((p + 1) + length bytes)) bytes is (ih (suc k) from h))

pub line_at : (k p from : ℕ) (bytes : List ℕ) → slice_get (p ∷ starts_from p bytes) k ≡ Some from → IsLine k p bytes from (unwrap_or (slice_get (starts_from p bytes) k) (p + length bytes))
line_at zero p from [] e =
    let same : p ≡ from = grind arith in
    rw (← same) (record { low = omega arith; order = omega arith; high = omega arith; line = grind (arith, common_steps) })
line_at (suc k) p from [] e = grind arith
line_at k p from (byte ∷ bytes) e = line_at_by k p byte from bytes (byte == 10) refl (λ j f. line_at j (p + 1) f bytes) e

-- where no start is there is no line
no_line_by : (k p byte : ℕ) (bytes : List ℕ) (t : Bool) → (byte == 10) ≡ t → ((j : ℕ) → slice_get ((p + 1) ∷ starts_from (p + 1) bytes) j ≡ None → nth_line j bytes ≡ [])
    → slice_get (p ∷ starts_from p (byte ∷ bytes)) k ≡ None → nth_line k (byte ∷ bytes) ≡ []
no_line_by zero p byte bytes t is ih e = grind arith
no_line_by (suc k) p byte bytes true is ih e = let h : slice_get ((p + 1) ∷ starts_from (p + 1) bytes) k ≡ None = rw is at e in rw is (ih k h)
no_line_by (suc k) p byte bytes false is ih e = let h : slice_get ((p + 1) ∷ starts_from (p + 1) bytes) (suc k) ≡ None = rw is at e in rw is (ih (suc k) h)

pub no_line : (k p : ℕ) (bytes : List ℕ) → slice_get (p ∷ starts_from p bytes) k ≡ None → nth_line k bytes ≡ []
no_line zero p [] e = refl
no_line (suc k) p [] e = refl
no_line k p (byte ∷ bytes) e = no_line_by k p byte bytes (byte == 10) refl (λ j. no_line j (p + 1) bytes) e

-- what a start is found at, and what a byte is that is passed
pub starts_at_feed : (input : List ℕ) (place : ℕ) → place < length input → get_or input place 0 ≡ 10 → starts_from place (drop place input) ≡ (place + 1) ∷ starts_from (place + 1) (drop (place + 1) input)
starts_at_feed input place within feed = rw (drop-cons input place 0, feed) (ap (λ n. (place + 1) ∷ starts_from (place + 1) (drop n input)) (sym (add-one place)))

pub starts_at_byte : (input : List ℕ) (place : ℕ) → place < length input → (get_or input place 0 ≡ 10 → ⊥) → starts_from place (drop place input) ≡ starts_from (place + 1) (drop (place + 1) input)
starts_at_byte input place within apart =
    let no : (get_or input place 0 == 10) ≡ false = ne_eqb (get_or input place 0) 10 apart in
    rw (drop-cons input place 0, no) (ap (λ n. starts_from (place + 1) (drop n input)) (sym (add-one place)))

-- the part of an input that is a line, from its start up to the next one
pub record IsPart (input : List ℕ) (place from upto : ℕ) : Type 0 where
  pub order : from ≤ upto
  pub within : upto ≤ length input
  pub line : take (upto - from) (drop from input) ≡ nth_line place input

pub line_found : (input : List ℕ) (place from : ℕ) → slice_get (line_starts input) place ≡ Some from → IsPart input place from (unwrap_or (slice_get (line_starts input) (place + 1)) (length input))
line_found input place from e =
    let upto : ℕ = unwrap_or (slice_get (starts_from 0 input) place) (length input) in
    let z : 0 + length input ≡ length input = omega arith in
    let h : IsLine place 0 input from upto = rw z at (line_at place 0 from input e) in
    let m : from - 0 ≡ from = omega arith in
    rw (add-one place) (record { order = h.order; within = omega (arith, h.high); line = rw m at h.line })

pub no_line_found : (input : List ℕ) (place : ℕ) → slice_get (line_starts input) place ≡ None → [] ≡ nth_line place input
no_line_found input place e = sym (no_line place 0 input e)

-- a line by its number from 1
pub text_of_none : (input : List ℕ) (line : ℕ) → line ≡ 0 → [] ≡ line_text input line
unfolding line_text
text_of_none input line e = rw e

pub text_of_line : (input : List ℕ) (line : ℕ) → (line ≡ 0 → ⊥) → trimmed (nth_line (line - 1) input) ≡ line_text input line
unfolding line_text
text_of_line input zero some = absurd (some refl)
text_of_line input (suc n) some = simp unary_clauses
