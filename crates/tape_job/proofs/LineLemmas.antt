-- The lines of an input of which a front is known.
use Rattle.std.proofs.Common.{◌≡◌, ◌∙◌, ℕ, ◌+◌, ◌<◌, ◌≤◌, Bool, true, false, not, cond, nat_lt, List, [], ◌∷◌, ◌++◌, length, take, drop, Some, None, refl, sym, ap, true≢false, rules, arith, length-append}
use Rattle.std.specs.List.{position_or_len, prefix_len, onto_first}
use Rattle.std.proofs.Math.Seq.{take-append-add, drop-append-add, take-length, drop-length}
use Rattle.std.proofs.lemmas.Bool.{and_parts, eqb-true}
use Rattle.std.proofs.lemmas.Bool.Decides.{nat_tests}
use Rattle.block_scanner.specs.LineParts.{first_of, up_to_feed}
use Rattle.block_scanner.proofs.Prefixes.{cut, stops_at}
use Rattle.tape_job.specs.Lines.{is_feed, raw_lines, IsFirstLine}
use Rattle.tape_job.specs.Pieces.{lacks_feed}

pub is_no : (b : Bool) → not b ≡ true → b ≡ false
is_no true is = absurd (true≢false (sym is))
is_no false is = refl

is_yes : (b : Bool) → not b ≡ false → b ≡ true
is_yes true is = refl
is_yes false is = absurd (true≢false is)

-- the place that a test of a list finds
pub place : (b : Bool) (p n i : ℕ) → nat_lt p n ≡ b → cond b (Some p) None ≡ Some i → (p < n) × (p ≡ i)
place true p n i is e = (search (rules, is), cc)
place false p n i is e = absurd cc

-- ---- the lines

open_byte : (x : ℕ) (bytes : List ℕ) → is_feed x ≡ false → raw_lines (x ∷ bytes) ≡ onto_first x (raw_lines bytes)
open_byte x bytes plain = rw plain refl

-- a front without a line feed, a line feed, and what follows
pub whole_line : (front more : List ℕ) → lacks_feed front ≡ true → raw_lines (front ++ 10 ∷ more) ≡ (front ++ 10 ∷ []) ∷ raw_lines more
whole_line [] more lacks = refl
whole_line (x ∷ xs) more lacks =
    let parts = and_parts (not (is_feed x)) (lacks_feed xs) lacks in
    open_byte x (xs ++ 10 ∷ more) (is_no (is_feed x) parts.0) ∙ ap (onto_first x) (whole_line xs more parts.1)

-- a text without a line feed is one line
pub only_line : (x : ℕ) (xs : List ℕ) → lacks_feed (x ∷ xs) ≡ true → raw_lines (x ∷ xs) ≡ (x ∷ xs) ∷ []
only_line x [] lacks = open_byte x [] (is_no (is_feed x) (and_parts (not (is_feed x)) (lacks_feed []) lacks).0)
only_line x (y ∷ ys) lacks =
    let parts = and_parts (not (is_feed x)) (lacks_feed (y ∷ ys)) lacks in
    open_byte x (y ∷ ys) (is_no (is_feed x) parts.0) ∙ ap (onto_first x) (only_line y ys parts.1)

-- the first line of an input begins so
pub record BeginsWith (front bytes : List ℕ) : Type 0 where
  pub tail : List ℕ
  pub rest : List (List ℕ)
  pub lines : raw_lines bytes ≡ (front ++ tail) ∷ rest

goes_on_from : (x : ℕ) (more : List ℕ) (lines : List (List ℕ)) → raw_lines more ≡ lines → is_feed x ≡ false → BeginsWith (x ∷ []) (x ∷ more)
goes_on_from x more [] is plain = record { tail = []; rest = []; lines = open_byte x more plain ∙ ap (onto_first x) is }
goes_on_from x more (line ∷ rest) is plain = record { tail = line; rest = rest; lines = open_byte x more plain ∙ ap (onto_first x) is }

-- a front without a line feed
pub goes_on : (x : ℕ) (xs more : List ℕ) → lacks_feed (x ∷ xs) ≡ true → BeginsWith (x ∷ xs) ((x ∷ xs) ++ more)
goes_on x [] more lacks = goes_on_from x more (raw_lines more) refl (is_no (is_feed x) (and_parts (not (is_feed x)) (lacks_feed []) lacks).0)
goes_on x (y ∷ ys) more lacks =
    let parts = and_parts (not (is_feed x)) (lacks_feed (y ∷ ys)) lacks in
    let on = goes_on y ys more parts.1 in
    record { tail = on.tail; rest = on.rest; lines = open_byte x ((y ∷ ys) ++ more) (is_no (is_feed x) parts.0) ∙ ap (onto_first x) on.lines }

-- ---- the first line of a piece

-- it ends in the piece
pub record EndsFirst (taken : ℕ) (piece : List ℕ) : Type 0 where
  pub front : List ℕ
  pub lacks : lacks_feed front ≡ true
  pub line : take taken piece ≡ front ++ 10 ∷ []
  pub all : piece ≡ front ++ 10 ∷ drop taken piece
  pub some : 0 < taken
  pub within : taken ≤ length piece

at_feed : (taken : ℕ) (piece front following : List ℕ) → piece ≡ front ++ following → lacks_feed front ≡ true → prefix_len (λ byte. not (is_feed byte)) following ≡ 0
    → taken ≡ length front + 1 → length front < length piece → EndsFirst taken piece
at_feed taken piece front [] joined lacks stops is less = absurd (let long = ap length joined ∙ length-append front [] in omega (arith, long))
at_feed taken piece front (y ∷ ys) joined lacks stops is less =
    let feed : y ≡ 10 = eqb-true y 10 (is_yes (is_feed y) (stops_at (λ byte. not (is_feed byte)) y ys stops)) in
    let line : take taken piece ≡ front ++ 10 ∷ [] = rw (joined, is) (take-append-add front (y ∷ ys) 1 ∙ ap (λ x. front ++ x ∷ []) feed) in
    let rest : drop taken piece ≡ ys = rw (joined, is) (drop-append-add front (y ∷ ys) 1) in
    record {
      front = front;
      lacks = lacks;
      line = line;
      all = joined ∙ ap (λ x. front ++ x ∷ ys) feed ∙ ap (λ zs. front ++ 10 ∷ zs) (sym rest);
      some = omega (arith, is);
      within = omega (arith, is, less);
    }

pub ends_first : (taken : ℕ) (piece : List ℕ) → first_of piece ≡ (taken, true) → EndsFirst taken piece
unfolding first_of
ends_first taken piece is = by (nat_lt (position_or_len is_feed piece) (length piece)) refl is
  where
    by : (b : Bool) → nat_lt (position_or_len is_feed piece) (length piece) ≡ b → up_to_feed (cond b (Some (position_or_len is_feed piece)) None) (length piece) ≡ (taken, true)
        → EndsFirst taken piece
    by true less same =
        let found = cut (λ byte. not (is_feed byte)) piece in
        let here : position_or_len is_feed piece ≡ length found.front = found.long in
        let below : position_or_len is_feed piece < length piece = grind (arith, nat_tests) in
        let number : position_or_len is_feed piece + 1 ≡ taken = ap (λ (p : ℕ × Bool). p.0) same in
        at_feed taken piece found.front found.following found.joined found.holds found.stops (omega (arith, number, here)) (omega (arith, below, here))
    by false less same = absurd (true≢false (sym (ap (λ (p : ℕ × Bool). p.1) same)))

-- it does not
pub open_first : (taken : ℕ) (piece : List ℕ) → first_of piece ≡ (taken, false) → (taken ≡ length piece) × (lacks_feed piece ≡ true)
unfolding first_of
open_first taken piece is = by (nat_lt (position_or_len is_feed piece) (length piece)) refl is
  where
    lacks : (front following : List ℕ) → piece ≡ front ++ following → lacks_feed front ≡ true → length piece ≤ length front → lacks_feed piece ≡ true
    lacks front [] joined holds less = rw joined (rw (append_nil front) holds)
      where
        append_nil : (xs : List ℕ) → xs ++ [] ≡ xs
        append_nil [] = refl
        append_nil (x ∷ xs) = ap (λ l. x ∷ l) (append_nil xs)
    lacks front (y ∷ ys) joined holds less = absurd (let long = ap length joined ∙ length-append front (y ∷ ys) in omega (arith, long))

    by : (b : Bool) → nat_lt (position_or_len is_feed piece) (length piece) ≡ b → up_to_feed (cond b (Some (position_or_len is_feed piece)) None) (length piece) ≡ (taken, false)
        → (taken ≡ length piece) × (lacks_feed piece ≡ true)
    by true less same = absurd (true≢false (ap (λ (p : ℕ × Bool). p.1) same))
    by false less same =
        let found = cut (λ byte. not (is_feed byte)) piece in
        let here : position_or_len is_feed piece ≡ length found.front = found.long in
        let past : length piece ≤ position_or_len is_feed piece = grind (arith, nat_tests) in
        (sym (ap (λ (p : ℕ × Bool). p.0) same), lacks found.front found.following found.joined found.holds (omega (arith, past, here)))

-- ---- the first line of an input

pub first_line : (bytes : List ℕ) (n : ℕ) → 0 < length bytes → n ≡ (first_of bytes).0 → IsFirstLine bytes n
first_line bytes n some is = by (first_of bytes).1 refl
  where
    ended : EndsFirst n bytes → IsFirstLine bytes n
    ended ends = record {
      some = ends.some;
      within = ends.within;
      lines = ap raw_lines ends.all ∙ whole_line ends.front (drop n bytes) ends.lacks ∙ ap (λ line. line ∷ raw_lines (drop n bytes)) (sym ends.line);
    }

    only : (bytes : List ℕ) → 0 < length bytes → n ≡ length bytes → lacks_feed bytes ≡ true → IsFirstLine bytes n
    only [] some is lacks = absurd (omega (arith, some))
    only (x ∷ xs) some is lacks = record {
      some = omega (arith, some, is);
      within = omega (arith, is);
      lines = only_line x xs lacks ∙ rw (is, take-length (x ∷ xs), drop-length (x ∷ xs)) refl;
    }

    by : (b : Bool) → (first_of bytes).1 ≡ b → IsFirstLine bytes n
    by true feed = ended (ends_first n bytes (rw (is, sym feed) refl))
    by false feed = let open_line = open_first n bytes (rw (is, sym feed) refl) in only bytes some open_line.0 open_line.1
