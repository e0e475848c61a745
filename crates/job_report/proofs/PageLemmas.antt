-- Texts that are put one after the other, some of them written already.
use Rattle.std.proofs.Common.{◌≡◌, ◌∙◌, ℕ, ◌+◌, ◌^◌, ◌<◌, ◌≤◌, List, [], ◌++◌, length, take, drop, Option, None, Some, Result, Ok, Err, IsErr, refl, ap, sym, append_assoc, append-nil, add_assoc, add-zero, length-append, arith}
use Rattle.std.proofs.Math.Seq.{take-append-add}
use Rattle.std.proofs.lemmas.Bool.{false≢true}
use Rattle.std.proofs.lemmas.List.{take-append-le}
use Rattle.std.specs.List.{flat_map}
use Rattle.edge_io.proofs.MoveLemmas.{Counts-more, Counts-nothing, Grows-nothing}
use Rattle.edge_io.specs.Moves.{Grows, Counts, GrowsByFront}
use Rattle.job_report.specs.Pages.{Stage, Prints, Puts, stage}
use Rattle.job_report.proofs.RowLemmas.{Stands, flat_map-next, flat_map-split}

-- bytes, and then others
Grows-then : (old mid new : Option (List ℕ)) (first more : List ℕ) → Grows old mid first → Grows mid new more → Grows old new (first ++ more)
Grows-then None mid new first more g h = tt
Grows-then (Some xs) mid new first more g h =
    let grown : new ≡ Some (xs ++ first ++ more) = rw g at h in
    grown ∙ ap Some (append_assoc xs first more)

-- a text that goes to the page alone
pub Prints-page : (w : Option (List ℕ)) (k : Option ℕ) (old new text : List ℕ) → new ≡ old ++ text → Prints (stage w k old) (stage w k new) text
Prints-page w k old new text e = record { gone = []; split = sym e; written = Grows-nothing w; number = Counts-nothing k }

-- all that the page had is written
pub Prints-all : (v w : Option (List ℕ)) (j k : Option ℕ) (page new : List ℕ) → Grows v w page → Counts j k (length page) → new ≡ [] → Prints (stage v j page) (stage w k new) []
Prints-all v w j k page new g n e = record { gone = page; split = rw e refl; written = g; number = n }

-- a text, and then another
pub Prints-then : (a b c : Stage) (first more : List ℕ) → Prints a b first → Prints b c more → Prints a c (first ++ more)
Prints-then a b c first more p q = record {
  gone = p.gone ++ q.gone;
  split =
      sym (append_assoc a.page first more)
      ∙ ap (λ (bytes : List ℕ). bytes ++ more) p.split
      ∙ append_assoc p.gone b.page more
      ∙ ap (λ (bytes : List ℕ). p.gone ++ bytes) q.split
      ∙ sym (append_assoc p.gone q.gone c.page);
  written = Grows-then a.written b.written c.written p.gone q.gone p.written q.written;
  number = rw (length-append p.gone q.gone) (Counts-more a.count b.count c.count (length p.gone) (length q.gone) p.number q.number);
}

-- a line on a page that has been made ready for it
pub Prints-line : (a : Stage) (w : Option (List ℕ)) (k : Option ℕ) (page new line : List ℕ) → Prints a (stage w k page) [] → new ≡ page ++ line → Prints a (stage w k new) line
Prints-line a w k page new line p e = Prints-then a (stage w k page) (stage w k new) [] line p (Prints-page w k page new line e)

-- a front of a text is one of a longer text too
pub Front-more : (old new : Option (List ℕ)) (page first more : List ℕ) → GrowsByFront old new (page ++ first) → GrowsByFront old new (page ++ (first ++ more))
Front-more old new page first more f =
    let within : f.0 ≤ length (page ++ first) = f.1 in
    let same : take f.0 (page ++ (first ++ more)) ≡ take f.0 (page ++ first) =
    ap (take f.0) (sym (append_assoc page first more)) ∙ take-append-le f.0 (page ++ first) more within in
    let long : length (page ++ (first ++ more)) ≡ length (page ++ first) + length more =
    ap length (sym (append_assoc page first more)) ∙ length-append (page ++ first) more in
    (f.0, omega (arith, long, within), rw same f.2)

-- a text, and then a front of another
pub Front-then : (a b : Stage) (new : Option (List ℕ)) (first more : List ℕ) → Prints a b first → GrowsByFront b.written new (b.page ++ more)
    → GrowsByFront a.written new (a.page ++ (first ++ more))
Front-then a b new first more p f =
    let all : a.page ++ (first ++ more) ≡ p.gone ++ (b.page ++ more) =
    sym (append_assoc a.page first more) ∙ ap (λ (bytes : List ℕ). bytes ++ more) p.split ∙ append_assoc p.gone b.page more in
    let long : length (p.gone ++ (b.page ++ more)) ≡ length p.gone + length (b.page ++ more) = length-append p.gone (b.page ++ more) in
    let within : f.0 ≤ length (b.page ++ more) = f.1 in
    rw all (
      length p.gone + f.0,
      omega (arith, long, within),
      rw (take-append-add p.gone (b.page ++ more) f.0) (Grows-then a.written b.written new p.gone (take f.0 (b.page ++ more)) p.written f.2),
    )

-- a call that fails leaves a front
pub Puts-failed : {T E : Type 0} (a b : Stage) (r : Result T E) (text : List ℕ) → IsErr r → GrowsByFront a.written b.written (a.page ++ text) → Puts a b r text
Puts-failed a b (Ok x) text failed front = absurd (false≢true failed)
Puts-failed a b (Err e) text failed front = front

-- a text that went well, and then one that may fail
pub Puts-then : {T E : Type 0} (a b c : Stage) (r : Result T E) (first more : List ℕ) → Prints a b first → Puts b c r more → Puts a c r (first ++ more)
Puts-then a b c (Ok x) first more p q = Prints-then a b c first more p q
Puts-then a b c (Err e) first more p q = Front-then a b c.written first more p q

-- the call that fails ends the text
pub Puts-cut : {T E : Type 0} (a b : Stage) (r : Result T E) (first more : List ℕ) → IsErr r → GrowsByFront a.written b.written (a.page ++ first) → Puts a b r (first ++ more)
Puts-cut a b r first more failed front = Puts-failed a b r (first ++ more) failed (Front-more a.written b.written a.page first more front)

-- what is made of the elements so far, and of the next one
pub Prints-next : {X : Type 0} (a b c : Stage) (f : X → List ℕ) (xs : List X) (place : ℕ) (x : X) → Stands xs place x
    → Prints a b (flat_map f (take place xs)) → Prints b c (f x) → Prints a c (flat_map f (take (place + 1) xs))
Prints-next a b c f xs place x at p q = rw (flat_map-next f xs place x at) (Prints-then a b c (flat_map f (take place xs)) (f x) p q)

-- the same where the next one fails
pub Puts-next : {X T E : Type 0} (a b c : Stage) (r : Result T E) (f : X → List ℕ) (xs : List X) (place : ℕ) (x : X) → Stands xs place x
    → Prints a b (flat_map f (take place xs)) → IsErr r → GrowsByFront b.written c.written (b.page ++ f x) → Puts a c r (flat_map f xs)
Puts-next a b c r f xs place x at p failed front =
    rw (flat_map-split f xs place x at)
    (Puts-then a b c r (flat_map f (take place xs)) (f x ++ flat_map f (drop (place + 1) xs)) p
    (Puts-cut b c r (f x) (flat_map f (drop (place + 1) xs)) failed front))
