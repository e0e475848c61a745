-- The numbers tell which channels are joined.
use Rattle.axis_sets.specs.declared.limits.TheConstants.{CHANNEL_PLACES}
use Rattle.std.proofs.Common.{◌≡◌, ℕ, ◌<◌, ◌⊎◌, ◌==◌, true, false, inl, inr, List, [], ◌∷◌, ◌++◌, refl, sym, ap, ◌∙◌, if◌then◌else◌}
use Rattle.std.proofs.lemmas.Bool.{cases_Bool, eqb-true, eq-eqb}
use Rattle.order_clocks.specs.Chains.{IsPath, Leads}
use Rattle.std.specs.Prelude.{slice_index}
use Rattle.order_clocks.specs.Groups.{relabelled, labels}
use Rattle.order_clocks.specs.Partners.{AreAllLinked}
use Rattle.sync_types.specs.Events.{Pair, ArePaired, IsChain}
use Rattle.sync_types.specs.Events as events

relabelled_in : (label : ℕ → ℕ) (p : Pair) (c : ℕ) → (label c == label p.one) ≡ true → relabelled label p c ≡ label p.two
unfolding relabelled
relabelled_in label p c e = rw e refl

relabelled_out : (label : ℕ → ℕ) (p : Pair) (c : ℕ) → (label c == label p.one) ≡ false → relabelled label p c ≡ label c
unfolding relabelled
relabelled_out label p c e = rw e refl

relabelled_same : (label : ℕ → ℕ) (p : Pair) (x y : ℕ) → label x ≡ label y → relabelled label p x ≡ relabelled label p y
unfolding relabelled
relabelled_same label p x y e = rw e refl

-- one channel, or a list of pairs
abbrev AreLinked : List Pair → ℕ → ℕ → Type 0
AreLinked ps x y = (x ≡ y) ⊎ Leads (ArePaired ps) x y

-- chains
joined : {E : Type 0} (Next : E → E → Type 0) (a b d : E) → Leads Next a b → Leads Next b d → Leads Next a d
joined {E} Next a b d one two = (one.0 ++ (b ∷ two.0), through one.0 a one.1)
  where
    through : (es : List E) (x : E) → IsPath Next x es b → IsPath Next x (es ++ (b ∷ two.0)) d
    through [] x path = (path, two.1)
    through (e ∷ es) x path = (path.0, through es e path.1)

mapped : {E : Type 0} (Next Other : E → E → Type 0) → ((x y : E) → Next x y → Other x y) → (es : List E) (a b : E) → IsPath Next a es b → IsPath Other a es b
mapped Next Other f [] a b path = f a b path
mapped Next Other f (e ∷ es) a b path = (f a e path.0, mapped Next Other f es e b path.1)

paired_back : (ps : List Pair) (x y : ℕ) → ArePaired ps x y → ArePaired ps y x
paired_back [] x y h = elim h [ ]
paired_back (p ∷ ps) x y h = elim h [ inl a ↦ inr (inl a) | inr (inl b) ↦ inl b | inr (inr rest) ↦ inr (inr (paired_back ps x y rest)) ]

leads_back : (ps : List Pair) (es : List ℕ) (x y : ℕ) → IsPath (ArePaired ps) x es y → Leads (ArePaired ps) y x
leads_back ps [] x y path = ([], paired_back ps x y path)
leads_back ps (e ∷ es) x y path = joined (ArePaired ps) y e x (leads_back ps es e y path.1) ([], paired_back ps x e path.0)

linked_back : (ps : List Pair) (x y : ℕ) → AreLinked ps x y → AreLinked ps y x
linked_back ps x y (inl e) = inl (sym e)
linked_back ps x y (inr path) = inr (leads_back ps path.0 x y path.1)

linked_on : (ps : List Pair) (x y z : ℕ) → AreLinked ps x y → AreLinked ps y z → AreLinked ps x z
linked_on ps x y z (inl e) two = rw (sym e) at two
linked_on ps x y z (inr one) (inl e) = inr (rw e at one)
linked_on ps x y z (inr one) (inr two) = inr (joined (ArePaired ps) x y z one two)

wider : (p : Pair) (ps : List Pair) (x y : ℕ) → AreLinked ps x y → AreLinked (p ∷ ps) x y
wider p ps x y (inl e) = inl e
wider p ps x y (inr path) = inr (path.0, mapped (ArePaired ps) (ArePaired (p ∷ ps)) (λ a b h. inr (inr h)) path.0 x y path.1)

linked_from : (ps : List Pair) (x y : ℕ) → labels ps x ≡ labels ps y → AreLinked ps x y
linked_from [] x y e = inl e
linked_from (p ∷ ps) x y e = elim (cases_Bool (labels ps x == labels ps p.one)) [
  | inl x_in ↦
      let to_one : AreLinked (p ∷ ps) x p.one = wider p ps x p.one (linked_from ps x p.one (eqb-true (labels ps x) (labels ps p.one) x_in)) in
      elim (cases_Bool (labels ps y == labels ps p.one)) [
        | inl y_in ↦ linked_on (p ∷ ps) x p.one y to_one (linked_back (p ∷ ps) y p.one (wider p ps y p.one (linked_from ps y p.one (eqb-true (labels ps y) (labels ps p.one) y_in))))
        | inr y_out ↦
            let f : labels ps p.two ≡ labels ps y = sym (relabelled_in (labels ps) p x x_in) ∙ (e ∙ relabelled_out (labels ps) p y y_out) in
            linked_on (p ∷ ps) x p.one y to_one (linked_on (p ∷ ps) p.one p.two y (across p ps) (wider p ps p.two y (linked_from ps p.two y f)))
      ]
  | inr x_out ↦ elim (cases_Bool (labels ps y == labels ps p.one)) [
    | inl y_in ↦
        let f : labels ps x ≡ labels ps p.two = sym (relabelled_out (labels ps) p x x_out) ∙ (e ∙ relabelled_in (labels ps) p y y_in) in
        let to_two : AreLinked (p ∷ ps) x p.two = wider p ps x p.two (linked_from ps x p.two f) in
        let from_one : AreLinked (p ∷ ps) p.one y = linked_back (p ∷ ps) y p.one (wider p ps y p.one (linked_from ps y p.one (eqb-true (labels ps y) (labels ps p.one) y_in))) in
        linked_on (p ∷ ps) x p.two y to_two (linked_on (p ∷ ps) p.two p.one y (linked_back (p ∷ ps) p.one p.two (across p ps)) from_one)
    | inr y_out ↦ wider p ps x y (linked_from ps x y (sym (relabelled_out (labels ps) p x x_out) ∙ (e ∙ relabelled_out (labels ps) p y y_out)))
  ]
]
  where
    across : (p : Pair) (ps : List Pair) → AreLinked (p ∷ ps) p.one p.two
    across p ps = inr ([], inl (refl, refl))

paired_same : (ps : List Pair) (x y : ℕ) → ArePaired ps x y → labels ps x ≡ labels ps y
paired_same [] x y h = elim h [ ]
paired_same (p ∷ ps) x y h = elim h [
  | inl a ↦ ap (relabelled (labels ps) p) (sym a.0) ∙ (head p ps ∙ ap (relabelled (labels ps) p) a.1)
  | inr (inl b) ↦ ap (relabelled (labels ps) p) (sym b.1) ∙ (sym (head p ps) ∙ ap (relabelled (labels ps) p) b.0)
  | inr (inr rest) ↦ relabelled_same (labels ps) p x y (paired_same ps x y rest)
]
  where
    head : (p : Pair) (ps : List Pair) → relabelled (labels ps) p p.one ≡ relabelled (labels ps) p p.two
    head p ps = relabelled_in (labels ps) p p.one (eq-eqb (labels ps p.one) (labels ps p.one) refl) ∙ elim (cases_Bool (labels ps p.two == labels ps p.one)) [
      | inl on ↦ sym (relabelled_in (labels ps) p p.two on)
      | inr off ↦ sym (relabelled_out (labels ps) p p.two off)
    ]

path_same : (ps : List Pair) (es : List ℕ) (x y : ℕ) → IsPath (ArePaired ps) x es y → labels ps x ≡ labels ps y
path_same ps [] x y path = paired_same ps x y path
path_same ps (e ∷ es) x y path = paired_same ps x e path.0 ∙ path_same ps es e y path.1

linked_to : (ps : List Pair) (x y : ℕ) → AreLinked ps x y → labels ps x ≡ labels ps y
linked_to ps x y (inl e) = ap (labels ps) e
linked_to ps x y (inr path) = path_same ps path.0 x y path.1

-- chains of pairs as lists of neighbours
to_chain : (ps : List Pair) (es : List ℕ) (c d : ℕ) → IsPath (ArePaired ps) c es d → IsChain ps c es d
to_chain ps [] c d path = path
to_chain ps (e ∷ es) c d path = (path.0, to_chain ps es e d path.1)

from_chain : (ps : List Pair) (es : List ℕ) (c d : ℕ) → IsChain ps c es d → IsPath (ArePaired ps) c es d
from_chain ps [] c d path = path
from_chain ps (e ∷ es) c d path = (path.0, from_chain ps es e d path.1)

pub chained_from : (ps : List Pair) (c d : ℕ) → labels ps c ≡ labels ps d → events.AreLinked ps c d
chained_from ps c d e = elim (linked_from ps c d e) [ inl same ↦ inl same | inr path ↦ inr (path.0, to_chain ps path.0 c d path.1) ]

pub chained_to : (ps : List Pair) (c d : ℕ) → events.AreLinked ps c d → labels ps c ≡ labels ps d
chained_to ps c d (inl same) = ap (labels ps) same
chained_to ps c d (inr path) = linked_to ps c d (inr (path.0, from_chain ps path.0 c d path.1))

to_linked : (ps : List Pair) (c d : ℕ) → events.AreLinked ps c d → AreLinked ps c d
to_linked ps c d (inl same) = inl same
to_linked ps c d (inr path) = inr (path.0, from_chain ps path.0 c d path.1)

from_linked : (ps : List Pair) (c d : ℕ) → AreLinked ps c d → events.AreLinked ps c d
from_linked ps c d (inl same) = inl same
from_linked ps c d (inr path) = inr (path.0, to_chain ps path.0 c d path.1)

pub chained_on : (ps : List Pair) (c d e : ℕ) → events.AreLinked ps c d → events.AreLinked ps d e → events.AreLinked ps c e
chained_on ps c d e one two = from_linked ps c e (linked_on ps c d e (to_linked ps c d one) (to_linked ps d e two))

pub chained_back : (ps : List Pair) (c d : ℕ) → events.AreLinked ps c d → events.AreLinked ps d c
chained_back ps c d one = from_linked ps d c (linked_back ps c d (to_linked ps c d one))

pub chained_pair : (ps : List Pair) (c d : ℕ) → ArePaired ps c d → events.AreLinked ps c d
chained_pair ps c d pair = inr ([], pair)

-- one number in place of another
abbrev pub IsRelabelled : List ℕ → List ℕ → ℕ → ℕ → Type 0
IsRelabelled old new a b = (c : ℕ) → c < CHANNEL_PLACES → slice_index new c ≡ (if slice_index old c == slice_index old a then slice_index old b else slice_index old c)

taken : (old new : List ℕ) (a b c : ℕ) → IsRelabelled old new a b → c < CHANNEL_PLACES → (slice_index old c == slice_index old a) ≡ true → slice_index new c ≡ slice_index old b
taken old new a b c is below on = is c below ∙ rw on refl

left : (old new : List ℕ) (a b c : ℕ) → IsRelabelled old new a b → c < CHANNEL_PLACES → (slice_index old c == slice_index old a) ≡ false → slice_index new c ≡ slice_index old c
left old new a b c is below off = is c below ∙ rw off refl

pub relabel_keeps : (old new : List ℕ) (a b c d : ℕ) → IsRelabelled old new a b → c < CHANNEL_PLACES → d < CHANNEL_PLACES → slice_index old c ≡ slice_index old d → slice_index new c ≡ slice_index new d
relabel_keeps old new a b c d is c_below d_below e = is c c_below ∙ rw e (sym (is d d_below))

pub relabel_joins : (old new : List ℕ) (a b : ℕ) → IsRelabelled old new a b → a < CHANNEL_PLACES → b < CHANNEL_PLACES → slice_index new a ≡ slice_index new b
relabel_joins old new a b is a_below b_below = taken old new a b a is a_below (eq-eqb _ _ refl) ∙ elim (cases_Bool (slice_index old b == slice_index old a)) [
  | inl on ↦ sym (taken old new a b b is b_below on)
  | inr off ↦ sym (left old new a b b is b_below off)
]

pub relabel_links : (ps : List Pair) (old new : List ℕ) (a b : ℕ) → IsRelabelled old new a b → a < CHANNEL_PLACES → b < CHANNEL_PLACES → ArePaired ps a b → AreAllLinked ps old → AreAllLinked ps new
relabel_links ps old new a b is a_below b_below pair all c d c_below d_below e =
    let a_b = chained_pair ps a b pair in
    elim (cases_Bool (slice_index old c == slice_index old a)) [
      | inl c_on ↦
          let c_a = all c a c_below a_below (eqb-true _ _ c_on) in
          elim (cases_Bool (slice_index old d == slice_index old a)) [
            | inl d_on ↦ chained_on ps c a d c_a (chained_back ps d a (all d a d_below a_below (eqb-true _ _ d_on)))
            | inr d_off ↦
                let b_d = all b d b_below d_below (sym (taken old new a b c is c_below c_on) ∙ (e ∙ left old new a b d is d_below d_off)) in
                chained_on ps c a d c_a (chained_on ps a b d a_b b_d)
          ]
      | inr c_off ↦ elim (cases_Bool (slice_index old d == slice_index old a)) [
        | inl d_on ↦
            let c_b = all c b c_below b_below (sym (left old new a b c is c_below c_off) ∙ (e ∙ taken old new a b d is d_below d_on)) in
            let a_d = chained_back ps d a (all d a d_below a_below (eqb-true _ _ d_on)) in
            chained_on ps c b d c_b (chained_on ps b a d (chained_back ps a b a_b) a_d)
        | inr d_off ↦ all c d c_below d_below (sym (left old new a b c is c_below c_off) ∙ (e ∙ left old new a b d is d_below d_off))
      ]
    ]
