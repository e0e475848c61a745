-- Members of sets, and of lists.
use Rattle.std.proofs.Common.{◌≡◌, ℕ, ◌⊎◌, ◌↔◌, Bool, true, inl, inr, List, [], ◌∷◌, ◌++◌, map, refl, sym, ap, ◌∙◌}
use Rattle.axis_sets.specs.Sets.{has, members_of}
use Rattle.axis_sets.proofs.SetLaws.{list_any-members_of}
use Rattle.order_clocks.specs.Chains.{IsIn}
use Rattle.order_clocks.proofs.CounterLaws.{is_in, contains_from}

-- the member test and the list of members
pub in_members : (s : List Bool) (x : ℕ) → has s x ≡ true → IsIn x (members_of s)
in_members s x on = is_in (members_of s) x (list_any-members_of s x ∙ on)

pub members_in : (s : List Bool) (x : ℕ) → IsIn x (members_of s) → has s x ≡ true
members_in s x within = sym (list_any-members_of s x) ∙ contains_from (members_of s) x within

pub in_append : {A : Type 0} (a : A) (xs ys : List A) → IsIn a (xs ++ ys) ↔ (IsIn a xs ⊎ IsIn a ys)
in_append a [] ys = ((λ h. inr h), (λ h. elim h [ inl bad ↦ absurd bad | inr later ↦ later ]))
in_append a (x ∷ xs) ys = (
  (λ h. elim h [ inl e ↦ inl (inl e) | inr rest ↦ elim ((in_append a xs ys).0 rest) [ inl one ↦ inl (inr one) | inr two ↦ inr two ] ]),
  (λ h. elim h [ inl one ↦ elim one [ inl e ↦ inl e | inr rest ↦ inr ((in_append a xs ys).1 (inl rest)) ] | inr two ↦ inr ((in_append a xs ys).1 (inr two)) ]),
)

pub in_map : {A : Type 0} (f : ℕ → A) (x : ℕ) (xs : List ℕ) → IsIn x xs → IsIn (f x) (map f xs)
in_map f x [] within = absurd within
in_map f x (y ∷ ys) within = elim within [ inl e ↦ inl (ap f e) | inr later ↦ inr (in_map f x ys later) ]

pub map_in : {A : Type 0} (f : ℕ → A) (a : A) (xs : List ℕ) → IsIn a (map f xs) → (x : ℕ) × (IsIn x xs × (a ≡ f x))
map_in f a [] within = absurd within
map_in f a (y ∷ ys) within = elim within [ inl e ↦ (y, (inl refl, e)) | inr later ↦ let w = map_in f a ys later in (w.0, (inr w.1.0, w.1.1)) ]
