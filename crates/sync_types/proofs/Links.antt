-- To be one event is an equivalence.
use Rattle.std.proofs.Common.{subst, inl, inr, ◌≡◌, ℕ, Bool, true, false, List, [], ◌∷◌, ◌++◌, refl, sym, ap, ◌∙◌, arith}
use Rattle.sync_types.specs.Boards.{Board}
use Rattle.sync_types.specs.Events.{Pair, ArePaired, IsChain, AreLinked, AreJoined, goings_at, pairs_of}
use Rattle.sync_types.specs.RunLaws.{AreOneAlike, HasOneLowestName}
use Rattle.sync_types.specs.Turns.{Move}
use Rattle.sync_types.specs.declared.runs.EventId.{EventId}

paired_back : (ps : List Pair) (c d : ℕ) → ArePaired ps c d → ArePaired ps d c
paired_back [] c d paired = elim paired [ ]
paired_back (p ∷ ps) c d paired = elim paired [
  | inl one ↦ inr (inl one)
  | inr rest ↦ elim rest [ inl other ↦ inl other | inr more ↦ inr (inr (paired_back ps c d more)) ]
]

-- a chain and one more pair
chain_more : (ps : List Pair) (c d e : ℕ) (between : List ℕ) → IsChain ps c between d → ArePaired ps d e → IsChain ps c (between ++ d ∷ []) e
chain_more ps c d e [] chain pair = (chain, pair)
chain_more ps c d e (x ∷ xs) chain pair = (chain.0, chain_more ps x d e xs chain.1 pair)

chain_back : (ps : List Pair) (c d : ℕ) (between : List ℕ) → IsChain ps c between d → (back : List ℕ) × IsChain ps d back c
chain_back ps c d [] chain = ([], paired_back ps c d chain)
chain_back ps c d (x ∷ xs) chain =
    let rest = chain_back ps x d xs chain.1 in
    (rest.0 ++ x ∷ [], chain_more ps d x c rest.0 rest.1 (paired_back ps c x chain.0))

chain_on : (ps : List Pair) (c d e : ℕ) (between further : List ℕ) → IsChain ps c between d → IsChain ps d further e → IsChain ps c (between ++ d ∷ further) e
chain_on ps c d e [] further chain next = (chain, next)
chain_on ps c d e (x ∷ xs) further chain next = (chain.0, chain_on ps x d e xs further chain.1 next)

linked_back : (ps : List Pair) (c d : ℕ) → AreLinked ps c d → AreLinked ps d c
linked_back ps c d linked = elim linked [ inl same ↦ inl (sym same) | inr chain ↦ inr (chain_back ps c d chain.0 chain.1) ]

linked_on : (ps : List Pair) (c d e : ℕ) → AreLinked ps c d → AreLinked ps d e → AreLinked ps c e
linked_on ps c d e one two = elim one [
  | inl same ↦ subst (λ (x : ℕ). AreLinked ps x e) (sym same) two
  | inr chain ↦ elim two [
    | inl same ↦ subst (λ (x : ℕ). AreLinked ps c x) same (inr chain)
    | inr further ↦ inr (chain.0 ++ d ∷ further.0, chain_on ps c d e chain.0 further.0 chain.1 further.1)
  ]
]

joined_itself : (b : Board) (moves : List Move) (e : EventId) (go : Bool) → AreJoined b moves e e go
joined_itself b moves e true = inl refl
joined_itself b moves e false = refl

joined_back : (b : Board) (moves : List Move) (e f : EventId) (go : Bool) → e.step ≡ f.step → AreJoined b moves e f go → AreJoined b moves f e go
joined_back b moves e f true step joined = linked_back (pairs_of (goings_at b moves f.step)) e.channel f.channel (subst (λ (i : ℕ). AreLinked (pairs_of (goings_at b moves i)) e.channel f.channel) step joined)
joined_back b moves e f false step joined = sym joined

joined_on : (b : Board) (moves : List Move) (e f g : EventId) (go : Bool) → e.step ≡ f.step → AreJoined b moves e f go → AreJoined b moves f g go → AreJoined b moves e g go
joined_on b moves e f g true step one two = linked_on (pairs_of (goings_at b moves e.step)) e.channel f.channel g.channel one (subst (λ (i : ℕ). AreLinked (pairs_of (goings_at b moves i)) f.channel g.channel) (sym step) two)
joined_on b moves e f g false step one two = one ∙ two

pub are_one_alike : (b : Board) (moves : List Move) (e f g : EventId) → AreOneAlike b moves e f g
are_one_alike b moves e f g = record {
  itself = λ event. record { first = event; second = event; step = refl; go = refl; joined = joined_itself b moves e e.go };
  either_way = λ one. record {
    first = one.second;
    second = one.first;
    step = sym one.step;
    go = sym one.go;
    joined = subst (λ (go : Bool). AreJoined b moves f e go) one.go (joined_back b moves e f e.go one.step one.joined);
  };
  onwards = λ one two. record {
    first = one.first;
    second = two.second;
    step = one.step ∙ two.step;
    go = one.go ∙ two.go;
    joined = joined_on b moves e f g e.go one.step one.joined (subst (λ (go : Bool). AreJoined b moves f g go) (sym one.go) two.joined);
  };
}

pub has_one_lowest_name : (b : Board) (moves : List Move) (e f : EventId) → HasOneLowestName b moves e f
has_one_lowest_name b moves e f low_e low_f one =
    let up = low_e.lowest f one in
    let down = low_f.lowest e ((are_one_alike b moves e f e).either_way one) in
    let channel : e.channel ≡ f.channel = omega (arith, up, down) in
    same_event e f one.step channel one.go
  where
    same_event : (x y : EventId) → x.step ≡ y.step → x.channel ≡ y.channel → x.go ≡ y.go → x ≡ y
    same_event x y step channel go =
        ap (λ (i : ℕ). record { step = i; channel = x.channel; go = x.go }) step
        ∙ ap (λ (c : ℕ). record { step = y.step; channel = c; go = x.go }) channel
        ∙ ap (λ (g : Bool). record { step = y.step; channel = y.channel; go = g }) go
