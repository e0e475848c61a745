-- Counters that grow from neighbour to neighbour, and that something accounts for, tell where chains lead.
use Rattle.std.proofs.Common.{◌≡◌, ℕ, zero, suc, ◌<◌, ◌≤◌, ◌⊎◌, inl, inr, List, [], ◌∷◌, ◌++◌, arith}
use Rattle.order_clocks.specs.Chains.{IsPath, Leads}

-- What is known of counters: `AreOneIn` says that two names are of one event.
pub record Counted {E : Type 0} (Next : E → E → Type 0) (AreOneIn : E → E → Type 0) (IsEventIn : E → Type 0) (rank : E → ℕ) (of : E → ℕ → Type 0) (clock : E → ℕ → ℕ) : Type 0 where
  pub sound : (a b : E) → Next a b → IsEventIn a
  pub later : (a b : E) → Next a b → rank a < rank b
  pub level : (a b : E) → AreOneIn a b → rank a ≡ rank b
  pub grows : (a b : E) → Next a b → (c : ℕ) → clock a c ≤ clock b c
  pub joins : (a b c : E) → AreOneIn a b → Next b c → Next a c
  -- two events of a channel are one, or one is a neighbour before the other and counts less
  pub order : (a b : E) (c : ℕ) → IsEventIn a → IsEventIn b → of a c → of b c → AreOneIn a b ⊎ (Next a b ⊎ (clock b c < clock a c))
  -- what an event counts of a channel it is itself, or has from a neighbour before it
  pub source : (b : E) (c : ℕ) → IsEventIn b → (clock b c ≡ 0) ⊎ (of b c ⊎ ((p : E) × (Next p b × (clock p c ≡ clock b c))))
  pub counts : (a : E) (c : ℕ) → IsEventIn a → of a c → 0 < clock a c

longer : {E : Type 0} (Next : E → E → Type 0) (a p b : E) (es : List E) → IsPath Next a es p → Next p b → IsPath Next a (es ++ (p ∷ [])) b
longer Next a p b [] first last = (first, last)
longer Next a p b (e ∷ es) path last = (path.0, longer Next e p b es path.1 last)

path_grows : {E : Type 0} (Next AreOneIn : E → E → Type 0) (IsEventIn : E → Type 0) (rank : E → ℕ) (of : E → ℕ → Type 0) (clock : E → ℕ → ℕ)
    → Counted Next AreOneIn IsEventIn rank of clock → (a b : E) (es : List E) → IsPath Next a es b → (c : ℕ) → (clock a c ≤ clock b c) × (rank a < rank b)
path_grows Next AreOneIn IsEventIn rank of clock k a b [] path c = (k.grows a b path c, k.later a b path)
path_grows Next AreOneIn IsEventIn rank of clock k a b (e ∷ es) path c =
    let rest = path_grows Next AreOneIn IsEventIn rank of clock k e b es path.1 c in
    let here = k.grows a e path.0 c in
    let up = k.later a e path.0 in
    (omega arith, omega arith)

found : {E : Type 0} (Next AreOneIn : E → E → Type 0) (IsEventIn : E → Type 0) (rank : E → ℕ) (of : E → ℕ → Type 0) (clock : E → ℕ → ℕ)
    → Counted Next AreOneIn IsEventIn rank of clock → (a : E) (c : ℕ) → IsEventIn a → of a c
    → (n : ℕ) (b : E) → rank b < n → IsEventIn b → clock a c ≤ clock b c → AreOneIn a b ⊎ Leads Next a b
found Next AreOneIn IsEventIn rank of clock k a c event mine zero b below here last_rows = absurd (omega arith)
found {E} Next AreOneIn IsEventIn rank of clock k a c event mine (suc n) b below here last_rows =
    let positive = k.counts a c event mine in
    elim (k.source b c here) [
      | inl none ↦ absurd (omega arith)
      | inr (inl own) ↦ elim (k.order a b c event here mine own) [
        | inl one ↦ inl one
        | inr (inl next) ↦ inr ([], next)
        | inr (inr less) ↦ absurd (omega arith)
      ]
      | inr (inr w) ↦
          let lower = k.later w.0 b w.1.0 in
          let same : clock w.0 c ≡ clock b c = w.1.1 in
          elim (found Next AreOneIn IsEventIn rank of clock k a c event mine n w.0 (omega arith) (k.sound w.0 b w.1.0) (omega arith)) [
            | inl one ↦ inr ([], k.joins a w.0 b one w.1.0)
            | inr path ↦ inr (path.0 ++ (w.0 ∷ []), longer Next a w.0 b path.0 path.1 w.1.0)
          ]
    ]

-- an event of a channel leads to another exactly where the other counts it
pub leads_from : {E : Type 0} (Next AreOneIn : E → E → Type 0) (IsEventIn : E → Type 0) (rank : E → ℕ) (of : E → ℕ → Type 0) (clock : E → ℕ → ℕ)
    → Counted Next AreOneIn IsEventIn rank of clock → (a b : E) (c : ℕ) → IsEventIn a → of a c → IsEventIn b
    → clock a c ≤ clock b c → (AreOneIn a b → ⊥) → Leads Next a b
leads_from Next AreOneIn IsEventIn rank of clock k a b c event mine here last_rows apart =
    elim (found Next AreOneIn IsEventIn rank of clock k a c event mine (suc (rank b)) b (omega arith) here last_rows) [ inl one ↦ absurd (apart one) | inr path ↦ path ]

pub leads_to : {E : Type 0} (Next AreOneIn : E → E → Type 0) (IsEventIn : E → Type 0) (rank : E → ℕ) (of : E → ℕ → Type 0) (clock : E → ℕ → ℕ)
    → Counted Next AreOneIn IsEventIn rank of clock → (a b : E) (c : ℕ) → Leads Next a b → (clock a c ≤ clock b c) × (AreOneIn a b → ⊥)
leads_to Next AreOneIn IsEventIn rank of clock k a b c path =
    let up = path_grows Next AreOneIn IsEventIn rank of clock k a b path.0 path.1 c in
    (up.0, λ one. let same = k.level a b one in absurd (omega arith))
