-- One event more of what is kept of a run.
use Rattle.std.proofs.Common.{◌≡◌, ℕ, zero, suc, ◌+◌, ◌<◌, ◌≤◌, ◌==◌, ◌++◌, ◌∷◌, [], List, length, length-set, map, filter, set, cond, take, take-suc, get_or, replicate, add-one, append_assoc, inl, inr, refl, sym, ap, ◌∙◌}
use Rattle.std.specs.Prelude.{Vec}
use Rattle.std.specs.Global.{Global}
use Rattle.std.proofs.lemmas.Bool.{eq-eqb}
use Rattle.std.proofs.lemmas.Bool.Decides.{eqb_tells}
use Rattle.std.proofs.lemmas.List.{append-nil, get_or-map, get_or-set_other, get_or-set_same, map-append}
use Rattle.axis_sets.specs.declared.limits.TheConstants.{CHANNEL_PLACES}
use Rattle.job_types.specs.Job.{JobView}
use Rattle.protection_zones.specs.Beginnings.{AreOutsets, beginnings_from, outsets_in, shown_outset}
use Rattle.protection_zones.specs.Exchanges.{count_in, counts_in}
use Rattle.zone_stretches.specs.Occurrences.{OccurrenceView}
use Rattle.zone_stretches.specs.Spans.{first_beginning}
use Rattle.protection_zones.specs.declared.spans.SpanStart.{SpanStart}
use Rattle.protection_zones.proofs.ExchangeLaws.{count_last}
use Rattle.protection_zones.proofs.SpanLaws.{other_last, outsets_size, own_last, take_more}
use Rattle.sync_types.specs.declared.runs.Go.{Go}

-- how the times of the channel of a place begin
pub outsets_at : (outsets : List (Vec SpanStart Global)) (c : ℕ) (own : Vec SpanStart Global) → c < length outsets → outsets_in outsets c ≡ map shown_outset (get_or outsets c own).items
outsets_at outsets c own within = get_or-map (λ v. map shown_outset v.items) outsets c own [] within

pub own_begun : (job : JobView) (os : List OccurrenceView) (outsets : List (Vec SpanStart Global)) (c : ℕ) (own : Vec SpanStart Global) → AreOutsets job os outsets → 1 ≤ c → c < CHANNEL_PLACES → c < length outsets
    → map shown_outset (get_or outsets c own).items ≡ beginnings_from (first_beginning job c) (filter (λ o. o.channel == c) os)
own_begun job os outsets c own are from below within = sym (outsets_at outsets c own within) ∙ are.own c from below

pub own_count : (job : JobView) (os : List OccurrenceView) (outsets : List (Vec SpanStart Global)) (c : ℕ) (own : Vec SpanStart Global) → AreOutsets job os outsets → 1 ≤ c → c < CHANNEL_PLACES → c < length outsets
    → length (get_or outsets c own).items ≡ suc (count_in os c)
own_count job os outsets c own are from below within =
    outsets_size (first_beginning job c) (filter (λ o. o.channel == c) os) (get_or outsets c own).items (own_begun job os outsets c own are from below within)

-- those of its channel with one event more
pub outset_added : (job : JobView) (os : List OccurrenceView) (o : OccurrenceView) (outsets : List (Vec SpanStart Global)) (k : ℕ) (own : Vec SpanStart Global) → AreOutsets job os outsets → length outsets ≡ CHANNEL_PLACES
    → k < CHANNEL_PLACES → k ≡ o.channel → map shown_outset own.items ≡ beginnings_from (first_beginning job k) (filter (λ p. p.channel == k) os ++ o ∷ [])
    → AreOutsets job (os ++ o ∷ []) (set outsets k own)
outset_added job os o outsets k own are size below place is = record {
  own = λ c from within.
      let here : k < length outsets = rw size below in
      let there : c < length outsets = rw size within in
      let inside : c < length (set outsets k own) = rw (length-set outsets k own) there in
      outsets_at (set outsets k own) c own inside
      ∙ elim (eqb_tells o.channel c) [
        | inl h ↦
            let same : c ≡ k = sym h.1 ∙ sym place in
            rw same
            (ap (λ (v : Vec SpanStart Global). map shown_outset v.items) (get_or-set_same outsets k own own here)
            ∙ (is ∙ ap (beginnings_from (first_beginning job k)) (sym (own_last os o k (eq-eqb o.channel k (sym place))))))
        | inr h ↦
            ap (λ (v : Vec SpanStart Global). map shown_outset v.items) (get_or-set_other outsets k c own own (λ e. h.1 (sym (e ∙ place))))
            ∙ (sym (outsets_at outsets c own there) ∙ (are.own c from within ∙ ap (beginnings_from (first_beginning job c)) (sym (other_last os o c h.0))))
      ];
}

-- no event has been
no_count : (n c : ℕ) → counts_in (replicate n 0) c ≡ 0
no_count zero c = refl
no_count (suc n) zero = refl
no_count (suc n) (suc c) = no_count n c

pub first_counts : (c : ℕ) → counts_in (replicate CHANNEL_PLACES 0) c ≡ count_in [] c
first_counts c = no_count CHANNEL_PLACES c

-- the counts with one event more
pub next_count : (os : List OccurrenceView) (o : OccurrenceView) (counts : ℕ → ℕ) (count c : ℕ) → count ≡ suc (count_in os o.channel) → ((d : ℕ) → counts d ≡ count_in os d)
    → cond (c == o.channel) count (counts c) ≡ count_in (os ++ o ∷ []) c
next_count os o counts count c is are = elim (eqb_tells c o.channel) [
  | inl h ↦
      let more : count_in (os ++ o ∷ []) c ≡ suc (count_in os c) = count_last os o c ∙ rw h.0 refl in
      rw h.0 (is ∙ (ap (λ (d : ℕ). suc (count_in os d)) (sym h.1) ∙ sym more))
  | inr h ↦
      let same : count_in (os ++ o ∷ []) c ≡ count_in os c = count_last os o c ∙ rw h.0 refl in
      rw h.0 (are c ∙ sym same)
]

-- ---- those that go on in a step, one after another

pub goings_none : (f : Go → OccurrenceView) (os : List OccurrenceView) (goes : List Go) → os ++ map f (take 0 goes) ≡ os
goings_none f os goes = append-nil os

pub goings_next : (f : Go → OccurrenceView) (os : List OccurrenceView) (goes : List Go) (i : ℕ) (go : Go) → i < length goes → go ≡ get_or goes i go
    → (os ++ map f (take i goes)) ++ f go ∷ [] ≡ os ++ map f (take (i + 1) goes)
goings_next f os goes i go within is =
    append_assoc os (map f (take i goes)) (f go ∷ [])
    ∙ ap (λ (rest : List OccurrenceView). os ++ rest) (sym (rw (add-one, take-suc goes i go within, sym is) (map-append f (take i goes) (go ∷ []))))

pub goings_all : (f : Go → OccurrenceView) (os : List OccurrenceView) (goes : List Go) (i : ℕ) → length goes ≤ i → os ++ map f (take i goes) ≡ os ++ map f goes
goings_all f os goes i far = ap (λ (some : List Go). os ++ map f some) (take_more goes i far)
