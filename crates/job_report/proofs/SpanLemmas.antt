-- The steps of a channel stand within its span, and nothing is made of the entries outside.
use Rattle.std.proofs.Common.{◌≡◌, ◌∙◌, ℕ, zero, suc, ◌+◌, ◌<◌, ◌≤◌, ◌==◌, Bool, true, false, if◌then◌else◌, List, [], ◌∷◌, ◌++◌, length, take, drop, get_or, below_more, not-suc-le-zero, inl, inr, refl, ap, sym, append-nil, add-one, arith}
use Rattle.std.proofs.lemmas.Bool.{false≢true, false_from_ne_true, ne_eqb}
use Rattle.std.proofs.lemmas.Bool.Decides.{eqb_tells}
use Rattle.std.proofs.lemmas.Grind.{flat_map-append}
use Rattle.std.proofs.lemmas.List.{get_or_default, take-append-drop}
use Rattle.std.specs.List.{enumerate_from, flat_map}
use Rattle.axis_sets.specs.declared.limits.TheConstants.{CHANNEL_PLACES}
use Rattle.job_report.specs.Spans.{AreBetween, StandBetween}
use Rattle.sync_types.specs.Views.{EntryView}

-- of no entries
pub Between-none : (entries : List EntryView) (channel : ℕ) → StandBetween entries 0 channel 0 0
Between-none entries channel = record { ordered = omega arith; within = omega arith; own = λ k e before at is. absurd (not-suc-le-zero before) }

-- the next entry is the first of the channel
pub Between-fresh : (entries : List EntryView) (count channel first : ℕ) → StandBetween entries count channel first 0 → StandBetween entries (count + 1) channel count (count + 1)
Between-fresh entries count channel first s = record {
  ordered = omega arith;
  within = omega arith;
  own = λ k e before at is.
      below_more (λ (j : ℕ). get_or entries j e ≡ e → (count ≤ j) × (j < count + 1)) count
      (λ j less there. let both : (first ≤ j) × (j < 0) = s.own j e less there is in absurd (not-suc-le-zero both.1))
      (λ there. (omega arith, omega arith))
      k before at;
}

-- the next entry is one more of the channel
pub Between-more : (entries : List EntryView) (count channel first end : ℕ) → StandBetween entries count channel first end → StandBetween entries (count + 1) channel first (count + 1)
Between-more entries count channel first end s =
    let low : first ≤ end = s.ordered in
    let high : end ≤ count = s.within in
    record {
      ordered = omega arith;
      within = omega arith;
      own = λ k e before at is.
          below_more (λ (j : ℕ). get_or entries j e ≡ e → (first ≤ j) × (j < count + 1)) count
          (λ j less there. let both : (first ≤ j) × (j < end) = s.own j e less there is in (both.0, omega (arith, less)))
          (λ there. (omega (arith, low, high), omega arith))
          k before at;
    }

-- the next entry is of another channel
pub Between-other : (entries : List EntryView) (count channel first end : ℕ) (entry : EntryView) → count < length entries → get_or entries count entry ≡ entry
    → (entry.channel == channel) ≡ false → StandBetween entries count channel first end → StandBetween entries (count + 1) channel first end
Between-other entries count channel first end entry inside here foreign s = record {
  ordered = s.ordered;
  within = let high : end ≤ count = s.within in omega (arith, high);
  own = λ k e before at is.
      below_more (λ (j : ℕ). get_or entries j e ≡ e → (first ≤ j) × (j < end)) count
      (λ j less there. s.own j e less there is)
      (λ there.
      let same : e ≡ entry = sym there ∙ get_or_default entries count e entry inside ∙ here in
      let told : (entry.channel == channel) ≡ true = sym (ap (λ (x : EntryView). x.channel == channel) same) ∙ is in
      absurd (false≢true (sym foreign ∙ told)))
      k before at;
}

-- the spans of all channels, with an entry more of one of them
pub AreBetween-next : (entries : List EntryView) (count channel : ℕ) (first end first' end' : List ℕ) (entry : EntryView)
    → count < length entries → get_or entries count entry ≡ entry → channel ≡ entry.channel
    → ((c : ℕ) → get_or end' c 0 ≡ (if c == channel then count + 1 else get_or end c 0))
    → ((c : ℕ) → (c == channel) ≡ false → get_or first' c 0 ≡ get_or first c 0)
    → StandBetween entries (count + 1) channel (get_or first' channel 0) (count + 1)
    → AreBetween entries count first end → AreBetween entries (count + 1) first' end'
AreBetween-next entries count channel first end first' end' entry inside here is ends firsts own all c within =
    elim (eqb_tells c channel) [
      | inl same ↦
          let end_is : get_or end' c 0 ≡ count + 1 = ends c ∙ ap (λ (b : Bool). if b then count + 1 else get_or end c 0) same.0 in
          rw (end_is, same.1) own
      | inr other ↦
          let end_is : get_or end' c 0 ≡ get_or end c 0 = ends c ∙ ap (λ (b : Bool). if b then count + 1 else get_or end c 0) other.0 in
          rw (end_is, firsts c other.0)
          (Between-other entries count c (get_or first c 0) (get_or end c 0) entry inside here
          (ne_eqb entry.channel c (λ e. other.1 (sym e ∙ sym is))) (all c within))
    ]

-- nothing is made of these numbered entries
abbrev pub IsQuiet : (ℕ × EntryView → List ℕ) → (ℕ → Type 0) → List EntryView → Type 0
IsQuiet f P entries = (k : ℕ) (e : EntryView) → P k → k < length entries → get_or entries k e ≡ e → (place : ℕ) → f (place, e) ≡ []

-- nothing is made of the entries before a place
quiet_before : (f : ℕ × EntryView → List ℕ) (number : ℕ) (entries : List EntryView) (first : ℕ) → IsQuiet f (λ k. k < first) entries
    → flat_map f (take first (enumerate_from number entries)) ≡ []
quiet_before f number entries zero quiet = refl
quiet_before f number [] (suc first) quiet = refl
quiet_before f number (x ∷ xs) (suc first) quiet =
    rw (quiet 0 x (omega arith) (omega arith) refl number)
    (quiet_before f (number + 1) xs first (λ k e before inside at. quiet (suc k) e (omega (arith, before)) (omega (arith, inside)) at))

-- nothing is made of the entries from a place on
quiet_from : (f : ℕ × EntryView → List ℕ) (number : ℕ) (entries : List EntryView) (end : ℕ) → IsQuiet f (λ k. end ≤ k) entries
    → flat_map f (drop end (enumerate_from number entries)) ≡ []
quiet_from f number [] zero quiet = refl
quiet_from f number [] (suc end) quiet = refl
quiet_from f number (x ∷ xs) zero quiet =
    rw (quiet 0 x (omega arith) (omega arith) refl number)
    (quiet_from f (number + 1) xs zero (λ k e after inside at. quiet (suc k) e (omega arith) (omega (arith, inside)) at))
quiet_from f number (x ∷ xs) (suc end) quiet =
    quiet_from f (number + 1) xs end (λ k e after inside at. quiet (suc k) e (omega (arith, after)) (omega (arith, inside)) at)

-- nothing is made of an entry of another channel
abbrev pub IsOfOwn : (ℕ × EntryView → List ℕ) → ℕ → Type 0
IsOfOwn f channel = (place : ℕ) (e : EntryView) → (e.channel == channel) ≡ false → f (place, e) ≡ []

-- an entry outside of the span is of another channel
foreign_outside : (entries : List EntryView) (channel first end k : ℕ) (e : EntryView) → StandBetween entries (length entries) channel first end
    → k < length entries → get_or entries k e ≡ e → ((first ≤ k) × (k < end) → ⊥) → (e.channel == channel) ≡ false
foreign_outside entries channel first end k e s inside at outside = false_from_ne_true (e.channel == channel) (λ is. outside (s.own k e inside at is))

-- what is made of the entries before the span
pub nothing_before : (f : ℕ × EntryView → List ℕ) (entries : List EntryView) (channel first end : ℕ) → IsOfOwn f channel → StandBetween entries (length entries) channel first end
    → flat_map f (take first (enumerate_from 0 entries)) ≡ []
nothing_before f entries channel first end own s =
    quiet_before f 0 entries first
    (λ k e before inside at place. own place e (foreign_outside entries channel first end k e s inside at (λ both. let low : first ≤ k = both.0 in omega (arith, low, before))))

-- what is made of the entries up to the end of the span is what is made of all
pub all_before : (f : ℕ × EntryView → List ℕ) (entries : List EntryView) (channel first end : ℕ) → IsOfOwn f channel → StandBetween entries (length entries) channel first end
    → flat_map f (take end (enumerate_from 0 entries)) ≡ flat_map f (enumerate_from 0 entries)
all_before f entries channel first end own s =
    let row = enumerate_from 0 entries in
    let rest : flat_map f (drop end row) ≡ [] =
    quiet_from f 0 entries end
    (λ k e after inside at place. own place e (foreign_outside entries channel first end k e s inside at (λ both. let high : k < end = both.1 in omega (arith, high, after)))) in
    sym (ap (flat_map f) (sym (take-append-drop end row)) ∙ flat_map-append f (take end row) (drop end row)
    ∙ ap (λ (ys : List ℕ). flat_map f (take end row) ++ ys) rest ∙ append-nil (flat_map f (take end row)))
