-- The beginnings of a channel's times as the code keeps them.
use Rattle.std.proofs.Common.{◌≡◌, ℕ, ℤ, suc, zero, ◌+◌, ◌-◌, ◌<◌, ◌≤◌, ◌==◌, Bool, true, false, cond, All, List, [], ◌∷◌, ◌++◌, length, map, filter, drop, take, nat_lt, get_or, Option, Some, None, refl, sym, ap, ◌∙◌, arith, add-one, if◌then◌else◌}
use Rattle.std.specs.Prelude.{Vec, unwrap_or}
use Rattle.std.specs.Global.{Global}
use Rattle.std.proofs.Math.Seq.{drop-cons}
use Rattle.std.proofs.lemmas.Bool.{eq-eqb, ltb-false, ltb-true, ne_eqb}
use Rattle.std.proofs.lemmas.List.{append-nil, get_or-map, length-drop, length-map, map-append}
use Rattle.std.proofs.lemmas.List.Elements.{filter-append}
use mathlib.Core.Path.{fun_ext}
use Rattle.axis_sets.specs.Positions.{position_of}
use Rattle.axis_sets.specs.Sets.{has}
use Rattle.axis_sets.specs.declared.limits.TheConstants.{CHANNEL_PLACES}
use Rattle.job_types.specs.Axes.{start_position}
use Rattle.job_types.specs.Job.{JobView}
use Rattle.job_types.specs.declared.job.ZoneLine.{ZoneLine}
use Rattle.protection_zones.specs.Beginnings.{AreOutsets, beginnings_from, end_of, first_in, items_until, outsets_in, shown_outset, span_at, spans_along}
use Rattle.zone_stretches.specs.Occurrences.{OccurrenceView}
use Rattle.zone_stretches.specs.Rows.{positions_in}
use Rattle.zone_stretches.specs.Stretches.{spans_between, spans_until, stretch_of_span}
use Rattle.zone_stretches.specs.Spans.{SpanStartView, Span, beginning_after, first_beginning, is_on_at_first, spans_from, spans_of, starts_at_first}
use Rattle.protection_zones.specs.declared.spans.SpanStart.{SpanStart}
use Rattle.sync_types.specs.declared.Item.{Item}
use Rattle.sync_types.specs.declared.runs.EventId.{EventId}
use Rattle.sync_types.specs.declared.verdicts.StretchKind.{StretchKind}
use Rattle.sync_types.specs.declared.verdicts.StretchKind.TheVariants.{Idle, Run}

-- how the time after an event begins
pub outset_told : (before : SpanStart) (o : OccurrenceView) (kind : StretchKind) (line : ℕ) (at : List ℤ) (on : List Bool) (name : EventId) → kind ≡ o.kind → name ≡ o.name → on ≡ o.on → line ≡ unwrap_or o.line before.line
    → ((axis : ℕ) → positions_in at axis ≡ unwrap_or (position_of o.at axis) (positions_in before.at axis))
    → shown_outset (record { kind = kind; line = line; at = at; on = on; first = Some name }) ≡ beginning_after (shown_outset before) o
outset_told before o kind line at on name kind_is name_is on_is line_is stands =
    let at_is : positions_in at ≡ (λ axis. unwrap_or (position_of o.at axis) (positions_in before.at axis)) = fun_ext stands in
    rw (kind_is, name_is, on_is, line_is, at_is) refl

-- how the first time begins
pub first_told : (job : JobView) (c : ℕ) (starts : Bool) (at : List ℤ) (on : List Bool) → starts ≡ starts_at_first job c → ((axis : ℕ) → positions_in at axis ≡ start_position job axis)
    → ((z : ℕ) → has on z ≡ is_on_at_first job z) → (kind : StretchKind) → kind ≡ cond starts Run Idle
    → shown_outset (record { kind = kind; line = 0; at = at; on = on; first = None }) ≡ first_beginning job c
first_told job c starts at on starts_is stands turned kind is =
    let at_is : positions_in at ≡ start_position job = fun_ext stands in
    let on_is : has on ≡ is_on_at_first job = fun_ext turned in
    rw (is, starts_is, at_is, on_is) refl

-- how many times there are, and one event more
beginnings_size : (b : SpanStartView) (os : List OccurrenceView) → length (beginnings_from b os) ≡ suc (length os)
beginnings_size b [] = refl
beginnings_size b (o ∷ os) = ap suc (beginnings_size (beginning_after b o) os)

beginnings_last : (b : SpanStartView) (os : List OccurrenceView) (o : OccurrenceView) (d : SpanStartView)
    → beginnings_from b (os ++ o ∷ []) ≡ beginnings_from b os ++ beginning_after (get_or (beginnings_from b os) (length os) d) o ∷ []
beginnings_last b [] o d = refl
beginnings_last b (p ∷ os) o d = ap (λ (rest : List _). b ∷ rest) (beginnings_last (beginning_after b p) os o d)

pub outsets_size : (b : SpanStartView) (os : List OccurrenceView) (outsets : List SpanStart) → map shown_outset outsets ≡ beginnings_from b os → length outsets ≡ suc (length os)
outsets_size b os outsets are = sym (length-map outsets shown_outset) ∙ (ap length are ∙ beginnings_size b os)

pub outset_pushed : (b : SpanStartView) (os : List OccurrenceView) (o : OccurrenceView) (outsets : List SpanStart) (last next : SpanStart) → map shown_outset outsets ≡ beginnings_from b os
    → last ≡ get_or outsets (length outsets - 1) last → shown_outset next ≡ beginning_after (shown_outset last) o
    → map shown_outset (outsets ++ next ∷ []) ≡ beginnings_from b (os ++ o ∷ [])
outset_pushed b os o outsets last next are is follows =
    let size : length outsets ≡ suc (length os) = outsets_size b os outsets are in
    let place : length outsets - 1 ≡ length os = omega (arith, size) in
    let here : last ≡ get_or outsets (length os) last = is ∙ ap (λ (i : ℕ). get_or outsets i last) place in
    let shown : get_or (beginnings_from b os) (length os) (shown_outset last) ≡ shown_outset last =
    ap (λ (bs : List SpanStartView). get_or bs (length os) (shown_outset last)) (sym are)
    ∙ (get_or-map shown_outset outsets (length os) last (shown_outset last) (omega (arith, size)) ∙ ap shown_outset (sym here)) in
    map-append shown_outset outsets (next ∷ [])
    ∙ (rw (are, follows) (sym (beginnings_last b os o (shown_outset last) ∙ rw shown refl)))

-- those of each channel, with one event more
pub own_last : (os : List OccurrenceView) (o : OccurrenceView) (c : ℕ) → (o.channel == c) ≡ true → filter (λ p. p.channel == c) (os ++ o ∷ []) ≡ filter (λ p. p.channel == c) os ++ o ∷ []
own_last os o c own = filter-append (λ p. p.channel == c) os (o ∷ []) ∙ rw own refl

pub other_last : (os : List OccurrenceView) (o : OccurrenceView) (c : ℕ) → (o.channel == c) ≡ false → filter (λ p. p.channel == c) (os ++ o ∷ []) ≡ filter (λ p. p.channel == c) os
other_last os o c other = filter-append (λ p. p.channel == c) os (o ∷ []) ∙ (rw other (append-nil (filter (λ p. p.channel == c) os)))

-- ---- the spans between them

first_of_beginnings : (b : SpanStartView) (os : List OccurrenceView) → first_in (beginnings_from b os) ≡ b.first
first_of_beginnings b [] = refl
first_of_beginnings b (o ∷ os) = refl

pub spans_between_beginnings : (items : List (List Item)) (b : SpanStartView) (os : List OccurrenceView) → spans_along items (beginnings_from b os) ≡ spans_from items b os
spans_between_beginnings items b [] = refl
spans_between_beginnings items b (o ∷ os) = rw (first_of_beginnings (beginning_after b o) os, spans_between_beginnings items (beginning_after b o) os) refl

pub first_there : (outsets : List SpanStart) (place : ℕ) (d : SpanStart) → place < length outsets → first_in (drop place (map shown_outset outsets)) ≡ (get_or outsets place d).first
first_there [] place d within = absurd (omega arith)
first_there (x ∷ xs) zero d within = refl
first_there (x ∷ xs) (suc place) d within = first_there xs place d (omega arith)

pub first_past : (outsets : List SpanStart) (place : ℕ) → length outsets ≤ place → first_in (drop place (map shown_outset outsets)) ≡ None
first_past [] zero far = refl
first_past [] (suc place) far = refl
first_past (x ∷ xs) zero far = absurd (omega arith)
first_past (x ∷ xs) (suc place) far = first_past xs place (omega arith)

-- what holds of the items of each entry holds of those of a span
pub items_hold : (P : List Item → Type 0) (items : List (List Item)) (last : Option EventId) → All P items → P [] → P (items_until items last)
items_hold P items None all none = none
items_hold P items (Some last) all none = by_go last.go
  where
    within : (xs : List (List Item)) (i : ℕ) → All P xs → P (get_or xs i [])
    within [] i held = none
    within (x ∷ xs) zero held = held 0 x (omega arith)
    within (x ∷ xs) (suc i) held = within xs i (λ k d below. held (suc k) d (omega arith))

    by_go : (b : Bool) → P (cond b [] (get_or items last.step []))
    by_go true = none
    by_go false = within items last.step all

-- the span of a number
pub spans_size : (items : List (List Item)) (bs : List SpanStartView) → length (spans_along items bs) ≡ length bs
spans_size items [] = refl
spans_size items (b ∷ bs) = ap suc (spans_size items bs)

pub span_there : (items : List (List Item)) (outsets : List SpanStart) (place : ℕ) (d : Span) → place < length outsets → get_or (spans_along items (map shown_outset outsets)) place d ≡ span_at items outsets place
span_there items [] place d within = absurd (omega arith)
span_there items (x ∷ xs) zero d within = refl
span_there items (x ∷ xs) (suc place) d within = span_there items xs place d (omega arith)

-- the spans of a tenure, one after another
abbrev pub spans_left : List Span → ℕ → ℕ → List Span
spans_left spans from upto = take (upto - from) (drop from spans)

pub one_span : (items : List (List Item)) (outsets : List SpanStart) (place upto : ℕ) → place < upto → upto ≤ length outsets
    → spans_left (spans_along items (map shown_outset outsets)) place upto ≡ span_at items outsets place ∷ spans_left (spans_along items (map shown_outset outsets)) (place + 1) upto
one_span items outsets place upto below within =
    let size : length (spans_along items (map shown_outset outsets)) ≡ length outsets = spans_size items (map shown_outset outsets) ∙ length-map outsets shown_outset in
    let inside : place < length outsets = omega arith in
    let there : place < length (spans_along items (map shown_outset outsets)) = rw size inside in
    let more : upto - place ≡ suc (upto - (place + 1)) = omega arith in
    let next : suc place ≡ place + 1 = sym (add-one place) in
    rw (more, drop-cons (spans_along items (map shown_outset outsets)) place (span_at items outsets place) there, span_there items outsets place (span_at items outsets place) inside, next) refl

pub no_span : (spans : List Span) (place upto : ℕ) → upto ≤ place → spans_left spans place upto ≡ []
no_span spans place upto past = let none : upto - place ≡ 0 = omega arith in rw none refl

-- the stretches of a tenure, one after another: the last one ends with it
pub one_stretch : (job : JobView) (zone : ZoneLine) (c : ℕ) (items : List (List Item)) (outsets : List SpanStart) (place upto : ℕ) (last : Option EventId) → place < upto → upto ≤ length outsets
    → map (stretch_of_span job zone c) (spans_until last (spans_left (spans_along items (map shown_outset outsets)) place upto))
    ≡ (if place + 1 == upto then record (stretch_of_span job zone c (span_at items outsets place)) { last = last } else stretch_of_span job zone c (span_at items outsets place))
    ∷ map (stretch_of_span job zone c) (spans_until last (spans_left (spans_along items (map shown_outset outsets)) (place + 1) upto))
one_stretch job zone c items outsets place upto last below within =
    ap (λ (xs : List Span). map (stretch_of_span job zone c) (spans_until last xs)) (one_span items outsets place upto below within) ∙ by_test (nat_lt (place + 1) upto) refl
  where
    by_test : (b : Bool) → nat_lt (place + 1) upto ≡ b
        → map (stretch_of_span job zone c) (spans_until last (span_at items outsets place ∷ spans_left (spans_along items (map shown_outset outsets)) (place + 1) upto))
        ≡ (if place + 1 == upto then record (stretch_of_span job zone c (span_at items outsets place)) { last = last } else stretch_of_span job zone c (span_at items outsets place))
        ∷ map (stretch_of_span job zone c) (spans_until last (spans_left (spans_along items (map shown_outset outsets)) (place + 1) upto))
    by_test true e =
        let more : place + 1 < upto = ltb-true (place + 1) upto e in
        rw (ne_eqb (place + 1) upto (λ same. absurd (omega (arith, same, more))), one_span items outsets (place + 1) upto more within) refl
    by_test false e =
        let far : upto ≤ place + 1 = ltb-false (place + 1) upto e in
        rw (eq-eqb (place + 1) upto (omega (arith, below, far)), no_span (spans_along items (map shown_outset outsets)) (place + 1) upto far) refl

pub take_more : {A : Type 0} (xs : List A) (n : ℕ) → length xs ≤ n → take n xs ≡ xs
take_more [] zero far = refl
take_more [] (suc n) far = refl
take_more (x ∷ xs) zero far = absurd (omega arith)
take_more (x ∷ xs) (suc n) far = ap (λ (rest : List _). x ∷ rest) (take_more xs n (omega arith))

pub spans_in_tenure : (spans : List Span) (from size : ℕ) (upto : Option ℕ) → length spans ≡ size → spans_left spans from (end_of size upto) ≡ spans_between spans from upto
spans_in_tenure spans from size None is = take_more (drop from spans) (size - from) (let left = length-drop from spans in omega (arith, left))
spans_in_tenure spans from size (Some upto) is = by_test (nat_lt upto size) refl
  where
    by_test : (b : Bool) → nat_lt upto size ≡ b → spans_left spans from (cond b (suc upto) size) ≡ take (suc upto - from) (drop from spans)
    by_test true e = refl
    by_test false e =
        let left = length-drop from spans in
        let far : size ≤ upto = ltb-false upto size e in
        take_more (drop from spans) (size - from) (omega (arith, left)) ∙ sym (take_more (drop from spans) (suc upto - from) (omega (arith, left)))

-- the spans of a channel
pub own_spans : (job : JobView) (items : List (List Item)) (occurrences : List OccurrenceView) (outsets : List (Vec SpanStart Global)) (own : List SpanStart) (c : ℕ) → AreOutsets job occurrences outsets → 1 ≤ c → c < CHANNEL_PLACES
    → map shown_outset own ≡ outsets_in outsets c → spans_along items (map shown_outset own) ≡ spans_of job items occurrences c
unfolding spans_of
own_spans job items occurrences outsets own c are from below is =
    ap (spans_along items) (is ∙ are.own c from below) ∙ spans_between_beginnings items (first_beginning job c) (filter (λ o. o.channel == c) occurrences)
