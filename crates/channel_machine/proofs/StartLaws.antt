-- The start of an accepted job is sound.
use Rattle.std.proofs.Common.{◌≡◌, ◌≢◌, ◌∙◌, ◌⊎◌, inl, inr, ℕ, zero, suc, ◌+◌, ◌<◌, ◌≤◌, ◌==◌, ◌&&◌, ◌||◌, not, nat_lt, nat_le, ℤ, Bool, true, false, true≢false, List, [], ◌∷◌, ◌++◌, append-nil, add-one, map, find, length, slice_get, get_or, position, is_some, Option, Some, None, IfSome, IsSome, cond, refl, sym, ap, subst, arith}
use Rattle.std.specs.Prelude.{All, Any}
use Rattle.std.specs.List.{cons_option, filter_map, list_any, position_or_len, range_with_len}
use Rattle.std.specs.Map.{keys_of}
use Rattle.std.specs.Option.{option_and_then, option_map, option_map_or, option_to_list}
use Rattle.std.proofs.lemmas.List.Elements.{filter_map-append}
use Rattle.std.specs.Str.{bytes_eq}
use Rattle.std.proofs.lemmas.Bool.{eqb-true, eq-eqb, ne_eqb, leb-true, leb-false, ltb-true, ltb-false, lt-ltb}
use Rattle.std.proofs.lemmas.Option.{slice_get_within, get_or_from_slice_get}
use Rattle.std.proofs.lemmas.Slice.Eq.{bytes_eq-Decides}
use Rattle.axis_sets.specs.Sets.{has}
use Rattle.axis_sets.specs.declared.limits.TheConstants.{AXIS_LIMIT, CHANNEL_LIMIT, CHANNEL_PLACES, ZONE_LIMIT, ZONE_PLACES}
use Rattle.number_laws.proofs.Lists.{All-found, filter_map-one, found_passes, range_with_len-push}
use Rattle.job_types.specs.Axes as axes
use Rattle.job_types.specs.Job.{JobView, ProgramView}
use Rattle.job_types.specs.SoundJob.{IsDeclared, IsSoundJob, IsSoundZone}
use Rattle.job_types.specs.Zones.{carriers, has_axis, zone_line}
use Rattle.job_types.specs.declared.job.AxisLine.{AxisLine}
use Rattle.job_types.specs.declared.job.ChannelLine.{ChannelLine}
use Rattle.job_types.specs.declared.job.ZoneLine.{ZoneLine}
use Rattle.job_types.proofs.Owners.{carrier_there}
use Rattle.sync_types.specs.Starts as start
use Rattle.sync_types.specs.Starts.{IsSound, stand_once}
use Rattle.channel_machine.specs.StartStates.{line_of_channel, place_of_name, selected_place, first_channel, channel_entry, first_channels, first_axis, axis_entry, first_axes, first_zone, zone_entry, first_zones, start_of}

-- ---- one entry more at the end of a row
row_push : {E : Type 0} (give : ℕ → Option E) (a n : ℕ) → filter_map give (range_with_len a (n + 1)) ≡ filter_map give (range_with_len a n) ++ option_to_list (give (n + a))
row_push {E = E} give a n =
    let row : range_with_len a (n + 1) ≡ range_with_len a n ++ (a + n) ∷ [] = rw add-one (range_with_len-push a n) in
    let at : a + n ≡ n + a = omega arith in
    ap (filter_map give) row ∙ filter_map-append give (range_with_len a n) ((a + n) ∷ [])
    ∙ ap (λ (more : List E). filter_map give (range_with_len a n) ++ more) (filter_map-one give (a + n) (give (n + a)) (ap give at))

pub row_some : {E : Type 0} (give : ℕ → Option E) (a n : ℕ) (e : E) (es : List E) → es ≡ filter_map give (range_with_len a n) → give (n + a) ≡ Some e
    → es ++ e ∷ [] ≡ filter_map give (range_with_len a (n + 1))
row_some give a n e es told is = rw (row_push give a n, is, told) refl

pub row_none : {E : Type 0} (give : ℕ → Option E) (a n : ℕ) (es : List E) → es ≡ filter_map give (range_with_len a n) → give (n + a) ≡ None
    → es ≡ filter_map give (range_with_len a (n + 1))
row_none give a n es told is = rw (row_push give a n, is, append-nil (filter_map give (range_with_len a n))) told

-- ---- entries by their numbers
-- each entry has the number at which it is given
abbrev IsKeyed : {E : Type 0} → (E → ℕ) → (ℕ → Option E) → Type 0
IsKeyed {E} key give = (n : ℕ) (e : E) → give n ≡ Some e → key e ≡ n

module _ {E : Type 0} (key : E → ℕ) (give : ℕ → Option E) (keyed : IsKeyed key give) where
  -- no entry has a number below those of the row
  none_below : (a k c : ℕ) → c < a → list_any (λ m. m == c) (map key (filter_map give (range_with_len a k))) ≡ false
  none_below a zero c below = refl
  none_below a (suc k) c below = by (give a) refl (none_below (a + 1) k c (omega arith))
    where
      by : (o : Option E) → give a ≡ o → list_any (λ m. m == c) (map key (filter_map give (range_with_len (a + 1) k))) ≡ false
          → list_any (λ m. m == c) (map key (cons_option o (filter_map give (range_with_len (a + 1) k)))) ≡ false
      by None is rest = rest
      by (Some e) is rest = rw (ne_eqb (key e) c (λ same. let at : key e ≡ a = keyed a e is in absurd (omega arith))) rest

  once : (a k : ℕ) → stand_once (map key (filter_map give (range_with_len a k))) ≡ true
  once a zero = refl
  once a (suc k) = by (give a) refl (once (a + 1) k)
    where
      by : (o : Option E) → give a ≡ o → stand_once (map key (filter_map give (range_with_len (a + 1) k))) ≡ true
          → stand_once (map key (cons_option o (filter_map give (range_with_len (a + 1) k)))) ≡ true
      by None is rest = rest
      by (Some e) is rest =
          let at : key e ≡ a = keyed a e is in
          rw (none_below (a + 1) k (key e) (omega arith)) rest

  none_here : (a k c : ℕ) → (c < a) ⊎ (a + k ≤ c) → find (λ e. key e == c) (filter_map give (range_with_len a k)) ≡ None
  none_here a zero c outside = refl
  none_here a (suc k) c outside = by (give a) refl (none_here (a + 1) k c (further outside))
    where
      further : (c < a) ⊎ (a + suc k ≤ c) → (c < a + 1) ⊎ ((a + 1) + k ≤ c)
      further (inl below) = inl (omega arith)
      further (inr above) = inr (omega arith)

      apart : (c < a) ⊎ (a + suc k ≤ c) → a ≢ c
      apart (inl below) = λ same. omega arith
      apart (inr above) = λ same. omega arith

      by : (o : Option E) → give a ≡ o → find (λ e. key e == c) (filter_map give (range_with_len (a + 1) k)) ≡ None
          → find (λ e. key e == c) (cons_option o (filter_map give (range_with_len (a + 1) k))) ≡ None
      by None is rest = rest
      by (Some e) is rest = rw (ne_eqb (key e) c (λ same. apart outside (sym (keyed a e is) ∙ same))) rest

  -- the entry of a number of the row is what is given there
  found_there : (a k c : ℕ) → a ≤ c → c < a + k → find (λ e. key e == c) (filter_map give (range_with_len a k)) ≡ give c
  found_there a zero c low high = absurd (omega arith)
  found_there a (suc k) c low high = by (nat_le c a) refl (λ more. found_there (a + 1) k c more (omega arith)) (λ same. none_here (a + 1) k c (inl (omega arith)))
    where
      by_here : (o : Option E) → give a ≡ o → a ≡ c → find (λ e. key e == c) (filter_map give (range_with_len (a + 1) k)) ≡ None
          → find (λ e. key e == c) (cons_option o (filter_map give (range_with_len (a + 1) k))) ≡ give c
      by_here None is same none = none ∙ sym (ap give (sym same) ∙ is)
      by_here (Some e) is same none = rw (eq-eqb (key e) c (keyed a e is ∙ same)) (sym (ap give (sym same) ∙ is))

      by_further : (o : Option E) → give a ≡ o → a < c → find (λ e. key e == c) (filter_map give (range_with_len (a + 1) k)) ≡ give c
          → find (λ e. key e == c) (cons_option o (filter_map give (range_with_len (a + 1) k))) ≡ give c
      by_further None is less rest = rest
      by_further (Some e) is less rest = rw (ne_eqb (key e) c (λ same. let at : key e ≡ a = keyed a e is in absurd (omega arith))) rest

      by : (below : Bool) → nat_le c a ≡ below → (a + 1 ≤ c → find (λ e. key e == c) (filter_map give (range_with_len (a + 1) k)) ≡ give c)
          → (a ≡ c → find (λ e. key e == c) (filter_map give (range_with_len (a + 1) k)) ≡ None)
          → find (λ e. key e == c) (filter_map give (range_with_len a (suc k))) ≡ give c
      by true is further here =
          let le : c ≤ a = leb-true c a is in
          let same : a ≡ c = omega arith in
          by_here (give a) refl same (here same)
      by false is further here =
          let lt : a < c = leb-false c a is in
          by_further (give a) refl lt (further (omega arith))

-- ---- what is found in lists
found_any : {X : Type 0} (test : X → Bool) (xs : List X) (x : X) → find test xs ≡ Some x → list_any test xs ≡ true
found_any test [] x is = absurd cc
found_any test (y ∷ xs) x is = by (test y) is (found_any test xs x)
  where
    by : (b : Bool) → cond b (Some y) (find test xs) ≡ Some x → (find test xs ≡ Some x → list_any test xs ≡ true) → (b || list_any test xs) ≡ true
    by true is rest = refl
    by false is rest = rest is

some_at : {X : Type 0} (test : X → Bool) (xs : List X) (k : ℕ) (x : X) → k < length xs → get_or xs k x ≡ x → test x ≡ true → (y : X) × (find test xs ≡ Some y)
some_at test [] k x within is passes = absurd (omega arith)
some_at {X = X} test (y ∷ ys) zero x within is passes = (y, rw (is, passes) refl)
some_at {X = X} test (y ∷ ys) (suc k) x within is passes = by (test y) (some_at test ys k x (omega arith) is passes)
  where
    by : (b : Bool) → (z : X) × (find test ys ≡ Some z) → (z : X) × (cond b (Some y) (find test ys) ≡ Some z)
    by true rest = (y, refl)
    by false rest = rest

place_some : {X : Type 0} (test : X → Bool) (xs : List X) → list_any test xs ≡ true → position_or_len test xs < length xs
place_some test [] some = absurd cc
place_some test (x ∷ xs) some = by (test x) some (place_some test xs)
  where
    by : (b : Bool) → (b || list_any test xs) ≡ true → (list_any test xs ≡ true → position_or_len test xs < length xs)
        → cond (not b) (1 + position_or_len test xs) 0 < suc (length xs)
    by true some rest = omega arith
    by false some rest = let low : position_or_len test xs < length xs = rest some in omega arith

position_some : {X : Type 0} (test : X → Bool) (xs : List X) → list_any test xs ≡ true → is_some (position test xs) ≡ true
position_some test xs some = rw (lt-ltb (position_or_len test xs) (length xs) (place_some test xs some)) refl

none_past : {X : Type 0} (xs : List X) (k : ℕ) → length xs ≤ k → slice_get xs k ≡ None
none_past [] k past = refl
none_past (x ∷ xs) zero past = absurd (omega arith)
none_past (x ∷ xs) (suc k) past = none_past xs k (omega arith)

some_there : {X : Type 0} (xs : List X) (k : ℕ) → k < length xs → (x : X) × (slice_get xs k ≡ Some x)
some_there [] k within = absurd (omega arith)
some_there (x ∷ xs) zero within = (x, refl)
some_there (x ∷ xs) (suc k) within = some_there xs k (omega arith)

All-at : {X : Type 0} (P : X → Type 0) (xs : List X) (i : ℕ) (x : X) → All P xs → slice_get xs i ≡ Some x → P x
All-at P xs i x all is = subst P (get_or_from_slice_get xs i x x is) (all i x (slice_get_within xs i x is))

-- ---- the channels
channel_of_line : (job : JobView) (c : ℕ) (line : ChannelLine) → line_of_channel job c ≡ Some line → line.channel ≡ c
channel_of_line job c line is = eqb-true line.channel c (found_passes (λ (l : ChannelLine). l.channel == c) job.channels line is)

channel_keyed : (job : JobView) → IsKeyed (λ e. e.0) (channel_entry job)
channel_keyed job n e is = by (line_of_channel job n) refl is
  where
    by : (o : Option ChannelLine) → line_of_channel job n ≡ o → option_map (first_channel job) o ≡ Some e → e.0 ≡ n
    by None at is = absurd cc
    by (Some line) at is = let same : first_channel job line ≡ e = cc in ap (λ x. x.0) (sym same) ∙ channel_of_line job n line at

no_channel : (job : JobView) → IsSoundJob job → (c : ℕ) → (c < 1) ⊎ (CHANNEL_PLACES ≤ c) → channel_entry job c ≡ None
no_channel job sound c outside = by (line_of_channel job c) refl
  where
    far : (c < 1) ⊎ (CHANNEL_PLACES ≤ c) → 1 ≤ c → c ≤ CHANNEL_LIMIT → ⊥
    far (inl below) low high = omega arith
    far (inr above) low high = omega arith

    by : (o : Option ChannelLine) → line_of_channel job c ≡ o → option_map (first_channel job) o ≡ None
    by None at = refl
    by (Some line) at =
        let number : line.channel ≡ c = channel_of_line job c line at in
        let low : 1 ≤ line.channel = All-found (λ (l : ChannelLine). 1 ≤ l.channel) (λ l. l.channel == c) job.channels line sound.low_channels at in
        let high : line.channel ≤ CHANNEL_LIMIT = All-found (λ (l : ChannelLine). l.channel ≤ CHANNEL_LIMIT) (λ l. l.channel == c) job.channels line sound.high_channels at in
        absurd (far outside (omega arith) (omega arith))

pub channel_found : (job : JobView) → IsSoundJob job → (c : ℕ) → find (λ e. e.0 == c) (first_channels job) ≡ channel_entry job c
unfolding first_channels
channel_found job sound c = by (nat_le 1 c) (nat_le c CHANNEL_LIMIT) refl refl
  where
    by : (low high : Bool) → nat_le 1 c ≡ low → nat_le c CHANNEL_LIMIT ≡ high → find (λ e. e.0 == c) (filter_map (channel_entry job) (range_with_len 1 CHANNEL_LIMIT)) ≡ channel_entry job c
    by true true low high =
        let at_least : 1 ≤ c = leb-true 1 c low in
        let at_most : c ≤ CHANNEL_LIMIT = leb-true c CHANNEL_LIMIT high in
        found_there (λ e. e.0) (channel_entry job) (channel_keyed job) 1 CHANNEL_LIMIT c at_least (omega arith)
    by false high low high_is =
        let below : c < 1 = leb-false 1 c low in
        none_here (λ e. e.0) (channel_entry job) (channel_keyed job) 1 CHANNEL_LIMIT c (inl below) ∙ sym (no_channel job sound c (inl below))
    by true false low high =
        let above : CHANNEL_LIMIT < c = leb-false c CHANNEL_LIMIT high in
        none_here (λ e. e.0) (channel_entry job) (channel_keyed job) 1 CHANNEL_LIMIT c (inr (omega arith)) ∙ sym (no_channel job sound c (inr (omega arith)))

declared_there : (job : JobView) → IsSoundJob job → (c : ℕ) → IsDeclared job c → start.has_channel (start_of job) c ≡ true
unfolding start_of
declared_there job sound c (k, line, within, is, same) =
    let found = some_at (λ (l : ChannelLine). l.channel == c) job.channels k line within is (eq-eqb line.channel c same) in
    found_any (λ (e : ℕ × Option ℕ × Bool). e.0 == c) (first_channels job) (first_channel job found.0)
    (channel_found job sound c ∙ ap (option_map (first_channel job)) found.1)

-- ---- the axes
axis_keyed : (job : JobView) → IsKeyed (λ e. e.0) (axis_entry job)
axis_keyed job n e is = by (slice_get job.axes n) is
  where
    by : (o : Option AxisLine) → option_map (first_axis n) o ≡ Some e → e.0 ≡ n
    by None is = absurd cc
    by (Some line) is = let same : first_axis n line ≡ e = cc in ap (λ x. x.0) (sym same)

pub axis_found : (job : JobView) → IsSoundJob job → (x : ℕ) → find (λ e. e.0 == x) (first_axes job) ≡ axis_entry job x
unfolding first_axes
axis_found job sound x = by (nat_lt x AXIS_LIMIT) refl
  where
    by : (low : Bool) → nat_lt x AXIS_LIMIT ≡ low → find (λ e. e.0 == x) (filter_map (axis_entry job) (range_with_len 0 AXIS_LIMIT)) ≡ axis_entry job x
    by true low =
        let below : x < AXIS_LIMIT = ltb-true x AXIS_LIMIT low in
        found_there (λ e. e.0) (axis_entry job) (axis_keyed job) 0 AXIS_LIMIT x (omega arith) (omega arith)
    by false low =
        let above : AXIS_LIMIT ≤ x = ltb-false x AXIS_LIMIT low in
        let few : length job.axes ≤ AXIS_LIMIT = sound.few_axes in
        none_here (λ e. e.0) (axis_entry job) (axis_keyed job) 0 AXIS_LIMIT x (inr (omega arith))
        ∙ sym (ap (option_map (first_axis x)) (none_past job.axes x (omega arith)))

pub owner_is : (job : JobView) → IsSoundJob job → (x : ℕ) → start.first_owner (start_of job) x ≡ axes.first_owner job x
unfolding start_of axes.first_owner
owner_is job sound x =
    ap (λ (o : Option (ℕ × Option ℕ × ℤ)). option_map_or (λ line. line.1) o None) (axis_found job sound x) ∙ by (slice_get job.axes x)
  where
    by : (o : Option AxisLine) → option_map_or (λ (e : ℕ × Option ℕ × ℤ). e.1) (option_map (first_axis x) o) None ≡ option_and_then (λ l. l.owner) o
    by None = refl
    by (Some line) = refl

axis_there : (job : JobView) → IsSoundJob job → (x : ℕ) → x < length job.axes → start.has_axis (start_of job) x ≡ true
unfolding start_of
axis_there job sound x within =
    let line = some_there job.axes x within in
    found_any (λ (e : ℕ × Option ℕ × ℤ). e.0 == x) (first_axes job) (first_axis x line.0) (axis_found job sound x ∙ ap (option_map (first_axis x)) line.1)

owner_declared : (job : JobView) → IsSoundJob job → (x c : ℕ) → axes.first_owner job x ≡ Some c → IsDeclared job c
unfolding axes.first_owner
owner_declared job sound x c is = by (slice_get job.axes x) refl is
  where
    by : (o : Option AxisLine) → slice_get job.axes x ≡ o → option_and_then (λ l. l.owner) o ≡ Some c → IsDeclared job c
    by None at is = absurd cc
    by (Some line) at is =
        let owner : IfSome line.owner (IsDeclared job) = All-at (λ (l : AxisLine). IfSome l.owner (IsDeclared job)) job.axes x line sound.owners at in
        rw is at owner

-- ---- the zones
zone_of_line : (job : JobView) (z : ℕ) (zone : ZoneLine) → zone_line job z ≡ Some zone → zone.zone ≡ z
zone_of_line job z zone is = eqb-true zone.zone z (found_passes (λ (l : ZoneLine). l.zone == z) job.zones zone is)

zone_keyed : (job : JobView) → IsKeyed (λ e. e.0) (zone_entry job)
zone_keyed job n e is = by (zone_line job n) refl is
  where
    by : (o : Option ZoneLine) → zone_line job n ≡ o → option_map first_zone o ≡ Some e → e.0 ≡ n
    by None at is = absurd cc
    by (Some zone) at is = let same : first_zone zone ≡ e = cc in ap (λ x. x.0) (sym same) ∙ zone_of_line job n zone at

zone_sound : (job : JobView) → IsSoundJob job → (z : ℕ) (zone : ZoneLine) → zone_line job z ≡ Some zone → IsSoundZone job zone
zone_sound job sound z zone at = All-found (IsSoundZone job) (λ (l : ZoneLine). l.zone == z) job.zones zone sound.zones at

no_zone : (job : JobView) → IsSoundJob job → (z : ℕ) → (z < 1) ⊎ (ZONE_PLACES ≤ z) → zone_entry job z ≡ None
no_zone job sound z outside = by (zone_line job z) refl
  where
    far : (z < 1) ⊎ (ZONE_PLACES ≤ z) → 1 ≤ z → z ≤ ZONE_LIMIT → ⊥
    far (inl below) low high = omega arith
    far (inr above) low high = omega arith

    by : (o : Option ZoneLine) → zone_line job z ≡ o → option_map first_zone o ≡ None
    by None at = refl
    by (Some zone) at =
        let number : zone.zone ≡ z = zone_of_line job z zone at in
        let low : 1 ≤ zone.zone = (zone_sound job sound z zone at).low_number in
        let high : zone.zone ≤ ZONE_LIMIT = (zone_sound job sound z zone at).high_number in
        absurd (far outside (omega arith) (omega arith))

pub zone_found : (job : JobView) → IsSoundJob job → (z : ℕ) → find (λ e. e.0 == z) (first_zones job) ≡ zone_entry job z
unfolding first_zones
zone_found job sound z = by (nat_le 1 z) (nat_le z ZONE_LIMIT) refl refl
  where
    by : (low high : Bool) → nat_le 1 z ≡ low → nat_le z ZONE_LIMIT ≡ high → find (λ e. e.0 == z) (filter_map (zone_entry job) (range_with_len 1 ZONE_LIMIT)) ≡ zone_entry job z
    by true true low high =
        let at_least : 1 ≤ z = leb-true 1 z low in
        let at_most : z ≤ ZONE_LIMIT = leb-true z ZONE_LIMIT high in
        found_there (λ e. e.0) (zone_entry job) (zone_keyed job) 1 ZONE_LIMIT z at_least (omega arith)
    by false high low high_is =
        let below : z < 1 = leb-false 1 z low in
        none_here (λ e. e.0) (zone_entry job) (zone_keyed job) 1 ZONE_LIMIT z (inl below) ∙ sym (no_zone job sound z (inl below))
    by true false low high =
        let above : ZONE_LIMIT < z = leb-false z ZONE_LIMIT high in
        none_here (λ e. e.0) (zone_entry job) (zone_keyed job) 1 ZONE_LIMIT z (inr (omega arith)) ∙ sym (no_zone job sound z (inr (omega arith)))

-- an axis that carries a zone
carrier_has : (zone : ZoneLine) (x : ℕ) → has (carriers zone) x ≡ true → has_axis zone x ≡ true
unfolding carriers
carrier_has zone x is = let same : 0 + x ≡ x = omega arith in sym (ap (has_axis zone) same) ∙ among 0 AXIS_LIMIT x is
  where
    among : (a k i : ℕ) → has (map (has_axis zone) (range_with_len a k)) i ≡ true → has_axis zone (a + i) ≡ true
    among a zero i is = absurd (true≢false (sym is))
    among a (suc k) zero is = let same : a + 0 ≡ a = omega arith in ap (has_axis zone) same ∙ is
    among a (suc k) (suc i) is = let same : (a + 1) + i ≡ a + suc i = omega arith in sym (ap (has_axis zone) same) ∙ among (a + 1) k i is

-- ---- programs
selected_there : (job : JobView) → IsSoundJob job → (c : ℕ) (line : ChannelLine) → line_of_channel job c ≡ Some line → line.starts ≡ true
    → is_some (selected_place job line) ≡ true
selected_there job sound c line at starts =
    by line.program (All-found (λ (l : ChannelLine). l.starts ≡ true → IsSome l.program) (λ l. l.channel == c) job.channels line sound.selecting at starts)
    (All-found (λ (l : ChannelLine). IfSome l.program (λ name. Any (λ program. program.0 ≡ name) job.programs)) (λ l. l.channel == c) job.channels line sound.selected at)
  where
    key_there : (programs : List (List ℕ × ProgramView)) (name : List ℕ) (k : ℕ) (program : List ℕ × ProgramView) → k < length programs → get_or programs k program ≡ program
        → program.0 ≡ name → list_any (bytes_eq name) (keys_of programs) ≡ true
    key_there [] name k program within is same = absurd (omega arith)
    key_there (p ∷ programs) name zero program within is same =
        let equal : name ≡ p.0 = sym same ∙ ap (λ q. q.0) (sym is) in
        rw ((bytes_eq-Decides name p.0).1 equal) refl
    key_there (p ∷ programs) name (suc k) program within is same = or_true (bytes_eq name p.0) _ (key_there programs name k program (omega arith) is same)
      where
        or_true : (b c : Bool) → c ≡ true → (b || c) ≡ true
        or_true true c is = refl
        or_true false c is = is

    by : (program : Option (List ℕ)) → IsSome program → IfSome program (λ name. Any (λ (p : List ℕ × ProgramView). p.0 ≡ name) job.programs)
        → is_some (option_and_then (place_of_name job) program) ≡ true
    by None some known = absurd cc
    by (Some name) some (k, program, within, is, same) = position_some (bytes_eq name) (keys_of job.programs) (key_there job.programs name k program within is same)

-- ---- all
channel_line_fact : (job : JobView) → IsSoundJob job → (c : ℕ) → start.runs_at_first (start_of job) c ≡ true → is_some (start.first_program (start_of job) c) ≡ true
unfolding start_of
channel_line_fact job sound c runs =
    rw (channel_found job sound c) (by (line_of_channel job c) refl (rw (channel_found job sound c) at runs))
  where
    by : (o : Option ChannelLine) → line_of_channel job c ≡ o → option_map_or (λ (e : ℕ × Option ℕ × Bool). e.2) (option_map (first_channel job) o) false ≡ true
        → is_some (option_map_or (λ (e : ℕ × Option ℕ × Bool). e.1) (option_map (first_channel job) o) None) ≡ true
    by None at runs = absurd cc
    by (Some line) at runs = selected_there job sound c line at runs

holder_declared : (job : JobView) → IsSoundJob job → (z c : ℕ) → start.first_holder (start_of job) z ≡ Some c → start.has_channel (start_of job) c ≡ true
unfolding start_of
holder_declared job sound z c held = declared_there job sound c (by (zone_line job z) refl (rw (zone_found job sound z) at held))
  where
    by : (o : Option ZoneLine) → zone_line job z ≡ o → option_map_or (λ (e : ℕ × List Bool × Option ℕ × Bool). e.2) (option_map first_zone o) None ≡ Some c → IsDeclared job c
    by None at held = absurd cc
    by (Some zone) at held =
        let declared : IfSome zone.holder (IsDeclared job) = (zone_sound job sound z zone at).held in
        rw held at declared

-- the axes of a zone are axes of its holder
zone_axis : (job : JobView) → IsSoundJob job → (z x : ℕ) → has (start.axes_of_zone (start_of job) z) x ≡ true
    → (x < length job.axes) × (axes.first_owner job x ≡ start.first_holder (start_of job) z)
unfolding start_of
zone_axis job sound z x carries = rw (zone_found job sound z) (by (zone_line job z) refl (rw (zone_found job sound z) at carries))
  where
    by : (o : Option ZoneLine) → zone_line job z ≡ o → has (option_map_or (λ (e : ℕ × List Bool × Option ℕ × Bool). e.1) (option_map first_zone o) []) x ≡ true
        → (x < length job.axes) × (axes.first_owner job x ≡ option_map_or (λ (e : ℕ × List Bool × Option ℕ × Bool). e.2) (option_map first_zone o) None)
    by None at carries = absurd (true≢false (sym carries))
    by (Some zone) at carries = carrier_there job zone (zone_sound job sound z zone at) x (carrier_has zone x carries)

channels_once : (job : JobView) → stand_once (map (λ line. line.0) (first_channels job)) ≡ true
unfolding first_channels
channels_once job = once (λ e. e.0) (channel_entry job) (channel_keyed job) 1 CHANNEL_LIMIT

axes_once : (job : JobView) → stand_once (map (λ line. line.0) (first_axes job)) ≡ true
unfolding first_axes
axes_once job = once (λ e. e.0) (axis_entry job) (axis_keyed job) 0 AXIS_LIMIT

zones_once : (job : JobView) → stand_once (map (λ line. line.0) (first_zones job)) ≡ true
unfolding first_zones
zones_once job = once (λ e. e.0) (zone_entry job) (zone_keyed job) 1 ZONE_LIMIT

pub start_sound : (job : JobView) → IsSoundJob job → IsSound (start_of job)
unfolding start_of
start_sound job sound = record {
  channels_once = channels_once job;
  axes_once = axes_once job;
  zones_once = zones_once job;
  owners = λ x c owned. declared_there job sound c (owner_declared job sound x c (sym (owner_is job sound x) ∙ owned));
  holders = holder_declared job sound;
  zone_axes = λ z x carries. axis_there job sound x (zone_axis job sound z x carries).0;
  zone_owners = λ z x carries. owner_is job sound x ∙ (zone_axis job sound z x carries).1;
  programs = channel_line_fact job sound;
}
