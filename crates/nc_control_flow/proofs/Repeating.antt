-- Repetitions that turn, and how control settles.
use Rattle.std.proofs.Common.{◌≡◌, ℕ, zero, suc, ◌+◌, ◌-◌, ◌<◌, ◌==◌, Bool, true, false, List, length, get_or, take, drop, refl, sym, ap, ◌∙◌, subst, arith, All, Option, Some, None}
use Rattle.std.specs.Prelude.{position, slice_get, slice_set, remove, insert, filter, option_map, option_and_then}
use Rattle.std.specs.Option.{option_or}
use Rattle.std.proofs.lemmas.List.{set_split, take_at, drop_at, length-take-le}
use Rattle.std.proofs.lemmas.List.Elements.{All-append, All-take, All-drop, All-set, All-filter, All-same, All-get_or}
use Rattle.std.proofs.lemmas.List.Sums.{sum_by-set, sum_by-remove}
use Rattle.std.proofs.lemmas.List.Quantifiers.{position-Some}
use Rattle.std.proofs.lemmas.Option.{slice_get-get_or, get_or_from_slice_get, same_Some}
use Rattle.std.proofs.lemmas.Bool.Decides.{nat_tests}
use Rattle.nc_control_flow.specs.declared.repeats.Running.{Running}
use Rattle.nc_control_flow.specs.declared.repeats.Control.{Control}
use Rattle.nc_control_flow.specs.declared.repeats.Control.TheVariants.{Done, Comes}
use Rattle.nc_control_flow.specs.Repetitions.{Level, is_over, turned_at, turn, hop, place_past, after_hop, hops, times, going_after_passes, TurnsTo, OwnFits}

-- ---- lists with one element less, or back in its place
pub All-remove : {X : Type 0} (P : X → Type 0) (xs : List X) (at : ℕ) → All P xs → All P (remove xs at)
All-remove P xs at h = All-append P (take at xs) (drop (suc at) xs) (All-take P at xs h) (All-drop P (suc at) xs h)

pub put_back : {X : Type 0} (xs : List X) (at : ℕ) (x : X) → at < length xs → insert (remove xs at) at x ≡ slice_set xs at x
put_back xs at x h =
    let long : length (take at xs) ≡ at = length-take-le at xs (omega arith) in
    rw (take_at (take at xs) (drop (suc at) xs) at long, drop_at (take at xs) (drop (suc at) xs) at long) (sym (set_split xs at x h))

-- ---- one turn
turned_from : (rs : List Running) (o : Option ℕ) (at : ℕ) (r : Running) → o ≡ Some at → slice_get rs at ≡ Some r
    → option_and_then (λ at. option_map (turned_at rs at) (slice_get rs at)) o ≡ Some (turned_at rs at r)
turned_from rs o at r e s = rw e (rw s refl)

pub turn_is : (control : Control) (rs : List Running) (at : ℕ) (r : Running) → position (is_over control) rs ≡ Some at → r ≡ get_or rs at r
    → turn control rs ≡ Some (turned_at rs at r)
turn_is control rs at r p e =
    turned_from rs (position (is_over control) rs) at r p
    (slice_get-get_or rs at r (position-Some (is_over control) rs at r p).0 ∙ ap (λ x. Some x) (sym e))

pub turns_end : (control : Control) (rs new : List Running) (at : ℕ) (r : Running) → position (is_over control) rs ≡ Some at → r ≡ get_or rs at r
    → r.left ≡ 0 → new ≡ remove rs at → TurnsTo (turn control rs) (Some (Done r.own)) rs new
turns_end control rs new at r p e l n =
    let P : Option Level → Type 0 = λ o. TurnsTo o (Some (Done r.own)) rs new in
    let ended : turned_at rs at r ≡ record { control = Done r.own; running = remove rs at } = rw l refl in
    subst P (sym (turn_is control rs at r p e ∙ ap (λ x. Some x) ended)) (refl, n)

pub turns_again : (control : Control) (rs new : List Running) (at : ℕ) (r : Running) → position (is_over control) rs ≡ Some at → r ≡ get_or rs at r
    → (r.left == 0) ≡ false → new ≡ slice_set rs at (record r { left = r.left - 1 }) → TurnsTo (turn control rs) (Some (Comes r.first)) rs new
turns_again control rs new at r p e l n =
    let P : Option Level → Type 0 = λ o. TurnsTo o (Some (Comes r.first)) rs new in
    let again : turned_at rs at r ≡ record { control = Comes r.first; running = slice_set rs at (record r { left = r.left - 1 }) } = rw l refl in
    subst P (sym (turn_is control rs at r p e ∙ ap (λ x. Some x) again)) (refl, n)

-- ---- what one turn leaves
pub over_is : (control : Control) (rs seen : List Running) (o : Option ℕ) (at : ℕ) → seen ≡ rs → o ≡ position (is_over control) seen → o ≡ Some at
    → position (is_over control) rs ≡ Some at
over_is control rs seen o at s p e = ap (λ xs. position (is_over control) xs) (sym s) ∙ sym p ∙ e

pub within_over : (control : Control) (rs : List Running) (at : ℕ) (r : Running) → position (is_over control) rs ≡ Some at → at < length rs
within_over control rs at r p = (position-Some (is_over control) rs at r p).0

pub back_again : (xs mid new : List Running) (at : ℕ) (x : Running) → mid ≡ remove xs at → new ≡ insert mid at x → at < length xs → new ≡ slice_set xs at x
back_again xs mid new at x m n h = n ∙ ap (λ ys. insert ys at x) m ∙ put_back xs at x h

pub own_removed : (xs new : List Running) (at : ℕ) → new ≡ remove xs at → All OwnFits xs → All OwnFits new
own_removed xs new at n h = All-same OwnFits new (remove xs at) n (All-remove OwnFits xs at h)

pub own_kept : (xs new : List Running) (at : ℕ) (r one : Running) → r ≡ get_or xs at r → at < length xs → one.own ≡ r.own → new ≡ slice_set xs at one
    → All OwnFits xs → All OwnFits new
own_kept xs new at r one e h o n inv =
    let here : OwnFits (get_or xs at r) = All-get_or OwnFits xs at r h inv in
    let same : one.own ≡ (get_or xs at r).own = o ∙ ap (λ x. x.own) e in
    All-same OwnFits new (slice_set xs at one) n (All-set OwnFits xs at one (rw same here) inv)

pub own_filtered : (test : Running → Bool) (xs seen new : List Running) → seen ≡ xs → new ≡ filter test seen → All OwnFits xs → All OwnFits new
own_filtered test xs seen new s n h = All-same OwnFits new (filter test xs) (n ∙ ap (λ ys. filter test ys) s) (All-filter test OwnFits xs h)

-- ---- control settles
turn_set : (rs : List Running) (at : ℕ) (r : Running) → at < length rs → get_or rs at r ≡ r → (r.left == 0) ≡ false
    → times (slice_set rs at (record r { left = r.left - 1 })) + 1 ≡ times rs
turn_set rs at r h e l =
    let set_one = sum_by-set (λ (x : Running). x.left + 1) rs at (record r { left = r.left - 1 }) r h in
    let same : (get_or rs at r).left ≡ r.left = ap (λ x. x.left) e in
    let more : 0 < r.left = grind (arith, nat_tests) in
    omega (arith, set_one)

turn_end : (rs : List Running) (at : ℕ) (r : Running) → at < length rs → get_or rs at r ≡ r → (r.left == 0) ≡ true → times (remove rs at) + 1 ≡ times rs
turn_end rs at r h e l =
    let taken = sum_by-remove (λ (x : Running). x.left + 1) rs at r h in
    let same : (get_or rs at r).left ≡ r.left = ap (λ x. x.left) e in
    let none : r.left ≡ 0 = grind (arith, nat_tests) in
    omega (arith, taken)

turn_level : (rs : List Running) (at : ℕ) (r : Running) (level : Level) (b : Bool) → at < length rs → get_or rs at r ≡ r → (r.left == 0) ≡ b
    → turned_at rs at r ≡ level → times level.running + 1 ≡ times rs
turn_level rs at r level true h e l t =
    let ended : turned_at rs at r ≡ record { control = Done r.own; running = remove rs at } = rw l refl in
    rw (sym (sym ended ∙ t)) (turn_end rs at r h e l)
turn_level rs at r level false h e l t =
    let again : turned_at rs at r ≡ record { control = Comes r.first; running = slice_set rs at (record r { left = r.left - 1 }) } = rw l refl in
    rw (sym (sym again ∙ t)) (turn_set rs at r h e l)

turn_from : (control : Control) (rs : List Running) (level : Level) (at : ℕ) (o : Option Running) → position (is_over control) rs ≡ Some at → slice_get rs at ≡ o
    → option_map (turned_at rs at) o ≡ Some level → times level.running + 1 ≡ times rs
turn_from control rs level at None p s t = absurd (cc)
turn_from control rs level at (Some r) p s t =
    turn_level rs at r level (r.left == 0) (within_over control rs at r p) (get_or_from_slice_get rs at r r s) refl (same_Some (turned_at rs at r) level t)

turn_at : (control : Control) (rs : List Running) (level : Level) (o : Option ℕ) → position (is_over control) rs ≡ o
    → option_and_then (λ at. option_map (turned_at rs at) (slice_get rs at)) o ≡ Some level → times level.running + 1 ≡ times rs
turn_at control rs level None p t = absurd (cc)
turn_at control rs level (Some at) p t = turn_from control rs level at (slice_get rs at) p refl t

-- each turn takes one of the times that are left
pub turn_takes : (control : Control) (rs : List Running) (level : Level) → turn control rs ≡ Some level → times level.running + 1 ≡ times rs
turn_takes control rs level t = turn_at control rs level (position (is_over control) rs) refl t

either_takes : (pc : ℕ) (rs : List Running) (level : Level) (o : Option Level) → turn (Done pc) rs ≡ o → option_or o (turn (Comes (pc + 1)) rs) ≡ Some level
    → times level.running + 1 ≡ times rs
either_takes pc rs level None t e = turn_takes (Comes (pc + 1)) rs level e
either_takes pc rs level (Some other) t e = turn_takes (Done pc) rs level (t ∙ e)

pub hop_takes : (control : Control) (rs : List Running) (level : Level) → hop control rs ≡ Some level → times level.running + 1 ≡ times rs
unfolding hop
hop_takes (Comes pc) rs level e = turn_takes (Comes pc) rs level e
hop_takes (Done pc) rs level e = either_takes pc rs level (turn (Done pc) rs) refl e

hopped : (n : ℕ) (control : Control) (rs : List Running) (level : Level) → hop control rs ≡ Some level → n ≡ times level.running
    → hops (suc n) control rs ≡ going_after_passes level.control level.running
unfolding going_after_passes
hopped n control rs level e t = ap (λ o. after_hop control rs o (λ c r. hops n c r)) e ∙ ap (λ k. hops k level.control level.running) t

pub stopped : (n : ℕ) (control : Control) (rs : List Running) → hop control rs ≡ None → hops n control rs ≡ record { place = place_past control; running = rs }
stopped zero control rs e = refl
stopped (suc n) control rs e = ap (λ o. after_hop control rs o (λ c r. hops n c r)) e

hop_level : (o : Option Level) (control next : Control) (old new : List Running) → TurnsTo o (Some next) old new → o ≡ Some (record { control = next; running = new })
hop_level None control next old new t = absurd (let e = t.0 in cc)
hop_level (Some level) control next old new t =
    ap (λ c. Some (record { control = c; running = level.running })) (sym (same_Some next level.control t.0))
    ∙ ap (λ rs. Some (record { control = next; running = rs })) (sym t.1)

hop_none : (o : Option Level) (old new : List Running) → TurnsTo o None old new → (o ≡ None) × (new ≡ old)
hop_none None old new t = (refl, t.1)
hop_none (Some level) old new t = absurd (let e = t.0 in cc)

pub settled_hop : (control next : Control) (old new : List Running) → TurnsTo (hop control old) (Some next) old new
    → (going_after_passes next new ≡ going_after_passes control old) × (times new + 1 ≡ times old)
unfolding going_after_passes
settled_hop control next old new t =
    let level : Level = record { control = next; running = new } in
    let e : hop control old ≡ Some level = hop_level (hop control old) control next old new t in
    let takes : times new + 1 ≡ times old = hop_takes control old level e in
    let more : times old ≡ suc (times new) = omega arith in
    (sym (ap (λ n. hops n control old) more ∙ hopped (times new) control old level e refl), takes)

pub settled_stop : (control : Control) (old new : List Running) → TurnsTo (hop control old) None old new
    → going_after_passes control old ≡ record { place = place_past control; running = new }
unfolding going_after_passes
settled_stop control old new t =
    let h = hop_none (hop control old) old new t in
    stopped (times old) control old h.0 ∙ ap (λ rs. record { place = place_past control; running = rs }) (sym h.1)
