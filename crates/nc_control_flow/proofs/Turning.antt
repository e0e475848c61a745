-- What stays when control goes on.
use Rattle.std.proofs.Common.{◌≡◌, ℕ, zero, suc, ◌+◌, ◌-◌, ◌≤◌, ◌==◌, Bool, true, false, List, refl, sym, ap, ◌∙◌, subst, arith, All, Option, Some, None}
use Rattle.std.specs.Prelude.{position, slice_get, slice_set, remove, option_map, option_and_then}
use Rattle.std.specs.Option.{option_or}
use Rattle.std.proofs.lemmas.List.Elements.{All-set, All-get_or}
use Rattle.std.proofs.lemmas.Option.{slice_get_within, get_or_from_slice_get, same_Some}
use Rattle.nc_control_flow.specs.declared.repeats.Running.{Running}
use Rattle.nc_control_flow.specs.declared.repeats.Control.{Control}
use Rattle.nc_control_flow.specs.declared.repeats.Control.TheVariants.{Done, Comes}
use Rattle.nc_control_flow.specs.Repetitions.{Level, Going, is_over, turned_at, turn, hop, place_past, after_hop, hops, times, going_after_passes, TurnsTo}
use Rattle.nc_control_flow.proofs.Repeating.{All-remove, hop_takes, stopped, settled_hop}

-- ---- what does not depend on the passes that are left

module _ (P : Running → Type 0) (same : (r : Running) (n : ℕ) → P r → P (record r { left = n })) (rs : List Running) (all : All P rs) where
  level_keeps : (at : ℕ) (r : Running) (level : Level) (b : Bool) → P r → (r.left == 0) ≡ b → turned_at rs at r ≡ level → All P level.running
  level_keeps at r level true p e t =
      let ended : turned_at rs at r ≡ record { control = Done r.own; running = remove rs at } = rw e refl in
      subst (λ (l : Level). All P l.running) (sym ended ∙ t) (All-remove P rs at all)
  level_keeps at r level false p e t =
      let again : turned_at rs at r ≡ record { control = Comes r.first; running = slice_set rs at (record r { left = r.left - 1 }) } = rw e refl in
      subst (λ (l : Level). All P l.running) (sym again ∙ t) (All-set P rs at (record r { left = r.left - 1 }) (same r (r.left - 1) p) all)

  from_keeps : (at : ℕ) (level : Level) (o : Option Running) → slice_get rs at ≡ o → option_map (turned_at rs at) o ≡ Some level → All P level.running
  from_keeps at level None s t = absurd (cc)
  from_keeps at level (Some r) s t =
      let here : P r = subst P (get_or_from_slice_get rs at r r s) (All-get_or P rs at r (slice_get_within rs at r s) all) in
      level_keeps at r level (r.left == 0) here refl (same_Some (turned_at rs at r) level t)

  at_keeps : (level : Level) (o : Option ℕ) → option_and_then (λ at. option_map (turned_at rs at) (slice_get rs at)) o ≡ Some level → All P level.running
  at_keeps level None t = absurd (cc)
  at_keeps level (Some at) t = from_keeps at level (slice_get rs at) refl t

  turn_keeps : (control : Control) (level : Level) → turn control rs ≡ Some level → All P level.running
  turn_keeps control level t = at_keeps level (position (is_over control) rs) t

  either_keeps : (pc : ℕ) (level : Level) (o : Option Level) → turn (Done pc) rs ≡ o → option_or o (turn (Comes (pc + 1)) rs) ≡ Some level → All P level.running
  either_keeps pc level None t e = turn_keeps (Comes (pc + 1)) level e
  either_keeps pc level (Some other) t e = turn_keeps (Done pc) level (t ∙ e)

  hop_keeps : (control : Control) (level : Level) → hop control rs ≡ Some level → All P level.running
  unfolding hop
  hop_keeps (Comes pc) level e = turn_keeps (Comes pc) level e
  hop_keeps (Done pc) level e = either_keeps pc level (turn (Done pc) rs) refl e

-- ---- what each step keeps is kept

module _ (Q : List Running → Type 0) (step : (control : Control) (rs : List Running) (level : Level) → hop control rs ≡ Some level → Q rs → Q level.running) where
  after_keeps : (control : Control) (rs : List Running) (o : Option Level) (onward : Control → List Running → Going) → hop control rs ≡ o → Q rs
      → ((c : Control) (xs : List Running) → Q xs → Q (onward c xs).running) → Q (after_hop control rs o onward).running
  after_keeps control rs None onward e q rest = q
  after_keeps control rs (Some level) onward e q rest = rest level.control level.running (step control rs level e q)

  hops_keep : (n : ℕ) (control : Control) (rs : List Running) → Q rs → Q (hops n control rs).running
  hops_keep zero control rs q = q
  hops_keep (suc n) control rs q = after_keeps control rs (hop control rs) (λ c xs. hops n c xs) refl q (λ c xs. hops_keep n c xs)

  settled_keeps : (control : Control) (rs : List Running) → Q rs → Q (going_after_passes control rs).running
  unfolding going_after_passes
  settled_keeps control rs q = hops_keep (times rs) control rs q

pub all_settled : (P : Running → Type 0) → ((r : Running) (n : ℕ) → P r → P (record r { left = n })) → (control : Control) (rs : List Running) → All P rs
    → All P (going_after_passes control rs).running
all_settled P same control rs all = settled_keeps (λ (xs : List Running). All P xs) (λ c xs level e q. hop_keeps P same xs q c level e) control rs all

-- no pass is added
pub settled_takes : (control : Control) (rs : List Running) → times (going_after_passes control rs).running ≤ times rs
settled_takes control rs =
    let fewer : (c : Control) (xs : List Running) (level : Level) → hop c xs ≡ Some level → times xs ≤ times rs → times level.running ≤ times rs =
    λ c xs level e q. let takes = hop_takes c xs level e in omega (arith, takes, q) in
    settled_keeps (λ (xs : List Running). times xs ≤ times rs) fewer control rs (omega arith)

-- ---- by the first step

-- control stays where no pass is over
pub settled_none : (control : Control) (rs : List Running) → hop control rs ≡ None → going_after_passes control rs ≡ record { place = place_past control; running = rs }
unfolding going_after_passes
settled_none control rs e = stopped (times rs) control rs e

pub settled_some : (control next : Control) (rs new : List Running) → hop control rs ≡ Some (record { control = next; running = new })
    → (going_after_passes next new ≡ going_after_passes control rs) × (times new + 1 ≡ times rs)
settled_some control next rs new e = settled_hop control next rs new (subst (λ (o : Option Level). TurnsTo o (Some next) rs new) (sym e) (refl, refl))

-- where its own pass is not over, what is done comes to the next block
after_same : (pc : ℕ) (rs : List Running) (o : Option Level) (onward : Control → List Running → Going)
    → after_hop (Done pc) rs o onward ≡ after_hop (Comes (pc + 1)) rs o onward
after_same pc rs None onward = refl
after_same pc rs (Some level) onward = refl

hops_same : (n pc : ℕ) (rs : List Running) → hop (Done pc) rs ≡ hop (Comes (pc + 1)) rs → hops n (Done pc) rs ≡ hops n (Comes (pc + 1)) rs
hops_same zero pc rs e = refl
hops_same (suc n) pc rs e =
    ap (λ (o : Option Level). after_hop (Done pc) rs o (λ c xs. hops n c xs)) e ∙ after_same pc rs (hop (Comes (pc + 1)) rs) (λ c xs. hops n c xs)

hop_same : (pc : ℕ) (rs : List Running) → turn (Done pc) rs ≡ None → hop (Done pc) rs ≡ hop (Comes (pc + 1)) rs
unfolding hop
hop_same pc rs e = ap (λ (o : Option Level). option_or o (turn (Comes (pc + 1)) rs)) e

pub settled_same : (pc : ℕ) (rs : List Running) → turn (Done pc) rs ≡ None → going_after_passes (Done pc) rs ≡ going_after_passes (Comes (pc + 1)) rs
unfolding going_after_passes
settled_same pc rs e = hops_same (times rs) pc rs (hop_same pc rs e)

pub hop_comes : (pc : ℕ) (rs : List Running) → turn (Comes pc) rs ≡ None → hop (Comes pc) rs ≡ None
unfolding hop
hop_comes pc rs e = e
