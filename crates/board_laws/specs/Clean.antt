-- Steps. A step of the machine without a race, what is always so, and what an action may do.
use Rattle.std.specs.Prelude.{◌≡◌, ℕ, suc, ◌≤◌, ◌==◌, ◌||◌, Bool, true, false}
use Rattle.sync_types.specs.GoingOn.{takes_from_standing}
use Rattle.sync_types.specs.Runs.{Script}
use Rattle.sync_types.specs.declared.Step.{Step}
use Rattle.board_laws.specs.Machine.{Mark, Axis, Call, Seat, Own, State, Effect, asks, is_at, is_idle, mine, ready, go_clock, with_effect, board_of, touches, effect, next_step}

-- one set of own and named channels
abbrev pub SameSet : ℕ → Seat → ℕ → Seat → ℕ → Type 0
SameSet c s d r k = (x : ℕ) → ((x == c) || asks s (Mark x k)) ≡ ((x == d) || asks r (Mark x k))

-- when d goes on at its mark k: who waits for it goes on too, with the same channels, and who needed it before is before it
pub record MarkClean (t : State) (d c k : ℕ) : Type 0 where
  pub goes : asks (t.own c).seat (Mark d k) ≡ true → ready t c ≡ true
  pub set : asks (t.own c).seat (Mark d k) ≡ true → SameSet c (t.own c).seat d (t.own d).seat k
  pub needed : (t.own c).needs d k ≤ go_clock t d c

-- what goes on goes without a race; for an axis that is taken nobody else waits
pub record GoesClean (t : State) : Type 0 where
  pub marks : (d c k : ℕ) → ready t d ≡ true → is_at (t.own d).seat k ≡ true → (c == d) ≡ false → MarkClean t d c k
  pub axes : (c d a : ℕ) → ready t c ≡ true → asks (t.own c).seat (Axis a) ≡ true → mine t c a ≡ false → (d == c) ≡ false → asks (t.own d).seat (Axis a) ≡ false

-- The act has no race: a mark for which it waits was lowered before it, and an axis taken; who needed a mark that it lowers
-- is before it, and nobody waits for that mark; and no other INIT or START of the channels that it names is apart from it.
pub record ActClean (x : State) (p : ℕ) (names : ℕ → Bool) (e : Effect) : Type 0 where
  pub waiting : (d k : ℕ) → asks e.own.seat (Mark d k) ≡ true → (d == p) ≡ false → (x.own d).lowered k ≤ (x.own p).past d
  pub lowering : (c k : ℕ) → (x.own p).marks k ≡ true → e.own.marks k ≡ false → (c == p) ≡ false → (x.own c).needs p k ≤ (x.own p).past c
  pub unasked : (c k : ℕ) → (x.own p).marks k ≡ true → e.own.marks k ≡ false → (c == p) ≡ false → asks (x.own c).seat (Mark p k) ≡ false
  pub asking : (d a : ℕ) → asks e.own.seat (Axis a) ≡ true → (d == p) ≡ false → (x.own d).took a ≤ (x.own p).past d
  pub starting : (d y : ℕ) → names y ≡ true → (d == p) ≡ false → (x.own d).started y ≤ (x.own p).past d

-- the step has no race
pub record IsClean (x : State) (p : ℕ) (step : Step) : Type 0 where
  pub act : ActClean x p (touches step.action) (effect x p step)
  pub going : GoesClean (with_effect x p (effect x p step))

abbrev pub Clean : Script → State → ℕ → Type 0
Clean script x p = IsClean x p (next_step script x p)

-- what an action may do to one of its own marks
pub data MarkChange (old new : Own) (k : ℕ) : Type 0 where
  Stays : new.marks k ≡ old.marks k → new.raised k ≡ old.raised k → new.lowered k ≡ old.lowered k → MarkChange old new k
  Raises : old.marks k ≡ false → new.marks k ≡ true → new.raised k ≡ new.past → new.lowered k ≡ old.lowered k → MarkChange old new k
  Lowers : old.marks k ≡ true → new.marks k ≡ false → new.raised k ≡ old.raised k → new.lowered k ≡ suc old.count → MarkChange old new k

-- what is so of each action
pub record IsAct (p : ℕ) (old : Own) (names : ℕ → Bool) (e : Effect) : Type 0 where
  pub count : e.own.count ≡ suc old.count
  pub own_past : e.own.past p ≡ suc old.count
  pub past : (x : ℕ) → (x == p) ≡ false → e.own.past x ≡ old.past x
  pub needs : (d k : ℕ) → e.own.needs d k ≡ old.needs d k
  pub took : (a : ℕ) → e.own.took a ≡ old.took a
  pub program : e.own.program ≡ old.program
  pub mark : (k : ℕ) → MarkChange old e.own k
  pub found_down : (k : ℕ) → is_at e.own.seat k ≡ true → old.marks k ≡ false
  pub leaves_up : (k : ℕ) → is_at e.own.seat k ≡ true → e.own.marks k ≡ true
  pub awake : is_idle e.own.seat ≡ false
  pub uncalled : (r : ℕ) → asks e.own.seat (Call r) ≡ false
  pub named : (y : ℕ) → names y ≡ true → e.own.started y ≡ suc old.count
  pub unnamed : (y : ℕ) → names y ≡ false → e.own.started y ≡ old.started y
  pub calls : (y : ℕ) → names y ≡ false → e.calls y ≡ false
  pub selects : (y : ℕ) → names y ≡ false → e.selects y ≡ false

-- clocks and places never exceed counts; the own mark of a channel that waits stands
pub record Inv (t : State) : Type 0 where
  pub past : (c x : ℕ) → (t.own c).past x ≤ (t.own x).count
  pub raised : (c k x : ℕ) → (t.own c).raised k x ≤ (t.own x).count
  pub freed : (a x : ℕ) → (t.axis a).freed x ≤ (t.own x).count
  pub lowered : (c k : ℕ) → (t.own c).lowered k ≤ (t.own c).count
  pub needs : (c d k : ℕ) → (t.own c).needs d k ≤ (t.own c).count
  pub took : (c a : ℕ) → (t.own c).took a ≤ (t.own c).count
  pub started : (c y : ℕ) → (t.own c).started y ≤ (t.own c).count
  pub stands : (c k : ℕ) → is_at (t.own c).seat k ≡ true → (t.own c).marks k ≡ true

-- between steps nobody is started, and nobody takes axes from channels that stand
pub record Rests (t : State) : Type 0 where
  pub inv : Inv t
  pub uncalled : (c r : ℕ) → asks (t.own c).seat (Call r) ≡ false
  pub takes_free : (c : ℕ) → takes_from_standing ((board_of t).state c) ≡ false
