-- Which steps have a race with an earlier one.
use Rattle.std.proofs.Common.{◌≡◌, ℕ, ◌<◌, ◌==◌, ◌↔◌, true, false, refl}
use Rattle.order_clocks.specs.Counters.{row}
use Rattle.order_clocks.specs.Courses.{Course, IsEventIn}
use Rattle.order_clocks.specs.TracedRaces.{Trace}
use Rattle.order_clocks.specs.Tracks.{Tracks, AreApartIn, last_place}
use Rattle.order_clocks.proofs.RaceLaws.{last_suffices}
use Rattle.sync_types.specs.declared.runs.EventId.{EventId}

-- a step has a race with an earlier one exactly where the last place of some trace is not counted
pub record IsUncounted (run : Course) (tracks : Tracks) (i : ℕ) (late : EventId) (c : ℕ) (t : Trace) : Type 0 where
  pub step : late.step ≡ i
  pub event : IsEventIn run late
  pub other : (c == late.channel) ≡ false
  pub minds : tracks.minds late t ≡ true
  pub above : row run late c < last_place run tracks c t late.step

pub record IsRacy (run : Course) (tracks : Tracks) (i : ℕ) (early late : EventId) (t : Trace) : Type 0 where
  pub step : late.step ≡ i
  pub apart : AreApartIn run tracks early late t

pub racy_steps : (run : Course) (tracks : Tracks) (i : ℕ)
    → ((late : EventId) × ((c : ℕ) × ((t : Trace) × IsUncounted run tracks i late c t))) ↔ ((early : EventId) × ((late : EventId) × ((t : Trace) × IsRacy run tracks i early late t)))
racy_steps run tracks i = (to, back)
  where
    to : ((late : EventId) × ((c : ℕ) × ((t : Trace) × IsUncounted run tracks i late c t))) → ((early : EventId) × ((late : EventId) × ((t : Trace) × IsRacy run tracks i early late t)))
    to w =
        let u = w.1.1.1 in
        let found = (last_suffices run tracks w.0 w.1.0 w.1.1.0 u.event u.other u.minds).0 u.above in
        (found.0, (w.0, (w.1.1.0, record { step = u.step; apart = found.1.1 })))

    back : ((early : EventId) × ((late : EventId) × ((t : Trace) × IsRacy run tracks i early late t))) → ((late : EventId) × ((c : ℕ) × ((t : Trace) × IsUncounted run tracks i late c t)))
    back w =
        let r = w.1.1.1 in
        let a = r.apart in (
          w.1.0,
          (
            w.0.channel,
            (
              w.1.1.0,
              record {
                step = r.step;
                event = a.second;
                other = a.channels;
                minds = a.minded;
                above = (last_suffices run tracks w.1.0 w.0.channel w.1.1.0 a.second a.channels a.minded).1 (w.0, (refl, a));
              },
            ),
          ),
        )
