-- Two starts that the test finds the same are one start.
use Rattle.std.proofs.Common.{◌≡◌, true≢false, ℕ, ◌&&◌, ℤ, Bool, true, false, Option, Some, None, refl, sym, ap}
use Rattle.std.proofs.Math.Bool.{beq}
use Rattle.std.proofs.lemmas.Bool.{and_parts}
use Rattle.std.specs.Bool.{Decides}
use Rattle.std.specs.Cmp.{booleans_Decides, signed_Decides, unsigned_Decides}
use Rattle.std.specs.Cmp.Lexicographic.{pointwise, pointwise_decides}
use Rattle.std.specs.Option.{option_eq}
use Rattle.std.specs.Ordering.{int_eq}
use Rattle.std.specs.Prelude.{nat_eq, List}
use Rattle.sync_types.specs.Views.{StartView}

both : (a b : Bool) → a ≡ true → b ≡ true → (a && b) ≡ true
both true b on rest = rest
both false b on rest = absurd (true≢false (sym on))

-- a test of options, by the test of what they hold
module _ {A : Type 0} {E : A → A → Bool} (decides : (x y : A) → Decides (E x y) (x ≡ y)) where
  abbrev some_of : A → Option A → A
  some_of x None = x
  some_of x (Some y) = y

  options_decide : (x y : Option A) → Decides (option_eq E x y) (x ≡ y)
  options_decide None None = (λ e. refl, λ e. refl)
  options_decide None (Some y) = (λ e. absurd (true≢false (sym e)), λ e. absurd cc)
  options_decide (Some x) None = (λ e. absurd (true≢false (sym e)), λ e. absurd cc)
  options_decide (Some x) (Some y) = (λ e. ap Some ((decides x y).0 e), λ e. (decides x y).1 (ap (some_of x) e))

abbrev Channel : Type 0
Channel = ℕ × Option ℕ × Bool

abbrev Axis : Type 0
Axis = ℕ × Option ℕ × ℤ

abbrev Zone : Type 0
Zone = ℕ × List Bool × Option ℕ × Bool

abbrev channel_eq : Channel → Channel → Bool
channel_eq x y = (nat_eq x.0 y.0 && option_eq nat_eq x.1 y.1) && beq x.2 y.2

abbrev axis_eq : Axis → Axis → Bool
axis_eq x y = (nat_eq x.0 y.0 && option_eq nat_eq x.1 y.1) && int_eq x.2 y.2

abbrev zone_eq : Zone → Zone → Bool
zone_eq x y = ((nat_eq x.0 y.0 && (pointwise beq x.1 y.1 && true)) && option_eq nat_eq x.2 y.2) && beq x.3 y.3

channels_decide : (x y : Channel) → Decides (channel_eq x y) (x ≡ y)
channels_decide x y = (
  (λ e.
      let p = and_parts _ _ e in
      let q = and_parts _ _ p.0 in
      λ i. ((unsigned_Decides x.0 y.0).0 q.0 i, (options_decide unsigned_Decides x.1 y.1).0 q.1 i, (booleans_Decides x.2 y.2).0 p.1 i)),
  (λ e. both _ _ (both _ _ ((unsigned_Decides x.0 y.0).1 (ap (λ (z : Channel). z.0) e)) ((options_decide unsigned_Decides x.1 y.1).1 (ap (λ (z : Channel). z.1) e)))
      ((booleans_Decides x.2 y.2).1 (ap (λ (z : Channel). z.2) e))),
)

axes_decide : (x y : Axis) → Decides (axis_eq x y) (x ≡ y)
axes_decide x y = (
  (λ e.
      let p = and_parts _ _ e in
      let q = and_parts _ _ p.0 in
      λ i. ((unsigned_Decides x.0 y.0).0 q.0 i, (options_decide unsigned_Decides x.1 y.1).0 q.1 i, (signed_Decides x.2 y.2).0 p.1 i)),
  (λ e. both _ _ (both _ _ ((unsigned_Decides x.0 y.0).1 (ap (λ (z : Axis). z.0) e)) ((options_decide unsigned_Decides x.1 y.1).1 (ap (λ (z : Axis). z.1) e)))
      ((signed_Decides x.2 y.2).1 (ap (λ (z : Axis). z.2) e))),
)

zones_decide : (x y : Zone) → Decides (zone_eq x y) (x ≡ y)
zones_decide x y = (
  (λ e.
      let p = and_parts _ _ e in
      let q = and_parts _ _ p.0 in
      let r = and_parts _ _ q.0 in
      λ i. ((unsigned_Decides x.0 y.0).0 r.0 i, (pointwise_decides booleans_Decides x.1 y.1).0 (and_parts _ _ r.1).0 i, (options_decide unsigned_Decides x.2 y.2).0 q.1 i, (booleans_Decides x.3 y.3).0 p.1 i)),
  (λ e. both _ _
      (both _ _ (both _ _ ((unsigned_Decides x.0 y.0).1 (ap (λ (z : Zone). z.0) e)) (both _ _ ((pointwise_decides booleans_Decides x.1 y.1).1 (ap (λ (z : Zone). z.1) e)) refl))
      ((options_decide unsigned_Decides x.2 y.2).1 (ap (λ (z : Zone). z.2) e)))
      ((booleans_Decides x.3 y.3).1 (ap (λ (z : Zone). z.3) e))),
)

abbrev pub start_eq : StartView → StartView → Bool
start_eq a b = pointwise channel_eq a.channels b.channels && (pointwise axis_eq a.axes b.axes && pointwise zone_eq a.zones b.zones)

pub starts_decide : (a b : StartView) → Decides (start_eq a b) (a ≡ b)
starts_decide a b = (
  (λ e.
      let p = and_parts _ _ e in
      let q = and_parts _ _ p.1 in
      λ i. record {
        channels = (pointwise_decides channels_decide a.channels b.channels).0 p.0 i;
        axes = (pointwise_decides axes_decide a.axes b.axes).0 q.0 i;
        zones = (pointwise_decides zones_decide a.zones b.zones).0 q.1 i;
      }),
  (λ e. both _ _ ((pointwise_decides channels_decide a.channels b.channels).1 (ap (λ (s : StartView). s.channels) e))
      (both _ _ ((pointwise_decides axes_decide a.axes b.axes).1 (ap (λ (s : StartView). s.axes) e)) ((pointwise_decides zones_decide a.zones b.zones).1 (ap (λ (s : StartView). s.zones) e)))),
)
