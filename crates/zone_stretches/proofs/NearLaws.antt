-- The stretches of another zone that may overlap one stand side by side.
use Rattle.std.proofs.Common.{◌≡◌, ◌∙◌, ℕ, ◌&&◌, not, Bool, true, false, cond, List, ◌∷◌, drop, filter, take, refl, ap}
use Rattle.zone_stretches.proofs.ChainLaws.{part_is}
use Rattle.zone_stretches.specs.Ascents.{leading, PassFirst, passes}
use Rattle.zone_stretches.specs.Overlaps.{Order, may_overlap, is_open_at}
use Rattle.zone_stretches.specs.Stretches.{StretchView}

-- ---- stretches that do not overlap

and_none : (a b : Bool) → not b ≡ true → (a && b) ≡ false
and_none true true on = absurd cc
and_none false true on = refl
and_none true false on = refl
and_none false false on = refl

none_and : (a b : Bool) → not (not a) ≡ false → (a && b) ≡ false
none_and true b off = absurd cc
none_and false b off = refl

pub apart_early : (before : Order) (own other : StretchView) → passes before true own other ≡ true → may_overlap before own other ≡ false
unfolding may_overlap
apart_early before own other over = and_none (is_open_at before own.last other.first) (is_open_at before other.last own.first) over

pub apart_late : (before : Order) (own other : StretchView) → passes before false own other ≡ false → may_overlap before own other ≡ false
unfolding may_overlap
apart_late before own other over = none_and (is_open_at before own.last other.first) (is_open_at before other.last own.first) over

-- ---- those that may

skipped : (before : Order) (own x : StretchView) (xs : List StretchView) → may_overlap before own x ≡ false → filter (may_overlap before own) (x ∷ xs) ≡ filter (may_overlap before own) xs
skipped before own x xs apart = ap (λ (b : Bool). cond b (x ∷ filter (may_overlap before own) xs) (filter (may_overlap before own) xs)) apart

pub near_are : (before : Order) (own : StretchView) (others part : List StretchView) (from upto : ℕ) → PassFirst (passes before false own) others
    → from ≡ leading (passes before true own) others → upto ≡ leading (passes before false own) others → part ≡ drop from (take upto others)
    → filter (may_overlap before own) part ≡ filter (may_overlap before own) others
near_are before own others part from upto first from_is upto_is is =
    ap (filter (may_overlap before own))
    (is ∙ ap (λ (n : ℕ). drop n (take upto others)) from_is ∙ ap (λ (n : ℕ). drop (leading (passes before true own) others) (take n others)) upto_is)
    ∙ part_is (filter (may_overlap before own)) (passes before true own) (passes before false own)
    (λ x xs ys same. ap (λ (rest : List StretchView). cond (may_overlap before own x) (x ∷ rest) rest) same)
    (λ x xs over. skipped before own x xs (apart_early before own x over))
    (λ x xs over. skipped before own x xs (apart_late before own x over)) others first
