-- What a worker leaves is put at its channel.
use Rattle.std.proofs.Common.{◌≡◌, ◌≢◌, ℕ, ◌<◌, ◌==◌, inl, inr, suc, false, All, List, [], ◌∷◌, get_or, length, map, Option, None, refl, sym, ap, ◌∙◌, arith, eq-eqb, eqb-true, get_or-set_other, get_or-set_same}
use Rattle.std.proofs.Math.ListN.{length-set}
use Rattle.std.proofs.lemmas.Bool.{cases_Bool}
use Rattle.axis_sets.specs.declared.limits.TheConstants.{CHANNEL_PLACES}
use Rattle.channel_machine.specs.Kept.{StateView}
use Rattle.job_types.specs.Job.{JobView}
use Rattle.parallel_run.specs.Joining.{HasNothingAt, HasPart, HasPlaces, HasPut, LeavesOf, PartsView, nobody}
use Rattle.parallel_run.specs.Workers.{HasMade, WorkedView}
use Rattle.sync_types.proofs.BoardTests.{no_truth}
use Rattle.sync_types.specs.Boards.{among}
use Rattle.sync_types.specs.Views.{EntryView, StartView}
use Rattle.sync_types.specs.declared.Item.{Item}

-- ---- what holds of all

pub all_first : {X : Type 0} (P : X → Type 0) (x : X) (xs : List X) → All P (x ∷ xs) → P x
all_first P x xs all = all 0 x (omega arith)

pub all_rest : {X : Type 0} (P : X → Type 0) (x : X) (xs : List X) → All P (x ∷ xs) → All P xs
all_rest P x xs all k d below = all (suc k) d (omega (arith, below))

-- ---- what is put

-- the lists still have their places
pub put_places : (before after : PartsView) (w : WorkedView) → HasPlaces before → HasPut before w after → HasPlaces after
put_places before after w places put = record {
  rows = ap length put.rows ∙ length-set before.rows w.channel w.items ∙ places.rows;
  locals = ap length put.locals ∙ length-set before.locals w.channel w.last ∙ places.locals;
}

module _ (before after : PartsView) (w : WorkedView) (places : HasPlaces before) (number : w.channel < CHANNEL_PLACES) (put : HasPut before w after) where
  room : (n : ℕ) → n ≡ CHANNEL_PLACES → w.channel < n
  room n is = omega (arith, is, number)

  part_here : HasPart w after
  part_here = record {
    rows = ap (λ (xs : List (List (List Item))). get_or xs w.channel []) put.rows ∙ get_or-set_same before.rows w.channel w.items [] (room (length before.rows) places.rows);
    local = ap (λ (xs : List (Option StateView)). get_or xs w.channel None) put.locals ∙ get_or-set_same before.locals w.channel w.last None (room (length before.locals) places.locals);
  }

  part_there : (v : WorkedView) → v.channel ≢ w.channel → HasPart v before → HasPart v after
  part_there v apart part = record {
    rows = ap (λ (xs : List (List (List Item))). get_or xs v.channel []) put.rows ∙ get_or-set_other before.rows w.channel v.channel w.items [] apart ∙ part.rows;
    local = ap (λ (xs : List (Option StateView)). get_or xs v.channel None) put.locals ∙ get_or-set_other before.locals w.channel v.channel w.last None apart ∙ part.local;
  }

-- ---- channels, while workers are put one after another

abbrev pub channels_in : List WorkedView → List ℕ
channels_in ws = map (λ (w : WorkedView). w.channel) ws

module _ (job : JobView) (start : StartView) (entries : List EntryView) where
  -- a channel has its part, or nothing, and then its worker is still to come, or nobody is its worker
  pub data IsUnderWay (rest : List WorkedView) (c : ℕ) (parts : PartsView) : Type 0 where
    HasCome : LeavesOf job start entries c parts → IsUnderWay rest c parts
    IsToCome : HasNothingAt c parts → (among (channels_in rest) c ≡ false → HasMade job start entries (nobody c)) → IsUnderWay rest c parts

  not_first : (c : ℕ) (w : WorkedView) (ws : List WorkedView) → (w.channel == c) ≡ false → among (channels_in ws) c ≡ false → among (channels_in (w ∷ ws)) c ≡ false
  not_first c w ws off none = rw off none

  pub put_under_way : (before after : PartsView) (w : WorkedView) (ws : List WorkedView) → HasPlaces before → w.channel < CHANNEL_PLACES → HasPut before w after → HasMade job start entries w
      → ((c : ℕ) → IsUnderWay (w ∷ ws) c before) → (c : ℕ) → IsUnderWay ws c after
  put_under_way before after w ws places number put made under c = elim (cases_Bool (w.channel == c)) [
    | inl on ↦ HasCome (record { worker = w; channel = eqb-true w.channel c on; made = made; part = part_here before after w places number put })
    | inr off ↦ by (λ same. no_truth (w.channel == c) (eq-eqb w.channel c (sym same)) off) off (under c)
  ]
    where
      by : c ≢ w.channel → (w.channel == c) ≡ false → IsUnderWay (w ∷ ws) c before → IsUnderWay ws c after
      by apart off (HasCome left) = HasCome (record {
        worker = left.worker;
        channel = left.channel;
        made = left.made;
        part = part_there before after w places number put left.worker (λ same. apart (sym left.channel ∙ same)) left.part;
      })
      by apart off (IsToCome none then) = IsToCome (part_there before after w places number put (nobody c) apart none) (λ rest. then (not_first c w ws off rest))

  pub all_come : (c : ℕ) (parts : PartsView) → IsUnderWay [] c parts → LeavesOf job start entries c parts
  all_come c parts (HasCome left) = left
  all_come c parts (IsToCome none then) = record { worker = nobody c; channel = refl; made = then refl; part = none }
