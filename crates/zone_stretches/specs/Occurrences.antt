-- Meaning. The events of a run, in order, and what each of them says of its channel.
use Rattle.std.specs.Prelude.{ℕ, ℤ, suc, ◌==◌, ◌&&◌, Bool, true, false, List, [], ◌∷◌, ◌++◌, map, filter, Option, Some, None, unwrap_or}
use Rattle.order_clocks.specs.Groups.{labels}
use Rattle.order_clocks.specs.Happenings.{Happening, happening_of}
use Rattle.sync_types.specs.Boards.{Hold, State, HasEnded, HasAlarmed, Board, among, channel_numbers}
use Rattle.sync_types.specs.Events.{channels_in, pairs_of}
use Rattle.sync_types.specs.GoingOn.{Going, first_of}
use Rattle.sync_types.specs.Turns.{Move, after_step}
use Rattle.sync_types.specs.declared.Step.{Step}
use Rattle.sync_types.specs.declared.runs.EventId.{EventId}
use Rattle.sync_types.specs.declared.verdicts.StretchKind.{StretchKind}
use Rattle.sync_types.specs.declared.verdicts.StretchKind.TheVariants.{Run, Hold as Holds, End}

-- An event of a channel: its name, what the channel does from then on, the line of the block where the channel acts, where
-- axes of the channel stand, as far as the event tells it, the zones of the channel that are on, whether it lets an axis go, and
-- whether it takes one.
pub record OccurrenceView : Type 0 where
  pub name : EventId
  pub channel : ℕ
  pub kind : StretchKind
  pub line : Option ℕ
  pub at : List (Option ℤ)
  pub on : List Bool
  pub frees : ℕ → Bool
  pub takes : ℕ → Bool

-- a channel that has not acted to wait has stopped, or runs on
abbrev pub kind_in : State → StretchKind
kind_in (HasEnded line) = End
kind_in (HasAlarmed code line) = End
kind_in other = Run

-- what a channel does after an act
abbrev pub kind_after_act : Option Hold → State → StretchKind
kind_after_act (Some hold) after = Holds
kind_after_act None after = kind_in after

-- the lowest channel of those that go on as one event with this one
abbrev pub lowest_of_event : List Going → ℕ → ℕ
lowest_of_event goings c =
    unwrap_or (first_of (filter (λ d. among (channels_in goings) d && (labels (pairs_of goings) d == labels (pairs_of goings) c)) channel_numbers)) c

-- the act of the step of this place
abbrev pub act_of : ℕ → Step → Happening → OccurrenceView
act_of i step h = record {
  name = record { step = i; channel = h.channel; go = false };
  channel = h.channel;
  kind = kind_after_act h.begins (h.after h.channel);
  line = Some step.line;
  at = step.at;
  on = step.on;
  frees = among h.frees;
  takes = λ axis. false;
}

-- a going on in it
abbrev pub going_on_of : ℕ → List Going → Going → OccurrenceView
going_on_of i goings g = record {
  name = record { step = i; channel = lowest_of_event goings g.channel; go = true };
  channel = g.channel;
  kind = Run;
  line = None;
  at = g.grant.at;
  on = g.grant.on;
  frees = λ axis. false;
  takes = among g.took;
}

-- in a step the act comes first, then those that go on, in their order
abbrev pub occurrences_in : ℕ → Step → Happening → List OccurrenceView
occurrences_in i step h = act_of i step h ∷ map (going_on_of i h.goings) h.goings

-- the events of the steps from this place on
abbrev pub occurrences_from : Board → ℕ → List Move → List OccurrenceView
occurrences_from b i [] = []
occurrences_from b i (m ∷ ms) = occurrences_in i m.step (happening_of b m.channel m.step) ++ occurrences_from (after_step b m.channel m.step) (suc i) ms

-- all events of a run
unfoldable pub occurrences_of : Board → List Move → List OccurrenceView
occurrences_of b moves = occurrences_from b 0 moves
