-- Explanations begin with the verdict.
use Rattle.std.proofs.Common.{◌≡◌, ◌∙◌, ℕ, List, ◌++◌, refl, sym, ap, append_assoc}
use Rattle.std.specs.Prelude.{codes}
use Rattle.std.specs.Fmt.{decimal}
use Rattle.explain.specs.Explained.{IsExplained, IsHeaded, IsVerdictText, zones_told}
use Rattle.explain_texts.specs.Headlines.{BeginsWith, first_line, headline, stop_text}
use Rattle.job_types.specs.Job.{JobView}
use Rattle.fault_codes.specs.declared.Alarm.{Alarm}
use Rattle.order_clocks.specs.Clocked.{ClocksView}
use Rattle.zone_stretches.specs.Stretches.{StretchesView}
use Rattle.explain_stops.specs.Alarms.{alarm_text}
use Rattle.explain_stops.specs.RaceTexts.{race_text}
use Rattle.explain_stops.specs.Stuck.{last_board, stuck_text}
use Rattle.sync_types.specs.Boards.{Board}
use Rattle.sync_types.specs.Views.{RunView, StartView}
use Rattle.sync_types.specs.declared.runs.Race.{Race}
use Rattle.sync_types.specs.declared.verdicts.Verdict.{Verdict}
use Rattle.sync_types.specs.declared.verdicts.Verdict.TheVariants as verdicts
use Rattle.explain_places.specs.Lines.{channel_text}
use Rattle.explain_places.specs.declared.place.Meeting.{Meeting}

pub begins_after : (front text more : List ℕ) → BeginsWith front text → BeginsWith front (text ++ more)
begins_after front text more begins = record {
  rest = begins.rest ++ more;
  whole = ap (λ (xs : List ℕ). xs ++ more) begins.whole ∙ append_assoc front begins.rest more;
}

-- a word, the name of a channel, and what follows
stops : (word back rest : List ℕ) (channel : ℕ) → word ++ (channel_text channel ++ (back ++ rest)) ≡ stop_text (word ++ codes "channel ") channel back ++ rest
unfolding channel_text stop_text
stops word back rest channel =
    ap (λ (xs : List ℕ). word ++ xs) (append_assoc (codes "channel ") (decimal channel) (back ++ rest))
    ∙ sym (append_assoc word (codes "channel ") (decimal channel ++ (back ++ rest)))
    ∙ sym (append_assoc (word ++ codes "channel ") (decimal channel ++ back) rest ∙ ap (λ (xs : List ℕ). (word ++ codes "channel ") ++ xs) (append_assoc (decimal channel) back rest))

pub race_begins : (input : List ℕ) (job : JobView) (race : Race) → BeginsWith (headline (verdicts.Race race)) (race_text input job race)
unfolding headline race_text
race_begins input job race = record { rest = _; whole = refl }

pub stuck_begins : (input : List ℕ) (job : JobView) (run : RunView) (b : Board) (channel line : ℕ)
    → BeginsWith (headline (verdicts.Stuck channel line)) (stuck_text input job run b channel)
unfolding headline stuck_text
stuck_begins input job run b channel line = record { rest = _; whole = stops (codes "STUCK: ") (codes " waits for good, and so no boxes are compared.\n") _ channel }

pub alarm_begins : (input : List ℕ) (job : JobView) (run : RunView) (b : Board) (channel : ℕ) (alarm : Alarm)
    → BeginsWith (headline (verdicts.Alarm channel alarm)) (alarm_text input job run b channel)
unfolding headline alarm_text
alarm_begins input job run b channel alarm = record { rest = _; whole = stops (codes "ALARM: the control would stop ") (codes ", and so no boxes are compared.\n") _ channel }

-- an explanation begins with its verdict
headed_begins : (front : List ℕ) (IsBody : List ℕ → Type 0) (text : List ℕ) → IsHeaded front IsBody text → BeginsWith front text
headed_begins front IsBody text is = record { rest = is.body; whole = is.whole }

told_begins : (front told text : List ℕ) → BeginsWith front told → text ≡ told → BeginsWith front text
told_begins front told text begins is = record { rest = begins.rest; whole = is ∙ begins.whole }

verdict_begins : (input : List ℕ) (job : JobView) (start : StartView) (run : RunView) (clocks : ClocksView) (stretches : StretchesView) (met : List Meeting) (verdict : Verdict)
    (text : List ℕ) → IsVerdictText input job start run clocks stretches met verdict text → BeginsWith (first_line verdict (zones_told job run clocks stretches)) text
unfolding first_line
verdict_begins input job start run clocks stretches met (verdicts.Race race) text is = told_begins _ _ _ (race_begins input job race) is
verdict_begins input job start run clocks stretches met (verdicts.Stuck channel line) text is =
    told_begins _ _ _ (stuck_begins input job run (last_board start run) channel line) is
verdict_begins input job start run clocks stretches met (verdicts.Alarm channel alarm) text is =
    told_begins _ _ _ (begins_after _ _ _ (alarm_begins input job run (last_board start run) channel alarm)) is.told
verdict_begins input job start run clocks stretches met (verdicts.Undecided count budget) text is = headed_begins _ _ _ is
verdict_begins input job start run clocks stretches met (verdicts.No left right) text is = headed_begins _ _ _ is
verdict_begins input job start run clocks stretches met verdicts.Yes text is = headed_begins _ _ _ is

pub explained_begins : (input : List ℕ) (job : JobView) (start : StartView) (run : RunView) (clocks : ClocksView) (stretches : StretchesView) (met : List Meeting) (verdict : Verdict)
    (text : List ℕ) → IsExplained input job start run clocks stretches met verdict text → BeginsWith (first_line verdict (zones_told job run clocks stretches)) text
explained_begins input job start run clocks stretches met verdict text is =
    told_begins _ _ _ (begins_after _ _ _ (verdict_begins input job start run clocks stretches met verdict is.body is.is)) is.whole
