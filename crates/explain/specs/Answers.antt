-- Meaning. What an input is answered with.
use Rattle.std.specs.Prelude.{◌≡◌, ℕ, List, ◌++◌, map, slice_get, Result, Ok, Err}
use Rattle.exit_statuses.specs.Statuses.{status_of}
use Rattle.exit_statuses.specs.declared.Status.{Status}
use Rattle.exit_statuses.specs.declared.Status.TheVariants.{Refused}
use Rattle.explain_texts.specs.Headlines.{BeginsWith, first_line}
use Rattle.channel_machine.specs.StartStates.{start_of}
use Rattle.explain.specs.Drawn.{IsDrawn}
use Rattle.explain.specs.Explained.{IsExplained, zones_told}
use Rattle.explain.specs.Judgements.{AreMet, IsExplainedBy}
use Rattle.explain.specs.declared.words.Form.{Form}
use Rattle.explain.specs.declared.words.Form.TheVariants.{Data, Drawing, Text}
use Rattle.job_types.specs.Job.{JobView}
use Rattle.fault_codes.specs.declared.Refusal.{Refusal}
use Rattle.order_clocks.specs.Clocked.{ClocksView}
use Rattle.order_clocks.specs.Tells.{is_before_in}
use Rattle.zone_stretches.specs.Stretches.{StretchesView}
use Rattle.explain_ready.specs.Copies.{left_out_text}
use Rattle.explain_refused.specs.Listing.{refusals_text}
use Rattle.explain_refused.specs.Rows.{refused_line}
use Rattle.sync_types.specs.Views.{RunView}
use Rattle.sync_types.specs.declared.verdicts.Verdict.{Verdict}
use Rattle.tape_job.specs.LineRefusals.{line_refusals_of}
use Rattle.tape_job.specs.Read.{read_of}
use Rattle.explain_places.specs.declared.place.Meeting.{Meeting}

-- the answer on an accepted job: the verdict is that on its run in order, the status is its own, a text begins with it and explains it, and a drawing is that of the run
pub record IsJobAnswer (form : Form) (input : List ℕ) (job : JobView) (text : List ℕ) (status : Status) : Type 0 where
  pub run : RunView
  pub clocks : ClocksView
  pub stretches : StretchesView
  pub verdict : Verdict
  pub met : List Meeting
  pub judged : IsExplainedBy job run clocks stretches verdict
  pub listed : AreMet (is_before_in clocks.rows) job run stretches verdict met
  pub status_is : status ≡ status_of verdict
  pub begins : form ≡ Text → BeginsWith (first_line verdict (zones_told job run clocks stretches)) text
  pub told : form ≡ Text → IsExplained input job (start_of job) run clocks stretches met verdict text
  pub drawn : form ≡ Drawing → IsDrawn input job run clocks stretches (slice_get met 0) verdict text

-- a text in this form, and where it is plain text, after it how many lines the input has left out
abbrev pub text_with : Form → List ℕ → List ℕ → List ℕ
text_with Text input text = text ++ left_out_text input
text_with Drawing input text = text
text_with Data input text = text

-- a text that is an answer, and after it how many lines the input has left out
pub record IsWithLeftOut (form : Form) (input : List ℕ) (IsFront : List ℕ → Type 0) (text : List ℕ) : Type 0 where
  pub front : List ℕ
  pub is : IsFront front
  pub whole : text ≡ text_with form input front

-- a refused input in plain text: its first refusal, and all lines that are refused by themselves where there are others
abbrev pub refused_text : List ℕ → Refusal → List ℕ
refused_text input refusal = refusals_text input refusal (map (refused_line input) (line_refusals_of input))

-- the answer on a refused input: the text tells the refusals; it does so too where a drawing was asked for, since there is nothing to draw
pub record IsRefusalAnswer (form : Form) (input : List ℕ) (refusal : Refusal) (text : List ℕ) (status : Status) : Type 0 where
  pub status_is : status ≡ Refused
  pub told : form ≡ Text → text ≡ refused_text input refusal
  pub undrawn : form ≡ Drawing → text ≡ refused_text input refusal

abbrev pub IsAnswerTo : Result JobView Refusal → Form → List ℕ → List ℕ → Status → Type 0
IsAnswerTo (Ok job) form input text status = IsWithLeftOut form input (λ front. IsJobAnswer form input job front status) text
IsAnswerTo (Err refusal) form input text status = IsRefusalAnswer form input refusal text status

-- the answer on an input: the input is read, and its job or its refusal is told
abbrev pub IsAnswer : Form → List ℕ → List ℕ → Status → Type 0
IsAnswer form input text status = IsAnswerTo (read_of input) form input text status
