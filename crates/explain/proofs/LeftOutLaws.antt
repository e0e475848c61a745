-- An answer with how many lines the input has left out.
use Rattle.std.proofs.Common.{◌≡◌, ℕ, List, Result, Ok}
use Rattle.exit_statuses.specs.declared.Status.{Status}
use Rattle.explain.specs.Answers.{IsAnswerTo, IsJobAnswer, text_with}
use Rattle.explain.specs.declared.words.Form.{Form}
use Rattle.job_types.specs.Job.{JobView}
use Rattle.fault_codes.specs.declared.Refusal.{Refusal}

pub answered : (form : Form) (lines input : List ℕ) (read : Result JobView Refusal) (job : JobView) (front text : List ℕ) (status told : Status) → lines ≡ input → read ≡ Ok job
    → IsJobAnswer form lines job front status → text ≡ text_with form input front → told ≡ status → IsAnswerTo read form input text told
answered form lines input read job front text status told same is answer whole stays =
    rw is (record { front = front; is = rw (← same, stays) answer; whole = whole })
