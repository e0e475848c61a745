use Rattle.std.proofs.Common.{◌∙◌, ℕ, List, ap}
use Rattle.std.proofs.lemmas.Result.{IfOk-weaker}
use Rattle.explain.proofs.DrawLaws.{picture_of_first}
use Rattle.job_types.specs.Job.{JobView}
use Rattle.explain_drawing.specs.Drawing.{drawing_text}
use Rattle.explain_pictures.specs.Focus.{view_of}
use Rattle.explain.proofs.drawings.drawing_of.Goals as goal

pub returns : goal.returns
unfolding view_of
returns c =
    let picture = c.in_ok-picture.ensures in
    IfOk-weaker c.draw.result _ _
    (λ text told. record {
      focus = _;
      focused = c.in_ok-focus_of.ensures;
      picture = c.in_ok-picture.picture;
      shown = picture_of_first _ _ _ _ c.first.ensures.value picture.tiles picture.tracks picture.moments picture.spans picture.channels picture.cut;
      told =
          told
          ∙ ap (λ (input : List ℕ). drawing_text input c.told-told.result.job.now c.as_slice.result.now c.args.judged.now.verdict.now c.in_ok-picture.picture) c.told-told.ensures.lines
          ∙ ap (λ (job : JobView). drawing_text c.args.judged.now.lines.now job c.as_slice.result.now c.args.judged.now.verdict.now c.in_ok-picture.picture) c.told-told.ensures.job
          ∙ ap (λ (title : List ℕ). drawing_text c.args.judged.now.lines.now c.args.judged.now.job.now title c.args.judged.now.verdict.now c.in_ok-picture.picture)
          (c.as_slice.ensures.value ∙ c.in_ok-title.ensures ∙ c.in_ok-title_of.ensures);
    })
    c.draw.ensures
