use Rattle.std.proofs.Common.{◌∙◌, refl}
use Rattle.explain.proofs.RefusalLaws.{refusals_told}
use Rattle.explain.proofs.answers.answer_refusal.Goals as goal

pub returns : goal.returns
returns c = record {
  status_is = refl;
  told = λ is. refusals_told _ _ _ _ _ _ c.requires.same (c.as_slice.ensures.value ∙ c.in_ok-refusals.ensures) (c.as_slice-2.ensures.value ∙ c.in_ok-rows.ensures)
      (c.in_ok-text.ensures.told is);
  undrawn = λ is. refusals_told _ _ _ _ _ _ c.requires.same (c.as_slice.ensures.value ∙ c.in_ok-refusals.ensures) (c.as_slice-2.ensures.value ∙ c.in_ok-rows.ensures)
      (c.in_ok-text.ensures.undrawn is);
}
