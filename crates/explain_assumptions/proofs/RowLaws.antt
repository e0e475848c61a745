-- What is taken for granted of settable offsets and of parameters, by the first remarks.
use Rattle.axis_sets.specs.declared.limits.TheConstants.{AXIS_LIMIT}
use Rattle.std.proofs.Common.{◌≡◌, ◌∙◌, ℕ, ◌++◌, List, slice_index_or, append_assoc, Option, None, sym, ap, subst, arith}
use Rattle.std.specs.List.{flat_map, range_with_len}
use Rattle.job_types.specs.Job.{JobView}
use Rattle.explain_assumptions.specs.Firsts.{AreFirsts, first_with, parameter_of, word_of}
use Rattle.explain_assumptions.specs.Rows.{no_offset_rows, offset_rows, parameter_rows, position_rows, standing_rows, unused_rows, zero_rows}
use Rattle.explain_assumptions.specs.declared.movers.Mover.{Mover}
use Rattle.explain_assumptions.specs.declared.remarks.Remark.{Remark}
use Rattle.explain_assumptions.specs.declared.rows.Assumed.{Assumed}

module _ (c : ℕ) (remarks : List Remark) (items table : List (Option Remark)) (same : table ≡ items) (old new : List Assumed) where
  pub offsets_told : (job : JobView) → AreFirsts word_of remarks items → (first : Option Remark) (mid : List Assumed) → first ≡ slice_index_or table 500 None → mid ≡ old ++ no_offset_rows job c first
      → ((rs : List Remark) → AreFirsts word_of rs table → new ≡ mid ++ flat_map (λ line. unused_rows c line (first_with word_of line.g rs)) job.offsets) → new ≡ old ++ offset_rows job c remarks
  offsets_told job are first mid here begun all =
      let there : AreFirsts word_of remarks table = subst (AreFirsts word_of remarks) (sym same) are in
      all remarks there
      ∙ ap (λ (xs : List Assumed). xs ++ flat_map (λ line. unused_rows c line (first_with word_of line.g remarks)) job.offsets)
      (begun ∙ ap (λ (o : Option Remark). old ++ no_offset_rows job c o) (here ∙ there.each 500 (omega arith)))
      ∙ append_assoc old (no_offset_rows job c (first_with word_of 500 remarks)) (flat_map (λ line. unused_rows c line (first_with word_of line.g remarks)) job.offsets)

  pub parameters_told : AreFirsts parameter_of remarks items → ((rs : List Remark) → AreFirsts parameter_of rs table → new ≡ old ++ parameter_rows c rs) → new ≡ old ++ parameter_rows c remarks
  parameters_told are all = all remarks (subst (AreFirsts parameter_of remarks) (sym same) are)

-- of all numbers
pub all_zeros : (c : ℕ) (remarks : List Remark) (n : ℕ) (old new : List Assumed) → n ≡ 1000
    → new ≡ old ++ flat_map (λ number. zero_rows c number (first_with parameter_of number remarks)) (range_with_len 0 n) → new ≡ old ++ parameter_rows c remarks
unfolding parameter_rows
all_zeros c remarks n old new all is =
    is ∙ ap (λ (k : ℕ). old ++ flat_map (λ number. zero_rows c number (first_with parameter_of number remarks)) (range_with_len 0 k)) all

-- of all axes
pub all_positions : (c : ℕ) (firsts : List (Option Mover)) (n : ℕ) (old new : List Assumed) → n ≡ AXIS_LIMIT
    → new ≡ old ++ flat_map (λ axis. standing_rows c axis (slice_index_or firsts axis None)) (range_with_len 0 n) → new ≡ old ++ position_rows firsts c
unfolding position_rows
all_positions c firsts n old new all is = is ∙ ap (λ (k : ℕ). old ++ flat_map (λ axis. standing_rows c axis (slice_index_or firsts axis None)) (range_with_len 0 k)) all
