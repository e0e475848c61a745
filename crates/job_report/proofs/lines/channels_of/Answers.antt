use Rattle.std.proofs.Common.{◌≡◌, ◌∙◌, ℕ, ◌+◌, ◌≤◌, List, [], ◌∷◌, ◌++◌, length, filter, ap, sym, arith}
use Rattle.std.specs.List.{range_with_len}
use Rattle.job_types.specs.Channels.{has_channel}
use Rattle.job_report.proofs.RowLemmas.{filter-taken, filter-passed, length-filter-row}
use Rattle.job_report.proofs.lines.channels_of.Goals as goal
use Rattle.job_report.proofs.lines.channels_of.Goals.{then-has_channel, else-has_channel}

pub push-requires : goal.push-requires
push-requires c =
    let few : length (filter (has_channel c.args.job.now) (range_with_len 1 c.loop-index.index)) ≤ c.loop-index.index =
    length-filter-row (has_channel c.args.job.now) 1 c.loop-index.index in
    let told : length c.loop-index.channels.items ≤ c.loop-index.index = rw c.loop-index.invariant few in
    (omega arith, omega (arith, told))

pub loop-index-preserved : goal.loop-index-preserved
loop-index-preserved c =
    let test = has_channel c.args.job.now in
    let number : 1 + c.loop-index.index ≡ c.loop-index.index + 1 = omega arith in
    elim c.if-has_channel.branch [
      | then-has_channel w ↦
          rw w.channels-is (w.push.ensures.items ∙ ap (λ (cs : List ℕ). cs ++ (c.loop-index.index + 1) ∷ []) c.loop-index.invariant
          ∙ sym (filter-taken test 1 c.loop-index.index _ number (sym c.has_channel.ensures ∙ w.if-has_channel.true)))
      | else-has_channel w ↦
          rw w.channels-is (c.loop-index.invariant ∙ sym (filter-passed test 1 c.loop-index.index _ number (sym c.has_channel.ensures ∙ w.if-has_channel.false)))
    ]
