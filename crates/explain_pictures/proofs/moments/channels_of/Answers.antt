use Rattle.job_types.specs.Channels.{has_channel}
use Rattle.explain_pictures.proofs.KeptLaws.{passing_on, passing_over}
use Rattle.explain_pictures.proofs.moments.channels_of.Goals as goal
use Rattle.explain_pictures.proofs.moments.channels_of.Goals.{then-has_channel+in_ok-push, else-has_channel}

pub loop-index-preserved : goal.loop-index-preserved
loop-index-preserved c =
    elim c.if-has_channel.branch [
      | then-has_channel+in_ok-push w ↦ cc (passing_on (has_channel c.args.job.now) c.loop-index.index (cc), w.in_ok-push.ensures.items)
      | else-has_channel w ↦ cc (passing_over (has_channel c.args.job.now) c.loop-index.index (cc))
    ]
