-- Steps. The job, the run and the order of events by which boxes of two zones are compared.
use Rattle.explain_meetings.specs.declared.contexts.Scene.{Scene}
use Rattle.order_clocks.specs.Tells.{is_before_in}
use Rattle.zone_stretches.specs.Cases.{Case}

-- as the definitions see them
abbrev pub case_of : Scene → Case
case_of scene = record { job = scene.job.now; run = scene.run.now; before = is_before_in scene.clocks.now.rows }
