-- Meaning. A job whose lines are being read.
use Rattle.std.specs.Prelude.{pos, false, []}
use Rattle.job_types.specs.Job.{JobView}
use Rattle.tape_job.specs.declared.draft.GivenOptions.{GivenOptions}
use Rattle.tape_job.specs.declared.draft.TheConstants.{VERSION}

-- what lines have told: which options they gave, and the job; an option that none of them gives has its value from the start
pub record DraftView : Type 0 where
  pub options : GivenOptions
  pub job : JobView

abbrev pub no_options : GivenOptions
no_options = record { margin = false; depth = false; budget = false }

-- the one job of an input before its job line
abbrev pub nothing_told : JobView
nothing_told = record {
  version = VERSION;
  number = 1;
  line = 0;
  channels = [];
  axes = [];
  geo = [];
  offsets = [];
  zones = [];
  margin = pos 0;
  depth = 0;
  budget = 1000000;
  compensation = false;
  skip = false;
  tools = [];
  timeline = false;
  feeds = [];
  times = [];
  programs = [];
}
