-- Steps. The course of a run.
use Rattle.std.specs.Prelude.{List}
use Rattle.order_clocks.specs.Courses.{Course}
use Rattle.order_clocks.specs.Groups.{labels}
use Rattle.order_clocks.specs.Happenings.{happening_at, gives, going_of, rests_on}
use Rattle.sync_types.specs.Boards.{Board}
use Rattle.sync_types.specs.Events.{channels_in, pairs_of}
use Rattle.sync_types.specs.Turns.{Move}

abbrev pub course_of : Board → List Move → Course
course_of b moves = record {
  actor = λ i. (happening_at b moves i).channel;
  gives = λ i. gives (happening_at b moves i);
  goers = λ i. channels_in (happening_at b moves i).goings;
  asks = λ i c. rests_on (going_of (happening_at b moves i).goings c);
  group = λ i. labels (pairs_of (happening_at b moves i).goings);
}
