use Rattle.std.proofs.Common.{None, sym, ◌∙◌}
use Rattle.std.proofs.lemmas.Option.{none-some}
use Rattle.order_clocks.specs.Clocked.{moves_in}
use Rattle.order_clocks.specs.CourseOf.{course_of}
use Rattle.order_clocks.specs.Tracks.{tracks_of}
use Rattle.order_clocks.proofs.FirstLaws.{first_more, first_still}
use Rattle.order_clocks.proofs.TracelessLaws.{traceless_least, traceless_places}
use Rattle.order_clocks.proofs.search.RaceSearch.look.Goals as goal

pub returns-in_ok-self-in-None : goal.returns-in_ok-self-in-None
returns-in_ok-self-in-None c = λ b reader read searched ok.
    let last = searched.last c.in-None.is in
    record {
      first = first_more b (moves_in c.args.replay.now.entries.now) c.args.place c.in_ok-self-in-None.field-0 (rw c.in-None.is at searched.first) (c.in_ok-self-in-None.ensures.race b reader read last c.requires.place);
      last = λ none. c.note.ensures (course_of b (moves_in c.args.replay.now.entries.now)) (tracks_of b (moves_in c.args.replay.now.entries.now)) c.args.place read.known.is read.known.tracked read.known.are (rw c.in_ok-self-in-None.ensures.places last);
    }

pub returns-in-Some : goal.returns-in-Some
returns-in-Some c = λ b reader read searched ok. record {
  first = rw c.in-Some.is (first_still b (moves_in c.args.replay.now.entries.now) c.args.place c.in-Some.field-0 (rw c.in-Some.is at searched.first));
  last = λ none. absurd (none-some c.in-Some.field-0 (sym none ∙ c.in-Some.is));
}

pub returns-then-is_traceless : goal.returns-then-is_traceless
returns-then-is_traceless c = λ b reader read searched ok.
    let quiet = c.is_traceless.ensures.0 c.if-is_traceless.true in
    record {
      first = rw c.in-None.is (first_more b (moves_in c.args.replay.now.entries.now) c.args.place None (rw c.in-None.is at searched.first) (traceless_least b (moves_in c.args.replay.now.entries.now) c.args.place c.args.read.now.deed read.deed read.alone quiet));
      last = λ none. traceless_places (course_of b (moves_in c.args.replay.now.entries.now)) (tracks_of b (moves_in c.args.replay.now.entries.now)) c.args.place c.args.read.now.deed c.args.read.now.rows c.args.self.now.places read.known.is read.known.tracked read.known.are (searched.last c.in-None.is) quiet;
    }
