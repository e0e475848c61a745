use Rattle.std.proofs.Common.{arith}
use Rattle.order_clocks.specs.Clocked.{moves_in}
use Rattle.order_clocks.specs.CourseOf.{course_of}
use Rattle.order_clocks.specs.Happenings.{board_at}
use Rattle.order_clocks.proofs.CountingLaws.{shows_room}
use Rattle.order_clocks.proofs.ReadingLaws.{entry_read, next_reader, read_at}
use Rattle.order_clocks.proofs.reader.ClockReader.next.Goals as goal

pub step-requires-clause-room : goal.step-requires-clause-room
step-requires-clause-room c =
    let within = c.requires.place in
    let few = c.requires.few in
    shows_room (course_of c.requires.reader.0 (moves_in c.args.entries.now)) c.args.place c.args.self.now.times (omega arith) c.requires.reader.1.shows

pub returns-clause-next : goal.returns-clause-next
returns-clause-next c = λ b reader.
    let one = c.index-entries-place.result in
    let entry = entry_read b c.args.entries.now c.args.place one c.args.self.now c.is_at-alarms.result c.requires.place c.index-entries-place.is reader c.is_at-alarms.ensures in
    next_reader b c.args.entries.now c.args.place one c.is_at-alarms.result c.tell.new.deed c.args.self.now c.tell.new.self c.step.new.self entry reader
    (c.tell.ensures.reads (board_at b (moves_in c.args.entries.now) c.args.place) reader.keeps entry.lawful)
    c.tell.ensures.sound
    (c.tell.ensures.keeps (board_at b (moves_in c.args.entries.now) c.args.place) reader.keeps entry.lawful)
    (λ step. c.step.ensures.shows (course_of b (moves_in c.args.entries.now)) c.args.place step reader.shows)

pub returns-clause-read : goal.returns-clause-read
returns-clause-read c = λ b reader.
    let one = c.index-entries-place.result in
    let entry = entry_read b c.args.entries.now c.args.place one c.args.self.now c.is_at-alarms.result c.requires.place c.index-entries-place.is reader c.is_at-alarms.ensures in
    read_at b c.args.entries.now c.args.place one c.is_at-alarms.result c.tell.new.deed c.step.new.rows c.tell.new.self entry
    (c.tell.ensures.reads (board_at b (moves_in c.args.entries.now) c.args.place) reader.keeps entry.lawful)
    c.tell.ensures.sound
    (c.tell.ensures.keeps (board_at b (moves_in c.args.entries.now) c.args.place) reader.keeps entry.lawful)
    c.tell.ensures.none c.tell.ensures.size
    (λ step. c.step.ensures.rows (course_of b (moves_in c.args.entries.now)) c.args.place step reader.shows)
