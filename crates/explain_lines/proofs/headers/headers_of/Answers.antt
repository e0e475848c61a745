use Rattle.std.proofs.Common.{arith}
use Rattle.explain_lines.proofs.OriginLaws.{headers_more}
use Rattle.explain_lines.proofs.headers.headers_of.Goals as goal

pub loop-line-preserved : goal.loop-line-preserved
loop-line-preserved c = record {
  kept = headers_more c.args.lines.now c.loop-line.headers.items c.push-in-loop-line.new.self.items c.loop-line.line c.next_header-header.result c.in_ok-push-2.ensures.items c.loop-line.invariant.long
      c.loop-line.invariant.kept c.next_header-header.ensures;
  long = let more = c.in_ok-push-2.ensures.len in omega (arith, more, c.loop-line.invariant.long);
  last = c.next_header-header.ensures;
}
