use Rattle.std.proofs.Common.{arith}
use Rattle.rs.proofs.WritingLemmas.{appends-front, front-within}
use Rattle.rs.proofs.writing.write_text.Goals as goal

pub loop-preserved : goal.loop-preserved
loop-preserved g c =
    let bytes = c.as_bytes-bytes.result.now in
    let contents = g.W.Write.contents in
    record {
      all = c.loop.invariant.all;
      within = front-within bytes c.loop.written c.write_some-count.result c.loop.invariant.within
          c.write_some-count.ensures.within;
      enough = omega (arith, c.loop.invariant.enough, c.if-count-eq0.false);
      written = appends-front (contents c.args.stream.now.writer) (contents c.loop.stream.writer)
          (contents c.write_some-count.new.self.writer) bytes c.loop.written c.write_some-count.result
          c.loop.invariant.written c.write_some-count.ensures.written;
    }
