use Rattle.std.proofs.Common.{map, rules, append-nil}
use Rattle.rs.proofs.PrintedLemmas.{entries_in_order}
use Rattle.rs.proofs.coding.indexed_lines.Goals as goal

pub returns : goal.returns
returns c =
    let steps = c.in-None.ensures.steps in
    let kept = c.loop-index.invariant in (
      map (λ e. (e.0, e.1.items)) c.args.shards.now.entries,
      entries_in_order c.args.shards.now
          (search rules),
      simp append-nil at (rw steps.0 at kept),
    )
