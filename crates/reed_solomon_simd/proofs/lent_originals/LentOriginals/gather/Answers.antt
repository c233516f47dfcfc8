use Rattle.std.proofs.Common.{rules, ◌≡◌, Result, Ok, Err}
use Rattle.rs_field.specs.declared.code.error.Error.{Error}
use Rattle.rs_field.specs.declared.code.error.Error.TheVariants.{OutOfMemory}
use Rattle.rs_field.specs.code.Configuration.{UpToMemory}
use Rattle.rs_field.specs.code.Encoder.{with_shard}
use Rattle.rs_rate.proofs.objects_lemmas.Giving.{no-calls, ended-calls, ended-run, first-then, outcome-ok, outcome-err}
use Rattle.rs_rate.proofs.objects_lemmas.Giving.{reached-ok, reached-err, adds-ok, adds-err}
use Rattle.rs_rate.proofs.objects_lemmas.OneCall.{encoding-unset, encoding-given}
use Rattle.reed_solomon_simd.proofs.lent_originals.LentOriginals.gather.Goals as goal

-- If an object was set up, memory that cannot be allocated afterwards gives a result that is allowed.
lacking : (outcome : Result (Unit {0}) Error) (e : Error) → UpToMemory outcome (Ok tt) → e ≡ OutOfMemory
    → UpToMemory outcome (Err e)
lacking outcome e set_up refused = search rules

pub returns-in_default-clause-gathered : goal.returns-in_default-clause-gathered
returns-in_default-clause-gathered g c = (
  ended-calls c.args.original c.next.new.self c.in_default.ensures.steps,
  ended-run g.I.Iterator.next_gives (λ shard. shard.now) _ c.args.original c.next.new.self c.in_default.ensures.steps
      (let supported = c.args.counts.supported in search rules),
)

pub returns-in_err-originals-clause-gathered : goal.returns-in_err-originals-clause-gathered
returns-in_err-originals-clause-gathered g c =
    first-then g.I.Iterator.next_gives (λ shard. shard.now) _ c.in-Some.ensures.steps (
      no-calls c.next.new.self,
      λ others begins.
          let led = encoding-unset c.args.counts.original_count c.args.counts.recovery_count c.in-Some.first.now others
          _ c.in_err-originals.ensures.answer in search rules,
    )

pub returns-in_err-encoder-clause-gathered : goal.returns-in_err-encoder-clause-gathered
returns-in_err-encoder-clause-gathered g c =
    first-then g.I.Iterator.next_gives (λ shard. shard.now) _ c.in-Some.ensures.steps (
      no-calls c.next.new.self,
      λ others begins.
          let led = encoding-unset c.args.counts.original_count c.args.counts.recovery_count c.in-Some.first.now others
          _ (lacking _ _ c.in_ok-originals.ensures.answer c.in_err-encoder.ensures.refused) in search rules,
    )

pub returns-in_err-add-clause-gathered : goal.returns-in_err-add-clause-gathered
returns-in_err-add-clause-gathered g c =
    first-then g.I.Iterator.next_gives (λ shard. shard.now) _ c.in-Some.ensures.steps (
      no-calls c.next.new.self,
      λ others begins.
          let led = encoding-given c.args.counts.original_count c.args.counts.recovery_count c.in-Some.first.now others
          _ c.in_ok-originals.ensures.answer c.in_ok-originals.ensures.made _
          (adds-err with_shard _ c.in-Some.first.now others _ (outcome-err _ _ c.in_err-add.ensures.answer)) in
          search rules,
    )

pub returns-in_err-add_all-clause-gathered : goal.returns-in_err-add_all-clause-gathered
returns-in_err-add_all-clause-gathered g c =
    first-then g.I.Iterator.next_gives (λ shard. shard.now) _ c.in-Some.ensures.steps (
      c.in_err-add_all.ensures.reaches.0,
      λ others begins.
          let led = encoding-given c.args.counts.original_count c.args.counts.recovery_count c.in-Some.first.now others
          _ c.in_ok-originals.ensures.answer c.in_ok-originals.ensures.made _
          (adds-ok with_shard _ _ c.in-Some.first.now others _
          (outcome-ok _ _ _ c.in_ok-add.ensures.answer c.in_ok-add.ensures.left)
          (reached-err _ _ _ (c.in_err-add_all.ensures.reaches.1 others begins))) in search rules,
    )

pub returns-clause-gathered : goal.returns-clause-gathered
returns-clause-gathered g c =
    first-then g.I.Iterator.next_gives (λ shard. shard.now) _ c.in-Some.ensures.steps (
      c.in_ok-add_all.ensures.reaches.0,
      λ others begins.
          encoding-given c.args.counts.original_count c.args.counts.recovery_count c.in-Some.first.now others _
          c.in_ok-originals.ensures.answer c.in_ok-originals.ensures.made _
          (adds-ok with_shard _ _ c.in-Some.first.now others _
          (outcome-ok _ _ _ c.in_ok-add.ensures.answer c.in_ok-add.ensures.left)
          (reached-ok _ _ (c.in_ok-add_all.ensures.reaches.1 others begins))),
    )
