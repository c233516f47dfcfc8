use Rattle.std.proofs.lemmas.Grind.{common_steps}
use Rattle.std.proofs.Common.{◌≡◌, ℕ, [], List, length, drop, Ok, Err, ap, sym, refl, ◌∙◌, arith}
use Rattle.std.proofs.lemmas.Bool.{cond_below}
use Rattle.rs_field.specs.declared.code.error.Error.TheVariants.{NotEnoughShards}
use Rattle.rs_ffi.specs.declared.layouts.RsShard.{RsShard}
use Rattle.rs_ffi.proofs.AloneLemmas.{note_outcome-none, noting, noting-done}
use Rattle.rs_ffi.proofs.alone.check_alone.Goals as goal

-- the default value for an entry after the end of an array
nothing : RsShard
nothing = record { index = 0; bytes = record { ref_ptr = (0, 0); now = [] } }

pub loop-shard-init : goal.loop-shard-init
loop-shard-init c = ([], note_outcome-none 1024, refl, refl)

pub loop-shard-preserved : goal.loop-shard-preserved
unfolding nothing
loop-shard-preserved c = grind (arith, common_steps)

pub returns-in_err-note-clause-answer : goal.returns-in_err-note-clause-answer
unfolding nothing
returns-in_err-note-clause-answer c = grind (arith, common_steps)

pub returns-then-original_received_count-original_count-clause-answer :
    goal.returns-then-original_received_count-original_count-clause-answer
returns-then-original_received_count-original_count-clause-answer c =
    let k : ℕ = c.args.original_count in
    let shards : List RsShard = c.args.originals.now in
    let so_far : List ℕ = c.loop-shard.invariant.0 in
    let all : c.loop-shard.shard-index ≡ length shards =
    omega (arith, c.loop-shard-test.false, c.loop-shard.auto.shard-index-end) in
    let led = c.loop-shard.invariant.3 ∙ ap (λ n. noting k so_far (drop n shards)) all in
    let few = Err (NotEnoughShards k (length shards) 0) in
    cond_below (length shards) k few (Ok tt) c.if-original_received_count-original_count.true
    ∙ sym (noting-done k so_far shards led (c.loop-shard.invariant.2 ∙ all))

pub returns-clause-answer : goal.returns-clause-answer
returns-clause-answer c = grind (arith, common_steps)
