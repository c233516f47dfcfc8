use Rattle.std.proofs.Common.{rules, ◌≡◌, ℕ, ◌+◌, ◌<◌, ◌^◌, List, [], true, map, length, sym, ap, subst, ◌∙◌, arith}
use Rattle.std.proofs.lemmas.Grind.{common_steps}
use Rattle.std.proofs.lemmas.List.{length-map}
use Rattle.std.proofs.lemmas.Option.{slice_get-get_or}
use Rattle.std.proofs.lemmas.Result.{err_from_is_err_and}
use Rattle.std.specs.Prelude.{replicate}
use Rattle.std.specs.Global.{Vec}
use Rattle.reed_solomon_simd.specs.Column.{Shard, shard_at}
use Rattle.rs_volumes.specs.declared.restoring.Plan.{Plan}
use Rattle.rs_volumes.specs.Creating.{IsCreated}
use Rattle.rs_volumes.specs.Restoring.{AreOriginals}
use Rattle.rs_examples.specs.Blocks.{blocks_in, contents, ListsLeft}
use Rattle.rs_examples.proofs.BlocksBack.{empty_in, wanted_below, set_left, enough_read, digest_left, block_back}
use Rattle.rs_examples.proofs.BlocksBack.{blocks_back}
use Rattle.rs_examples.proofs.BlocksFail.{creating_lacks, restoring_lacks}
use Rattle.rs_examples.proofs.block_round_trip.round_trip_of_blocks.Goals as goal

pub returns-clause-same : goal.returns-clause-same
returns-clause-same c enough =
    let k : ℕ = c.args.shape.original_count in
    let r : ℕ = c.args.shape.recovery_count in
    let lost : List ℕ = map (λ (block : ℕ × Vec ℕ). block.0) c.args.damage.now in
    let stored : List Shard = contents c.create.new.sink in
    let damaged : List Shard = contents c.damage_blocks.new.stored in
    let view : Vec ℕ → Shard = λ block. block.items in
    let many : c.in-Some.count ≡ k + r = grind (arith, common_steps) in
    let blank : contents c.in_ok-stored.stored ≡ replicate (k + r) [] =
    c.in_ok-stored.ensures ∙ ap (λ (n : ℕ). replicate n []) many in
    let created = subst (λ (xs : List Shard). IsCreated c.args.shape (blocks_in (contents c.args.originals.now))
    (blocks_in xs) (blocks_in stored) c.in_ok-digests.digests.items) blank c.in_ok-digests.ensures.created in
    let number : length damaged ≡ length stored =
    length-map c.damage_blocks.new.stored.blocks.items view ∙ c.damage_blocks.ensures.number
    ∙ sym (length-map c.create.new.sink.blocks.items view) in
    let lost_is : c.in_ok-lost.lost.items ≡ lost = search rules in
    let own_left : ListsLeft 0 k lost c.in_ok-own.own.items =
    subst (λ (xs : List ℕ). ListsLeft 0 k xs c.in_ok-own.own.items) (c.as_slice.ensures.value ∙ lost_is)
    c.in_ok-own.ensures in
    let recovery_left : ListsLeft k r lost c.in_ok-recovery.recovery.items =
    subst (λ (xs : List ℕ). ListsLeft k r xs c.in_ok-recovery.recovery.items) (c.as_slice-2.ensures.value ∙ lost_is)
    c.in_ok-recovery.ensures in
    let wanted : c.in_ok-wanted.wanted.items ≡ replicate k true = search rules in
    let plan : Plan =
    record {
      originals = c.in_ok-own.own;
      recovery = c.in_ok-recovery.recovery;
      wanted = c.in_ok-wanted.wanted;
    } in
    let set = set_left plan stored damaged enough created number c.damage_blocks.ensures.left own_left recovery_left
    wanted in
    let back : List Shard = contents c.restore.new.sink in
    let written = subst (λ (xs : List Shard). AreOriginals plan created.originals (blocks_in xs) (blocks_in back))
    c.in_ok-back.ensures (c.in_ok-restore.ensures.originals tt created.originals created.recovery set) in
    blocks_back plan stored damaged enough created number c.damage_blocks.ensures.left own_left recovery_left wanted
    back written
    (λ i unwanted. c.restore.ensures.others i unwanted ∙ ap (λ (xs : List Shard). blocks_in xs i) c.in_ok-back.ensures)

pub returns-in_err-digests-clause-memory : goal.returns-in_err-digests-clause-memory
returns-in_err-digests-clause-memory c enough valid =
    let k : ℕ = c.args.shape.original_count in
    let r : ℕ = c.args.shape.recovery_count in
    let originals : List Shard = contents c.args.originals.now in
    let many : c.in-Some.count ≡ k + r = grind (arith, common_steps) in
    let blank : contents c.in_ok-stored.stored ≡ replicate (k + r) [] =
    c.in_ok-stored.ensures ∙ ap (λ (n : ℕ). replicate n []) many in
    let p = err_from_is_err_and c.from_residual-in_err-digests.result c.from_residual-in_err-digests.ensures.1 in
    rw (p.1, p.2)
    (creating_lacks c.args.shape valid (blocks_in originals) (blocks_in (contents c.in_ok-stored.stored))
    c.in_err-digests.field-0.0
    (λ i inside.
    let has : i < length originals = omega (arith, inside, enough.number) in
    (shard_at originals i, slice_get-get_or originals i [] has, enough.sized i [] has))
    (λ i inside. ap (λ (xs : List Shard). blocks_in xs i) blank ∙ empty_in (k + r) i inside)
    c.in_err-digests.ensures.fails)

pub returns-in_err-restore-clause-memory : goal.returns-in_err-restore-clause-memory
returns-in_err-restore-clause-memory c enough valid =
    let k : ℕ = c.args.shape.original_count in
    let r : ℕ = c.args.shape.recovery_count in
    let lost : List ℕ = map (λ (block : ℕ × Vec ℕ). block.0) c.args.damage.now in
    let stored : List Shard = contents c.create.new.sink in
    let damaged : List Shard = contents c.damage_blocks.new.stored in
    let view : Vec ℕ → Shard = λ block. block.items in
    let many : c.in-Some.count ≡ k + r = grind (arith, common_steps) in
    let blank : contents c.in_ok-stored.stored ≡ replicate (k + r) [] =
    c.in_ok-stored.ensures ∙ ap (λ (n : ℕ). replicate n []) many in
    let created = subst (λ (xs : List Shard). IsCreated c.args.shape (blocks_in (contents c.args.originals.now))
    (blocks_in xs) (blocks_in stored) c.in_ok-digests.digests.items) blank c.in_ok-digests.ensures.created in
    let number : length damaged ≡ length stored =
    length-map c.damage_blocks.new.stored.blocks.items view ∙ c.damage_blocks.ensures.number
    ∙ sym (length-map c.create.new.sink.blocks.items view) in
    let lost_is : c.in_ok-lost.lost.items ≡ lost = search rules in
    let own_left : ListsLeft 0 k lost c.in_ok-own.own.items =
    subst (λ (xs : List ℕ). ListsLeft 0 k xs c.in_ok-own.own.items) (c.as_slice.ensures.value ∙ lost_is)
    c.in_ok-own.ensures in
    let recovery_left : ListsLeft k r lost c.in_ok-recovery.recovery.items =
    subst (λ (xs : List ℕ). ListsLeft k r xs c.in_ok-recovery.recovery.items) (c.as_slice-2.ensures.value ∙ lost_is)
    c.in_ok-recovery.ensures in
    let wanted : c.in_ok-wanted.wanted.items ≡ replicate k true = search rules in
    let plan : Plan =
    record {
      originals = c.in_ok-own.own;
      recovery = c.in_ok-recovery.recovery;
      wanted = c.in_ok-wanted.wanted;
    } in
    let set = set_left plan stored damaged enough created number c.damage_blocks.ensures.left own_left recovery_left
    wanted in
    let back : List Shard = contents c.restore.new.sink in
    let few : k + r < 2 ^ 64 = grind (arith, common_steps) in
    let p = err_from_is_err_and c.from_residual-in_err-restore.result c.from_residual-in_err-restore.ensures.1 in
    rw (p.1, p.2)
    (restoring_lacks c.args.shape valid c.in_ok-digests.digests.items (blocks_in (contents c.in_ok-back.back))
    (blocks_in back) set few
    (enough_read plan stored damaged enough created number c.damage_blocks.ensures.left own_left recovery_left wanted)
    c.in_err-restore.field-0.0
    (λ i is.
    ap (λ (xs : List Shard). blocks_in xs i) c.in_ok-back.ensures
    ∙ empty_in k i (wanted_below k i (rw wanted at is)))
    (λ all i is.
    block_back plan stored damaged enough created number c.damage_blocks.ensures.left own_left recovery_left wanted
    back (subst (λ (xs : List Shard). AreOriginals plan created.originals (blocks_in xs) (blocks_in back))
    c.in_ok-back.ensures (c.in_err-restore.ensures.originals all created.originals created.recovery set)) i is)
    (λ i is.
    digest_left plan stored damaged enough created number c.damage_blocks.ensures.left own_left recovery_left wanted
    i is)
    (rw c.deref.ensures.value at c.in_err-restore.ensures.fails))
