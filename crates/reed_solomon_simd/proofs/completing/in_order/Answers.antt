use Rattle.std.proofs.Common.{rules, ◌≡◌, ◌+◌, ◌∙◌, [], ◌∷◌, ◌++◌, Some, None, ap, subst, sym, refl, map}
use Rattle.std.specs.Option.{option_map}
use Rattle.std.proofs.lemmas.List.{length-map, map_push}
use Rattle.rs_field.specs.code.OneCall.{shards_in}
use Rattle.reed_solomon_simd.proofs.CompletingLemmas.{AreTaken, taken-none, taken-one, taken-skip, taken-all}
use Rattle.reed_solomon_simd.proofs.CompletingLemmas.{shards_in-removed}
use Rattle.reed_solomon_simd.proofs.completing.in_order.Goals.{in-Some+in_ok-push, in_default}
use Rattle.reed_solomon_simd.proofs.completing.in_order.Goals as goal

pub loop-index-init : goal.loop-index-init
loop-index-init c = search (rules, taken-none)

pub loop-index-preserved : goal.loop-index-preserved
loop-index-preserved c =
    let all = shards_in c.args.originals in
    let index = c.loop-index.index-counter in
    let others = shards_in-removed c.loop-index.originals c.remove.new.self c.loop-index.index-counter
    c.remove.ensures.updates in
    elim c.match-remove.branch [
      | in-Some+in_ok-push w ↦
          let found : shards_in c.loop-index.originals c.loop-index.index-counter ≡ Some w.in-Some.shard.items =
          ap (option_map (λ v. v.items)) (sym c.remove.ensures.value ∙ w.in-Some.is) in
          let more : c.match-remove.shards.items ≡ c.loop-index.shards.items ++ w.in-Some.shard ∷ [] = search rules in
          subst (λ xs. AreTaken (shards_in c.args.originals) (c.loop-index.index-counter + 1)
          (shards_in c.remove.new.self) xs)
          (sym (ap (map (λ shard. shard.items)) more
          ∙ map_push (λ shard. shard.items) c.loop-index.shards.items w.in-Some.shard))
          (taken-one (shards_in c.args.originals) c.loop-index.index-counter (shards_in c.loop-index.originals)
          (shards_in c.remove.new.self) (map (λ shard. shard.items) c.loop-index.shards.items) c.loop-index.invariant
          others w.in-Some.shard.items found)
      | in_default w ↦
          let gone : shards_in c.loop-index.originals c.loop-index.index-counter ≡ None =
          ap (option_map (λ v. v.items)) (sym c.remove.ensures.value ∙ w.in_default.is) in
          subst (λ shards. AreTaken (shards_in c.args.originals) (c.loop-index.index-counter + 1)
          (shards_in c.remove.new.self) (map (λ shard. shard.items) shards.items)) (sym w.shards-is)
          (taken-skip (shards_in c.args.originals) c.loop-index.index-counter (shards_in c.loop-index.originals)
          (shards_in c.remove.new.self) (map (λ shard. shard.items) c.loop-index.shards.items) c.loop-index.invariant
          others gone)
    ]

pub returns : goal.returns
returns c =
    let long = length-map c.loop-index.shards.items (λ shard. shard.items) in
    taken-all c.args.original_count (shards_in c.args.originals) (shards_in c.loop-index.originals)
    (map (λ shard. shard.items) c.loop-index.shards.items) (search rules) _ (search rules) refl
