use Rattle.std.proofs.Common.{◌*◌, ◌∙◌, refl, sym, ap, arith}
use Rattle.rs_field.proofs.rows_lemmas.BlockChunks.{block_long, one_layer_made, two_layers_made}
use Rattle.rs_field.proofs.rows_lemmas.Parts.{block_halves, block_quarters, steps_of_halved, steps_of_more}
use Rattle.rs_field.proofs.rows.layers.layers.Goals as goal

pub butterflies_of_halves-requires : goal.butterflies_of_halves-requires
butterflies_of_halves-requires g c =
    let long = block_long c.args.block c.args.data.now c.requires.fits c.requires.within in
    omega (arith, long, ap (λ v. v * c.args.data.now.shard_len_64) (block_halves c.args.block c.requires.large))

pub butterflies_of_quarters-requires : goal.butterflies_of_quarters-requires
butterflies_of_quarters-requires g c =
    let long = block_long c.args.block c.args.data.now c.requires.fits c.requires.within in
    omega (
      arith,
      long,
      ap (λ v. v * c.args.data.now.shard_len_64)
          (block_quarters c.args.block c.requires.large (sym c.is_halved.ensures ∙ c.if-is_halved.false)),
    )

pub returns-then-is_halved-clause-parts : goal.returns-then-is_halved-clause-parts
returns-then-is_halved-clause-parts g c k s hk hs =
    let block = c.args.block in
    let times = ap (λ v. v * c.args.data.now.shard_len_64) (block_halves block c.requires.large) in
    one_layer_made block c.args.data.now c.requires.fits c.requires.within _ c.butterflies_of_halves.new.chunks refl
    refl
    (omega (arith, c.butterflies_of_halves.ensures.length, times))
    c.requires.large c.args.direction c.tables.result.skew.now c.tables.result.skew_entries k s hk hs
    (sym c.is_halved.ensures ∙ c.if-is_halved.true) c.butterflies_of_halves.ensures.pairs

pub returns-else-is_halved-clause-parts : goal.returns-else-is_halved-clause-parts
returns-else-is_halved-clause-parts g c k s hk hs =
    let block = c.args.block in
    let more = sym c.is_halved.ensures ∙ c.if-is_halved.false in
    let times = ap (λ v. v * c.args.data.now.shard_len_64) (block_quarters block c.requires.large more) in
    two_layers_made block c.args.data.now c.requires.fits c.requires.within _ c.butterflies_of_quarters.new.chunks refl
    refl
    (omega (arith, c.butterflies_of_quarters.ensures.length, times))
    c.requires.large c.args.direction c.tables.result.skew.now c.tables.result.skew_entries k s hk hs more
    c.butterflies_of_quarters.ensures.fours

pub returns-then-is_halved-clause-counts : goal.returns-then-is_halved-clause-counts
returns-then-is_halved-clause-counts g c = grind (arith, steps_of_halved)

pub returns-else-is_halved-clause-counts : goal.returns-else-is_halved-clause-counts
returns-else-is_halved-clause-counts g c = grind (arith, steps_of_more)
