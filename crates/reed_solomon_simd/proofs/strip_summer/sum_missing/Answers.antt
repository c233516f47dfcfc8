use Rattle.std.proofs.Common.{rules, ◌≡◌, All, List, sym, subst, arith}
use Rattle.rs_field.specs.code.Decoder.{DecoderState}
use Rattle.reed_solomon_simd.specs.declared.shard_index.ShardIndex.{ShardIndex}
use Rattle.reed_solomon_simd.specs.Reconstructed.{CanBeRebuilt}
use Rattle.reed_solomon_simd.proofs.MissingLemmas.{names-all, missing-rebuilt, rebuilt-restored}
use Rattle.reed_solomon_simd.proofs.strip_summer.sum_missing.Goals as goal

pub sum_listed-requires-clause-rooms : goal.sum_listed-requires-clause-rooms
sum_listed-requires-clause-rooms g c =
    let names = (names-all (g.S.Pieces.received c.args.store.now)).number in
    record {
      number = omega (arith, names, c.in_ok-wanted.ensures.made.number, c.requires.rooms.number);
      fit = c.requires.rooms.fit;
    }

pub returns-clause-made : goal.returns-clause-made
returns-clause-made g c = search (rules, rebuilt-restored)

pub sum_listed-requires-clause-can : goal.sum_listed-requires-clause-can
sum_listed-requires-clause-can g c =
    let s : DecoderState = g.S.Pieces.received c.args.store.now in
    let lent : c.as_slice.result.now ≡ c.in_ok-wanted.wanted.items = search rules in
    record {
      set_up = c.requires.set_up;
      enough = c.requires.enough;
      can = subst (λ (l : List ShardIndex). All (CanBeRebuilt (g.S.Pieces.received c.args.store.now)) l) (sym lent)
          (missing-rebuilt s c.in_ok-wanted.wanted.items c.in_ok-wanted.ensures.made.each);
    }
