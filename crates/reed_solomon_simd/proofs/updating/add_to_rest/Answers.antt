use Rattle.std.proofs.Common.{rules, ◌≡◌, ℕ, ◌+◌, ◌-◌, ◌≤◌, length, ap, ◌∙◌, arith}
use Rattle.rs_field.specs.code.Column.{Shard, column}
use Rattle.reed_solomon_simd.proofs.UpdateLemmas.{length-piece, put-piece, head-kept, middle-is, rest-kept}
use Rattle.reed_solomon_simd.proofs.updating.add_to_rest.Goals as goal

pub returns : goal.returns
returns g c =
    let within : c.args.start + length c.args.change.now ≤ length c.args.shard.now = omega (arith, c.requires.inside) in
    let start : ℕ = c.args.start in
    let end : ℕ = c.args.start + length c.args.change.now in
    let shard : Shard = c.args.shard.now in
    let piece : Shard = c.add_to_tail.new.tail in
    let long = length-piece start end shard within in
    let sized : length c.add_to_tail.new.tail ≡ c.args.start + length c.args.change.now - c.args.start =
    c.add_to_tail.ensures.length ∙ long in
    let spliced =
    put-piece start (end - start) end shard piece (omega arith) (omega (arith, within)) sized in
    record {
      length_is = search rules;
      bytes = c.are_bytes.ensures.all;
      first = head-kept start end shard piece _ (omega arith) within sized spliced;
      rest = rest-kept start end shard piece _ (omega arith) within sized spliced;
      words = λ j h.
          ap (column j) (middle-is start end shard piece _ (omega arith) within sized spliced)
          ∙ c.add_to_tail.ensures.words j (omega (arith, h, long));
    }
