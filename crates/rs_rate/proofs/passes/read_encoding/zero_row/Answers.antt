use Rattle.std.proofs.Common.{◌≡◌, ℕ, ◌+◌, ◌*◌, ◌≤◌, [], take, replicate, ap, ap₂, ◌∙◌, arith}
use Rattle.std.proofs.lemmas.List.{length-take-le, get_or-replicate, get_or-take}
use Rattle.rs_field.specs.rows.Rows.{chunk, symbol}
use Rattle.rs_rate.specs.passes.Reading.{IsBlank}
use Rattle.rs_rate.proofs.passes.read_encoding.zero_row.Goals as goal

-- The first chunks of chunks of zeros.
blank : (n : ℕ) → n ≤ 64 → IsBlank n (take n (replicate 64 (replicate 64 0)))
blank n few = (
  length-take-le n (replicate 64 (replicate 64 0)) few,
  (λ k s inside symbols.
      let zeros : chunk (take n (replicate 64 (replicate 64 0))) k ≡ replicate 64 0 =
      get_or-take n (replicate 64 (replicate 64 0)) k [] inside
      ∙ get_or-replicate 64 k (replicate 64 0) [] (omega (arith, inside, few)) in
      ap (λ x. symbol x s) zeros
      ∙ ap₂ (λ (a b : ℕ). a + 256 * b) (get_or-replicate 64 s 0 0 (omega (arith, symbols)))
      (get_or-replicate 64 (s + 32) 0 0 (omega (arith, symbols)))),
)

pub returns : goal.returns
returns c = blank c.args.len c.requires
