use Rattle.std.proofs.Common.{◌≡◌, ℕ, ◌+◌, ◌-◌, ◌*◌, ◌/◌, ◌%◌, ◌≤◌, length, take, drop, subst, sym, ap, ◌∙◌, arith}
use Rattle.std.proofs.Common.{nat_eq, List}
use Rattle.std.proofs.lemmas.Bool.{true≢false}
use Rattle.rs_field.specs.rows.Rows.{Chunks}
use Rattle.rs_field.proofs.rows_lemmas.ZeroColumns.{IsRow, AreZero, zero_columns, zero-from, zero-part, zero-first}
use Rattle.rs_field.proofs.rows_lemmas.ZeroColumns.{zero-second}
use Rattle.rs_field.proofs.rows.layout.is_zero_row.Goals as goal
use Rattle.rs_field.proofs.rows.layout.is_zero_row.Goals.{After-as_flattened-bytes}

first-fits : {size : ℕ} {row : Chunks} {bytes : List ℕ} → IsRow size row bytes
    → 0 + (size / 64 * 64 + size % 64 / 2) ≤ length bytes
first-fits is = omega (arith, is.length_is, is.count)

second-fits : {size : ℕ} {row : Chunks} {bytes : List ℕ} → IsRow size row bytes → (size % 64 / 2 ≡ 0 → ⊥)
    → size / 64 * 64 + 32 + size % 64 / 2 ≤ length bytes
second-fits is some = omega (arith, is.length_is, is.count, some)

is_row : (c : After-as_flattened-bytes) → IsRow c.args.shard_bytes c.args.row.now c.as_flattened-bytes.result.now
is_row c = record {
  length_is = c.requires;
  sized = c.told-row;
  flat = c.as_flattened-bytes.ensures.value;
  count = c.as_flattened-bytes.ensures.len;
}

pub returns-then-half-eq0 : goal.returns-then-half-eq0
returns-then-half-eq0 c =
    let size = c.args.shard_bytes in
    let bytes = c.as_flattened-bytes.result.now in
    let is = is_row (goal.at.returns-then-half-eq0 c).After-as_flattened-bytes in
    let fits = first-fits is in (
      λ yes. zero_columns is (zero-from bytes 0 _ fits (c.are_zero_bytes.ensures.0 c.if-are_zero_bytes.true))
          (λ b h. absurd (omega (arith, h, c.if-half-eq0.true))),
      λ zeros. ap (λ n. nat_eq n 0) c.if-half-eq0.true,
    )

pub returns-else-half-eq0 : goal.returns-else-half-eq0
returns-else-half-eq0 c =
    let size = c.args.shard_bytes in
    let start = size / 64 * 64 + 32 in
    let bytes = c.as_flattened-bytes.result.now in
    let is = is_row (goal.at.returns-else-half-eq0 c).After-as_flattened-bytes in
    let part = λ (n : ℕ). AreZero (take n (drop start bytes)) in
    let half : start + size % 64 / 2 - start ≡ size % 64 / 2 = omega arith in
    let fits = second-fits is c.if-half-eq0.false in (
      λ yes. zero_columns is (zero-from bytes 0 _ (first-fits is) (c.are_zero_bytes.ensures.0 c.if-are_zero_bytes.true))
          (zero-from bytes start (size % 64 / 2) fits (subst part half (c.are_zero_bytes-else-half-eq0.ensures.0 yes))),
      λ zeros. c.are_zero_bytes-else-half-eq0.ensures.1
          (subst part (sym half) (zero-part bytes start (size % 64 / 2) fits (zero-second is zeros))),
    )

pub returns-else-are_zero_bytes : goal.returns-else-are_zero_bytes
returns-else-are_zero_bytes c =
    let size = c.args.shard_bytes in
    let bytes = c.as_flattened-bytes.result.now in
    let is = is_row (goal.at.returns-else-are_zero_bytes c).After-as_flattened-bytes in (
      λ yes. absurd (true≢false (sym yes ∙ c.if-are_zero_bytes.false)),
      λ zeros.
          c.are_zero_bytes.ensures.1 (zero-part bytes 0 _ (first-fits is) (zero-first is zeros)),
    )
