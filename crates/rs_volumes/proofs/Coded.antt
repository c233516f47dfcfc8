-- Pieces that were coded, and then written by two calls.
use Rattle.std.proofs.Common.{rules, ◌≡◌, ◌⊎◌, ℕ, ◌+◌, ◌-◌, ◌<◌, ◌≤◌, ◌%◌, List, [], ◌++◌, length, All, Some, sym, ap}
use Rattle.std.proofs.Common.{◌∙◌, get_or, arith}
use Rattle.std.specs.Prelude.{min, map}
use Rattle.std.specs.Global.{Vec}
use Rattle.std.proofs.lemmas.List.{get_or-append_right, length-map, get_or-map}
use Rattle.std.proofs.Math.ListN.{get_or-append}
use Rattle.rs_field.specs.code.Column.{Shard, AreShards, shard_at}
use Rattle.rs_field.specs.code.Code.{AreRecovery}
use Rattle.rs_field.specs.code.Given.{Shards}
use Rattle.rs_field.specs.code.OneCall.{default_of}
use Rattle.rs_field.specs.code.Pieces.{IsStrip}
use Rattle.rs_field.specs.code.RoundTrip.{AreCoded}
use Rattle.rs_field.proofs.code_lemmas.SupportedCounts.{default_fits}
use Rattle.reed_solomon_simd.proofs.StateLemmas.{valid-supported}

-- what one call codes has the size of its pieces
pub coded_sized : (n : ℕ) {k r : ℕ} {pieces made : List Shard} → AreCoded k r pieces made
    → All (λ p. length p ≡ n) pieces
    → AreShards k n pieces × AreRecovery (default_of k r n) pieces made
coded_sized n {k = k} {r = r} {pieces = pieces} {made = made} coded sized =
    let some : 0 < k = (default_fits k r (valid-supported (default_of k r coded.size) coded.valid)).0 in
    let first : 0 < length pieces = omega (arith, some, coded.shards.length_is) in
    let size : coded.size ≡ n = sym (coded.shards.each 0 [] first).length_is ∙ sized 0 [] first in
    (rw size at coded.shards, rw size at coded.coded)

-- a call that writes the pieces of the blocks from `first` on
pub record Puts (first start : ℕ) (pieces : List Shard) (before after : Shards) : Type 0 where
  pub put : (i : ℕ) (block : Shard) → i < length pieces → before (first + i) ≡ Some block → start ≡ length block
      → after (first + i) ≡ Some (block ++ shard_at pieces i)
  pub others : (i : ℕ) → (i < first) ⊎ (first + length pieces ≤ i) → after i ≡ before i

module _ {k r start : ℕ} {pieces made : List Shard} {before between after : Shards} where
  -- the pieces of the original blocks and then those of the recovery blocks
  pub put_both : length pieces ≡ k → length made ≡ r
      → Puts 0 start pieces before between → Puts k start made between after
      → (i : ℕ) (block : Shard) → i < k + r → before i ≡ Some block → start ≡ length block
      → after i ≡ Some (block ++ shard_at (pieces ++ made) i)
  put_both one two first second i block lt is long = search (rules, get_or-append, get_or-append_right)

module _ {start piece size width : ℕ} where
  -- the next piece is a strip
  pub next_strip : start ≤ size → (start % 64 ≡ 0) ⊎ (start ≡ size) → piece % 64 ≡ 0 → 0 < piece → start < size
      → width ≡ min piece (size - start) → IsStrip start (start + width) size
  next_strip inside begins chunks some less is = search rules

-- the pieces of vectors, as a call writes them
pub puts_from : {first start : ℕ} (vectors : List (Vec ℕ)) {before after : Shards}
    → ((i : ℕ) (block : Shard) → i < length vectors → before (first + i) ≡ Some block → start ≡ length block
    → after (first + i) ≡ Some (block ++ shard_at (map (λ p. p.items) vectors) i))
    → ((i : ℕ) → (i < first) ⊎ (first + length vectors ≤ i) → after i ≡ before i)
    → Puts first start (map (λ p. p.items) vectors) before after
puts_from vectors put others = search (rules, length-map)

-- a vector in a list
pub piece_at : (vectors : List (Vec ℕ)) {n : ℕ} {v : Vec ℕ} → n < length vectors → v ≡ get_or vectors n v
    → v.items ≡ shard_at (map (λ p. p.items) vectors) n
piece_at vectors {n = n} {v = v} h e =
    ap (λ (p : Vec ℕ). p.items) e ∙ sym (get_or-map (λ (p : Vec ℕ). p.items) vectors n v [] h)
