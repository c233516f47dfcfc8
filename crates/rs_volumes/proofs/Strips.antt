-- Blocks that grow by a piece each, and the strips in which their recovery blocks are known.
use Rattle.std.proofs.Common.{rules, ◌≡◌, ℕ, ◌+◌, ◌-◌, ◌<◌, ◌≤◌, List, [], ◌∷◌, ◌++◌, length, get_or, take, refl, sym}
use Rattle.std.proofs.Common.{ap, subst, ◌∙◌, inl, inr, arith}
use Rattle.std.specs.List.{between, AllByRecursion}
use Rattle.std.proofs.Math.Seq.{take-add}
use Rattle.std.proofs.lemmas.Bool.{cases_lt}
use Rattle.std.proofs.lemmas.List.{drop-append-le, take-append-le, take_all, drop_at, length-append, length-drop}
use Rattle.std.proofs.lemmas.List.{get_or_default}
use Rattle.std.proofs.lemmas.List.Elements.{All-append, recursion_from_All}
use Rattle.rs_field.specs.code.Column.{Shard, IsShard, AreShards}
use Rattle.rs_field.specs.code.Code.{AreRecovery}
use Rattle.rs_field.specs.code.OneCall.{default_of}
use Rattle.rs_field.specs.code.Pieces.{pieces, IsStrip}
use Rattle.rs_volumes.specs.Hashing.{joined}
use Rattle.rs_volumes.proofs.Hashes.{length-joined, shard_at-joined}

-- ---- pieces of one block

between-front : (s e start : ℕ) (x p : Shard) → s ≤ e → e ≤ start → length x ≡ start
    → between s e (x ++ p) ≡ between s e x
between-front s e start x p order le len = search (rules, length-drop, drop-append-le, take-append-le)

between-back : (start end : ℕ) (x p : Shard) → length x ≡ start → length p ≡ end - start
    → between start end (x ++ p) ≡ p
between-back start end x p len other = search (rules, drop_at, take_all)

pub take-further : (start end : ℕ) (x : Shard) → start ≤ end → take start x ++ between start end x ≡ take end x
take-further start end x le =
    let sum : start + (end - start) ≡ end = omega arith in
    sym (take-add start (end - start) x) ∙ ap (λ (n : ℕ). take n x) sum

-- ---- pieces of many blocks

pieces-front : (s e start : ℕ) (xs ps : List Shard) → s ≤ e → e ≤ start → AllByRecursion (λ x. length x ≡ start) xs
    → pieces s e (joined xs ps) ≡ pieces s e xs
unfolding joined
pieces-front s e start [] ps order le each = refl
pieces-front s e start (x ∷ xs) [] order le each = refl
pieces-front s e start (x ∷ xs) (p ∷ ps) order le each =
    rw (between-front s e start x p order le each.0, pieces-front s e start xs ps order le each.1) refl

pieces-back : (start end : ℕ) (xs ps : List Shard) → length xs ≡ length ps → AllByRecursion (λ x. length x ≡ start) xs
    → AllByRecursion (λ p. length p ≡ end - start) ps → pieces start end (joined xs ps) ≡ ps
unfolding joined
pieces-back start end [] [] count each other = refl
pieces-back start end [] (p ∷ ps) count each other = absurd (omega arith)
pieces-back start end (x ∷ xs) [] count each other = absurd (omega arith)
pieces-back start end (x ∷ xs) (p ∷ ps) count each other =
    let rest : length xs ≡ length ps = omega arith in
    rw (between-back start end x p each.0 other.0, pieces-back start end xs ps rest each.1 other.1) refl

lengths : {n size : ℕ} {xs : List Shard} → AreShards n size xs → AllByRecursion (λ x. length x ≡ size) xs
lengths {size = size} {xs = xs} are = recursion_from_All (λ x. length x ≡ size) xs (λ i d h. (are.each i d h).length_is)

module _ {count n m : ℕ} {xs ps : List Shard} where
  -- blocks of n bytes with a piece of m bytes each are blocks of n + m bytes
  pub shards-joined : AreShards count n xs → AreShards count m ps
      → AreShards count (n + m) (joined xs ps)
  shards-joined are new =
      let number : length (joined xs ps) ≡ count = length-joined xs ps ∙ are.length_is in
      record {
        length_is = number;
        each = λ i d h.
            let inside : i < count = omega (arith, number) in
            let first : i < length xs = omega (arith, are.length_is) in
            let second : i < length ps = omega (arith, new.length_is) in
            let is : get_or (joined xs ps) i d ≡ get_or xs i [] ++ get_or ps i [] =
            get_or_default (joined xs ps) i d [] h ∙ shard_at-joined xs ps i first second in
            let one = are.each i [] first in
            let two = new.each i [] second in
            subst (IsShard (n + m)) (sym is) (record {
              length_is = omega (arith, length-append (get_or xs i []) (get_or ps i []), one.length_is, two.length_is);
              bytes = All-append (λ b. b < 256) (get_or xs i []) (get_or ps i []) one.bytes two.bytes;
            });
      }

-- ---- strips

-- each byte before `start` is in a strip in which the recovery blocks are known
pub record IsCodedTo (k r size start : ℕ) (originals recovery : List Shard) : Type 0 where
  pub strips : (byte : ℕ) → byte < start → (s : ℕ) × (e : ℕ) × IsStrip s e size × (s ≤ byte) × (byte < e) × (e ≤ start)
      × AreRecovery (default_of k r (e - s)) (pieces s e originals) (pieces s e recovery)

pub coded-none : (k r size : ℕ) (originals recovery : List Shard) → IsCodedTo k r size 0 originals recovery
coded-none k r size originals recovery = record { strips = λ byte lt. absurd (omega arith) }

module _ {k r size start end : ℕ} {originals recovery ps made : List Shard} where
  -- If the recovery blocks are known in all strips before `start`, and in the strip up to `end`, they are known in all
  -- strips before `end`.
  pub coded-more : IsStrip start end size
      → AreShards k start originals → AreShards r start recovery
      → AreShards k (end - start) ps → AreRecovery (default_of k r (end - start)) ps made
      → IsCodedTo k r size start originals recovery
      → IsCodedTo k r size end (joined originals ps) (joined recovery made)
  coded-more strip are others new coded done =
      record {
        strips = λ byte lt. elim (cases_lt byte start) [
          | inl before ↦
              let (s, e, is, from, to, below, known) = done.strips byte before in
              let front = pieces-front s e start originals ps is.order below (lengths are) in
              let back = pieces-front s e start recovery made is.order below (lengths others) in
              (s, e, is, from, to, omega (arith, below, strip.order), rw (front, back) known)
          | inr after ↦
              let one = pieces-back start end originals ps (are.length_is ∙ sym new.length_is) (lengths are)
              (lengths new) in
              let two = pieces-back start end recovery made (others.length_is ∙ sym coded.shards.length_is)
              (lengths others) (lengths coded.shards) in
              (start, end, strip, after, lt, omega arith, rw (one, two) coded)
        ];
      }
