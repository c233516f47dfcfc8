-- Blocks that are restored piece by piece: what was written of them, and why a restore fails.
use Rattle.std.proofs.Common.{◌≡◌, ◌≢◌, ◌⊎◌, ℕ, ◌+◌, ◌<◌, ◌≤◌, Bool, true, false, eqb, List, [], ◌∷◌, ◌++◌, length}
use Rattle.std.proofs.Common.{get_or, take, Some, Ok, Err, Result, refl, sym, ap, subst, ◌∙◌, inl, inr, arith}
use Rattle.std.specs.Prelude.{if◌then◌else◌, nat_eq, Option, IfErr, OnOk}
use Rattle.std.specs.declared.io.Error.{Error}
use Rattle.std.specs.Global.{Vec}
use Rattle.std.specs.List.{list_any}
use Rattle.std.proofs.lemmas.Bool.{ne_eqb, eq-eqb}
use Rattle.std.proofs.lemmas.Bool.Decides.{eqb_tells}
use Rattle.std.proofs.lemmas.List.{length-append, length-map}
use Rattle.sha2.specs.Hashers.{Holds256}
use Rattle.sha2.specs.declared.Sha256.{Sha256}
use Rattle.rs_field.specs.code.Column.{Shard, shard_at}
use Rattle.rs_field.specs.code.Given.{Shards}
use Rattle.rs_field.specs.code.Pieces.{IsStrip}
use Rattle.rs_volumes.specs.declared.coding_error.CodingError.{CodingError}
use Rattle.rs_volumes.specs.declared.coding_error.CodingError.TheVariants as errors
use Rattle.rs_volumes.specs.declared.creating.Shape.{Shape}
use Rattle.rs_volumes.specs.declared.outputs.Outputs.{Outputs}
use Rattle.rs_volumes.specs.declared.restoring.Plan.{Plan}
use Rattle.rs_volumes.specs.Holding.{Adds, AreHeld}
use Rattle.rs_volumes.specs.Restoring.{AreRead, AreRestored, HasDigest, ReadsSet, items_of}
use Rattle.rs_volumes.specs.Restoring.{DigestFails, RestoringFails, StripFails}

-- ---- one piece

-- one block got a piece
abbrev pub with_piece : ℕ → Shard → (ℕ → Shard) → ℕ → Shard
with_piece index piece held i = if eqb i index then held i ++ piece else held i

adds : (index : ℕ) (piece : Shard) (held : ℕ → Shard) → Adds index piece held (with_piece index piece held)
adds index piece held =
    record { here = rw (eq-eqb index index refl) refl; others = λ i other. rw (ne_eqb i index other) refl }

-- If a piece of a block was added to its length, to its hasher and to the sink, and all other blocks are as they were,
-- the outputs still describe what was written.
pub held_more : {old new : Outputs} {index : ℕ} (piece : Shard) {held : ℕ → Shard} {before now after : Shards}
    → index < length old.lengths.items
    → length new.lengths.items ≡ length old.lengths.items → length new.hashers.items ≡ length old.hashers.items
    → get_or new.lengths.items index 0 ≡ get_or old.lengths.items index 0 + length piece
    → ((i : ℕ) → i ≢ index → get_or new.lengths.items i 0 ≡ get_or old.lengths.items i 0)
    → ((d : Sha256) (bytes : Shard) → Holds256 (get_or old.hashers.items index d) bytes
    → Holds256 (get_or new.hashers.items index d) (bytes ++ piece))
    → ((i : ℕ) (d : Sha256) → i ≢ index → get_or new.hashers.items i d ≡ get_or old.hashers.items i d)
    → ((bytes : Shard) → now index ≡ Some bytes → get_or old.lengths.items index 0 ≡ length bytes
    → after index ≡ Some (bytes ++ piece))
    → ((i : ℕ) → i ≢ index → after i ≡ now i)
    → AreHeld old held before now
    → (next : ℕ → Shard) × Adds index piece held next × AreHeld new next before after
held_more {old = old} {new = new} {index = index} piece {held = held} {before = before} {now = now} {after = after}
    inside lengths hashers long unchanged here others put rest are =
    let next : ℕ → Shard = with_piece index piece held in
    let added : Adds index piece held next = adds index piece held in (
      next,
      added,
      record {
        counted = λ i h. elim (eqb_tells i index) [
          | inl same ↦
              let at : i ≡ index = same.1 in
              ap (λ (n : ℕ). get_or new.lengths.items n 0) at ∙ long
              ∙ ap (λ (n : ℕ). n + length piece) (are.counted index inside)
              ∙ sym (length-append (held index) piece) ∙ ap length (sym added.here)
              ∙ ap (λ (n : ℕ). length (next n)) (sym at)
          | inr other ↦
              unchanged i other.1 ∙ are.counted i (omega (arith, h, lengths))
              ∙ ap length (sym (added.others i other.1))
        ];
        hashed = λ i d h. elim (eqb_tells i index) [
          | inl same ↦
              let at : index ≡ i = sym same.1 in
              let fits : index < length old.hashers.items = omega (arith, h, hashers, at) in
              subst (λ (n : ℕ). Holds256 (get_or new.hashers.items n d) (next n)) at
              (subst (Holds256 (get_or new.hashers.items index d)) (sym added.here)
              (here d (held index) (are.hashed index d fits)))
          | inr other ↦
              let fits : i < length old.hashers.items = omega (arith, h, hashers) in
              subst (Holds256 (get_or new.hashers.items i d)) (sym (added.others i other.1))
              (subst (λ (hasher : Sha256). Holds256 hasher (held i)) (sym (others i d other.1)) (are.hashed i d fits))
        ];
        written = λ i none. elim (eqb_tells i index) [
          | inl same ↦
              let at : i ≡ index = same.1 in
              ap after at
              ∙ put (held index) (are.written index (ap before (sym at) ∙ none)) (are.counted index inside)
              ∙ ap Some (sym added.here) ∙ ap (λ (n : ℕ). Some (next n)) (sym at)
          | inr other ↦ rest i other.1 ∙ are.written i none ∙ ap Some (sym (added.others i other.1))
        ];
      },
    )

-- ---- all pieces

-- the first `start` bytes of each block were restored: what was written of each block is known, and if the blocks that
-- are read are blocks of a set, these are bytes of the originals of this set
pub record AreRestoredTo (shape : Shape) (plan : Plan) (start : ℕ) (known : Shards) (outputs : Outputs)
    (before now : Shards) : Type 0 where
  pub held : ℕ → Shard
  pub are : AreHeld outputs held before now
  pub back : (originals recovery : List Shard) → ReadsSet shape plan known originals recovery
      → (i : ℕ) → get_or plan.wanted.items i false ≡ true
      → (list_any (nat_eq i) plan.originals.items ≡ true) ⊎ (0 < length plan.recovery.items)
      → held i ≡ take start (shard_at originals i)

-- If the hasher of each requested block gives its digest, the requested blocks were written with these digests.
restored : (hashers : List Sha256) {wanted : List Bool} {digests : List ℕ} {held : ℕ → Shard}
    {before after : Shards} → length wanted ≤ length hashers
    → ((i : ℕ) (d : Sha256) → i < length hashers → Holds256 (get_or hashers i d) (held i))
    → ((i : ℕ) → before i ≡ Some [] → after i ≡ Some (held i))
    → ((i : ℕ) (d : Sha256) (bytes : Shard) → i < length wanted → get_or wanted i false ≡ true
    → Holds256 (get_or hashers i d) bytes → HasDigest digests i bytes)
    → AreRestored wanted digests before after
restored [] room hashed written compared = record { each = λ i lt is. absurd (omega (arith, room, lt)) }
restored (h ∷ hs) {held = held} room hashed written compared =
    record {
      each = λ i lt is.
          (held i, compared i h (held i) lt is (hashed i h (omega (arith, room, lt))), written i);
    }

-- ---- errors

-- If the pieces of a strip are not written, the restore may fail with the same error.
pub strip_fails : (shape : Shape) (plan : Plan) (digests : List ℕ) (reads writes : Option Shard → ℕ → Error → Type 0)
    (known before after : Shards) {start end : ℕ} {ps qs : List (ℕ × Vec ℕ)} (e : CodingError) → start < end
    → IsStrip start end shape.block_bytes → AreRead 0 plan.originals.items start end known ps
    → AreRead shape.original_count plan.recovery.items start end known qs
    → StripFails shape plan.wanted.items (items_of ps) (items_of qs) writes before e
    → RestoringFails shape plan digests reads writes known before after e
strip_fails shape plan digests reads writes known before after errors.Memory order strip read received fails = tt
strip_fails shape plan digests reads writes known before after (errors.Read i e) order strip read received fails =
    absurd fails
strip_fails shape plan digests reads writes known before after (errors.Write i e) order strip read received fails =
    fails
strip_fails shape plan digests reads writes known before after {start = start} {end = end} {ps = ps} {qs = qs}
    (errors.Code e) order strip read received fails =
    let view : ℕ × Vec ℕ → ℕ × Shard = λ q. (q.0, q.1.items) in
    let long = length-map qs view in
    record {
      start = start;
      end = end;
      read = ps;
      received = qs;
      order = order;
      strip = strip;
      are_read = read;
      are_received = received;
      some = omega (arith, fails.0, long);
      answers = fails.1;
    }
strip_fails shape plan digests reads writes known before after (errors.Missing n) order strip read received fails =
    absurd fails
strip_fails shape plan digests reads writes known before after (errors.NotFound i) order strip read received fails =
    absurd fails
strip_fails shape plan digests reads writes known before after (errors.Digest i) order strip read received fails =
    absurd fails

-- If a digest differs, the restore may fail with the error that names this block.
digest_fails : (shape : Shape) (plan : Plan) (digests : List ℕ) (reads writes : Option Shard → ℕ → Error → Type 0)
    (known before after : Shards) (hashers : List Sha256) (held : ℕ → Shard) (e : CodingError)
    → length hashers ≡ length plan.wanted.items
    → ((i : ℕ) (d : Sha256) → i < length hashers → Holds256 (get_or hashers i d) (held i))
    → ((i : ℕ) → before i ≡ Some [] → after i ≡ Some (held i)) → DigestFails plan.wanted.items digests hashers e
    → RestoringFails shape plan digests reads writes known before after e
digest_fails shape plan digests reads writes known before after hashers held errors.Memory room hashed written fails =
    absurd fails
digest_fails shape plan digests reads writes known before after hashers held (errors.Read i e) room hashed written fails
    = absurd fails
digest_fails shape plan digests reads writes known before after hashers held (errors.Write i e) room hashed written
    fails = absurd fails
digest_fails shape plan digests reads writes known before after hashers held (errors.Code e) room hashed written fails =
    absurd fails
digest_fails shape plan digests reads writes known before after hashers held (errors.Missing n) room hashed written
    fails = absurd fails
digest_fails shape plan digests reads writes known before after hashers held (errors.NotFound i) room hashed written
    fails = absurd fails
digest_fails shape plan digests reads writes known before after [] held (errors.Digest i) room hashed written fails =
    absurd (omega (arith, room, fails.0))
digest_fails shape plan digests reads writes known before after (h ∷ hs) held (errors.Digest i) room hashed written
    fails = (
      fails.1,
      λ none. (
        held i,
        written i none,
        fails.2 h (held i) (hashed i h (omega (arith, room, fails.0))),
      ),
    )

-- ---- the result of comparing the digests

-- If the digests were compared, the requested blocks were written with their digests.
pub digests_back : (result : Result (Unit {0}) CodingError) (wanted : List Bool) (digests : List ℕ)
    (before after : Shards) (hashers : List Sha256) (held : ℕ → Shard) → length hashers ≡ length wanted
    → ((i : ℕ) (d : Sha256) → i < length hashers → Holds256 (get_or hashers i d) (held i))
    → ((i : ℕ) → before i ≡ Some [] → after i ≡ Some (held i))
    → OnOk result ((i : ℕ) (d : Sha256) (bytes : Shard) → i < length wanted → get_or wanted i false ≡ true
    → Holds256 (get_or hashers i d) bytes → HasDigest digests i bytes)
    → OnOk result (AreRestored wanted digests before after)
digests_back (Ok done) wanted digests before after hashers held room hashed written compared =
    restored hashers (omega (arith, room)) hashed written compared
digests_back (Err e) wanted digests before after hashers held room hashed written compared = tt

-- If a digest differs, the restore may fail with the error that names this block.
pub fails_back : (result : Result (Unit {0}) CodingError) (shape : Shape) (plan : Plan) (digests : List ℕ)
    (reads writes : Option Shard → ℕ → Error → Type 0) (known before after : Shards) (hashers : List Sha256)
    (held : ℕ → Shard) → length hashers ≡ length plan.wanted.items
    → ((i : ℕ) (d : Sha256) → i < length hashers → Holds256 (get_or hashers i d) (held i))
    → ((i : ℕ) → before i ≡ Some [] → after i ≡ Some (held i))
    → IfErr result (DigestFails plan.wanted.items digests hashers)
    → IfErr result (RestoringFails shape plan digests reads writes known before after)
fails_back (Ok done) shape plan digests reads writes known before after hashers held room hashed written fails = tt
fails_back (Err e) shape plan digests reads writes known before after hashers held room hashed written fails =
    digest_fails shape plan digests reads writes known before after hashers held e room hashed written fails
