-- Blocks that are written from pieces of a set are the originals of the set.
use Rattle.std.proofs.Common.{rules, ◌≡◌, ◌⊎◌, ℕ, suc, ◌+◌, ◌-◌, ◌<◌, ◌≤◌, Bool, true, false, cond, eqb, List, [], ◌∷◌}
use Rattle.std.proofs.Common.{◌++◌, length, get_or, take, All, Some, None, Result, Ok, Err, refl, sym, ap, subst, ◌∙◌}
use Rattle.std.proofs.Common.{inl, inr, arith}
use Rattle.std.specs.Prelude.{map, nat_eq, nat_lt, not, ◌&&◌, ◌||◌, MatchResult}
use Rattle.std.specs.Global.{Vec}
use Rattle.std.specs.List.{between, list_any, IsDistinct, AllByRecursion}
use Rattle.std.proofs.lemmas.Bool.{ltb-false, cases_lt}
use Rattle.std.proofs.lemmas.Bool.Decides.{eqb_tells}
use Rattle.std.proofs.lemmas.List.{append-nil, get_or-map, get_or_past, length-map, take_all}
use Rattle.std.proofs.lemmas.List.Elements.{All-map}
use Rattle.rs_field.specs.declared.code.error.Error.{Error}
use Rattle.rs_field.specs.code.Column.{Shard, AreShards, shard_at}
use Rattle.rs_field.specs.code.Code.{AreRecovery}
use Rattle.rs_field.specs.code.Configuration.{validation_outcome, start_outcome}
use Rattle.rs_field.specs.code.Counts.{default_rate}
use Rattle.rs_field.specs.code.Decoder.{DecodeAnswers, fresh_decoder}
use Rattle.rs_field.specs.code.Given.{Shards}
use Rattle.rs_field.specs.code.OneCall.{Items, OneDecodeAnswers, default_of, with_both}
use Rattle.rs_field.specs.code.Outcome.{result_and_then}
use Rattle.rs_field.specs.code.Pieces.{pieces, IsStrip}
use Rattle.rs_field.specs.code.Frame.{decoder_rows}
use Rattle.rs_field.specs.code.RoundTrip.{AreCoded, AreLeft, lost_of}
use Rattle.rs_field.proofs.code_lemmas.OneRoundTrip.{restores_in_one_call}
use Rattle.rs_field.proofs.code_lemmas.PieceStates.{shard_at-pieces, shards-cut, recovery-cut}
use Rattle.reed_solomon_simd.proofs.SetUp.{started-parts}
use Rattle.rs_volumes.specs.declared.creating.Shape.{Shape}
use Rattle.rs_volumes.specs.declared.restoring.Plan.{Plan}
use Rattle.rs_volumes.specs.Restoring.{AreKnown, AreRead, ReadsSet, PutsBack, items_of, bytes_of, piece_of}
use Rattle.rs_volumes.proofs.Strips.{take-further}

-- ---- one piece for each number

-- whether an item has a number
abbrev pub has : ℕ → Items → Bool
has i items = list_any (λ item. nat_eq i item.0) items

none_after : (i : ℕ) (items : Items) → AllByRecursion (λ n. nat_eq i n ≡ false) (map (λ item. item.0) items)
    → has i items ≡ false
none_after i [] each = refl
none_after i (item ∷ items) each = rw each.0 (none_after i items each.1)

piece_of-none : (i : ℕ) (items : Items) → has i items ≡ false → piece_of i items ≡ []
unfolding piece_of
piece_of-none i [] none = refl
piece_of-none i (item ∷ items) none =
    elim (eqb_tells i item.0) [
      | inl same ↦ absurd (let yes : eqb i item.0 ≡ true = same.0 in let no : ⊥ = cc in no)
      | inr other ↦ rw other.0 (piece_of-none i items (rw other.0 at none))
    ]

one_of : (blocks : List Shard) (items : Items)
    → All (λ item. (item.0 < length blocks) × (shard_at blocks item.0 ≡ item.1)) items
    → IsDistinct nat_eq (map (λ item. item.0) items)
    → (i : ℕ) → has i items ≡ true → piece_of i items ≡ shard_at blocks i
unfolding piece_of IsDistinct
one_of blocks [] own once i is = absurd (let no : ⊥ = cc in no)
one_of blocks (item ∷ items) own once i is =
    elim (eqb_tells i item.0) [
      | inl same ↦
          let rest : piece_of i items ≡ [] =
          piece_of-none i items (subst (λ (n : ℕ). has n items ≡ false) (sym same.1) (none_after item.0 items once.0))
          in
          rw (same.0, rest) (append-nil item.1 ∙ sym (own 0 item (omega arith)).1
          ∙ ap (shard_at blocks) (sym same.1))
      | inr other ↦
          rw other.0 (one_of blocks items (λ j d h. own (suc j) d (omega arith)) once.1 i (rw other.0 at is))
    ]

-- the piece of a number that one item has
pub piece_of-one : {blocks : List Shard} {items : Items} → AreLeft blocks items → (i : ℕ) → has i items ≡ true
    → piece_of i items ≡ shard_at blocks i
piece_of-one {blocks = blocks} {items = items} left i is = one_of blocks items left.own left.once i is

-- ---- what a decode of pieces returns

module _ {k r size : ℕ} {message all : List Shard} {read received : Items} {out : Shards}
    (are : AreShards k size message) (coded : AreRecovery (default_of k r size) message all)
    (left : AreLeft message read) (got : AreLeft all received) (some : 0 < length received)
    (answers : OneDecodeAnswers k r read received (Ok out)) where
  valid_by : (first : ℕ × Shard) (rest : Items) (o : Result (Unit {0}) Error)
      → MatchResult (result_and_then
      (λ _. with_both (fresh_decoder (default_of k r (length first.1))) read (first ∷ rest)) o)
      (λ s. DecodeAnswers s (Ok out)) (λ e. ◌≡◌ {A = Result Shards Error} (Ok out) (Err e)) → o ≡ Ok tt
  valid_by first rest (Ok u) h = refl
  valid_by first rest (Err e) h = absurd (let no : ⊥ = cc in no)

  valid_of : (items : Items) → AreLeft all items → 0 < length items → OneDecodeAnswers k r read items (Ok out)
      → validation_outcome (default_of k r size) ≡ Ok tt
  valid_of [] own h given = absurd (omega arith)
  valid_of (first ∷ rest) own h (inr lacks) = absurd (let e = lacks.1 in let no : ⊥ = cc in no)
  valid_of (first ∷ rest) own h (inl given) =
      let here = own.own 0 first (omega arith) in
      let long : length first.1 ≡ size =
      sym (ap length here.1) ∙ (coded.shards.each first.0 [] here.0).length_is in
      subst (λ (n : ℕ). validation_outcome (default_of k r n) ≡ Ok tt) long
      (started-parts (decoder_rows default_rate k r) (default_of k r (length first.1))
      (valid_by first rest (start_outcome (decoder_rows default_rate k r) (default_of k r (length first.1))) given)).0

  lost : (i : ℕ) → out i ≡ lost_of message read i
  lost =
      let was : AreCoded k r message all =
      record { size = size; valid = valid_of received got some answers; shards = are; coded = coded } in
      (restores_in_one_call k r message all read received (Ok out) was left got answers).restored

  by_tests : (i : ℕ) (inside given : Bool) → nat_lt i (length message) ≡ inside → has i read ≡ given
      → piece_of i read ++ bytes_of (cond (inside && not given) (Some (shard_at message i)) None) ≡ shard_at message i
  by_tests i true true a b = append-nil (piece_of i read) ∙ piece_of-one left i b
  by_tests i true false a b = ap (λ (s : Shard). s ++ shard_at message i) (piece_of-none i read b)
  by_tests i false true a b = append-nil (piece_of i read) ∙ piece_of-one left i b
  by_tests i false false a b =
      let past : length message ≤ i = ltb-false i (length message) a in
      append-nil (piece_of i read) ∙ piece_of-none i read b ∙ sym (get_or_past message i [] past)

  -- a piece that was read, and a piece that was restored, are together the piece of the message
  pub both_pieces : (i : ℕ) → piece_of i read ++ bytes_of (out i) ≡ shard_at message i
  unfolding lost_of
  both_pieces i = search (rules, lost, by_tests)

-- ---- the pieces of a plan

numbers_of : (ps : List (ℕ × Vec ℕ)) → map (λ item. item.0) (items_of ps) ≡ map (λ p. p.0) ps
numbers_of [] = refl
numbers_of (p ∷ ps) = ap (λ (ns : List ℕ). p.0 ∷ ns) (numbers_of ps)

has-numbers : (i : ℕ) (ps : List (ℕ × Vec ℕ)) → list_any (nat_eq i) (map (λ p. p.0) ps) ≡ has i (items_of ps)
has-numbers i [] = refl
has-numbers i (p ∷ ps) = ap (λ (b : Bool). nat_eq i p.0 || b) (has-numbers i ps)

-- the pieces of known blocks that were read are left of the pieces of all blocks
pub pieces-left : {first start end : ℕ} {known : Shards} {blocks : List Shard} {numbers : List ℕ}
    {ps : List (ℕ × Vec ℕ)} → AreKnown known first blocks numbers → AreRead first numbers start end known ps
    → AreLeft (pieces start end blocks) (items_of ps)
pieces-left {first = first} {start = start} {end = end} {known = known} {blocks = blocks} {ps = ps} whole read =
    let are = rw (← read.numbers_are) at whole in
    record {
      own = All-map (λ item. (item.0 < length (pieces start end blocks))
          × (shard_at (pieces start end blocks) item.0 ≡ item.1)) (λ (p : ℕ × Vec ℕ). (p.0, p.1.items)) ps (λ j d h.
          let p : ℕ × Vec ℕ = get_or ps j d in
          let long : j < length (map (λ (q : ℕ × Vec ℕ). q.0) ps) = (
          let n = length-map ps (λ (q : ℕ × Vec ℕ). q.0) in omega (arith, h, n)
          ) in
          let here = are.each j d.0 long in
          let at : get_or (map (λ (q : ℕ × Vec ℕ). q.0) ps) j d.0 ≡ p.0 =
          get_or-map (λ (q : ℕ × Vec ℕ). q.0) ps j d d.0 h in
          let inside : p.0 < length blocks = subst (λ (n : ℕ). n < length blocks) at here.0 in
          let is : known (first + p.0) ≡ Some (shard_at blocks p.0) =
          subst (λ (n : ℕ). known (first + n) ≡ Some (shard_at blocks n)) at here.1 in (
            (let n = length-map blocks (λ (s : Shard). between start end s) in omega (arith, inside, n)),
            shard_at-pieces start end p.0 blocks ∙ sym (read.each j d h (shard_at blocks p.0) is),
          ));
      once = subst (IsDistinct nat_eq) (sym (numbers_of ps)) are.once;
    }

-- a whole block is its first bytes
pub whole_block : {count size : ℕ} {blocks : List Shard} (i : ℕ) → AreShards count size blocks
    → take size (shard_at blocks i) ≡ shard_at blocks i
whole_block {size = size} {blocks = blocks} i are =
    take_all size (shard_at blocks i) (elim (cases_lt i (length blocks)) [
      | inl inside ↦ (let n = (are.each i [] inside).length_is in omega (arith, n))
      | inr past ↦ (let n = ap length (get_or_past blocks i [] past) in omega (arith, n))
    ])

module _ {shape : Shape} {plan : Plan} {known : Shards} {originals recovery : List Shard} {start end : ℕ}
    {ps qs : List (ℕ × Vec ℕ)} (held : ℕ → Shard) {next : ℕ → Shard} (strip : IsStrip start end shape.block_bytes)
    (set : ReadsSet shape plan known originals recovery)
    (read : AreRead 0 plan.originals.items start end known ps)
    (received : AreRead shape.original_count plan.recovery.items start end known qs)
    (back : PutsBack shape plan.wanted.items (items_of ps) (items_of qs) held next) where
  -- a requested block of which the first bytes were written gets its next piece
  pub block_more : (i : ℕ) → get_or plan.wanted.items i false ≡ true
      → (list_any (nat_eq i) plan.originals.items ≡ true) ⊎ (0 < length plan.recovery.items)
      → held i ≡ take start (shard_at originals i) → next i ≡ take end (shard_at originals i)
  block_more i is covered so_far =
      let k : ℕ = shape.original_count in
      let size : ℕ = shape.block_bytes in
      let left = pieces-left set.originals_known read in
      let got = pieces-left set.recovery_known received in
      let given : (has i (items_of ps) ≡ true) ⊎ (0 < length (items_of qs)) =
      elim covered [
        | inl own ↦ inl (sym (has-numbers i ps) ∙ ap (list_any (nat_eq i)) read.numbers_are ∙ own)
        | inr some ↦ inr (let n = ap length received.numbers_are in
            let m = length-map qs (λ (q : ℕ × Vec ℕ). q.0) in
            let view : ℕ × Vec ℕ → ℕ × Shard = λ q. (q.0, q.1.items) in
            let l = length-map qs view in omega (arith, n, m, l, some))
      ] in
      back (end - start) (pieces start end originals) (pieces start end recovery)
      (shards-cut strip set.shards)
      (recovery-cut strip set.shards set.coded)
      left got i is given
      ∙ ap (λ (s : Shard). s ++ shard_at (pieces start end originals) i) so_far
      ∙ ap (λ (p : Shard). take start (shard_at originals i) ++ p) (shard_at-pieces start end i originals)
      ∙ take-further start end (shard_at originals i) strip.order
