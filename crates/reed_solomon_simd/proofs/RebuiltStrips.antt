-- Reconstructing by strips: the bytes in the rooms after some strips, and the proof that the rooms hold the wanted
-- shards after all strips.
use Rattle.std.proofs.Common.{rules, ◌≡◌, ℕ, ◌+◌, ◌-◌, ◌<◌, ◌≤◌, Bool, List, [], ◌∷◌, ◌++◌, length, take, drop, get_or}
use Rattle.std.proofs.Common.{map, All, Ok, suc, true, cond, refl, sym, ap, ap₂, ◌∙◌, subst, arith}
use Rattle.std.proofs.lemmas.Grind.{common_steps}
use Rattle.std.specs.Prelude.{Option, Some, None, unwrap_or}
use Rattle.std.specs.List.{list_any, between}
use Rattle.std.proofs.lemmas.Bool.{lt-ltb}
use Rattle.std.proofs.Math.Seq.{take-add}
use Rattle.std.proofs.lemmas.List.{get_or-map, length-map, take_all, ext_get_or}
use Rattle.std.proofs.lemmas.List.Elements.{All-map}
use Rattle.rs_field.specs.code.Code.{AreRecovery}
use Rattle.rs_field.specs.code.Column.{Shard, shard_at}
use Rattle.rs_field.specs.code.Counts.{default_rate}
use Rattle.rs_field.specs.code.Decoder.{DecoderState, IsDecoder, IsAgreeing, enough_given, missing_of, Restored}
use Rattle.rs_field.specs.code.Given.{Shards}
use Rattle.rs_field.specs.code.Pieces.{pieces, IsStrip, ArePut, room_length}
use Rattle.rs_field.specs.code.PieceStates.{state_of_pieces}
use Rattle.rs_field.proofs.code_lemmas.Agreement.{one_message}
use Rattle.rs_field.proofs.code_lemmas.Pieces.{AreStripPut, put-inside, put-fit, room-whole}
use Rattle.rs_field.proofs.code_lemmas.PieceStates.{shard_at-pieces, agrees-cut, recovery-cut, AreConsistentBelow}
use Rattle.rs_field.proofs.code_lemmas.Unique.{recovery_unique}
use Rattle.rs_field.proofs.words_lemmas.UpTo.{up_to-is}
use Rattle.rs_rate.proofs.rows_lemmas.DecoderRows.{enough-least}
use Rattle.rs_rate.proofs.rows_lemmas.StateLemmas.{valid-supported}
use Rattle.reed_solomon_simd.specs.declared.shard_index.ShardIndex.{ShardIndex}
use Rattle.reed_solomon_simd.specs.declared.shard_index.ShardIndex.TheVariants.{Original, Recovery}
use Rattle.reed_solomon_simd.specs.Reconstructed.{AreReconstructed, CanBeRebuilt, lent_at}
use Rattle.reed_solomon_simd.specs.Rounds.{first_of, own_piece, own_message}
use Rattle.reed_solomon_simd.specs.ShardNames.{shard_named, is_recovery}
use Rattle.reed_solomon_simd.proofs.ConsistentStrips.{checked-further, checked-all, even-strip, few-originals}
use Rattle.reed_solomon_simd.proofs.SetUp.{valid-even}

-- The wanted shards of a codeword.
abbrev pub named_shards : List Shard → List Shard → List ShardIndex → List Shard
named_shards message recovery wanted = map (shard_named message recovery) wanted

-- A named piece is the piece of the named shard.
named-pieces : (start end : ℕ) (message recovery : List Shard) (wanted : List ShardIndex)
    → named_shards (pieces start end message) (pieces start end recovery) wanted
    ≡ pieces start end (named_shards message recovery wanted)
named-pieces start end message recovery [] = refl
named-pieces start end message recovery (Original i ∷ wanted) =
    ap₂ (λ (x : Shard) (l : List Shard). x ∷ l) (shard_at-pieces start end i message)
    (named-pieces start end message recovery wanted)
named-pieces start end message recovery (Recovery i ∷ wanted) =
    ap₂ (λ (x : Shard) (l : List Shard). x ∷ l) (shard_at-pieces start end i recovery)
    (named-pieces start end message recovery wanted)

-- The wanted shards of a message that agrees have the shard size.
pub named-sized : (s : DecoderState) (message : List Shard) (agrees : IsAgreeing s message) (wanted : List ShardIndex)
    → All (CanBeRebuilt s) wanted
    → All (λ x. length x ≡ s.configuration.shard_bytes) (named_shards message agrees.coded.0 wanted)
named-sized s message agrees wanted can =
    All-map (λ x. length x ≡ s.configuration.shard_bytes) (shard_named message agrees.coded.0) wanted
    (λ i d h. by_kind (get_or wanted i d) (can i d h))
  where
    by_kind : (w : ShardIndex) → CanBeRebuilt s w
        → length (shard_named message agrees.coded.0 w) ≡ s.configuration.shard_bytes
    by_kind (Original i) can =
        (agrees.shards.each i [] (let n = agrees.shards.length_is in omega (arith, n, can.0))).length_is
    by_kind (Recovery i) can =
        let all = agrees.coded.1.shards in
        (all.each i [] (let n = all.length_is in omega (arith, n, can.0))).length_is

-- Reconstructed shards have the shard size.
pub reconstructed-sized : (s : DecoderState) (wanted : List ShardIndex) (shards : List Shard)
    → AreReconstructed s wanted shards → All (CanBeRebuilt s) wanted
    → All (λ x. length x ≡ s.configuration.shard_bytes) shards
reconstructed-sized s wanted shards are can =
    subst (λ (l : List Shard). All (λ x. length x ≡ s.configuration.shard_bytes) l) (sym are.named)
    (named-sized s are.message are.agrees wanted can)

-- A shard that can be rebuilt from received shards can be rebuilt from their pieces.
pub can-pieces : (s : DecoderState) (start end : ℕ) (wanted : List ShardIndex) → All (CanBeRebuilt s) wanted
    → All (CanBeRebuilt (state_of_pieces start end s)) wanted
can-pieces s start end wanted can i d h = search rules

-- The strips below a byte are rebuilt: their pieces are consistent, and each room holds the first bytes of the wanted
-- shard of each message that agrees.
pub record IsRebuiltBelow (s : DecoderState) (wanted : List ShardIndex) (grows : Bool) (bound : ℕ) (rooms : List Shard)
    : Type 0 where
  pub checked : AreConsistentBelow s bound
  pub number : length rooms ≡ length wanted
  pub fit : All (λ room. length room ≡ room_length grows bound s.configuration.shard_bytes) rooms
  pub held : (message : List Shard) (agrees : IsAgreeing s message) (i : ℕ) → i < length rooms
      → take bound (get_or rooms i []) ≡ take bound (get_or (named_shards message agrees.coded.0 wanted) i [])

-- Joining a piece to the first bytes of a shard gives more first bytes.
take-joined : (start : ℕ) (old piece rest : Shard) → start ≤ length old
    → take (start + length piece) (take start old ++ (piece ++ rest)) ≡ take start old ++ piece
take-joined start old piece rest inside = grind (arith, common_steps)

module _ (s : DecoderState) (is : IsDecoder default_rate s) (wanted : List ShardIndex)
    (can : All (CanBeRebuilt s) wanted) (grows : Bool) (start end : ℕ)
    (strip : IsStrip start end s.configuration.shard_bytes) (made : List Shard)
    (rebuilt : AreReconstructed (state_of_pieces start end s) wanted made) where
  -- The rebuilt pieces are the pieces of the wanted shards of each message that agrees.
  made-cut : (message : List Shard) (agrees : IsAgreeing s message)
      → made ≡ pieces start end (named_shards message agrees.coded.0 wanted)
  made-cut message agrees =
      let c = s.configuration in
      let cut = agrees-cut strip agrees in
      let coded = recovery-cut strip agrees.shards agrees.coded.1 in
      let same : pieces start end message ≡ rebuilt.message = rebuilt.only (pieces start end message) cut in
      let recovered : AreRecovery (state_of_pieces start end s).configuration rebuilt.message
      (pieces start end agrees.coded.0) =
      subst (λ (m : List Shard). AreRecovery (state_of_pieces start end s).configuration m
      (pieces start end agrees.coded.0)) same coded in
      let all = recovery_unique (few-originals s is) (even-strip s is start end strip) rebuilt.agrees.coded.1
      recovered in
      rebuilt.named
      ∙ ap₂ (λ (m r : List Shard). named_shards m r wanted) (sym same) all
      ∙ named-pieces start end message agrees.coded.0 wanted

  made-number : length made ≡ length wanted
  made-number =
      ap length rebuilt.named ∙ length-map wanted (shard_named rebuilt.message rebuilt.agrees.coded.0)

  made-sized : All (λ x. length x ≡ end - start) made
  made-sized = reconstructed-sized (state_of_pieces start end s) wanted made rebuilt (can-pieces s start end wanted can)

  -- After the rebuilt pieces are put into the rooms, one more strip is rebuilt.
  pub rebuilt-further : (old new : List Shard) → ArePut start end made old new
      → IsRebuiltBelow s wanted grows start old → IsRebuiltBelow s wanted grows end new
  rebuilt-further old new put before =
      let p : AreStripPut grows s.configuration.shard_bytes start end made old new = record {
        strip = strip;
        put = put;
        number = made-number ∙ sym before.number;
        sized = made-sized;
        fit = before.fit;
      } in
      let ends : (i : ℕ) → i < length old → start + length (get_or made i []) ≡ end = (λ i h.
      let piece = made-sized i [] (omega (arith, p.number, h)) in omega (arith, piece, strip.order)) in
      record {
        checked = checked-further s start end strip (rebuilt.message, rebuilt.agrees) before.checked;
        number = put.0 ∙ before.number;
        fit = put-fit p;
        held = λ message agrees i h.
            let here : i < length old = omega (arith, h, put.0) in
            let named : List Shard = named_shards message agrees.coded.0 wanted in
            let long = length-map wanted (shard_named message agrees.coded.0) in
            let cut : get_or made i []
            ≡ between start end (get_or (named_shards message agrees.coded.0 wanted) i []) =
            ap (λ (l : List Shard). get_or l i []) (made-cut message agrees)
            ∙ get_or-map (λ x. between start end x) named i [] [] (omega (arith, here, before.number, long)) in
            ap₂ (λ (n : ℕ) (x : Shard). take n x) (sym (ends i here)) (put.1 i here)
            ∙ take-joined start (get_or old i []) (get_or made i []) (drop end (get_or old i []))
            (put-inside p i [] here)
            ∙ ap₂ (λ (a b : Shard). a ++ b) (before.held message agrees i here) cut
            ∙ sym (take-add start (end - start) (get_or named i []))
            ∙ ap (λ (n : ℕ). take n (get_or (named_shards message agrees.coded.0 wanted) i []))
            (let e : start + (end - start) ≡ end = omega (arith, strip.order) in e);
      }

-- After all strips are rebuilt, the rooms hold the wanted shards.
pub rebuilt-all : (s : DecoderState) (wanted : List ShardIndex) (grows : Bool) (rooms : List Shard)
    → IsDecoder default_rate s → enough_given s ≡ Ok tt → All (CanBeRebuilt s) wanted
    → IsRebuiltBelow s wanted grows s.configuration.shard_bytes rooms → AreReconstructed s wanted rooms
rebuilt-all s wanted grows rooms is enough can done =
    let c = s.configuration in
    let (message, agrees) = checked-all s is done.checked in
    let sized = named-sized s message agrees wanted can in
    let long = length-map wanted (shard_named message agrees.coded.0) in
    record {
      message = message;
      agrees = agrees;
      only = λ other also. one_message (valid-supported c is.valid)
          (valid-even c is.valid) (enough-least s (sym enough)) also agrees;
      named = ext_get_or [] rooms (named_shards message agrees.coded.0 wanted) (omega (arith, long, done.number))
          (λ i h.
          let same = sized i [] (omega (arith, long, done.number, h)) in
          let room = done.fit i [] h ∙ room-whole grows c.shard_bytes in
          sym (take_all c.shard_bytes (get_or rooms i []) (omega (arith, room))) ∙ done.held message agrees i h
          ∙ take_all c.shard_bytes (get_or (named_shards message agrees.coded.0 wanted) i []) (omega (arith, same)));
    }

-- ---- a strip

-- The missing original of a message with an index is original i of the message.
pub missing-there : (s : DecoderState) (message : List Shard) (i : ℕ) → i < s.configuration.original_count
    → s.originals i ≡ None → missing_of s message i ≡ Some (shard_at message i)
unfolding missing_of
missing-there s message i inside none = search rules

-- Each restored original is the original of each message that agrees.
pub restored-there : (s : DecoderState) (out : Shards) (message : List Shard) (i : ℕ) → Restored s out
    → IsAgreeing s message → i < s.configuration.original_count → s.originals i ≡ None
    → out i ≡ Some (shard_at message i)
restored-there s out message i restored agrees inside none = search (rules, missing-there)

-- If some originals were received and the others were restored, they are each message that agrees.
pub own-agreeing : (s : DecoderState) (out : Shards) (message : List Shard) → Restored s out → IsAgreeing s message
    → own_message s out ≡ message
own-agreeing s out message restored agrees =
    up_to-is [] s.configuration.original_count (λ i. unwrap_or (own_piece s out i) []) message agrees.shards.length_is
    (λ i inside. by_case i inside (s.originals i) refl)
  where
    by_case : (i : ℕ) → i < s.configuration.original_count → (o : Option Shard) → s.originals i ≡ o
        → unwrap_or (own_piece s out i) [] ≡ get_or message i []
    by_case i inside (Some shard) found =
        ap (λ p. unwrap_or (first_of p (out i)) []) found ∙ sym (agrees.own i shard found)
    by_case i inside None none =
        ap₂ (λ p q. unwrap_or (first_of p q) []) none (restored-there s out message i restored agrees inside none)

-- The wanted shards among the restored originals and the encoded recovery shards are those of the codeword.
module _ (s : DecoderState) (out : Shards) (encoded message : List Shard) (agrees : IsAgreeing s message)
    (restored : Restored s out) where
  pub lent-named : (wanted : List ShardIndex) → All (CanBeRebuilt s) wanted
      → (list_any is_recovery wanted ≡ true → encoded ≡ agrees.coded.0)
      → map (lent_at out encoded) wanted ≡ map (λ x. Some x) (named_shards message agrees.coded.0 wanted)
  lent-named [] can coded = refl
  lent-named (Original i ∷ wanted) can coded =
      let here : (i < s.configuration.original_count) × (s.originals i ≡ None) = can 0 (Original i) (omega arith) in
      ap₂ (λ (x : Option Shard) (l : List (Option Shard)). x ∷ l)
      (restored-there s out message i restored agrees here.0 here.1)
      (lent-named wanted (λ k d h. can (suc k) d (omega (arith, h))) coded)
  lent-named (Recovery i ∷ wanted) can coded =
      let here : (i < s.configuration.recovery_count) × (s.recovery i ≡ None) = can 0 (Recovery i) (omega arith) in
      let same = coded refl in
      let long : length encoded ≡ s.configuration.recovery_count =
      ap length same ∙ agrees.coded.1.shards.length_is in
      ap₂ (λ (x : Option Shard) (l : List (Option Shard)). x ∷ l)
      (ap (λ (b : Bool). cond b (Some (get_or encoded i [])) None)
      (lt-ltb i (length encoded) (omega (arith, here.0, long)))
      ∙ ap (λ (l : List Shard). Some (get_or l i [])) same)
      (lent-named wanted (λ k d h. can (suc k) d (omega (arith, h))) (λ _. same))

-- Each listed piece is there.
pub piece-there : (out : Shards) (encoded : List Shard) (wanted : List ShardIndex) (made : List Shard) (i : ℕ)
    (d : ShardIndex) → map (lent_at out encoded) wanted ≡ map (λ x. Some x) made → i < length wanted
    → (lent_at out encoded (get_or wanted i d) ≡ Some (get_or made i [])) × (length made ≡ length wanted)
piece-there out encoded wanted made i d listed inside =
    let own = length-map wanted (lent_at out encoded) in
    let other = length-map made (λ (x : Shard). Some x) in
    let both = ap length listed in
    let same : length made ≡ length wanted = omega (arith, own, other, both) in (
      sym (get_or-map (lent_at out encoded) wanted i d None inside) ∙ ap (λ l. get_or l i None) listed
          ∙ get_or-map (λ (x : Shard). Some x) made i [] None (omega (arith, same, inside)),
      same,
    )

-- Lists of shards that are equal as lists of optional shards are equal.
pub some-same : (xs ys : List Shard) → map (λ x. Some x) xs ≡ map (λ x. Some x) ys → xs ≡ ys
some-same [] [] same = refl
some-same [] (y ∷ ys) same = absurd (let no : ⊥ = cc in no)
some-same (x ∷ xs) [] same = absurd (let no : ⊥ = cc in no)
some-same (x ∷ xs) (y ∷ ys) same =
    let first : x ≡ y = cc in
    let rest : map (λ x. Some x) xs ≡ map (λ x. Some x) ys = cc in
    ap₂ (λ (z : Shard) (l : List Shard). z ∷ l) first (some-same xs ys rest)
