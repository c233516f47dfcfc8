-- Pieces of shards. Their columns are columns of the shards, so coding each piece codes the shards.
use Rattle.std.proofs.Common.{rules, ◌≡◌, ℕ, suc, ◌+◌, ◌-◌, ◌*◌, ◌/◌, ◌%◌, ◌<◌, ◌≤◌, List, [], ◌∷◌, ◌++◌, length, take}
use Rattle.std.proofs.Common.{drop, get_or, min, Bool, true, false, refl, sym, ap, ap₂, ◌∙◌, subst, inl, inr, arith}
use Rattle.std.proofs.Common.{All}
use Rattle.std.specs.List.{between}
use Rattle.std.proofs.lemmas.Bool.{cases_lt}
use Rattle.std.proofs.lemmas.List.{get_or-take, get_or-drop, get_or-map, get_or_default, length-take-le, length-drop}
use Rattle.std.proofs.lemmas.List.{length-map, length-append, take_all, take_at, drop_at}
use Rattle.std.proofs.lemmas.List.{append_assoc, ext_get_or as same_from}
use Rattle.std.proofs.lemmas.List.Elements.{All-map, All-append, All-nil}
use Rattle.rs_field.specs.code.Column.{Shard, AreShards, column, columns, chunk_words}
use Rattle.rs_field.specs.code.Configuration.{Configuration, configuration}
use Rattle.rs_field.specs.code.Counts.{Rate}
use Rattle.rs_field.specs.code.Code.{AreRecovery, AreRecoveryWords}
use Rattle.rs_field.proofs.code_lemmas.Columns.{column-at, column-chunk}
use Rattle.rs_field.specs.code.Pieces.{pieces, heads, IsStrip, AreCodedBelow, ArePut, room_length}

-- The columns of the first chunks of a shard are the first columns of the shard.
pub column-head : (a j : ℕ) (s : Shard) → a % 64 ≡ 0 → a ≤ length s → j < a / 2 → column j (take a s) ≡ column j s
column-head a j s whole room inside =
    let parts : j ≡ j / 32 * 32 + j % 32 = omega arith in
    let long : length (take a s) ≡ a = length-take-le a s room in
    ap (λ (c : ℕ). column c (take a s)) parts
    ∙ column-chunk (j / 32) (j % 32) (take a s) (omega arith) (omega (arith, long))
    ∙ ap₂ (λ (x y : ℕ). x + 256 * y) (get_or-take a s (j / 32 * 64 + j % 32) 0 (omega arith))
    (get_or-take a s (j / 32 * 64 + j % 32 + 32) 0 (omega arith))
    ∙ sym (column-chunk (j / 32) (j % 32) s (omega arith) (omega arith))
    ∙ ap (λ (c : ℕ). column c s) (sym parts)

-- A column of the part of a shard after its first chunks is a column of the shard.
pub column-rest : (a j : ℕ) (s : Shard) → a % 64 ≡ 0 → column j (drop a s) ≡ column (a / 2 + j) s
column-rest a j s whole =
    let parts : j ≡ j / 32 * 32 + j % 32 = omega arith in
    let place : (a / 64 + j / 32) * 32 + j % 32 ≡ a / 2 + j = omega arith in
    let low : a + (j / 32 * 64 + j % 32) ≡ (a / 64 + j / 32) * 64 + j % 32 = omega arith in
    let left : length (drop a s) ≡ length s - a = length-drop a s in
    let words : chunk_words (drop a s) (j / 32 * 64) ≡ chunk_words s ((a / 64 + j / 32) * 64) =
    ap (λ (n : ℕ). min 64 n / 2)
    (let e : length (drop a s) - j / 32 * 64 ≡ length s - (a / 64 + j / 32) * 64 = omega (arith, left) in e) in
    ap (λ (c : ℕ). column c (drop a s)) parts
    ∙ column-at (j / 32) (j % 32) (drop a s) (omega arith)
    ∙ ap₂ (λ (x y : ℕ). x + 256 * y)
    (get_or-drop a s (j / 32 * 64 + j % 32) 0 ∙ ap (λ (i : ℕ). get_or s i 0) low)
    (get_or-drop a s (j / 32 * 64 + j % 32 + chunk_words (drop a s) (j / 32 * 64)) 0
    ∙ ap (λ (i : ℕ). get_or s i 0)
    (let e : a + (j / 32 * 64 + j % 32 + chunk_words (drop a s) (j / 32 * 64))
    ≡ (a / 64 + j / 32) * 64 + j % 32 + chunk_words (drop a s) (j / 32 * 64) = omega arith in e)
    ∙ ap (λ (w : ℕ). get_or s ((a / 64 + j / 32) * 64 + j % 32 + w) 0) words)
    ∙ sym (column-at (a / 64 + j / 32) (j % 32) s (omega arith))
    ∙ ap (λ (c : ℕ). column c s) place

-- A column of a strip of a shard is a column of the shard.
pub column-piece : (start end j : ℕ) (s : Shard) → IsStrip start end (length s) → j < (end - start) / 2
    → column j (between start end s) ≡ column (start / 2 + j) s
column-piece start end j s strip inside = search (rules, length-drop, column-head, column-rest, take_all)

-- The columns of the strips of shards are columns of the shards.
pub columns-pieces : (start end j : ℕ) (xs : List Shard) → All (λ s. IsStrip start end (length s)) xs
    → j < (end - start) / 2 → columns j (pieces start end xs) ≡ columns (start / 2 + j) xs
columns-pieces start end j [] strips inside = refl
columns-pieces start end j (s ∷ xs) strips inside =
    ap₂ (λ (x : ℕ) (l : List ℕ). x ∷ l) (column-piece start end j s (strips 0 s (omega arith)) inside)
    (columns-pieces start end j xs (λ i d h. strips (suc i) d (omega (arith, h))) inside)

-- The columns of the heads of shards are columns of the shards.
pub columns-heads : (a j : ℕ) (xs : List Shard) → a % 64 ≡ 0 → All (λ s. a ≤ length s) xs → j < a / 2
    → columns j (heads a xs) ≡ columns j xs
columns-heads a j [] whole room inside = refl
columns-heads a j (s ∷ xs) whole room inside =
    ap₂ (λ (x : ℕ) (l : List ℕ). x ∷ l) (column-head a j s whole (room 0 s (omega arith)) inside)
    (columns-heads a j xs whole (λ i d h. room (suc i) d (omega (arith, h))) inside)

-- If the heads are unchanged and coded, and the strips after them are coded, then the heads and strips together are
-- coded.
pub coded-further : (rate : Rate) (k r start end : ℕ) (originals old new : List Shard)
    → All (λ s. IsStrip start end (length s)) originals
    → All (λ s. start ≤ length s) old → All (λ s. IsStrip start end (length s)) new → start % 64 ≡ 0
    → heads start new ≡ heads start old
    → AreCodedBelow rate k r start originals old
    → AreRecovery (configuration rate k r (end - start)) (pieces start end originals) (pieces start end new)
    → AreCodedBelow rate k r end originals new
coded-further rate k r start end originals old new own before after whole kept coded further j inside =
    elim (cases_lt j (start / 2)) [
      | inl low ↦
          let same : columns j old ≡ columns j new =
          sym (columns-heads start j old whole before low) ∙ sym (ap (columns j) kept)
          ∙ columns-heads start j new whole (λ i d h. (let s = after i d h in omega (arith, s.order, s.inside))) low in
          subst (λ (words : List ℕ). AreRecoveryWords rate k r (columns j originals) words) same (coded j low)
      | inr high ↦
          let here : j - start / 2 < (end - start) / 2 = omega (arith, high) in
          let place : start / 2 + (j - start / 2) ≡ j = omega (arith, high) in
          subst (λ (i : ℕ). AreRecoveryWords rate k r (columns i originals) (columns i new)) place
          (subst (λ (words : List ℕ). AreRecoveryWords rate k r words (columns (start / 2 + (j - start / 2)) new))
          (columns-pieces start end (j - start / 2) originals own here)
          (subst (λ (words : List ℕ).
          AreRecoveryWords rate k r (columns (j - start / 2) (pieces start end originals)) words)
          (columns-pieces start end (j - start / 2) new after here)
          (further.words (j - start / 2) here)))
    ]

-- If each byte is in a strip that is coded, the whole shards are coded.
pub strips-join : (c : Configuration) (message all : List Shard) → AreShards c.original_count c.shard_bytes message
    → AreShards c.recovery_count c.shard_bytes all
    → ((byte : ℕ) → byte < c.shard_bytes → (start : ℕ) × (end : ℕ) × IsStrip start end c.shard_bytes × (start ≤ byte)
    × (byte < end)
    × AreRecovery (configuration c.rate c.original_count c.recovery_count (end - start)) (pieces start end message)
    (pieces start end all))
    → AreRecovery c message all
strips-join c message all own made strips =
    record {
      shards = made;
      words = λ j inside.
          let found = strips (2 * j) (omega (arith, inside)) in
          let start : ℕ = found.0 in
          let end : ℕ = found.1 in
          let strip : IsStrip start end c.shard_bytes = found.2 in
          let after : start ≤ 2 * j = found.3 in
          let before : 2 * j < end = found.4 in
          let coded : AreRecovery (configuration c.rate c.original_count c.recovery_count (end - start))
          (pieces start end message) (pieces start end all) = found.5 in
          let whole : start % 64 ≡ 0 = strip.begins in
          let ends : j < end / 2 =
          elim strip.ends [ inl even ↦ omega (arith, even, before) | inr last ↦ omega (arith, last, inside) ] in
          let here : j - start / 2 < (end - start) / 2 = omega (arith, whole, after, ends) in
          let place : start / 2 + (j - start / 2) ≡ j = omega (arith, whole, after) in
          subst (λ (i : ℕ). AreRecoveryWords c.rate c.original_count c.recovery_count (columns i message)
          (columns i all)) place
          (subst (λ (words : List ℕ).
          AreRecoveryWords c.rate c.original_count c.recovery_count words
          (columns (start / 2 + (j - start / 2)) all))
          (columns-pieces start end (j - start / 2) message
          (λ i d h. subst (λ (n : ℕ). IsStrip start end n) (sym (own.each i d h).length_is) strip) here)
          (subst (λ (words : List ℕ).
          AreRecoveryWords c.rate c.original_count c.recovery_count
          (columns (j - start / 2) (pieces start end message)) words)
          (columns-pieces start end (j - start / 2) all
          (λ i d h. subst (λ (n : ℕ). IsStrip start end n) (sym (made.each i d h).length_is) strip) here)
          (coded.words (j - start / 2) here)));
    }

-- ---- rooms

-- A strip of a shard is a strip of a room with the length for the end of the strip.
pub room-strip : (grows : Bool) (start end size : ℕ) → IsStrip start end size
    → IsStrip start end (room_length grows end size)
room-strip true start end size strip =
    record { order = strip.order; inside = omega arith; begins = strip.begins; ends = inr refl }
room-strip false start end size strip = strip

-- After the last strip, a room is as long as its shard.
pub room-whole : (grows : Bool) (size : ℕ) → room_length grows size size ≡ size
room-whole true size = refl
room-whole false size = refl

-- The pieces of a strip were put into rooms of one length.
pub record AreStripPut (grows : Bool) (size start end : ℕ) (made old new : List Shard) : Type 0 where
  pub strip : IsStrip start end size
  pub put : ArePut start end made old new
  pub number : length made ≡ length old
  pub sized : All (λ s. length s ≡ end - start) made
  pub fit : All (λ s. length s ≡ room_length grows start size) old

module _ {grows : Bool} {size start end : ℕ} {made old new : List Shard}
    (p : AreStripPut grows size start end made old new) where
  -- Each room had the bytes before the piece.
  pub put-inside : All (λ s. start ≤ length s) old
  put-inside i d h = search rules

  at : (i : ℕ) → i < length old
      → get_or new i [] ≡ take start (get_or old i []) ++ (get_or made i [] ++ drop end (get_or old i []))
  at = p.put.1

  long : (i : ℕ) → i < length old → length (get_or made i []) ≡ end - start
  long i h = p.sized i [] (omega (arith, p.number, h))

  front : (i : ℕ) → i < length old → length (take start (get_or old i [])) ≡ start
  front i h = length-take-le start (get_or old i []) (put-inside i [] h)

  -- After a piece is put, each room ends at the end of the piece, or where it ended before.
  put-length : (i : ℕ) → i < length old → length (get_or new i []) ≡ end + (length (get_or old i []) - end)
  put-length i h = search (rules, length-drop, length-append)

  -- After a piece is put, each room has the length for the end of the strip.
  pub put-fit : All (λ s. length s ≡ room_length grows end size) new
  put-fit i d h = search (rules, get_or_default, put-length)

  -- The bytes before the piece are unchanged in each room.
  pub put-heads : heads start new ≡ heads start old
  put-heads =
      same_from [] (heads start new) (heads start old) (simp length-map p.put.0) (λ i h.
      let here : i < length old =
      (let n = length-map new (λ (s : Shard). take start s) in omega (arith, h, n, p.put.0)) in
      get_or-map (λ (s : Shard). take start s) new i [] [] (omega (arith, here, p.put.0))
      ∙ ap (take start) (at i here) ∙ take_at (take start (get_or old i [])) _ start (front i here)
      ∙ sym (get_or-map (λ (s : Shard). take start s) old i [] [] here))

  -- The pieces of the new rooms are the pieces that were put into them.
  pub put-pieces : pieces start end new ≡ made
  put-pieces =
      same_from [] (pieces start end new) made (simp length-map (p.put.0 ∙ sym p.number)) (λ i h.
      let here : i < length old =
      (let n = length-map new (λ (s : Shard). between start end s) in omega (arith, h, n, p.put.0)) in
      get_or-map (λ (s : Shard). between start end s) new i [] [] (omega (arith, here, p.put.0))
      ∙ ap (λ (s : Shard). take (end - start) (drop start s)) (at i here)
      ∙ ap (take (end - start)) (drop_at (take start (get_or old i [])) _ start (front i here))
      ∙ take_at (get_or made i []) _ (end - start) (long i here))

  -- If the bytes of the heads and of the pieces are below 256, the bytes of the longer heads are below 256.
  pub put-bytes : All (All (λ b. b < 256)) (heads start old) → All (All (λ b. b < 256)) made
      → All (All (λ b. b < 256)) (heads end new)
  put-bytes before bytes i d h =
      let here : i < length old =
      (let n = length-map new (λ (s : Shard). take end s) in omega (arith, h, n, p.put.0)) in
      let first = front i here in
      let piece = long i here in
      let head : All (λ b. b < 256) (take start (get_or old i [])) =
      subst (λ (s : Shard). All (λ b. b < 256) s) (get_or-map (λ (s : Shard). take start s) old i [] [] here)
      (before i [] (let n = length-map old (λ (s : Shard). take start s) in omega (arith, here, n))) in
      let both = length-append (take start (get_or old i [])) (get_or made i []) in
      subst (λ (s : Shard). All (λ b. b < 256) s)
      (sym (get_or-map (λ (s : Shard). take end s) new i [] d (omega (arith, here, p.put.0))
      ∙ ap (take end) (at i here
      ∙ sym (append_assoc (take start (get_or old i [])) (get_or made i []) (drop end (get_or old i []))))
      ∙ take_at (take start (get_or old i []) ++ get_or made i []) _ end
      (omega (arith, both, first, piece, p.strip.order))))
      (All-append (λ b. b < 256) (take start (get_or old i [])) (get_or made i []) head
      (bytes i [] (omega (arith, here, p.number))))

-- ---- the state when all bytes below a number are done

-- There are as many rooms as recovery shards, and they hold the first bytes of the recovery shards.
pub record IsDone (k r size end : ℕ) (grows : Bool) (rate : Rate) (originals rooms : List Shard) : Type 0 where
  pub number : length rooms ≡ r
  pub fit : All (λ s. length s ≡ room_length grows end size) rooms
  pub coded : AreCodedBelow rate k r end originals rooms
  pub bytes : All (All (λ b. b < 256)) (heads end rooms)

-- After one more strip is coded and put, the rooms hold the bytes up to the end of the strip.
pub done-further : {grows : Bool} {rate : Rate} {k r size start end : ℕ} {originals made old : List Shard}
    (new : List Shard) → IsStrip start end size → All (λ s. length s ≡ size) originals
    → IsDone k r size start grows rate originals old
    → AreRecovery (configuration rate k r (end - start)) (pieces start end originals) made
    → ArePut start end made old new
    → IsDone k r size end grows rate originals new
done-further {grows} {rate} {k} {r} {size} {start} {end} {originals} {made} {old} new strip sized done recovery put =
    let p : AreStripPut grows size start end made old new = record {
      strip = strip;
      put = put;
      number = recovery.shards.length_is ∙ sym done.number;
      sized = λ i d h. (recovery.shards.each i d h).length_is;
      fit = done.fit;
    } in
    record {
      number = put.0 ∙ done.number;
      fit = put-fit p;
      coded = coded-further rate k r start end originals old new
          (λ i d h. subst (λ (n : ℕ). IsStrip start end n) (sym (sized i d h)) strip)
          (put-inside p)
          (λ i d h. subst (λ (n : ℕ). IsStrip start end n) (sym (put-fit p i d h))
          (room-strip grows start end size strip))
          strip.begins (put-heads p) done.coded
          (subst (λ (l : List Shard). AreRecovery (configuration rate k r (end - start)) (pieces start end originals) l)
          (sym (put-pieces p)) recovery);
      bytes = put-bytes p done.bytes (λ i d h. (recovery.shards.each i d h).bytes);
    }

-- Before the first strip, the rooms satisfy `IsDone` for zero bytes.
pub done-none : {grows : Bool} {rate : Rate} {k r size : ℕ} {originals rooms : List Shard} → length rooms ≡ r
    → All (λ s. length s ≡ room_length grows 0 size) rooms
    → IsDone k r size 0 grows rate originals rooms
done-none {rooms} number fit =
    record {
      number = number;
      fit = fit;
      coded = λ j h. absurd (let no : ⊥ = omega (arith, h) in no);
      bytes = All-map (λ s. All (λ b. b < 256) s) (λ s. take 0 s) rooms (λ i d h. All-nil (λ b. b < 256));
    }

-- After the last strip, the rooms hold the recovery shards.
pub done-all : {grows : Bool} {rate : Rate} {k r size : ℕ} {originals rooms : List Shard}
    → IsDone k r size size grows rate originals rooms
    → AreRecovery (configuration rate k r size) originals rooms
done-all {grows} {size} {rooms} done =
    record {
      shards = record {
        length_is = done.number;
        each = λ i d h.
            let long : length (get_or rooms i d) ≡ size = done.fit i d h ∙ room-whole grows size in
            record {
              length_is = long;
              bytes = subst (λ (s : Shard). All (λ b. b < 256) s)
                  (get_or-map (λ (s : Shard). take size s) rooms i d d h
                  ∙ take_all size (get_or rooms i d) (omega (arith, long)))
                  (done.bytes i d (let n = length-map rooms (λ (s : Shard). take size s) in omega (arith, h, n)));
            };
      };
      words = done.coded;
    }

-- ---- pieces that are added

pub pieces-count : (start end : ℕ) (xs : List Shard) → length (pieces start end xs) ≡ length xs
pieces-count start end xs = length-map xs (λ (s : Shard). between start end s)

pub pieces-sized : (start end : ℕ) (xs : List Shard) → start ≤ end → All (λ s. end ≤ length s) xs
    → All (λ s. length s ≡ end - start) (pieces start end xs)
pieces-sized start end xs order inside =
    All-map (λ s. length s ≡ end - start) (λ s. between start end s) xs (λ i d h.
    let room = inside i d h in
    let left = length-drop start (get_or xs i d) in
    length-take-le (end - start) (drop start (get_or xs i d)) (omega (arith, left, room, order)))
