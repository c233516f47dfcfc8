-- Shards whose whole chunks are changed in place.
use Rattle.std.proofs.Common.{◌≡◌, ℕ, ◌+◌, ◌-◌, ◌*◌, ◌/◌, ◌%◌, ◌<◌, ◌≤◌, ◌⊎◌, All, List, [], length, drop, get_or}
use Rattle.std.proofs.Common.{MutBor, bit_xor, refl, sym, ap, ap₂, subst, ◌∙◌, inl, inr, arith}
use Rattle.std.proofs.lemmas.List.{get_or-map, length-map}
use Rattle.std.specs.List.{between}
use Rattle.std.specs.Simd.{first_chunks}
use Rattle.rs_field.specs.code.Column.{Shard, column, shard_at}
use Rattle.rs_field.specs.code.Pieces.{IsStrip}
use Rattle.rs_field.specs.rows.Rows.{byte_symbol, chunk, symbol}
use Rattle.rs_field.specs.words.Field.{product, power}
use Rattle.rs_field.specs.words.Tables.{times_factor}
use Rattle.rs_field.proofs.code_lemmas.Columns.{column-chunk}
use Rattle.rs_field.proofs.code_lemmas.Pieces.{column-piece}
use Rattle.rs_field.proofs.rows_lemmas.LayoutLemmas.{symbol_of_chunk}
use Rattle.rs_rate.proofs.passes_lemmas.SumLemmas.{times_known}
use Rattle.reed_solomon_simd.specs.Rooms.{bytes_in, rests}
use Rattle.reed_solomon_simd.specs.Updated.{IsChanged, IsChangedStrip}
use Rattle.reed_solomon_simd.proofs.UpdateLemmas.{IsChangedBelow, changed-more}

-- The columns of the whole chunks of a shard are their symbols.
column-symbol : (j : ℕ) (s : Shard) → j / 32 * 64 + 64 ≤ length s → column j s ≡ byte_symbol s (j / 32) (j % 32)
column-symbol j s fits =
    let place : j ≡ j / 32 * 32 + j % 32 = omega arith in
    ap (λ (c : ℕ). column c s) place
    ∙ column-chunk (j / 32) (j % 32) s (omega arith) fits
    ∙ ap (λ (i : ℕ). get_or s (j / 32 * 64 + j % 32) 0 + 256 * get_or s i 0)
    (let e : j / 32 * 64 + j % 32 + 32 ≡ j / 32 * 64 + (j % 32 + 32) = omega arith in e)

-- The columns of the first chunks of a shard.
head-column : (n j : ℕ) (s : Shard) → n * 64 ≤ length s → j < (n * 64 - 0) / 2
    → column j (between 0 (n * 64) s) ≡ column j s
head-column n j s within inside =
    let strip : IsStrip 0 (n * 64) (length s) =
    record { order = omega arith; inside = within; begins = refl; ends = inl (omega arith) } in
    column-piece 0 (n * 64) j s strip inside ∙ ap (λ (c : ℕ). column c s) (let e : 0 / 2 + j ≡ j = omega arith in e)

-- If a change is added to each symbol of the first chunks, the strip of these chunks is changed.
pub chunks-changed : (n : ℕ) (old new : Shard) (log : ℕ) (before after : Shard) → log < 65535
    → n * 64 ≤ length old → length new ≡ length old → length before ≡ length old → length after ≡ length before
    → All (λ b. b < 256) after → drop (n * 64) after ≡ drop (n * 64) before
    → ((k s : ℕ) → k < n → s < 32 → byte_symbol after k s
    ≡ bit_xor (byte_symbol before k s) (times_factor log
    (bit_xor (symbol (chunk (first_chunks 64 n old) k) s) (symbol (chunk (first_chunks 64 n new) k) s))))
    → IsChangedStrip 0 (n * 64) old new log before after
chunks-changed n old new log before after small within same sized long bytes rest sums = record {
  length_is = long;
  bytes = bytes;
  first = refl;
  rest = rest;
  words = λ j inside.
      let few : j / 32 < n = omega (arith, inside) in
      head-column n j after (omega (arith, within, sized, long)) inside
      ∙ column-symbol j after (omega (arith, within, sized, long, few))
      ∙ sums (j / 32) (j % 32) few (omega arith)
      ∙ ap₂ bit_xor
      (sym (column-symbol j before (omega (arith, within, sized, few)))
      ∙ sym (head-column n j before (omega (arith, within, sized)) inside))
      (times_known log _ small
      ∙ ap₂ (λ (x y : ℕ). product (bit_xor x y) (power log))
      (symbol_of_chunk n j old few within ∙ sym (head-column n j old within inside))
      (symbol_of_chunk n j new few (omega (arith, within, same))
      ∙ sym (head-column n j new (omega (arith, within, same)) inside)));
}

-- ---- rooms

-- The length of a room, and its bytes after the first n chunks.
pub rest-at : (n : ℕ) (now before : List (MutBor (List ℕ))) (i : ℕ) → rests n now ≡ rests n before → i < length before
    → (length (shard_at (bytes_in now) i) ≡ length (shard_at (bytes_in before) i))
    × (drop (n * 64) (shard_at (bytes_in now) i) ≡ drop (n * 64) (shard_at (bytes_in before) i))
rest-at n now before i same inside = (
  ap length (sym (held now within)) ∙ ap (λ (p : ℕ × List ℕ). p.0) pairs ∙ ap length (held before inside),
  ap (drop (n * 64)) (sym (held now within)) ∙ ap (λ (p : ℕ × List ℕ). p.1) pairs
      ∙ ap (drop (n * 64)) (held before inside),
)
  where
    d : MutBor (List ℕ)
    d = record { ref_ptr = (0, 0); ghost_name = 0; now = [] }

    both : MutBor (List ℕ) → ℕ × List ℕ
    both room = (length room.now, drop (n * 64) room.now)

    within : i < length now
    within =
        let count : length now ≡ length before =
        sym (length-map now both) ∙ ap length same ∙ length-map before both in
        omega (arith, count, inside)

    held : (rooms : List (MutBor (List ℕ))) → i < length rooms → (get_or rooms i d).now ≡ shard_at (bytes_in rooms) i
    held rooms h = sym (get_or-map (λ room. room.now) rooms i d [] h)

    pairs : both (get_or now i d) ≡ both (get_or before i d)
    pairs =
        sym (get_or-map both now i d (0, []) within) ∙ ap (λ xs. get_or xs i (0, [])) same
        ∙ get_or-map both before i d (0, []) inside

-- A shard is changed if its whole chunks are, and then its tail. A part without bytes stays as it is.
pub all-changed : (old new : Shard) (log : ℕ) (before mid after : Shard) → 0 < length old
    → length before ≡ length old → length new ≡ length old
    → ((length old / 64 * 64 ≡ 0) × (mid ≡ before)) ⊎ IsChangedStrip 0 (length old / 64 * 64) old new log before mid
    → ((length old / 64 * 64 ≡ length old) × (after ≡ mid))
    ⊎ IsChangedStrip (length old / 64 * 64) (length old) old new log mid after
    → IsChanged old new log before after
all-changed old new log before mid after some sized same chunks tail = record {
  length_is = whole.length_is;
  bytes = elim whole.bytes [
    | inl none ↦ let no : ⊥ = omega (arith, none, some) in elim no [ ]
    | inr all ↦ all
  ];
  words = λ j inside. whole.below j (omega (arith, inside, sized));
}
  where
    end : ℕ
    end = length old / 64 * 64

    none : IsChangedBelow 0 old new log before before
    none = record {
      length_is = refl;
      bytes = inl refl;
      begins = inl refl;
      below = λ j inside. let no : ⊥ = omega (arith, inside) in elim no [ ];
      above = refl;
    }

    front : IsChangedBelow (length old / 64 * 64) old new log before mid
    front = elim chunks [
      | inl stays ↦
          subst (λ n. IsChangedBelow n old new log before mid) (sym stays.0)
          (subst (IsChangedBelow 0 old new log before) (sym stays.1) none)
      | inr strip ↦
          changed-more 0 end old new log before before mid none
          (record { order = omega arith; inside = omega (arith, sized); begins = refl; ends = inl (omega arith) })
          (sym sized) (same ∙ sym sized) strip
    ]

    whole : IsChangedBelow (length old) old new log before after
    whole = elim tail [
      | inl stays ↦
          subst (λ n. IsChangedBelow n old new log before after) stays.0
          (subst (IsChangedBelow end old new log before) (sym stays.1) front)
      | inr strip ↦
          changed-more end (length old) old new log before mid after front
          (record { order = omega arith; inside = omega (arith, sized); begins = omega arith; ends = inr (sym sized) })
          (sym sized) (same ∙ sym sized) strip
    ]
