-- Facts about a message and given shards hold for their pieces. This is the half of a decode by strips in which no
-- strips are joined.
use Rattle.std.proofs.Common.{rules, ◌≡◌, ℕ, ◌+◌, ◌-◌, ◌/◌, ◌%◌, ◌<◌, ◌≤◌, List, drop, get_or, refl, sym, ap, ◌∙◌}
use Rattle.std.proofs.Common.{subst, arith}
use Rattle.std.specs.Prelude.{Option, Some, None, is_some, unwrap_or}
use Rattle.std.specs.List.{between}
use Rattle.std.specs.Option.{option_map}
use Rattle.std.proofs.lemmas.List.{get_or-map, get_or_past, length-map, length-drop, length-take-le}
use Rattle.std.proofs.lemmas.List.Elements.{All-map, All-take, All-drop}
use Rattle.rs_field.specs.code.Column.{Shard, IsShard, AreShards, shard_at, column, columns}
use Rattle.rs_field.specs.code.Configuration.{Configuration}
use Rattle.rs_field.specs.code.Code.{AreRecovery, AreRecoveryWords}
use Rattle.rs_field.specs.code.Decoder.{DecoderState, IsConsistent}
use Rattle.rs_field.specs.code.Given.{Shards, Agrees}
use Rattle.rs_field.proofs.code_lemmas.AgreeingMessages.{column_taken, consistent}
use Rattle.rs_field.proofs.code_lemmas.DecodedColumn.{IsTaken}
use Rattle.rs_field.proofs.code_lemmas.GivenRows.{AreGiven}
use Rattle.rs_field.specs.code.Pieces.{pieces, IsStrip}
use Rattle.rs_field.specs.code.PieceStates.{pieces_of, state_of_pieces}
use Rattle.rs_field.proofs.code_lemmas.Pieces.{column-piece, columns-pieces}

module _ (start end : ℕ) where
  -- Piece i of a list of shards is a piece of shard i.
  pub shard_at-pieces : (i : ℕ) (xs : List Shard) → shard_at (pieces start end xs) i ≡ between start end (shard_at xs i)
  shard_at-pieces i xs = search (rules, length-map, get_or-map, get_or_past)

  -- Each piece in a map is a piece of a shard in the map.
  whole_of : (o : Option Shard) (p : Shard) → option_map (λ s. between start end s) o ≡ Some p → (s : Shard)
      × (o ≡ Some s) × (between start end s ≡ p)
  whole_of (Some s) p is = (s, refl, ap (λ o. unwrap_or o p) is)
  whole_of None p is = absurd (let no : ⊥ = cc in no)

  pub is_some-map : (o : Option Shard) → is_some (option_map (λ s. between start end s) o) ≡ is_some o
  is_some-map (Some s) = refl
  is_some-map None = refl

-- ---- strips

module _ {start end : ℕ} where
  -- Pieces of shards are shards.
  pub shards-cut : {count size : ℕ} {xs : List Shard} → IsStrip start end size → AreShards count size xs
      → AreShards count (end - start) (pieces start end xs)
  shards-cut {xs} strip are =
      record {
        length_is = length-map xs (λ (s : Shard). between start end s) ∙ are.length_is;
        each = All-map (IsShard (end - start)) (λ s. between start end s) xs (λ i d h.
            let s = are.each i d h in
            let left = length-drop start (get_or xs i d) in
            record {
              length_is = length-take-le (end - start) (drop start (get_or xs i d))
                  (omega (arith, left, s.length_is, strip.inside));
              bytes = All-take (λ b. b < 256) (end - start) (drop start (get_or xs i d))
                  (All-drop (λ b. b < 256) start (get_or xs i d) s.bytes);
            });
      }

  -- The pieces of recovery shards are the recovery shards of the message's pieces.
  pub recovery-cut : {c : Configuration} {message all : List Shard} → IsStrip start end c.shard_bytes
      → AreShards c.original_count c.shard_bytes message
      → AreRecovery c message all
      → AreRecovery (record c { shard_bytes = end - start }) (pieces start end message) (pieces start end all)
  recovery-cut {c} {message} {all} strip are coded =
      record {
        shards = shards-cut strip coded.shards;
        words = λ j inside.
            subst (λ words. AreRecoveryWords c.rate c.original_count c.recovery_count words
            (columns j (pieces start end all)))
            (sym (columns-pieces start end j message
            (λ i d h. subst (λ (n : ℕ). IsStrip start end n) (sym (are.each i d h).length_is) strip) inside))
            (subst (AreRecoveryWords c.rate c.original_count c.recovery_count (columns (start / 2 + j) message))
            (sym (columns-pieces start end j all
            (λ i d h. subst (λ (n : ℕ). IsStrip start end n) (sym (coded.shards.each i d h).length_is) strip)
            inside))
            (coded.words (start / 2 + j) (omega (arith, inside, strip.order, strip.inside, strip.begins))));
      }

  -- If a message agrees with shards, its pieces agree with the pieces of the shards.
  pub agrees-cut : {c : Configuration} {originals recovery : Shards} {message : List Shard}
      → IsStrip start end c.shard_bytes → Agrees c originals recovery message
      → Agrees (record c { shard_bytes = end - start }) (pieces_of start end originals) (pieces_of start end recovery)
      (pieces start end message)
  agrees-cut {originals} {recovery} {message} strip agrees =
      record {
        shards = shards-cut strip agrees.shards;
        own = λ i p is.
            let s = whole_of start end (originals i) p is in
            shard_at-pieces start end i message ∙ ap (λ (x : Shard). between start end x) (agrees.own i s.0 s.1) ∙ s.2;
        coded = (
          pieces start end agrees.coded.0,
          recovery-cut strip agrees.shards agrees.coded.1,
          λ i p is.
              let s = whole_of start end (recovery i) p is in
              shard_at-pieces start end i agrees.coded.0
              ∙ ap (λ (x : Shard). between start end x) (agrees.coded.2 i s.0 s.1) ∙ s.2,
        );
      }

  -- If the pieces of a strip are consistent, a polynomial has the words of the given shards in each column of the
  -- strip.
  pub taken-whole : {s : DecoderState} (g : AreGiven s) (j : ℕ) → IsStrip start end s.configuration.shard_bytes
      → j < (end - start) / 2 → IsConsistent (state_of_pieces start end s)
      → (p : List ℕ) × IsTaken s (start / 2 + j) p
  taken-whole {s} g j strip inside (message, agrees) =
      let (p, codes, takes) = column_taken (state_of_pieces start end s) j inside agrees in (
        p,
        (
          columns j message,
          codes,
          record {
            own = λ i shard hi is.
                takes.own i (between start end shard) hi (ap (option_map (λ s. between start end s)) is)
                ∙ at_piece shard (g.own_sized.each i shard is).1;
            coded = λ i shard hi is.
                takes.coded i (between start end shard) hi (ap (option_map (λ s. between start end s)) is)
                ∙ at_piece shard (g.coded_sized.each i shard is).1;
          },
        ),
      )
    where
      at_piece : (shard : Shard) → IsShard s.configuration.shard_bytes shard
          → column j (between start end shard) ≡ column (start / 2 + j) shard
      at_piece shard is =
          column-piece start end j shard (subst (λ (n : ℕ). IsStrip start end n) (sym is.length_is) strip) inside

-- Each of the first columns is in a strip whose pieces are consistent.
abbrev pub AreConsistentBelow : DecoderState → ℕ → Type 0
AreConsistentBelow s bound =
    (j : ℕ) → j < bound / 2 → (start end : ℕ) × IsStrip start end s.configuration.shard_bytes × (start / 2 ≤ j)
    × (j < end / 2) × IsConsistent (state_of_pieces start end s)

-- If each column is in a strip whose pieces are consistent, the shards are consistent.
pub consistent-whole : {s : DecoderState} → AreGiven s → s.configuration.shard_bytes % 2 ≡ 0
    → AreConsistentBelow s s.configuration.shard_bytes → IsConsistent s
consistent-whole {s} g even each =
    consistent g even (λ j inside.
    let (start, end, strip, from, to, pieces_agree) = each j inside in
    let place : start / 2 + (j - start / 2) ≡ j = omega (arith, from) in
    let here : j - start / 2 < (end - start) / 2 = omega (arith, from, to, strip.begins, strip.order) in
    subst (λ (i : ℕ). (p : List ℕ) × IsTaken s i p) place
    (taken-whole g (j - start / 2) strip here pieces_agree))
