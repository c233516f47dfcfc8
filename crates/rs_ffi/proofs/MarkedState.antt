-- Lemmas about the state of a decoder to which the marked shards of two buffers were added.
use Rattle.std.proofs.Common.{rules, ◌≡◌, ℕ, zero, suc, ◌+◌, ◌*◌, ◌<◌, ◌≤◌, ◌==◌, Bool, true, false, not, cond, List}
use Rattle.std.proofs.Common.{[], ◌∷◌, ◌++◌, length, map, take, drop, get_or, All, Result, Ok, Err, Some, None, refl}
use Rattle.std.proofs.Common.{sym, ap, ap₂, ◌∙◌, inl, inr, arith}
use Rattle.std.specs.Prelude.{nat_lt, is_some}
use Rattle.std.proofs.Math.Nat.{suc-mul, mul-le-mul_right}
use Rattle.std.proofs.lemmas.Bool.{cases_eq, eq-eqb, ne_eqb}
use Rattle.std.proofs.lemmas.List.{get_or-map, length-map, length-take, length-take-le, length-drop, get_or_past}
use Rattle.std.proofs.lemmas.List.{get_or-take, get_or-drop}
use Rattle.rs_field.specs.declared.code.error.Error.{Error}
use Rattle.rs_field.specs.declared.code.error.Error.TheVariants.{NotEnoughShards}
use Rattle.rs_field.specs.code.Column.{Shard}
use Rattle.rs_field.specs.code.Configuration.{start_outcome}
use Rattle.rs_field.specs.code.Counts.{default_rate}
use Rattle.rs_field.specs.code.Decoder.{DecoderState, IsDecoder, fresh_decoder, with_original, with_recovery}
use Rattle.rs_field.specs.code.Decoder.{originals_given, recovery_given, enough_given}
use Rattle.rs_field.specs.code.Given.{Shards, AreWithin, nothing, count_below}
use Rattle.rs_field.specs.code.OneCall.{Items, default_of, one_by_one, with_originals, with_recoveries, with_both}
use Rattle.rs_field.specs.code.Outcome.{result_and_then}
use Rattle.rs_field.specs.code.Frame.{decoder_rows}
use Rattle.rs_field.proofs.code_lemmas.Given.{count_below-zero, count_below-suc}
use Rattle.rs_rate.specs.objects.Giving.{IsDecoding}
use Rattle.rs_rate.proofs.rows_lemmas.FirstShards.{first, first-none, first-all, first-skipped, original-taken}
use Rattle.rs_rate.proofs.rows_lemmas.FirstShards.{recovery-taken}
use Rattle.rs_ffi.specs.declared.marked_buffers.MarkedBuffers.{MarkedBuffers}
use Rattle.rs_ffi.specs.MarkedState.{state_in}
use Rattle.rs_ffi.specs.Buffers.{lost_indexes, marked_shards, marked_map, marked_state, shard_place}
use Rattle.rs_ffi.proofs.CutLemmas.{put-other}
use Rattle.rs_ffi.proofs.MarkedLemmas.{present, marked-some, marked-sized}
use Rattle.rs_ffi.proofs.LostLemmas.{lost-mark, place-first, place-next}

-- ---- marked shards by their index

-- If the mark of an index is 0, the map of the marked shards has no shard at this index.
pub map-lost : (size : ℕ) (marks bytes : List ℕ) (i : ℕ) → get_or marks i 0 ≡ 0 → marked_map size marks bytes i ≡ None
map-lost size marks bytes i lost = rw (eq-eqb (get_or marks i 0) 0 lost) refl

-- If the mark of an index is not 0, the map of the marked shards has the shard that is in the place with this index.
pub map-kept : (size : ℕ) (marks bytes : List ℕ) (i : ℕ) → (get_or marks i 0 ≡ 0 → ⊥)
    → marked_map size marks bytes i ≡ Some (shard_place size bytes i)
map-kept size marks bytes i kept = rw (ne_eqb (get_or marks i 0) 0 kept) refl

-- A place whose index is below the number of shards is as long as a shard.
pub place-long : (size : ℕ) (bytes : List ℕ) (count i : ℕ) → length bytes ≡ count * size → i < count
    → length (shard_place size bytes i) ≡ size
place-long size bytes count i whole inside = search (rules, mul-le-mul_right, length-drop)

-- Each byte of a place is below 256.
pub place-bytes : (size : ℕ) (bytes : List ℕ) (i : ℕ) → All (λ b. b < 256) bytes
    → length (shard_place size bytes i) ≡ size → All (λ b. b < 256) (shard_place size bytes i)
place-bytes size bytes i all long k d inside = search (rules, get_or-take, get_or-drop, length-drop, length-take)

-- Each marked shard has an index below the number of shards, the shard size, and bytes below 256.
pub map-within : (count size : ℕ) (marks bytes : List ℕ) → length marks ≡ count → length bytes ≡ count * size
    → All (λ b. b < 256) bytes
    → AreWithin count size (marked_map size marks bytes)
map-within count size marks bytes number whole all = search (rules, get_or_past, place-long, place-bytes)

-- Writing a piece into the place of a lost shard changes no marked shard.
pub map-put : (size i start : ℕ) (marks bytes piece : List ℕ) → start + length piece ≤ size
    → i * size + start + length piece ≤ length bytes → get_or marks i 0 ≡ 0
    → marked_map size marks (take (i * size + start) bytes ++ (piece ++ drop (i * size + start + length piece) bytes))
    ≡ marked_map size marks bytes
map-put size i start marks bytes piece fits inside lost = search (rules, put-other)

-- The place of each lost original is as long as a shard.
pub lost-long : (size count : ℕ) (marks bytes : List ℕ) → length marks ≡ count → length bytes ≡ count * size
    → All (λ room. length room ≡ size) (map (λ i. shard_place size bytes i) (lost_indexes 0 marks))
lost-long size count marks bytes number whole n d inside =
    let long = length-map (lost_indexes 0 marks) (λ (i : ℕ). shard_place size bytes i) in
    let there : n < length (lost_indexes 0 marks) = omega (arith, inside, long) in
    let (j, (same, below, zero_here)) = lost-mark 0 marks n there in
    ap length (get_or-map (λ (i : ℕ). shard_place size bytes i) (lost_indexes 0 marks) n 0 d there)
    ∙ place-long size bytes count (get_or (lost_indexes 0 marks) n 0) whole (omega (arith, same, below, number))

-- ---- the number of marked shards

count-front : (n : ℕ) (given : Shards)
    → count_below (suc n) given ≡ cond (is_some (given 0)) 1 0 + count_below n (λ i. given (suc i))
count-front zero given =
    count_below-suc 0 given ∙ ap (λ (m : ℕ). m + cond (is_some (given 0)) 1 0) (count_below-zero given)
    ∙ (let none = count_below-zero (λ i. given (suc i)) in omega (arith, none))
count-front (suc n) given =
    let front = count-front n given in
    let back = count_below-suc n (λ i. given (suc i)) in
    count_below-suc (suc n) given ∙ omega (arith, front, back)

-- If a map has a shard exactly at the indexes whose marks are not 0, the number of its shards is the number of marks
-- that are not 0.
pub map-count : (marks : List ℕ) (given : Shards)
    → ((j : ℕ) → j < length marks → is_some (given j) ≡ not (get_or marks j 0 == 0))
    → count_below (length marks) given ≡ present marks
map-count [] given each = count_below-zero given
map-count (mark ∷ marks) given each =
    count-front (length marks) given
    ∙ ap₂ (λ (b : Bool) (m : ℕ). cond b 1 0 + m) (each 0 (omega arith))
    (map-count marks (λ i. given (suc i)) (λ j inside. each (suc j) (omega (arith, inside))))
    ∙ by_mark (mark == 0)
  where
    by_mark : (zero_here : Bool)
        → cond (not zero_here) 1 0 + present marks ≡ cond (not zero_here) (1 + present marks) (present marks)
    by_mark true = omega arith
    by_mark false = refl

-- The number of given originals is the number of marks of originals that are not 0.
pub marked-originals : (k r size : ℕ) (own originals other recovery : List ℕ) → length own ≡ k
    → originals_given (marked_state k r size own originals other recovery) ≡ present own
marked-originals k r size own originals other recovery number = search (rules, map-count)

-- The number of given recovery shards is the number of marks of recovery shards that are not 0.
pub marked-recovery : (k r size : ℕ) (own originals other recovery : List ℕ) → length other ≡ r
    → recovery_given (marked_state k r size own originals other recovery) ≡ present other
marked-recovery k r size own originals other recovery number = search (rules, map-count)

-- ---- one call for the marked shards

-- Adding the marked shards one after another, in order, leads to the state whose shards are the map of the marked
-- shards.
module _ (put : Shards → DecoderState) (add : DecoderState → ℕ × Shard → Result DecoderState Error) (size : ℕ)
    (given : Shards) (count : ℕ)
    (taken : (n : ℕ) (shard : Shard) → given n ≡ Some shard → length shard ≡ size → n < count
    → add (put (first n given)) (n, shard) ≡ Ok (put (first (n + 1) given))) where
  pub marked-added : (n : ℕ) (marks bytes : List ℕ) → length bytes ≡ length marks * size → n + length marks ≤ count
      → ((j : ℕ) → j < length marks → given (n + j) ≡ marked_map size marks bytes j)
      → one_by_one add (put (first n given)) (marked_shards n size marks bytes)
      ≡ Ok (put (first (n + length marks) given))
  marked-added n [] bytes whole fits each =
      ap (λ (m : ℕ). Ok (put (first m given))) (let e : n ≡ n + 0 = omega arith in e)
  marked-added n (mark ∷ marks) bytes whole fits each =
      let more = suc-mul (length marks) size in
      let left = length-drop size bytes in
      let none : n + 0 ≡ n = omega arith in
      let here : given n ≡ marked_map size (mark ∷ marks) bytes 0 = ap given (sym none) ∙ each 0 (omega arith) in
      let others : one_by_one add (put (first (n + 1) given)) (marked_shards (n + 1) size marks (drop size bytes))
      ≡ Ok (put (first (n + suc (length marks)) given)) =
      marked-added (n + 1) marks (drop size bytes) (omega (arith, whole, more, left)) (omega (arith, fits)) (λ j inside.
      let step : n + 1 + j ≡ n + suc j = omega arith in
      ap given step ∙ each (suc j) (omega (arith, inside)) ∙ shifted j)
      ∙ ap (λ (m : ℕ). Ok (put (first m given)))
      (let e : n + 1 + length marks ≡ n + suc (length marks) = omega arith in e) in
      elim (cases_eq mark 0) [
        | inl lost ↦
            rw (eq-eqb mark 0 lost)
            (ap (λ (g : Shards). one_by_one add (put g) (marked_shards (n + 1) size marks (drop size bytes)))
            (first-skipped n given (here ∙ map-lost size (mark ∷ marks) bytes 0 lost)) ∙ others)
        | inr kept ↦
            let found : given n ≡ Some (take size bytes) =
            here ∙ map-kept size (mark ∷ marks) bytes 0 kept ∙ ap (λ (x : Shard). Some x) (place-first size bytes) in
            rw (ne_eqb mark 0 kept)
            (ap (result_and_then (λ next. one_by_one add next (marked_shards (n + 1) size marks (drop size bytes))))
            (taken n (take size bytes) found (length-take-le size bytes (omega (arith, whole, more)))
            (omega (arith, fits))) ∙ others)
      ]
    where
      shifted : (j : ℕ) → marked_map size (mark ∷ marks) bytes (suc j) ≡ marked_map size marks (drop size bytes) j
      shifted j = ap (λ (x : Shard). cond (get_or marks j 0 == 0) None (Some x)) (sym (place-next size j bytes))

-- Adding all marked shards of a buffer leads to the state whose shards are the map of the marked shards.
all-added : (put : Shards → DecoderState) (add : DecoderState → ℕ × Shard → Result DecoderState Error) (size count : ℕ)
    (marks bytes : List ℕ) → length marks ≡ count → length bytes ≡ count * size
    → ((n : ℕ) (shard : Shard) → marked_map size marks bytes n ≡ Some shard → length shard ≡ size → n < count
    → add (put (first n (marked_map size marks bytes))) (n, shard)
    ≡ Ok (put (first (n + 1) (marked_map size marks bytes))))
    → one_by_one add (put nothing) (marked_shards 0 size marks bytes) ≡ Ok (put (marked_map size marks bytes))
all-added put add size count marks bytes number whole taken =
    let given : Shards = marked_map size marks bytes in
    ap (λ (g : Shards). one_by_one add (put g) (marked_shards 0 size marks bytes)) (first-none given)
    ∙ marked-added put add size given count taken 0 marks bytes (whole ∙ ap (λ (n : ℕ). n * size) (sym number))
    (omega (arith, number)) (λ j inside. ap given (let e : 0 + j ≡ j = omega arith in e))
    ∙ ap (λ (g : Shards). Ok (put g)) (first-all (0 + length marks) given
    (λ i past. map-lost size marks bytes i (get_or_past marks i 0 (omega (arith, past)))))

-- Two buffers consist of whole shards, and there is a mark for each shard.
pub record AreMarked (k r size : ℕ) (own originals other recovery : List ℕ) : Type 0 where
  pub own_number : length own ≡ k
  pub other_number : length other ≡ r
  pub own_whole : length originals ≡ k * size
  pub other_whole : length recovery ≡ r * size

module _ {k r size : ℕ} {own originals other recovery : List ℕ}
    (buffers : AreMarked k r size own originals other recovery) where
  -- The marked shards of each buffer, the decoder to which they are added, and the decoder to which they were added.
  abbrev pub kept : Items
  kept = marked_shards 0 size own originals

  abbrev pub received : Items
  received = marked_shards 0 size other recovery

  abbrev empty : DecoderState
  empty = fresh_decoder (default_of k r size)

  abbrev pub state : DecoderState
  state = marked_state k r size own originals other recovery

  -- Adding the marked shards of both buffers to a decoder succeeds.
  both-added : with_both empty kept received ≡ Ok state
  both-added =
      let half : DecoderState = record empty { originals = marked_map size own originals } in
      let one : with_originals empty kept ≡ Ok half =
      all-added (λ (g : Shards). record empty { originals = g }) (λ s item. with_original s item.0 item.1) size k
      own originals buffers.own_number buffers.own_whole
      (λ n shard found sized inside.
      original-taken empty n (marked_map size own originals) shard found sized inside) in
      let two : with_recoveries half received ≡ Ok state =
      all-added (λ (g : Shards). record half { recovery = g }) (λ s item. with_recovery s item.0 item.1) size r
      other recovery buffers.other_number buffers.other_whole
      (λ n shard found sized inside.
      recovery-taken half n (marked_map size other recovery) shard found sized inside) in
      ap (result_and_then (λ now. with_recoveries now received)) one ∙ two

  -- A decoder can have this state.
  pub marked-decoder : All (λ b. b < 256) originals → All (λ b. b < 256) recovery
      → start_outcome (decoder_rows default_rate k r) (default_of k r size) ≡ Ok tt
      → IsDecoder default_rate state
  marked-decoder own_bytes other_bytes made = search (rules, map-within)

  -- If a recovery shard is marked, there is a first marked recovery shard, and it has the shard size.
  module _ (some : 0 < present other) where
    first-marked : (first : ℕ × Shard) × (rest : Items) × (received ≡ first ∷ rest) × (length first.1 ≡ size)
    first-marked = by_items received refl
      where
        by_items : (items : Items) → received ≡ items
            → (first : ℕ × Shard) × (rest : Items) × (received ≡ first ∷ rest) × (length first.1 ≡ size)
        by_items [] is = absurd (marked-some 0 size other recovery some is)
        by_items (item ∷ items) is = (
          item,
          items,
          is,
          marked-sized 0 size other recovery item items
              (buffers.other_whole ∙ ap (λ (n : ℕ). n * size) (sym buffers.other_number)) is,
        )

    -- One call adds the marked shards to a decoder, which leads to this state, or fails with the error of setting up
    -- the decoder.
    pub marked-led : (o : Result (Unit {0}) Error)
        → start_outcome (decoder_rows default_rate k r) (default_of k r size) ≡ o
        → IsDecoding k r kept received (result_and_then (λ _. Ok (Some state)) o)
    marked-led o made = search (rules, first-marked, both-added)

-- ---- the number of shards in a struct of buffers

-- The number of given originals is the number of marks of originals that are not 0, for a struct of buffers.
pub originals-counted : (x : MarkedBuffers) → originals_given (state_in x) ≡ present x.original_marks.now
originals-counted x =
    marked-originals x.counts.original_count x.counts.recovery_count x.size x.original_marks.now x.originals.now
    x.recovery_marks.now x.recovery.now x.originals_number

-- The number of given recovery shards is the number of marks of recovery shards that are not 0, for a struct of
-- buffers.
pub recovery-counted : (x : MarkedBuffers) → recovery_given (state_in x) ≡ present x.recovery_marks.now
recovery-counted x =
    marked-recovery x.counts.original_count x.counts.recovery_count x.size x.original_marks.now x.originals.now
    x.recovery_marks.now x.recovery.now x.recovery_number

-- The check that enough shards were given, in terms of the numbers of marks that are not 0.
pub enough-marked : (x : MarkedBuffers) (own other : ℕ) → own ≡ present x.original_marks.now
    → other ≡ present x.recovery_marks.now
    → enough_given (state_in x)
    ≡ cond (nat_lt (own + other) x.counts.original_count) (Err (NotEnoughShards x.counts.original_count own other))
    (Ok tt)
enough-marked x own other own_is other_is = search (rules, originals-counted, recovery-counted)
