-- If one-call `decode` succeeds, the received shards belong to one message only, and its lost originals are restored.
use Rattle.std.proofs.Common.{◌≡◌, ℕ, ◌<◌, false, List, [], ◌∷◌, length, refl, sym, ap, subst}
use Rattle.std.proofs.Common.{◌∙◌}
use Rattle.std.proofs.Common.{inl, inr, arith, nat_eq}
use Rattle.std.specs.Prelude.{Result, Ok, Err, Some, None, IfOk, MatchResult}
use Rattle.std.specs.List.{AllByRecursion, IsDistinct}
use Rattle.std.proofs.lemmas.Bool.{eqb-false, ne_eqb}
use Rattle.std.proofs.lemmas.List.Elements.{recursion_from_All, All-from_recursion}
use Rattle.std.proofs.lemmas.Grind.{common_steps}
use Rattle.rs_field.specs.declared.code.error.Error.{Error}
use Rattle.rs_field.specs.code.Column.{Shard, shard_at}
use Rattle.rs_field.specs.code.Counts.{default_rate}
use Rattle.rs_field.specs.code.Frame.{decoder_rows}
use Rattle.rs_field.specs.code.Outcome.{result_and_then}
use Rattle.rs_field.specs.code.Configuration.{Configuration, validation_outcome, start_outcome}
use Rattle.rs_field.specs.code.Given.{Shards, nothing, with_entry, AreAmong, Agrees}
use Rattle.rs_field.specs.code.Decoder.{DecoderState, fresh_decoder, with_original, with_recovery, enough_given}
use Rattle.rs_field.specs.code.Decoder.{IsAgreeing, DecodeAnswers, Restored}
use Rattle.rs_field.specs.code.OneCall.{Items, default_of, with_originals, with_recoveries, with_both}
use Rattle.rs_field.specs.code.OneCall.{decoding_outcome, OneDecodeAnswers, originals_alone, counts_outcome}
use Rattle.rs_field.specs.code.RoundTrip.{AreCoded, AreLeft, BelongTo, RestoresOnly}
use Rattle.rs_field.proofs.code_lemmas.Entries.{entered_all, AreFree, indexes, among-entered_all}
use Rattle.rs_field.proofs.code_lemmas.Given.{entered_cases, nothing_among}
use Rattle.rs_field.proofs.code_lemmas.OneRoundTrip.{then_ok, restores_in_one_call}

-- Items were entered into a map, each at an index below `count` that was free, and each with a shard of this size.
record AreEntered (count size : ℕ) (items : Items) (old new : Shards) : Type 0 where
  all : new ≡ entered_all old items
  free : AreFree old items
  once : IsDistinct nat_eq (indexes items)
  within : AllByRecursion (λ item. (item.0 < count) × (length item.1 ≡ size)) items

-- What an entry leaves free was free before, and is at another index.
free_before : (given : Shards) (k : ℕ) (x : Shard) (items : Items) → AreFree (with_entry given k x) items
    → AreFree given items × AllByRecursion (λ i. nat_eq k i ≡ false) (indexes items)
free_before given k x [] free = (tt, tt)
free_before given k x (item ∷ items) free =
    let rest = free_before given k x items free.1 in
    elim (entered_cases given k item.0 x) [
      | inl here ↦ let some = sym here.1 ∙ free.0 in absurd (let no : ⊥ = cc in no)
      | inr other ↦ (
        (sym other.1 ∙ free.0, rest.0),
        (ne_eqb k item.0 (λ e. other.0 (sym e)), rest.1),
      )
    ]

-- One more item was entered before others.
one_more : (count size : ℕ) (item : ℕ × Shard) (items : Items) (old new : Shards) → item.0 < count
    → length item.1 ≡ size → old item.0 ≡ None → AreEntered count size items (with_entry old item.0 item.1) new
    → AreEntered count size (item ∷ items) old new
unfolding IsDistinct
one_more count size item items old new inside sized free rest =
    let before = free_before old item.0 item.1 items rest.free in
    record {
      all = rest.all;
      free = (free, before.0);
      once = (before.1, rest.once);
      within = ((inside, sized), rest.within);
    }

-- Entries at other indexes leave a shard as it is.
kept_by_others : (given : Shards) (i : ℕ) (items : Items) → AllByRecursion (λ j. nat_eq i j ≡ false) (indexes items)
    → entered_all given items i ≡ given i
kept_by_others given i [] others = refl
kept_by_others given i (item ∷ items) others =
    kept_by_others (with_entry given item.0 item.1) i items others.1
    ∙ elim (entered_cases given item.0 i item.1) [
      | inl here ↦ absurd (eqb-false i item.0 others.0 here.0)
      | inr other ↦ other.1
    ]

-- Each item is in the map with its index.
each_entered : (given : Shards) (items : Items) → IsDistinct nat_eq (indexes items)
    → AllByRecursion (λ item. entered_all given items item.0 ≡ Some item.1) items
unfolding IsDistinct
each_entered given [] once = tt
each_entered given (item ∷ items) once = (
  kept_by_others (with_entry given item.0 item.1) item.0 items once.0
      ∙ elim (entered_cases given item.0 item.0 item.1) [
        | inl here ↦ here.1
        | inr other ↦ absurd (other.0 refl)
      ],
  each_entered (with_entry given item.0 item.1) items once.1,
)

original_step : (s t : DecoderState) (i : ℕ) (x : Shard) → with_original s i x ≡ Ok t
    → (t ≡ record s { originals = with_entry s.originals i x }) × (i < s.configuration.original_count)
    × (length x ≡ s.configuration.shard_bytes) × (s.originals i ≡ None)
original_step s t i x is = grind (arith, common_steps)

recovery_step : (s t : DecoderState) (i : ℕ) (x : Shard) → with_recovery s i x ≡ Ok t
    → (t ≡ record s { recovery = with_entry s.recovery i x }) × (i < s.configuration.recovery_count)
    × (length x ≡ s.configuration.shard_bytes) × (s.recovery i ≡ None)
recovery_step s t i x is = grind (arith, common_steps)

-- What a decoder took: its configuration and recovery shards are as before, and the items are its originals.
originals_taken : (items : Items) (s t : DecoderState) → with_originals s items ≡ Ok t
    → (t.configuration ≡ s.configuration) × (t.recovery ≡ s.recovery)
    × AreEntered s.configuration.original_count s.configuration.shard_bytes items s.originals t.originals
unfolding IsDistinct
originals_taken [] s t is =
    let same : s ≡ t = cc in (
      ap (λ (x : DecoderState). x.configuration) (sym same),
      ap (λ (x : DecoderState). x.recovery) (sym same),
      record { all = ap (λ (x : DecoderState). x.originals) (sym same); free = tt; once = tt; within = tt },
    )
originals_taken (item ∷ items) s t is =
    let first = then_ok (λ next. with_originals next items) (with_original s item.0 item.1) t is in
    let one = original_step s first.0 item.0 item.1 first.1 in
    let rest = originals_taken items first.0 t first.2 in
    let same = ap (λ (x : DecoderState). x.configuration) one.0 in (
      rest.0 ∙ same,
      rest.1 ∙ ap (λ (x : DecoderState). x.recovery) one.0,
      one_more s.configuration.original_count s.configuration.shard_bytes item items s.originals t.originals one.1
          one.2 one.3
          (subst (λ (x : DecoderState). AreEntered x.configuration.original_count x.configuration.shard_bytes items
          x.originals t.originals) one.0 rest.2),
    )

recoveries_taken : (items : Items) (s t : DecoderState) → with_recoveries s items ≡ Ok t
    → (t.configuration ≡ s.configuration) × (t.originals ≡ s.originals)
    × AreEntered s.configuration.recovery_count s.configuration.shard_bytes items s.recovery t.recovery
unfolding IsDistinct
recoveries_taken [] s t is =
    let same : s ≡ t = cc in (
      ap (λ (x : DecoderState). x.configuration) (sym same),
      ap (λ (x : DecoderState). x.originals) (sym same),
      record { all = ap (λ (x : DecoderState). x.recovery) (sym same); free = tt; once = tt; within = tt },
    )
recoveries_taken (item ∷ items) s t is =
    let first = then_ok (λ next. with_recoveries next items) (with_recovery s item.0 item.1) t is in
    let one = recovery_step s first.0 item.0 item.1 first.1 in
    let rest = recoveries_taken items first.0 t first.2 in
    let same = ap (λ (x : DecoderState). x.configuration) one.0 in (
      rest.0 ∙ same,
      rest.1 ∙ ap (λ (x : DecoderState). x.originals) one.0,
      one_more s.configuration.recovery_count s.configuration.shard_bytes item items s.recovery t.recovery one.1
          one.2 one.3
          (subst (λ (x : DecoderState). AreEntered x.configuration.recovery_count x.configuration.shard_bytes items
          x.recovery t.recovery) one.0 rest.2),
    )

-- If entered items are shards of a list, they are left of the list.
entered_left : (count size : ℕ) (items : Items) (new : Shards) (shards : List Shard)
    → AreEntered count size items nothing new → length shards ≡ count → AreAmong new shards → AreLeft shards items
entered_left count size items new shards entered long among = record {
  own = All-from_recursion (λ item. (item.0 < length shards) × (shard_at shards item.0 ≡ item.1)) items
      (own_each items (each_entered nothing items entered.once) entered.within);
  once = entered.once;
}
  where
    own_each : (some : Items) → AllByRecursion (λ item. entered_all nothing items item.0 ≡ Some item.1) some
        → AllByRecursion (λ item. (item.0 < count) × (length item.1 ≡ size)) some
        → AllByRecursion (λ item. (item.0 < length shards) × (shard_at shards item.0 ≡ item.1)) some
    own_each [] each within = tt
    own_each (item ∷ rest) each within = (
      (
        omega (arith, within.0.0, long),
        among item.0 item.1 (ap (λ (g : Shards). g item.0) entered.all ∙ each.0),
      ),
      own_each rest each.1 within.1,
    )

-- If items are left of a list, the map into which they were entered has shards of the list.
left_among : (shards : List Shard) (items : Items) (new : Shards) → new ≡ entered_all nothing items
    → AreLeft shards items → AreAmong new shards
left_among shards items new is left =
    subst (λ (g : Shards). AreAmong g shards) (sym is)
    (among-entered_all items nothing shards
    (own_only items (recursion_from_All (λ item. (item.0 < length shards) × (shard_at shards item.0 ≡ item.1)) items
    left.own)) (nothing_among shards))
  where
    own_only : (some : Items)
        → AllByRecursion (λ item. (item.0 < length shards) × (shard_at shards item.0 ≡ item.1)) some
        → AllByRecursion (λ item. shard_at shards item.0 ≡ item.1) some
    own_only [] own = tt
    own_only (item ∷ rest) own = (own.0.1, own_only rest own.1)

module _ (k r : ℕ) (kept : Items) (first : ℕ × Shard) (rest : Items) (out : Shards) where
  abbrev size : ℕ
  size = length first.1

  -- A message to which the shards belong agrees with the decoder that took them.
  agreeing : (s : DecoderState) → s.configuration ≡ default_of k r size
      → s.originals ≡ entered_all nothing kept → s.recovery ≡ entered_all nothing (first ∷ rest)
      → (other : List Shard) → BelongTo k r kept (first ∷ rest) other → IsAgreeing s other
  agreeing s configured originals recovery other belong =
      let own = belong.others.own 0 first (omega arith) in
      let sized : size ≡ belong.coded.size =
      ap length (sym own.1) ∙ (belong.coded.coded.shards.each first.0 [] own.0).length_is in
      subst (λ (c : Configuration). Agree c) (sym configured)
      (subst (λ (n : ℕ). Agree (default_of k r n)) (sym sized) (record {
        shards = belong.coded.shards;
        own = left_among other kept s.originals originals belong.own;
        coded = (
          belong.recovery,
          belong.coded.coded,
          left_among belong.recovery (first ∷ rest) s.recovery recovery belong.others,
        );
      }))
    where
      Agree : Configuration → Type 0
      Agree c = Agrees c s.originals s.recovery other

  by_state : (s : DecoderState) → validation_outcome (default_of k r size) ≡ Ok tt
      → with_both (fresh_decoder (default_of k r size)) kept (first ∷ rest) ≡ Ok s → Restored s out
      → OneDecodeAnswers k r kept (first ∷ rest) (Ok out) → RestoresOnly k r kept (first ∷ rest) out
  by_state s valid is restored answers =
      let c = default_of k r size in
      let mid = then_ok (λ now. with_recoveries now (first ∷ rest)) (with_originals (fresh_decoder c) kept) s is in
      let own = originals_taken kept (fresh_decoder c) mid.0 mid.1 in
      let coded = recoveries_taken (first ∷ rest) mid.0 s mid.2 in
      let configured : s.configuration ≡ default_of k r size = coded.0 ∙ own.0 in
      let originals : s.originals ≡ entered_all nothing kept = coded.1 ∙ own.2.all in
      let recovery : s.recovery ≡ entered_all nothing (first ∷ rest) =
      coded.2.all ∙ ap (λ (g : Shards). entered_all g (first ∷ rest)) own.1 in
      let agrees = subst (λ (d : Configuration). Agrees d s.originals s.recovery restored.message) configured
      restored.agrees in
      let left : AreLeft restored.message kept =
      entered_left k size kept s.originals restored.message
      (record { all = originals; free = own.2.free; once = own.2.once; within = own.2.within })
      agrees.shards.length_is agrees.own in
      let fitting : AllByRecursion (λ item. (item.0 < r) × (length item.1 ≡ size)) (first ∷ rest) =
      subst (λ (d : Configuration).
      AllByRecursion (λ item. (item.0 < d.recovery_count) × (length item.1 ≡ d.shard_bytes))
      (first ∷ rest)) own.0 coded.2.within in
      let got : AreLeft agrees.coded.0 (first ∷ rest) =
      entered_left r size (first ∷ rest) s.recovery agrees.coded.0
      (record {
        all = recovery;
        free = subst (λ (g : Shards). AreFree g (first ∷ rest)) own.1 coded.2.free;
        once = coded.2.once;
        within = fitting;
      }) agrees.coded.1.shards.length_is agrees.coded.2 in
      let was : AreCoded k r restored.message agrees.coded.0 =
      record { size = size; valid = valid; shards = agrees.shards; coded = agrees.coded.1 } in (
        restored.message,
        record { recovery = agrees.coded.0; coded = was; own = left; others = got },
        λ other belong. restored.only other (agreeing s configured originals recovery other belong),
        (restores_in_one_call k r restored.message agrees.coded.0 kept (first ∷ rest) (Ok out) was left got
            answers).restored,
      )

  by_outcome : (o : Result DecoderState Error) → decoding_outcome k r kept first rest ≡ o
      → MatchResult o (λ s. DecodeAnswers s (Ok out)) (λ e. ◌≡◌ {A = Result Shards Error} (Ok out) (Err e))
      → OneDecodeAnswers k r kept (first ∷ rest) (Ok out) → RestoresOnly k r kept (first ∷ rest) out
  by_outcome (Err e) same refused answers = absurd (let none : ⊥ = cc in none)
  by_outcome (Ok s) same found answers =
      let c = default_of k r size in
      let begun = then_ok (λ _. with_both (fresh_decoder c) kept (first ∷ rest))
      (start_outcome (decoder_rows default_rate k r) c) s same in
      let valid = then_ok _ (validation_outcome c) begun.0 begun.1 in
      by_state s valid.1 begun.2 (enough (enough_given s) found) answers
    where
      enough : (o : Result (Unit {0}) Error)
          → MatchResult o (λ _. Restored s out) (λ e. ◌≡◌ {A = Result Shards Error} (Ok out) (Err e)) → Restored s out
      enough (Ok u) restored = restored
      enough (Err e) refused = absurd (let none : ⊥ = cc in none)

restored_by : (k r : ℕ) (kept received : Items) (out : Shards)
    → OneDecodeAnswers k r kept received (Ok out) → RestoresOnly k r kept received out
restored_by k r kept received out (inr lacks) = absurd (let e = lacks.1 in let no : ⊥ = cc in no)
restored_by k r kept [] out (inl alone) =
    by_check (result_and_then (λ _. originals_alone k kept) (counts_outcome k r)) alone
  where
    by_check : (o : Result (Unit {0}) Error)
        → MatchResult o (λ _. ◌≡◌ {A = Result Shards Error} (Ok out) (Ok nothing))
        (λ e. ◌≡◌ {A = Result Shards Error} (Ok out) (Err e)) → (i : ℕ) → out i ≡ None
    by_check (Ok u) is i = let same : out ≡ nothing = cc in ap (λ (g : Shards). g i) same
    by_check (Err e) refused i = absurd (let none : ⊥ = cc in none)
restored_by k r kept (first ∷ rest) out (inl answers) =
    by_outcome k r kept first rest out (decoding_outcome k r kept first rest) refl answers (inl answers)

pub restores_only : (k r : ℕ) (kept received : Items) (result : Result Shards Error)
    → OneDecodeAnswers k r kept received result → IfOk result (RestoresOnly k r kept received)
restores_only k r kept received (Ok out) answers = restored_by k r kept received out answers
restores_only k r kept received (Err e) answers = tt
