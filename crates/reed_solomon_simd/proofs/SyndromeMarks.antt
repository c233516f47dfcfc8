-- Marks of the rows of received recovery shards, and a base of syndromes for the pieces in a strip.
use Rattle.std.proofs.Common.{◌≡◌, ◌≢◌, ℕ, ◌+◌, ◌-◌, ◌<◌, Bool, true, List, length, set}
use Rattle.std.proofs.Common.{sym, ap, ◌∙◌, inl, inr, arith}
use Rattle.std.specs.Prelude.{false, is_some}
use Rattle.std.proofs.lemmas.Bool.{cases_eq, cases_lt}
use Rattle.std.proofs.lemmas.List.{get_or-set_same, get_or-set_other}
use Rattle.rs_field.specs.code.Decoder.{DecoderState}
use Rattle.rs_field.specs.code.Frame.{original_row, recovery_row, frame_at}
use Rattle.rs_field.specs.code.Given.{Shards}
use Rattle.rs_field.specs.code.PieceStates.{state_of_pieces}
use Rattle.rs_field.specs.declared.code.frame.Frame.{Frame}
use Rattle.rs_field.specs.rows.MarkedRows.{is_marked}
use Rattle.rs_field.proofs.code_lemmas.Frame.{HasDistinctRows}
use Rattle.rs_field.proofs.code_lemmas.PieceStates.{is_some-map}
use Rattle.rs_rate.specs.declared.passes.sums.SumBase.{SumBase}
use Rattle.reed_solomon_simd.specs.Syndromes.{AddsOriginals, IsSyndromeBase}
use Rattle.reed_solomon_simd.proofs.BaseLemmas.{base-pieces}

-- Of the rows of the first n recovery shards, those are marked in which a shard was received, and no other rows.
pub record CodedBelow (n : ℕ) (frame : Frame) (given : Shards) (marks : List Bool) : Type 0 where
  pub coded : (i : ℕ) → i < n → is_marked marks (recovery_row frame i) ≡ is_some (given i)
  pub only : (x : ℕ) → is_marked marks x ≡ true → (i : ℕ) × (i < n) × (x ≡ recovery_row frame i)

pub coded-more : (n row : ℕ) (frame : Frame) (given : Shards) (marks : List Bool) (mark : Bool)
    → row ≡ recovery_row frame n → row < length marks → mark ≡ is_some (given n) → CodedBelow n frame given marks
    → CodedBelow (n + 1) frame given (set marks row mark)
coded-more n row frame given marks mark at inside is before = record {
  coded = λ i h. elim (cases_eq i n) [
    | inl here ↦
        let place : recovery_row frame i ≡ row = omega (arith, here, at) in
        ap (is_marked (set marks row mark)) place ∙ get_or-set_same marks row mark false inside
        ∙ is ∙ ap (λ m. is_some (given m)) (sym here)
    | inr other ↦
        get_or-set_other marks row (recovery_row frame i) mark false
        (λ e. let same : recovery_row frame i ≡ row = e in other (omega (arith, same, at)))
        ∙ before.coded i (omega (arith, h, other))
  ];
  only = λ x marked. elim (cases_eq x row) [
    | inl here ↦ (n, omega arith, here ∙ at)
    | inr other ↦
        let (i, hi, place) = before.only x
        (sym (get_or-set_other marks row x mark false (λ e. other e)) ∙ marked) in
        (i, omega (arith, hi), place)
  ];
}

-- The rows of the first n originals are marked exactly if these were received, and all other rows as in other marks.
pub record OwnBelow (n : ℕ) (frame : Frame) (given : Shards) (marks all : List Bool) : Type 0 where
  pub own : (i : ℕ) → i < n → is_marked all (original_row frame i) ≡ is_some (given i)
  pub others : (x : ℕ) → ((i : ℕ) → i < n → x ≢ original_row frame i) → is_marked all x ≡ is_marked marks x

pub own-more : (n row : ℕ) (frame : Frame) (given : Shards) (marks all : List Bool) (mark : Bool)
    → row ≡ original_row frame n → row < length all → mark ≡ is_some (given n) → OwnBelow n frame given marks all
    → OwnBelow (n + 1) frame given marks (set all row mark)
own-more n row frame given marks all mark at inside is before = record {
  own = λ i h. elim (cases_eq i n) [
    | inl here ↦
        let place : original_row frame i ≡ row = omega (arith, here, at) in
        ap (is_marked (set all row mark)) place ∙ get_or-set_same all row mark false inside
        ∙ is ∙ ap (λ m. is_some (given m)) (sym here)
    | inr other ↦
        get_or-set_other all row (original_row frame i) mark false
        (λ e. let same : original_row frame i ≡ row = e in other (omega (arith, same, at)))
        ∙ before.own i (omega (arith, h, other))
  ];
  others = λ x apart.
      get_or-set_other all row x mark false (λ e. apart n (omega arith) (e ∙ at))
      ∙ before.others x (λ i h. apart i (omega (arith, h)));
}

-- The rows of all originals are marked exactly if these were received, and all other rows as in other marks.
module _ (frame : Frame) (k r : ℕ) (f : HasDistinctRows frame k r) (given : Shards) (marks all : List Bool)
    (added : OwnBelow k frame given marks all) where
  pub coded-kept : (i : ℕ) → i < r → is_marked all (recovery_row frame i) ≡ is_marked marks (recovery_row frame i)
  coded-kept i hi = added.others (recovery_row frame i) (λ j hj e. elim f.order [
    | inl low ↦
        let same : recovery_row frame i ≡ original_row frame j = e in
        omega (arith, low.1, f.zeros.0, f.follow, hj, hi, same)
    | inr high ↦
        let same : recovery_row frame i ≡ original_row frame j = e in
        omega (arith, high.0, high.1, hj, hi, same)
  ])

  pub own-only : (x : ℕ) → is_marked all x ≡ true → is_marked marks x ≡ false
      → (i : ℕ) × (i < k) × (x ≡ original_row frame i)
  own-only x marked not = elim (cases_lt x frame.originals_from) [
    | inl low ↦
        let same = added.others x (λ i h e. let at : x ≡ original_row frame i = e in omega (arith, low, at)) in
        absurd (let no : ⊥ = cc (same, marked, not) in no)
    | inr past ↦ elim (cases_lt x (original_row frame k)) [
      | inl below ↦ (x - frame.originals_from, omega (arith, past, below), omega (arith, past))
      | inr beyond ↦
          let same = added.others x
          (λ i h e. let at : x ≡ original_row frame i = e in omega (arith, beyond, h, at)) in
          absurd (let no : ⊥ = cc (same, marked, not) in no)
    ]
  ]

pub adds-originals : (s : DecoderState)
    → HasDistinctRows (frame_at s.configuration) s.configuration.original_count s.configuration.recovery_count
    → (marks all : List Bool)
    → OwnBelow s.configuration.original_count (frame_at s.configuration) s.originals marks all
    → AddsOriginals s marks all
adds-originals s f marks all added =
    let k = s.configuration.original_count in
    let r = s.configuration.recovery_count in
    record {
      own = added.own;
      coded = coded-kept (frame_at s.configuration) k r f s.originals marks all added;
      only = own-only (frame_at s.configuration) k r f s.originals marks all added;
    }

-- A base of syndromes is a base of the syndromes of a strip.
abbrev pub syndrome-pieces : (start end : ℕ) (s : DecoderState) (base : SumBase) → IsSyndromeBase s base
    → IsSyndromeBase (state_of_pieces start end s) base
syndrome-pieces start end s base based = record {
  all = based.all;
  marked = base-pieces start end based.all s based.marked;
  located = based.located;
  adds = record {
    own = λ i hi. based.adds.own i hi ∙ sym (is_some-map start end (s.originals i));
    coded = based.adds.coded;
    only = based.adds.only;
  };
  only = based.only;
  first = λ i hi early. based.first i hi early ∙ sym (is_some-map start end (s.recovery i));
}
