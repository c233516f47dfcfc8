use Rattle.std.proofs.Common.{◌≡◌, ◌≤◌, ◌<◌, ◌*◌, ◌^◌, ◌+◌, ◌-◌, ℕ, zero, suc, List, [], ◌∷◌, ◌++◌, get_or, length, sym}
use Rattle.std.proofs.Common.{ap, ◌∙◌, arith, refl, inl, inr, ne_eqb, pow_mono, mul-pos}
use Rattle.std.proofs.lemmas.List.{get_or_push, get_or_append_left, length-append}
use Rattle.std.proofs.lemmas.Bool.{cases_eq, cases_lt}
use Rattle.std.proofs.lemmas.Nat.{pow_pos, shl-shr}
use Rattle.rs_field.specs.words.Subspace.{subspace}
use Rattle.rs_field.specs.words.Tables.{IsExpLog, log_or_mark}
use Rattle.rs_field.proofs.words_lemmas.Halves.{mark_zero, mark_word}
use Rattle.rs_field.proofs.words_lemmas.Subspace.{subspace_shift}
use Rattle.rs_field.proofs.words.tables.skew_table.Goals as goal

any_default : (xs : List ℕ) (i d e : ℕ) → i < length xs → get_or xs i d ≡ get_or xs i e
any_default [] i d e h = absurd (omega arith)
any_default (x ∷ xs) zero d e h = refl
any_default (x ∷ xs) (suc i) d e h = any_default xs i d e (omega arith)

read : (exps logs : List ℕ) (z : ℕ) → IsExpLog exps logs → z < 65536 → get_or logs z 0 ≡ log_or_mark z
read exps logs z h hz = elim (cases_eq z 0) [
  | inl e ↦ ap (λ v. get_or logs v 0) e ∙ h.log_zero ∙ sym mark_zero ∙ ap log_or_mark (sym e)
  | inr apart ↦ h.log_entry z (omega arith) hz ∙ sym (mark_word z (ne_eqb z 0 apart))
]

-- The value s_d(j - 2 ^ d) is 2u, for j = (2u + 1) * 2 ^ d.
subspace_word : (d u j : ℕ) → j ≡ (2 * u + 1) * 2 ^ d → j < 65536 → subspace d (j - 2 ^ d) ≡ 2 * u
subspace_word d u j is hj =
    let few : d ≤ 16 = elim (cases_lt 16 d) [
      | inl more ↦ let le : 16 ≤ d = omega arith in let big : 2 ^ 16 ≤ 2 ^ d = pow_mono le in absurd (omega arith)
      | inr few ↦ few
    ] in
    ap (subspace d) (omega arith) ∙ subspace_shift d (2 * u * 2 ^ d) few (omega arith) ∙ shl-shr (2 * u) d

pushed : (items exps logs : List ℕ) (i x word : ℕ) → IsExpLog exps logs → length items ≡ i → i < 65535 → word < 65536
    → ((d u j : ℕ) → j ≡ (2 * u + 1) * 2 ^ d → j < i + 1
    → get_or items (j - 1) 0 ≡ log_or_mark (subspace d (j - 2 ^ d)))
    → ((d u : ℕ) → i + 1 ≡ (2 * u + 1) * 2 ^ d → word ≡ 2 * u)
    → x ≡ get_or logs word x
    → (d u j : ℕ) → j ≡ (2 * u + 1) * 2 ^ d → j < i + 1 + 1
    → get_or (items ++ x ∷ []) (j - 1) 0 ≡ log_or_mark (subspace d (j - 2 ^ d))
pushed items exps logs i x word h size hi hw sofar odd at d u j is hj =
    elim (cases_eq j (i + 1)) [
      | inl e ↦
          get_or_push items x 0 (j - 1) (omega arith) ∙ at ∙ any_default logs word x 0 (omega (arith, h.log_length))
          ∙ read exps logs word h hw
          ∙ ap log_or_mark ((odd d u (sym e ∙ is)) ∙ sym (subspace_word d u j is (omega arith)))
      | inr apart ↦
          let positive : 0 < (2 * u + 1) * 2 ^ d = product_positive u d in
          get_or_append_left items (x ∷ []) 0 (j - 1) (omega arith) ∙ sofar d u j is (omega arith)
    ]
  where
    product_positive : (u d : ℕ) → 0 < (2 * u + 1) * 2 ^ d
    product_positive u d = mul-pos (omega arith) (pow_pos d)

pub loop-i-preserved : goal.loop-i-preserved
loop-i-preserved c =
    rw c.in_ok-push.ensures.items (record {
      size = length-append c.loop-i.table.items (c.index.result.now ∷ []) ∙ omega (arith, c.loop-i.invariant.size);
      so_far = pushed c.loop-i.table.items c.args.exp_log.now.exp.items c.args.exp_log.now.log.items c.loop-i.i
          c.index.result.now c.skew_word-word.result
          c.requires c.loop-i.invariant.size c.loop-i-test.true
          (omega arith) c.loop-i.invariant.so_far c.skew_word-word.ensures c.index.ensures;
    })
