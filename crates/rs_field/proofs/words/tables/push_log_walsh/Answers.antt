use Rattle.std.proofs.Common.{◌≡◌, ℕ, ◌+◌, ◌*◌, ◌/◌, ◌%◌, ◌<◌, List, ◌++◌, length, take, drop, get_or, vec_len, sym, ap}
use Rattle.std.proofs.Common.{◌∙◌, arith}
use Rattle.std.proofs.lemmas.List.{get_or-take, get_or_append_left, get_or-append-add, get_or-drop, length-append}
use Rattle.rs_field.specs.words.Walsh.{log_or_zero}
use Rattle.rs_field.proofs.words_lemmas.Halving.{walsh-at, walsh-near}
use Rattle.rs_field.proofs.words.tables.push_log_walsh.Goals as goal

-- An entry of the last part is at its place in the list that was written.
behind : (front last rest : List ℕ) (n from w : ℕ) → length front ≡ from → w < length last → from + w < n
    → get_or (take n (front ++ last ++ rest)) (from + w) 0 ≡ get_or last w 0
behind front last rest n from w size inside below =
    get_or-take n (front ++ last ++ rest) (from + w) 0 below
    ∙ get_or_append_left (front ++ last) rest 0 (from + w) (omega (arith, length-append front last))
    ∙ ap (λ k. get_or (front ++ last) (k + w) 0) (sym size) ∙ get_or-append-add front last w 0

pub returns-clause-entries : goal.returns-clause-entries
returns-clause-entries c = λ w hw.
    let from : ℕ = c.len-from.result in
    let last : List ℕ = c.split_at_mut-last.result.1.now in
    let size : length c.split_at_mut-last.result.1.now ≡ c.args.points =
    omega (
      arith,
      c.split_at_mut-last.ensures.back_len,
      c.deref_mut.ensures.len,
      c.in_ok-push_logs.ensures.length,
      c.len-from.ensures,
    ) in
    let read = λ (y : ℕ).
    ap (λ (xs : List ℕ). get_or xs y 0) c.split_at_mut-last.ensures.back ∙ get_or-drop from c.deref_mut.result.now y 0
    ∙ ap (λ (xs : List ℕ). get_or xs (from + y) 0) c.deref_mut.ensures.value
    ∙ ap (λ k. get_or c.push_logs.new.table.items (k + y) 0) c.len-from.ensures in
    ap (λ v. v % 65535) (behind c.split_at_mut-last.result.0.now c.fwht.new.entries
    (drop (length (c.split_at_mut-last.result.0.now ++ c.fwht.new.entries)) c.push_logs.new.table.items)
    c.push_logs.new.table.len (vec_len c.args.table.now) w (c.split_at_mut-last.ensures.front_len ∙ c.len-from.ensures)
    (omega (arith, c.fwht.auto.entries)) (omega (arith, c.in_ok-push_logs.ensures.length)))
    ∙ walsh-near (λ y. get_or last y 0) (λ z. 65536 / c.args.points * log_or_zero z) _
    (λ y hy. ap (λ v. v % 65535) (read y) ∙ c.in_ok-push_logs.ensures.entries y hy)
    (walsh-at _ _ size c.fwht.ensures.values) w hw
