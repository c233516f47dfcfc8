use Rattle.std.proofs.Common.{◌≡◌, ℕ, ◌+◌, ◌*◌, ◌/◌, ◌%◌, ◌^◌, ◌≤◌, length, get_or, vec_len, subst, arith}
use Rattle.rs_field.specs.words.Walsh.{IsWalsh, log_or_zero}
use Rattle.rs_field.proofs.words_lemmas.LogWalsh.{first-more}
use Rattle.rs_field.proofs.words.tables.log_walsh_table.Goals as goal

pub loop-places-preserved : goal.loop-places-preserved
loop-places-preserved c =
    let few : c.loop-places.places ≤ 16 = omega arith in
    let points : ℕ = 1 * 2 ^ c.loop-places.places % 18446744073709551616 in
    let old : vec_len c.loop-places.table ≡ length c.loop-places.table.items =
    omega (arith, c.loop-places.table.ok.0) in
    first-more c.loop-places.places points c.loop-places.table.items c.push_log_walsh.new.table.items
    (omega arith) c.loop-places.invariant
    (omega (arith, c.in_ok-push_log_walsh.ensures.length))
    (λ i hi. c.in_ok-push_log_walsh.ensures.before i (omega arith))
    (subst (λ (n : ℕ). IsWalsh points (λ z. 65536 / points * log_or_zero z)
    (λ w. get_or c.push_log_walsh.new.table.items (n + w) 0)) old c.in_ok-push_log_walsh.ensures.entries)
