-- A decode detects changed shards: if at least k shards of a codeword are unchanged and others are changed, no message
-- agrees.
use Rattle.std.proofs.Common.{rules, ◌≡◌, ℕ, zero, suc, ◌+◌, ◌%◌, ◌<◌, ◌≤◌, true, cond, List, [], sym, ap, ◌∙◌, arith}
use Rattle.std.proofs.Common.{subst}
use Rattle.std.specs.Prelude.{Some, None, unwrap_or, bytes_eq}
use Rattle.std.proofs.lemmas.Option.{none-some}
use Rattle.std.proofs.lemmas.Slice.Eq.{bytes_eq-Decides}
use Rattle.std.proofs.lemmas.Grind.{common_steps}
use Rattle.rs_field.specs.code.Column.{Shard, AreShards, shard_at}
use Rattle.rs_field.specs.code.Counts.{supports}
use Rattle.rs_field.specs.code.Configuration.{Configuration}
use Rattle.rs_field.specs.code.Code.{AreRecovery}
use Rattle.rs_field.specs.code.Given.{Shards, count_below, AreAmong, Agrees, Consistent}
use Rattle.rs_field.specs.code.CodeLaws.{changed_shards}
use Rattle.rs_field.proofs.code_lemmas.Given.{count_below-zero, count_below-suc}
use Rattle.rs_field.proofs.code_lemmas.Unique.{recovery_unique}
use Rattle.rs_field.proofs.code_lemmas.RateFrames.{few_originals}
use Rattle.rs_field.proofs.code_lemmas.Agreement.{one_message}

-- The given shards that are equal to the shards of the list.
kept : Shards → List Shard → Shards
kept given shards i = cond (bytes_eq (unwrap_or (given i) []) (shard_at shards i)) (given i) None

-- Each given shard is either equal to the shard of the list or changed.
count-kept : (n : ℕ) (given : Shards) (shards : List Shard)
    → count_below n (changed_shards given shards) + count_below n (kept given shards) ≡ count_below n given
unfolding changed_shards kept
count-kept zero given shards = grind (arith, common_steps, count_below-zero)
count-kept (suc n) given shards = grind (arith, common_steps, count_below-suc, count-kept n given shards)

-- A kept shard is given and equal to the shard of the list.
kept_given : (given : Shards) (shards : List Shard) (i : ℕ) (shard : Shard) → kept given shards i ≡ Some shard
    → (given i ≡ Some shard) × (shard_at shards i ≡ shard)
unfolding kept
kept_given given shards i shard e = grind (arith, common_steps, bytes_eq-Decides, none-some)

-- If all given shards are shards of the list, none is changed.
none_changed : (n : ℕ) (given : Shards) (shards : List Shard) → AreAmong given shards
    → count_below n (changed_shards given shards) ≡ 0
unfolding changed_shards
none_changed zero given shards are = count_below-zero (changed_shards given shards)
none_changed (suc n) given shards are =
    search (rules, count_below-suc, bytes_eq-Decides, none_changed n given shards are)

-- If at least one given shard is changed and at least k are not, no message agrees.
pub changes_noticed : (c : Configuration) (message all : List Shard) (originals recovery : Shards)
    → supports c.rate c.original_count c.recovery_count ≡ true → c.shard_bytes % 2 ≡ 0
    → AreShards c.original_count c.shard_bytes message → AreRecovery c message all
    → 0 < count_below c.original_count (changed_shards originals message) + count_below c.recovery_count
    (changed_shards recovery all)
    → count_below c.original_count (changed_shards originals message) + count_below c.recovery_count
    (changed_shards recovery all) + c.original_count
    ≤ count_below c.original_count originals + count_below c.recovery_count recovery
    → Consistent c originals recovery → ⊥
changes_noticed c message all originals recovery is even are own some few (other, a) =
    let own_count = count-kept c.original_count originals message in
    let coded_count = count-kept c.recovery_count recovery all in
    let here : Agrees c (kept originals message) (kept recovery all) message = record {
      shards = are;
      own = λ i s e. (kept_given originals message i s e).1;
      coded = (all, own, λ i s e. (kept_given recovery all i s e).1);
    } in
    let there : Agrees c (kept originals message) (kept recovery all) other = record {
      shards = a.shards;
      own = λ i s e. a.own i s (kept_given originals message i s e).0;
      coded = (a.coded.0, a.coded.1, λ i s e. a.coded.2 i s (kept_given recovery all i s e).0);
    } in
    let same : message ≡ other =
    one_message is even (omega arith) here there in
    let same_recovery : all ≡ a.coded.0 =
    recovery_unique (few_originals c.rate c.original_count c.recovery_count is) even own
    (subst (λ (m : List Shard). AreRecovery c m a.coded.0) (sym same) a.coded.1) in
    let none_own = none_changed c.original_count originals message
    (λ i s e. ap (λ (m : List Shard). shard_at m i) same ∙ a.own i s e) in
    let none_coded = none_changed c.recovery_count recovery all
    (λ i s e. ap (λ (m : List Shard). shard_at m i) same_recovery ∙ a.coded.2 i s e) in
    omega arith
