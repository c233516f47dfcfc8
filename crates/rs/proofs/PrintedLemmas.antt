-- Lemmas about the lines that the program prints, and about the messages that it prints instead of lines.
use Rattle.std.proofs.Common.{◌≡◌, ℕ, Bool, cond, List, [], ◌∷◌, map, Some, Result, Ok, Err, inl, inr, refl, sym, ◌∙◌}
use Rattle.std.proofs.Common.{ap, ap₂, subst, arith}
use Rattle.std.specs.Prelude.{nat_eq, MatchResult}
use Rattle.std.specs.BTreeMap.{BTreeMap, IsOrdered}
use Rattle.std.specs.List.Sorted.{IsStrictlySortedBy}
use Rattle.std.specs.Map.{lookup}
use Rattle.std.specs.Option.{option_map}
use Rattle.std.specs.Ordering.{nat_cmp, is_eq}
use Rattle.std.specs.declared.string.String.{String}
use Rattle.std.specs.declared.vec.Vec.{Vec}
use Rattle.std.proofs.lemmas.Bool.Decides.{nat_tests}
use Rattle.std.proofs.lemmas.Map.Made.{keys_of-map_values, lookup-map_values}
use Rattle.reed_solomon_simd.specs.OneCall.{shards_in, OneDecodeAnswers}
use Rattle.reed_solomon_simd.specs.declared.Error.{Error}
use Rattle.reed_solomon_simd.specs.declared.Error.TheVariants.{OutOfMemory}
use Rattle.reed_solomon_simd.specs.Given.{Shards, Lists}
use Rattle.rs.specs.declared.fault.Fault.{Fault}
use Rattle.rs.specs.declared.fault.Fault.TheVariants.{Usage, Refused}
use Rattle.rs.specs.CommandLine.{GivenItems}
use Rattle.rs.specs.Printed.{ListsShards, concatenation, RestoresLines, OrLacksMemory}
use Rattle.rs.specs.Printed.{Refuses}
use Rattle.rs.specs.Printed.{HasFault}
use Rattle.rs.specs.Reported.{status_of, IsReportedAs}
use Rattle.rs.proofs.ListedLemmas.{lists-sorted}

compared_equal : (x y : ℕ) → is_eq (nat_cmp x y) ≡ nat_eq x y
compared_equal x y = grind (arith, nat_tests)

lookup-same : {X : Type 0} (test other : ℕ → Bool) → ((k : ℕ) → test k ≡ other k) → (entries : List (ℕ × X))
    → lookup test entries ≡ lookup other entries
lookup-same test other same [] = refl
lookup-same test other same (entry ∷ entries) =
    ap₂ (λ found later. cond found (Some entry.1) later) (same entry.0) (lookup-same test other same entries)

-- The entries of an ordered map are the list of its shards in order of index.
pub entries_in_order : {Y : Type 0} (vectors : BTreeMap ℕ (Vec ℕ Y)) → IsOrdered nat_cmp vectors
    → Lists (shards_in vectors) (map (λ e. (e.0, e.1.items)) vectors.entries)
entries_in_order vectors ordered =
    lists-sorted (shards_in vectors) (map (λ e. (e.0, e.1.items)) vectors.entries)
    (subst (IsStrictlySortedBy nat_cmp) (sym (keys_of-map_values (λ v. v.items) vectors.entries)) ordered)
    (λ i. ap (option_map (λ v. v.items))
    (lookup-same (λ k. is_eq (nat_cmp i k)) (nat_eq i) (compared_equal i) vectors.entries)
    ∙ sym (lookup-map_values (λ v. v.items) (nat_eq i) vectors.entries))

-- If the texts are the lines of the restored originals or the result is `OutOfMemory`, the result is one of a decode
-- command.
pub restores-lines : {Y Z : Type 0} (k r : ℕ) (given : GivenItems) (restored : Shards)
    (result : Result (Vec (String Y) Z) Error)
    → OneDecodeAnswers k r given.originals given.recovery (Ok restored)
    → MatchResult result (λ texts. ListsShards restored (concatenation texts)) (λ e. e ≡ OutOfMemory)
    → OrLacksMemory (RestoresLines k r given) result
restores-lines k r given restored (Ok texts) answered lines = (restored, answered, lines)
restores-lines k r given restored (Err e) answered lacking = inr lacking

-- If the status is 1, the program reports an error that is the one for these words.
pub refusal-reported : (words : List (List ℕ)) (fault reported : Fault) → status_of fault ≡ 1 → HasFault words fault
    → IsReportedAs fault reported
    → (e : Error) × Refuses words e × (reported ≡ Refused e)
refusal-reported words Usage reported one bad same = absurd (let two : 2 ≡ 1 = one in omega arith)
refusal-reported words (Refused e) reported one refused (inl same) = (e, refused, same)
refusal-reported words (Refused e) reported one refused (inr lacking) = (OutOfMemory, inr refl, lacking)
