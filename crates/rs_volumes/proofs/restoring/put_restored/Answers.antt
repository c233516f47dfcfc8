use Rattle.std.proofs.Common.{rules, ◌≡◌, ◌≢◌, ◌++◌, ℕ, List, Bool, [], length, refl, sym, ap, ◌∙◌, arith}
use Rattle.std.proofs.lemmas.Grind.{common_steps}
use Rattle.std.proofs.lemmas.List.{append-nil}
use Rattle.rs_field.specs.code.Column.{Shard}
use Rattle.rs_field.specs.code.OneCall.{shards_in}
use Rattle.rs_volumes.specs.Restoring.{bytes_of}
use Rattle.rs_volumes.proofs.Written.{got_none, got_next}
use Rattle.rs_volumes.proofs.restoring.put_restored.Goals as goal
use Rattle.rs_volumes.proofs.restoring.put_restored.Goals.{then-is_wanted+in-Some+in_ok-put_one}
use Rattle.rs_volumes.proofs.restoring.put_restored.Goals.{then-is_wanted+in_default, else-is_wanted}

pub loop-index-init : goal.loop-index-init
loop-index-init g c =
    record {
      number = c.requires;
      put = λ held before are.
          (held, are, got_none c.args.wanted.now (λ i. bytes_of (shards_in c.args.restored.now i)) held);
      others = search rules;
    }

pub loop-index-preserved : goal.loop-index-preserved
loop-index-preserved g c =
    let held_before = c.loop-index.invariant in
    let wanted : List Bool = c.args.wanted.now in
    let n : ℕ = c.loop-index.index-counter in
    let piece : ℕ → Shard = λ i. bytes_of (shards_in c.args.restored.now i) in
    elim c.if-is_wanted.branch [
      | then-is_wanted+in-Some+in_ok-put_one w ↦
          let is : w.as_slice.result.now ≡ piece n = w.as_slice.ensures.value ∙ grind (arith, common_steps) in
          record {
            number = rw w.outputs-is (w.put_one.ensures.number (length wanted) held_before.number);
            put = λ held before are.
                let so_far = held_before.put held before are in
                let step = w.in_ok-put_one.ensures.held so_far.0 before so_far.1 in
                rw (w.sink-is, w.outputs-is) (
                  step.0,
                  step.2,
                  got_next wanted piece so_far.2 step.1.others
                      (λ own. step.1.here ∙ ap (λ (s : Shard). so_far.0 n ++ s) is),
                );
            others = λ i unwanted.
                let other : i ≢ n = grind (arith, common_steps) in
                rw w.sink-is (w.put_one.ensures.others i other ∙ held_before.others i unwanted);
          }
      | then-is_wanted+in_default w ↦
          let none : piece n ≡ [] = grind (arith, common_steps) in
          record {
            number = rw w.outputs-is held_before.number;
            put = λ held before are.
                let so_far = held_before.put held before are in
                rw (w.sink-is, w.outputs-is) (
                  so_far.0,
                  so_far.1,
                  got_next wanted piece so_far.2 (λ i e. refl)
                      (λ own. sym (append-nil (so_far.0 n)) ∙ ap (λ (s : Shard). so_far.0 n ++ s) (sym none)),
                );
            others = search rules;
          }
      | else-is_wanted w ↦
          record {
            number = rw w.outputs-is held_before.number;
            put = λ held before are.
                let so_far = held_before.put held before are in
                rw (w.sink-is, w.outputs-is) (
                  so_far.0,
                  so_far.1,
                  got_next wanted piece so_far.2 (λ i e. refl) (λ own. absurd (grind (arith, common_steps))),
                );
            others = search rules;
          }
    ]
