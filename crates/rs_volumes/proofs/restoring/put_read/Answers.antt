use Rattle.std.proofs.Common.{rules, ◌≡◌, ◌≢◌, ◌++◌, ◌∷◌, ℕ, ◌+◌, [], List, Bool, length, take, sym, ◌∙◌, arith}
use Rattle.std.proofs.lemmas.Grind.{common_steps}
use Rattle.std.proofs.lemmas.List.{take_all}
use Rattle.std.specs.Global.{Vec}
use Rattle.rs_field.specs.code.OneCall.{Items}
use Rattle.rs_volumes.specs.Restoring.{items_of}
use Rattle.rs_volumes.proofs.Written.{gets_none, gets_more, gets_same, items_more}
use Rattle.rs_volumes.proofs.restoring.put_read.Goals as goal
use Rattle.rs_volumes.proofs.restoring.put_read.Goals.{then-index-wanted+then-wanted-index+in_ok-put_one}
use Rattle.rs_volumes.proofs.restoring.put_read.Goals.{else-index-wanted}

pub loop-index-init : goal.loop-index-init
loop-index-init g c =
    record {
      number = c.requires;
      put = λ held before are. (held, are, gets_none c.args.wanted.now held);
      others = search rules;
    }

pub loop-index-preserved : goal.loop-index-preserved
loop-index-preserved g c =
    let held_before = c.loop-index.invariant in
    let wanted : List Bool = c.args.wanted.now in
    let pieces = c.args.pieces.now in
    let n : ℕ = c.loop-index.index-index in
    let p : ℕ × Vec ℕ = c.loop-index-item.result in
    let done : Items = items_of (take n pieces) in
    let more : items_of (take (n + 1) pieces) ≡ done ++ (p.0, p.1.items) ∷ [] =
    items_more pieces c.loop-index-test.true c.loop-index-item.is in
    elim c.if-index-wanted.branch [
      | then-index-wanted+then-wanted-index+in_ok-put_one w ↦
          record {
            number = rw w.outputs-is (w.put_one.ensures.number (length wanted) held_before.number);
            put = λ held before are.
                let so_far = held_before.put held before are in
                let step = w.in_ok-put_one.ensures.held so_far.0 before so_far.1 in
                rw (w.sink-is, w.outputs-is, more) (
                  step.0,
                  step.2,
                  gets_more wanted done (p.0, p.1.items) held so_far.2 (rw w.as_slice.ensures.value at step.1),
                );
            others = λ i unwanted.
                let other : i ≢ p.0 = grind (arith, common_steps) in
                rw w.sink-is (w.put_one.ensures.others i other ∙ held_before.others i unwanted);
          }
      | else-index-wanted w ↦
          record {
            number = rw w.outputs-is held_before.number;
            put = λ held before are.
                let so_far = held_before.put held before are in
                rw (w.sink-is, w.outputs-is, more) (
                  so_far.0,
                  so_far.1,
                  gets_same wanted done (p.0, p.1.items) held so_far.2 (grind (arith, common_steps)),
                );
            others = search rules;
          }
    ]

pub returns-clause-put : goal.returns-clause-put
returns-clause-put g c held before are =
    rw (sym (take_all c.loop-index.index-index c.args.pieces.now c.loop-index-test.false))
    (c.loop-index.invariant.put held before are)
