use Rattle.std.proofs.Common.{◌≡◌, ◌≢◌, ℕ, false, true, subst, ◌∙◌, arith}
use Rattle.std.proofs.lemmas.Grind.{common_steps}
use Rattle.std.specs.Prelude.{map}
use Rattle.std.specs.Global.{Vec}
use Rattle.rs_examples.specs.Losing.{is_lost}
use Rattle.rs_examples.proofs.BlocksBack.{lost_item, block_other}
use Rattle.rs_examples.proofs.block_round_trip.damage_blocks.Goals.{then-index-len+in_ok-stored, else-index-len}
use Rattle.rs_examples.proofs.block_round_trip.damage_blocks.Goals as goal

pub loop-index-preserved : goal.loop-index-preserved
loop-index-preserved c =
    let held = c.loop-index.invariant in
    let p : ℕ × Vec ℕ = c.loop-index-item.result in
    let gone : is_lost (map (λ (block : ℕ × Vec ℕ). block.0) c.args.damage.now) p.0 ≡ true =
    lost_item c.args.damage.now c.loop-index-test.true c.loop-index-item.is in
    elim c.if-index-len.branch [
      | then-index-len+in_ok-stored w ↦
          rw w.stored-is (record {
            number = grind (arith, common_steps);
            left = λ i kept.
                let other : i ≢ p.0 = λ same. (
                let here = subst (λ (j : ℕ). is_lost (map (λ (block : ℕ × Vec ℕ). block.0) c.args.damage.now) j ≡ false)
                same kept in let no : ⊥ = cc in no
                ) in
                block_other c.loop-index.stored.blocks.items p.0 w.in_ok-stored.field-0 i other ∙ held.left i kept;
          })
      | else-index-len w ↦ rw w.stored-is (record { number = held.number; left = held.left })
    ]
