use Rattle.std.proofs.Common.{rules, ◌≡◌, ℕ, ◌+◌, ◌-◌, ◌*◌, ◌/◌, ◌<◌, List, [], length, get_or, MutBor, inl, inr}
use Rattle.std.proofs.Common.{sym, ap}
use Rattle.std.proofs.Common.{◌∙◌, subst, arith}
use Rattle.std.specs.Prelude.{slice_index}
use Rattle.std.proofs.lemmas.Bool.{cases_lt}
use Rattle.std.proofs.lemmas.List.{get_or-map}
use Rattle.rs_field.specs.code.Column.{Shard, shard_at}
use Rattle.reed_solomon_simd.specs.Rooms.{bytes_in}
use Rattle.reed_solomon_simd.specs.Updated.{IsChangedStrip, AddsToStrip}
use Rattle.reed_solomon_simd.proofs.UpdateLemmas.{shard-set, shard-kept, strip-changed}
use Rattle.reed_solomon_simd.proofs.updating.add_to_tails.Goals as goal

-- The room at the index holds what it held before the loop.
was_held : (rooms initial : List (MutBor (List ℕ))) (index : ℕ) → index < length rooms
    → shard_at (bytes_in rooms) index ≡ shard_at (bytes_in initial) index
    → (get_or rooms index (record { ref_ptr = (0, 0); ghost_name = 0; now = [] })).now
    ≡ shard_at (bytes_in initial) index
was_held rooms initial index inside same = search (rules, get_or-map)

pub add_to_rest-requires-clause-inside : goal.add_to_rest-requires-clause-inside
add_to_rest-requires-clause-inside g c =
    let index : ℕ = c.loop-i.i in
    let number = c.loop-i.invariant.number in
    let test = c.loop-i-test.true in
    let was = was_held c.loop-i.recovery c.args.recovery.now index (omega (arith, number, test))
    (c.loop-i.invariant.others index (omega arith)) in
    let long = c.requires.fit index (omega (arith, number, test)) in
    let wide : length c.put_change.new.change ≡ length c.args.old.now - length c.args.old.now / 64 * 64 =
    search rules in
    omega (arith, ap length was, long, wide)

pub loop-i-preserved : goal.loop-i-preserved
loop-i-preserved g c =
    let rooms : List (MutBor (List ℕ)) = c.loop-i.recovery in
    let index : ℕ = c.loop-i.i in
    let d : MutBor (List ℕ) = record { ref_ptr = (0, 0); ghost_name = 0; now = [] } in
    let number = c.loop-i.invariant.number in
    let test = c.loop-i-test.true in
    let inside : c.loop-i.i < length c.loop-i.recovery = omega (arith, number, test) in
    let was = was_held rooms c.args.recovery.now index inside (c.loop-i.invariant.others index (omega arith)) in
    let log : ℕ → ℕ = λ i. slice_index c.args.factors.now i in
    let initial : ℕ → Shard = λ i. shard_at (bytes_in c.args.recovery.now) i in
    let end : ℕ = length c.args.old.now in let start : ℕ = length c.args.old.now / 64 * 64 in
    let change : Shard = c.put_change.new.change in
    let wide : length c.put_change.new.change ≡ length c.args.old.now - length c.args.old.now / 64 * 64 =
    search rules in
    let ends : (length c.args.old.now / 64 * 64) + length c.put_change.new.change ≡ (length c.args.old.now) =
    omega (arith, wide) in
    let adds : AddsToStrip start end change (log index) (get_or rooms index d).now c.add_to_rest.new.shard =
    subst (λ (n : ℕ). AddsToStrip start n change (log index) (get_or rooms index d).now c.add_to_rest.new.shard) ends
    (search rules) in
    let strip : IsChangedStrip start end c.args.old.now c.args.new.now (log index) (get_or rooms index d).now
    c.add_to_rest.new.shard =
    strip-changed start end c.args.old.now c.args.new.now change (log index) (get_or rooms index d).now
    c.add_to_rest.new.shard wide (λ j h. c.put_change.ensures.words j (search rules)) adds in
    record {
      number = search rules;
      kept = search rules;
      changed = λ i h. elim (cases_lt i c.loop-i.i) [
        | inl before ↦
            subst (λ (s : Shard). IsChangedStrip start end c.args.old.now c.args.new.now (log i) (initial i) s)
            (sym (shard-kept rooms index i _ (λ same. let no : ⊥ = omega (arith, before, same) in no)))
            (c.loop-i.invariant.changed i before)
        | inr not_before ↦
            let here : i ≡ c.loop-i.i = omega (arith, h, not_before) in
            subst (λ (s : Shard). IsChangedStrip start end c.args.old.now c.args.new.now (log i) (initial i) s)
            (sym (shard-set rooms index i _ inside here))
            (subst (λ (n : ℕ). IsChangedStrip start end c.args.old.now c.args.new.now (log n) (initial n)
            c.add_to_rest.new.shard)
            (sym here)
            (subst (λ (s : Shard). IsChangedStrip start end c.args.old.now c.args.new.now (log c.loop-i.i) s
            c.add_to_rest.new.shard)
            was strip))
      ];
      others = λ i h.
          shard-kept rooms index i _ (λ same. let no : ⊥ = omega (arith, h, same) in no)
          ∙ c.loop-i.invariant.others i (omega (arith, h));
    }
