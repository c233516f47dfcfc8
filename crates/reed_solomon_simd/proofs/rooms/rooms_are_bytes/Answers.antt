use Rattle.std.proofs.Common.{◌≡◌, ℕ, ◌<◌, List, [], All, length, set, get_or, MutBor, sym, ap, ◌∙◌, subst}
use Rattle.std.proofs.Common.{inl, inr, arith}
use Rattle.std.proofs.lemmas.Bool.{cases_lt}
use Rattle.std.proofs.lemmas.List.{get_or-map, get_or_default, length-map, set-get_or}
use Rattle.rs_field.specs.code.Column.{shard_at}
use Rattle.reed_solomon_simd.specs.Rooms.{bytes_in}
use Rattle.reed_solomon_simd.proofs.rooms.rooms_are_bytes.Goals as goal

pub loop-i-preserved : goal.loop-i-preserved
loop-i-preserved c =
    let rooms : List (MutBor (List ℕ)) = c.loop-i.rooms in
    let index : ℕ = c.loop-i.i in
    let d : MutBor (List ℕ) = record { ref_ptr = (0, 0); ghost_name = 0; now = [] } in
    let same : c.loop-i.rooms ≡ c.args.rooms.now = c.loop-i.invariant.same in
    let inside : c.loop-i.i < length c.loop-i.rooms = omega (arith, ap length same, c.loop-i-test.true) in
    let held : (get_or rooms index d).now ≡ shard_at (bytes_in c.args.rooms.now) index =
    sym (get_or-map (λ room. room.now) rooms index d [] inside) ∙ ap (λ r. shard_at (bytes_in r) index) same in
    record {
      same = subst (λ v. set rooms index (record d {
        ref_ptr = (get_or rooms index d).ref_ptr;
        ghost_name = (get_or rooms index d).ghost_name;
        now = v;
      }) ≡ c.args.rooms.now)
          (sym c.room_is_bytes.ensures.same) (set-get_or rooms index d ∙ same);
      bytes = λ j h. elim (cases_lt j index) [
        | inl before ↦ c.loop-i.invariant.bytes j before
        | inr late ↦
            let here : c.loop-i.i ≡ j = omega (arith, h, late) in
            subst (λ i. All (λ b. b < 256) (shard_at (bytes_in c.args.rooms.now) i)) here
            (subst (All (λ b. b < 256)) (c.room_is_bytes.ensures.same ∙ held) c.room_is_bytes.ensures.bytes)
      ];
    }

pub returns-clause-bytes : goal.returns-clause-bytes
returns-clause-bytes c k d few =
    let rooms : List (MutBor (List ℕ)) = c.loop-i.rooms in
    let same : c.loop-i.rooms ≡ c.args.rooms.now = c.loop-i.invariant.same in
    let count : length (bytes_in c.loop-i.rooms) ≡ length c.loop-i.rooms = length-map rooms (λ room. room.now) in
    let held : All (λ b. b < 256) (shard_at (bytes_in c.args.rooms.now) k) =
    c.loop-i.invariant.bytes k (omega (arith, few, count, ap length same, c.loop-i.auto.i-end)) in
    subst (All (λ b. b < 256))
    (ap (λ r. shard_at (bytes_in r) k) (sym same) ∙ get_or_default (bytes_in rooms) k [] d few) held
