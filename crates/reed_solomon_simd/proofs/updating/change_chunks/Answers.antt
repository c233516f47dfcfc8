use Rattle.std.proofs.Common.{ℕ, ◌*◌, ◌<◌, ◌≡◌, List, [], length, drop, get_or, MutBor, ap, ◌∙◌, sym, arith}
use Rattle.std.proofs.lemmas.List.{get_or-map, length-map}
use Rattle.reed_solomon_simd.specs.Rooms.{bytes_in, loans_of, rests}
use Rattle.reed_solomon_simd.proofs.updating.change_chunks.Goals as goal

pub change_rows-requires-clause-has : goal.change_rows-requires-clause-has
change_rows-requires-clause-has g c i k few inside =
    let rooms : List (MutBor (List ℕ)) = c.args.recovery.now in
    let n : ℕ = length c.args.change.old.now in
    let d : MutBor (List ℕ) = record { ref_ptr = (0, 0); ghost_name = 0; now = [] } in
    let count : length (loans_of c.args.recovery.now) ≡ length c.args.recovery.now =
    length-map rooms (λ room. (room.ref_ptr, room.ghost_name)) in
    let held : length (bytes_in c.args.recovery.now) ≡ length c.args.recovery.now =
    length-map rooms (λ room. room.now) in
    let all : length (rests (length c.args.change.old.now) c.args.recovery.now) ≡ length c.args.recovery.now =
    length-map rooms (λ room. (length room.now, drop (n * 64) room.now)) in
    let long = c.requires.room i [] (omega (arith, held, few, c.requires.number)) in
    let within : i < length c.args.recovery.now = omega (arith, few, c.requires.number) in
    let same : (get_or (rests (length c.args.change.old.now) c.args.recovery.now) i (0, [])).0
    ≡ length (get_or (bytes_in c.args.recovery.now) i []) =
    ap (λ (p : ℕ × List ℕ). p.0)
    (get_or-map (λ room. (length room.now, drop (n * 64) room.now)) rooms i d (0, []) within)
    ∙ ap length (sym (get_or-map (λ room. room.now) rooms i d [] within)) in
    (omega (arith, count, few, c.requires.number), inside, omega (arith, long, same, inside))
