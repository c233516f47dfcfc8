use Rattle.std.proofs.Common.{rules, ◌≡◌, ◌∷◌, [], List, length, All, Result, Ok, Err, refl, sym, ap, subst, ◌∙◌}
use Rattle.std.proofs.lemmas.List.{length-map, map-append}
use Rattle.std.proofs.lemmas.List.Elements.{All-push}
use Rattle.rs_field.specs.declared.code.error.Error.{Error}
use Rattle.rs_field.specs.code.Column.{Shard, IsShard}
use Rattle.rs_field.specs.code.Encoder.{EncoderState, with_shard}
use Rattle.rs_field.specs.code.Outcome.{answer_of, state_after}
use Rattle.reed_solomon_simd.specs.LentState.{lent_state}
use Rattle.reed_solomon_simd.specs.Rooms.{shards_of}
use Rattle.reed_solomon_simd.proofs.lent_originals.LentOriginals.add.Goals as goal

-- After an error, the state is what it was.
kept : (s : EncoderState) (o : Result EncoderState Error) (e : Error) → Err e ≡ answer_of o → s ≡ state_after s o
kept s (Ok t) e same = absurd (let no : ⊥ = cc in no)
kept s (Err x) e same = refl

pub returns-in_err-check_original-clause-answer : goal.returns-in_err-check_original-clause-answer
returns-in_err-check_original-clause-answer c =
    let number : length (shards_of c.args.self.now.shards.items) ≡ c.len-index.result = search (rules, length-map) in
    let refused = c.in_err-check_original.ensures.answer (lent_state c.args.self.now) refl refl number in
    search rules

pub returns-in_err-check_original-clause-left : goal.returns-in_err-check_original-clause-left
returns-in_err-check_original-clause-left c =
    let number : length (shards_of c.args.self.now.shards.items) ≡ c.len-index.result = search (rules, length-map) in
    kept (lent_state c.args.self.now) (with_shard (lent_state c.args.self.now) c.args.shard.now) _
    (c.in_err-check_original.ensures.answer (lent_state c.args.self.now) refl refl number)

pub invariant_of-self-clause-sized : goal.invariant_of-self-clause-sized
invariant_of-self-clause-sized c =
    subst (λ (l : List Shard). All (IsShard c.args.self.now.shard_bytes) l)
    (sym (ap shards_of c.push_reserved.ensures.items
    ∙ map-append (λ x. x.now) c.args.self.now.shards.items (c.args.shard ∷ [])))
    (All-push (IsShard c.args.self.now.shard_bytes)
    (shards_of c.args.self.now.shards.items) c.args.shard.now c.args.self.now.sized
    c.in_ok-check_original.ensures.shard)
