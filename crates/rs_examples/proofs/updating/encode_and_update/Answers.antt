use Rattle.std.proofs.Common.{◌≡◌, ℕ, ◌<◌, List, [], length, get_or, set, All, Bor, Ok, sym, subst}
use Rattle.std.specs.Prelude.{OnOk}
use Rattle.std.proofs.lemmas.List.{length-map, get_or-map}
use Rattle.rs_field.specs.code.Code.{AreRecovery}
use Rattle.rs_field.specs.code.Column.{Shard, shard_at}
use Rattle.rs_field.specs.code.OneCall.{default_of}
use Rattle.reed_solomon_simd.specs.Into.{EncodesInto}
use Rattle.reed_solomon_simd.specs.Rooms.{shards_of, bytes_in}
use Rattle.reed_solomon_simd.specs.Updated.{UpdatesInto}
use Rattle.rs_examples.proofs.UpdatedCode.{encoded-updated}
use Rattle.rs_examples.proofs.updating.encode_and_update.Goals as goal

pub returns : goal.returns
returns c =
    let r : ℕ = c.args.recovery_count in let index : ℕ = c.args.index in
    let d : Bor (List ℕ) = record { ref_ptr = (0, 0); now = [] } in
    let shards : List Shard = shards_of c.args.original.now in
    let before : List Shard = bytes_in c.args.recovery.now in
    let coded : List Shard = bytes_in c.encode_into.new.recovery in
    let after : List Shard = bytes_in c.update_into.new.recovery in
    let result = c.update_into.result in
    let many : length (shards_of c.args.original.now) ≡ length c.args.original.now =
    length-map c.args.original.now (λ shard. shard.now) in
    let here : shard_at (shards_of c.args.original.now) c.args.index ≡ (get_or c.args.original.now c.args.index d).now =
    get_or-map (λ shard. shard.now) c.args.original.now c.args.index d [] c.requires in
    let bytes : All (All (λ b. b < 256)) (shards_of c.args.original.now) =
    λ i e h. let inside : i < length c.args.original.now = subst (λ (n : ℕ). i < n) many h in
    subst (All (λ b. b < 256)) (sym (get_or-map (λ shard. shard.now) c.args.original.now i d e inside))
    (c.slices_are_bytes.ensures i d inside) in
    subst (λ (k : ℕ). OnOk result (AreRecovery (default_of k r (length (shard_at shards index)))
    (set shards index c.args.new.now) after)) many
    (encoded-updated r index shards before coded after c.args.new.now result bytes c.are_bytes.ensures.all
    (subst (λ (n : ℕ). index < n) (sym many) c.requires)
    (subst (λ (k : ℕ). EncodesInto k r shards before coded (Ok tt)) (sym many) c.in_ok-encode_into.ensures.answer)
    (subst (λ (k : ℕ). UpdatesInto k r index (shard_at shards index) c.args.new.now coded after result) (sym many)
    (subst (λ (s : Shard). UpdatesInto (length c.args.original.now) r index s c.args.new.now coded after result)
    (sym here) c.update_into.ensures.answer)))
