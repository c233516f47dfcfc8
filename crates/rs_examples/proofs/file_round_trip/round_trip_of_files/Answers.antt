use Rattle.std.proofs.Common.{rules, ◌≡◌, ◌≤◌, ◌^◌, ℕ, List, length, map, refl, subst, All, sym, ◌∙◌, arith}
use Rattle.std.proofs.lemmas.List.{length-map}
use Rattle.std.specs.Global.{Vec}
use Rattle.std.proofs.lemmas.Result.{err_from_is_err_and}
use Rattle.reed_solomon_simd.specs.Column.{Shard}
use Rattle.rs_volumes.specs.declared.placement.Place.{Place}
use Rattle.rs_volumes.specs.Description.{FileSet, set_of}
use Rattle.rs_volumes.specs.Laid.{HoldFiles}
use Rattle.rs_volumes.specs.Places.{IsPlaced}
use Rattle.rs_volumes.proofs.Layouts.{block_allowed}
use Rattle.rs_volumes.specs.declared.creating.Shape.{Shape}
use Rattle.rs_examples.specs.Blocks.{contents}
use Rattle.rs_examples.specs.Files.{bytes_of, AreCut}
use Rattle.rs_examples.proofs.FilesBack.{enough-laid, files-back, row-laid, within-laid}
use Rattle.rs_examples.proofs.file_round_trip.round_trip_of_files.Goals as goal

pub lay-requires-clause-some : goal.lay-requires-clause-some
lay-requires-clause-some c =
    c.unit_of.ensures.some (block_allowed (set_of c.args.description.now) c.in_ok-places.places.items
    c.in_ok-places.ensures.exact).0

pub lay-requires-clause-fits : goal.lay-requires-clause-fits
lay-requires-clause-fits c =
    let few = (block_allowed (set_of c.args.description.now) c.in_ok-places.places.items
    c.in_ok-places.ensures.exact).1 in
    let le : c.args.description.now.block_bytes ≤ 2 ^ 62 = omega (arith, few) in
    c.unit_of.ensures.few le

pub returns-in_err-back-clause-memory : goal.returns-in_err-back-clause-memory
returns-in_err-back-clause-memory c left given valid =
    let s : FileSet = set_of c.args.description.now in
    let files : List Shard = bytes_of c.args.files.now in
    let lost : List ℕ = map (λ (block : ℕ × Vec ℕ). block.0) c.args.damage.now in
    let shape : Shape =
    record { original_count = s.original_count; recovery_count = s.recovery_count; block_bytes = s.block_bytes } in
    let blocks = row-laid s files c.unit_of.result c.in_ok-row.row.items c.as_slice.result.now
    (contents c.in_ok-originals.originals) left.counted c.unit_of.ensures.answer c.in_ok-row.ensures.laid
    c.as_slice.ensures.value c.in_ok-originals.ensures in
    let p = err_from_is_err_and c.from_residual-in_err-back.result c.from_residual-in_err-back.ensures.1 in
    rw (p.1, p.2)
    (c.in_err-back.ensures.memory
    (enough-laid s files lost shape (contents c.in_ok-originals.originals) left refl refl refl blocks) valid)

pub cut_files-requires-clause-fits : goal.cut_files-requires-clause-fits
cut_files-requires-clause-fits c k d inside =
    let s : FileSet = set_of c.args.description.now in
    let placed = subst (λ (ps : List Place). All (IsPlaced s) ps) (sym c.as_slice-2.ensures.value)
    c.in_ok-places.ensures.placed in
    let within = (placed k d inside).within in
    let few = (block_allowed s c.in_ok-places.places.items c.in_ok-places.ensures.exact).1 in
    omega (arith, within, few)

pub returns-in_err-files-clause-memory : goal.returns-in_err-files-clause-memory
returns-in_err-files-clause-memory c left given valid =
    let s : FileSet = set_of c.args.description.now in
    let files : List Shard = bytes_of c.args.files.now in
    let lost : List ℕ = map (λ (block : ℕ × Vec ℕ). block.0) c.args.damage.now in
    let shape : Shape =
    record { original_count = s.original_count; recovery_count = s.recovery_count; block_bytes = s.block_bytes } in
    let blocks = row-laid s files c.unit_of.result c.in_ok-row.row.items c.as_slice.result.now
    (contents c.in_ok-originals.originals) left.counted c.unit_of.ensures.answer c.in_ok-row.ensures.laid
    c.as_slice.ensures.value c.in_ok-originals.ensures in
    let back = c.in_ok-back.ensures.same
    (enough-laid s files lost shape (contents c.in_ok-originals.originals) left refl refl refl blocks) in
    let placed = subst (λ (ps : List Place). All (IsPlaced s) ps) (sym c.as_slice-2.ensures.value)
    c.in_ok-places.ensures.placed in
    let p = err_from_is_err_and c.from_residual-in_err-files.result c.from_residual-in_err-files.ensures.1 in
    rw (p.1, p.2)
    (c.in_err-files.ensures.memory
    (within-laid s files c.as_slice-2.result.now (contents c.in_ok-back.back) placed (back ∙ blocks)))

pub returns-clause-same : goal.returns-clause-same
returns-clause-same c left =
    let s : FileSet = set_of c.args.description.now in
    let files : List Shard = bytes_of c.args.files.now in
    let lost : List ℕ = map (λ (block : ℕ × Vec ℕ). block.0) c.args.damage.now in
    let shape : Shape =
    record { original_count = s.original_count; recovery_count = s.recovery_count; block_bytes = s.block_bytes } in
    let blocks = row-laid s files c.unit_of.result c.in_ok-row.row.items c.as_slice.result.now
    (contents c.in_ok-originals.originals) left.counted c.unit_of.ensures.answer c.in_ok-row.ensures.laid
    c.as_slice.ensures.value c.in_ok-originals.ensures in
    let back = c.in_ok-back.ensures.same
    (enough-laid s files lost shape (contents c.in_ok-originals.originals) left refl refl refl blocks) in
    let places : List Place = c.as_slice-2.result.now in
    let placed = subst (λ (ps : List Place). All (IsPlaced s) ps) (sym c.as_slice-2.ensures.value)
    c.in_ok-places.ensures.placed in
    let hold = subst (λ (ps : List Place). HoldFiles s ps) (sym c.as_slice-2.ensures.value)
    c.in_ok-places.ensures.files in
    let cut = c.in_ok-files.ensures.are
    (within-laid s files places (contents c.in_ok-back.back) placed (back ∙ blocks)) in
    let count : c.len-count.result ≡ length s.entries =
    search (rules, length-map) in
    files-back s files places (contents c.in_ok-back.back) (bytes_of c.in_ok-files.files.items) left.sizes hold
    (back ∙ blocks)
    (subst (λ (n : ℕ). AreCut n places (contents c.in_ok-back.back) (bytes_of c.in_ok-files.files.items)) count cut)
