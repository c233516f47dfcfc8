use Rattle.std.proofs.Common.{rules, arith, ◌≡◌, ◌++◌, ◌∷◌, []}
use Rattle.std.proofs.lemmas.Result.{err_from_is_err_and}
use Rattle.std.proofs.lemmas.List.{map_push}
use Rattle.rs_volumes.specs.Description.{field_of, fields_of}
use Rattle.rs_volumes.proofs.Entries.{field_shorter, field_goes_on, field_ends, fields_done, no_more}
use Rattle.rs_volumes.proofs.reading.fields_in.Goals as goal

pub returns-in_err-field : goal.returns-in_err-field
returns-in_err-field c =
    let p = err_from_is_err_and c.from_residual.result c.from_residual.ensures.1 in
    rw (p.1, p.2)
    (field_ends (fields_of c.loop-rest.fields.items) c.loop-rest.rest.now c.loop-rest.invariant
    c.in_err-field.field-0.0 (search rules) c.in_err-field.ensures)

pub loop-rest-smaller : goal.loop-rest-smaller
loop-rest-smaller c =
    let shorter = field_shorter c.loop-rest.rest.now (field_of c.in_ok-field.field, c.in_ok-field.after.now)
    c.in_ok-field.ensures in
    omega (arith, shorter)

pub loop-rest-preserved : goal.loop-rest-preserved
loop-rest-preserved c =
    let f = c.in_ok-field.field in
    let e : fields_of c.push.new.self.items ≡ fields_of c.loop-rest.fields.items ++ field_of f ∷ [] =
    rw c.in_ok-push.ensures.items (map_push _ c.loop-rest.fields.items f) in
    rw e (field_goes_on (fields_of c.loop-rest.fields.items) c.loop-rest.rest.now c.loop-rest.invariant
    c.in_ok-field.ensures)

pub returns : goal.returns
returns c = fields_done (fields_of c.loop-rest.fields.items) c.loop-rest.rest.now c.loop-rest.invariant
    (search (rules, no_more))
