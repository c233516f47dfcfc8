use Rattle.std.proofs.Common.{rules, ◌≡◌, ℕ, ◌≤◌, ◌+◌, Bool, List, take, length, subst, sym, ap, ◌∙◌, arith}
use Rattle.std.proofs.lemmas.List.{take_all, take_more_set, length-take-le}
use Rattle.rs_rate.specs.passes.Sums.{ListsMarked}
use Rattle.rs_rate.specs.rows.Marks.{how_many}
use Rattle.rs_field.specs.rows.MarkedRows.{is_marked}
use Rattle.rs_rate.proofs.passes_lemmas.SumLemmas.{listed-none, listed-more, listed-passed, listed-first}
use Rattle.rs_rate.proofs.passes.sums.list_base.Goals.{then-given-row, else-given-row}
use Rattle.rs_rate.proofs.passes.sums.list_base.Goals as goal

pub loop-row-init : goal.loop-row-init
loop-row-init c = search (rules, listed-none)

pub loop-row-preserved : goal.loop-row-preserved
loop-row-preserved c =
    let held = c.loop-row.invariant in
    let given = c.args.given.now in
    elim c.if-given-row.branch [
      | then-given-row w ↦ record {
        few = omega (arith, w.count-is, c.if-given-row.auto.rows, c.if-count-rows.false);
        listed = subst (ListsMarked given (c.loop-row.row + 1)) (cc (
          w.rows-is,
          w.count-is,
          take_more_set c.loop-row.rows c.loop-row.count c.loop-row.row (omega (arith, c.if-count-rows.false)),
        ))
            (listed-more given c.loop-row.row _ w.if-given-row.true held.listed);
      }
      | else-given-row w ↦ record {
        few = omega (arith, w.count-is, c.if-given-row.auto.rows);
        listed = subst (ListsMarked given (c.loop-row.row + 1)) (cc (w.rows-is, w.count-is))
            (listed-passed given c.loop-row.row _ w.if-given-row.false held.listed);
      }
    ]

-- The list of the rows before a row, of which there are as many as entries, is the base.
listed : (given : List Bool) (row count : ℕ) (rows : List ℕ) → row ≤ length given → count ≡ length rows
    → ListsMarked given row (take count rows)
    → (how_many row (is_marked given) ≡ length rows) × ListsMarked (take row given) (length given) rows
listed given row count rows within full lists =
    let whole : ListsMarked given row rows =
    subst (ListsMarked given row) (ap (λ n. take n rows) full ∙ take_all (length rows) rows (omega arith)) lists in
    (sym whole.count, listed-first given row (length given) rows within whole)

pub returns-then-count-rows : goal.returns-then-count-rows
returns-then-count-rows c =
    let made = listed c.args.given.now c.loop-row.row c.loop-row.count c.loop-row.rows (omega arith)
    c.if-count-rows.true c.loop-row.invariant.listed in
    record { end = omega arith; counted = made.0 ∙ c.loop-row.auto.rows; listed = made.1 }

pub returns : goal.returns
returns c =
    let held = c.loop-row.invariant in
    let given = c.args.given.now in
    let ends : c.loop-row.row ≡ length c.args.given.now = omega arith in
    let full : c.loop-row.count ≡ length c.loop-row.rows =
    omega (
      arith,
      held.listed.count,
      length-take-le c.loop-row.count c.loop-row.rows held.few,
      ap (λ n. how_many n (is_marked given)) ends,
    ) in
    let made = listed given (length given) c.loop-row.count c.loop-row.rows (omega arith) full
    (subst (λ n. ListsMarked given n (take c.loop-row.count c.loop-row.rows)) ends held.listed) in
    record { end = omega arith; counted = made.0 ∙ c.loop-row.auto.rows; listed = made.1 }
