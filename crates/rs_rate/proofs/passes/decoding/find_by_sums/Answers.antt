use Rattle.std.proofs.Common.{rules, Bool, ◌≡◌, ℕ, ◌+◌, ◌*◌, ◌^◌, ◌≤◌, sym, ap, ◌∙◌}
use Rattle.std.proofs.Common.{arith, pow_mono, subst, take, length, List, true, true≢false, inr}
use Rattle.std.proofs.lemmas.Bool.{cases_lt}
use Rattle.std.proofs.lemmas.List.{get_or-take, get_or_past, length-take}
use Rattle.rs_rate.proofs.passes_lemmas.SumLemmas.{factors_made, log_mod}
use Rattle.rs_rate.specs.passes.Sums.{ListsMarked}
use Rattle.std.specs.Prelude.{not}
use Rattle.rs_field.specs.code.Frame.{original_row}
use Rattle.rs_field.specs.rows.MarkedRows.{is_marked}
use Rattle.rs_field.specs.words.StepBounds.{CountsUpTo, LocatorCounts}
use Rattle.rs_field.specs.declared.words.steps.Steps.{Steps}
use Rattle.rs_field.proofs.words_lemmas.Counting.{counted}
use Rattle.rs_rate.specs.values.Configured.{rows_to_decode}
use Rattle.rs_rate.specs.passes.Decoding.{find_steps, sum_steps}
use Rattle.rs_rate.specs.rows.Marks.{how_many}
use Rattle.rs_rate.proofs.passes_lemmas.LocatedOnce.{located_once}
use Rattle.rs_rate.proofs.rows_lemmas.HowMany.{how_many-most}
use Rattle.rs_rate.proofs.passes.decoding.find_by_sums.Goals as goal

-- A row that is marked among the first marks is marked.
marked-first : (marks : List Bool) (n p : ℕ) → is_marked (take n marks) p ≡ true → is_marked marks p ≡ true
marked-first marks n p is = search (rules, cases_lt, get_or-take, get_or_past, length-take, true≢false)

pub are_sums_used-requires-clause-few : goal.are_sums_used-requires-clause-few
are_sums_used-requires-clause-few g c = search (rules, pow_mono, how_many-most)

pub are_sums_used-requires-clause-few_surplus : goal.are_sums_used-requires-clause-few_surplus
are_sums_used-requires-clause-few_surplus g c =
    let rows : rows_to_decode c.args.tally.configuration ≤ 2 ^ 16 = pow_mono c.requires.facts.configured.few in
    omega (arith, rows, c.requires.facts.few_surplus)

pub invariant_of-base : goal.invariant_of-base
invariant_of-base g c =
    let is = c.make_locator_once.ensures.locator in
    let logs : length c.logarithms.new.logs ≡ rows_to_decode c.args.tally.configuration = search rules in
    record {
      listed = subst (λ (n : ℕ). ListsMarked (take c.list_base.result c.given-given.result.now) n c.list_base.new.rows)
          (c.given-given.ensures.length ∙ c.requires.facts.marked ∙ sym is.entries) c.list_base.ensures.listed;
      made = factors_made c.logarithms.new.logs is logs (λ z some inside. search (rules, log_mod));
    }

-- A locator and direct sums take no more steps than this bound.
both_counted : (m n : ℕ) (a b c : Steps) → m ≤ n → LocatorCounts a b → CountsUpTo m 0 0 b c
    → CountsUpTo n 1048576 65536 a c
both_counted m n a b c most located summed =
    counted n 1048576 65536 a c (omega arith, omega arith) (omega arith, omega arith) (omega arith, omega arith)

pub returns-clause-words : goal.returns-clause-words
returns-clause-words g c =
    let own = c.args.tally.configuration in
    let given = c.given-given.ensures.marks in
    let base = take c.list_base.result c.given-given.result.now in
    let rows : length c.given-given.result.now ≡ rows_to_decode c.args.tally.configuration =
    c.given-given.ensures.length ∙ c.requires.facts.marked in
    let many : length c.list_base.new.rows ≡ c.args.tally.configuration.original_count = search rules in
    inr (
      base,
      c.make_locator_once.new.entries,
      record {
        given = λ p is.
            ap (λ (l : List Bool). is_marked l p) (sym given)
            ∙ marked-first c.given-given.result.now c.list_base.result p is;
        counted = ap (λ n. how_many n (is_marked base)) (sym rows) ∙ sym c.list_base.ensures.listed.count ∙ many;
      },
      c.make_locator_once.ensures.locator,
      rw (sym given) c.sum_rows-agrees.ensures.words,
    )

pub returns-clause-counts : goal.returns-clause-counts
returns-clause-counts g c =
    let tally = c.args.tally in
    let own = c.args.tally.configuration in
    let facts = c.requires.facts in
    let given = c.given-given.ensures.marks in
    let many : length c.list_base.new.rows ≡ c.args.tally.configuration.original_count = search rules in
    let total : length c.list_base.new.rows + c.args.tally.surplus
    ≡ how_many (rows_to_decode c.args.tally.configuration) (is_marked c.given-given.result.now) = search rules in
    let missing = ap (λ l. how_many own.original_count (λ i. not (is_marked l (original_row own.frame i)))) given
    ∙ facts.missing in
    let sums : CountsUpTo (sum_steps c.args.tally.configuration (c.args.tally.missing + c.args.tally.surplus)) 0 0
    c.make_locator_once.new.steps c.sum_rows-agrees.new.steps =
    subst (λ (n : ℕ). CountsUpTo ((n + tally.surplus) * (1 + 3 * own.original_count)) 0 0 c.make_locator_once.new.steps
    c.sum_rows-agrees.new.steps) missing
    (subst (λ (n : ℕ). CountsUpTo ((how_many own.original_count
    (λ i. not (is_marked c.given-given.result.now (original_row own.frame i))) + tally.surplus) * (1 + 3 * n)) 0 0
    c.make_locator_once.new.steps c.sum_rows-agrees.new.steps) many
    (c.sum_rows-agrees.ensures.counts c.args.tally.surplus total)) in
    both_counted (sum_steps own (tally.missing + tally.surplus)) (find_steps own) c.args.steps.now
    c.make_locator_once.new.steps c.sum_rows-agrees.new.steps
    (c.are_sums_used.ensures.0 c.if-not-are_sums_used.false).2
    c.make_locator_once.ensures.counts sums

pub returns-clause-once : goal.returns-clause-once
returns-clause-once g c =
    let total : length c.list_base.new.rows + c.args.tally.surplus
    ≡ how_many (rows_to_decode c.args.tally.configuration) (is_marked c.given-given.result.now) = search rules in
    located_once (λ stored. (c.make_locator_once.ensures.kept stored).1)
    (c.sum_rows-agrees.ensures.counts c.args.tally.surplus total)
