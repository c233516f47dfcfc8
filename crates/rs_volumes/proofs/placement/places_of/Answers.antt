use Rattle.std.proofs.Common.{rules}
use Rattle.std.proofs.lemmas.List.{take_all}
use Rattle.rs_volumes.specs.Places.{set_places}
use Rattle.rs_volumes.specs.Description.{set_of}
use Rattle.rs_volumes.specs.Data.{end_of}
use Rattle.rs_volumes.proofs.DataLemmas.{was_below}
use Rattle.rs_volumes.proofs.FileLemmas.{once_if, files_if}
use Rattle.rs_volumes.proofs.Layouts.{end_next, ends_too_late, next_none, next_some, size_in_end}
use Rattle.rs_volumes.proofs.Layouts.{wrong_block, long_data, all_places, places-cover, placed_if, set_rises}
use Rattle.rs_volumes.proofs.placement.places_of.Goals as goal
use Rattle.rs_volumes.proofs.placement.places_of.Goals.{then-entry-gt0+in_ok-push_places, else-entry-gt0}

pub returns-then-not-allows_block-clause-exact : goal.returns-then-not-allows_block-clause-exact
returns-then-not-allows_block-clause-exact c = search (rules, wrong_block)

pub loop-file-init : goal.loop-file-init
unfolding set_places end_of
loop-file-init c = search rules

pub end_after-requires-clause-some : goal.end_after-requires-clause-some
end_after-requires-clause-some c = search rules

pub end_after-requires-clause-unit_fits : goal.end_after-requires-clause-unit_fits
end_after-requires-clause-unit_fits c = search rules

pub returns-in_default-clause-exact : goal.returns-in_default-clause-exact
returns-in_default-clause-exact c = search (rules, long_data, ends_too_late)

pub overflow_sub-start : goal.overflow_sub-start
overflow_sub-start c = search (rules, size_in_end)

pub push_places-requires-clause-some : goal.push_places-requires-clause-some
push_places-requires-clause-some c = search (rules, size_in_end)

pub push_places-requires-clause-end_fits : goal.push_places-requires-clause-end_fits
push_places-requires-clause-end_fits c = search rules

pub loop-file-preserved : goal.loop-file-preserved
loop-file-preserved c =
    elim c.if-entry-gt0.branch [
      | then-entry-gt0+in_ok-push_places w ↦ search (rules, next_some, end_next, was_below)
      | else-entry-gt0 w ↦ search (rules, next_none, end_next, was_below)
    ]

pub returns-clause-exact : goal.returns-clause-exact
returns-clause-exact c = search (rules, all_places, take_all)

pub returns-clause-cover : goal.returns-clause-cover
returns-clause-cover c = search (rules, places-cover, take_all)

pub returns-clause-placed : goal.returns-clause-placed
returns-clause-placed c =
    placed_if (set_of c.args.description.now) c.loop-file.places.items (search rules) (search (rules, take_all))

pub returns-clause-rising : goal.returns-clause-rising
returns-clause-rising c = search (rules, set_rises, take_all)

pub returns-clause-once : goal.returns-clause-once
returns-clause-once c =
    once_if (set_of c.args.description.now) (search rules) c.loop-file.places.items (search (rules, take_all))

pub returns-clause-files : goal.returns-clause-files
returns-clause-files c =
    files_if (set_of c.args.description.now) (search rules) c.loop-file.places.items (search (rules, take_all))
    (placed_if (set_of c.args.description.now) c.loop-file.places.items (search rules) (search (rules, take_all)))
