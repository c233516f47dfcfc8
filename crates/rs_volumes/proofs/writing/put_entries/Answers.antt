use Rattle.std.proofs.Common.{rules, ◌≡◌, ℕ, ◌+◌, ◌<◌, List, [], ◌∷◌, ◌++◌, length, get_or, take, ap, ◌∙◌, append_assoc}
use Rattle.std.specs.List.{flat_map}
use Rattle.std.proofs.lemmas.List.{append-nil}
use Rattle.std.proofs.lemmas.Grind.{flat_map-append}
use Rattle.std.proofs.lemmas.List.Concat.{flat_map-cons}
use Rattle.rs_volumes.specs.declared.description.Entry.{Entry}
use Rattle.rs_volumes.specs.Description.{entry_of, entries_of, entry_spelling}
use Rattle.rs_volumes.proofs.DataLemmas.{entries_further}
use Rattle.rs_volumes.proofs.writing.put_entries.Goals as goal

pub put_entry-requires : goal.put_entry-requires
put_entry-requires c =
    rw c.entry-item.is (c.requires c.loop-entry.entry-index _ c.loop-entry-test.true)

spelled_further : (entries : List Entry) (i : ℕ) (entry : Entry) → i < length entries → entry ≡ get_or entries i entry
    → flat_map entry_spelling (entries_of (take (i + 1) entries))
    ≡ flat_map entry_spelling (entries_of (take i entries))
    ++ entry_spelling (entry_of entry)
spelled_further entries i entry h e =
    ap (λ (fs : _). flat_map entry_spelling fs) (entries_further entries h e)
    ∙ flat_map-append entry_spelling (entries_of (take i entries)) (entry_of entry ∷ [])
    ∙ ap (λ (bytes : List ℕ). flat_map entry_spelling (entries_of (take i entries)) ++ bytes)
    (flat_map-cons entry_spelling (entry_of entry) [] ∙ append-nil (entry_spelling (entry_of entry)))

pub loop-entry-preserved : goal.loop-entry-preserved
loop-entry-preserved c = search (rules, append_assoc, spelled_further)
