use Rattle.std.proofs.Common.{◌≡◌, ◌+◌, map, drop}
use Rattle.rs_ffi.specs.Places.{place_of_other}
use Rattle.rs_ffi.proofs.fault_places.find_other.Given as goal

-- The entries so far have the size, so the search over all entries goes on with the remaining ones.
abbrev pub invariant-loop-place : goal.invariant-loop-place
invariant-loop-place g l =
    place_of_other l.size (map g.T.Entry.bytes l.entries)
    ≡ l.place + place_of_other l.size (drop l.place (map g.T.Entry.bytes l.entries))
