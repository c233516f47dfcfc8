use Rattle.std.proofs.Common.{◌≡◌, length, ap}
use Rattle.std.proofs.lemmas.List.Elements.{All-map}
use Rattle.reed_solomon_simd.proofs.reconstructing.rebuild_vectors.Goals as goal

pub rebuild_apart-requires-clause-fit : goal.rebuild_apart-requires-clause-fit
rebuild_apart-requires-clause-fit g c =
    All-map (λ s. length s ≡ 0) (λ v. v.items) c.in-Ok.vectors.items
    (λ i d h. ap length (c.in-Ok.ensures.empty i d h))
