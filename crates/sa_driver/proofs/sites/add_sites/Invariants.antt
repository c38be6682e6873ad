use Rattle.std.proofs.Common.{◌≡◌, ◌++◌, flat_map, take}
use Rattle.std.specs.List.{All}
use Rattle.sa_driver.specs.Files.{IsPlaceIn}
use Rattle.sa_driver.specs.Sites.{site_tokens}
use Rattle.sa_driver.proofs.sites.add_sites.Given as goal

abbrev pub invariant-loop-pos : goal.invariant-loop-pos
invariant-loop-pos l =
    (l.writer.tokens ≡ l.initial.writer.tokens ++ flat_map (site_tokens l.sources) (take l.pos-index l.positions))
    × (l.writer.before ≡ l.initial.writer.before)
    × All (IsPlaceIn l.sources.texts) (take l.pos-index l.positions)
