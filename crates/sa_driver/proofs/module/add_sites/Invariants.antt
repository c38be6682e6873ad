use Rattle.std.proofs.Common.{◌≡◌, ◌++◌, map, take}
use Rattle.sa_driver.proofs.module.add_sites.Given as goal

abbrev pub invariant-loop-site : goal.invariant-loop-site
invariant-loop-site l = l.to ≡ l.initial.to ++ map (λ site. site.pos) (take l.site-index l.sites)
