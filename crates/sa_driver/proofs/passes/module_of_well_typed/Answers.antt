use Rattle.std.proofs.Common.{◌∙◌, ap}
use Rattle.std.proofs.lemmas.Result.{IfOk-weaker}
use Rattle.std.specs.Prelude.{flat_map}
use Rattle.sa_driver.specs.Built.{feature_sites}
use Rattle.sa_driver.proofs.ModuleLemmas.{numbered}
use Rattle.sa_driver.proofs.passes.module_of_well_typed.Goals as goal

pub returns-in-Ok-clause-numbered : goal.returns-in-Ok-clause-numbered
returns-in-Ok-clause-numbered c =
    numbered c.args.core c.tried.result _ _ c.tried.ensures.positions c.tried.ensures.sites (c.in_ok-flat.ensures.positions ∙ c.in_ok-positions.ensures) (c.in_ok-sites.ensures ∙ ap (flat_map feature_sites) c.as_slice.ensures)

-- a limit gives no module
pub returns-in_default-clause-tried : goal.returns-in_default-clause-tried
returns-in_default-clause-tried c = IfOk-weaker c.limit.result _ _ (λ built none. absurd none) c.limit.ensures.never

pub returns-in_default-clause-confined : goal.returns-in_default-clause-confined
returns-in_default-clause-confined c = IfOk-weaker c.limit.result _ _ (λ built none. absurd none) c.limit.ensures.never

pub returns-in_default-clause-numbered : goal.returns-in_default-clause-numbered
returns-in_default-clause-numbered c = IfOk-weaker c.limit.result _ _ (λ built none. absurd none) c.limit.ensures.never
