use Rattle.std.proofs.Common.{◌∙◌, ap, refl}
use Rattle.std.specs.Prelude.{option_map}
use Rattle.sa_driver.proofs.SiteLemmas.{module_alone, none_written, sites_behind}
use Rattle.sa_driver.proofs.build.write_built.Goals as goal

pub returns-in-None-clause-writes : goal.returns-in-None-clause-writes
returns-in-None-clause-writes g c =
    module_alone _ _ _ _ _ c.args.sources.now c.args.built.now.positions _ (ap (option_map (λ file. file.now)) c.in-None.is) c.as_slice-bytes.ensures.value c.written.ensures.written

pub returns-in-Ok-clause-writes : goal.returns-in-Ok-clause-writes
returns-in-Ok-clause-writes g c =
    sites_behind _ _ _ _ _ _ _ _ c.as_slice.result.now c.args.built.now.positions _ (ap (option_map (λ file. file.now)) c.in-Some.is) c.as_slice-bytes.ensures.value (c.as_slice-in-Ok.ensures.value ∙ c.in-Ok.ensures.text) c.as_slice.ensures c.in-Ok.ensures.placed c.both_written.ensures.written

pub returns-in-Err-clause-writes : goal.returns-in-Err-clause-writes
returns-in-Err-clause-writes g c =
    none_written _ _ _ _ _ c.args.sources.now c.args.built.now.positions _ (ap (option_map (λ file. file.now)) c.in-Some.is) refl c.failed.ensures.internal
