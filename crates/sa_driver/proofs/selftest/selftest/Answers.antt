use Rattle.std.proofs.Common.{inl, inr, refl}
use Rattle.sa_driver.specs.Files.{ComesOfGenerated, IsSpelledGenerated}
use Rattle.sa_driver.proofs.EndLemmas.{of_err, of_ok, confined_of}
use Rattle.sa_driver.proofs.selftest.selftest.Goals as goal

pub returns-in-Ok-clause-does : goal.returns-in-Ok-clause-does
returns-in-Ok-clause-does g c = inr c.run_apart.ensures.ran

pub run_apart-requires-clause-taken : goal.run_apart-requires-clause-taken
run_apart-requires-clause-taken g c = of_ok (IsSpelledGenerated c.args.classes c.compile_generated-sources.result.sources) (ComesOfGenerated c.args.classes c.compile_generated-sources.result.sources) _ _ c.in-Ok.is c.compile_generated-sources.ensures.«module»

pub run_apart-requires-clause-confined : goal.run_apart-requires-clause-confined
run_apart-requires-clause-confined g c = confined_of _ _ _ c.in-Ok.is c.compile_generated-sources.ensures.confined

pub returns-in-Err-clause-does : goal.returns-in-Err-clause-does
returns-in-Err-clause-does g c =
    inl (
      rw (c.without_module.ensures.sources, c.without_module.ensures.cause) (of_err (IsSpelledGenerated c.args.classes c.compile_generated-sources.result.sources) (ComesOfGenerated c.args.classes c.compile_generated-sources.result.sources) _ _ c.in-Err.is c.compile_generated-sources.ensures.«module»),
      c.without_module.ensures.bytes,
      refl,
    )
