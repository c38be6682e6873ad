use Rattle.std.proofs.Common.{inl, inr, refl}
use Rattle.sa_driver.specs.Built.{IsCompiled}
use Rattle.sa_driver.proofs.EndLemmas.{given_none, confined_of, made_is, taken_of}
use Rattle.sa_driver.proofs.RunLemmas.{ran_of}
use Rattle.sa_driver.proofs.run.run.Goals as goal

pub returns-in-Ok-clause-does : goal.returns-in-Ok-clause-does
returns-in-Ok-clause-does g c =
    let made : IsCompiled c.in-Ok.built = made_is _ _ IsCompiled c.in-Ok.is c.compile_files-sources.ensures.tree in
    rw (← c.as_slice.ensures.value) (inr (
      made.core,
      made.sound,
      taken_of _ _ _ _ _ _ _ c.in-Ok.is c.compile_files-sources.ensures.«module» c.run_built.ensures.sources,
      ran_of _ _ _ _ _ _ _ _ _ made.numbered c.run_built.ensures.sources (c.run_built.ensures.ran _ (confined_of _ _ _ c.in-Ok.is c.compile_files-sources.ensures.confined)),
    ))

pub returns-in-Err-clause-does : goal.returns-in-Err-clause-does
returns-in-Err-clause-does g c =
    rw (← c.as_slice.ensures.value) (inl (given_none _ _ _ _ _ _ c.in-Err.is c.compile_files-sources.ensures.«module» c.compile_files-sources.ensures.files c.without_module.ensures.sources c.without_module.ensures.cause c.without_module.ensures.bytes, refl, refl))
