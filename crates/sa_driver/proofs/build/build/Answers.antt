use Rattle.std.proofs.Common.{inl, inr, subst, sym}
use Rattle.sa_driver.specs.Built.{IsCompiled}
use Rattle.sa_driver.specs.Lines.{IsPlaced}
use Rattle.sa_driver.proofs.EndLemmas.{given_none, made_is, module_earlier, placed_module, spells_of, taken_of}
use Rattle.sa_driver.proofs.build.build.Goals as goal

pub returns-in-Ok-clause-does : goal.returns-in-Ok-clause-does
returns-in-Ok-clause-does g c =
    let made : IsCompiled c.in-Ok.built = made_is _ _ IsCompiled c.in-Ok.is c.compile_files-sources.ensures.tree in
    rw (← c.as_slice.ensures.value) (inr (
      made.core,
      made.sound,
      taken_of _ _ _ _ _ _ _ c.in-Ok.is c.compile_files-sources.ensures.«module» c.without_run.ensures.sources,
      spells_of _ c.in-Ok.built _ _ c.in-Ok.is c.compile_files-sources.ensures.built c.compile_files-sources.ensures.confined c.without_run.ensures.bytes,
      module_earlier _ _ _ _ _ _ _ _ _ _ _ _ _ _ _ _ c.compile_files-sources.ensures.files c.compile_files-sources.ensures.count c.without_run.ensures.bytes c.without_run.ensures.sources (sym made.numbered.positions) c.without_run.ensures.cause c.write_built-cause.ensures.writes,
    ))

pub returns-in-Err-clause-does : goal.returns-in-Err-clause-does
returns-in-Err-clause-does g c =
    rw (← c.as_slice.ensures.value) (inl (given_none _ _ _ _ _ _ c.in-Err.is c.compile_files-sources.ensures.«module» c.compile_files-sources.ensures.files c.without_module.ensures.sources c.without_module.ensures.cause c.without_module.ensures.bytes))

pub returns-in-Ok-clause-placed : goal.returns-in-Ok-clause-placed
returns-in-Ok-clause-placed g c =
    subst (IsPlaced c.without_run.result.sources) (sym c.without_run.ensures.cause) (placed_module _ _ _ _ _ c.without_run.result.sources _ _ c.write_built-cause.ensures.writes)
