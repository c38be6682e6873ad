-- What a program's module is, and from which typed AST it is made.
use Rattle.std.specs.Prelude.{◌≡◌, ℕ, List, flat_map, map}
use Rattle.wa_syntax.specs.Binary.{SpellsModule}
use Rattle.sa_typed.specs.PositionList.{program_positions}
use Rattle.sa_typed.specs.declared.feature.TypedFeature.{TypedFeature}
use Rattle.sa_typed.specs.declared.program.TypedProgram.{TypedProgram}
use Rattle.sa_correctness.specs.Promise.{NeverStuck}
use Rattle.sa_correctness.specs.Runnable.{IsRunnable}
use Rattle.sa_ast.specs.declared.pos.Pos.{Pos}
use Rattle.sa_typing.specs.WellTyped.{IsWellTyped}
use Rattle.sa_driver.specs.declared.module.BuiltModule.{BuiltModule}

-- it was verified: it can be run, and its bytes spell it
pub record IsVerified (built : BuiltModule) : Type 0 where
  pub runnable : IsRunnable built.«module»
  pub spelled : SpellsModule built.bytes.items built.«module»

-- the positions of the sites of a feature
abbrev pub feature_sites : TypedFeature → List Pos
feature_sites feature = map (λ site. site.pos) feature.sites

-- those of a typed AST, feature by feature
abbrev pub program_sites : TypedProgram → List Pos
program_sites core = flat_map feature_sites core.features

-- the positions that it names by index are those that this AST carries, and its sites are those of the AST
pub record IsNumbered (core : TypedProgram) (built : BuiltModule) : Type 0 where
  pub positions : built.positions ≡ program_positions core
  pub sites : built.sites ≡ program_sites core

-- the AST is well typed, and its program never gets stuck, whatever the bytes of its room
pub record IsSafe (core : TypedProgram) : Type 0 where
  pub well : IsWellTyped core
  pub never_stuck : (room : ℕ) → NeverStuck core room

-- it is made from such an AST, whose positions it names
pub record IsCompiled (built : BuiltModule) : Type 0 where
  pub core : TypedProgram
  pub sound : IsSafe core
  pub numbered : IsNumbered core built
