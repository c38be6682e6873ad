-- The typed AST from which a module is made, and the positions that it names by index.
use Rattle.std.proofs.Common.{◌≡◌, ◌∙◌, ℕ, ◌+◌, ◌<◌, List, ◌++◌, length, get_or, drop, Result, Ok, Err, IfOk, add-one, drop-cons, append_assoc}
use Rattle.std.proofs.Math.Seq.{drop-length}
use Rattle.std.proofs.lemmas.List.{append-nil}
use Rattle.std.specs.Prelude.{IfErr, flat_map}
use Rattle.sa_typed.specs.PositionList.{program_positions}
use Rattle.sa_typed.specs.declared.feature.TypedFeature.{TypedFeature}
use Rattle.sa_typed.specs.declared.program.TypedProgram.{TypedProgram}
use Rattle.sa_type_safety.proofs.Runs.{never_stuck}
use Rattle.sa_ast.specs.declared.pos.Pos.{Pos}
use Rattle.sa_typing.specs.WellTyped.{IsWellTyped}
use Rattle.sa_driver.specs.Built.{IsCompiled, IsNumbered, program_sites, feature_sites}
use Rattle.sa_driver.specs.declared.cause.Cause.{Cause}
use Rattle.sa_driver.specs.declared.module.BuiltModule.{BuiltModule}

pub feature_sites-drop : (xs : List TypedFeature) (i : ℕ) (x : TypedFeature) → i < length xs → x ≡ get_or xs i x → flat_map feature_sites (drop i xs) ≡ feature_sites x ++ flat_map feature_sites (drop (i + 1) xs)
feature_sites-drop xs i x h e = rw (add-one, drop-cons xs i x, ← e)

pub ruleset sites_from = (feature_sites-drop, drop-length, append_assoc, append-nil)

-- the positions and sites that a module was given are those that the AST carries
pub numbered : {E : Type 0} (core : TypedProgram) (made : Result BuiltModule E) (positions sites : List Pos) → IfOk made (λ built. built.positions ≡ positions) → IfOk made (λ built. built.sites ≡ sites) → positions ≡ program_positions core → sites ≡ program_sites core → IfOk made (IsNumbered core)
numbered core (Ok built) positions sites has_positions has_sites same same_sites = record { positions = has_positions ∙ same; sites = has_sites ∙ same_sites }
numbered core (Err error) positions sites has_positions has_sites same same_sites = tt

-- what is made from a program that was checked is made from its typed AST, which never gets stuck
pub made_of_tree : (core : Result TypedProgram Cause) (made : Result BuiltModule Cause) → IfOk made (λ _. IfOk core IsWellTyped) → IfOk made (λ built. IfOk core (λ tree. IsNumbered tree built)) → IfOk made (λ _. IfErr core (λ _. ⊥)) → IfOk made IsCompiled
made_of_tree (Ok tree) (Ok built) well numbers is = record {
  core = tree;
  sound = record { well = well; never_stuck = λ room input turns. never_stuck tree well input room turns };
  numbered = numbers;
}
made_of_tree (Err ends) (Ok built) well numbers is = absurd is
made_of_tree core (Err ends) well numbers is = tt
