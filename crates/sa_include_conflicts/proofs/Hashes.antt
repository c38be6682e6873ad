-- What is hashed of the arguments of a signature, from an index on.
use Rattle.std.proofs.Common.{◌≡◌, ℕ, ◌+◌, ◌<◌, List, length, get_or, drop, ◌++◌, add-one, drop-cons}
use Rattle.std.proofs.lemmas.Grind.{fold-append}
use Rattle.std.proofs.lemmas.List.{drop_all}
use Rattle.std.specs.Prelude.{flat_map}
use Rattle.sa_ast.specs.declared.ty.ModeTy.{ModeTy}
use Rattle.sa_include_conflicts.specs.SignatureKeys.{argument_writes}

pub arguments-drop : (args : List ModeTy) (i : ℕ) (arg : ModeTy) → i < length args → arg ≡ get_or args i arg → flat_map argument_writes (drop i args) ≡ argument_writes arg ++ flat_map argument_writes (drop (i + 1) args)
arguments-drop args i arg h e = rw (add-one, drop-cons args i arg, ← e)

pub ruleset hashes = (fold-append, arguments-drop, drop_all)
