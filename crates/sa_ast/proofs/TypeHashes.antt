-- What is hashed of a list of types, from an index on.
use Rattle.std.proofs.Common.{◌≡◌, ℕ, ◌+◌, ◌<◌, List, length, get_or, drop, ◌++◌, add-one, drop-cons}
use Rattle.std.proofs.Math.Seq.{drop-length}
use Rattle.std.proofs.lemmas.Grind.{fold-append}
use Rattle.sa_ast.specs.declared.ty.ModeTy.{ModeTy}
use Rattle.sa_ast.specs.declared.ty.Ty.{Ty}
use Rattle.sa_ast.specs.TypeHash.{type_writes, types_writes, arg_writes, args_writes}
use Rattle.sa_ast.specs.Types.{bare, bare_arg, all_bare, all_bare_args}
use Rattle.sa_ast.proofs.BareTypes.{bares}

pub types_writes-drop : (ts : List Ty) (i : ℕ) (t : Ty) → i < length ts → t ≡ get_or ts i t → types_writes (all_bare (drop i ts)) ≡ type_writes (bare t) ++ types_writes (all_bare (drop (i + 1) ts))
types_writes-drop ts i t h e = rw (add-one, drop-cons ts i t, ← e)

pub args_writes-drop : (xs : List ModeTy) (i : ℕ) (x : ModeTy) → i < length xs → x ≡ get_or xs i x → args_writes (all_bare_args (drop i xs)) ≡ arg_writes (bare_arg x) ++ args_writes (all_bare_args (drop (i + 1) xs))
args_writes-drop xs i x h e = rw (add-one, drop-cons xs i x, ← e)

pub ruleset hashes = (bares, fold-append, types_writes-drop, args_writes-drop, drop-length)
