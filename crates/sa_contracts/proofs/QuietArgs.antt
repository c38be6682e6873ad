-- Whether arguments are quiet, from an index on.
use Rattle.std.proofs.Common.{◌≡◌, ℕ, ◌+◌, ◌<◌, ◌&&◌, List, length, get_or, drop, add-one, drop-cons}
use Rattle.std.proofs.Math.Seq.{drop-length}
use Rattle.sa_typed.specs.declared.expr.TypedArg.{TypedArg}
use Rattle.sa_typed.specs.Copy.{arg_of, args_of}
use Rattle.sa_typed.proofs.Copies.{copies}
use Rattle.sa_contracts.specs.Quiet.{are_quiet_args, is_quiet_arg}

pub are_quiet_args-drop : (xs : List TypedArg) (i : ℕ) (x : TypedArg) → i < length xs → x ≡ get_or xs i x → are_quiet_args (args_of (drop i xs)) ≡ (is_quiet_arg (arg_of x) && are_quiet_args (args_of (drop (i + 1) xs)))
are_quiet_args-drop xs i x h e = rw (add-one, drop-cons xs i x, ← e)

pub ruleset quiet = (copies, are_quiet_args-drop, drop-length)
