-- A typecase or a protect, with the statements of its `else` or without.
use Rattle.std.proofs.Common.{ap, append_assoc, arith}
use Rattle.std.proofs.lemmas.List.{append-nil}
use Rattle.sa_typed.proofs.Copies.{typecase_of-Some, protect_of-None, protect_of-Some}
use Rattle.sa_typing.specs.Contexts.{env}
use Rattle.sa_typing.specs.Sites.{stmt_sites}
use Rattle.sa_typing.proofs.sites.+add_stmt.Goals as goal

pub add_stmt-returns-in-Some : goal.add_stmt-returns-in-Some
add_stmt-returns-in-Some t c =
    grind (arith, append_assoc, append-nil, ap (stmt_sites (env c.args.scope.now) c.args.at) (typecase_of-Some c.args.stmt.now _ _ _ _ _ c.in-TypeCase.is c.in-Some.is))

pub add_stmt-returns-in-Some-other : goal.add_stmt-returns-in-Some-other
add_stmt-returns-in-Some-other t c =
    grind (arith, append_assoc, append-nil, ap (stmt_sites (env c.args.scope.now) c.args.at) (protect_of-Some c.args.stmt.now _ _ _ _ c.in-Protect.is c.in-Some-other.is))

pub add_stmt-returns-in-None-other : goal.add_stmt-returns-in-None-other
add_stmt-returns-in-None-other t c =
    grind (arith, append_assoc, append-nil, ap (stmt_sites (env c.args.scope.now) c.args.at) (protect_of-None c.args.stmt.now _ _ _ c.in-Protect.is c.in-None-other.is))
