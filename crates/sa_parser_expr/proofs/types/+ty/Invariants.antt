-- The tokens that are left, and a production before those that it begins with.
use Rattle.std.proofs.Common.{length, ◌+◌, ◌-◌, ◌*◌}
use Rattle.sa_parser_expr.specs.Forms.{nest, type}
use Rattle.sa_parser_expr.specs.TypeForms.{mode_type_form}
use Rattle.sa_parser_expr.specs.Types.{IsModeTypes, IsTypes}
use Rattle.sa_parser_expr.specs.Lexemes.{between}
use Rattle.sa_parser_expr.specs.Positions.{IsAfter}
use Rattle.sa_parser_expr.proofs.Runs.{Lists}
use Rattle.sa_parser_expr.proofs.types.+ty.Given as goal

abbrev pub decreases-read_type : goal.decreases-read_type
decreases-read_type l = 3 * (length l.tokens.now.list.now - l.from)

abbrev pub decreases-given_types : goal.decreases-given_types
decreases-given_types l = 3 * (length l.tokens.now.list.now - l.from)

abbrev pub decreases-read_types : goal.decreases-read_types
decreases-read_types l = 3 * (length l.tokens.now.list.now - l.from) + 1

abbrev pub decreases-bound_args : goal.decreases-bound_args
decreases-bound_args l = 3 * (length l.tokens.now.list.now - l.from)

abbrev pub decreases-mode_types : goal.decreases-mode_types
decreases-mode_types l = 3 * (length l.tokens.now.list.now - l.from) + 2

abbrev pub decreases-mode_type : goal.decreases-mode_type
decreases-mode_type l = 3 * (length l.tokens.now.list.now - l.from) + 1

abbrev pub decreases-bound_result : goal.decreases-bound_result
decreases-bound_result l = 3 * (length l.tokens.now.list.now - l.from)

abbrev pub invariant-mode_types-more : goal.invariant-mode_types-more
invariant-mode_types-more l = record {
  following : IsAfter l.tokens.list.now l.from l.next;
  spelled : IsModeTypes l.callable (between l.tokens l.from l.next) l.args;
  listed : Lists l.tokens (mode_type_form l.callable) l.from l.args l.next;
}

abbrev pub decreases-mode_types-more : goal.decreases-mode_types-more
decreases-mode_types-more l = length l.tokens.list.now - l.next

abbrev pub invariant-read_types-more : goal.invariant-read_types-more
invariant-read_types-more l = record {
  following : IsAfter l.tokens.list.now l.from l.next;
  spelled : IsTypes (between l.tokens l.from l.next) l.types;
  listed : Lists l.tokens (nest type) l.from l.types l.next;
}

abbrev pub decreases-read_types-more : goal.decreases-read_types-more
decreases-read_types-more l = length l.tokens.list.now - l.next
