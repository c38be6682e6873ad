use Rattle.std.proofs.Common.{◌≡◌, ◌+◌, ◌≤◌, ◌++◌, length}
use Rattle.std.specs.Vec.Iter.{into_iter_items, into_iter_len}
use Rattle.sa_parser_expr.specs.Positions.{IsAfter}
use Rattle.sa_parser.specs.FeatureForms.{shared_of, shared_parts_form}
use Rattle.sa_parser.proofs.ExactCopies.{CopiesRead}
use Rattle.sa_parser.proofs.declared.shared.Given as goal

abbrev pub invariant-more : goal.invariant-more
invariant-more l = record {
  following : IsAfter l.tokens.list.now l.from l.end;
  at : l.at ≤ l.end;
  count : l.from + length l.features + into_iter_len l.name-iterator ≤ l.at;
  names : l.yielded ++ into_iter_items l.name-iterator ≡ into_iter_items l.initial.name-iterator;
  left : into_iter_len l.name-iterator ≡ length (into_iter_items l.name-iterator);
  read : CopiesRead l.tokens shared_parts_form (shared_of l.access) l.at l.yielded l.features l.end;
}
