use Rattle.std.proofs.Common.{◌≡◌, ◌++◌, length}
use Rattle.std.specs.Vec.Iter.{into_iter_items, into_iter_len}
use Rattle.sa_parser_expr.specs.Positions.{IsAfter}
use Rattle.sa_parser_expr.specs.Forms.{nest, type}
use Rattle.sa_parser.specs.Signatures.{formal_of}
use Rattle.sa_parser.proofs.ExactCopies.{CopiesRead}
use Rattle.sa_parser.proofs.signature.formal.Given as goal

abbrev pub invariant-more : goal.invariant-more
invariant-more l = record {
  following : IsAfter l.tokens.list.now l.from l.end;
  names : l.yielded ++ into_iter_items l.local-iterator ≡ into_iter_items l.initial.local-iterator;
  left : into_iter_len l.local-iterator ≡ length (into_iter_items l.local-iterator);
  read : CopiesRead l.tokens (nest type) (formal_of l.mode) l.at l.yielded l.list.items l.end;
}
