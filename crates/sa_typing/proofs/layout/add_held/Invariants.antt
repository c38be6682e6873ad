use Rattle.std.proofs.Common.{◌≡◌, ◌++◌, drop, length, replicate, filter}
use Rattle.sa_typing.specs.Rows.{is_immutable, rows}
use Rattle.sa_typing.proofs.layout.add_held.Given as goal

abbrev pub invariant-loop-attr : goal.invariant-loop-attr
invariant-loop-attr l = record {
  starts : l.starts.items ++ replicate (length (filter (is_immutable (rows l.view)) (drop l.attr-index l.attrs))) l.number
      ≡ l.fn.starts.items ++ replicate (length (filter (is_immutable (rows l.view)) l.attrs)) l.number;
  ends : l.ends.items ++ filter (is_immutable (rows l.view)) (drop l.attr-index l.attrs)
      ≡ l.fn.ends.items ++ filter (is_immutable (rows l.view)) l.attrs;
}
