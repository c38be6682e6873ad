-- At the last arm of the match the first type alone is of its variant.
use Rattle.sa_ast.proofs.TypeTests.{same_type-Named, same_type-Same, same_type-Rout, same_type-Iter}
use Rattle.sa_ast.proofs.ty.+same.Goals as goal

pub is_same_type-returns-in_default : goal.is_same_type-returns-in_default
is_same_type-returns-in_default t c = rw c.in_default.is-0 (same_type-Named _ _ _ _ c.in_default.not-Named-1)

pub is_same_type-returns-in_default-2 : goal.is_same_type-returns-in_default-2
is_same_type-returns-in_default-2 t c = rw c.in_default.is-0 (same_type-Same _ _ c.in_default.not-Same-1)

pub is_same_type-returns-in_default-3 : goal.is_same_type-returns-in_default-3
is_same_type-returns-in_default-3 t c = rw c.in_default.is-0 (same_type-Rout _ _ _ _ c.in_default.not-Rout-1)

pub is_same_type-returns-in_default-4 : goal.is_same_type-returns-in_default-4
is_same_type-returns-in_default-4 t c = rw c.in_default.is-0 (same_type-Iter _ _ _ _ c.in_default.not-Iter-1)
