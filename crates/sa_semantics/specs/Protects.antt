-- Statements and programs without a protect.
use Rattle.std.specs.Prelude.{All}
use Rattle.sa_typed.specs.Tree.{Stmt, If, Loop, TypeCase, Protect, Stmts, no_stmts, stmt, Tests}
use Rattle.sa_typed.specs.Tree.{no_tests, branch, Arms, no_arms, arm, Else, no_else, otherwise}
use Rattle.sa_semantics.specs.Program.{Program}

abbrev mutual
  pub IsUnguarded : Stmt → Type 0
  IsUnguarded (If tests other) = TestsUnguarded tests × AreUnguarded other
  IsUnguarded (Loop number body) = AreUnguarded body
  IsUnguarded (TypeCase var arms other at) = ArmsUnguarded arms × ElseUnguarded other
  IsUnguarded (Protect body arms other) = ⊥
  IsUnguarded _ = Unit {0}

  pub AreUnguarded : Stmts → Type 0
  AreUnguarded no_stmts = Unit {0}
  AreUnguarded (stmt a more) = IsUnguarded a × AreUnguarded more

  pub TestsUnguarded : Tests → Type 0
  TestsUnguarded no_tests = Unit {0}
  TestsUnguarded (branch tests body more) = AreUnguarded body × TestsUnguarded more

  pub ArmsUnguarded : Arms → Type 0
  ArmsUnguarded no_arms = Unit {0}
  ArmsUnguarded (arm ty var body more) = AreUnguarded body × ArmsUnguarded more

  pub ElseUnguarded : Else → Type 0
  ElseUnguarded no_else = Unit {0}
  ElseUnguarded (otherwise body) = AreUnguarded body

-- no feature's body has one; initialisers have no statements
abbrev pub HasNoProtect : Program → Type 0
HasNoProtect p = All (λ f. AreUnguarded f.body) p.features
