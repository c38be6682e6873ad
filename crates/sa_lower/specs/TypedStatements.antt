-- Which statements are well typed in their context, and which of their parts are.
use Rattle.std.specs.Prelude.{◌&&◌, IsTrue, List, All}
use Rattle.sa_typed.specs.declared.stmt.TypedArm.{TypedArm}
use Rattle.sa_typed.specs.declared.stmt.LoopExit.{LoopExit}
use Rattle.sa_typed.specs.declared.stmt.TypedStmt.{TypedStmt}
use Rattle.sa_typed.specs.declared.stmt.TypedBranch.{TypedBranch}
use Rattle.sa_typed.specs.Copy.{exit_of, stmt_of}
use Rattle.sa_lower.specs.declared.context.StmtContext.{StmtContext}
use Rattle.sa_cfg_builder.specs.Contexts.{context_of}
use Rattle.sa_lower_expr.specs.Typed.{HasValue}
use Rattle.sa_typing.specs.declared.context.TypingContext.{TypingContext}
use Rattle.sa_typing.specs.Contexts.{Env, env, in_branch, may_leave}
use Rattle.sa_typing.specs.Statements.{well_exit, well_stmt}

-- the environment of the feature that a statement belongs to
abbrev pub env_of : StmtContext → Env
env_of around = env around.scope.now

-- its context there
abbrev pub stmt_context : StmtContext → TypingContext
stmt_context around = context_of around.inside

module _ (f : Env) (at : TypingContext) where
  -- a statement is well typed
  unfoldable pub IsWellTypedStmt : TypedStmt → Type 0
  IsWellTypedStmt s = IsTrue (well_stmt f at (stmt_of s))

  -- statements are
  abbrev pub AreWellTypedStmts : List TypedStmt → Type 0
  AreWellTypedStmts list = All IsWellTypedStmt list

  -- the tests of an entry of an `if` give values, and its statements are well typed
  pub record IsEntry (entry : TypedBranch) : Type 0 where
    pub tests : All (HasValue f at) entry.tests
    pub body : AreWellTypedStmts entry.body

  -- the statements of an arm of a typecase are well typed
  pub record IsArm (arm : TypedArm) : Type 0 where
    pub body : AreWellTypedStmts arm.body

  -- what leaves a loop may do so, and its test is a BOOL
  unfoldable pub IsWellTypedExit : LoopExit → Type 0
  IsWellTypedExit exit = IsTrue (may_leave at && well_exit f at (exit_of exit))

module _ (f : Env) (at : TypingContext) where
  -- the statements of a branch of a protect are well typed in the context that has its exception
  pub record IsBranch (arm : TypedArm) : Type 0 where
    pub body : AreWellTypedStmts f (in_branch arm.ty at) arm.body
