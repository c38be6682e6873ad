-- Typed expressions and statements as the definitions see them: the ASTs of `src/`, with their lists written out, so that a definition
-- recurses on them by cases.
use Rattle.std.specs.Prelude.{ℕ, ℤ, Bool, List, Option}
use Rattle.sa_ast.specs.declared.fault_kind.FaultKind.{FaultKind}
use Rattle.sa_ast.specs.declared.pos.Pos.{Pos}
use Rattle.sa_ast.specs.declared.ty.Mode.{Mode}
use Rattle.sa_typed.specs.declared.feature.TypedCallee.{TypedCallee}
use Rattle.sa_typed.specs.declared.feature.Target.{Target}

mutual
  pub data Expr : Type 0 where
    Int : (value : ℤ) → Expr
    Truth : (value : Bool) → Expr
    Char : (byte : ℕ) → Expr
    Text : (text : List ℕ) → Expr
    VoidValue : (ty : ℕ) → Expr
    SelfRef : Expr
    Var : (var : ℕ) → Expr
    Exception : Expr
    IsVoid : (of : Expr) → Expr
    New : (ty : ℕ) → (pos : Pos) → Expr
    NewArray : (ty : ℕ) → (size : Expr) → (pos : Pos) → Expr
    Array : (ty : ℕ) → (elements : Exprs) → (pos : Pos) → Expr
    Call : (called : TypedCallee) → (on : Expr) → (arguments : Args) → (pos : Pos) → Expr
    IterCall : (site : ℕ) → (on : Expr) → (arguments : Args) → (pos : Pos) → Expr
    Bind : (called : TypedCallee) → (on : Expr) → (arguments : Args) → (ty : ℕ) → (pos : Pos) → Expr
    Reversed : (target : Target) → (first : Expr) → (second : Expr) → (pos : Pos) → Expr
    And : (first : Expr) → (second : Expr) → Expr
    Or : (first : Expr) → (second : Expr) → Expr
    Box : (ty : ℕ) → (of : Expr) → (pos : Pos) → Expr

  pub data Exprs : Type 0 where
    no_exprs : Exprs
    expr : Expr → Exprs → Exprs

  pub data Arg : Type 0 where
    Value : (mode : Mode) → (value : Expr) → Arg
    Variable : (mode : Mode) → (var : ℕ) → Arg
    Open : Arg

  pub data Args : Type 0 where
    no_args : Args
    arg : Arg → Args → Args

-- what exits the innermost loop: always, where the test is false, or where it is true
pub data Exit : Type 0 where
  Break : Exit
  While Until : (test : Expr) → Exit

mutual
  pub data Stmt : Type 0 where
    Assign : (var : ℕ) → (value : Expr) → Stmt
    ExprStmt : (value : Expr) → Stmt
    If : (tests : Tests) → (other : Stmts) → Stmt
    Loop : (number : ℕ) → (body : Stmts) → Stmt
    ExitLoop : (exit : Exit) → Stmt
    TypeCase : (var : ℕ) → (arms : Arms) → (other : Else) → (pos : Pos) → Stmt
    Protect : (body : Stmts) → (arms : Arms) → (other : Else) → Stmt
    Return : (value : Option Expr) → Stmt
    Yield : (value : Option Expr) → Stmt
    Quit : Stmt
    Raise : (value : Expr) → (pos : Pos) → Stmt
    Fault : (kind : FaultKind) → (pos : Pos) → Stmt

  pub data Stmts : Type 0 where
    no_stmts : Stmts
    stmt : Stmt → Stmts → Stmts

  -- tests, each list of which comes with its statements
  pub data Tests : Type 0 where
    no_tests : Tests
    branch : (tests : Exprs) → (body : Stmts) → Tests → Tests

  -- the branches of a typecase or a protect
  pub data Arms : Type 0 where
    no_arms : Arms
    arm : (ty : ℕ) → (var : ℕ) → (body : Stmts) → Arms → Arms

  pub data Else : Type 0 where
    no_else : Else
    otherwise : Stmts → Else
