-- Statements: a relation for each production of their grammar, with a case for each of its alternatives.
use Rattle.std.specs.Prelude.{List, [], ◌∷◌, ◌++◌, Option, Some, None, unwrap_or}
use Rattle.sa_lexer.specs.declared.sign.Sign.TheVariants as sign
use Rattle.sa_lexer.specs.declared.word.Word.{Word}
use Rattle.sa_lexer.specs.declared.word.Word.TheVariants as word
use Rattle.sa_ast.specs.declared.ty.Mode.TheVariants.{In}
use Rattle.sa_ast.specs.declared.ty.Ty.{Ty}
use Rattle.sa_ast.specs.declared.expr.Expr.{Expr}
use Rattle.sa_ast.specs.declared.expr.ExprArg.TheVariants.{Value}
use Rattle.sa_ast.specs.declared.stmt.Local.{Local}
use Rattle.sa_ast.specs.declared.stmt.BranchArm.{BranchArm}
use Rattle.sa_ast.specs.declared.stmt.CaseArm.{CaseArm}
use Rattle.sa_ast.specs.declared.stmt.TypeArm.{TypeArm}
use Rattle.sa_ast.specs.declared.stmt.Stmt.{Stmt}
use Rattle.sa_ast.specs.declared.stmt.Stmt.TheVariants as tree
use Rattle.sa_parser_expr.specs.declared.grammar.ConditionScope.TheVariants.{Plain}
use Rattle.sa_parser_expr.specs.Lexemes.{Lexeme, IsWord, IsSign, name_of}
use Rattle.sa_parser_expr.specs.Types.{IsType}
use Rattle.sa_parser_expr.specs.Expressions.{IsArg}
use Rattle.sa_parser.specs.declared.blocks.CaseChoice.{CaseChoice}
use Rattle.sa_parser.specs.declared.blocks.TypeChoice.{TypeChoice}
use Rattle.sa_parser.specs.Names.{IsLower, IsNames}

-- ---- parts without statements

-- expr, outside of any array literal: it is what may be given as an argument without a mode
abbrev pub IsValue : List Lexeme → Expr → Type 0
IsValue ls e = IsArg Plain ls (Value In e)

-- expr {"," expr}
pub data IsValues : List Lexeme → List Expr → Type 0 where
  last_value : {ls : List Lexeme} {e : Expr} → IsValue ls e → IsValues ls (e ∷ [])
  more_values : {ls ms : List Lexeme} {comma : Lexeme} {e : Expr} {others : List Expr}
      → IsValue ls e → IsSign sign.Comma comma → IsValues ms others
      → IsValues (ls ++ comma ∷ ms) (e ∷ others)

-- [":=" expr]
pub data IsAssigned : List Lexeme → Option Expr → Type 0 where
  not_assigned : IsAssigned [] None
  assigned : {gets : Lexeme} {ls : List Lexeme} {e : Expr} → IsSign sign.Assign gets → IsValue ls e → IsAssigned (gets ∷ ls) (Some e)

-- [expr]
pub data IsOptionalExpr : List Lexeme → Option Expr → Type 0 where
  no_expr : IsOptionalExpr [] None
  of_expr : {ls : List Lexeme} {e : Expr} → IsValue ls e → IsOptionalExpr ls (Some e)

-- simple = LNAME {"," LNAME} ":" type [":=" expr] | LNAME "::=" expr | expr [":=" expr]. An assignment has the position of its `:=`
pub data IsSimple : List Lexeme → Stmt → Type 0 where
  declare : {ls ms rest : List Lexeme} {colon : Lexeme} {names : List Local} {t : Ty} {value : Option Expr}
      → IsNames ls names → IsSign sign.Colon colon → IsType ms t → IsAssigned rest value
      → IsSimple (ls ++ colon ∷ ms ++ rest) (tree.Declare names (Some t) value)
  declare_by_value : {l gets : Lexeme} {ls : List Lexeme} {e : Expr} → IsLower l → IsSign sign.Declare gets → IsValue ls e
      → IsSimple (l ∷ gets ∷ ls) (tree.Declare (name_of l ∷ []) None (Some e))
  alone : {ls : List Lexeme} {e : Expr} → IsValue ls e → IsSimple ls (tree.ExprStmt e)
  assign : {ls ms : List Lexeme} {gets : Lexeme} {a b : Expr} → IsValue ls a → IsSign sign.Assign gets → IsValue ms b
      → IsSimple (ls ++ gets ∷ ms) (tree.Assign a b gets.pos)

-- leave = "return" [expr] | "yield" [expr] | "quit" | "raise" expr | "assert" expr
pub data IsLeave : List Lexeme → Stmt → Type 0 where
  return_word : {w : Lexeme} {ls : List Lexeme} {value : Option Expr} → IsWord word.Return w → IsOptionalExpr ls value
      → IsLeave (w ∷ ls) (tree.Return value w.pos)
  yield_word : {w : Lexeme} {ls : List Lexeme} {value : Option Expr} → IsWord word.Yield w → IsOptionalExpr ls value
      → IsLeave (w ∷ ls) (tree.Yield value w.pos)
  quit_word : {w : Lexeme} → IsWord word.Quit w → IsLeave (w ∷ []) (tree.Quit w.pos)
  raise_word : {w : Lexeme} {ls : List Lexeme} {e : Expr} → IsWord word.Raise w → IsValue ls e → IsLeave (w ∷ ls) (tree.Raise e w.pos)
  assert_word : {w : Lexeme} {ls : List Lexeme} {e : Expr} → IsWord word.Assert w → IsValue ls e → IsLeave (w ∷ ls) (tree.Assert e w.pos)

-- ---- statements. Those that contain others have the position of their word

mutual
  -- body = WORD stmts
  pub data IsBody : Word → List Lexeme → List Stmt → Type 0 where
    body : {v : Word} {w : Lexeme} {ls : List Lexeme} {list : List Stmt} → IsWord v w → IsStmts ls list → IsBody v (w ∷ ls) list

  -- stmts = [stmt] {";" [stmt]}
  pub data IsStmts : List Lexeme → List Stmt → Type 0 where
    last_stmt : {ls : List Lexeme} {list : List Stmt} → IsOptionalStmt ls list → IsStmts ls list
    more_stmts : {ls ms : List Lexeme} {semicolon : Lexeme} {first others : List Stmt}
        → IsOptionalStmt ls first → IsSign sign.Semicolon semicolon → IsStmts ms others
        → IsStmts (ls ++ semicolon ∷ ms) (first ++ others)

  -- [stmt]
  pub data IsOptionalStmt : List Lexeme → List Stmt → Type 0 where
    no_stmt : IsOptionalStmt [] []
    one_stmt : {ls : List Lexeme} {s : Stmt} → IsStmt ls s → IsOptionalStmt ls (s ∷ [])

  -- stmt = if | loop | case | typecase | protect | leave | simple
  pub data IsStmt : List Lexeme → Stmt → Type 0 where
    if_block : {w : Lexeme} {ls ms : List Lexeme} {arms : List BranchArm} {rest : Option (List Stmt)}
        → IsWord word.If w → IsArms ls arms → IsEnding ms rest
        → IsStmt (w ∷ ls ++ ms) (tree.If arms (unwrap_or rest []) w.pos)
    loop_block : {w closing : Lexeme} {ls : List Lexeme} {list : List Stmt} → IsBody word.Loop (w ∷ ls) list → IsWord word.End closing
        → IsStmt (w ∷ ls ++ closing ∷ []) (tree.Loop list w.pos)
    case_block : {w : Lexeme} {ls ms : List Lexeme} {e : Expr} {choice : CaseChoice}
        → IsWord word.Case w → IsValue ls e → IsCaseChoice ms choice
        → IsStmt (w ∷ ls ++ ms) (tree.Case e choice.arms choice.rest w.pos)
    typecase_block : {w l : Lexeme} {ls : List Lexeme} {choice : TypeChoice} → IsWord word.Typecase w → IsLower l → IsTypeChoice ls choice
        → IsStmt (w ∷ l ∷ ls) (tree.TypeCase (name_of l) choice.branches choice.rest w.pos)
    protect_block : {w : Lexeme} {ls ms : List Lexeme} {list : List Stmt} {choice : TypeChoice}
        → IsBody word.Protect (w ∷ ls) list → IsTypeChoice ms choice
        → IsStmt (w ∷ ls ++ ms) (tree.Protect list choice.branches choice.rest w.pos)
    leave : {ls : List Lexeme} {s : Stmt} → IsLeave ls s → IsStmt ls s
    simple : {ls : List Lexeme} {s : Stmt} → IsSimple ls s → IsStmt ls s

  -- arms = arm {"elsif" arm}
  pub data IsArms : List Lexeme → List BranchArm → Type 0 where
    last_arm : {ls : List Lexeme} {arm : BranchArm} → IsArm ls arm → IsArms ls (arm ∷ [])
    more_arms : {ls ms : List Lexeme} {w : Lexeme} {arm : BranchArm} {arms : List BranchArm} → IsArm ls arm → IsWord word.Elsif w → IsArms ms arms
        → IsArms (ls ++ w ∷ ms) (arm ∷ arms)

  -- arm = expr "then" stmts
  pub data IsArm : List Lexeme → BranchArm → Type 0 where
    arm : {ls ms : List Lexeme} {test : Expr} {list : List Stmt} → IsValue ls test → IsBody word.Then ms list
        → IsArm (ls ++ ms) (record { test = test; body = list })

  -- ending = else "end"
  pub data IsEnding : List Lexeme → Option (List Stmt) → Type 0 where
    ending : {closing : Lexeme} {ls : List Lexeme} {rest : Option (List Stmt)} → IsElse ls rest → IsWord word.End closing
        → IsEnding (ls ++ closing ∷ []) rest

  -- else = ["else" stmts]
  pub data IsElse : List Lexeme → Option (List Stmt) → Type 0 where
    no_else : IsElse [] None
    else_part : {ls : List Lexeme} {list : List Stmt} → IsBody word.Else ls list → IsElse ls (Some list)

  -- case_choice = case_arms ending
  pub data IsCaseChoice : List Lexeme → CaseChoice → Type 0 where
    case_choice : {ls ms : List Lexeme} {arms : List CaseArm} {rest : Option (List Stmt)} → IsCaseArms ls arms → IsEnding ms rest
        → IsCaseChoice (ls ++ ms) (record { arms = arms; rest = rest })

  -- case_arms = {"when" case_arm}
  pub data IsCaseArms : List Lexeme → List CaseArm → Type 0 where
    no_case_arm : IsCaseArms [] []
    more_case_arms : {w : Lexeme} {ls ms : List Lexeme} {arm : CaseArm} {arms : List CaseArm}
        → IsWord word.When w → IsCaseArm ls arm → IsCaseArms ms arms
        → IsCaseArms (w ∷ ls ++ ms) (arm ∷ arms)

  -- case_arm = values "then" stmts
  pub data IsCaseArm : List Lexeme → CaseArm → Type 0 where
    case_arm : {ls ms : List Lexeme} {values : List Expr} {list : List Stmt} → IsValues ls values → IsBody word.Then ms list
        → IsCaseArm (ls ++ ms) (record { values = values; body = list })

  -- type_choice = branches ending
  pub data IsTypeChoice : List Lexeme → TypeChoice → Type 0 where
    type_choice : {ls ms : List Lexeme} {branches : List TypeArm} {rest : Option (List Stmt)} → IsBranches ls branches → IsEnding ms rest
        → IsTypeChoice (ls ++ ms) (record { branches = branches; rest = rest })

  -- branches = {"when" branch}
  pub data IsBranches : List Lexeme → List TypeArm → Type 0 where
    no_branch : IsBranches [] []
    more_branches : {w : Lexeme} {ls ms : List Lexeme} {arm : TypeArm} {arms : List TypeArm}
        → IsWord word.When w → IsBranch ls arm → IsBranches ms arms
        → IsBranches (w ∷ ls ++ ms) (arm ∷ arms)

  -- branch = type "then" stmts
  pub data IsBranch : List Lexeme → TypeArm → Type 0 where
    branch : {ls ms : List Lexeme} {t : Ty} {list : List Stmt} → IsType ls t → IsBody word.Then ms list
        → IsBranch (ls ++ ms) (record { ty = t; body = list })
