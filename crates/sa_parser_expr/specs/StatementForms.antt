-- The forms of statements, production by production.
use Rattle.std.specs.Prelude.{Bool, List, [], ◌∷◌, ◌++◌, Option, Some, None, unwrap_or}
use Rattle.sa_lexer.specs.declared.sign.Sign.TheVariants as sign
use Rattle.sa_lexer.specs.declared.word.Word.{Word}
use Rattle.sa_lexer.specs.declared.word.Word.TheVariants as word
use Rattle.sa_lexer.specs.declared.token.TokenKind.{TokenKind}
use Rattle.sa_ast.specs.declared.expr.ExprReceiver.TheVariants.{Implied}
use Rattle.sa_ast.specs.declared.expr.Expr.{Expr}
use Rattle.sa_ast.specs.declared.expr.Operator.{Operator}
use Rattle.sa_ast.specs.declared.expr.Operator.TheVariants.{Pow}
use Rattle.sa_ast.specs.declared.expr.Expr.TheVariants as exprs
use Rattle.sa_ast.specs.declared.stmt.Local.{Local}
use Rattle.sa_ast.specs.declared.stmt.BranchArm.{BranchArm}
use Rattle.sa_ast.specs.declared.stmt.CaseArm.{CaseArm}
use Rattle.sa_ast.specs.declared.stmt.TypeArm.{TypeArm}
use Rattle.sa_ast.specs.declared.stmt.Stmt.{Stmt}
use Rattle.sa_ast.specs.declared.stmt.Stmt.TheVariants as tree
use Rattle.sa_parser_expr.specs.declared.grammar.ConditionScope.TheVariants.{Plain}
use Rattle.sa_parser_expr.specs.Lexemes.{Lexeme, name_of}
use Rattle.sa_parser_expr.specs.Enclosures.{outside}
use Rattle.sa_parser_expr.specs.Tests.{is_sign, is_word, is_lower}
use Rattle.sa_parser_expr.specs.Tests.{logical_kind, comparing_kind, adding_kind, multiplying_kind, is_operator, operator_of}
use Rattle.sa_parser_expr.specs.Forms.{Form, give, refuse, shift, either, follow, separated, list, repeat, nest, make, until_word}
use Rattle.sa_parser_expr.specs.Forms.{type, expr, power, stmts}
use Rattle.sa_parser_expr.specs.ExpressionForms.{named_form, goes_on, going_form}
use Rattle.sa_parser_expr.specs.ExpressionForms.{unary_form, product_form, sum_form, comparison_form, expr_form}

-- ---- parts without statements

-- expr, outside of any array literal
abbrev pub value_form : Form Expr
value_form = nest (expr Plain outside)

-- [":=" expr]
unfoldable pub assigned_form : Form (Option Expr)
assigned_form = shift (is_sign sign.Assign) (λ _. make Some value_form) (give None)

-- [expr]
unfoldable pub optional_value_form : Form (Option Expr)
optional_value_form = either (make Some (expr_form Plain outside)) (give None)

-- a lexeme that meets the test, as a name
abbrev pub name_as : (Lexeme → Bool) → Form Local
name_as test = shift test (λ l. give (name_of l)) refuse

-- LNAME
unfoldable pub name_form : Form Local
name_form = name_as is_lower

-- LNAME {"," LNAME}
abbrev pub names_form : Form (List Local)
names_form = list name_form

-- type [":=" expr], after the names of a declaration and the ":"
unfoldable pub typed_form : List Local → Form Stmt
typed_form names = follow (nest type) (λ t. make (λ value. tree.Declare names (Some t) value) assigned_form)

-- LNAME {"," LNAME} ":" type [":=" expr]
unfoldable pub declare_form : Form Stmt
declare_form = follow names_form (λ names. shift (is_sign sign.Colon) (λ _. typed_form names) refuse)

-- "::=" expr, after the name of a declaration
abbrev pub by_value_form : Local → Form Stmt
by_value_form name = shift (is_sign sign.Declare) (λ _. make (λ e. tree.Declare (name ∷ []) None (Some e)) value_form) refuse

-- LNAME "::=" expr
unfoldable pub declare_by_value_form : Form Stmt
declare_by_value_form = follow name_form by_value_form

-- [":=" expr] after an expression
unfoldable pub assign_form : Expr → Form Stmt
assign_form a = shift (is_sign sign.Assign) (λ gets. make (λ b. tree.Assign a b gets.pos) value_form) (give (tree.ExprStmt a))

-- {operator operand} after a first operand
abbrev operations : (TokenKind → Option Operator) → Form Expr → Expr → Form Expr
operations operators operand = repeat (is_operator operators) (λ a o. make (λ b. exprs.Binary (operator_of operators o) a b o.pos) operand)

-- an expression that begins with this name, after the name
unfoldable pub after_name_form : Lexeme → Form Expr
after_name_form l =
    follow
    (follow
    (follow
    (follow
    (follow
    (make (λ whole. whole.1)
    (follow
    (make (λ e. (l.pos, e)) (named_form Plain Implied l))
    (repeat goes_on (λ so_far next. going_form (is_sign sign.Dot next) Plain so_far))))
    (λ a. shift (is_sign sign.Caret) (λ o. make (λ b. exprs.Binary Pow a b o.pos) (nest (power Plain outside))) (give a)))
    (operations multiplying_kind (unary_form Plain outside)))
    (operations adding_kind (product_form Plain outside)))
    (operations comparing_kind (sum_form Plain outside)))
    (operations logical_kind (comparison_form Plain outside))

-- simple = LNAME {"," LNAME} ":" type [":=" expr] | LNAME "::=" expr | expr [":=" expr]: after a name the next lexeme decides
unfoldable pub simple_form : Form Stmt
simple_form =
    shift is_lower
    (λ l.
    shift (is_sign sign.Comma)
    (λ _. follow names_form (λ others. shift (is_sign sign.Colon) (λ _. typed_form (name_of l ∷ others)) refuse))
    (shift (is_sign sign.Colon) (λ _. typed_form (name_of l ∷ []))
    (shift (is_sign sign.Declare) (λ _. make (λ e. tree.Declare (name_of l ∷ []) None (Some e)) value_form)
    (follow (after_name_form l) assign_form))))
    (follow (expr_form Plain outside) assign_form)

-- ---- statements

-- WORD stmts
unfoldable pub body_form : Word → Form (List Stmt)
body_form w = shift (is_word w) (λ _. nest stmts) refuse

-- ["else" stmts]
abbrev pub else_form : Form (Option (List Stmt))
else_form = shift (is_word word.Else) (λ _. make Some (nest stmts)) (give None)

-- ending = ["else" stmts] "end"
unfoldable pub ending_form : Form (Option (List Stmt))
ending_form = until_word word.End else_form

-- arm = expr "then" stmts
unfoldable pub arm_form : Form BranchArm
arm_form = follow value_form (λ test. make (λ list. record { test = test; body = list }) (body_form word.Then))

-- case_arm = expr {"," expr} "then" stmts
unfoldable pub case_arm_form : Form CaseArm
case_arm_form = follow (list value_form) (λ values. make (λ list. record { values = values; body = list }) (body_form word.Then))

-- branch = type "then" stmts
unfoldable pub branch_form : Form TypeArm
branch_form = follow (nest type) (λ t. make (λ list. record { ty = t; body = list }) (body_form word.Then))

-- arm {"elsif" arm}
abbrev pub arms_form : Form (List BranchArm)
arms_form = separated (is_word word.Elsif) arm_form

-- {"when" case_arm}
unfoldable pub case_arms_form : Form (List CaseArm)
case_arms_form = shift (is_word word.When) (λ _. separated (is_word word.When) case_arm_form) (give [])

-- {"when" branch}
unfoldable pub branches_form : Form (List TypeArm)
branches_form = shift (is_word word.When) (λ _. separated (is_word word.When) branch_form) (give [])

-- arm {"elsif" arm} ending, after the "if"
abbrev pub if_form : Lexeme → Form Stmt
if_form w = follow arms_form (λ arms. make (λ rest. tree.If arms (unwrap_or rest []) w.pos) ending_form)

-- stmts "end", after the "loop"
abbrev pub loop_form : Lexeme → Form Stmt
loop_form w = make (λ list. tree.Loop list w.pos) (until_word word.End (nest stmts))

-- expr {"when" case_arm} ending, after the "case"
abbrev pub case_form : Lexeme → Form Stmt
case_form w = follow value_form (λ e. follow case_arms_form (λ arms. make (λ rest. tree.Case e arms rest w.pos) ending_form))

-- LNAME {"when" branch} ending, after the "typecase"
abbrev pub typecase_form : Lexeme → Form Stmt
typecase_form w =
    follow name_form (λ name. follow branches_form (λ branches. make (λ rest. tree.TypeCase name branches rest w.pos) ending_form))

-- stmts {"when" branch} ending, after the "protect"
abbrev pub protect_form : Lexeme → Form Stmt
protect_form w =
    follow (nest stmts) (λ list. follow branches_form (λ branches. make (λ rest. tree.Protect list branches rest w.pos) ending_form))

-- leave = "return" [expr] | "yield" [expr] | "quit" | "raise" expr | "assert" expr, or else another form
abbrev pub leave_or : Form Stmt → Form Stmt
leave_or other =
    shift (is_word word.Return) (λ w. make (λ value. tree.Return value w.pos) optional_value_form)
    (shift (is_word word.Yield) (λ w. make (λ value. tree.Yield value w.pos) optional_value_form)
    (shift (is_word word.Quit) (λ w. give (tree.Quit w.pos))
    (shift (is_word word.Raise) (λ w. make (λ e. tree.Raise e w.pos) value_form)
    (shift (is_word word.Assert) (λ w. make (λ e. tree.Assert e w.pos) value_form) other))))

-- stmt = if | loop | case | typecase | protect | leave | simple
unfoldable pub stmt_form : Form Stmt
stmt_form =
    shift (is_word word.If) if_form
    (shift (is_word word.Loop) loop_form
    (shift (is_word word.Case) case_form
    (shift (is_word word.Typecase) typecase_form
    (shift (is_word word.Protect) protect_form
    (leave_or simple_form)))))

-- [stmt], as a list
unfoldable pub optional_stmt_form : Form (List Stmt)
optional_stmt_form = either (make (λ s. s ∷ []) stmt_form) (give [])

abbrev pub joined : {A : Type 0} → List (List A) → List A
joined [] = []
joined (one ∷ others) = one ++ joined others

-- stmts = [stmt] {";" [stmt]}
unfoldable pub stmts_form : Form (List Stmt)
stmts_form = make joined (separated (is_sign sign.Semicolon) optional_stmt_form)
