-- Statements are read exactly, and lists of them.
use Rattle.std.proofs.Common.{ℕ, ◌<◌, List, [], ◌++◌, length, arith}
use Rattle.sa_ast.specs.declared.stmt.Stmt.{Stmt}
use Rattle.sa_parser_expr.specs.Lexemes.{Lexeme}
use Rattle.sa_parser_expr.specs.Forms.{nest, stmts}
use Rattle.sa_parser_expr.specs.StatementForms.{stmt_form}
use Rattle.sa_parser_expr.specs.Grammar.{nested_to}
use Rattle.sa_parser.specs.Statements.{IsStmt, IsStmts}
use Rattle.sa_grammar.specs.Law.{OneStmt, StmtsAreRead, OneListOfStmts, ListsOfStmtsAreRead}
use Rattle.sa_grammar.proofs.Sound.{IsSound}
use Rattle.sa_grammar.proofs.Complete.{Reads}
use Rattle.sa_grammar.proofs.FormsExact.{form_unique, form_exact}
use Rattle.sa_grammar.proofs.StatementsSound.{sound_stmt}
use Rattle.sa_grammar.proofs.BodiesComplete.{stmt_read}
use Rattle.sa_grammar.proofs.Nesting.{all_sound, all_complete, nest_sound, nest_reads}

stmt_sound : (n : ℕ) → IsSound n (nested_to n) IsStmt stmt_form
stmt_sound n = sound_stmt n (nested_to n) (all_sound n)

stmt_reads : (n : ℕ) (ls : List Lexeme) (s : Stmt) → IsStmt ls s → length ls < n → Reads n (nested_to n) stmt_form (ls ++ []) s []
stmt_reads n ls s h small = stmt_read n (nested_to n) (all_complete n) [] h (omega arith) tt

pub one_stmt : OneStmt
one_stmt = form_unique IsStmt stmt_form stmt_sound stmt_reads

pub stmts_are_read : StmtsAreRead
stmts_are_read = form_exact IsStmt stmt_form stmt_sound stmt_reads

pub one_list_of_stmts : OneListOfStmts
one_list_of_stmts = form_unique IsStmts (nest stmts) (nest_sound stmts) (nest_reads stmts tt)

pub lists_of_stmts_are_read : ListsOfStmtsAreRead
lists_of_stmts_are_read = form_exact IsStmts (nest stmts) (nest_sound stmts) (nest_reads stmts tt)
