-- Expressions are read exactly, and lists of them.
use Rattle.std.proofs.Common.{ℕ, ◌<◌, List, [], ◌++◌, length}
use Rattle.sa_ast.specs.declared.expr.Expr.{Expr}
use Rattle.sa_parser_expr.specs.declared.grammar.ConditionScope.{ConditionScope}
use Rattle.sa_parser_expr.specs.Lexemes.{Lexeme}
use Rattle.sa_parser_expr.specs.Expressions.{IsExpr, IsExprs, IsPost}
use Rattle.sa_parser_expr.specs.Enclosures.{Where, enclosure_of}
use Rattle.sa_parser_expr.specs.Forms.{list, nest, expr, post}
use Rattle.sa_parser_expr.specs.Grammar.{nested_to}
use Rattle.sa_grammar.specs.Law.{OneExpr, ExprsAreRead, OnePost, PostsAreRead, OneListOfExprs, ListsOfExprsAreRead}
use Rattle.sa_grammar.proofs.Sound.{IsSound, sound-list}
use Rattle.sa_grammar.proofs.Complete.{Reads, reads-list}
use Rattle.sa_grammar.proofs.FormsExact.{form_unique, form_exact}
use Rattle.sa_grammar.proofs.ExpressionsSound.{separated_exprs, exprs_separated}
use Rattle.sa_grammar.proofs.ExpressionsComplete.{EndsOf, comma_ends, nest_read}
use Rattle.sa_grammar.proofs.Nesting.{all_complete, nest_sound, nest_reads}

module _ (s : ConditionScope) (x : Where) where
  list_sound : (n : ℕ) → IsSound n (nested_to n) (IsExprs s (enclosure_of x)) (list (nest (expr s x)))
  list_sound n = sound-list (nest_sound (expr s x) n) (λ ls es. separated_exprs)

  list_reads : (n : ℕ) (ls : List Lexeme) (es : List Expr) → IsExprs s (enclosure_of x) ls es → length ls < n → Reads n (nested_to n) (list (nest (expr s x))) (ls ++ []) es []
  list_reads n ls es all small =
      reads-list n (nested_to n) (IsExpr s (enclosure_of x)) (EndsOf (expr s x)) (nest (expr s x)) (nest_read n (nested_to n) (all_complete n) (expr s x)) comma_ends
      [] (exprs_separated all) small tt tt

pub one_expr : OneExpr
one_expr s x = form_unique (IsExpr s (enclosure_of x)) (nest (expr s x)) (nest_sound (expr s x)) (nest_reads (expr s x) tt)

pub exprs_are_read : ExprsAreRead
exprs_are_read s x = form_exact (IsExpr s (enclosure_of x)) (nest (expr s x)) (nest_sound (expr s x)) (nest_reads (expr s x) tt)

pub one_post : OnePost
one_post s x = form_unique (IsPost s (enclosure_of x)) (nest (post s x)) (nest_sound (post s x)) (nest_reads (post s x) tt)

pub posts_are_read : PostsAreRead
posts_are_read s x = form_exact (IsPost s (enclosure_of x)) (nest (post s x)) (nest_sound (post s x)) (nest_reads (post s x) tt)

pub one_list_of_exprs : OneListOfExprs
one_list_of_exprs s x = form_unique (IsExprs s (enclosure_of x)) (list (nest (expr s x))) (list_sound s x) (list_reads s x)

pub lists_of_exprs_are_read : ListsOfExprsAreRead
lists_of_exprs_are_read s x = form_exact (IsExprs s (enclosure_of x)) (list (nest (expr s x))) (list_sound s x) (list_reads s x)
