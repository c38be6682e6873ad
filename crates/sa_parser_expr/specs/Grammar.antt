-- The reader of the grammar: each production that nests, by its form.
use Rattle.std.specs.Prelude.{ℕ, zero, suc, length}
use Rattle.sa_parser_expr.specs.Readings.{Refused}
use Rattle.sa_parser_expr.specs.Forms.{Form, Reader, Nested, Ast, type, expr, unary, power, post, stmts, run}
use Rattle.sa_parser_expr.specs.TypeForms.{type_form}
use Rattle.sa_parser_expr.specs.ExpressionForms.{expr_form, unary_form, power_form, post_form}
use Rattle.sa_parser_expr.specs.StatementForms.{stmts_form}

unfoldable pub form_of : (n : Nested) → Form (Ast n)
form_of type = type_form
form_of (expr s x) = expr_form s x
form_of (unary s x) = unary_form s x
form_of (power s x) = power_form s x
form_of (post s x) = post_form s x
form_of stmts = stmts_form

-- the productions that nest, to a level of nesting
unfoldable pub nested_to : ℕ → (n : Nested) → Reader (Ast n)
nested_to zero n ls = Refused ls
nested_to (suc level) n ls = run level (nested_to level) (form_of n) ls

-- what a list begins with, by its form. A level of nesting takes a lexeme
unfoldable pub read_as : {A : Type 0} → Form A → Reader A
read_as form ls = run (suc (length ls)) (nested_to (suc (length ls))) form ls
