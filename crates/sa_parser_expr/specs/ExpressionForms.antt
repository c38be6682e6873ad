-- The forms of expressions, production by production.
use Rattle.std.specs.Prelude.{ℕ, Bool, true, false, ◌||◌, List, [], ◌∷◌, ◌++◌, Option, Some, None}
use Rattle.sa_lexer.specs.declared.sign.Sign.TheVariants as sign
use Rattle.sa_lexer.specs.declared.word.Word.TheVariants as word
use Rattle.sa_lexer.specs.declared.token.TokenKind.{TokenKind}
use Rattle.sa_ast.specs.declared.pos.Pos.{Pos}
use Rattle.sa_ast.specs.declared.ty.Ty.{Ty}
use Rattle.sa_ast.specs.declared.ty.Mode.TheVariants.{In, Out, Inout}
use Rattle.sa_ast.specs.declared.expr.Operator.{Operator}
use Rattle.sa_ast.specs.declared.expr.Operator.TheVariants.{Pow}
use Rattle.sa_ast.specs.declared.expr.ExprReceiver.{ExprReceiver}
use Rattle.sa_ast.specs.declared.expr.ExprReceiver.TheVariants.{Implied, Of, OfClass}
use Rattle.sa_ast.specs.declared.expr.ExprArg.{ExprArg}
use Rattle.sa_ast.specs.declared.expr.ExprArg.TheVariants.{Value, Unbound}
use Rattle.sa_ast.specs.declared.expr.Expr.{Expr}
use Rattle.sa_ast.specs.declared.expr.Expr.TheVariants as tree
use Rattle.sa_parser_expr.specs.declared.grammar.ConditionScope.{ConditionScope}
use Rattle.sa_parser_expr.specs.declared.grammar.ConditionScope.TheVariants.{Plain, PostClause}
use Rattle.sa_parser_expr.specs.Lexemes.{Lexeme}
use Rattle.sa_parser_expr.specs.Enclosures.{Where, outside, in_array}
use Rattle.sa_parser_expr.specs.Tests.{is_sign, is_word, is_feature, is_number, is_character, is_text, value_of, text_of}
use Rattle.sa_parser_expr.specs.Tests.{logical_kind, comparing_kind, adding_kind, multiplying_kind, prefix_kind, is_operator, operator_of}
use Rattle.sa_parser_expr.specs.Forms.{Form, give, refuse, shift, either, follow, list, repeat, placed, nest, make, until}
use Rattle.sa_parser_expr.specs.Forms.{type, expr, unary, power, post}
use Rattle.sa_parser_expr.specs.TypeForms.{type_form}

-- ---- arguments and indexes

-- arg = ["out" | "inout"] expr | "_" [":" type]
unfoldable pub arg_form : ConditionScope → Form ExprArg
arg_form s =
    shift (is_sign sign.Underscore)
    (λ l. shift (is_sign sign.Colon) (λ _. make (λ t. Unbound (Some t) l.pos) (nest type)) (give (Unbound None l.pos)))
    (shift (is_word word.Out) (λ _. make (Value Out) (nest (expr s outside)))
    (shift (is_word word.Inout) (λ _. make (Value Inout) (nest (expr s outside)))
    (make (Value In) (nest (expr s outside)))))

-- [args], with args = "(" arg {"," arg} ")"
unfoldable pub args_form : ConditionScope → Form (List ExprArg)
args_form s = shift (is_sign sign.LeftParen) (λ _. until sign.RightParen (list (arg_form s))) (give [])

-- F [args], after F
unfoldable pub named_form : ConditionScope → ExprReceiver → Lexeme → Form Expr
named_form s on f = make (λ given. tree.Call on f.bytes given f.pos) (args_form s)

-- F [args]
unfoldable pub call_form : ConditionScope → ExprReceiver → Form Expr
call_form s on = shift is_feature (named_form s on) refuse

-- "[" expr {"," expr} "]", after the "["
unfoldable pub indices_form : ConditionScope → Form (List Expr)
indices_form s = until sign.RightBracket (list (nest (expr s outside)))

-- "(" expr ")", after the "("
unfoldable pub inside_form : ConditionScope → Form Expr
inside_form s = until sign.RightParen (nest (expr s outside))

-- "(" expr ")"
unfoldable pub parenthesised_form : ConditionScope → Form Expr
parenthesised_form s = shift (is_sign sign.LeftParen) (λ _. inside_form s) refuse

-- ["(" expr ")"], and what it makes where it is absent and where it is written
unfoldable pub optional_form : ConditionScope → Expr → (Expr → Expr) → Form Expr
optional_form s absent of = shift (is_sign sign.LeftParen) (λ _. make of (inside_form s)) (give absent)

-- ---- what an expression begins with

-- {text} after a first one
unfoldable pub texts_form : List ℕ → Form (List ℕ)
texts_form first = repeat is_text (λ bytes l. give (bytes ++ text_of l)) first

-- "|" exprs "|", where it is allowed
unfoldable pub items_or : ConditionScope → Where → Form Expr → Form Expr
items_or s outside other =
    shift (is_sign sign.Bar) (λ l. make (λ es. tree.Items es l.pos) (until sign.Bar (list (nest (expr s in_array))))) other
items_or s in_array other = other

-- "result" | "initial" "(" expr ")", where they are allowed
unfoldable pub result_or : ConditionScope → Form Expr → Form Expr
result_or PostClause other =
    shift (is_word word.Result) (λ w. give (tree.Call Implied w.bytes [] w.pos))
    (shift (is_word word.Initial)
    (λ w. shift (is_sign sign.LeftParen)
    (λ _. make (λ e. tree.Call Implied w.bytes (Value In e ∷ []) w.pos) (inside_form Plain)) refuse)
    other)
result_or Plain other = other

-- type "::" F [args]
unfoldable pub class_call_form : ConditionScope → Form Expr
class_call_form s = follow type_form (λ t. shift (is_sign sign.DoubleColon) (λ _. call_form s (OfClass t)) refuse)

-- optional_type = [type]
unfoldable pub optional_type_form : Form (Option Ty)
optional_type_form = either (make Some type_form) (give None)

-- first = number | char | text {text} | "true" | "false" | "self" | "exception" | "(" expr ")"
--       | "void" ["(" expr ")"] | "new" ["(" expr ")"] | F [args] | type "::" F [args]
--       | "#" [type] [args] | "|" exprs "|" | "bind" "(" post ")" | "[" exprs "]"
--       | "result" | "initial" "(" expr ")", both in a `post` alone and not inside an `initial`
unfoldable pub first_form : ConditionScope → Where → Form Expr
first_form s x =
    shift is_number (λ l. give (tree.Int (value_of l) l.pos))
    (shift is_character (λ l. give (tree.Char (value_of l) l.pos))
    (shift is_text (λ l. make (λ bytes. tree.Text bytes l.pos) (texts_form (text_of l)))
    (shift (is_word word.True) (λ w. give (tree.Bool true w.pos))
    (shift (is_word word.False) (λ w. give (tree.Bool false w.pos))
    (shift (is_word word.SelfWord) (λ w. give (tree.SelfRef w.pos))
    (shift (is_word word.Exception) (λ w. give (tree.Exception w.pos))
    (shift (is_sign sign.LeftParen) (λ _. inside_form s)
    (shift (is_word word.Void) (λ w. optional_form s (tree.Void w.pos) (λ e. tree.IsVoid e w.pos))
    (shift (is_word word.New) (λ w. optional_form s (tree.New None w.pos) (λ e. tree.New (Some e) w.pos))
    (shift is_feature (named_form s Implied)
    (shift (is_sign sign.Hash)
    (λ hash. follow optional_type_form (λ of. make (λ given. tree.Create of given hash.pos) (args_form s)))
    (shift (is_word word.Bind)
    (λ w. shift (is_sign sign.LeftParen) (λ _. make (λ e. tree.Bind e w.pos) (until sign.RightParen (nest (post s outside)))) refuse)
    (shift (is_sign sign.LeftBracket) (λ l. make (λ places. tree.Index None places l.pos) (indices_form s))
    (items_or s x
    (result_or s
    (class_call_form s))))))))))))))))

-- ---- operators

-- "." or "["
abbrev pub goes_on : Lexeme → Bool
goes_on l = is_sign sign.Dot l || is_sign sign.LeftBracket l

-- after a "." or after a "[", with the position of the whole form and the form so far
unfoldable pub going_form : Bool → ConditionScope → Pos × Expr → Form (Pos × Expr)
going_form true s so_far = make (λ e. (so_far.0, e)) (call_form s (Of so_far.1))
going_form false s so_far = make (λ places. (so_far.0, tree.Index (Some so_far.1) places so_far.0)) (indices_form s)

-- post = first {"." F [args] | index}, with the position where it begins
unfoldable pub placed_post_form : ConditionScope → Where → Form (Pos × Expr)
placed_post_form s x = follow (placed (first_form s x)) (repeat goes_on (λ so_far l. going_form (is_sign sign.Dot l) s so_far))

unfoldable pub post_form : ConditionScope → Where → Form Expr
post_form s x = make (λ whole. whole.1) (placed_post_form s x)

-- power = post ["^" power]
unfoldable pub power_form : ConditionScope → Where → Form Expr
power_form s x =
    follow (post_form s x) (λ a. shift (is_sign sign.Caret) (λ o. make (λ b. tree.Binary Pow a b o.pos) (nest (power s x))) (give a))

-- unary = ("-" | "~") unary | power
unfoldable pub unary_form : ConditionScope → Where → Form Expr
unary_form s x =
    shift (is_operator prefix_kind) (λ o. make (λ e. tree.Unary (operator_of prefix_kind o) e o.pos) (nest (unary s x))) (power_form s x)

-- operation = operand {operator operand}, left-associative, of operators by the kind of their lexeme
unfoldable pub operation_form : (TokenKind → Option Operator) → Form Expr → Form Expr
operation_form operators operand =
    follow operand (repeat (is_operator operators) (λ a o. make (λ b. tree.Binary (operator_of operators o) a b o.pos) operand))

-- the operands of an operation are operations of the next stronger operators, and in the end unaries
unfoldable pub product_form : ConditionScope → Where → Form Expr
product_form s x = operation_form multiplying_kind (unary_form s x)

unfoldable pub sum_form : ConditionScope → Where → Form Expr
sum_form s x = operation_form adding_kind (product_form s x)

unfoldable pub comparison_form : ConditionScope → Where → Form Expr
comparison_form s x = operation_form comparing_kind (sum_form s x)

-- expr = an operation of the weakest operators
unfoldable pub expr_form : ConditionScope → Where → Form Expr
expr_form s x = operation_form logical_kind (comparison_form s x)
