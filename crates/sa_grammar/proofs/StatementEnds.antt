-- What statements begin with, and what continues them, by the kind of the next lexeme.
use Rattle.std.proofs.Common.{◌≡◌, Bool, true, false, ◌||◌, List, [], ◌∷◌, refl, ◌∙◌}
use Rattle.sa_lexer.specs.declared.token.TokenKind.{TokenKind}
use Rattle.sa_lexer.specs.declared.token.TokenKind.TheVariants as token
use Rattle.sa_lexer.specs.declared.sign.Sign.{Sign}
use Rattle.sa_lexer.specs.declared.sign.Sign.TheVariants as sign
use Rattle.sa_lexer.specs.declared.word.Word.{Word}
use Rattle.sa_lexer.specs.declared.word.Word.TheVariants as word
use Rattle.sa_parser_expr.specs.declared.grammar.ConditionScope.TheVariants.{Plain}
use Rattle.sa_parser_expr.specs.Lexemes.{Lexeme}
use Rattle.sa_parser_expr.specs.Enclosures.{outside}
use Rattle.sa_parser_expr.specs.Tests.{is_sign_kind}
use Rattle.sa_parser_expr.specs.Forms.{opens}
use Rattle.sa_parser_expr.specs.TypeForms.{type_form}
use Rattle.sa_parser_expr.specs.ExpressionForms.{first_form, items_or, result_or, class_call_form, placed_post_form, post_form, power_form, unary_form}
use Rattle.sa_parser_expr.specs.ExpressionForms.{operation_form, product_form, sum_form, comparison_form, expr_form}
use Rattle.sa_parser_expr.specs.StatementForms.{simple_form, stmt_form}
use Rattle.sa_parser_expr.proofs.Tested.{lexeme}
use Rattle.sa_parser_expr.proofs.Shifts.{Shut, Meets}
use Rattle.sa_grammar.proofs.ExpressionStarts.{begins_expr}
use Rattle.sa_grammar.proofs.ExpressionEnds.{after_expr}

-- words that begin a statement and no expression
abbrev word_begins_stmt : Word → Bool
word_begins_stmt word.Assert = true
word_begins_stmt word.Case = true
word_begins_stmt word.If = true
word_begins_stmt word.Loop = true
word_begins_stmt word.Protect = true
word_begins_stmt word.Quit = true
word_begins_stmt word.Raise = true
word_begins_stmt word.Return = true
word_begins_stmt word.Typecase = true
word_begins_stmt word.Yield = true
word_begins_stmt _ = false

abbrev pub kind_begins_stmt : TokenKind → Bool
kind_begins_stmt (token.Word w) = word_begins_stmt w
kind_begins_stmt _ = false

abbrev pub begins_stmt : TokenKind → Bool
begins_stmt k = kind_begins_stmt k || begins_expr Plain k

-- after names
abbrev pub after_names : TokenKind → Bool
after_names k = is_sign_kind sign.Comma k || is_sign_kind sign.Declare k

-- after an expression
abbrev pub after_value : TokenKind → Bool
after_value k = is_sign_kind sign.Assign k || after_names k

-- after a statement without others
abbrev pub after_simple : TokenKind → Bool
after_simple k = after_expr k || after_value k

-- after a statement, or where one is allowed
abbrev pub after_stmt : TokenKind → Bool
after_stmt k = after_simple k || begins_stmt k

abbrev pub after_stmts : TokenKind → Bool
after_stmts k = after_stmt k || is_sign_kind sign.Semicolon k

-- ---- what opens the form of statements

word_opens_expr : (w : Word) → opens (expr_form Plain outside) (lexeme (token.Word w)) ≡ begins_expr Plain (token.Word w)
unfolding type_form first_form items_or result_or class_call_form placed_post_form post_form power_form unary_form operation_form product_form sum_form comparison_form expr_form
word_opens_expr word.And = refl
word_opens_expr _ = refl

sign_opens_expr : (s : Sign) → opens (expr_form Plain outside) (lexeme (token.Sign s)) ≡ begins_expr Plain (token.Sign s)
unfolding type_form first_form items_or result_or class_call_form placed_post_form post_form power_form unary_form operation_form product_form sum_form comparison_form expr_form
sign_opens_expr sign.Comma = refl
sign_opens_expr _ = refl

kind_opens_expr : (k : TokenKind) → opens (expr_form Plain outside) (lexeme k) ≡ begins_expr Plain k
unfolding type_form first_form items_or result_or class_call_form placed_post_form post_form power_form unary_form operation_form product_form sum_form comparison_form expr_form
kind_opens_expr (token.Word w) = word_opens_expr w
kind_opens_expr (token.Sign s) = sign_opens_expr s
kind_opens_expr _ = refl

pub expr_opens : (l : Lexeme) → opens (expr_form Plain outside) l ≡ begins_expr Plain l.kind
unfolding type_form first_form items_or result_or class_call_form placed_post_form post_form power_form unary_form operation_form product_form sum_form comparison_form expr_form
expr_opens l = kind_opens_expr l.kind

word_opens_stmt : (w : Word) → opens stmt_form (lexeme (token.Word w)) ≡ begins_stmt (token.Word w)
unfolding type_form first_form items_or result_or class_call_form placed_post_form post_form power_form unary_form operation_form product_form sum_form comparison_form expr_form simple_form stmt_form
word_opens_stmt word.And = refl
word_opens_stmt _ = refl

sign_opens_stmt : (s : Sign) → opens stmt_form (lexeme (token.Sign s)) ≡ begins_stmt (token.Sign s)
unfolding type_form first_form items_or result_or class_call_form placed_post_form post_form power_form unary_form operation_form product_form sum_form comparison_form expr_form simple_form stmt_form
sign_opens_stmt sign.Comma = refl
sign_opens_stmt _ = refl

kind_opens_stmt : (k : TokenKind) → opens stmt_form (lexeme k) ≡ begins_stmt k
unfolding type_form first_form items_or result_or class_call_form placed_post_form post_form power_form unary_form operation_form product_form sum_form comparison_form expr_form simple_form stmt_form
kind_opens_stmt (token.Word w) = word_opens_stmt w
kind_opens_stmt (token.Sign s) = sign_opens_stmt s
kind_opens_stmt _ = refl

pub stmt_opens : (l : Lexeme) → opens stmt_form l ≡ begins_stmt l.kind
unfolding type_form first_form items_or result_or class_call_form placed_post_form post_form power_form unary_form operation_form product_form sum_form comparison_form expr_form simple_form stmt_form
stmt_opens l = kind_opens_stmt l.kind

-- tests that agree
pub agreed_shut : (one other : Lexeme → Bool) → ((l : Lexeme) → one l ≡ other l) → (rest : List Lexeme) → Shut other rest → Shut one rest
agreed_shut one other same [] h = tt
agreed_shut one other same (l ∷ rest) h = same l ∙ h

pub agreed_meets : (one other : Lexeme → Bool) → ((l : Lexeme) → one l ≡ other l) → (ls : List Lexeme) → Meets other ls → Meets one ls
agreed_meets one other same [] h = h
agreed_meets one other same (l ∷ ls) h = same l ∙ h
