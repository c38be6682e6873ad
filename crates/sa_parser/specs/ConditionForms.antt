-- The forms of clauses and invariants, production by production.
use Rattle.std.specs.Prelude.{Bool, ◌&&◌, bytes_eq, codes, ℕ, Option, Some, None, Result, Ok, Err}
use Rattle.sa_lexer.specs.declared.sign.Sign.TheVariants as sign
use Rattle.sa_lexer.specs.declared.word.Word.{Word}
use Rattle.sa_lexer.specs.declared.word.Word.TheVariants as word
use Rattle.sa_ast.specs.declared.contract.Condition.{Condition}
use Rattle.sa_ast.specs.declared.refusal.Rejection.{Rejection}
use Rattle.sa_parser_expr.specs.declared.grammar.ConditionScope.{ConditionScope}
use Rattle.sa_parser_expr.specs.declared.grammar.ConditionScope.TheVariants.{Plain, PostClause}
use Rattle.sa_parser_expr.specs.Lexemes.{Lexeme}
use Rattle.sa_parser_expr.specs.Enclosures.{outside}
use Rattle.sa_parser_expr.specs.Tests.{is_sign, is_word, is_class_name}
use Rattle.sa_parser_expr.specs.Forms.{Form, give, refuse, shift, follow, placed, nest, expr, make}
use Rattle.sa_parser.specs.declared.contract.Clauses.{Clauses}
use Rattle.sa_parser.specs.declared.file.FileKind.{FileKind}
use Rattle.sa_parser.specs.declared.file.FileKind.TheVariants.{Prelude, Program}
use Rattle.sa_parser.specs.Conditions.{no_clauses}

-- expr, at its first lexeme
unfoldable pub condition_form : ConditionScope → Form Condition
condition_form scope = make (λ whole. record { test = whole.1; pos = whole.0 }) (placed (nest (expr scope outside)))

-- [WORD expr]
unfoldable pub clause_form : Word → ConditionScope → Form (Option Condition)
clause_form w scope = shift (is_word w) (λ _. make Some (condition_form scope)) (give None)

-- clauses = ["pre" expr] ["post" expr], of which the prelude has none
unfoldable pub clauses_form : FileKind → Form Clauses
clauses_form Prelude = give no_clauses
clauses_form Program =
    follow (clause_form word.Pre Plain) (λ pre. make (λ post. record { pre = pre; post = post }) (clause_form word.Post PostClause))

-- the class name "BOOL"
abbrev pub is_bool : Lexeme → Bool
is_bool l = is_class_name l && bytes_eq l.bytes (codes "BOOL")

-- closing = [";"] "end", after a condition
unfoldable pub closing_form : Condition → Form Condition
closing_form holds =
    shift (is_sign sign.Semicolon) (λ _. shift (is_word word.End) (λ _. give holds) refuse)
    (shift (is_word word.End) (λ _. give holds) refuse)

-- ":" "BOOL" "is" "return" expr closing, after the "invariant"
unfoldable pub holding_form : Form Condition
holding_form =
    shift (is_sign sign.Colon)
    (λ _. shift is_bool
    (λ _. shift (is_word word.Is)
    (λ _. shift (is_word word.Return) (λ _. follow (condition_form Plain) closing_form) refuse)
    refuse) refuse) refuse

-- the index, where one is given, with this AST
abbrev pub with_ast : {A : Type 0} → A → Result ℕ Rejection → Result (A × ℕ) Rejection
with_ast tree (Ok next) = Ok (tree, next)
with_ast tree (Err refusal) = Err refusal
