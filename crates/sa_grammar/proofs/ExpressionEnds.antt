-- What continues the productions of expressions, by the kind of the next lexeme.
use Rattle.std.proofs.Common.{◌≡◌, Bool, false, ◌||◌, is_some, List, [], ◌∷◌, ap, ◌∙◌}
use Rattle.std.proofs.lemmas.Bool.{or_parts}
use Rattle.sa_lexer.specs.declared.token.TokenKind.{TokenKind}
use Rattle.sa_lexer.specs.declared.sign.Sign.TheVariants as sign
use Rattle.sa_lexer.specs.declared.word.Word.TheVariants as word
use Rattle.sa_parser_expr.specs.Lexemes.{Lexeme}
use Rattle.sa_parser_expr.specs.Tests.{is_sign_kind, is_word_kind, is_class_kind, is_text_kind, logical_kind, comparing_kind, adding_kind, multiplying_kind}
use Rattle.sa_parser_expr.proofs.Shifts.{Shut}
use Rattle.sa_grammar.proofs.TypeForms.{EndsType}

-- after the `#` of a creation
abbrev pub begins_type : TokenKind → Bool
begins_type k = is_class_kind k || (is_word_kind word.Same k || (is_word_kind word.Rout k || (is_word_kind word.Iter k || false)))

-- after a type, or where one is allowed
abbrev pub after_colon : TokenKind → Bool
after_colon k = is_sign_kind sign.Colon k || begins_type k

abbrev pub after_type : TokenKind → Bool
after_type k = is_sign_kind sign.LeftBrace k || after_colon k

-- after a name
abbrev pub after_name : TokenKind → Bool
after_name k = is_sign_kind sign.LeftParen k || after_type k

abbrev pub after_first : TokenKind → Bool
after_first k = is_text_kind k || after_name k

abbrev pub goes_on_kind : TokenKind → Bool
goes_on_kind k = is_sign_kind sign.Dot k || is_sign_kind sign.LeftBracket k

abbrev pub after_post : TokenKind → Bool
after_post k = after_first k || goes_on_kind k

abbrev pub after_power : TokenKind → Bool
after_power k = after_post k || is_sign_kind sign.Caret k

abbrev pub after_product : TokenKind → Bool
after_product k = after_power k || is_some (multiplying_kind k)

abbrev pub after_sum : TokenKind → Bool
after_sum k = after_product k || is_some (adding_kind k)

abbrev pub after_comparison : TokenKind → Bool
after_comparison k = after_sum k || is_some (comparing_kind k)

abbrev pub after_expr : TokenKind → Bool
after_expr k = after_comparison k || is_some (logical_kind k)

-- the next lexeme, if there is one, is of no such kind
abbrev pub Ends : (TokenKind → Bool) → List Lexeme → Type 0
Ends after rest = Shut (λ l. after l.kind) rest

pub ends_left : (one other : TokenKind → Bool) (rest : List Lexeme) → Ends (λ k. one k || other k) rest → Ends one rest
ends_left one other [] h = tt
ends_left one other (l ∷ rest) h = (or_parts (one l.kind) (other l.kind) h).0

pub ends_right : (one other : TokenKind → Bool) (rest : List Lexeme) → Ends (λ k. one k || other k) rest → Ends other rest
ends_right one other [] h = tt
ends_right one other (l ∷ rest) h = (or_parts (one l.kind) (other l.kind) h).1

pub kind_ends : (after : TokenKind → Bool) {kind : TokenKind} (l : Lexeme) (rest : List Lexeme) → l.kind ≡ kind → after kind ≡ false → Ends after (l ∷ rest)
kind_ends after l rest e h = ap after e ∙ h

pub first_ends_name : (rest : List Lexeme) → Ends after_first rest → Ends after_name rest
first_ends_name rest h = ends_right is_text_kind after_name rest h

pub first_shuts_paren : (rest : List Lexeme) → Ends after_first rest → Ends (is_sign_kind sign.LeftParen) rest
first_shuts_paren rest h = ends_left (is_sign_kind sign.LeftParen) after_type rest (first_ends_name rest h)

pub ends_type : (rest : List Lexeme) → Ends after_type rest → EndsType rest
ends_type rest h = record {
  brace = ends_left (is_sign_kind sign.LeftBrace) after_colon rest h;
  colon = ends_left (is_sign_kind sign.Colon) begins_type rest (ends_right (is_sign_kind sign.LeftBrace) after_colon rest h);
}

pub ends_optional_type : (rest : List Lexeme) → Ends after_type rest → Ends begins_type rest
ends_optional_type rest h = ends_right (is_sign_kind sign.Colon) begins_type rest (ends_right (is_sign_kind sign.LeftBrace) after_colon rest h)

-- what doesn't continue an expression doesn't continue its first part
pub expr_ends_power : (rest : List Lexeme) → Ends after_expr rest → Ends after_power rest
expr_ends_power rest h =
    ends_left after_power (λ k. is_some (multiplying_kind k)) rest (ends_left after_product (λ k. is_some (adding_kind k)) rest
    (ends_left after_sum (λ k. is_some (comparing_kind k)) rest (ends_left after_comparison (λ k. is_some (logical_kind k)) rest h)))

pub power_ends_first : (rest : List Lexeme) → Ends after_power rest → Ends after_first rest
power_ends_first rest h = ends_left after_first goes_on_kind rest (ends_left after_post (is_sign_kind sign.Caret) rest h)

pub expr_ends_type : (rest : List Lexeme) → Ends after_expr rest → EndsType rest
expr_ends_type rest h =
    ends_type rest (ends_right (is_sign_kind sign.LeftParen) after_type rest (first_ends_name rest (power_ends_first rest (expr_ends_power rest h))))

pub expr_shuts_colon : (rest : List Lexeme) → Ends after_expr rest → Ends (is_sign_kind sign.Colon) rest
expr_shuts_colon rest h = (expr_ends_type rest h).colon
