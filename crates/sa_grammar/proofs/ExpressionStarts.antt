-- What expressions begin with, and lexemes that spell one.
use Rattle.std.proofs.Common.{◌≡◌, Bool, true, false, is_some, ◌||◌, List, [], ◌∷◌, ◌++◌, refl, sym, ap, ◌∙◌, true≢false}
use Rattle.std.proofs.lemmas.Bool.{or_left}
use Rattle.sa_lexer.specs.declared.token.TokenKind.{TokenKind}
use Rattle.sa_lexer.specs.declared.token.TokenKind.TheVariants as token
use Rattle.sa_lexer.specs.declared.sign.Sign.{Sign}
use Rattle.sa_lexer.specs.declared.sign.Sign.TheVariants as sign
use Rattle.sa_lexer.specs.declared.word.Word.{Word}
use Rattle.sa_lexer.specs.declared.word.Word.TheVariants as word
use Rattle.sa_ast.specs.declared.pos.Pos.{Pos}
use Rattle.sa_ast.specs.declared.ty.Ty.{Ty}
use Rattle.sa_ast.specs.declared.expr.Operator.{Operator}
use Rattle.sa_ast.specs.declared.expr.ExprReceiver.{ExprReceiver}
use Rattle.sa_ast.specs.declared.expr.Expr.{Expr}
use Rattle.sa_ast.specs.declared.expr.Expr.TheVariants as tree
use Rattle.sa_parser_expr.specs.declared.grammar.ConditionScope.{ConditionScope}
use Rattle.sa_parser_expr.specs.declared.grammar.ConditionScope.TheVariants.{Plain, PostClause}
use Rattle.sa_parser_expr.specs.Lexemes.{Lexeme, class_name, abstract_name, lower_name, iter_name}
use Rattle.sa_parser_expr.specs.Types as types
use Rattle.sa_parser_expr.specs.Types.{IsType}
use Rattle.sa_parser_expr.specs.Expressions as exprs
use Rattle.sa_parser_expr.specs.Expressions.{IsTexts, IsCall, IsParenthesised, IsFirst, IsPost, IsPower, IsUnary, IsOperand, IsOperation, IsExpr, IsPrefix}
use Rattle.sa_parser_expr.specs.Enclosures.{Enclosure, enclosure_of, outside}
use Rattle.sa_parser_expr.specs.Tests.{is_sign, is_word, prefix_kind, is_operator}
use Rattle.sa_parser_expr.proofs.Tested.{sign_stands, word_stands, lexeme, a_sign, a_word}
use Rattle.sa_parser_expr.proofs.Shifts.{Meets, Shut}
use Rattle.sa_grammar.proofs.Operators.{Precedence, Logical, Comparing, Adding, Multiplying, prefix_of_lexeme}

-- ---- lexemes that spell one

abbrev pub origin : Pos
origin = record { file = 0; at = 0 }

-- `true`
abbrev pub true_lexeme : Lexeme
true_lexeme = lexeme (token.Word word.True)

pub a_post : (s : ConditionScope) (x : Enclosure) → IsPost s x (true_lexeme ∷ []) (tree.Bool true origin)
a_post s x = exprs.first (exprs.true_word (a_word word.True))

pub a_power : (s : ConditionScope) (x : Enclosure) → IsPower s x (true_lexeme ∷ []) (tree.Bool true origin)
a_power s x = exprs.post (a_post s x)

pub a_unary : (s : ConditionScope) (x : Enclosure) → IsUnary s x (true_lexeme ∷ []) (tree.Bool true origin)
a_unary s x = exprs.power (a_power s x)

pub an_expr : (s : ConditionScope) (x : Enclosure) → IsExpr s x (true_lexeme ∷ []) (tree.Bool true origin)
an_expr s x =
    exprs.logical_operation (exprs.operand (exprs.of_logical (exprs.operand (exprs.of_comparing (exprs.operand (exprs.of_adding
    (exprs.operand (exprs.of_multiplying (a_unary s x)))))))))

-- in parentheses
abbrev pub parenthesised_lexemes : List Lexeme
parenthesised_lexemes = lexeme (token.Sign sign.LeftParen) ∷ true_lexeme ∷ lexeme (token.Sign sign.RightParen) ∷ []

pub a_parenthesised : (s : ConditionScope) → IsParenthesised s parenthesised_lexemes (tree.Bool true origin)
a_parenthesised s = exprs.in_parentheses (a_sign sign.LeftParen) (an_expr s (enclosure_of outside)) (a_sign sign.RightParen)

-- a call
pub a_call : (s : ConditionScope) (on : ExprReceiver) → IsCall s on (lexeme token.Lower ∷ []) (tree.Call on [] [] origin)
a_call s on = exprs.named (lower_name refl) exprs.no_args

-- ---- what they begin with

abbrev is_post : ConditionScope → Bool
is_post Plain = false
is_post PostClause = true

abbrev word_begins : ConditionScope → Word → Bool
word_begins s word.Bind = true
word_begins s word.Exception = true
word_begins s word.False = true
word_begins s word.Initial = is_post s
word_begins s word.Iter = true
word_begins s word.New = true
word_begins s word.Result = is_post s
word_begins s word.Rout = true
word_begins s word.Same = true
word_begins s word.SelfWord = true
word_begins s word.True = true
word_begins s word.Void = true
word_begins s _ = false

abbrev sign_begins : Sign → Bool
sign_begins sign.Bar = true
sign_begins sign.Hash = true
sign_begins sign.LeftBracket = true
sign_begins sign.LeftParen = true
sign_begins _ = false

-- without an operator before it
abbrev pub begins_first : ConditionScope → TokenKind → Bool
begins_first s (token.Word w) = word_begins s w
begins_first s (token.Sign sign) = sign_begins sign
begins_first s _ = true

abbrev pub begins_expr : ConditionScope → TokenKind → Bool
begins_expr s k = begins_first s k || is_some (prefix_kind k)

abbrev pub StartsFirst : ConditionScope → List Lexeme → Type 0
StartsFirst s ls = Meets (λ l. begins_first s l.kind) ls

abbrev pub StartsExpr : ConditionScope → List Lexeme → Type 0
StartsExpr s ls = Meets (λ l. begins_expr s l.kind) ls

pub meets_front : (test : Lexeme → Bool) (ls rest : List Lexeme) → Meets test ls → Meets test (ls ++ rest)
meets_front test [] rest h = absurd h
meets_front test (l ∷ ls) rest h = h

type_starts : (s : ConditionScope) {ls : List Lexeme} {t : Ty} → IsType ls t → StartsFirst s ls
type_starts s (types.named (class_name e) among) = ap (begins_first s) e
type_starts s (types.named (abstract_name e) among) = ap (begins_first s) e
type_starts s (types.same is) = ap (begins_first s) is.kind
type_starts s (types.rout is first second) = ap (begins_first s) is.kind
type_starts s (types.iter is first second) = ap (begins_first s) is.kind

parenthesised_starts : {s : ConditionScope} {ls : List Lexeme} {e : Expr} → IsParenthesised s ls e → StartsFirst s ls
parenthesised_starts {s = s} (exprs.in_parentheses begun h closed) = ap (begins_first s) begun.kind

call_starts : {s : ConditionScope} {on : ExprReceiver} {ls : List Lexeme} {e : Expr} → IsCall s on ls e → StartsFirst s ls
call_starts {s = s} (exprs.named (lower_name e) among) = ap (begins_first s) e
call_starts {s = s} (exprs.named (iter_name e) among) = ap (begins_first s) e

pub first_starts : {s : ConditionScope} {x : Enclosure} {ls : List Lexeme} {e : Expr} → IsFirst s x ls e → StartsFirst s ls
first_starts {s = s} (exprs.number e) = ap (begins_first s) e
first_starts {s = s} (exprs.character e) = ap (begins_first s) e
first_starts {s = s} (exprs.texts (exprs.last_text e)) = ap (begins_first s) e
first_starts {s = s} (exprs.texts (exprs.more_texts e others)) = ap (begins_first s) e
first_starts {s = s} (exprs.true_word is) = ap (begins_first s) is.kind
first_starts {s = s} (exprs.false_word is) = ap (begins_first s) is.kind
first_starts {s = s} (exprs.self_word is) = ap (begins_first s) is.kind
first_starts {s = s} (exprs.exception_word is) = ap (begins_first s) is.kind
first_starts {s = s} (exprs.parenthesised h) = parenthesised_starts h
first_starts {s = s} (exprs.void_word is) = ap (begins_first s) is.kind
first_starts {s = s} (exprs.void_of is h) = ap (begins_first s) is.kind
first_starts {s = s} (exprs.new_word is) = ap (begins_first s) is.kind
first_starts {s = s} (exprs.new_of is h) = ap (begins_first s) is.kind
first_starts {s = s} (exprs.implied_call h) = call_starts h
first_starts {s = s} (exprs.class_call {ls = ls} {ms = ms} {colons = colons} one parting h) = meets_front (λ l. begins_first s l.kind) ls (colons ∷ ms) (type_starts s one)
first_starts {s = s} (exprs.create is one h) = ap (begins_first s) is.kind
first_starts {s = s} (exprs.items begun among closed) = ap (begins_first s) begun.kind
first_starts {s = s} (exprs.bind is begun h closed) = ap (begins_first s) is.kind
first_starts {s = s} (exprs.index_on_self (exprs.places begun among closed)) = ap (begins_first s) begun.kind
first_starts {s = s} (exprs.result_word is) = ap (begins_first s) is.kind
first_starts {s = s} (exprs.initial_of is h) = ap (begins_first s) is.kind

pub post_starts : {s : ConditionScope} {x : Enclosure} {ls : List Lexeme} {e : Expr} → IsPost s x ls e → StartsFirst s ls
post_starts {s = s} (exprs.first h) = first_starts h
post_starts {s = s} (exprs.call_on {ls = ls} {ms = ms} {dot = dot} h is called) = meets_front (λ l. begins_first s l.kind) ls (dot ∷ ms) (post_starts h)
post_starts {s = s} (exprs.index_of h index) = post_starts h

pub power_starts : {s : ConditionScope} {x : Enclosure} {ls : List Lexeme} {e : Expr} → IsPower s x ls e → StartsFirst s ls
power_starts {s = s} (exprs.post h) = post_starts h
power_starts {s = s} (exprs.raised {ls = ls} {ms = ms} {o = o} h is k) = meets_front (λ l. begins_first s l.kind) ls (o ∷ ms) (post_starts h)

first_is_expr : (s : ConditionScope) (ls : List Lexeme) → StartsFirst s ls → StartsExpr s ls
first_is_expr s [] h = absurd h
first_is_expr s (l ∷ ls) h = or_left (begins_first s l.kind) (is_some (prefix_kind l.kind)) h

unary_starts : {s : ConditionScope} {x : Enclosure} {ls : List Lexeme} {e : Expr} → IsUnary s x ls e → StartsExpr s ls
unary_starts {s = s} (exprs.prefix (exprs.negate is) h) = ap (begins_expr s) is.kind
unary_starts {s = s} (exprs.prefix (exprs.not_sign is) h) = ap (begins_expr s) is.kind
unary_starts {s = s} (exprs.power {ls = ls} h) = first_is_expr s ls (power_starts h)

module _ {s : ConditionScope} {x : Enclosure} where
  operation_starts : {p : Precedence} → ((ls : List Lexeme) (e : Expr) → IsOperand s p x ls e → StartsExpr s ls)
      → {ls : List Lexeme} {e : Expr} → IsOperation s p x ls e → StartsExpr s ls
  operation_starts each (exprs.operand {ls = ls} {e = e} h) = each ls e h
  operation_starts each (exprs.operation {ls = ls} {ms = ms} {o = o} h is k) = meets_front (λ l. begins_expr s l.kind) ls (o ∷ ms) (operation_starts each h)

  product_starts : (ls : List Lexeme) (e : Expr) → IsOperand s Multiplying x ls e → StartsExpr s ls
  product_starts ls e (exprs.of_multiplying h) = unary_starts h

  sum_starts : (ls : List Lexeme) (e : Expr) → IsOperand s Adding x ls e → StartsExpr s ls
  sum_starts ls e (exprs.of_adding h) = operation_starts product_starts h

  comparison_starts : (ls : List Lexeme) (e : Expr) → IsOperand s Comparing x ls e → StartsExpr s ls
  comparison_starts ls e (exprs.of_comparing h) = operation_starts sum_starts h

  logical_starts : (ls : List Lexeme) (e : Expr) → IsOperand s Logical x ls e → StartsExpr s ls
  logical_starts ls e (exprs.of_logical h) = operation_starts comparison_starts h

  pub expr_starts : {ls : List Lexeme} {e : Expr} → IsExpr s x ls e → StartsExpr s ls
  expr_starts (exprs.logical_operation h) = operation_starts logical_starts h

-- ---- what they don't begin with

module _ (test : TokenKind → Bool) where
  sign_apart : (s : Sign) → test (token.Sign s) ≡ false → (l : Lexeme) → test l.kind ≡ true → (b : Bool) → is_sign s l ≡ b → b ≡ false
  sign_apart s none l h true e = absurd (true≢false (sym h ∙ ap test (sign_stands s l e).kind ∙ none))
  sign_apart s none l h false e = refl

  word_apart : (w : Word) → test (token.Word w) ≡ false → (l : Lexeme) → test l.kind ≡ true → (b : Bool) → is_word w l ≡ b → b ≡ false
  word_apart w none l h true e = absurd (true≢false (sym h ∙ ap test (word_stands w l e).kind ∙ none))
  word_apart w none l h false e = refl

  pub sign_shut : (s : Sign) → test (token.Sign s) ≡ false → (ls rest : List Lexeme) → Meets (λ l. test l.kind) ls → Shut (is_sign s) (ls ++ rest)
  sign_shut s none [] rest h = absurd h
  sign_shut s none (l ∷ ls) rest h = sign_apart s none l h (is_sign s l) refl

  pub word_shut : (w : Word) → test (token.Word w) ≡ false → (ls rest : List Lexeme) → Meets (λ l. test l.kind) ls → Shut (is_word w) (ls ++ rest)
  word_shut w none [] rest h = absurd h
  word_shut w none (l ∷ ls) rest h = word_apart w none l h (is_word w l) refl

prefix_begins_none : (s : ConditionScope) {op : Operator} {l : Lexeme} → IsPrefix op l → begins_first s l.kind ≡ false
prefix_begins_none s (exprs.negate is) = ap (begins_first s) is.kind
prefix_begins_none s (exprs.not_sign is) = ap (begins_first s) is.kind

prefix_apart : (s : ConditionScope) (l : Lexeme) → begins_first s l.kind ≡ true → (b : Bool) → is_operator prefix_kind l ≡ b → b ≡ false
prefix_apart s l h true e = absurd (true≢false (sym h ∙ prefix_begins_none s (prefix_of_lexeme l e)))
prefix_apart s l h false e = refl

pub prefix_shut : (s : ConditionScope) (ls rest : List Lexeme) → StartsFirst s ls → Shut (is_operator prefix_kind) (ls ++ rest)
prefix_shut s [] rest h = absurd h
prefix_shut s (l ∷ ls) rest h = prefix_apart s l h (is_operator prefix_kind l) refl
