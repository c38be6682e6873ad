-- Operators: what is read of them, and names for their precedences, whose enumeration isn't exported.
use Rattle.std.proofs.Common.{◌≡◌, true, refl, ap, is_some, Option, Some}
use Rattle.sa_lexer.specs.declared.token.TokenKind.{TokenKind}
use Rattle.sa_lexer.specs.declared.token.TokenKind.TheVariants as token
use Rattle.sa_lexer.specs.declared.sign.Sign.{Sign}
use Rattle.sa_lexer.specs.declared.sign.Sign.TheVariants as sign
use Rattle.sa_lexer.specs.declared.word.Word.{Word}
use Rattle.sa_lexer.specs.declared.word.Word.TheVariants as word
use Rattle.sa_ast.specs.declared.expr.Operator.{Operator}
use Rattle.sa_parser_expr.specs.Lexemes.{Lexeme}
use Rattle.sa_parser_expr.specs.Expressions as exprs
use Rattle.sa_parser_expr.specs.Expressions.{IsLogical, IsComparing, IsAdding, IsMultiplying, IsOperator, IsPrefix}
use Rattle.sa_parser_expr.specs.Tests.{logical_word, comparing_sign, adding_sign, multiplying_sign, prefix_sign}
use Rattle.sa_parser_expr.specs.Tests.{logical_kind, comparing_kind, adding_kind, multiplying_kind, prefix_kind, or_any, is_operator, operator_of}

-- ---- precedences

abbrev first : {A B C : Type 0} → (A → B → C → Type 0) → Type 0
first {A = A} R = A

abbrev pub Precedence : Type 0
Precedence = first IsOperator

-- the precedence of what these operators are
abbrev precedence_of : {R : Operator → Lexeme → Type 0} {p : Precedence} → ((op : Operator) (l : Lexeme) → R op l → IsOperator p op l) → Precedence
precedence_of {p = p} gives = p

abbrev pub Logical : Precedence
Logical = precedence_of {R = IsLogical} (λ op l h. exprs.logical h)

abbrev pub Comparing : Precedence
Comparing = precedence_of {R = IsComparing} (λ op l h. exprs.comparing h)

abbrev pub Adding : Precedence
Adding = precedence_of {R = IsAdding} (λ op l h. exprs.adding h)

abbrev pub Multiplying : Precedence
Multiplying = precedence_of {R = IsMultiplying} (λ op l h. exprs.multiplying h)

-- ---- what a kind says

logical_stands : (l : Lexeme) (w : Word) → l.kind ≡ token.Word w → is_some (logical_word w) ≡ true → IsLogical (or_any (logical_word w)) l
logical_stands l word.And e h = exprs.and_word (record { kind = e })
logical_stands l word.Or e h = exprs.or_word (record { kind = e })
logical_stands l _ e h = absurd (cc)

comparing_stands : (l : Lexeme) (s : Sign) → l.kind ≡ token.Sign s → is_some (comparing_sign s) ≡ true → IsComparing (or_any (comparing_sign s)) l
comparing_stands l sign.Equal e h = exprs.equal (record { kind = e })
comparing_stands l sign.NotEqual e h = exprs.not_equal (record { kind = e })
comparing_stands l sign.Less e h = exprs.less (record { kind = e })
comparing_stands l sign.LessEqual e h = exprs.less_equal (record { kind = e })
comparing_stands l sign.Greater e h = exprs.greater (record { kind = e })
comparing_stands l sign.GreaterEqual e h = exprs.greater_equal (record { kind = e })
comparing_stands l _ e h = absurd (cc)

adding_stands : (l : Lexeme) (s : Sign) → l.kind ≡ token.Sign s → is_some (adding_sign s) ≡ true → IsAdding (or_any (adding_sign s)) l
adding_stands l sign.Plus e h = exprs.plus (record { kind = e })
adding_stands l sign.Minus e h = exprs.minus (record { kind = e })
adding_stands l _ e h = absurd (cc)

multiplying_stands : (l : Lexeme) (s : Sign) → l.kind ≡ token.Sign s → is_some (multiplying_sign s) ≡ true → IsMultiplying (or_any (multiplying_sign s)) l
multiplying_stands l sign.Star e h = exprs.star (record { kind = e })
multiplying_stands l sign.Slash e h = exprs.slash (record { kind = e })
multiplying_stands l sign.Percent e h = exprs.percent (record { kind = e })
multiplying_stands l _ e h = absurd (cc)

prefix_stands : (l : Lexeme) (s : Sign) → l.kind ≡ token.Sign s → is_some (prefix_sign s) ≡ true → IsPrefix (or_any (prefix_sign s)) l
prefix_stands l sign.Minus e h = exprs.negate (record { kind = e })
prefix_stands l sign.Tilde e h = exprs.not_sign (record { kind = e })
prefix_stands l _ e h = absurd (cc)

logical_of : (l : Lexeme) (k : TokenKind) → l.kind ≡ k → is_some (logical_kind k) ≡ true → IsOperator Logical (or_any (logical_kind k)) l
logical_of l (token.Word w) e h = exprs.logical (logical_stands l w e h)
logical_of l _ e h = absurd (cc)

comparing_of : (l : Lexeme) (k : TokenKind) → l.kind ≡ k → is_some (comparing_kind k) ≡ true → IsOperator Comparing (or_any (comparing_kind k)) l
comparing_of l (token.Sign s) e h = exprs.comparing (comparing_stands l s e h)
comparing_of l _ e h = absurd (cc)

adding_of : (l : Lexeme) (k : TokenKind) → l.kind ≡ k → is_some (adding_kind k) ≡ true → IsOperator Adding (or_any (adding_kind k)) l
adding_of l (token.Sign s) e h = exprs.adding (adding_stands l s e h)
adding_of l _ e h = absurd (cc)

multiplying_of : (l : Lexeme) (k : TokenKind) → l.kind ≡ k → is_some (multiplying_kind k) ≡ true → IsOperator Multiplying (or_any (multiplying_kind k)) l
multiplying_of l (token.Sign s) e h = exprs.multiplying (multiplying_stands l s e h)
multiplying_of l _ e h = absurd (cc)

prefix_of : (l : Lexeme) (k : TokenKind) → l.kind ≡ k → is_some (prefix_kind k) ≡ true → IsPrefix (or_any (prefix_kind k)) l
prefix_of l (token.Sign s) e h = prefix_stands l s e h
prefix_of l _ e h = absurd (cc)

pub prefix_of_lexeme : (l : Lexeme) → is_operator prefix_kind l ≡ true → IsPrefix (operator_of prefix_kind l) l
prefix_of_lexeme l h = prefix_of l l.kind refl h

pub prefix_met : {op : Operator} {l : Lexeme} → IsPrefix op l → prefix_kind l.kind ≡ Some op
prefix_met (exprs.negate is) = ap prefix_kind is.kind
prefix_met (exprs.not_sign is) = ap prefix_kind is.kind

-- ---- these are the operators of a precedence

pub record AreOperators (p : Precedence) (operators : TokenKind → Option Operator) : Type 0 where
  pub occurs : (l : Lexeme) → is_operator operators l ≡ true → IsOperator p (operator_of operators l) l
  pub met : {op : Operator} {l : Lexeme} → IsOperator p op l → operators l.kind ≡ Some op

logical_met : {op : Operator} {l : Lexeme} → IsOperator Logical op l → logical_kind l.kind ≡ Some op
logical_met (exprs.logical (exprs.and_word is)) = ap logical_kind is.kind
logical_met (exprs.logical (exprs.or_word is)) = ap logical_kind is.kind

comparing_met : {op : Operator} {l : Lexeme} → IsOperator Comparing op l → comparing_kind l.kind ≡ Some op
comparing_met (exprs.comparing (exprs.equal is)) = ap comparing_kind is.kind
comparing_met (exprs.comparing (exprs.not_equal is)) = ap comparing_kind is.kind
comparing_met (exprs.comparing (exprs.less is)) = ap comparing_kind is.kind
comparing_met (exprs.comparing (exprs.less_equal is)) = ap comparing_kind is.kind
comparing_met (exprs.comparing (exprs.greater is)) = ap comparing_kind is.kind
comparing_met (exprs.comparing (exprs.greater_equal is)) = ap comparing_kind is.kind

adding_met : {op : Operator} {l : Lexeme} → IsOperator Adding op l → adding_kind l.kind ≡ Some op
adding_met (exprs.adding (exprs.plus is)) = ap adding_kind is.kind
adding_met (exprs.adding (exprs.minus is)) = ap adding_kind is.kind

multiplying_met : {op : Operator} {l : Lexeme} → IsOperator Multiplying op l → multiplying_kind l.kind ≡ Some op
multiplying_met (exprs.multiplying (exprs.star is)) = ap multiplying_kind is.kind
multiplying_met (exprs.multiplying (exprs.slash is)) = ap multiplying_kind is.kind
multiplying_met (exprs.multiplying (exprs.percent is)) = ap multiplying_kind is.kind

pub logical_operators : AreOperators Logical logical_kind
logical_operators = record { occurs = λ l h. logical_of l l.kind refl h; met = logical_met }

pub comparing_operators : AreOperators Comparing comparing_kind
comparing_operators = record { occurs = λ l h. comparing_of l l.kind refl h; met = comparing_met }

pub adding_operators : AreOperators Adding adding_kind
adding_operators = record { occurs = λ l h. adding_of l l.kind refl h; met = adding_met }

pub multiplying_operators : AreOperators Multiplying multiplying_kind
multiplying_operators = record { occurs = λ l h. multiplying_of l l.kind refl h; met = multiplying_met }
