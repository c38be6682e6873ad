use Rattle.std.proofs.Common.{refl, arith}
use Rattle.sa_lexer.specs.declared.token.TokenKind.TheVariants as token
use Rattle.sa_lexer.specs.declared.sign.Sign.TheVariants as sign
use Rattle.sa_parser_expr.specs.Expressions as exprs
use Rattle.sa_parser_expr.proofs.operators.prefix.Goals as goal

pub returns-in-Some-Sign-Minus-clause-spelled : goal.returns-in-Some-Sign-Minus-clause-spelled
returns-in-Some-Sign-Minus-clause-spelled c = record { kind = token.Sign sign.Minus; there = grind arith; is = exprs.negate (record { kind = refl }) }

pub returns-in-Some-Sign-Tilde-clause-spelled : goal.returns-in-Some-Sign-Tilde-clause-spelled
returns-in-Some-Sign-Tilde-clause-spelled c = record { kind = token.Sign sign.Tilde; there = grind arith; is = exprs.not_sign (record { kind = refl }) }
