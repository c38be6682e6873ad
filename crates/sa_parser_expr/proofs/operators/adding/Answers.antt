use Rattle.std.proofs.Common.{refl, arith}
use Rattle.sa_lexer.specs.declared.token.TokenKind.TheVariants as token
use Rattle.sa_lexer.specs.declared.sign.Sign.TheVariants as sign
use Rattle.sa_parser_expr.specs.Expressions as exprs
use Rattle.sa_parser_expr.proofs.operators.adding.Goals as goal

pub returns-in-Some-Sign-Plus-clause-spelled : goal.returns-in-Some-Sign-Plus-clause-spelled
returns-in-Some-Sign-Plus-clause-spelled c = record { kind = token.Sign sign.Plus; there = grind arith; is = exprs.plus (record { kind = refl }) }

pub returns-in-Some-Sign-Minus-clause-spelled : goal.returns-in-Some-Sign-Minus-clause-spelled
returns-in-Some-Sign-Minus-clause-spelled c = record { kind = token.Sign sign.Minus; there = grind arith; is = exprs.minus (record { kind = refl }) }
