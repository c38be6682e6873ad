use Rattle.std.proofs.Common.{refl, arith}
use Rattle.sa_lexer.specs.declared.token.TokenKind.TheVariants as token
use Rattle.sa_lexer.specs.declared.sign.Sign.TheVariants as sign
use Rattle.sa_parser_expr.specs.Expressions as exprs
use Rattle.sa_parser_expr.proofs.operators.multiplying.Goals as goal

pub returns-in-Some-Sign-Star-clause-spelled : goal.returns-in-Some-Sign-Star-clause-spelled
returns-in-Some-Sign-Star-clause-spelled c = record { kind = token.Sign sign.Star; there = grind arith; is = exprs.star (record { kind = refl }) }

pub returns-in-Some-Sign-Slash-clause-spelled : goal.returns-in-Some-Sign-Slash-clause-spelled
returns-in-Some-Sign-Slash-clause-spelled c = record { kind = token.Sign sign.Slash; there = grind arith; is = exprs.slash (record { kind = refl }) }

pub returns-in-Some-Sign-Percent-clause-spelled : goal.returns-in-Some-Sign-Percent-clause-spelled
returns-in-Some-Sign-Percent-clause-spelled c = record { kind = token.Sign sign.Percent; there = grind arith; is = exprs.percent (record { kind = refl }) }
