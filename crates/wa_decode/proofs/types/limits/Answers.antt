use Rattle.std.proofs.Common.{rules}
use Rattle.wa_decode.proofs.Reading.{returned}
use Rattle.wa_decode.proofs.TypeParts.{limits-none, limits-min, limits-max, limits-at_least, limits-between}
use Rattle.wa_decode.proofs.types.limits.Goals as goal

pub returns-in_err-bounded-clause-reads : goal.returns-in_err-bounded-clause-reads
returns-in_err-bounded-clause-reads c = returned _ c.from_residual.ensures.1 (limits-none c.in_err-bounded.ensures.reads)

pub returns-in_err-min-clause-reads : goal.returns-in_err-min-clause-reads
returns-in_err-min-clause-reads c =
    returned _ c.from_residual-in_err-min.ensures.1 (limits-min c.in_ok-bounded.ensures.reads c.in_err-min.ensures.reads)

pub returns-then-not-bounded-clause-reads : goal.returns-then-not-bounded-clause-reads
returns-then-not-bounded-clause-reads c = limits-at_least (search rules) c.in_ok-bounded.ensures.reads c.in_ok-min.ensures.reads

pub returns-in_err-max-clause-reads : goal.returns-in_err-max-clause-reads
returns-in_err-max-clause-reads c =
    returned _ c.from_residual-in_err-max.ensures.1
    (limits-max (search rules) c.in_ok-bounded.ensures.reads c.in_ok-min.ensures.reads c.in_err-max.ensures.reads)

pub returns-clause-reads : goal.returns-clause-reads
returns-clause-reads c =
    limits-between (search rules) c.in_ok-bounded.ensures.reads c.in_ok-min.ensures.reads c.in_ok-max.ensures.reads
