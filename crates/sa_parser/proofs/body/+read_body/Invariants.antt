use Rattle.std.proofs.Common.{◌-◌}
use Rattle.sa_parser.proofs.body.+read_body.Given as goal

-- the indices that are left, whether a token is there or not
abbrev pub decreases-read_body : goal.decreases-read_body
decreases-read_body l = 4294967296 - l.from
