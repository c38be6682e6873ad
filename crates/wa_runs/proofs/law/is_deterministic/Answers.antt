use Rattle.wa_runs.proofs.Determinism.{ends-once, halts-once, ends-or-halts}
use Rattle.wa_runs.proofs.law.is_deterministic.Goals as goal

pub returns : goal.returns
returns c = record {
  ends = ends-once c.args.program.now;
  halts = halts-once c.args.program.now;
  not_both = ends-or-halts c.args.program.now;
}
