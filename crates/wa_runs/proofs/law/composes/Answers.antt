use Rattle.wa_runs.proofs.Composition.{runs-then, ends-then, halts-then}
use Rattle.wa_runs.proofs.law.composes.Goals as goal

pub returns : goal.returns
returns c = record {
  runs = λ k l s t u g h. runs-then g h;
  ends = λ k l s t u results g h. ends-then g h;
  halts = λ k l s t u halt g h. halts-then g h;
}
