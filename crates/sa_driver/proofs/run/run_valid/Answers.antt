use Rattle.std.proofs.Common.{refl}
use Rattle.sa_driver.proofs.run.run_valid.Goals as goal

pub returns-clause-ran : goal.returns-clause-ran
returns-clause-ran g c =
    let cause_is = c.cause_of.ensures.value in
    let done_is = c.done_of.ensures in (
      c.run_module-run.result,
      rw (cause_is, done_is) refl,
      record {
        says = c.run_module-run.ensures.says;
        reported = c.run_module-run.ensures.reported;
        within = c.run_module-run.ensures.within;
        ran = c.run_module-run.ensures.ran;
        starts = λ runnable. c.run_module-run.ensures.starts runnable.linked runnable.fit;
      },
    )
