use Rattle.sa_driver.proofs.exec.run_module.Goals as goal

pub returns-in-Some-clause-ran : goal.returns-in-Some-clause-ran
returns-in-Some-clause-ran g c = (
  c.run_within.result,
  c.ended_of.ensures.value,
  rw c.in-Some.is (record {
    says = c.run_within.ensures.says;
    reported = c.run_within.ensures.reported;
    within = c.run_within.ensures.within;
    ran = c.run_within.ensures.ran;
  }),
)

pub returns-in-None-clause-ran : goal.returns-in-None-clause-ran
returns-in-None-clause-ran g c = (
  c.run_bytes.result,
  c.ended_of-in-None.ensures.value,
  rw c.in-None.is (record {
    says = c.run_bytes.ensures.says;
    reported = c.run_bytes.ensures.reported;
    within = c.run_bytes.ensures.within;
    ran = c.run_bytes.ensures.ran;
  }),
)
