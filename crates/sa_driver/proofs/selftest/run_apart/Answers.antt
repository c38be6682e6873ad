use Rattle.std.proofs.Common.{◌∙◌, length, refl, rules, subst, sym}
use Rattle.sa_driver.specs.Ends.{IsPrinted}
use Rattle.sa_driver.specs.Files.{IsSpelledGenerated}
use Rattle.sa_driver.specs.Lines.{IsPlaced, selftest_line}
use Rattle.sa_driver.specs.HostParts.{part}
use Rattle.sa_driver.proofs.EndLemmas.{placed_print}
use Rattle.sa_driver.proofs.RunLemmas.{apart, ran_of}
use Rattle.sa_driver.proofs.selftest.run_apart.Goals as goal

pub returns-in-Done-clause-ran : goal.returns-in-Done-clause-ran
returns-in-Done-clause-ran g c = record {
  taken = subst (IsSpelledGenerated c.args.classes) (sym (c.without_run.ensures.sources ∙ c.run_built-ran.ensures.sources)) c.requires.taken;
  core = c.requires.tree.core;
  sound = c.requires.tree.sound;
  ran = c.run_built-ran.result;
  left = c.run_built-ran.new.input;
  output = c.run_built-ran.new.out;
  runs = apart _ _ _ _ _ _ _ _ (search rules) (search rules) (ran_of _ _ _ _ _ _ _ _ _ c.requires.tree.numbered c.run_built-ran.ensures.sources (c.run_built-ran.ensures.ran _ c.requires.confined));
  reports = record {
    sources = c.without_run.ensures.sources;
    bytes = c.without_run.ensures.bytes;
    ended = λ done. rw c.without_run.ensures.cause (subst (λ bytes. IsPrinted (part g.O.Sink.output g.O.Sink.faults c.args.out.now c.tell-cause.new.out) (selftest_line c.args.classes (length bytes) c.run_built-ran.result.done) c.tell-cause.result) c.taken.ensures c.tell-cause.ensures.printed);
    other = λ other. absurd (other c.in-Done.is);
  };
}

pub returns-in-Done-clause-placed : goal.returns-in-Done-clause-placed
returns-in-Done-clause-placed g c =
    subst (IsPlaced c.without_run.result.sources) (sym c.without_run.ensures.cause) (placed_print _ c.without_run.result.sources _ c.tell-cause.ensures.printed.comes)

pub returns-clause-ran : goal.returns-clause-ran
returns-clause-ran g c = record {
  taken = subst (IsSpelledGenerated c.args.classes) (sym c.run_built-ran.ensures.sources) c.requires.taken;
  core = c.requires.tree.core;
  sound = c.requires.tree.sound;
  ran = c.run_built-ran.result;
  left = c.run_built-ran.new.input;
  output = c.run_built-ran.new.out;
  runs = apart _ _ _ _ _ _ _ _ (search rules) (search rules) (ran_of _ _ _ _ _ _ _ _ _ c.requires.tree.numbered c.run_built-ran.ensures.sources (c.run_built-ran.ensures.ran _ c.requires.confined));
  reports = record {
    sources = refl;
    bytes = refl;
    ended = λ done. absurd (c.in_default.not-Done done);
    other = λ other. (refl, refl);
  };
}
