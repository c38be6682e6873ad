use Rattle.std.proofs.Common.{◌≡◌, ◌≤◌, ◌-◌, None}
use Rattle.sa_trace.specs.Writing.{sink}
use Rattle.sa_trace_run.specs.Stretches.{Beginning, IsUnderWay}
use Rattle.sa_trace_run.specs.Traced.{sinks}
use Rattle.sa_trace_run.proofs.traced_run.run_on.Given as goal

-- the run can go on
abbrev pub invariant-loop-end : goal.invariant-loop-end
invariant-loop-end g l =
    let input = g.I.Source in
    let out = g.O.Sink in
    let err = g.E.Sink in
    let out_old = sink (out.output l.fn.out) (out.faults l.fn.out) in
    let err_old = sink (err.output l.fn.err) (err.faults l.fn.err) in
    record {
      halt : l.running.machine.halt ≡ None;
      steps : l.running.machine.steps ≤ l.end;
      within : l.end ≤ l.fuel;
      source_count : input.faults l.fn.input ≤ input.faults l.input;
      sink_count : out.faults l.fn.out ≤ out.faults l.out;
      on :
          (b : Beginning)
          → IsUnderWay b l.positions l.sources l.fn.running.machine l.fn.running.host l.fn.running.parting (input.input l.fn.input)
          (input.ended l.fn.input) (sinks out_old out_old err_old err_old l.fn.running.listening)
          → IsUnderWay b l.positions l.sources l.running.machine l.running.host l.running.parting (input.input l.input)
          (input.ended l.input) (sinks out_old (sink (out.output l.out) (out.faults l.out)) err_old
          (sink (err.output l.err) (err.faults l.err)) l.running.listening);
    }

abbrev pub decreases-loop-end : goal.decreases-loop-end
decreases-loop-end g l = l.fuel - l.end
