-- A call together with its candidates.
use Rattle.sa_overload.specs.declared.candidates.Candidates.{Candidates}
use Rattle.sa_overload.specs.Resolution.{Call, call_of}

abbrev pub call_in : Candidates → Call
call_in held = call_of held.cands.now held.args.now held.expects_result held.edges.now
