use Rattle.std.proofs.Common.{◌≡◌, take, vec_len}
use Rattle.wa_flatten.specs.Builders.{state_of, bodies_of, lay_bodies}
use Rattle.wa_flatten.proofs.functions.bodies.Given as goal

abbrev pub invariant-loop-func : goal.invariant-loop-func
invariant-loop-func l = record {
  count : vec_len l.bodies ≡ l.func-index;
  laid : state_of l.draft ≡ lay_bodies (take l.func-index l.funcs) (state_of l.initial.draft);
  made : l.bodies.items ≡ bodies_of (take l.func-index l.funcs) (state_of l.initial.draft);
}
