use Rattle.std.proofs.Common.{◌≡◌, ℕ, ◌%◌, Bool, refl, sym, ap, ◌∙◌}
use Rattle.std.specs.Prelude.{Some, None, Result, Ok, Err, if◌then◌else◌, slice_get}
use Rattle.wa_syntax.specs.declared.trap.TrapKind.{TrapKind}
use Rattle.wa_exec.specs.declared.calls.CallStack.{CallStack}
use Rattle.wa_exec.specs.States.{callee_of}
use Rattle.wa_exec.proofs.state.State.callee.Goals as goal

pub returns-in-None-clause-looks_up : goal.returns-in-None-clause-looks_up
returns-in-None-clause-looks_up c = λ place stack below on.
    let taken = c.take.ensures.takes place stack below on in
    let there : None ≡ slice_get c.args.self.now.table (place % 4294967296) = cc (taken.0, c.get.ensures, c.low.ensures, c.in-None.is) in
    record {
      result_is = ap (callee_of c.args.linked.now c.args.ty) there;
      rest = refl;
      callers = ap (λ (k : CallStack). k.callers) c.take.ensures.rest;
      at = ap (λ (k : CallStack). k.at) c.take.ensures.rest;
      region = ap (λ (k : CallStack). k.region) c.take.ensures.rest;
      height = taken.1;
    }

pub returns-in-Some-None-clause-looks_up : goal.returns-in-Some-None-clause-looks_up
returns-in-Some-None-clause-looks_up c = λ place stack below on.
    let taken = c.take.ensures.takes place stack below on in
    let there : Some None ≡ slice_get c.args.self.now.table (place % 4294967296) = cc (taken.0, c.get.ensures, c.low.ensures, c.in-Some-None.is, c.in-Some-None.field-0-is) in
    record {
      result_is = ap (callee_of c.args.linked.now c.args.ty) there;
      rest = refl;
      callers = ap (λ (k : CallStack). k.callers) c.take.ensures.rest;
      at = ap (λ (k : CallStack). k.at) c.take.ensures.rest;
      region = ap (λ (k : CallStack). k.region) c.take.ensures.rest;
      height = taken.1;
    }

-- what is called where the types are the same, or not
abbrev called : Bool → ℕ → Result ℕ TrapKind
called same func = if same then Ok func else Err TrapKind.Mismatch

pub returns-then-is_of_type-clause-looks_up : goal.returns-then-is_of_type-clause-looks_up
returns-then-is_of_type-clause-looks_up c = λ place stack below on.
    let taken = c.take.ensures.takes place stack below on in
    let there : Some (Some c.in-Some-Some.func) ≡ slice_get c.args.self.now.table (place % 4294967296) = cc (taken.0, c.get.ensures, c.low.ensures, c.in-Some-Some.is, c.in-Some-Some.field-0-is) in
    record {
      result_is = ap (λ (b : Bool). called b c.in-Some-Some.func) (sym c.if-is_of_type.true ∙ c.is_of_type.ensures) ∙ ap (callee_of c.args.linked.now c.args.ty) there;
      rest = refl;
      callers = ap (λ (k : CallStack). k.callers) c.take.ensures.rest;
      at = ap (λ (k : CallStack). k.at) c.take.ensures.rest;
      region = ap (λ (k : CallStack). k.region) c.take.ensures.rest;
      height = taken.1;
    }

pub returns-else-is_of_type-clause-looks_up : goal.returns-else-is_of_type-clause-looks_up
returns-else-is_of_type-clause-looks_up c = λ place stack below on.
    let taken = c.take.ensures.takes place stack below on in
    let there : Some (Some c.in-Some-Some.func) ≡ slice_get c.args.self.now.table (place % 4294967296) = cc (taken.0, c.get.ensures, c.low.ensures, c.in-Some-Some.is, c.in-Some-Some.field-0-is) in
    record {
      result_is = ap (λ (b : Bool). called b c.in-Some-Some.func) (sym c.if-is_of_type.false ∙ c.is_of_type.ensures) ∙ ap (callee_of c.args.linked.now c.args.ty) there;
      rest = refl;
      callers = ap (λ (k : CallStack). k.callers) c.take.ensures.rest;
      at = ap (λ (k : CallStack). k.at) c.take.ensures.rest;
      region = ap (λ (k : CallStack). k.region) c.take.ensures.rest;
      height = taken.1;
    }
