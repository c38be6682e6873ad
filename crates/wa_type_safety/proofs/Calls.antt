-- Calls: of the module's own functions, of the host's, and through the table.
use Rattle.std.proofs.Common.{◌≡◌, ℕ, zero, suc, ◌-◌, ◌^◌, Bool, true, false, List, [], ◌∷◌, ◌++◌, length, take, drop, replicate, slice_get, Option, Some, None, refl, sym, subst, ◌∙◌, inr, lt_trans, arith}
use Rattle.std.specs.Prelude.{reverse, nat_lt, nat_le, if◌then◌else◌, All}
use Rattle.std.proofs.lemmas.List.{length-reverse}
use Rattle.std.proofs.lemmas.List.Elements.{All-head, All-tail}
use Rattle.std.proofs.lemmas.Option.{same_Some, none-some, slice_get_within, get_or_from_slice_get}
use Rattle.wa_syntax.specs.declared.module.ValTy.{ValTy}
use Rattle.wa_syntax.specs.declared.module.ValTy.TheVariants.{I32}
use Rattle.wa_syntax.specs.declared.module.FuncTy.{FuncTy}
use Rattle.wa_syntax.specs.declared.module.Func.{Func}
use Rattle.wa_syntax.specs.declared.module.Import.{Import}
use Rattle.wa_syntax.specs.declared.trap.TrapKind.{TrapKind}
use Rattle.wa_syntax.specs.Instructions.{Sequence, sequence}
use Rattle.wa_syntax.specs.Validity.{AreTyped, IsTypedFunction}
use Rattle.wa_syntax.specs.ValidModule.{IsValid, context_of}
use Rattle.wa_syntax.specs.Machine.{Input, Activation, State, Stopped, Trap, TooDeep, Gives, Leaves, Eval, bind, pure, as_i32, leave}
use Rattle.wa_syntax.specs.Operations.{depth, activate}
use Rattle.wa_syntax.specs.Hosts.{HostFunction, Put, Get, Stop, host_of, is_type, type_of, put, take_input, call_host}
use Rattle.wa_syntax.specs.Runs.{IsLinked}
use Rattle.wa_syntax.specs.Steps.{called, call_own, call_import, call, call_indirect}
use Rattle.wa_type_safety.specs.Typing.{Setting, BeginsInRange, IsOf, IsStore, BodyContext, context, IsCode, IsState}
use Rattle.wa_type_safety.specs.Ranges.{IsByte, AreConstants}
use Rattle.wa_type_safety.proofs.Values.{AreOf-none, AreOf-append, AreOf-front, AreOf-back, AreOf-reversed, AreOf-zeros}
use Rattle.wa_type_safety.proofs.Rules.{Holds, Leads, Leads-then, Leads-found, Leads-leave, Leads-taken, Leads-push_last, Finds, Finds-state, IsSafe, around}
use Rattle.wa_type_safety.proofs.Linked.{is_type-some, host_type, host_of-type, import-host, type_of_import, type_of_own}

module _ (w : Bool) (r : Setting) (p : BodyContext) (below : List ValTy) where
  -- ---- the host's functions

  put-safe : (n : ℕ) → IsSafe w r p below below (put n)
  put-safe n = record { holds = λ s h. Finds-state w r p below _ (record { operands = h.operands; locals = h.locals; store = h.store; within = h.within }) }

  -- all ones
  ones : IsOf r I32 (2 ^ 32 - 1)
  ones = λ begins. omega arith

  byte : (b : ℕ) (bytes : List ℕ) → (BeginsInRange r → All IsByte (b ∷ bytes)) → IsOf r I32 b
  byte b bytes are = λ begins. lt_trans (All-head IsByte b bytes (are begins)) (omega arith)

  with_input : {globals memory : List ℕ} {old : Input} (new : Input) → IsStore r globals memory old → (BeginsInRange r → All IsByte new.bytes) → IsStore r globals memory new
  with_input new h are = record { globals_are = h.globals_are; bytes = h.bytes; pages = h.pages; input_is = are }

  took : (bytes : List ℕ) (ends : Option ℕ) → (BeginsInRange r → All IsByte bytes) → IsSafe w r p below (I32 ∷ below) (take_input (record { bytes = bytes; ends = ends }))
  took (b ∷ bytes) ends are = record {
    holds = λ s h.
        (Leads-push_last {w = w} {r = r} {p = p} {t = I32} {types = below} b (byte b bytes are)).holds (record s { input = record { bytes = bytes; ends = ends } })
        (record { operands = h.operands; locals = h.locals; store = with_input _ h.store (λ begins. All-tail IsByte b bytes (are begins)); within = h.within });
  }
  took [] None are = Leads-push_last _ ones
  took [] (Some (suc n)) are = record {
    holds = λ s h.
        (Leads-push_last {w = w} {r = r} {p = p} {t = I32} {types = below} _ ones).holds (record s { input = record { bytes = []; ends = Some n } })
        (record { operands = h.operands; locals = h.locals; store = with_input _ h.store are; within = h.within });
  }
  took [] (Some zero) are = record { holds = λ s h. tt }

  host-safe : (h : HostFunction) → IsSafe w r p (reverse (host_type h).params ++ below) (reverse (host_type h).results ++ below) (call_host h)
  host-safe Put = Leads-taken (λ n is. put-safe n)
  host-safe Get = record { holds = λ s h. (took s.input.bytes s.input.ends h.store.input_is).holds s h }
  host-safe Stop = Leads-taken {t = I32} {types = I32 ∷ below} (λ site is. Leads-taken {t = I32} {types = below} (λ code also. Leads-leave (λ u. IsState r) (Stopped (as_i32 code) (as_i32 site)) tt))

  -- ---- functions of the module's own

  -- the point at which a body begins
  abbrev body_of : FuncTy → List ValTy → BodyContext
  body_of ty declared = record { locals = ty.params ++ declared; labels = ty.results ∷ []; results = ty.results }

  activated : (b : Bool) (ty : FuncTy) (declared : List ValTy) (body : Sequence) (s : State) → IsCode r (body_of ty declared) body [] (reverse ty.results) → Finds w r p (reverse ty.params ++ below) (reverse ty.results ++ below) s → Holds (λ u. IsState r) (if b then Leaves TooDeep s else Gives (tt {0}) (record s {
    code = body;
    operands = [];
    locals = reverse (take (length ty.params) s.operands) ++ replicate (length declared) 0;
    stack = Activation (length ty.results) s.code (drop (length ty.params) s.operands) s.locals ∷ s.stack;
  }))
  activated true ty declared body s typed h = tt
  activated false ty declared body s typed h =
      let long : length ty.params ≡ length (reverse ty.params) = sym (length-reverse ty.params) in
      record {
        place = body_of ty declared;
        types = [];
        operands = AreOf-none;
        locals = AreOf-append ty.params declared _ _ (AreOf-reversed ty.params _ (AreOf-front (reverse ty.params) below s.operands (length ty.params) h.operands long)) (AreOf-zeros declared);
        store = h.store;
        around = inr (record {
          caller = p;
          types_below = below;
          label = refl;
          typed = typed;
          keeps = refl;
          values_below = AreOf-back (reverse ty.params) below s.operands (length ty.params) h.operands long;
          caller_locals = h.locals;
          outside = around w r p s.code (reverse ty.results ++ below) s.stack h.within;
        });
      }

  activate-safe : (ty : FuncTy) (declared : List ValTy) (body : Sequence) → IsCode r (body_of ty declared) body [] (reverse ty.results) → IsSafe w r p (reverse ty.params ++ below) (reverse ty.results ++ below) (activate ty (length declared) body)
  activate-safe ty declared body typed = record { holds = λ s h. activated (nat_le 40000 (depth s.stack)) ty declared body s typed h }

  typed-own : (f : Func) (ty : FuncTy) → slice_get r.program.types f.ty ≡ Some ty → IsTypedFunction (context_of r.program) f → AreTyped (context r.program (body_of ty f.locals)) (sequence f.body) [] (reverse ty.results)
  typed-own f ty e typed =
      subst (λ (u : FuncTy). AreTyped (context r.program (body_of u f.locals)) (sequence f.body) [] (reverse u.results)) (same_Some typed.0 ty (sym typed.1 ∙ e)) typed.2

  -- what there is of functions is what holds of all of them
  of-function : (P : Func → Type 0) (k : ℕ) (f : Func) → All P r.program.funcs → slice_get r.program.funcs k ≡ Some f → P f
  of-function P k f all there = subst P (get_or_from_slice_get r.program.funcs k f f there) (all k f (slice_get_within r.program.funcs k f there))

  own-safe : (o : Option Func) (k : ℕ) (ty : FuncTy) → All (IsTypedFunction (context_of r.program)) r.program.funcs → slice_get r.program.funcs k ≡ o → type_of_own r.program o ≡ Some ty → IsSafe w r p (reverse ty.params ++ below) (reverse ty.results ++ below) (call_own r.program o)
  own-safe None k ty bodies there e = absurd (none-some ty e)
  own-safe (Some f) k ty bodies there e =
      Leads-found (slice_get r.program.types f.ty) ty _ e (activate-safe ty f.locals (sequence f.body) (
        typed-own f ty e (of-function (IsTypedFunction (context_of r.program)) k f bodies there),
        λ begins. of-function (λ (g : Func). AreConstants (sequence g.body)) k f begins.bodies there,
      ))

  -- ---- imported functions

  import-safe : (o : Option Import) (k : ℕ) (ty : FuncTy) → IsLinked r.program → slice_get r.program.imports k ≡ o → type_of_import r.program o ≡ Some ty → IsSafe w r p (reverse ty.params ++ below) (reverse ty.results ++ below) (call_import r.program o)
  import-safe None k ty linked there e = absurd (none-some ty e)
  import-safe (Some import) k ty linked there e =
      let h = import-host r.program linked k import there in
      Leads-found (host_of r.program import) h.0 _ h.1
      (subst (λ (u : FuncTy). IsSafe w r p (reverse u.params ++ below) (reverse u.results ++ below) (call_host h.0)) (host_of-type r.program import h.0 ty h.1 e) (host-safe h.0))

  -- ---- calls

  either : (b : Bool) (x y : Option FuncTy) (ty : FuncTy) (e f : Eval (Unit {0})) → (if b then x else y) ≡ Some ty → (x ≡ Some ty → IsSafe w r p (reverse ty.params ++ below) (reverse ty.results ++ below) e) → (y ≡ Some ty → IsSafe w r p (reverse ty.params ++ below) (reverse ty.results ++ below) f) → IsSafe w r p (reverse ty.params ++ below) (reverse ty.results ++ below) (if b then e else f)
  either true x y ty e f is g h = g is
  either false x y ty e f is g h = h is

  -- a function that there is takes and gives what its type says
  pub call-safe : IsValid r.program → IsLinked r.program → (func : ℕ) (ty : FuncTy) → type_of r.program func ≡ Some ty → IsSafe w r p (reverse ty.params ++ below) (reverse ty.results ++ below) (call r.program func)
  call-safe valid linked func ty e =
      either (nat_lt func (length r.program.imports)) (type_of_import r.program (slice_get r.program.imports func)) (type_of_own r.program (slice_get r.program.funcs (func - length r.program.imports))) ty (call_import r.program (slice_get r.program.imports func)) (call_own r.program (slice_get r.program.funcs (func - length r.program.imports))) e
      (λ x. import-safe (slice_get r.program.imports func) func ty linked refl x)
      (λ x. own-safe (slice_get r.program.funcs (func - length r.program.imports)) (func - length r.program.imports) ty valid.bodies refl x)

  -- ---- calls through the table

  called-safe : (ty : FuncTy) (o : Option (Option ℕ)) (Pre : State → Type 0) → Leads Pre (called r.program (Some ty) o) (λ func s. (type_of r.program func ≡ Some ty) × Pre s)
  called-safe ty None Pre = record { holds = λ s h. tt }
  called-safe ty (Some None) Pre = record { holds = λ s h. tt }
  called-safe ty (Some (Some func)) Pre = record { holds = λ s h. by (is_type ty (type_of r.program func)) (is_type-some ty (type_of r.program func)) s h }
    where
      by : (b : Bool) → (b ≡ true → type_of r.program func ≡ Some ty) → (s : State) → Pre s → Holds (λ func s. (type_of r.program func ≡ Some ty) × Pre s) ((if b then pure func else leave (Trap TrapKind.Mismatch)) s)
      by true e s h = (e refl, h)
      by false e s h = tt

  pub call_indirect-safe : IsValid r.program → IsLinked r.program → (number place : ℕ) (ty : FuncTy) → slice_get r.program.types number ≡ Some ty → IsSafe w r p (reverse ty.params ++ below) (reverse ty.results ++ below) (call_indirect r.program number place)
  call_indirect-safe valid linked number place ty there = record {
    holds = λ s h.
        subst (λ (o : Option FuncTy). Holds (λ u. IsState r) (bind (called r.program o (slice_get s.table place)) (call r.program) s)) (sym there)
        ((Leads-then {Pre = Finds w r p (reverse ty.params ++ below) (reverse ty.results ++ below)} (called-safe ty (slice_get s.table place) (Finds w r p (reverse ty.params ++ below) (reverse ty.results ++ below)))
        (λ func. record { holds = λ t k. (call-safe valid linked func ty k.0).holds t k.1 })).holds s h);
  }
