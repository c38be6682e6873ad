-- What an instruction is put together of, step by step: what holds before and after each step.
use Rattle.std.proofs.Common.{◌≡◌, ℕ, Bool, true, false, List, [], ◌∷◌, ◌++◌, slice_get, Option, Some, Result, Ok, Err, refl, sym, subst, inr, slice_set}
use Rattle.std.specs.Prelude.{reverse, if◌then◌else◌}
use Rattle.wa_syntax.specs.declared.module.ValTy.{ValTy}
use Rattle.wa_syntax.specs.declared.trap.TrapKind.{TrapKind}
use Rattle.wa_syntax.specs.Instructions.{Sequence}
use Rattle.wa_syntax.specs.Validity as validity
use Rattle.wa_syntax.specs.Machine.{Entry, State, Halt, Ended, Stopped, Trap, TooDeep, InFault, Running, Stuck, Out, Gives, Leaves, and_then, Eval, bind, pure, leave, or_leave, or_trap, push, popped, pop, get_local, set_local, get_global, set_global}
use Rattle.wa_type_safety.specs.Typing.{Setting, IsOf, AreOf, IsStore, BodyContext, global_types, IsInside, IsAround, IsState}
use Rattle.wa_type_safety.proofs.Values.{AreOf-more, AreOf-first, AreOf-rest, AreOf-missing, AreOf-get, AreOf-set}

-- ---- steps

-- an instruction leaves the run for another reason than that no rule applies
abbrev pub IsLeft : Halt → Type 0
IsLeft (Ended value) = ⊥
IsLeft (Stopped code site) = Unit {0}
IsLeft (Trap kind) = Unit {0}
IsLeft TooDeep = Unit {0}
IsLeft InFault = Unit {0}
IsLeft Running = ⊥
IsLeft Stuck = ⊥

-- it gives what Post says, or the run is left
abbrev pub Holds : {A : Type 0} → (A → State → Type 0) → Out A → Type 0
Holds Post (Gives a s) = Post a s
Holds Post (Leaves halt s) = IsLeft halt

-- from where Pre holds
pub record Leads {A : Type 0} (Pre : State → Type 0) (e : Eval A) (Post : A → State → Type 0) : Type 0 where
  pub holds : (s : State) → Pre s → Holds Post (e s)

Holds-then : {A B : Type 0} (Mid : A → State → Type 0) (Post : B → State → Type 0) (o : Out A) (f : A → Eval B) → Holds Mid o → ((a : A) (t : State) → Mid a t → Holds Post (f a t)) → Holds Post (and_then o f)
Holds-then Mid Post (Gives a s) f h k = k a s h
Holds-then Mid Post (Leaves halt s) f h k = h

pub Leads-then : {A B : Type 0} {Pre : State → Type 0} {Mid : A → State → Type 0} {Post : B → State → Type 0} {e : Eval A} {f : A → Eval B} → Leads Pre e Mid → ((a : A) → Leads (Mid a) (f a) Post) → Leads Pre (bind e f) Post
unfolding bind
Leads-then {Mid = Mid} {Post = Post} {e = e} {f = f} h k = record { holds = λ s pre. Holds-then Mid Post (e s) f (h.holds s pre) (λ a t mid. (k a).holds t mid) }

Holds-post : {A : Type 0} (Mid Post : A → State → Type 0) (o : Out A) → Holds Mid o → ((a : A) (t : State) → Mid a t → Post a t) → Holds Post o
Holds-post Mid Post (Gives a s) h k = k a s h
Holds-post Mid Post (Leaves halt s) h k = h

pub Leads-post : {A : Type 0} {Pre : State → Type 0} {Mid Post : A → State → Type 0} {e : Eval A} → Leads Pre e Mid → ((a : A) (t : State) → Mid a t → Post a t) → Leads Pre e Post
Leads-post {Mid = Mid} {Post = Post} {e = e} h k = record { holds = λ s pre. Holds-post Mid Post (e s) (h.holds s pre) k }

pub Leads-pure : {A : Type 0} {Pre : State → Type 0} (Post : A → State → Type 0) (a : A) → ((s : State) → Pre s → Post a s) → Leads Pre (pure a) Post
Leads-pure Post a h = record { holds = λ s pre. h s pre }

pub Leads-leave : {A : Type 0} {Pre : State → Type 0} (Post : A → State → Type 0) (halt : Halt) → IsLeft halt → Leads {A = A} Pre (leave halt) Post
Leads-leave Post halt left = record { holds = λ s pre. left }

-- what is there is passed on
pub Leads-found : {A B : Type 0} {Pre : State → Type 0} {Post : B → State → Type 0} (o : Option A) (a : A) (f : A → Eval B) → o ≡ Some a → Leads Pre (f a) Post → Leads Pre (bind (or_leave Stuck o) f) Post
unfolding bind
Leads-found {Pre = Pre} {Post = Post} o a f e h =
    subst (λ (x : Option _). Leads Pre (λ s. and_then (or_leave Stuck x s) f) Post) (sym e) (record { holds = λ s pre. h.holds s pre })

pub Leads-or_trap : {Pre : State → Type 0} (o : Result ℕ TrapKind) → Leads Pre (or_trap o) (λ a s. (o ≡ Ok a) × Pre s)
Leads-or_trap (Ok a) = record { holds = λ s pre. (refl, pre) }
Leads-or_trap (Err kind) = record { holds = λ s pre. tt }

-- a value of which something is known, beside the state
pub Leads-with : {A : Type 0} {Known : Type 0} {Pre : State → Type 0} {e : Eval A} {Post : A → State → Type 0} → (Known → Leads Pre e Post) → Leads (λ s. Known × Pre s) e Post
Leads-with h = record { holds = λ s pre. (h pre.0).holds s pre.1 }

pub Leads-if : {A : Type 0} {Pre : State → Type 0} {Post : A → State → Type 0} (b : Bool) {e f : Eval A} → Leads Pre e Post → Leads Pre f Post → Leads Pre (if b then e else f) Post
Leads-if true h k = h
Leads-if false h k = k

-- ---- inside a function, or outside all

abbrev pub IsWithin : Bool → Setting → BodyContext → Sequence → List ValTy → List Entry → Type 0
IsWithin true r p code types stack = IsInside r p code types stack
IsWithin false r p code types stack = IsAround r p code types stack

pub around : (w : Bool) (r : Setting) (p : BodyContext) (code : Sequence) (types : List ValTy) (stack : List Entry) → IsWithin w r p code types stack → IsAround r p code types stack
around true r p code types stack h = inr h
around false r p code types stack h = h

-- what a step finds at point p: operands of the types before, and after the instruction what takes operands of the types after
pub record Finds (w : Bool) (r : Setting) (p : BodyContext) (before after : List ValTy) (s : State) : Type 0 where
  pub operands : AreOf r before s.operands
  pub locals : AreOf r p.locals s.locals
  pub store : IsStore r s.globals s.memory s.input
  pub within : IsWithin w r p s.code after s.stack

-- an instruction leads to a well-typed state
abbrev pub IsSafe : Bool → Setting → BodyContext → (before after : List ValTy) → Eval (Unit {0}) → Type 0
IsSafe w r p before after e = Leads (Finds w r p before after) e (λ u. IsState r)

pub Finds-state : (w : Bool) (r : Setting) (p : BodyContext) (types : List ValTy) (s : State) → Finds w r p types types s → IsState r s
Finds-state w r p types s h = record {
  place = p;
  types = types;
  operands = h.operands;
  locals = h.locals;
  store = h.store;
  around = around w r p s.code types s.stack h.within;
}

-- an instruction takes and gives what its rule says
pub IsSafe-gives : {w : Bool} {r : Setting} {p : BodyContext} {before after : List ValTy} (taken given : List ValTy) (e : Eval (Unit {0})) → validity.Gives taken given before after → ((below : List ValTy) → IsSafe w r p (reverse taken ++ below) (reverse given ++ below) e) → IsSafe w r p before after e
IsSafe-gives {w = w} {r = r} {p = p} {before = before} taken given e g h =
    subst (λ (after : List ValTy). IsSafe w r p before after e) (sym g.2)
    (subst (λ (b : List ValTy). IsSafe w r p b (reverse given ++ g.0) e) (sym g.1) (h g.0))

pub IsSafe-takes : {w : Bool} {r : Setting} {p : BodyContext} {before after : List ValTy} (taken : List ValTy) (e : Eval (Unit {0})) → validity.Takes taken before → ((below : List ValTy) → IsSafe w r p (reverse taken ++ below) after e) → IsSafe w r p before after e
IsSafe-takes {w = w} {r = r} {p = p} {after = after} taken e g h =
    subst (λ (b : List ValTy). IsSafe w r p b after e) (sym g.1) (h g.0)

-- ---- operands

module _ {w : Bool} {r : Setting} {p : BodyContext} where
  pub Leads-pop : {t : ValTy} {types after : List ValTy} → Leads (Finds w r p (t ∷ types) after) pop (λ n s. IsOf r t n × Finds w r p types after s)
  Leads-pop {t = t} {types = types} {after = after} = record { holds = λ s h. by s h s.operands h.operands }
    where
      by : (s : State) → Finds w r p (t ∷ types) after s → (ns : List ℕ) → AreOf r (t ∷ types) ns → Holds (λ n s. IsOf r t n × Finds w r p types after s) (popped ns s)
      by s h [] are = absurd (AreOf-missing t types are)
      by s h (n ∷ below) are = (AreOf-first t types n below are, record { operands = AreOf-rest t types n below are; locals = h.locals; store = h.store; within = h.within })

  -- takes the top operand and goes on with it
  pub Leads-taken : {A : Type 0} {t : ValTy} {types after : List ValTy} {f : ℕ → Eval A} {Post : A → State → Type 0} → ((n : ℕ) → IsOf r t n → Leads (Finds w r p types after) (f n) Post) → Leads (Finds w r p (t ∷ types) after) (bind pop f) Post
  Leads-taken h = Leads-then Leads-pop (λ n. Leads-with (h n))

  -- the last steps of an instruction
  pub Leads-push_last : {t : ValTy} {types : List ValTy} (n : ℕ) → IsOf r t n → IsSafe w r p types (t ∷ types) (push n)
  Leads-push_last {t = t} {types = types} n is = record {
    holds = λ s h.
        Finds-state w r p (t ∷ types) (record s { operands = n ∷ s.operands })
        (record { operands = AreOf-more t types n s.operands is h.operands; locals = h.locals; store = h.store; within = h.within });
  }

  pub Leads-nothing_last : {types : List ValTy} → IsSafe w r p types types (pure tt)
  Leads-nothing_last {types = types} = record { holds = λ s h. Finds-state w r p types s h }

  pub Leads-last : {types : List ValTy} {e : Eval (Unit {0})} {Pre : State → Type 0} → Leads Pre e (λ u. Finds w r p types types) → Leads Pre e (λ u. IsState r)
  Leads-last {types = types} h = Leads-post h (λ u t k. Finds-state w r p types t k)

  -- ---- variables

  pub Leads-get_local : {t : ValTy} {types after : List ValTy} (x : ℕ) → slice_get p.locals x ≡ Some t → Leads (Finds w r p types after) (get_local x) (λ n s. IsOf r t n × Finds w r p types after s)
  Leads-get_local {t = t} {types = types} {after = after} x e = record {
    holds = λ s h.
        (let there = AreOf-get p.locals s.locals x t h.locals e in
        subst (λ (o : Option ℕ). Holds (λ n s. IsOf r t n × Finds w r p types after s) (or_leave Stuck o s)) (sym there.1) (there.2, h));
  }

  pub Leads-set_local : {t : ValTy} {types after : List ValTy} (x n : ℕ) → slice_get p.locals x ≡ Some t → IsOf r t n → Leads (Finds w r p types after) (set_local x n) (λ u. Finds w r p types after)
  Leads-set_local {t = t} {types = types} {after = after} x n e is = Leads-then (Leads-get_local {types = types} {after = after} x e) (λ old. Leads-with (λ was. record {
    holds = λ s h.
        record { operands = h.operands; locals = AreOf-set p.locals s.locals x n t h.locals e is; store = h.store; within = h.within };
  }))

  pub Leads-get_global : {t : ValTy} {types after : List ValTy} (x : ℕ) → slice_get (global_types r.program) x ≡ Some t → Leads (Finds w r p types after) (get_global x) (λ n s. IsOf r t n × Finds w r p types after s)
  Leads-get_global {t = t} {types = types} {after = after} x e = record {
    holds = λ s h.
        (let there = AreOf-get (global_types r.program) s.globals x t h.store.globals_are e in
        subst (λ (o : Option ℕ). Holds (λ n s. IsOf r t n × Finds w r p types after s) (or_leave Stuck o s)) (sym there.1) (there.2, h));
  }

  pub Leads-set_global : {t : ValTy} {types after : List ValTy} (x n : ℕ) → slice_get (global_types r.program) x ≡ Some t → IsOf r t n → Leads (Finds w r p types after) (set_global x n) (λ u. Finds w r p types after)
  Leads-set_global {t = t} {types = types} {after = after} x n e is = Leads-then (Leads-get_global {types = types} {after = after} x e) (λ old. Leads-with (λ was. record {
    holds = λ s h.
        record { operands = h.operands; locals = h.locals; store = with_globals s h.store; within = h.within };
  }))
    where
      with_globals : (s : State) → IsStore r s.globals s.memory s.input → IsStore r (slice_set s.globals x n) s.memory s.input
      with_globals s h = record { globals_are = AreOf-set (global_types r.program) s.globals x n t h.globals_are e is; bytes = h.bytes; pages = h.pages; input_is = h.input_is }
