-- Instructions that continue after themselves: what each takes and gives.
use Rattle.std.proofs.Common.{◌≡◌, ℕ, ◌+◌, ◌-◌, ◌*◌, ◌^◌, ◌≤◌, Bool, true, false, List, ◌∷◌, ◌++◌, replicate, slice_get, slice_range, Option, Some, None, Result, All, refl, sym, ap, subst, ◌∙◌, arith}
use Rattle.std.specs.Prelude.{◌==◌, ◌/◌, nat_le, if◌then◌else◌, option_map, reverse, length}
use Rattle.std.specs.Int.{byte_len, to_le_bytes}
use Rattle.std.proofs.lemmas.Bool.{leb-true}
use Rattle.std.proofs.lemmas.List.Elements.{All-take, All-drop}
use Rattle.std.proofs.lemmas.Nat.{mod_below}
use Rattle.std.proofs.lemmas.Option.{slice_get-map}
use Rattle.wa_syntax.specs.declared.module.ValTy.{ValTy}
use Rattle.wa_syntax.specs.declared.module.ValTy.TheVariants.{I32, I64}
use Rattle.wa_syntax.specs.declared.module.FuncTy.{FuncTy}
use Rattle.wa_syntax.specs.declared.module.GlobalTy.{GlobalTy}
use Rattle.wa_syntax.specs.declared.trap.TrapKind.{TrapKind}
use Rattle.wa_syntax.specs.Instructions.{Drop, Select, MemorySize, MemoryGrow, LocalGet, LocalSet, LocalTee, GlobalGet, GlobalSet, I32Const, I64Const, Numeric, Memory, Access, load_of, store_of, numeric_type}
use Rattle.wa_syntax.specs.ValidModule.{context_of}
use Rattle.wa_syntax.specs.Machine.{Input, State, Trap, Gives, Leaves, Eval, ◌>>=◌, leave, or_trap, push, pop, as_i32, as_value, Stuck}
use Rattle.wa_syntax.specs.Numeric.{wrap}
use Rattle.wa_syntax.specs.Operations.{operator, numeric_on, width_of, load, store, overwritten, page}
use Rattle.wa_syntax.specs.Steps.{execute, most_pages}
use Rattle.wa_type_safety.specs.Typing.{Setting, BeginsInRange, IsOf, IsStore, BodyContext, global_types, IsState}
use Rattle.wa_type_safety.specs.Ranges.{IsByte}
use Rattle.wa_type_safety.proofs.Rules.{Holds, Leads-then, Leads-found, Leads-or_trap, Leads-with, Leads-taken, Leads-push_last, Leads-nothing_last, Leads-last, Leads-get_local, Leads-set_local, Leads-get_global, Leads-set_global, Finds, Finds-state, IsSafe}
use Rattle.wa_type_safety.proofs.Opcodes.{store-no_load}
use Rattle.wa_type_safety.proofs.Ranges.{Below}
use Rattle.wa_type_safety.proofs.Operators.{IsOperator, unary, binary, numeric-operator}
use Rattle.wa_type_safety.proofs.Memory.{bytes-overwritten, length-overwritten, bytes-grown, pages-grown, bytes-of_number, length-of_number, load-below, pages-below}
use mir.Val.{bits}

-- the access of an opcode, as `access_at` has it
abbrev access : (op offset : ℕ) → Option Access → Option Access → Eval (Unit {0})
access op offset (Some a) other = pop >>= λ base. load a (as_i32 base + offset)
access op offset None (Some a) = do
  n ← pop
  base ← pop
  store a (as_i32 base + offset) n
access op offset None None = leave Stuck

module _ (r : Setting) (p : BodyContext) (below : List ValTy) where
  -- ---- parametric instructions (4.4.2)

  pub drop-safe : (t : ValTy) → IsSafe true r p (t ∷ below) below (execute r.program Drop)
  drop-safe t = Leads-taken (λ n is. Leads-nothing_last)

  -- a value of a type or another
  either-of : (t : ValTy) (b : Bool) (x y : ℕ) → IsOf r t x → IsOf r t y → IsOf r t (if b then x else y)
  either-of t true x y h k = h
  either-of t false x y h k = k

  pub select-safe : (t : ValTy) → IsSafe true r p (I32 ∷ t ∷ t ∷ below) (t ∷ below) (execute r.program Select)
  select-safe t = Leads-taken (λ c i. Leads-taken (λ b j. Leads-taken (λ a k. Leads-push_last (if as_i32 c == 0 then b else a) (either-of t (as_i32 c == 0) b a j k))))

  -- ---- variables (4.4.3)

  pub local_get-safe : (x : ℕ) (t : ValTy) → slice_get p.locals x ≡ Some t → IsSafe true r p below (t ∷ below) (execute r.program (LocalGet x))
  local_get-safe x t e = Leads-then (Leads-get_local x e) (λ n. Leads-with (λ is. Leads-push_last n is))

  pub local_set-safe : (x : ℕ) (t : ValTy) → slice_get p.locals x ≡ Some t → IsSafe true r p (t ∷ below) below (execute r.program (LocalSet x))
  local_set-safe x t e = Leads-taken (λ n is. Leads-last (Leads-set_local x n e is))

  pub local_tee-safe : (x : ℕ) (t : ValTy) → slice_get p.locals x ≡ Some t → IsSafe true r p (t ∷ below) (t ∷ below) (execute r.program (LocalTee x))
  local_tee-safe x t e = Leads-taken (λ n is. Leads-then (Leads-set_local x n e is) (λ u. Leads-push_last n is))

  -- a global of the context
  global_type : (x : ℕ) (g : GlobalTy) → slice_get (context_of r.program).globals x ≡ Some g → slice_get (global_types r.program) x ≡ Some g.val
  global_type x g e = slice_get-map (λ (h : GlobalTy). h.val) (context_of r.program).globals x ∙ ap (option_map (λ (h : GlobalTy). h.val)) e

  pub global_get-safe : (x : ℕ) (g : GlobalTy) → slice_get (context_of r.program).globals x ≡ Some g → IsSafe true r p below (g.val ∷ below) (execute r.program (GlobalGet x))
  global_get-safe x g e = Leads-then (Leads-get_global x (global_type x g e)) (λ n. Leads-with (λ is. Leads-push_last n is))

  pub global_set-safe : (x : ℕ) (g : GlobalTy) → slice_get (context_of r.program).globals x ≡ Some g → IsSafe true r p (g.val ∷ below) below (execute r.program (GlobalSet x))
  global_set-safe x g e = Leads-taken (λ n is. Leads-last (Leads-set_global x n (global_type x g e) is))

  -- ---- numeric instructions (4.4.1)

  pub i32_const-safe : (n : ℕ) → IsOf r I32 n → IsSafe true r p below (I32 ∷ below) (execute r.program (I32Const n))
  i32_const-safe n is = Leads-push_last n is

  pub i64_const-safe : (n : ℕ) → IsOf r I64 n → IsSafe true r p below (I64 ∷ below) (execute r.program (I64Const n))
  i64_const-safe n is = Leads-push_last n is

  -- what an operator gives goes onto the operands
  given : (t : ValTy) (c : Result ℕ TrapKind) → (BeginsInRange r → Below (2 ^ bits (width_of t)) c) → IsSafe true r p below (t ∷ below) (or_trap c >>= push)
  given t c h = Leads-then (Leads-or_trap c) (λ n. Leads-with (λ e. Leads-push_last n (λ begins. (h begins).below n e)))

  -- an operand that is read as a value of its type
  value-of : (t : ValTy) (n : ℕ) → IsOf r t n → IsOf r t (as_value t n)
  value-of I32 n is = λ begins. mod_below n (2 ^ 32) (omega arith)
  value-of I64 n is = is

  operator-safe : (op : ℕ) (ty : FuncTy) → IsOperator op ty → IsSafe true r p (reverse ty.params ++ below) (reverse ty.results ++ below) (numeric_on ty.params op)
  operator-safe op _ (unary t u f) = Leads-taken (λ a is. given u (operator op (as_value t a) 0) (λ begins. f (as_value t a) (value-of t a is begins)))
  operator-safe op _ (binary t u v f) = Leads-taken (λ b is. Leads-taken (λ a also. given v (operator op (as_value t a) (as_value u b)) (λ begins. f (as_value t a) (as_value u b) (value-of t a also begins) (value-of u b is begins))))

  pub numeric-safe : (op : ℕ) (ty : FuncTy) → numeric_type op ≡ Some ty → IsSafe true r p (reverse ty.params ++ below) (reverse ty.results ++ below) (execute r.program (Numeric op))
  numeric-safe op ty e = Leads-found (numeric_type op) ty (λ ty. numeric_on ty.params op) e (operator-safe op ty (numeric-operator op ty e))

  -- ---- memory instructions (4.4.4)

  loaded : (b : Bool) (t : ValTy) (n : ℕ) (s : State) → IsOf r t n → Finds true r p below (t ∷ below) s → Holds (λ u. IsState r) (if b then push n s else Leaves (Trap TrapKind.Memory) s)
  loaded true t n s is h = (Leads-push_last {w = true} {r = r} {p = p} {t = t} {types = below} n is).holds s h
  loaded false t n s is h = tt

  load-safe : (op : ℕ) (a : Access) (at : ℕ) → load_of op ≡ Some a → IsSafe true r p below (a.ty ∷ below) (load a at)
  load-safe op a at e = record {
    holds = λ s h.
        loaded (nat_le (at + byte_len a.width) (length s.memory)) a.ty _ s
        (λ begins. load-below (slice_range s.memory at (at + byte_len a.width)) (All-take IsByte _ _ (All-drop IsByte _ _ (h.store.bytes begins))) op a e) h;
  }

  -- the memory with other bytes, of no more pages
  with_memory : {globals memory : List ℕ} {input : Input} (bytes : List ℕ) → IsStore r globals memory input → (BeginsInRange r → All IsByte bytes) → (BeginsInRange r → length bytes / page ≤ most_pages r.program) → IsStore r globals bytes input
  with_memory bytes h are pages = record { globals_are = h.globals_are; bytes = are; pages = pages; input_is = h.input_is }

  overwritten-store : (s : State) (at : ℕ) (bytes : List ℕ) → at + length bytes ≤ length s.memory → All IsByte bytes → IsStore r s.globals s.memory s.input → IsStore r s.globals (overwritten s.memory at bytes) s.input
  overwritten-store s at bytes within are h = with_memory (overwritten s.memory at bytes) h
      (λ begins. bytes-overwritten s.memory bytes at (h.bytes begins) are)
      (λ begins. subst (λ (n : ℕ). n / page ≤ most_pages r.program) (sym (length-overwritten s.memory bytes at within)) (h.pages begins))

  stored : (b : Bool) (at : ℕ) (bytes : List ℕ) (s : State) → (b ≡ true → at + length bytes ≤ length s.memory) → All IsByte bytes → Finds true r p below below s → Holds (λ u. IsState r) (if b then Gives (tt {0}) (record s { memory = overwritten s.memory at bytes }) else Leaves (Trap TrapKind.Memory) s)
  stored true at bytes s within are h =
      Finds-state true r p below (record s { memory = overwritten s.memory at bytes })
      (record { operands = h.operands; locals = h.locals; store = overwritten-store s at bytes (within refl) are h.store; within = h.within })
  stored false at bytes s within are h = tt

  store-safe : (a : Access) (at n : ℕ) → IsSafe true r p below below (store a at n)
  store-safe a at n = record {
    holds = λ s h.
        stored (nat_le (at + byte_len a.width) (length s.memory)) at (to_le_bytes a.width (wrap a.width n)) s
        (λ e. subst (λ (k : ℕ). at + k ≤ length s.memory) (sym (length-of_number a.width (wrap a.width n))) (leb-true (at + byte_len a.width) (length s.memory) e))
        (bytes-of_number a.width (wrap a.width n)) h;
  }

  pub memory_load-safe : (op align offset : ℕ) (a : Access) → load_of op ≡ Some a → IsSafe true r p (I32 ∷ below) (a.ty ∷ below) (execute r.program (Memory op align offset))
  memory_load-safe op align offset a e =
      subst (λ (o : Option Access). IsSafe true r p (I32 ∷ below) (a.ty ∷ below) (access op offset o (store_of op))) (sym e)
      (Leads-taken (λ base is. load-safe op a (as_i32 base + offset) e))

  pub memory_store-safe : (op align offset : ℕ) (a : Access) → store_of op ≡ Some a → IsSafe true r p (a.ty ∷ I32 ∷ below) below (execute r.program (Memory op align offset))
  memory_store-safe op align offset a e =
      subst (λ (o : Option Access). IsSafe true r p (a.ty ∷ I32 ∷ below) below (access op offset o (store_of op))) (sym (store-no_load op a e))
      (subst (λ (o : Option Access). IsSafe true r p (a.ty ∷ I32 ∷ below) below (access op offset None o)) (sym e)
      (Leads-taken (λ n is. Leads-taken (λ base also. store-safe a (as_i32 base + offset) n))))

  -- the size in pages is an i32
  size-of : (s : State) → IsStore r s.globals s.memory s.input → IsOf r I32 (length s.memory / page)
  size-of s h = λ begins. pages-below r.program (length s.memory / page) (h.pages begins)

  pub memory_size-safe : IsSafe true r p below (I32 ∷ below) (execute r.program MemorySize)
  memory_size-safe = record { holds = λ s h. (Leads-push_last {w = true} {r = r} {p = p} {t = I32} {types = below} _ (size-of s h.store)).holds s h }

  grown-store : (s : State) (n : ℕ) → length s.memory / page + n ≤ most_pages r.program → IsStore r s.globals s.memory s.input → IsStore r s.globals (s.memory ++ replicate (n * page) 0) s.input
  grown-store s n most h = with_memory (s.memory ++ replicate (n * page) 0) h
      (λ begins. bytes-grown s.memory (n * page) (h.bytes begins))
      (λ begins. subst (λ (k : ℕ). k ≤ most_pages r.program) (sym (pages-grown s.memory n)) most)

  grown : (b : Bool) (n : ℕ) (s : State) → (b ≡ true → length s.memory / page + n ≤ most_pages r.program) → Finds true r p below (I32 ∷ below) s → Holds (λ u. IsState r) (if b then push (length s.memory / page) (record s { memory = s.memory ++ replicate (n * page) 0 }) else push (2 ^ 32 - 1) s)
  grown true n s most h =
      (Leads-push_last {w = true} {r = r} {p = p} {t = I32} {types = below} (length s.memory / page) (size-of s h.store)).holds (record s { memory = s.memory ++ replicate (n * page) 0 })
      (record { operands = h.operands; locals = h.locals; store = grown-store s n (most refl) h.store; within = h.within })
  grown false n s most h = (Leads-push_last {w = true} {r = r} {p = p} {t = I32} {types = below} (2 ^ 32 - 1) (λ begins. omega arith)).holds s h

  pub memory_grow-safe : IsSafe true r p (I32 ∷ below) (I32 ∷ below) (execute r.program MemoryGrow)
  memory_grow-safe = Leads-taken (λ n is. record {
    holds = λ s h.
        grown (nat_le (length s.memory / page + as_i32 n) (most_pages r.program)) (as_i32 n) s (λ e. leb-true (length s.memory / page + as_i32 n) (most_pages r.program) e) h;
  })
