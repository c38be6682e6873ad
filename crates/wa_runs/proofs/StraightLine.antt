-- The executor of straight-line code does what the machine does: each instruction that succeeds has its effect, and so has a fragment.
use Rattle.std.proofs.Common.{◌≡◌, ℕ, suc, ◌+◌, ◌<◌, Bool, true, false, List, [], ◌∷◌, length, slice_get, slice_set, slice_index}
use Rattle.std.proofs.Common.{Option, Some, None, Result, Ok, Err, refl, ap, ◌∙◌, arith}
use Rattle.std.specs.Prelude.{◌&&◌, nat_lt, nat_le, ◌==◌, if◌then◌else◌}
use Rattle.std.specs.Int.{byte_len}
use Rattle.std.proofs.lemmas.Option.{slice_get-get_or}
use Rattle.wa_syntax.specs.declared.module.ValTy.{ValTy}
use Rattle.wa_syntax.specs.declared.module.FuncTy.{FuncTy}
use Rattle.wa_syntax.specs.declared.module.Module.{Module}
use Rattle.wa_syntax.specs.declared.trap.TrapKind.{TrapKind}
use Rattle.wa_syntax.specs.Instructions.{Instruction, Unreachable, Nop, Return, Drop, Select, MemorySize, MemoryGrow, Block, Loop, If}
use Rattle.wa_syntax.specs.Instructions.{Br, BrIf, BrTable, Call, CallIndirect, LocalGet, LocalSet, LocalTee, GlobalGet, GlobalSet}
use Rattle.wa_syntax.specs.Instructions.{I32Const, I64Const, Numeric, Memory, Sequence, ◌then◌, Access, load_of, store_of, numeric_type}
use Rattle.wa_syntax.specs.Machine.{State, Trap, Stuck, Gives, Leaves, Eval, and_then, bind, ◌>>=◌, ◌>>◌, change, leave, or_leave}
use Rattle.wa_syntax.specs.Machine.{or_trap, pop, popped, push, as_i32, as_value, set_local, set_global}
use Rattle.wa_syntax.specs.Operations.{operator, numeric_on, load, store, extension}
use Rattle.wa_syntax.specs.Steps.{execute}
use Rattle.wa_runs.specs.RunsTo.{RunsTo}
use Rattle.wa_runs.specs.StraightLine.{top, below, has_top, value_of, gives_value, operands_after, operator_succeeds, numeric_effect}
use Rattle.wa_runs.specs.StraightLine.{numeric_succeeds, access_effect, access_succeeds, effect, succeeds, fragment_effect}
use Rattle.wa_runs.specs.StraightLine.{fragment_succeeds, before, count, with_code}
use Rattle.wa_runs.specs.Words.{word_at, with_word}
use Rattle.wa_runs.proofs.Composition.{stays, runs-then, runs-count, runs-by}

-- ---- conditions that hold both

pub both-left : (a b : Bool) → (a && b) ≡ true → a ≡ true
both-left true b h = refl
both-left false b h = h

pub both-right : (a b : Bool) → (a && b) ≡ true → b ≡ true
both-right true b h = h
both-right false b h = cc

pub both : (a b : Bool) → a ≡ true → b ≡ true → (a && b) ≡ true
both true b h k = k
both false b h k = h

-- ---- what is there is found

is-below : (n k : ℕ) → nat_lt n k ≡ true → n < k
is-below n k h = grind (arith, h)

pub get-there : (xs : List ℕ) (x : ℕ) → nat_lt x (length xs) ≡ true → slice_get xs x ≡ Some (slice_index xs x)
get-there xs x h = slice_get-get_or xs x 0 (is-below x (length xs) h)

pub pops : (ns : List ℕ) (s : State) (f : ℕ → Eval (Unit {0})) → has_top ns ≡ true →
    and_then (popped ns s) f ≡ f (top ns) (record s { operands = below ns })
pops (n ∷ rest) s f h = refl
pops [] s f h = cc

untrapped : (r : Result ℕ TrapKind) (s : State) → gives_value r ≡ true → and_then (or_trap r s) push ≡ push (value_of r) s
untrapped (Ok n) s h = refl
untrapped (Err kind) s h = cc

sets-local : (x n : ℕ) (s : State) → nat_lt x (length s.locals) ≡ true →
    set_local x n s ≡ Gives tt (record s { locals = slice_set s.locals x n })
unfolding bind
sets-local x n s h =
    ap (λ o. and_then (or_leave Stuck o s) (λ _. change (λ t. record t { locals = slice_set t.locals x n }))) (get-there s.locals x h)

sets-global : (x n : ℕ) (s : State) → nat_lt x (length s.globals) ≡ true →
    set_global x n s ≡ Gives tt (record s { globals = slice_set s.globals x n })
unfolding bind
sets-global x n s h =
    ap (λ o. and_then (or_leave Stuck o s) (λ _. change (λ t. record t { globals = slice_set t.globals x n }))) (get-there s.globals x h)

-- ---- numeric instructions

on-operands : (ts : List ValTy) (op : ℕ) (s : State) → operator_succeeds ts op s.operands ≡ true →
    numeric_on ts op s ≡ Gives tt (record s { operands = operands_after ts op s.operands })
unfolding bind
on-operands [] op s h = cc
on-operands (t ∷ []) op s h =
    let a = both-left (has_top s.operands) (gives_value (operator op (as_value t (top s.operands)) 0)) h in
    let b = both-right (has_top s.operands) (gives_value (operator op (as_value t (top s.operands)) 0)) h in
    pops s.operands s (λ a. or_trap (operator op (as_value t a) 0) >>= push) a ∙
    untrapped (operator op (as_value t (top s.operands)) 0) (record s { operands = below s.operands }) b
on-operands (t ∷ u ∷ []) op s h =
    let x = as_value t (top (below s.operands)) in
    let y = as_value u (top s.operands) in
    let a = both-left (has_top s.operands) (has_top (below s.operands) && gives_value (operator op x y)) h in
    let r = both-right (has_top s.operands) (has_top (below s.operands) && gives_value (operator op x y)) h in
    let b = both-left (has_top (below s.operands)) (gives_value (operator op x y)) r in
    let c = both-right (has_top (below s.operands)) (gives_value (operator op x y)) r in
    pops s.operands s (λ b. pop >>= (λ a. or_trap (operator op (as_value t a) (as_value u b)) >>= push)) a ∙
    pops (below s.operands) (record s { operands = below s.operands }) (λ a. or_trap (operator op (as_value t a) y) >>= push) b ∙
    untrapped (operator op x y) (record s { operands = below (below s.operands) }) c
on-operands (t ∷ u ∷ v ∷ ts) op s h = cc

of-type : (o : Option FuncTy) (op : ℕ) (s : State) → numeric_succeeds o op s.operands ≡ true →
    and_then (or_leave Stuck o s) (λ ty. numeric_on ty.params op) ≡ Gives tt (record s { operands = numeric_effect o op s.operands })
of-type None op s h = cc
of-type (Some ty) op s h = on-operands ty.params op s h

-- ---- loads and stores

-- the access of an opcode, as `access_at` of the machine has it
abbrev access : (offset : ℕ) → Option Access → Option Access → Eval (Unit {0})
access offset (Some a) other = pop >>= λ base. load a (as_i32 base + offset)
access offset None (Some a) = do
  n ← pop
  base ← pop
  store a (as_i32 base + offset) n
access offset None None = leave Stuck

loads : (a : Access) (at : ℕ) (s : State) → nat_le (at + byte_len a.width) (length s.memory) ≡ true →
    load a at s ≡ Gives tt (record s { operands = extension a (word_at a.width s.memory at) ∷ s.operands })
loads a at s h =
    ap (λ b. if b then push (extension a (word_at a.width s.memory at)) s else Leaves (Trap TrapKind.Memory) s) h

stores : (a : Access) (at n : ℕ) (s : State) → nat_le (at + byte_len a.width) (length s.memory) ≡ true →
    store a at n s ≡ Gives tt (record s { memory = with_word a.width s.memory at n })
stores a at n s h =
    ap (λ b. if b then Gives tt (record s { memory = with_word a.width s.memory at n }) else Leaves (Trap TrapKind.Memory) s) h

on-memory : (o p : Option Access) (offset : ℕ) (s : State) → access_succeeds o p offset s ≡ true →
    access offset o p s ≡ Gives tt (access_effect o p offset s)
unfolding bind
on-memory (Some a) p offset s h =
    let at = as_i32 (top s.operands) + offset in
    let f = both-left (has_top s.operands) (nat_le (at + byte_len a.width) (length s.memory)) h in
    let g = both-right (has_top s.operands) (nat_le (at + byte_len a.width) (length s.memory)) h in
    pops s.operands s (λ base. load a (as_i32 base + offset)) f ∙ loads a at (record s { operands = below s.operands }) g
on-memory None (Some a) offset s h =
    let at = as_i32 (top (below s.operands)) + offset in
    let f = both-left (has_top s.operands) (has_top (below s.operands) && nat_le (at + byte_len a.width) (length s.memory)) h in
    let r = both-right (has_top s.operands) (has_top (below s.operands) && nat_le (at + byte_len a.width) (length s.memory)) h in
    let g = both-left (has_top (below s.operands)) (nat_le (at + byte_len a.width) (length s.memory)) r in
    let i = both-right (has_top (below s.operands)) (nat_le (at + byte_len a.width) (length s.memory)) r in
    pops s.operands s (λ n. pop >>= (λ base. store a (as_i32 base + offset) n)) f ∙
    pops (below s.operands) (record s { operands = below s.operands }) (λ base. store a (as_i32 base + offset) (top s.operands)) g ∙
    stores a at (top s.operands) (record s { operands = below (below s.operands) }) i
on-memory None None offset s h = cc

-- ---- select

selects : (ns : List ℕ) (s : State) → (has_top ns && (has_top (below ns) && has_top (below (below ns)))) ≡ true →
    and_then (popped ns s) (λ c. pop >>= λ b. pop >>= λ a. push (if as_i32 c == 0 then b else a)) ≡
    Gives tt (record s { operands = (if as_i32 (top ns) == 0 then top (below ns) else top (below (below ns))) ∷ below (below (below ns)) })
unfolding bind
selects [] s h = cc
selects (c ∷ []) s h = cc
selects (c ∷ b ∷ []) s h = cc
selects (c ∷ b ∷ a ∷ rest) s h = refl

-- ---- each instruction

pub executes : (m : Module) (i : Instruction) (s : State) → succeeds i s ≡ true → execute m i s ≡ Gives tt (effect i s)
unfolding bind
executes m (LocalGet x) s h = ap (λ o. and_then (or_leave Stuck o s) push) (get-there s.locals x h)
executes m (LocalSet x) s h =
    pops s.operands s (set_local x) (both-left (has_top s.operands) (nat_lt x (length s.locals)) h) ∙
    sets-local x (top s.operands) (record s { operands = below s.operands })
    (both-right (has_top s.operands) (nat_lt x (length s.locals)) h)
executes m (LocalTee x) s h =
    pops s.operands s (λ n. set_local x n >> push n) (both-left (has_top s.operands) (nat_lt x (length s.locals)) h) ∙
    ap (λ o. and_then o (λ _. push (top s.operands)))
    (sets-local x (top s.operands) (record s { operands = below s.operands })
    (both-right (has_top s.operands) (nat_lt x (length s.locals)) h))
executes m (GlobalGet x) s h = ap (λ o. and_then (or_leave Stuck o s) push) (get-there s.globals x h)
executes m (GlobalSet x) s h =
    pops s.operands s (set_global x) (both-left (has_top s.operands) (nat_lt x (length s.globals)) h) ∙
    sets-global x (top s.operands) (record s { operands = below s.operands })
    (both-right (has_top s.operands) (nat_lt x (length s.globals)) h)
executes m (I32Const n) s h = refl
executes m (I64Const n) s h = refl
executes m Drop s h = pops s.operands s (λ n t. Gives tt t) h
executes m Select s h = selects s.operands s h
executes m MemorySize s h = refl
executes m (Numeric op) s h = of-type (numeric_type op) op s h
executes m (Memory op align offset) s h = on-memory (load_of op) (store_of op) offset s h
executes m Nop s h = refl
executes m Unreachable s h = cc
executes m Return s h = cc
executes m MemoryGrow s h = cc
executes m (Block result body) s h = cc
executes m (Loop result body) s h = cc
executes m (If result first other) s h = cc
executes m (Br label) s h = cc
executes m (BrIf label) s h = cc
executes m (BrTable labels default) s h = cc
executes m (Call func) s h = cc
executes m (CallIndirect ty) s h = cc

-- ---- an instruction doesn't look at the code that follows it

keeps-access : (c : Sequence) (o p : Option Access) (offset : ℕ) (s : State) →
    access_effect o p offset (with_code c s) ≡ with_code c (access_effect o p offset s)
keeps-access c (Some a) p offset s = refl
keeps-access c None (Some a) offset s = refl
keeps-access c None None offset s = refl

keeps-code : (c : Sequence) (i : Instruction) (s : State) → effect i (with_code c s) ≡ with_code c (effect i s)
keeps-code c (LocalGet x) s = refl
keeps-code c (LocalSet x) s = refl
keeps-code c (LocalTee x) s = refl
keeps-code c (GlobalGet x) s = refl
keeps-code c (GlobalSet x) s = refl
keeps-code c (I32Const n) s = refl
keeps-code c (I64Const n) s = refl
keeps-code c Drop s = refl
keeps-code c Select s = refl
keeps-code c MemorySize s = refl
keeps-code c (Numeric op) s = refl
keeps-code c (Memory op align offset) s = keeps-access c (load_of op) (store_of op) offset s
keeps-code c _ s = refl

same-access : (c : Sequence) (o p : Option Access) (offset : ℕ) (s : State) →
    access_succeeds o p offset (with_code c s) ≡ access_succeeds o p offset s
same-access c (Some a) p offset s = refl
same-access c None (Some a) offset s = refl
same-access c None None offset s = refl

same-success : (c : Sequence) (i : Instruction) (s : State) → succeeds i (with_code c s) ≡ succeeds i s
same-success c (LocalGet x) s = refl
same-success c (LocalSet x) s = refl
same-success c (LocalTee x) s = refl
same-success c (GlobalGet x) s = refl
same-success c (GlobalSet x) s = refl
same-success c (I32Const n) s = refl
same-success c (I64Const n) s = refl
same-success c Drop s = refl
same-success c Select s = refl
same-success c MemorySize s = refl
same-success c (Numeric op) s = refl
same-success c (Memory op align offset) s = same-access c (load_of op) (store_of op) offset s
same-success c _ s = refl

-- ---- fragments

-- an instruction, and then k more
one-more : (m : Module) (k : ℕ) (i : Instruction) (c : Sequence) (s t u : State) → execute m i (with_code c s) ≡ Gives tt t →
    RunsTo m k t u → RunsTo m (suc k) (with_code (i then c) s) u
one-more m k i c s t u e follows =
    let one : 1 + k ≡ suc k = omega arith in
    runs-count one (runs-then (runs-by m i c s t e) follows)

pub straight : (m : Module) (is : List Instruction) (rest : Sequence) (s : State) → fragment_succeeds is s ≡ true →
    RunsTo m (count is) (with_code (before is rest) s) (with_code rest (fragment_effect is s))
straight m [] rest s h = stays
straight m (i ∷ is) rest s h =
    let c = before is rest in
    let first = both-left (succeeds i s) (fragment_succeeds is (effect i s)) h in
    let others = both-right (succeeds i s) (fragment_succeeds is (effect i s)) h in
    let e = executes m i (with_code c s) (same-success c i s ∙ first) ∙ ap (Gives tt) (keeps-code c i s) in
    one-more m (count is) i c s (with_code c (effect i s)) (with_code rest (fragment_effect is (effect i s))) e
    (straight m is rest (effect i s) others)
