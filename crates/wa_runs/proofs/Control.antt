-- Control instructions, one rule each: to which state it leads, and in how many steps. The ends of blocks and of functions take none.
use Rattle.std.proofs.Common.{◌≡◌, ℕ, zero, suc, Bool, true, false, List, [], ◌∷◌, ◌++◌, slice_get, unwrap_or, Option, Some, None}
use Rattle.std.proofs.Common.{refl, sym, ap, ◌∙◌}
use Rattle.std.specs.Prelude.{◌==◌, if◌then◌else◌, take}
use Rattle.wa_syntax.specs.declared.module.ValTy.{ValTy}
use Rattle.wa_syntax.specs.declared.module.Module.{Module}
use Rattle.wa_syntax.specs.declared.trap.TrapKind.{TrapKind}
use Rattle.wa_syntax.specs.Instructions.{Unreachable, Return, Block, Loop, If, Br, BrIf, BrTable, Sequence, nothing, ◌then◌}
use Rattle.wa_syntax.specs.Machine.{Entry, Label, Activation, State, Trap, Gives, bind, outside, pure, as_i32}
use Rattle.wa_syntax.specs.Operations.{branch, branch_in, return_in}
use Rattle.wa_syntax.specs.Steps.{arity, execute, Next, At, Over, Finished, Unfinished, at_next, after, next, next_in, run}
use Rattle.wa_runs.specs.RunsTo.{observed, RunsTo, EndsWith, HaltsWith}
use Rattle.wa_runs.proofs.Composition.{more, runs-to, ends-with, runs-by, halts-by}

-- ---- the ends of blocks and of functions

next-outside : (stack : List Entry) (c : Sequence) (ops ls : List ℕ) (s : State) →
    next_in c ops ls stack s ≡ next_in c ops ls stack (outside s)
next-outside stack (i then rest) ops ls s = refl
next-outside (Label kept again following under ∷ stack) nothing ops ls s = next-outside stack following (ops ++ under) ls s
next-outside (Activation kept following under outer ∷ stack) nothing ops ls s = next-outside stack following (ops ++ under) outer s
next-outside [] nothing ops ls s = refl

unfinished : (s t : State) (n : Next) → outside s ≡ outside t →
    observed (at_next zero (λ i u. Unfinished s) n) ≡ observed (at_next zero (λ i u. Unfinished t) n)
unfolding observed
unfinished s t (At i u) e = ap Unfinished e
unfinished s t (Over results u) e = refl

-- states in which the same comes next have the same runs
alike : (m : Module) (s t : State) → outside s ≡ outside t → next s ≡ next t → (n : ℕ) → observed (run m n s) ≡ observed (run m n t)
alike m s t w e zero = unfinished s t (next s) w ∙ ap (λ x. observed (at_next zero (λ i u. Unfinished t) x)) e
alike m s t w e (suc n) = ap (λ x. observed (at_next (suc n) (λ i u. after n (run m n) (execute m i u)) x)) e

-- at the end of a block its operands stay, on those below
pub runs-end : {m : Module} (s : State) (kept : ℕ) (again : Option Sequence) (following : Sequence) (under : List ℕ) (stack : List Entry) →
    RunsTo m 0 (record s { code = nothing; stack = Label kept again following under ∷ stack })
    (record s { code = following; operands = s.operands ++ under; stack = stack })
unfolding more
runs-end {m = m} s kept again following under stack =
    let from = record s { code = nothing; stack = Label kept again following under ∷ stack } in
    let to = record s { code = following; operands = s.operands ++ under; stack = stack } in
    let e = next-outside stack following (s.operands ++ under) s.locals from in
    let f = next-outside stack following (s.operands ++ under) s.locals to in
    runs-to {m = m} {k = 0} {s = from} {t = to} (λ n. alike m from to refl (e ∙ sym f) n)

-- at the end of a function its caller goes on, with its own locals
pub runs-function_end : {m : Module} (s : State) (kept : ℕ) (following : Sequence) (under outer : List ℕ) (stack : List Entry) →
    RunsTo m 0 (record s { code = nothing; stack = Activation kept following under outer ∷ stack })
    (record s { code = following; operands = s.operands ++ under; locals = outer; stack = stack })
unfolding more
runs-function_end {m = m} s kept following under outer stack =
    let from = record s { code = nothing; stack = Activation kept following under outer ∷ stack } in
    let to = record s { code = following; operands = s.operands ++ under; locals = outer; stack = stack } in
    let e = next-outside stack following (s.operands ++ under) outer from in
    let f = next-outside stack following (s.operands ++ under) outer to in
    runs-to {m = m} {k = 0} {s = from} {t = to} (λ n. alike m from to refl (e ∙ sym f) n)

finished : (m : Module) (n : ℕ) (s : State) → s.code ≡ nothing → s.stack ≡ [] → run m n s ≡ Finished n s.operands (outside s)
finished m zero s c e =
    ap (λ x. at_next zero (λ i u. Unfinished s) (next_in x s.operands s.locals s.stack s)) c ∙
    ap (λ x. at_next zero (λ i u. Unfinished s) (next_in nothing s.operands s.locals x s)) e
finished m (suc n) s c e =
    ap (λ x. at_next (suc n) (λ i u. after n (run m n) (execute m i u)) (next_in x s.operands s.locals s.stack s)) c ∙
    ap (λ x. at_next (suc n) (λ i u. after n (run m n) (execute m i u)) (next_in nothing s.operands s.locals x s)) e

-- and outside all functions the run is at its end
pub ends-outside : (m : Module) (s : State) → s.code ≡ nothing → s.stack ≡ [] → EndsWith m 0 s s.operands (outside s)
unfolding more observed
ends-outside m s c e =
    ends-with {m = m} {k = 0} {s = s} {results = s.operands} {t = outside s} (λ n. ap observed (finished m n s c e))

-- ---- blocks, loops and conditions are entered

pub runs-block : {m : Module} (s : State) (result : Option ValTy) (body rest : Sequence) →
    RunsTo m 1 (record s { code = Block result body then rest })
    (record s { code = body; operands = []; stack = Label (arity result) None rest s.operands ∷ s.stack })
unfolding more
runs-block {m = m} s result body rest = runs-by m (Block result body) rest s
    (record s { code = body; operands = []; stack = Label (arity result) None rest s.operands ∷ s.stack }) refl

pub runs-loop : {m : Module} (s : State) (result : Option ValTy) (body rest : Sequence) →
    RunsTo m 1 (record s { code = Loop result body then rest })
    (record s { code = body; operands = []; stack = Label 0 (Some body) rest s.operands ∷ s.stack })
unfolding more
runs-loop {m = m} s result body rest = runs-by m (Loop result body) rest s
    (record s { code = body; operands = []; stack = Label 0 (Some body) rest s.operands ∷ s.stack }) refl

pub runs-if : {m : Module} (s : State) (result : Option ValTy) (first other rest : Sequence) (c : ℕ) (ops : List ℕ) →
    RunsTo m 1 (record s { code = If result first other then rest; operands = c ∷ ops })
    (record s { code = if as_i32 c == 0 then other else first; operands = []; stack = Label (arity result) None rest ops ∷ s.stack })
unfolding more bind
runs-if {m = m} s result first other rest c ops = runs-by m (If result first other) rest (record s { operands = c ∷ ops })
    (record s { code = if as_i32 c == 0 then other else first; operands = []; stack = Label (arity result) None rest ops ∷ s.stack }) refl

-- ---- branches

-- a branch to a label leads to where the label says (`branch_in`)
pub runs-br : (m : Module) (label : ℕ) (rest : Sequence) (s t : State) → branch_in label s.stack (record s { code = rest }) ≡ Gives tt t →
    RunsTo m 1 (record s { code = Br label then rest }) t
runs-br m label rest s t e = runs-by m (Br label) rest s t e

-- to the end of the innermost block, and to the beginning of the innermost loop
pub runs-br-end : {m : Module} (s : State) (kept : ℕ) (following rest : Sequence) (under : List ℕ) (stack : List Entry) →
    RunsTo m 1 (record s { code = Br 0 then rest; stack = Label kept None following under ∷ stack })
    (record s { code = following; operands = take kept s.operands ++ under; stack = stack })
runs-br-end {m = m} s kept following rest under stack =
    runs-by m (Br 0) rest (record s { stack = Label kept None following under ∷ stack })
    (record s { code = following; operands = take kept s.operands ++ under; stack = stack }) refl

pub runs-br-loop : {m : Module} (s : State) (kept : ℕ) (body following rest : Sequence) (under : List ℕ) (stack : List Entry) →
    RunsTo m 1 (record s { code = Br 0 then rest; stack = Label kept (Some body) following under ∷ stack })
    (record s { code = body; operands = take kept s.operands ++ []; stack = Label kept (Some body) following under ∷ stack })
runs-br-loop {m = m} s kept body following rest under stack =
    runs-by m (Br 0) rest (record s { stack = Label kept (Some body) following under ∷ stack })
    (record s { code = body; operands = take kept s.operands ++ []; stack = Label kept (Some body) following under ∷ stack }) refl

-- a conditional branch that isn't taken, and one that is
pub runs-br_if-past : {m : Module} (s : State) (label : ℕ) (rest : Sequence) (c : ℕ) (ops : List ℕ) → (as_i32 c == 0) ≡ true →
    RunsTo m 1 (record s { code = BrIf label then rest; operands = c ∷ ops }) (record s { code = rest; operands = ops })
unfolding bind
runs-br_if-past {m = m} s label rest c ops e =
    runs-by m (BrIf label) rest (record s { operands = c ∷ ops }) (record s { code = rest; operands = ops })
    (ap (λ (b : Bool). (if b then pure tt else branch label) (record s { code = rest; operands = ops })) e)

pub runs-br_if : (m : Module) (s t : State) (label : ℕ) (rest : Sequence) (c : ℕ) (ops : List ℕ) → (as_i32 c == 0) ≡ false →
    branch_in label s.stack (record s { code = rest; operands = ops }) ≡ Gives tt t →
    RunsTo m 1 (record s { code = BrIf label then rest; operands = c ∷ ops }) t
unfolding bind
runs-br_if m s t label rest c ops e h =
    runs-by m (BrIf label) rest (record s { operands = c ∷ ops }) t
    (ap (λ (b : Bool). (if b then pure tt else branch label) (record s { code = rest; operands = ops })) e ∙ h)

-- a branch by a table to the label at an index, or the default one after the end
pub runs-br_table : (m : Module) (s t : State) (labels : List ℕ) (default label : ℕ) (rest : Sequence) (c : ℕ) (ops : List ℕ) →
    unwrap_or (slice_get labels (as_i32 c)) default ≡ label →
    branch_in label s.stack (record s { code = rest; operands = ops }) ≡ Gives tt t →
    RunsTo m 1 (record s { code = BrTable labels default then rest; operands = c ∷ ops }) t
unfolding bind
runs-br_table m s t labels default label rest c ops e h =
    runs-by m (BrTable labels default) rest (record s { operands = c ∷ ops }) t
    (ap (λ l. branch l (record s { code = rest; operands = ops })) e ∙ h)

-- ---- returns and traps

pub runs-return : (m : Module) (rest : Sequence) (s t : State) → return_in s.stack (record s { code = rest }) ≡ Gives tt t →
    RunsTo m 1 (record s { code = Return then rest }) t
runs-return m rest s t e = runs-by m Return rest s t e

pub traps-unreachable : (m : Module) (rest : Sequence) (s : State) →
    HaltsWith m 1 (record s { code = Unreachable then rest }) (Trap TrapKind.Unreachable) (record s { code = rest })
traps-unreachable m rest s = halts-by m Unreachable rest s (record s { code = rest }) (Trap TrapKind.Unreachable) refl
