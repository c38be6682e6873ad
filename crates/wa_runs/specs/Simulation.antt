-- When code simulates the run of a program through regions: from states that represent each other the machine's run matches the program's
-- outcome. A correspondence says what this means; `Outcome` and `Matches` are the one with both bounds on the machine's steps.
use Rattle.std.specs.Prelude.{ℕ, zero, suc, ◌+◌, ◌*◌, ◌≡◌, ◌≤◌, Bool, true, false, List, [], ◌∷◌, Option, Some, None}
use Rattle.wa_syntax.specs.declared.module.Module.{Module}
use Rattle.wa_syntax.specs.Instructions.{Sequence, nothing}
use Rattle.wa_syntax.specs.Machine.{Entry, Label, State, Halt}
use Rattle.wa_runs.specs.RunsTo.{RunsTo, HaltsWith}
use Rattle.wa_runs.specs.Regions.{Region, Basic, Conditional, Labelled, Repeated, Dispatch, Regions, none, ◌followed_by◌, first}
use Rattle.wa_runs.specs.Regions.{region_after, Target, ToBlock, ToDispatch, loop_target, label_of, Jumps, reach, BlockCode}

-- ---- the labels around a point of the code, the innermost first

-- of a block, or of a side of a condition, with the code after it; of a loop, with its own code too
pub data Enclosing : Type 0 where
  BlockLabel : (target : Target) → (following : Sequence) → Enclosing
  LoopLabel : (target : Target) → (body following : Sequence) → Enclosing

abbrev pub target_of : Enclosing → Target
target_of (BlockLabel target following) = target
target_of (LoopLabel target body following) = target

abbrev pub targets : List Enclosing → List Target
targets [] = []
targets (a ∷ k) = target_of a ∷ targets k

abbrev pub entry_label : Enclosing → Entry
entry_label (BlockLabel target following) = Label 0 None following []
entry_label (LoopLabel target body following) = Label 0 (Some body) following []

-- where a branch to a label continues: its code, and the labels there
abbrev pub label_code : Enclosing → Sequence
label_code (BlockLabel target following) = following
label_code (LoopLabel target body following) = body

abbrev pub label_stack : Enclosing → List Entry → List Entry
label_stack (BlockLabel target following) outer = outer
label_stack (LoopLabel target body following) outer = Label 0 (Some body) following [] ∷ outer

-- a state at this code, within these labels, without operands
abbrev pub at : Sequence → List Entry → State → State
at code stack s = record s { code = code; operands = []; stack = stack }

-- `base` is what is below the labels: the function's activation
module _ (base : List Entry) where
  abbrev pub stack_of : List Enclosing → List Entry
  stack_of [] = base
  stack_of (a ∷ k) = entry_label a ∷ stack_of k

  abbrev pub code_at : List Enclosing → (label : ℕ) → Sequence
  code_at [] i = nothing
  code_at (a ∷ k) zero = label_code a
  code_at (a ∷ k) (suc i) = code_at k i

  abbrev pub stack_at : List Enclosing → (label : ℕ) → List Entry
  stack_at [] i = base
  stack_at (a ∷ k) zero = label_stack a (stack_of k)
  stack_at (a ∷ k) (suc i) = stack_at k i

-- the entry after a jump to a block: the dispatch continues in that block
abbrev pub entry_after : Target → (entry block : ℕ) → ℕ
entry_after (ToBlock start) entry block = entry
entry_after ToDispatch entry block = block

abbrev pub entry_at : List Enclosing → (label entry block : ℕ) → ℕ
entry_at [] i entry block = entry
entry_at (a ∷ k) zero entry block = entry_after (target_of a) entry block
entry_at (a ∷ k) (suc i) entry block = entry_at k i entry block

-- ---- credits: how many steps the machine may make before the program makes one

-- where a block begins, at the dispatch, and at the beginning of a loop around it
pub record Credits : Type 0 where
  pub place : ℕ
  pub dispatch : ℕ
  pub again : ℕ

abbrev pub credit_of : Credits → Target → ℕ
credit_of c (ToBlock start) = c.place
credit_of c ToDispatch = c.again

abbrev pub credit_at : Credits → List Enclosing → (label : ℕ) → ℕ
credit_at c [] i = c.place
credit_at c (a ∷ k) zero = credit_of c (target_of a)
credit_at c (a ∷ k) (suc i) = credit_at c k i

-- the step that an instruction before made, if one leads here
abbrev pub lead_of : (edge : Bool) → ℕ
lead_of true = 1
lead_of false = 0

-- what is known of blocks, conditions and the dispatch where they are, as that the blocks in which they continue have a label
pub record Fits : Type 1 where
  pub basic : List Target → (start : Option ℕ) → (block : ℕ) → Type 0
  pub conditional : List Target → (head start : Option ℕ) → (block : ℕ) → Type 0
  pub dispatch : List Target → (start : Option ℕ) → Type 0

module _ (c : Credits) (fits : Fits) where
  -- a loop that begins with the dispatch is around all
  abbrev pub fits_loop : ℕ → Option ℕ → List Target → Type 0
  fits_loop d None ts = (d ≤ c.again) × (ts ≡ [])
  fits_loop d (Some head) ts = d ≤ c.place

  -- within so many steps, one for each block and loop that begins there, the first block begins; and each part fits where it is
  abbrev mutual
    pub IsNested : ℕ → List Target → Option ℕ → Region → Type 0
    IsNested d ts start (Basic block) = fits.basic ts start block
    IsNested d ts start (Conditional block side) =
        fits.conditional ts (first side) start block × AreNested c.place (ToBlock None ∷ ts) None side
    IsNested zero ts start (Labelled inside) = ⊥
    IsNested (suc d) ts start (Labelled inside) = AreNested d (ToBlock start ∷ ts) start inside
    IsNested zero ts start (Repeated inside) = ⊥
    IsNested (suc d) ts start (Repeated inside) = fits_loop d (first inside) ts × AreNested d (loop_target (first inside) ∷ ts) None inside
    IsNested d ts start Dispatch = (c.dispatch ≤ d) × fits.dispatch ts start

    pub AreNested : ℕ → List Target → Option ℕ → Regions → Type 0
    AreNested d ts start none = c.place ≤ d
    AreNested d ts start (r followed_by rest) = IsNested d ts (region_after rest start) r × AreNested c.place ts start rest

-- ---- simulation

-- When a state of the machine, whose code, operands and labels don't matter, represents one of a program that entered its regions in a
-- block; and when the machine's run from a state matches an outcome of the program's from one, within a credit, and where `lead` steps were
-- made before.
pub record Correspondence (m : Module) (F R : Type 0) : Type 1 where
  pub stuck : R
  pub represents : (entry : ℕ) → F → State → Type 0
  pub matches : (credit lead : ℕ) → F → State → R → Type 0
  -- nothing is asked of a program that is stuck, and steps of the machine alone take from the credit and lead
  pub matches_stuck : (credit lead : ℕ) (f : F) (t : State) → matches credit lead f t stuck
  pub matches_before : (k c d x y : ℕ) (f : F) (s t : State) (r : R) → RunsTo m k s t → k + c ≤ d → x ≤ y + k →
      matches c x f t r → matches d y f s r

module _ {m : Module} {F R : Type 0} (w : Correspondence m F R) where
  -- this code simulates this run
  pub record Simulates (credit lead entry : ℕ) (run : F → R) (code : Sequence) (stack : List Entry) : Type 0 where
    pub sim : (f : F) (t : State) → w.represents entry f t → w.matches credit lead f (at code stack t) (run f)

  module _ (base : List Entry) (c : Credits) (again : ℕ → Bool) where
    -- a jump to a block whose label is in scope continues there
    pub record JumpsTo (entry : ℕ) (jump : Jumps F R) (k : List Enclosing) : Type 0 where
      pub to : (block i : ℕ) → label_of again (targets k) block ≡ Some i →
          Simulates (credit_at c k i) 1 (entry_at k i entry block) (jump block) (code_at base k i) (stack_at base k i)

    -- the code of each block, condition and dispatch simulates it, if what it continues in is simulated
    pub record BlocksSimulate (run_block : ℕ → (jump on : Jumps F R) → F → R) (z : BlockCode) (fits : Fits) : Type 0 where
      pub basic : (edge : Bool) (k : List Enclosing) (start : Option ℕ) (block : ℕ) (rest : Sequence) (entry : ℕ) (jump : Jumps F R)
          (following : F → R) → fits.basic (targets k) start block → JumpsTo entry jump k →
          Simulates c.place 0 entry following rest (stack_of base k) →
          Simulates 0 (lead_of edge) entry (run_block block jump (reach start following jump)) (z.basic edge (targets k) start block rest)
          (stack_of base k)
      pub conditional : (edge : Bool) (k : List Enclosing) (start head : Option ℕ) (block : ℕ) (side rest : Sequence) (entry : ℕ)
          (jump : Jumps F R) (inside following : F → R) → fits.conditional (targets k) head start block → JumpsTo entry jump k →
          Simulates c.place 0 entry following rest (stack_of base k) →
          ((others : Sequence) → Simulates c.place 1 entry inside side (stack_of base (BlockLabel (ToBlock None) others ∷ k))) →
          Simulates 0 (lead_of edge) entry (run_block block jump (reach head inside (reach start following jump)))
          (z.conditional edge (targets k) start block side rest) (stack_of base k)
      pub dispatch : (edge : Bool) (k : List Enclosing) (start : Option ℕ) (rest : Sequence) (entry : ℕ) (jump : Jumps F R)
          (following : F → R) → fits.dispatch (targets k) start → JumpsTo entry jump k →
          Simulates c.place 0 entry following rest (stack_of base k) →
          Simulates c.dispatch (lead_of edge) entry (reach start following jump entry) (z.dispatch edge (targets k) start rest)
          (stack_of base k)

-- ---- the correspondence with both bounds

-- how a run of a program ends: with a result, by a halt, with its turns spent, or stuck
pub data Outcome (E F : Type 0) : Type 0 where
  Ends : E → F → Outcome E F
  Stops : Halt → F → Outcome E F
  Spends : F → Outcome E F
  Sticks : Outcome E F

-- How a result, a halt and a run that goes on are seen in the state of the machine; the turns that are left, and the steps of the program,
-- for each of which the machine makes `per` at most.
pub record Measures (E F : Type 0) : Type 1 where
  pub ended : E → F → State → Type 0
  pub stopped : F → State → Type 0
  pub goes_on : F → State → Type 0
  pub turns : F → ℕ
  pub left : F → ℕ
  pub per : ℕ

module _ {E F : Type 0} (m : Module) (r : Measures E F) where
  -- the machine comes to where the result is seen, in at least a step for each turn
  pub record Reaches (credit lead : ℕ) (f : F) (t : State) (e : E) (g : F) : Type 0 where
    pub steps : ℕ
    pub to : State
    pub runs : RunsTo m steps t to
    pub seen : r.ended e g to
    pub low : r.turns f ≤ r.turns g + (lead + steps)
    pub high : steps + r.per * r.left g ≤ r.per * r.left f + credit

  -- it halts so
  pub record Stopping (credit lead : ℕ) (f : F) (t : State) (halt : Halt) (g : F) : Type 0 where
    pub steps : ℕ
    pub to : State
    pub halts : HaltsWith m steps t halt to
    pub seen : r.stopped g to
    pub low : r.turns f ≤ r.turns g + (lead + steps)
    pub high : steps + r.per * r.left g ≤ r.per * r.left f + credit

  -- where the turns are spent it still runs, after as many steps at least
  pub record StillRuns (credit lead : ℕ) (f : F) (t : State) (g : F) : Type 0 where
    pub steps : ℕ
    pub to : State
    pub runs : RunsTo m steps t to
    pub seen : r.goes_on g to
    pub low : r.turns f ≤ lead + steps
    pub high : steps + r.per * r.left g ≤ r.per * r.left f + credit

  abbrev pub Matches : (credit lead : ℕ) → F → State → Outcome E F → Type 0
  Matches credit lead f t (Ends e g) = Reaches credit lead f t e g
  Matches credit lead f t (Stops halt g) = Stopping credit lead f t halt g
  Matches credit lead f t (Spends g) = StillRuns credit lead f t g
  Matches credit lead f t Sticks = Unit {0}
