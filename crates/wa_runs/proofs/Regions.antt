-- Structured control, once for all: the code of regions simulates the run of a program through them, if the code of each block simulates
-- the block. A block and a loop are entered in a step, ends take none, and a jump continues at its label.
use Rattle.std.proofs.Common.{◌≡◌, ℕ, zero, suc, ◌+◌, ◌<◌, ◌≤◌, Bool, true, false, List, [], ◌∷◌, length, Option, Some, None, refl}
use Rattle.std.proofs.Common.{ap, ◌∙◌, arith}
use Rattle.std.specs.Prelude.{if◌then◌else◌, option_map, unwrap_or}
use Rattle.wa_syntax.specs.declared.module.Module.{Module}
use Rattle.wa_syntax.specs.Instructions.{Block, Loop, Br, Sequence, nothing, ◌then◌}
use Rattle.wa_syntax.specs.Machine.{Entry, State, Gives}
use Rattle.wa_syntax.specs.Operations.{branch_in, return_in}
use Rattle.wa_runs.specs.RunsTo.{RunsTo}
use Rattle.wa_runs.specs.Regions.{Region, Basic, Conditional, Labelled, Repeated, Dispatch, Regions, none, ◌followed_by◌, first}
use Rattle.wa_runs.specs.Regions.{region_after, Target, ToBlock, ToDispatch, loop_target, is_target, label_of, Jumps, reach, again_in}
use Rattle.wa_runs.specs.Regions.{run_loop, run_region, run_regions, BlockCode, region_code, regions_code}
use Rattle.wa_runs.specs.Simulation.{Enclosing, BlockLabel, LoopLabel, target_of, targets, at, stack_of, code_at, stack_at, entry_after}
use Rattle.wa_runs.specs.Simulation.{entry_at, Credits, credit_of, credit_at, lead_of, Fits, fits_loop, IsNested, AreNested}
use Rattle.wa_runs.specs.Simulation.{Correspondence, Simulates, JumpsTo, BlocksSimulate}
use Rattle.wa_runs.proofs.Composition.{stays}
use Rattle.wa_runs.proofs.Control.{runs-end, runs-block, runs-loop, runs-br}

-- ---- labels

not-some : {A : Type 0} (a : A) → None ≡ Some a → ⊥
not-some a e = cc

not-nil : (t : Target) (ts : List Target) → t ∷ ts ≡ [] → ⊥
not-nil t ts e = cc

not-next : (i : ℕ) → Some 0 ≡ Some (suc i) → ⊥
not-next i e = let z : 0 ≡ suc i = ap (λ x. unwrap_or x 0) e in omega (arith, z)

not-first : (l : ℕ) → Some (suc l) ≡ Some 0 → ⊥
not-first l e = let z : suc l ≡ 0 = ap (λ x. unwrap_or x 0) e in omega (arith, z)

same-label : (l i : ℕ) → Some (suc l) ≡ Some (suc i) → l ≡ i
same-label l i e = let z : suc l ≡ suc i = ap (λ x. unwrap_or x 0) e in omega (arith, z)

module _ (base : List Entry) where
  -- a branch to a label in scope
  branches : (k : List Enclosing) (i : ℕ) (s : State) → i < length k →
      branch_in i (stack_of base k) s ≡ Gives tt (record s { code = code_at base k i; operands = []; stack = stack_at base k i })
  branches [] i s h = absurd (omega (arith, h))
  branches (BlockLabel target following ∷ k) zero s h = refl
  branches (LoopLabel target body following ∷ k) zero s h = refl
  branches (BlockLabel target following ∷ k) (suc i) s h = branches k i s (omega (arith, h))
  branches (LoopLabel target body following ∷ k) (suc i) s h = branches k i s (omega (arith, h))

  pub runs-to_label : (m : Module) (k : List Enclosing) (i : ℕ) (rest : Sequence) (s : State) → i < length k →
      RunsTo m 1 (at (Br i then rest) (stack_of base k) s) (at (code_at base k i) (stack_at base k i) s)
  runs-to_label m k i rest s h =
      runs-br m i rest (at rest (stack_of base k) s) (at (code_at base k i) (stack_at base k i) s)
      (branches k i (at rest (stack_of base k) s) h)

  -- a return leaves all labels
  pub returns-through : (k : List Enclosing) (s : State) → return_in (stack_of base k) s ≡ return_in base s
  returns-through [] s = refl
  returns-through (BlockLabel target following ∷ k) s = returns-through k s
  returns-through (LoopLabel target body following ∷ k) s = returns-through k s

-- ---- simulation

module _ {m : Module} {F R : Type 0} (w : Correspondence m F R) where
  -- steps of the machine alone
  pub sim-after : (n c d x y entry : ℕ) (run : F → R) (code code' : Sequence) (stack stack' : List Entry) →
      ((t : State) → RunsTo m n (at code stack t) (at code' stack' t)) → n + c ≤ d → x ≤ y + n →
      Simulates w c x entry run code' stack' → Simulates w d y entry run code stack
  sim-after n c d x y entry run code code' stack stack' goes less before h = record {
    sim = λ f t s. w.matches_before n c d x y f (at code stack t) (at code' stack' t) (run f) (goes t) less before (h.sim f t s);
  }

  -- more credit and more lead
  pub sim-more : (c d x y entry : ℕ) (run : F → R) (code : Sequence) (stack : List Entry) → c ≤ d → x ≤ y →
      Simulates w c x entry run code stack → Simulates w d y entry run code stack
  sim-more c d x y entry run code stack less before h =
      sim-after 0 c d x y entry run code code stack stack (λ t. stays) (omega (arith, less)) (omega (arith, before)) h

  pub sim-stuck : (c x entry : ℕ) (code : Sequence) (stack : List Entry) → Simulates w c x entry (λ f. w.stuck) code stack
  sim-stuck c x entry code stack = record { sim = λ f t s. w.matches_stuck c x f (at code stack t) }

  module _ (base : List Entry) (c : Credits) (again : ℕ → Bool) where
    -- ---- jumps

    no-jumps : (entry : ℕ) (jump : Jumps F R) → JumpsTo w base c again entry jump []
    no-jumps entry jump = record { to = λ block i e. absurd (not-some i e) }

    -- what a jump to the target of the innermost label does
    abbrev Innermost : (entry : ℕ) (inner : Jumps F R) (a : Enclosing) (k : List Enclosing) (block : ℕ) → Type 0
    Innermost entry inner a k block =
        Simulates w (credit_of c (target_of a)) 1 (entry_after (target_of a) entry block) (inner block) (code_at base (a ∷ k) 0)
        (stack_at base (a ∷ k) 0)

    jumps-by : (entry block : ℕ) (inner jump : Jumps F R) (a : Enclosing) (k : List Enclosing) → Innermost entry inner a k block →
        JumpsTo w base c again entry jump k → (b : Bool) (o : Option ℕ) → label_of again (targets k) block ≡ o → (i : ℕ) →
        (if b then Some 0 else option_map suc o) ≡ Some i →
        Simulates w (credit_at c (a ∷ k) i) 1 (entry_at (a ∷ k) i entry block) (if b then inner block else jump block)
        (code_at base (a ∷ k) i) (stack_at base (a ∷ k) i)
    jumps-by entry block inner jump a k h j true o e zero is = h
    jumps-by entry block inner jump a k h j true o e (suc i) is = absurd (not-next i is)
    jumps-by entry block inner jump a k h j false None e i is = absurd (not-some i is)
    jumps-by entry block inner jump a k h j false (Some l) e zero is = absurd (not-first l is)
    jumps-by entry block inner jump a k h j false (Some l) e (suc i) is = j.to block i (e ∙ ap Some (same-label l i is))

    -- one label further in: a jump to its target, and else a jump outside
    pub jumps-in : (entry : ℕ) (inner jump : Jumps F R) (a : Enclosing) (k : List Enclosing) →
        ((block : ℕ) → Innermost entry inner a k block) → JumpsTo w base c again entry jump k →
        JumpsTo w base c again entry (λ block. if is_target again (target_of a) block then inner block else jump block) (a ∷ k)
    jumps-in entry inner jump a k h j = record {
      to = λ block i is.
          jumps-by entry block inner jump a k (h block) j (is_target again (target_of a) block) (label_of again (targets k) block) refl i
          is;
    }

    -- ---- loops

    module _ (fits : Fits) (level : ℕ) where
      -- one that begins with a block
      rounds : (n d head : ℕ) (inside : ℕ → Jumps F R → F → R) (body rest : Sequence) (k : List Enclosing) (entry : ℕ) (jump : Jumps F R) →
          d ≤ c.place → JumpsTo w base c again entry jump k →
          ((to : Jumps F R) → JumpsTo w base c again entry to (LoopLabel (ToBlock (Some head)) body rest ∷ k) →
          Simulates w d 1 entry (inside entry to) body (stack_of base (LoopLabel (ToBlock (Some head)) body rest ∷ k))) →
          Simulates w d 1 entry (run_loop w.stuck again n (Some head) inside entry jump) body
          (stack_of base (LoopLabel (ToBlock (Some head)) body rest ∷ k))
      rounds zero d head inside body rest k entry jump less j h =
          sim-stuck d 1 entry body (stack_of base (LoopLabel (ToBlock (Some head)) body rest ∷ k))
      rounds (suc n) d head inside body rest k entry jump less j h =
          let label = LoopLabel (ToBlock (Some head)) body rest in
          let anew = run_loop w.stuck again n (Some head) inside entry jump in
          let once = rounds n d head inside body rest k entry jump less j h in
          h (again_in w.stuck again (Some head) (λ e. run_loop w.stuck again n (Some head) inside e jump) entry jump)
          (jumps-in entry (λ block. anew) jump label k
          (λ block. sim-more d c.place 1 1 entry anew body (stack_of base (label ∷ k)) less (omega arith) once) j)

      -- one that begins with the dispatch, and is around all
      dispatch-rounds : (n d : ℕ) (inside : ℕ → Jumps F R → F → R) (body rest : Sequence) (jump : Jumps F R) → d ≤ c.again →
          ((e : ℕ) (to : Jumps F R) → JumpsTo w base c again e to (LoopLabel ToDispatch body rest ∷ []) →
          Simulates w d 1 e (inside e to) body (stack_of base (LoopLabel ToDispatch body rest ∷ []))) → (entry : ℕ) →
          Simulates w d 1 entry (run_loop w.stuck again n None inside entry jump) body (stack_of base (LoopLabel ToDispatch body rest ∷ []))
      dispatch-rounds zero d inside body rest jump less h entry =
          sim-stuck d 1 entry body (stack_of base (LoopLabel ToDispatch body rest ∷ []))
      dispatch-rounds (suc n) d inside body rest jump less h entry =
          let label = LoopLabel ToDispatch body rest in
          h entry (again_in w.stuck again None (λ e. run_loop w.stuck again n None inside e jump) entry jump)
          (jumps-in entry (λ block. run_loop w.stuck again n None inside block jump) jump label []
          (λ block.
          sim-more d c.again 1 1 block (run_loop w.stuck again n None inside block jump) body (stack_of base (label ∷ [])) less
          (omega arith) (dispatch-rounds n d inside body rest jump less h block))
          (no-jumps entry jump))

      loop-sim : (head : Option ℕ) (d : ℕ) (inside : ℕ → Jumps F R → F → R) (body rest : Sequence) (k : List Enclosing) (entry : ℕ)
          (jump : Jumps F R) → fits_loop c fits d head (targets k) → JumpsTo w base c again entry jump k →
          ((e : ℕ) (to : Jumps F R) → JumpsTo w base c again e to (LoopLabel (loop_target head) body rest ∷ k) →
          Simulates w d 1 e (inside e to) body (stack_of base (LoopLabel (loop_target head) body rest ∷ k))) →
          Simulates w d 1 entry (run_loop w.stuck again level head inside entry jump) body
          (stack_of base (LoopLabel (loop_target head) body rest ∷ k))
      loop-sim (Some head) d inside body rest k entry jump fit j h = rounds level d head inside body rest k entry jump fit j (h entry)
      loop-sim None d inside body rest [] entry jump fit j h = dispatch-rounds level d inside body rest jump fit.0 h entry
      loop-sim None d inside body rest (a ∷ k) entry jump fit j h = absurd (not-nil (target_of a) (targets k) fit.1)

      -- ---- regions

      module _ (run_block : ℕ → (jump on : Jumps F R) → F → R) (z : BlockCode)
          (blocks : BlocksSimulate w base c again run_block z fits) where
        mutual
          region-sim : (r : Region) (edge : Bool) (d : ℕ) (k : List Enclosing) (start : Option ℕ) (entry : ℕ) →
              IsNested c fits d (targets k) start r → (rest : Sequence) (jump : Jumps F R) (following : F → R) →
              JumpsTo w base c again entry jump k → Simulates w c.place 0 entry following rest (stack_of base k) →
              Simulates w d (lead_of edge) entry (run_region w.stuck again run_block level entry r jump start following)
              (region_code z edge (targets k) start r rest) (stack_of base k)
          region-sim (Basic block) edge d k start entry nested rest jump following j h =
              sim-more 0 d (lead_of edge) (lead_of edge) entry (run_block block jump (reach start following jump))
              (z.basic edge (targets k) start block rest) (stack_of base k) (omega arith) (omega arith)
              (blocks.basic edge k start block rest entry jump following nested j h)
          region-sim (Conditional block side) edge d k start entry nested rest jump following j h =
              let inside = run_regions w.stuck again run_block level entry side jump None (λ f. w.stuck) in
              let code = regions_code z true (ToBlock None ∷ targets k) None side nothing in
              sim-more 0 d (lead_of edge) (lead_of edge) entry
              (run_block block jump (reach (first side) inside (reach start following jump)))
              (z.conditional edge (targets k) start block code rest) (stack_of base k) (omega arith) (omega arith)
              (blocks.conditional edge k start (first side) block code rest entry jump inside following nested.0 j h
              (λ others.
              (let label = BlockLabel (ToBlock None) others in
              regions-sim side true c.place (label ∷ k) None entry nested.1 nothing jump (λ f. w.stuck)
              (jumps-in entry (λ target f. w.stuck) jump label k (λ target. sim-stuck c.place 1 entry others (stack_of base k)) j)
              (sim-stuck c.place 0 entry nothing (stack_of base (label ∷ k))))))
          region-sim (Labelled inside) edge zero k start entry nested rest jump following j h = absurd nested
          region-sim (Labelled inside) edge (suc d) k start entry nested rest jump following j h =
              let label = BlockLabel (ToBlock start) rest in
              let body = regions_code z true (ToBlock start ∷ targets k) start inside nothing in
              let outer = stack_of base k in
              let inner = stack_of base (label ∷ k) in
              let ends =
              sim-after 0 c.place c.place 0 0 entry following nothing rest inner outer
              (λ t. runs-end (at nothing inner t) 0 None rest [] outer) (omega arith) (omega arith) h in
              let jumped = sim-more c.place c.place 0 1 entry following rest outer (omega arith) (omega arith) h in
              sim-after 1 d (suc d) 1 (lead_of edge) entry
              (run_region w.stuck again run_block level entry (Labelled inside) jump start following)
              (Block None body then rest) body outer inner (λ t. runs-block (at body outer t) None body rest) (omega arith) (omega arith)
              (regions-sim inside true d (label ∷ k) start entry nested nothing (reach start following jump) following
              (jumps-in entry (λ block. following) jump label k (λ block. jumped) j) ends)
          region-sim (Repeated inside) edge zero k start entry nested rest jump following j h = absurd nested
          region-sim (Repeated inside) edge (suc d) k start entry nested rest jump following j h =
              let body = regions_code z true (loop_target (first inside) ∷ targets k) None inside nothing in
              let label = LoopLabel (loop_target (first inside)) body rest in
              let outer = stack_of base k in
              let inner = stack_of base (label ∷ k) in
              sim-after 1 d (suc d) 1 (lead_of edge) entry
              (run_region w.stuck again run_block level entry (Repeated inside) jump start following)
              (Loop None body then rest) body outer inner (λ t. runs-loop (at body outer t) None body rest) (omega arith) (omega arith)
              (loop-sim (first inside) d (λ e to. run_regions w.stuck again run_block level e inside to None (λ f. w.stuck)) body rest k
              entry jump nested.0 j
              (λ e to i.
              regions-sim inside true d (label ∷ k) None e nested.1 nothing to (λ f. w.stuck) i (sim-stuck c.place 0 e nothing inner)))
          region-sim Dispatch edge d k start entry nested rest jump following j h =
              sim-more c.dispatch d (lead_of edge) (lead_of edge) entry (reach start following jump entry)
              (z.dispatch edge (targets k) start rest) (stack_of base k) nested.0 (omega arith)
              (blocks.dispatch edge k start rest entry jump following nested.1 j h)

          pub regions-sim : (rs : Regions) (edge : Bool) (d : ℕ) (k : List Enclosing) (start : Option ℕ) (entry : ℕ) →
              AreNested c fits d (targets k) start rs → (rest : Sequence) (jump : Jumps F R) (following : F → R) →
              JumpsTo w base c again entry jump k → Simulates w c.place 0 entry following rest (stack_of base k) →
              Simulates w d (lead_of edge) entry (run_regions w.stuck again run_block level entry rs jump start following)
              (regions_code z edge (targets k) start rs rest) (stack_of base k)
          regions-sim none edge d k start entry nested rest jump following j h =
              sim-more c.place d 0 (lead_of edge) entry following rest (stack_of base k) nested (omega arith) h
          regions-sim (r followed_by more) edge d k start entry nested rest jump following j h =
              region-sim r edge d k (region_after more start) entry nested.0 (regions_code z false (targets k) start more rest) jump
              (run_regions w.stuck again run_block level entry more jump start following) j
              (regions-sim more false c.place k start entry nested.1 rest jump following j h)
