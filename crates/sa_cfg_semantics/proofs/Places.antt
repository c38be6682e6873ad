-- A run from an index in a block begins with what is there.
use Rattle.std.proofs.Common.{◌≡◌, ℕ, ◌-◌, nat_le, Bool, true, false, if◌then◌else◌, List, slice_get, Option, Some, None, refl, ap, ◌∙◌}
use Rattle.sa_cfg.specs.declared.body.BasicBlock.{BasicBlock}
use Rattle.sa_cfg.specs.declared.program.CfgProgram.{CfgProgram}
use Rattle.sa_cfg.specs.declared.operation.CfgOperation.{CfgOperation}
use Rattle.sa_semantics.specs.Sequence.{resolve_outcome, resolve, ◌>>=◌, stop, or_stuck, at_index, Normal, GoesWrong}
use Rattle.sa_cfg_semantics.specs.Frames.{State, Cause}
use Rattle.sa_cfg_semantics.specs.Counting.{Eval}
use Rattle.sa_cfg_semantics.specs.Terminators.{exit}
use Rattle.sa_cfg_semantics.specs.Run.{this_block, next, run_next, run_from}
use Rattle.sa_cfg_semantics.specs.Law.{RunsOperations, RunsTerminators}
use Rattle.sa_cfg_semantics.specs.BlockParts.{HasBlock}

counted_alike : {A : Type 0} (b : Bool) (s t : State) (f g : Eval A) → f t ≡ g t → resolve_outcome {A = Unit {0}} (if b then Normal tt t else GoesWrong s) (λ _. f) stop ≡ resolve_outcome {A = Unit {0}} (if b then Normal tt t else GoesWrong s) (λ _. g) stop
counted_alike true s t f g e = e
counted_alike false s t f g e = refl

found : {A : Type 0} (list : List A) (place : ℕ) (a : A) (s : State) → slice_get list place ≡ Some a → at_index {C = Cause} list place s ≡ Normal a s
unfolding or_stuck
found list place a s e = ap (λ o. or_stuck o s) e

found_block : (p : CfgProgram) (block : ℕ) (b : BasicBlock) (s : State) → HasBlock p s.here.body block b → this_block p block s ≡ Normal b s
unfolding resolve
found_block p block b s h = ap (λ o. resolve_outcome o (λ b. at_index b.blocks block) stop) (found p.bodies s.here.body h.within s h.body_is) ∙ found h.within.blocks block b s h.block_is

module _ (p : CfgProgram) (rows : List (List ℕ)) (level : ℕ) where
  from_block : (block place : ℕ) (b : BasicBlock) (a : Option CfgOperation) (s : State) → HasBlock p s.here.body block b → slice_get b.steps place ≡ a →
      (this_block p block >>= (λ b. run_next p rows (run_from p rows level) b (slice_get b.steps place) >>= next (run_from p rows level) block place)) s
      ≡ (run_next p rows (run_from p rows level) b a >>= next (run_from p rows level) block place) s
  unfolding resolve
  from_block block place b a s h e =
      ap (λ o. resolve_outcome o (λ b. run_next p rows (run_from p rows level) b (slice_get b.steps place) >>= next (run_from p rows level) block place) stop) (found_block p block b s h)
      ∙ ap (λ a. (run_next p rows (run_from p rows level) b a >>= next (run_from p rows level) block place) s) e

-- with one CFG step less
abbrev after_one : State → State
after_one s = record s { steps = s.steps - 1 }

module _ (p : CfgProgram) (rows : List (List ℕ)) where
  pub runs_steps : RunsOperations p rows
  unfolding resolve
  runs_steps level block place a s h = counted_alike (nat_le 1 s.steps) s (after_one s) _ _ (from_block p rows level block place h.0 (Some a) (after_one s) h.1 h.2)

  pub runs_exits : RunsTerminators p rows
  unfolding resolve
  runs_exits level block place e s h = counted_alike (nat_le 1 s.steps) s (after_one s) _ _
      (from_block p rows level block place h.0 None (after_one s) h.1 h.2 ∙ ap (λ e. (exit p e >>= next (run_from p rows level) block place) (after_one s)) h.3)
