-- Structured control: blocks of a program by their numbers, as nested blocks, loops and conditions (regions); how a program runs through
-- regions, and their code. What a state and a block of the program are is left open.
use Rattle.std.specs.Prelude.{ℕ, zero, suc, Bool, true, false, ◌==◌, if◌then◌else◌, List, [], ◌∷◌, Option, Some, None, option_map}
use Rattle.std.specs.Option.{option_map_or}
use Rattle.wa_syntax.specs.Instructions.{Block, Loop, Sequence, nothing, ◌then◌}

-- A block; one that ends in a condition, with a side for where it holds; regions in a block of code whose end is where the next region
-- begins; regions in a loop; and the dispatch, which continues in the block in which the program enters the regions.
infixr 6 ◌followed_by◌
mutual
  pub data Region : Type 0 where
    Basic : (block : ℕ) → Region
    Conditional : (block : ℕ) → Regions → Region
    Labelled Repeated : Regions → Region
    Dispatch : Region

  pub data Regions : Type 0 where
    none : Regions
    ◌followed_by◌ : Region → Regions → Regions

-- the block that they begin with; the dispatch begins with none
abbrev mutual
  pub first_of : Region → Option ℕ
  first_of (Basic block) = Some block
  first_of (Conditional block side) = Some block
  first_of (Labelled inside) = first inside
  first_of (Repeated inside) = first inside
  first_of Dispatch = None

  pub first : Regions → Option ℕ
  first none = None
  first (r followed_by rest) = first_of r

-- the block that begins after a region
abbrev pub region_after : Regions → Option ℕ → Option ℕ
region_after none following = following
region_after (r followed_by rest) following = first_of r

abbrev pub begins : Option ℕ → ℕ → Bool
begins start block = option_map_or (λ other. other == block) start false

-- ---- labels

-- what is jumped to by a label: a block, if any, or the dispatch
pub data Target : Type 0 where
  ToBlock : (start : Option ℕ) → Target
  ToDispatch : Target

-- a loop begins with a block, or with the dispatch
abbrev pub loop_target : Option ℕ → Target
loop_target None = ToDispatch
loop_target (Some head) = ToBlock (Some head)

-- `again` says which blocks are reached again by the dispatch
module _ (again : ℕ → Bool) where
  abbrev pub is_target : Target → ℕ → Bool
  is_target (ToBlock start) block = begins start block
  is_target ToDispatch block = again block

  -- the label by which a block is jumped to, counted outwards
  abbrev pub label_of : List Target → ℕ → Option ℕ
  label_of [] block = None
  label_of (t ∷ ts) block = if is_target t block then Some 0 else option_map suc (label_of ts block)

-- ---- the run of a program through its regions: from a state to an outcome

-- what a jump to a block does at a point
abbrev pub Jumps : (F R : Type 0) → Type 0
Jumps F R = ℕ → F → R

-- what begins here, where that is the block, and else a jump
abbrev pub reach : {F R : Type 0} → Option ℕ → (F → R) → Jumps F R → Jumps F R
reach start following jump block = if begins start block then following else jump block

module _ {F R : Type 0} (stuck : R) (again : ℕ → Bool) where
  -- a jump to the block that a loop begins with begins it anew, from the same entry; where it begins with the dispatch, a jump to a block
  -- that is reached again does, and that block is the entry then
  abbrev pub again_in : Option ℕ → (anew : ℕ → F → R) → (entry : ℕ) → Jumps F R → Jumps F R
  again_in None anew entry jump block = if again block then anew block else jump block
  again_in (Some head) anew entry jump block = reach (Some head) (anew entry) jump block

  -- a loop, begun at most as often as the level says
  abbrev pub run_loop : (level : ℕ) → Option ℕ → (inside : ℕ → Jumps F R → F → R) → (entry : ℕ) → Jumps F R → F → R
  run_loop zero head inside entry jump = λ f. stuck
  run_loop (suc level) head inside entry jump = inside entry (again_in head (λ e. run_loop level head inside e jump) entry jump)

  -- `run_block` runs a block, given what a jump does in it and where its end leads on
  module _ (run_block : ℕ → (jump on : Jumps F R) → F → R) (level : ℕ) where
    abbrev mutual
      pub run_region : (entry : ℕ) → Region → Jumps F R → Option ℕ → (F → R) → F → R
      run_region entry (Basic block) jump start following = run_block block jump (reach start following jump)
      run_region entry (Conditional block side) jump start following =
          run_block block jump (reach (first side) (run_regions entry side jump None (λ f. stuck)) (reach start following jump))
      run_region entry (Labelled inside) jump start following = run_regions entry inside (reach start following jump) start following
      run_region entry (Repeated inside) jump start following =
          run_loop level (first inside) (λ e to. run_regions e inside to None (λ f. stuck)) entry jump
      run_region entry Dispatch jump start following = reach start following jump entry

      pub run_regions : (entry : ℕ) → Regions → Jumps F R → Option ℕ → (F → R) → F → R
      run_regions entry none jump start following = following
      run_regions entry (r followed_by rest) jump start following =
          run_region entry r jump (region_after rest start) (run_regions entry rest jump start following)

-- ---- their code

-- The code of a block, of one with a side for its condition, and of the dispatch, from the targets of the labels in scope, the block that
-- begins after it, and the code after it. `edge` says whether an instruction leads there, as at the beginning of a block, a loop and a
-- side.
pub record BlockCode : Type 0 where
  pub basic : (edge : Bool) → List Target → (start : Option ℕ) → (block : ℕ) → (rest : Sequence) → Sequence
  pub conditional : (edge : Bool) → List Target → (start : Option ℕ) → (block : ℕ) → (side rest : Sequence) → Sequence
  pub dispatch : (edge : Bool) → List Target → (start : Option ℕ) → (rest : Sequence) → Sequence

module _ (z : BlockCode) where
  abbrev mutual
    pub region_code : (edge : Bool) → List Target → Option ℕ → Region → Sequence → Sequence
    region_code edge ts start (Basic block) rest = z.basic edge ts start block rest
    region_code edge ts start (Conditional block side) rest =
        z.conditional edge ts start block (regions_code true (ToBlock None ∷ ts) None side nothing) rest
    region_code edge ts start (Labelled inside) rest = Block None (regions_code true (ToBlock start ∷ ts) start inside nothing) then rest
    region_code edge ts start (Repeated inside) rest =
        Loop None (regions_code true (loop_target (first inside) ∷ ts) None inside nothing) then rest
    region_code edge ts start Dispatch rest = z.dispatch edge ts start rest

    pub regions_code : (edge : Bool) → List Target → Option ℕ → Regions → Sequence → Sequence
    regions_code edge ts start none rest = rest
    regions_code edge ts start (r followed_by more) rest =
        region_code edge ts (region_after more start) r (regions_code false ts start more rest)
