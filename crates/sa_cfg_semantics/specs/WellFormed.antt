-- Control-flow graphs whose numbers are in range, whose sizes have bounds, and which read no variable that doesn't exist.
use Rattle.std.specs.Prelude.{◌≡◌, ◌≢◌, ℕ, ◌+◌, ◌-◌, ◌<◌, ◌≤◌, ◌↔◌, Bool, false, IsTrue, List, [], ◌∷◌, map, length, take}
use Rattle.std.specs.Prelude.{drop, slice_get, sum_by, unwrap_or, All, AllPairs, Contains, Some, None, IfSome, is_some}
use Rattle.std.specs.Option.{option_map_or}
use Rattle.sa_ast.specs.declared.class.ClassKind.{ClassKind}
use Rattle.sa_ast.specs.declared.class.ClassKind.TheVariants as kind
use Rattle.sa_dispatch.specs.Implementations.{first_of}
use Rattle.sa_dispatch.specs.Rising.{IsRising}
use Rattle.sa_cfg.specs.declared.body.BasicBlock.{BasicBlock}
use Rattle.sa_cfg.specs.declared.body.CfgBody.{CfgBody}
use Rattle.sa_cfg.specs.declared.call.CallTarget.{CallTarget}
use Rattle.sa_cfg.specs.declared.call.CallTarget.TheVariants.{Body, Dispatch, Bound}
use Rattle.sa_cfg.specs.declared.program.BoundLayout.{BoundLayout}
use Rattle.sa_cfg.specs.declared.program.CfgProgram.{CfgProgram}
use Rattle.sa_cfg.specs.declared.program.TypeLayout.{TypeLayout}
use Rattle.sa_cfg.specs.declared.operation.CfgOperation.{CfgOperation}
use Rattle.sa_cfg.specs.declared.operation.CfgOperation.TheVariants.{Call, Start, Resume, Enter}
use Rattle.sa_liveness.specs.Saved.{resume_of, IsLive, IsSaved}
use Rattle.sa_semantics.specs.Value.{bool_type, int_type, char_type, str_type, fault_type}
use Rattle.sa_cfg_semantics.specs.Calls.{width}
use Rattle.sa_cfg_semantics.specs.Faults.{is_adapter}
use Rattle.sa_cfg_semantics.specs.InRange.{IsType, CanEnter, IsCallTarget, IsWellFormedBlock}

-- ---- adapters

module _ (p : CfgProgram) where
  abbrev pub has_feature : ℕ → Bool
  has_feature k = option_map_or (λ b. is_some b.feature) (slice_get p.bodies k) false

  abbrev pub ReachesFeature : CallTarget → Type 0
  ReachesFeature (Body k) = IsTrue (has_feature k)
  ReachesFeature (Dispatch k) = ⊥
  ReachesFeature Bound = ⊥
  ReachesFeature _ = Unit {0}

  -- It has no dispatched call and no call of a bound value, and the bodies that it enters have features.
  abbrev pub EntersFeatures : CfgOperation → Type 0
  EntersFeatures (Call plan) = ReachesFeature plan.callee
  EntersFeatures (Start site plan quit) = ReachesFeature plan.callee
  EntersFeatures (Resume site plan quit) = ReachesFeature plan.callee
  EntersFeatures (Enter body recv args value quit) = IsTrue (has_feature body)
  EntersFeatures _ = Unit {0}

  abbrev pub IsAdapter : CfgBody → Type 0
  IsAdapter b = All (λ block. All EntersFeatures block.steps) b.blocks

  -- either all bodies have features, or none has one
  abbrev pub AreAlike : List ℕ → Type 0
  AreAlike bodies = AllPairs (λ a b. has_feature a ≡ has_feature b) bodies

-- ---- variables over suspensions

-- a block in which a resumption goes on
pub record IsResumed (b : CfgBody) (resumed : BasicBlock) : Type 0 where
  pub suspending : BasicBlock
  pub is_block : Contains b.blocks suspending
  pub to : ℕ
  pub goes_on : Contains (resume_of suspending.exit) to
  pub is_resumed : slice_get b.blocks to ≡ Some resumed

-- After a resumption each temporary is set before it is read.
abbrev pub SetsTemporaries : CfgBody → Type 0
SetsTemporaries b = (resumed : BasicBlock) (v : ℕ) → IsResumed b resumed → 200 ≤ v → ¬ (IsLive b v resumed.steps resumed.exit)

-- the list of the saved variables
pub record HasSaved (b : CfgBody) : Type 0 where
  pub rises : IsRising b.saved
  pub has : (v : ℕ) → Contains b.saved v ↔ IsSaved b v

-- ---- types of the language

pub record HasType (p : CfgProgram) (ty : ℕ) (kind : ClassKind) (attrs : List ℕ) : Type 0 where
  pub layout : TypeLayout
  pub is_layout : slice_get p.layouts ty ≡ Some layout
  pub kind_is : layout.kind ≡ kind
  pub attributes : layout.attrs ≡ attrs
  pub no_array : layout.array ≡ false

pub record HasBaseTypes (p : CfgProgram) : Type 0 where
  pub bool : HasType p bool_type kind.Immutable []
  pub int : HasType p int_type kind.Immutable []
  pub char : HasType p char_type kind.Immutable []
  pub str : HasType p str_type kind.Reference []
  -- its attributes are the kind and the line
  pub fault : HasType p fault_type kind.Reference (int_type ∷ int_type ∷ [])

-- ---- parts of a program

module _ (p : CfgProgram) (rows : List (List ℕ)) where
  -- the body at the index k
  pub record IsWellFormedBody (k : ℕ) (b : CfgBody) : Type 0 where
    -- a feature and its body have the same index
    pub feature : IfSome b.feature (λ feature. feature ≡ k)
    pub formals : All (λ f. IsType p f.ty) b.formals
    pub own : length b.formals ≤ b.variable_count
    pub kept : HasSaved b
    pub temporaries : SetsTemporaries b
    pub begins : 0 < length b.blocks
    pub blocks : All (IsWellFormedBlock p rows b) b.blocks
    pub made : IsTrue (is_adapter p k) → IsAdapter p b
    pub few_variables : width b + b.sites ≤ 900000
    pub few_blocks : length b.blocks ≤ 8000000

  abbrev pub IsWellFormedBinding : BoundLayout → Type 0
  IsWellFormedBinding e = IsType p e.ty × IsType p e.class × IsCallTarget p rows e.class e.callee

  -- the bodies of the implementations of a signature
  abbrev pub targets_of : ℕ → List ℕ
  targets_of k = take (length (unwrap_or (slice_get rows k) [])) (drop (first_of rows k) p.targets)

abbrev pub IsWellFormedLayout : CfgProgram → TypeLayout → Type 0
IsWellFormedLayout p t = All (IsType p) t.attrs × IfSome t.elem (IsType p) × All (IsType p) t.above

-- ---- programs

pub record IsWellFormedCfg (p : CfgProgram) (rows : List (List ℕ)) : Type 0 where
  pub bodies : (k : ℕ) (b : CfgBody) → slice_get p.bodies k ≡ Some b → IsWellFormedBody p rows k b
  pub layouts : All (IsWellFormedLayout p) p.layouts
  pub base : HasBaseTypes p
  pub attributes : p.types ≡ map (λ t. length t.attrs) p.layouts
  pub shareds : All (IsType p) p.shareds
  pub binds : All (IsWellFormedBinding p rows) p.binds
  pub dispatched : All (All (IsType p)) rows
  pub targets : length p.targets ≡ sum_by length rows
  pub entered : All (CanEnter p) p.targets
  pub alike : (k : ℕ) → k < length rows → AreAlike p (targets_of p rows k)
  pub begins : 0 < length p.bodies
  pub last : (b : CfgBody) → slice_get p.bodies (length p.bodies - 1) ≡ Some b → b.feature ≡ None
  pub few_bodies : length p.bodies ≤ 400000
  pub few_shareds : length p.shareds ≤ 200000
  pub distinct : AllPairs ◌≢◌ p.texts
  pub few_bytes : sum_by length p.texts ≤ 8388608
