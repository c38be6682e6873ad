-- That the numbers in operations and terminators name something, and that lines and kinds of faults are such.
use Rattle.std.specs.Prelude.{◌≡◌, ℕ, ◌+◌, ◌-◌, ◌<◌, ◌≤◌, List, length, slice_get, All, Some, IfSome}
use Rattle.sa_ast.specs.declared.fault_kind.FaultKind.{FaultKind}
use Rattle.sa_ast.specs.declared.fault_kind.FaultKind.TheVariants as fault_kind
use Rattle.sa_cfg.specs.declared.body.BasicBlock.{BasicBlock}
use Rattle.sa_cfg.specs.declared.body.CfgBody.{CfgBody}
use Rattle.sa_cfg.specs.declared.call.CallTarget.{CallTarget}
use Rattle.sa_cfg.specs.declared.call.CallTarget.TheVariants.{Body, Builtin, Get, Set, GetShared, SetShared, Dispatch, Bound}
use Rattle.sa_cfg.specs.declared.call.CallOperation.{CallOperation}
use Rattle.sa_cfg.specs.declared.call.FaultExit.{FaultExit}
use Rattle.sa_cfg.specs.declared.call.CallOperand.{CallOperand}
use Rattle.sa_cfg.specs.declared.call.Handler.{Handler}
use Rattle.sa_cfg.specs.declared.program.CfgProgram.{CfgProgram}
use Rattle.sa_cfg.specs.declared.program.TypeLayout.{TypeLayout}
use Rattle.sa_cfg.specs.declared.operation.Constant.{Constant}
use Rattle.sa_cfg.specs.declared.operation.Constant.TheVariants as const
use Rattle.sa_cfg.specs.declared.operation.Terminator.{Terminator}
use Rattle.sa_cfg.specs.declared.operation.Terminator.TheVariants.{Jump, Branch, Return, Suspend, Quit, Raise, Fault}
use Rattle.sa_cfg.specs.declared.operation.CfgOperation.{CfgOperation}
use Rattle.sa_cfg.specs.declared.operation.CfgOperation.TheVariants.{Const, Move, SelfRef, IsVoid, Turn, New, NewArray, SetElement, Box}
use Rattle.sa_cfg.specs.declared.operation.CfgOperation.TheVariants.{BoxFor, Unbox, TypeIs, CheckNotVoid, InitShared, Call, Bind}
use Rattle.sa_cfg.specs.declared.operation.CfgOperation.TheVariants.{HasInstance, Start, Resume, HasFrame, Enter, Release, SetException}
use Rattle.sa_cfg_semantics.specs.Calls.{width}

-- ---- numbers of a program

module _ (p : CfgProgram) where
  abbrev pub IsType : ℕ → Type 0
  IsType ty = ty < length p.layouts

  -- the number of a body that can be entered: the last one can't
  abbrev pub CanEnter : ℕ → Type 0
  CanEnter k = k + 1 < length p.bodies

  abbrev pub IsShared : ℕ → Type 0
  IsShared k = k < length p.shareds

  abbrev pub HasAttribute : ℕ → ℕ → Type 0
  HasAttribute class a = (t : TypeLayout) × (slice_get p.layouts class ≡ Some t) × (a < length t.attrs)

  -- the index of a position, or 0 where the program has none
  abbrev pub IsPositionIndex : ℕ → Type 0
  IsPositionIndex place = place ≤ length p.positions - 1

  abbrev pub IsConstant : Constant → Type 0
  IsConstant (const.Void ty) = IsType ty
  IsConstant (const.Text text) = text < length p.texts
  IsConstant _ = Unit {0}

  abbrev pub IsCallTarget : List (List ℕ) → ℕ → CallTarget → Type 0
  IsCallTarget rows class (Body k) = CanEnter k
  IsCallTarget rows class (Builtin f) = Unit {0}
  IsCallTarget rows class (Get a) = HasAttribute class a
  IsCallTarget rows class (Set a) = HasAttribute class a
  IsCallTarget rows class (GetShared k) = IsShared k
  IsCallTarget rows class (SetShared k) = IsShared k
  IsCallTarget rows class (Dispatch k) = k < length rows
  IsCallTarget rows class Bound = Unit {0}

-- ---- numbers of a body

module _ (b : CfgBody) where
  abbrev pub IsVariable : ℕ → Type 0
  IsVariable var = var < width b

  abbrev pub IsBlock : ℕ → Type 0
  IsBlock block = block < length b.blocks

  abbrev pub IsSite : ℕ → Type 0
  IsSite site = site < b.sites

  abbrev pub IsHandler : Handler → Type 0
  IsHandler to = IsBlock to.block × IsVariable to.value × IsVariable to.place × IsVariable to.kind

  abbrev pub IsArgument : CallOperand → Type 0
  IsArgument a = IfSome a.var IsVariable

-- ---- faults

-- no branch fits, no value is returned, or what is asserted is false
abbrev pub IsOfStatement : FaultKind → Type 0
IsOfStatement fault_kind.NoBranch = Unit {0}
IsOfStatement fault_kind.NoReturn = Unit {0}
IsOfStatement fault_kind.Assert = Unit {0}
IsOfStatement _ = ⊥

-- ---- operations and terminators

module _ (p : CfgProgram) (rows : List (List ℕ)) (b : CfgBody) where
  abbrev pub IsFaultExit : FaultExit → Type 0
  IsFaultExit fail = IsPositionIndex p fail.place × (fail.line ≤ 2147483647) × IsHandler b fail.raised

  pub record IsCallOperation (plan : CallOperation) : Type 0 where
    pub callee : IsCallTarget p rows plan.class plan.callee
    pub class : IsType p plan.class
    pub receiver : IsVariable b plan.recv
    pub arguments : All (IsArgument b) plan.args
    pub value : IfSome plan.value (IsVariable b)
    pub fail : IsFaultExit plan.fail

  abbrev pub IsOperation : CfgOperation → Type 0
  IsOperation (Const to value) = IsVariable b to × IsConstant p value
  IsOperation (Move to from) = IsVariable b to × IsVariable b from
  IsOperation (SelfRef to) = IsVariable b to
  IsOperation (IsVoid to from) = IsVariable b to × IsVariable b from
  IsOperation Turn = Unit {0}
  IsOperation (New to ty fail) = IsVariable b to × IsType p ty × IsFaultExit fail
  IsOperation (NewArray to ty count fail) = IsVariable b to × IsType p ty × IsVariable b count × IsFaultExit fail
  IsOperation (SetElement array ty at value) = IsVariable b array × IsType p ty × IsVariable b at × IsVariable b value
  IsOperation (Box to from ty fail) = IsVariable b to × IsVariable b from × IsType p ty × IsFaultExit fail
  IsOperation (BoxFor to from ty recv types fail) =
      IsVariable b to × IsVariable b from × IsType p ty × IsVariable b recv × All (IsType p) types × IsFaultExit fail
  IsOperation (Unbox to from ty) = IsVariable b to × IsVariable b from × IsType p ty
  IsOperation (TypeIs to from ty) = IsVariable b to × IsVariable b from × IsType p ty
  IsOperation (CheckNotVoid from fail) = IsVariable b from × IsFaultExit fail
  IsOperation (InitShared shared from) = IsShared p shared × IsVariable b from
  IsOperation (Call plan) = IsCallOperation plan
  IsOperation (Bind plan entry) = IsCallOperation plan × (entry < length p.binds)
  IsOperation (HasInstance to site) = IsVariable b to × IsSite b site
  IsOperation (Start site plan quit) = IsSite b site × IsCallOperation plan × IsVariable b quit
  IsOperation (Resume site plan quit) = IsSite b site × IsCallOperation plan × IsVariable b quit
  IsOperation (HasFrame to) = IsVariable b to
  IsOperation (Enter body recv args value quit) =
      CanEnter p body × IsVariable b recv × All (IsArgument b) args × IfSome value (IsVariable b) × IsVariable b quit
  IsOperation (Release sites) = All (IsSite b) sites
  IsOperation (SetException value place to) = IsVariable b value × IsPositionIndex p place × IsHandler b to

  abbrev pub IsTerminator : Terminator → Type 0
  IsTerminator (Jump block) = IsBlock b block
  IsTerminator (Branch test first second) = IsVariable b test × IsBlock b first × IsBlock b second
  IsTerminator (Return value) = IfSome value (IsVariable b)
  IsTerminator (Suspend value resume) = IfSome value (IsVariable b) × IfSome resume (IsBlock b)
  IsTerminator Quit = Unit {0}
  IsTerminator (Raise value place kind) = IsVariable b value × IsVariable b place × IsVariable b kind
  IsTerminator (Fault kind fail) = IsOfStatement kind × IsFaultExit fail

  abbrev pub IsWellFormedBlock : BasicBlock → Type 0
  IsWellFormedBlock block = All IsOperation block.steps × IsTerminator block.exit
