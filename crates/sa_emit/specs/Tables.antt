-- Which functions of a module contain a `br_table`: none of the runtime's, not `main`, and none of a body that has at most 150 blocks and
-- doesn't resume after a suspension.
use Rattle.std.specs.Prelude.{◌≡◌, ◌≤◌, Bool, true, false, ◌||◌, List, [], ◌∷◌, ◌++◌, length, is_some}
use Rattle.std.specs.List.{FoldsTo}
use Rattle.sa_cfg.specs.declared.body.BasicBlock.{BasicBlock}
use Rattle.sa_cfg.specs.declared.body.CfgBody.{CfgBody}
use Rattle.sa_cfg.specs.declared.operation.Terminator.{Terminator}
use Rattle.sa_cfg.specs.declared.operation.Terminator.TheVariants.{Suspend}
use Rattle.wa_syntax.specs.declared.module.Func.{Func}
use Rattle.wa_syntax.specs.Instructions.{Instruction, Block, Loop, If, BrTable, Sequence, nothing, ◌then◌, sequence}

-- ---- functions

-- an instruction is a `br_table`, or has one inside it; and one of some instructions is or has
abbrev mutual
  pub is_table : Instruction → Bool
  is_table (BrTable labels default) = true
  is_table (Block result inside) = holds_table inside
  is_table (Loop result inside) = holds_table inside
  is_table (If result first other) = holds_table first || holds_table other
  is_table _ = false

  pub holds_table : Sequence → Bool
  holds_table nothing = false
  holds_table (i then rest) = is_table i || holds_table rest

abbrev pub has_table : Func → Bool
has_table func = holds_table (sequence func.body)

abbrev pub HoldsNoTable : Func → Type 0
HoldsNoTable func = has_table func ≡ false

-- one of some functions has
abbrev pub have_table : List Func → Bool
have_table [] = false
have_table (func ∷ rest) = has_table func || have_table rest

-- ---- bodies

-- the body continues in a block after this terminator once it is resumed
abbrev pub is_resumed : Terminator → Bool
is_resumed (Suspend value resume) = is_some resume
is_resumed _ = false

-- it does after one of some blocks
abbrev pub are_resumed : List BasicBlock → Bool
are_resumed [] = false
are_resumed (block ∷ rest) = is_resumed block.exit || are_resumed rest

-- the body of a routine, or of an iter that never yields
abbrev pub IsPlain : CfgBody → Type 0
IsPlain body = are_resumed body.blocks ≡ false

-- The regions of so few blocks nest at most 300 deep, as deep as regions do.
abbrev pub HasFewBlocks : CfgBody → Type 0
HasFewBlocks body = length body.blocks ≤ 150

-- the function of a body
abbrev pub IsFunctionOf : CfgBody → Func → Type 0
IsFunctionOf body func = IsPlain body → HasFewBlocks body → HoldsNoTable func

-- ---- modules

-- one more function, which is right
pub record IsAdded (IsRight : Func → Type 0) (before after : List Func) : Type 0 where
  pub func : Func
  pub is_right : IsRight func
  pub all : after ≡ before ++ func ∷ []

-- a body's function is added, or none where the body isn't reached
pub data IsEmitted (before : List Func) (body : CfgBody) (after : List Func) : Type 0 where
  made : IsAdded (IsFunctionOf body) before after → IsEmitted before body after
  left_out : after ≡ before → IsEmitted before body after

-- the functions of a module: some of the runtime, at most one for each body, in the order of the bodies, and `main`
pub record AreFunctionsOf (bodies : List CfgBody) (funcs : List Func) : Type 0 where
  pub runtime : List Func
  pub before_main : List Func
  pub runtime_holds_none : have_table runtime ≡ false
  pub of_bodies : FoldsTo IsEmitted runtime bodies before_main
  pub main : IsAdded HoldsNoTable before_main funcs
