-- That structured regions stand for the blocks of a body: the block in which each block continues begins after it, or is jumped to from
-- where its label is in scope, or is reached by way of the dispatch.
use Rattle.std.specs.Prelude.{ℕ, Bool, true, false, not, ◌&&◌, ◌||◌, ◌==◌, List, [], ◌∷◌, ◌++◌, length, slice_get}
use Rattle.std.specs.Prelude.{Option, Some, None, is_some}
use Rattle.std.specs.Option.{option_map_or, option_flatten}
use Rattle.sa_cfg.specs.declared.body.BasicBlock.{BasicBlock}
use Rattle.sa_cfg.specs.declared.body.CfgBody.{CfgBody}
use Rattle.sa_cfg.specs.declared.call.Handler.{Handler}
use Rattle.sa_cfg.specs.declared.operation.Terminator.{Terminator}
use Rattle.sa_cfg.specs.declared.operation.Terminator.TheVariants.{Jump, Branch, Suspend, Raise, Fault}
use Rattle.sa_cfg.specs.declared.operation.CfgOperation.{CfgOperation}
use Rattle.sa_liveness.specs.Saved.{raised_by}
use Rattle.sa_structure.specs.Regions.{Piece, Basic, If, LabelledBlock, Loop, Dispatch, Pieces, nothing, ◌then◌, first, piece_after}

abbrev pub is_in : List ℕ → ℕ → Bool
is_in [] n = false
is_in (m ∷ rest) n = m == n || is_in rest n

abbrev pub each : {A : Type 0} → (A → Bool) → List A → Bool
each p [] = true
each p (a ∷ rest) = p a && each p rest

-- the block is the one that begins there
abbrev pub begins : Option ℕ → ℕ → Bool
begins there block = option_map_or (λ other. other == block) there false

-- ---- transfers to a block; `again` has for each block its number in the dispatch, if it is reached again by that, and `seen` the blocks
-- whose labels are in scope

abbrev pub is_numbered : List (Option ℕ) → ℕ → Bool
is_numbered numbers block = is_some (option_flatten (slice_get numbers block))

abbrev pub is_jumped_to : List (Option ℕ) → List ℕ → ℕ → Bool
is_jumped_to again seen block = is_numbered again block || is_in seen block

-- it begins after the piece, or is jumped to
abbrev pub is_reached : List (Option ℕ) → List ℕ → Option ℕ → ℕ → Bool
is_reached again seen following block = begins following block || is_jumped_to again seen block

-- the dispatch comes to it
abbrev pub is_come_to : List ℕ → Option ℕ → ℕ → Bool
is_come_to seen following block = begins following block || is_in seen block

-- ---- raises of operations

abbrev pub is_raise_of : Handler → Terminator → Bool
is_raise_of raised (Raise value place kind) = value == raised.value && place == raised.place && kind == raised.kind
is_raise_of raised _ = false

-- its block does nothing but leave the body with it
abbrev pub leaves : CfgBody → Handler → Bool
leaves b raised = option_map_or (λ at. length at.steps == 0 && is_raise_of raised at.exit) (slice_get b.blocks raised.block) false

abbrev pub raise_occurs : CfgBody → List (Option ℕ) → List ℕ → Handler → Bool
raise_occurs b again seen raised = leaves b raised || is_jumped_to again seen raised.block

abbrev pub step_occurs : CfgBody → List (Option ℕ) → List ℕ → CfgOperation → Bool
step_occurs b again seen step = option_map_or (raise_occurs b again seen) (raised_by step) true

-- ---- terminators

-- a body resumes after a suspension in one of its entries
abbrev pub suspension_occurs : List ℕ → Option ℕ → Bool
suspension_occurs entries resume = option_map_or (is_in entries) resume true

abbrev pub exit_occurs : CfgBody → List ℕ → List (Option ℕ) → List ℕ → Option ℕ → Terminator → Bool
exit_occurs b entries again seen following (Jump block) = is_reached again seen following block
exit_occurs b entries again seen following (Branch test to other) = is_reached again seen following to && is_reached again seen following other
exit_occurs b entries again seen following (Suspend value resume) = suspension_occurs entries resume
exit_occurs b entries again seen following (Fault kind fail) = raise_occurs b again seen fail.raised
exit_occurs b entries again seen following _ = true

-- a branch, where what begins with this block is where it goes if its test holds
abbrev pub side_occurs : List (Option ℕ) → List ℕ → Option ℕ → Option ℕ → Terminator → Bool
side_occurs again seen side following (Branch test to other) = begins side to && is_reached again seen following other
side_occurs again seen side following _ = false

-- ---- blocks and pieces

abbrev pub block_occurs : CfgBody → List (Option ℕ) → (Terminator → Bool) → List ℕ → ℕ → Bool
block_occurs b again exit seen number =
    option_map_or (λ at. each (step_occurs b again seen) at.steps && exit at.exit) (slice_get b.blocks number) false

-- inside something whose label is that of a block, which has none yet
abbrev pub with_label : Option ℕ → List ℕ → (List ℕ → Bool) → Bool
with_label None seen inside = false
with_label (Some block) seen inside = not (is_in seen block) && inside (seen ++ block ∷ [])

-- inside a loop, whose label is that of the block that it begins with; one that begins with the dispatch has no such label
abbrev pub with_head : Option ℕ → List ℕ → (List ℕ → Bool) → Bool
with_head None seen inside = inside seen
with_head (Some block) seen inside = with_label (Some block) seen inside

-- A body, the blocks in which it begins and resumes, and those that are reached again by way of the dispatch.
module _ (b : CfgBody) (entries : List ℕ) (again : List (Option ℕ)) where
  abbrev mutual
    pub piece_stands : List ℕ → Option ℕ → Piece → Bool
    piece_stands seen following (Basic block) = block_occurs b again (exit_occurs b entries again seen following) seen block
    piece_stands seen following (If block side) =
        block_occurs b again (side_occurs again seen (first side) following) seen block && pieces_stand seen None side
    piece_stands seen following (LabelledBlock inside) = with_label following seen (λ more. pieces_stand more following inside)
    piece_stands seen following (Loop inside) = with_head (first inside) seen (λ more. pieces_stand more None inside)
    piece_stands seen following Dispatch = each (is_come_to seen following) entries

    pub pieces_stand : List ℕ → Option ℕ → Pieces → Bool
    pieces_stand seen following nothing = true
    pieces_stand seen following (q then rest) = piece_stands seen (piece_after rest following) q && pieces_stand seen following rest

-- ---- all the regions of a body

abbrev pub is_nothing : Pieces → Bool
is_nothing nothing = true
is_nothing (q then rest) = false

abbrev pub is_whole_loop : Piece → Pieces → Bool
is_whole_loop (Loop inside) rest = is_nothing rest
is_whole_loop _ rest = false

abbrev pub is_loop : Pieces → Bool
is_loop nothing = false
is_loop (q then rest) = is_whole_loop q rest

-- what begins with the dispatch
abbrev mutual
  pub begins_with_dispatch : Piece → Bool
  begins_with_dispatch (Basic block) = false
  begins_with_dispatch (If block side) = false
  begins_with_dispatch (LabelledBlock inside) = begin_with_dispatch inside
  begins_with_dispatch (Loop inside) = begin_with_dispatch inside
  begins_with_dispatch Dispatch = true

  pub begin_with_dispatch : Pieces → Bool
  begin_with_dispatch nothing = false
  begin_with_dispatch (q then rest) = begins_with_dispatch q

-- with the first block where that is the one entry, and else with the dispatch, which is in a loop around all where blocks are reached
-- again by it
abbrev pub begins_by : List ℕ → List (Option ℕ) → Pieces → Option ℕ → Bool
begins_by entries again list (Some block) = block == 0 && (length entries == 1 && length again == 0)
begins_by entries again list None = begin_with_dispatch list && (length again == 0 || is_loop list)

abbrev pub begins_correctly : List ℕ → List (Option ℕ) → Pieces → Bool
begins_correctly entries again list = begins_by entries again list (first list)

abbrev pub occurs : CfgBody → List ℕ → List (Option ℕ) → Pieces → Bool
occurs b entries again list = begins_correctly entries again list && pieces_stand b entries again [] None list
