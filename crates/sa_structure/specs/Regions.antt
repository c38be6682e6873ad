-- Structured regions as the definitions take them: a list of pieces is part of the same data, so that a definition goes down into a piece
-- by its cases.
use Rattle.std.specs.Prelude.{ℕ, List, [], ◌∷◌, map, Option, Some, None}
use Rattle.sa_structure.specs.declared.regions.Region.{Region}
use Rattle.sa_structure.specs.declared.regions.Region.TheOpen.{Region-F}
use Rattle.sa_structure.specs.declared.regions.Region.TheFolds.{fold-Region}

-- a piece; and a sequence of pieces
infixr 6 ◌then◌
mutual
  pub data Piece : Type 0 where
    Basic : (block : ℕ) → Piece
    If : (block : ℕ) → Pieces → Piece
    LabelledBlock Loop : Pieces → Piece
    Dispatch : Piece

  pub data Pieces : Type 0 where
    nothing : Pieces
    ◌then◌ : Piece → Pieces → Pieces

-- ---- the copy

abbrev pub pieces_of : List Piece → Pieces
pieces_of [] = nothing
pieces_of (q ∷ rest) = q then pieces_of rest

-- a piece whose pieces are copied already
abbrev pub piece_at : Region-F Piece → Piece
piece_at (Region-F.Basic block) = Basic block
piece_at (Region-F.If block side) = If block (pieces_of side)
piece_at (Region-F.LabelledBlock inside) = LabelledBlock (pieces_of inside)
piece_at (Region-F.Loop inside) = Loop (pieces_of inside)
piece_at Region-F.Dispatch = Dispatch

unfoldable pub piece : Region → Piece
piece = fold-Region Piece piece_at

abbrev pub pieces : List Region → Pieces
pieces list = pieces_of (map piece list)

-- ---- where pieces begin

-- the block that they begin with; the dispatch begins with none
abbrev mutual
  pub first_of : Piece → Option ℕ
  first_of (Basic block) = Some block
  first_of (If block side) = Some block
  first_of (LabelledBlock inside) = first inside
  first_of (Loop inside) = first inside
  first_of Dispatch = None

  pub first : Pieces → Option ℕ
  first nothing = None
  first (q then rest) = first_of q

-- the block that begins after a piece: the first of the rest of its list, or else the one after the list
abbrev pub piece_after : Pieces → Option ℕ → Option ℕ
piece_after nothing following = following
piece_after (q then rest) following = first_of q
