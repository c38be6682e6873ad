-- What each piece is in the definitions, one equation for each variant; and where the pieces of a list begin.
use Rattle.std.proofs.Common.{◌≡◌, ℕ, List, [], ◌∷◌, length, Option, None, refl, sym, ap, ◌∙◌, arith}
use Rattle.sa_structure.specs.declared.regions.Region.{Region}
use Rattle.sa_structure.specs.declared.regions.Region.TheOpen.{Region-F}
use Rattle.sa_structure.specs.declared.regions.Region.TheFolds.{fold-roll-Region}
use Rattle.sa_structure.specs.declared.regions.Region.TheVariants as s
use Rattle.sa_structure.specs.Regions.{Piece, Basic, If, LabelledBlock, Loop, Dispatch, piece, piece_at, pieces, first_of, first, piece_after}

pub piece-Block : (block : ℕ) → piece (s.Basic block) ≡ Basic block
unfolding piece
piece-Block block = ap piece (sym (s.rolls-Basic block)) ∙ fold-roll-Region Piece piece_at (Region-F.Basic block)

pub piece-If : (block : ℕ) (side : List Region) → piece (s.If block side) ≡ If block (pieces side)
unfolding piece
piece-If block side = ap piece (sym (s.rolls-If block side)) ∙ fold-roll-Region Piece piece_at (Region-F.If block side)

pub piece-Part : (inside : List Region) → piece (s.LabelledBlock inside) ≡ LabelledBlock (pieces inside)
unfolding piece
piece-Part inside = ap piece (sym (s.rolls-LabelledBlock inside)) ∙ fold-roll-Region Piece piece_at (Region-F.LabelledBlock inside)

pub piece-Loop : (inside : List Region) → piece (s.Loop inside) ≡ Loop (pieces inside)
unfolding piece
piece-Loop inside = ap piece (sym (s.rolls-Loop inside)) ∙ fold-roll-Region Piece piece_at (Region-F.Loop inside)

pub piece-Choice : piece s.Dispatch ≡ Dispatch
unfolding piece
piece-Choice = ap piece (sym s.rolls-Dispatch) ∙ fold-roll-Region Piece piece_at Region-F.Dispatch

pub ruleset each_piece = (piece-Block, piece-If, piece-Part, piece-Loop, piece-Choice)

-- ---- where pieces begin

pub first-empty : (xs : List Region) → length xs ≡ 0 → None ≡ first (pieces xs)
first-empty [] h = refl
first-empty (x ∷ xs) h = absurd (omega (arith, h))

pub first-past : (xs rest : List Region) (x : Region) (r : Option ℕ) → xs ≡ x ∷ rest → r ≡ first_of (piece x) → r ≡ first (pieces xs)
first-past xs rest x r e h = h ∙ sym (ap (λ l. first (pieces l)) e)

pub following-empty : (xs : List Region) (r : Option ℕ) → length xs ≡ 0 → r ≡ piece_after (pieces xs) r
following-empty [] r h = refl
following-empty (x ∷ xs) r h = absurd (omega (arith, h))

pub following-past : (xs rest : List Region) (x : Region) (r following : Option ℕ) → xs ≡ x ∷ rest → r ≡ first_of (piece x) → r ≡ piece_after (pieces xs) following
following-past xs rest x r following e h = h ∙ sym (ap (λ l. piece_after (pieces l) following) e)

pub ruleset beginnings = (each_piece, first-empty, first-past, following-empty, following-past)
