-- The tests of the verifier, from an index of a list on.
use Rattle.std.proofs.Common.{◌≡◌, ℕ, suc, ◌+◌, ◌<◌, ◌&&◌, ◌||◌, ◌==◌, Bool, true, false, List, [], ◌∷◌, length, get_or, drop, Option, refl, sym, ap, ◌∙◌, arith, add-one, drop-cons}
use Rattle.std.proofs.Math.Seq.{drop-length}
use Rattle.std.proofs.lemmas.Bool.Decides.{nat_tests}
use Rattle.sa_cfg.specs.declared.body.CfgBody.{CfgBody}
use Rattle.sa_structure.specs.declared.regions.Region.{Region}
use Rattle.sa_structure.specs.Regions.{piece, pieces, piece_after}
use Rattle.sa_structure.specs.Stands.{begin_with_dispatch, begins_with_dispatch, each, is_in, is_loop, is_nothing, is_whole_loop, piece_stands, pieces_stand}
use Rattle.sa_structure.proofs.Pieces.{each_piece}

pub is_in-drop : (xs : List ℕ) (n : ℕ) (i : ℕ) (x : ℕ) → i < length xs → x ≡ get_or xs i x → is_in (drop i xs) n ≡ (x == n || is_in (drop (i + 1) xs) n)
is_in-drop xs n i x h e = rw (add-one, drop-cons xs i x, ← e)

pub each-drop : {A : Type 0} (p : A → Bool) (xs : List A) (i : ℕ) (x : A) → i < length xs → x ≡ get_or xs i x → each p (drop i xs) ≡ (p x && each p (drop (i + 1) xs))
each-drop p xs i x h e = rw (add-one, drop-cons xs i x, ← e)

pub pieces_stand-drop : (b : CfgBody) (entries : List ℕ) (again : List (Option ℕ)) (seen : List ℕ) (following : Option ℕ) (xs : List Region) (i : ℕ) (x : Region) → i < length xs → x ≡ get_or xs i x → pieces_stand b entries again seen following (pieces (drop i xs)) ≡ (piece_stands b entries again seen (piece_after (pieces (drop (i + 1) xs)) following) (piece x) && pieces_stand b entries again seen following (pieces (drop (i + 1) xs)))
pieces_stand-drop b entries again seen following xs i x h e = rw (add-one, drop-cons xs i x, ← e)

-- ---- the dispatch

pub choice-empty : (xs : List Region) → length xs ≡ 0 → false ≡ begin_with_dispatch (pieces xs)
choice-empty [] h = refl
choice-empty (x ∷ xs) h = absurd (omega (arith, h))

pub choice-past : (xs rest : List Region) (x : Region) (r : Bool) → xs ≡ x ∷ rest → r ≡ begins_with_dispatch (piece x) → r ≡ begin_with_dispatch (pieces xs)
choice-past xs rest x r e h = h ∙ sym (ap (λ l. begin_with_dispatch (pieces l)) e)

-- ---- one loop

pub loop-empty : (xs : List Region) → length xs ≡ 0 → false ≡ is_loop (pieces xs)
loop-empty [] h = refl
loop-empty (x ∷ xs) h = absurd (omega (arith, h))

pub loop-past : (xs rest : List Region) (x : Region) (r : Bool) → xs ≡ x ∷ rest → r ≡ is_whole_loop (piece x) (pieces rest) → r ≡ is_loop (pieces xs)
loop-past xs rest x r e h = h ∙ sym (ap (λ l. is_loop (pieces l)) e)

some-more : (n : ℕ) → false ≡ (suc n == 0)
some-more n = grind (arith, nat_tests)

pub nothing-length : (xs : List Region) → is_nothing (pieces xs) ≡ (length xs == 0)
nothing-length [] = refl
nothing-length (x ∷ xs) = some-more (length xs)

pub ruleset tried = (each_piece, choice-empty, choice-past, is_in-drop, each-drop, pieces_stand-drop, drop-length, loop-empty, loop-past, nothing-length)
