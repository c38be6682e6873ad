-- The position of a type, at each variant, and the first supertype that is no abstract class.
use Rattle.std.proofs.Common.{◌≡◌, ℕ, ◌+◌, ◌<◌, ◌≤◌, true, false, cond, List, [], ◌∷◌, Option, Some, None, length, flat_map, get_or, drop, slice_get, sym, ap, ◌∙◌}
use Rattle.sa_graph.proofs.Firsts.{first_here, first_later, first_nowhere}
use Rattle.sa_ast.specs.declared.class.Class.{Class}
use Rattle.sa_ast.specs.declared.class.ClassKind.{ClassKind}
use Rattle.sa_ast.specs.Types.{bare}
use Rattle.sa_ast.specs.declared.pos.Pos.{Pos}
use Rattle.sa_ast.specs.declared.ty.ModeTy.{ModeTy}
use Rattle.sa_ast.specs.declared.ty.Ty.{Ty}
use Rattle.sa_ast.specs.declared.ty.Ty.TheOpen.{Ty-F}
use Rattle.sa_ast.specs.declared.ty.Ty.TheVariants as ty
use Rattle.sa_ast.specs.declared.ty.Ty.TheViews.{roll-Ty, out-roll-Ty}
use Rattle.sa_unify.specs.Supertypes.{is_abstract_class, misplaced, misplaced_type, position_level, position_of}

position-roll : (x : Ty-F Ty ModeTy) → position_of (roll-Ty x) ≡ position_level x
unfolding position_of
position-roll x = ap position_level (out-roll-Ty x)

pub position-Named : (name : List ℕ) (given : List Ty) (pos : Pos) → position_of (ty.Named name given pos) ≡ pos
position-Named name given pos = ap position_of (sym (ty.rolls-Named name given pos)) ∙ position-roll (Ty-F.Named name given pos)

pub position-Same : (pos : Pos) → position_of (ty.Same pos) ≡ pos
position-Same pos = ap position_of (sym (ty.rolls-Same pos)) ∙ position-roll (Ty-F.Same pos)

pub position-Rout : (args : List ModeTy) (of : Option Ty) (pos : Pos) → position_of (ty.Rout args of pos) ≡ pos
position-Rout args of pos = ap position_of (sym (ty.rolls-Rout args of pos)) ∙ position-roll (Ty-F.Rout args of pos)

pub position-Iter : (args : List ModeTy) (of : Option Ty) (pos : Pos) → position_of (ty.Iter args of pos) ≡ pos
position-Iter args of pos = ap position_of (sym (ty.rolls-Iter args of pos)) ∙ position-roll (Ty-F.Iter args of pos)

pub ruleset positions = (position-Named, position-Same, position-Rout, position-Iter)

-- ---- the first of types, from an index on

module _ (kind : List ℕ → Option ClassKind) where
  pub types_here : (types : List Ty) (i : ℕ) (t : Ty) → i < length types → t ≡ get_or types i t → is_abstract_class kind (bare t) ≡ false → slice_get (flat_map (misplaced_type kind) (drop i types)) 0 ≡ Some (position_of t)
  types_here types i t lt is other = first_here (misplaced_type kind) types i t (position_of t) lt is (ap (λ b. slice_get (cond b [] (position_of t ∷ [])) 0) other)

  pub types_later : (types : List Ty) (i : ℕ) (t : Ty) → i < length types → t ≡ get_or types i t → is_abstract_class kind (bare t) ≡ true → slice_get (flat_map (misplaced_type kind) (drop i types)) 0 ≡ slice_get (flat_map (misplaced_type kind) (drop (i + 1) types)) 0
  types_later types i t lt is abstract_class = first_later (misplaced_type kind) types i t lt is (ap (λ b. slice_get (cond b [] (position_of t ∷ [])) 0) abstract_class)

  pub types_nowhere : (types : List Ty) (i : ℕ) → length types ≤ i → slice_get (flat_map (misplaced_type kind) (drop i types)) 0 ≡ None
  types_nowhere = first_nowhere (misplaced_type kind)

  abbrev in_class : Class → List Pos
  in_class c = flat_map (misplaced_type kind) c.below

  pub classes_here : (classes : List Class) (i : ℕ) (c : Class) (pos : Pos) → i < length classes → c ≡ get_or classes i c → slice_get (flat_map (misplaced_type kind) c.below) 0 ≡ Some pos → slice_get (misplaced kind (drop i classes)) 0 ≡ Some pos
  classes_here = first_here in_class

  pub classes_later : (classes : List Class) (i : ℕ) (c : Class) → i < length classes → c ≡ get_or classes i c → slice_get (flat_map (misplaced_type kind) c.below) 0 ≡ None → slice_get (misplaced kind (drop i classes)) 0 ≡ slice_get (misplaced kind (drop (i + 1) classes)) 0
  classes_later = first_later in_class

  pub classes_nowhere : (classes : List Class) (i : ℕ) → length classes ≤ i → slice_get (misplaced kind (drop i classes)) 0 ≡ None
  classes_nowhere = first_nowhere in_class

pub ruleset types_walk = (types_here, types_later, types_nowhere)

pub ruleset classes_walk = (classes_here, classes_later, classes_nowhere)
