-- A type in the header of a class, spelled part by part.
use Rattle.std.proofs.Common.{◌≡◌, ℕ, suc, ◌+◌, ◌*◌, List, [], ◌∷◌, ◌++◌, Option, None, Some, length, refl, sym, ap, ◌∙◌, arith, append_assoc, add-one}
use Rattle.std.specs.Prelude.{flat_map}
use Rattle.sa_ast.specs.declared.pos.Pos.{Pos}
use Rattle.sa_ast.specs.declared.ty.ModeTy.{ModeTy}
use Rattle.sa_ast.specs.declared.ty.Ty.{Ty}
use Rattle.sa_ast.specs.declared.ty.Ty.TheVariants as ty
use Rattle.sa_ast.specs.Types.{Named, all_bare, all_bare_args, option_bare}
use Rattle.sa_ast.proofs.BareTypes.{bare-Named, bare-Same, bare-Rout, bare-Iter, bare_arg-parts}
use Rattle.sa_unify.specs.declared.header.Header.{Header}
use Rattle.sa_unify.specs.declared.pattern.Node.{Node}
use Rattle.sa_unify.specs.declared.pattern.Node.TheVariants as node
use Rattle.sa_unify.specs.Headers.{place_in, own_in, ty_nodes, named_nodes, arg_nodes, result_nodes, bound_nodes, count_of}
use Rattle.sa_unify.proofs.Dressed.{count-all_bare}
use Rattle.sa_unify.specs.Spelled.{count_args, count_result, variables, written, written_all, written_args, written_result}

pub variables-more : (n : ℕ) → variables (n + 1) ≡ variables n ++ node.Variable n ∷ []
variables-more n = ap variables (add-one n)

-- one more node
pub append-one : (xs ys : List Node) (a : Node) → (xs ++ a ∷ []) ++ ys ≡ xs ++ a ∷ ys
append-one xs ys a = append_assoc xs (a ∷ []) ys

-- a node and two parts after it
pub append-parts : (xs ys zs : List Node) (a : Node) → ((xs ++ a ∷ []) ++ ys) ++ zs ≡ xs ++ a ∷ ys ++ zs
append-parts xs ys zs a = simp append_assoc

-- ---- how many terms the parts take

pub count-all_bare_args : (args : List ModeTy) → count_args (all_bare_args args) ≡ 2 * length args
count-all_bare_args [] = refl
count-all_bare_args (a ∷ args) = let more = count-all_bare_args args in omega (arith, more)

pub count-option_bare : (of : Option Ty) → count_result (option_bare of) ≡ count_of of
count-option_bare None = refl
count-option_bare (Some t) = refl

-- ---- each part

module _ (header : Header) where
  pub written-all_bare : (types : List Ty) → written_all (place_in header) (own_in header) (all_bare types) ≡ flat_map (ty_nodes header) types
  written-all_bare [] = refl
  written-all_bare (t ∷ types) = ap (λ l. ty_nodes header t ++ l) (written-all_bare types)

  pub written-all_bare_args : (args : List ModeTy) → written_args (place_in header) (own_in header) (all_bare_args args) ≡ flat_map (arg_nodes header) args
  written-all_bare_args [] = refl
  written-all_bare_args (a ∷ args) =
      ap (λ p. node.Passed p.0 ∷ written (place_in header) (own_in header) p.1 ++ written_args (place_in header) (own_in header) (all_bare_args args)) (bare_arg-parts a)
      ∙ ap (λ l. arg_nodes header a ++ l) (written-all_bare_args args)

  written-option_bare : (of : Option Ty) → written_result (place_in header) (own_in header) (option_bare of) ≡ result_nodes header of
  written-option_bare None = refl
  written-option_bare (Some t) = refl

  named-bare : (name : List ℕ) (types : List Ty) → written (place_in header) (own_in header) (Named name (all_bare types)) ≡ named_nodes header name types
  named-bare name [] = refl
  named-bare name (t ∷ types) =
      ap (λ k. node.Class name (suc k) ∷ written_all (place_in header) (own_in header) (all_bare (t ∷ types))) (count-all_bare types)
      ∙ ap (λ l. node.Class name (suc (length types)) ∷ l) (written-all_bare (t ∷ types))

  pub ty_nodes-Named : (name : List ℕ) (types : List Ty) (pos : Pos) → ty_nodes header (ty.Named name types pos) ≡ named_nodes header name types
  ty_nodes-Named name types pos = ap (written (place_in header) (own_in header)) (bare-Named name types pos) ∙ named-bare name types

  pub ty_nodes-Same : (pos : Pos) → ty_nodes header (ty.Same pos) ≡ own_in header
  ty_nodes-Same pos = ap (written (place_in header) (own_in header)) (bare-Same pos)

  parts : (args : List ModeTy) (of : Option Ty) → written_args (place_in header) (own_in header) (all_bare_args args) ++ written_result (place_in header) (own_in header) (option_bare of) ≡ bound_nodes header args of
  parts args of =
      ap (λ l. l ++ written_result (place_in header) (own_in header) (option_bare of)) (written-all_bare_args args) ∙ ap (λ l. flat_map (arg_nodes header) args ++ l) (written-option_bare of)

  counts : (args : List ModeTy) (of : Option Ty) → count_args (all_bare_args args) + count_result (option_bare of) ≡ 2 * length args + count_of of
  counts args of = ap (λ k. k + count_result (option_bare of)) (count-all_bare_args args) ∙ ap (λ k. 2 * length args + k) (count-option_bare of)

  pub ty_nodes-Rout : (args : List ModeTy) (of : Option Ty) (pos : Pos) → ty_nodes header (ty.Rout args of pos) ≡ node.Routine (2 * length args + count_of of) ∷ bound_nodes header args of
  ty_nodes-Rout args of pos =
      ap (written (place_in header) (own_in header)) (bare-Rout args of pos)
      ∙ ap (λ k. node.Routine k ∷ written_args (place_in header) (own_in header) (all_bare_args args) ++ written_result (place_in header) (own_in header) (option_bare of)) (counts args of)
      ∙ ap (λ l. node.Routine (2 * length args + count_of of) ∷ l) (parts args of)

  pub ty_nodes-Iter : (args : List ModeTy) (of : Option Ty) (pos : Pos) → ty_nodes header (ty.Iter args of pos) ≡ node.Iter (2 * length args + count_of of) ∷ bound_nodes header args of
  ty_nodes-Iter args of pos =
      ap (written (place_in header) (own_in header)) (bare-Iter args of pos)
      ∙ ap (λ k. node.Iter k ∷ written_args (place_in header) (own_in header) (all_bare_args args) ++ written_result (place_in header) (own_in header) (option_bare of)) (counts args of)
      ∙ ap (λ l. node.Iter (2 * length args + count_of of) ∷ l) (parts args of)

  -- the nodes of such a type, part by part
  pub spelled-Rout : (old one two new : List Node) (t : Ty) (args s l : List ModeTy) (of : Option Ty) (pos : Pos) (k : ℕ) → t ≡ ty.Rout args of pos → one ≡ old ++ node.Routine k ∷ [] → k ≡ 2 * length s + count_of of → s ≡ args → l ≡ args → two ≡ one ++ flat_map (arg_nodes header) l → new ≡ two ++ result_nodes header of → new ≡ old ++ ty_nodes header t
  spelled-Rout old one two new t args s l of pos k et first count es el second third =
      third
      ∙ ap (λ x. x ++ result_nodes header of) (second ∙ ap (λ x. x ++ flat_map (arg_nodes header) l) first)
      ∙ ap (λ x. x ++ result_nodes header of) (append-one old (flat_map (arg_nodes header) l) (node.Routine k))
      ∙ append_assoc old (node.Routine k ∷ flat_map (arg_nodes header) l) (result_nodes header of)
      ∙ ap (λ j. old ++ (node.Routine j ∷ (flat_map (arg_nodes header) l ++ result_nodes header of))) (count ∙ ap (λ (x : List ModeTy). 2 * length x + count_of of) es)
      ∙ ap (λ x. old ++ (node.Routine (2 * length args + count_of of) ∷ (flat_map (arg_nodes header) x ++ result_nodes header of))) el
      ∙ ap (λ x. old ++ x) (sym (ty_nodes-Rout args of pos))
      ∙ ap (λ x. old ++ ty_nodes header x) (sym et)

  -- the nodes of such a type, part by part
  pub spelled-Iter : (old one two new : List Node) (t : Ty) (args s l : List ModeTy) (of : Option Ty) (pos : Pos) (k : ℕ) → t ≡ ty.Iter args of pos → one ≡ old ++ node.Iter k ∷ [] → k ≡ 2 * length s + count_of of → s ≡ args → l ≡ args → two ≡ one ++ flat_map (arg_nodes header) l → new ≡ two ++ result_nodes header of → new ≡ old ++ ty_nodes header t
  spelled-Iter old one two new t args s l of pos k et first count es el second third =
      third
      ∙ ap (λ x. x ++ result_nodes header of) (second ∙ ap (λ x. x ++ flat_map (arg_nodes header) l) first)
      ∙ ap (λ x. x ++ result_nodes header of) (append-one old (flat_map (arg_nodes header) l) (node.Iter k))
      ∙ append_assoc old (node.Iter k ∷ flat_map (arg_nodes header) l) (result_nodes header of)
      ∙ ap (λ j. old ++ (node.Iter j ∷ (flat_map (arg_nodes header) l ++ result_nodes header of))) (count ∙ ap (λ (x : List ModeTy). 2 * length x + count_of of) es)
      ∙ ap (λ x. old ++ (node.Iter (2 * length args + count_of of) ∷ (flat_map (arg_nodes header) x ++ result_nodes header of))) el
      ∙ ap (λ x. old ++ x) (sym (ty_nodes-Iter args of pos))
      ∙ ap (λ x. old ++ ty_nodes header x) (sym et)

pub ruleset bound_types = (spelled-Rout, spelled-Iter)

pub ruleset headers = (variables-more, append-one, append-parts, ty_nodes-Named, ty_nodes-Same, ty_nodes-Rout, ty_nodes-Iter)
