-- The edges of the classes, part by part.
use Rattle.std.proofs.Common.{◌≡◌, ◌≢◌, ℕ, ◌+◌, ◌<◌, true, false, Bool, cond, nat_eq, List, [], ◌∷◌, ◌++◌, Option, None, Some, length, flat_map, get_or, refl, sym, ap, ◌∙◌, add-one, append_assoc}
use Rattle.std.proofs.Math.Path.{fun_ext}
use Rattle.std.proofs.lemmas.Bool.{eqb-true, eq-eqb}
use Rattle.std.proofs.lemmas.List.{append-nil}
use Rattle.std.proofs.lemmas.Option.{slice_get_read}
use Rattle.sa_ast.specs.declared.class.Class.{Class}
use Rattle.sa_ast.specs.declared.pos.Pos.{Pos}
use Rattle.sa_ast.specs.declared.ty.ModeTy.{ModeTy}
use Rattle.sa_ast.specs.declared.ty.Ty.{Ty}
use Rattle.sa_ast.specs.declared.ty.Ty.TheVariants as ty
use Rattle.sa_ast.specs.Types.{Named, all_bare, bare}
use Rattle.sa_ast.proofs.BareTypes.{bare-Named, bare-Same, bare-Rout, bare-Iter}
use Rattle.sa_subst.specs.Substitution.{place_of}
use Rattle.sa_unify.specs.declared.header.Header.{Header}
use Rattle.sa_unify.specs.declared.names.Names.{Names}
use Rattle.sa_unify.specs.declared.pattern.Node.{Node}
use Rattle.sa_unify.specs.declared.pattern.Node.TheVariants as node
use Rattle.sa_unify.specs.declared.written.WrittenEdge.{WrittenEdge}
use Rattle.sa_unify.specs.Headers.{IsHeaderOf, place_in, own_in, ty_nodes}
use Rattle.sa_unify.specs.Numbers.{number_in}
use Rattle.sa_unify.specs.Patterns.{lower_nodes}
use Rattle.sa_unify.specs.Spelled.{variables, written_all}
use Rattle.sa_unify.specs.DeclaredEdges.{EdgeNodes, edge_of, seen, class_number, edge_up, edge_down, edges_in, where_own, edges_at, edges_upto, numbers_in, class_number_in, number_named, below_in, lower_in, above_in, below_edge, above_edge, header_edges}
use Rattle.sa_unify.proofs.Dressed.{count-all_bare}
use Rattle.sa_unify.proofs.Headers.{append-one, append-parts, written-all_bare}

-- ---- the class that a type is

module _ (header : Header) where
  number-args : (name : List ℕ) (types : List Ty) → class_number (numbers_in header) (place_in header) header.class header.name.now header.arity (Named name (all_bare types)) ≡ number_named header name types
  number-args name [] = refl
  number-args name (t ∷ types) = refl

  pub class_number-Named : (name : List ℕ) (types : List Ty) (pos : Pos) → class_number_in header (ty.Named name types pos) ≡ number_named header name types
  class_number-Named name types pos =
      ap (class_number (numbers_in header) (place_in header) header.class header.name.now header.arity) (bare-Named name types pos) ∙ number-args name types

  pub class_number-Same : (pos : Pos) → class_number_in header (ty.Same pos) ≡ Some header.class
  class_number-Same pos = ap (class_number (numbers_in header) (place_in header) header.class header.name.now header.arity) (bare-Same pos)

  pub class_number-Rout : (args : List ModeTy) (of : Option Ty) (pos : Pos) → class_number_in header (ty.Rout args of pos) ≡ None
  class_number-Rout args of pos = ap (class_number (numbers_in header) (place_in header) header.class header.name.now header.arity) (bare-Rout args of pos)

  pub class_number-Iter : (args : List ModeTy) (of : Option Ty) (pos : Pos) → class_number_in header (ty.Iter args of pos) ≡ None
  class_number-Iter args of pos = ap (class_number (numbers_in header) (place_in header) header.class header.name.now header.arity) (bare-Iter args of pos)

  -- ---- the arguments of a subtype

  pub lower-Named : (name : List ℕ) (types : List Ty) (pos : Pos) → lower_in header (ty.Named name types pos) ≡ node.List (length types) ∷ flat_map (ty_nodes header) types
  lower-Named name types pos =
      ap (lower_nodes (place_in header) header.name.now header.arity) (bare-Named name types pos)
      ∙ ap (λ k. node.List k ∷ written_all (place_in header) (own_in header) (all_bare types)) (count-all_bare types)
      ∙ ap (λ l. node.List (length types) ∷ l) (written-all_bare header types)

  pub lower-Same : (pos : Pos) → lower_in header (ty.Same pos) ≡ node.List header.arity ∷ variables header.arity
  lower-Same pos = ap (lower_nodes (place_in header) header.name.now header.arity) (bare-Same pos)

  pub lower-Rout : (args : List ModeTy) (of : Option Ty) (pos : Pos) → lower_in header (ty.Rout args of pos) ≡ []
  lower-Rout args of pos = ap (lower_nodes (place_in header) header.name.now header.arity) (bare-Rout args of pos)

  pub lower-Iter : (args : List ModeTy) (of : Option Ty) (pos : Pos) → lower_in header (ty.Iter args of pos) ≡ []
  lower-Iter args of pos = ap (lower_nodes (place_in header) header.name.now header.arity) (bare-Iter args of pos)

-- ---- the edges of a class

pub seen-push : (edges : List WrittenEdge) (e : WrittenEdge) → seen (edges ++ e ∷ []) ≡ seen edges ++ edge_of e ∷ []
seen-push [] e = refl
seen-push (d ∷ edges) e = ap (λ l. edge_of d ∷ l) (seen-push edges e)

pub edges-none : (number : List ℕ → Option ℕ) (place : ℕ) (c : Class) → number c.name.name ≡ None → edges_at number place (Some c) ≡ []
edges-none number place c h = ap (λ n. where_own n place (edges_in number (place_of c.params 0) place c.name.name (length c.params) c.below c.above)) h

unequal : (m n : ℕ) (b : Bool) → nat_eq m n ≡ b → m ≢ n → b ≡ false
unequal m n true e h = absurd (h (eqb-true m n e))
unequal m n false e h = refl

pub edges-other : (number : List ℕ → Option ℕ) (place own : ℕ) (c : Class) → number c.name.name ≡ Some own → own ≢ place → edges_at number place (Some c) ≡ []
edges-other number place own c h other =
    let all = edges_in number (place_of c.params 0) place c.name.name (length c.params) c.below c.above in
    ap (λ n. where_own n place all) h ∙ ap (λ b. cond b all []) (unequal own place (nat_eq own place) refl other)

pub edges-own : (names : Names) (place own : ℕ) (c : Class) (header : Header) → number_in names.places c.name.name ≡ Some own → own ≡ place → IsHeaderOf names own c header → header_edges header c ≡ edges_at (number_in names.places) place (Some c)
edges-own names place own c header h same is =
    let number = number_in names.places in
    let all = edges_in number (place_of c.params 0) place c.name.name (length c.params) c.below c.above in
    let places : place_in header ≡ place_of c.params 0 = fun_ext is.0 in
    ap (λ ns. edges_in (number_in ns.places) (place_in header) header.class header.name.now header.arity c.below c.above) is.4
    ∙ ap (λ p. edges_in number p header.class header.name.now header.arity c.below c.above) places
    ∙ ap (λ k. edges_in number (place_of c.params 0) k header.name.now header.arity c.below c.above) (is.3 ∙ same)
    ∙ ap (λ n. edges_in number (place_of c.params 0) place n header.arity c.below c.above) is.1
    ∙ ap (λ k. edges_in number (place_of c.params 0) place c.name.name k c.below c.above) is.2
    ∙ sym (ap (λ n. where_own n place all) h ∙ ap (λ b. cond b all []) (eq-eqb own place same))

pub edges_upto-more : (number : List ℕ → Option ℕ) (classes : List Class) (k : ℕ) (c : Class) → k < length classes → c ≡ get_or classes k c → edges_upto number classes (k + 1) ≡ edges_upto number classes k ++ edges_at number k (Some c)
edges_upto-more number classes k c h e =
    ap (edges_upto number classes) (add-one k) ∙ ap (λ o. edges_upto number classes k ++ edges_at number k o) (slice_get_read classes (length classes) k c refl h e)

-- ---- what the functions add

pub add-none : (old : List EdgeNodes) (number : List ℕ → Option ℕ) (place : ℕ) (c : Class) → None ≡ number c.name.name → old ≡ old ++ edges_at number place (Some c)
add-none old number place c h = sym (ap (λ l. old ++ l) (edges-none number place c (sym h)) ∙ append-nil old)

pub add-other : (old : List EdgeNodes) (number : List ℕ → Option ℕ) (place own : ℕ) (c : Class) → Some own ≡ number c.name.name → own ≢ place → old ≡ old ++ edges_at number place (Some c)
add-other old number place own c h other = sym (ap (λ l. old ++ l) (edges-other number place own c (sym h) other) ∙ append-nil old)

pub add-own : (old new : List EdgeNodes) (names : Names) (place own : ℕ) (c : Class) (header : Header) → Some own ≡ number_in names.places c.name.name → own ≡ place → IsHeaderOf names own c header → new ≡ old ++ header_edges header c → new ≡ old ++ edges_at (number_in names.places) place (Some c)
add-own old new names place own c header h same is add = add ∙ ap (λ l. old ++ l) (edges-own names place own c header (sym h) same is)

pub upto-more : (edges more : List EdgeNodes) (number : List ℕ → Option ℕ) (classes : List Class) (k : ℕ) (c : Class) → k < length classes → c ≡ get_or classes k c → edges ≡ edges_upto number classes k → more ≡ edges ++ edges_at number k (Some c) → more ≡ edges_upto number classes (k + 1)
upto-more edges more number classes k c h e so_far add =
    add ∙ ap (λ l. l ++ edges_at number k (Some c)) so_far ∙ sym (edges_upto-more number classes k c h e)

pub below-none : (header : Header) (t : Ty) (old : List EdgeNodes) → None ≡ class_number_in header t → old ≡ old ++ below_edge header t
below-none header t old h = sym (ap (λ o. old ++ edge_up (numbers_in header) (place_in header) header.class header.name.now header.arity (bare t) o) (sym h) ∙ append-nil old)

pub below-some : (header : Header) (t : Ty) (k : ℕ) (e : WrittenEdge) (old new : List WrittenEdge) → Some k ≡ class_number_in header t → e.lower ≡ header.class → e.upper ≡ k → e.nodes.items ≡ below_in header t → new ≡ old ++ e ∷ [] → seen new ≡ seen old ++ below_edge header t
below-some header t k e old new h lower upper nodes push =
    ap seen push
    ∙ seen-push old e
    ∙ ap (λ l. seen old ++ (l, e.upper, e.nodes.items) ∷ []) lower
    ∙ ap (λ u. seen old ++ (header.class, u, e.nodes.items) ∷ []) upper
    ∙ ap (λ l. seen old ++ (header.class, k, l) ∷ []) nodes
    ∙ ap (λ o. seen old ++ edge_up (numbers_in header) (place_in header) header.class header.name.now header.arity (bare t) o) h

pub above-none : (header : Header) (t : Ty) (old : List EdgeNodes) → None ≡ class_number_in header t → old ≡ old ++ above_edge header t
above-none header t old h = sym (ap (λ o. old ++ edge_down (numbers_in header) (place_in header) header.class header.name.now header.arity (bare t) o) (sym h) ∙ append-nil old)

pub above-some : (header : Header) (t : Ty) (k : ℕ) (e : WrittenEdge) (old new : List WrittenEdge) → Some k ≡ class_number_in header t → e.lower ≡ k → e.upper ≡ header.class → e.nodes.items ≡ above_in header t → new ≡ old ++ e ∷ [] → seen new ≡ seen old ++ above_edge header t
above-some header t k e old new h lower upper nodes push =
    ap seen push
    ∙ seen-push old e
    ∙ ap (λ l. seen old ++ (l, e.upper, e.nodes.items) ∷ []) lower
    ∙ ap (λ u. seen old ++ (k, u, e.nodes.items) ∷ []) upper
    ∙ ap (λ l. seen old ++ (k, header.class, l) ∷ []) nodes
    ∙ ap (λ o. seen old ++ edge_down (numbers_in header) (place_in header) header.class header.name.now header.arity (bare t) o) h

pub ruleset edges = (append-one, append-parts, class_number-Named, class_number-Same, class_number-Rout, class_number-Iter, lower-Named, lower-Same, lower-Rout, lower-Iter)

pub ruleset class_steps = (add-none, add-other, add-own, upto-more)

pub ruleset edge_steps = (below-none, below-some, above-none, above-some)

-- the edges of a class as the subtype and as the supertype
pub edges-both : (header : Header) (c : Class) (old one new : List EdgeNodes) (lowers uppers : List Ty) → lowers ≡ c.below → one ≡ old ++ flat_map (below_edge header) lowers → uppers ≡ c.above → new ≡ one ++ flat_map (above_edge header) uppers → new ≡ old ++ header_edges header c
edges-both header c old one new lowers uppers e first f second =
    second
    ∙ ap (λ l. l ++ flat_map (above_edge header) uppers) (first ∙ ap (λ ts. old ++ flat_map (below_edge header) ts) e)
    ∙ ap (λ ts. (old ++ flat_map (below_edge header) c.below) ++ flat_map (above_edge header) ts) f
    ∙ append_assoc old (flat_map (below_edge header) c.below) (flat_map (above_edge header) c.above)

pub ruleset both_edges = (edges-both)

-- a bound type has no arguments here
pub none-Rout : (header : Header) (old : List Node) (t : Ty) (args : List ModeTy) (of : Option Ty) (pos : Pos) → t ≡ ty.Rout args of pos → old ≡ old ++ lower_in header t
none-Rout header old t args of pos e = sym (ap (λ x. old ++ lower_in header x) e ∙ ap (λ l. old ++ l) (lower-Rout header args of pos) ∙ append-nil old)

pub none-Iter : (header : Header) (old : List Node) (t : Ty) (args : List ModeTy) (of : Option Ty) (pos : Pos) → t ≡ ty.Iter args of pos → old ≡ old ++ lower_in header t
none-Iter header old t args of pos e = sym (ap (λ x. old ++ lower_in header x) e ∙ ap (λ l. old ++ l) (lower-Iter header args of pos) ∙ append-nil old)

pub ruleset bound_types = (none-Rout, none-Iter)
