-- The refusals of a program's edges, from what its tables say.
use Rattle.std.proofs.Common.{◌≡◌, ℕ, List, [], ◌∷◌, None, Some, map, slice_get, refl, sym, ap, subst, ◌∙◌, inl, inr}
use Rattle.std.proofs.Math.Path.{fun_ext}
use Rattle.std.specs.List.{Contains}
use Rattle.sa_ast.specs.declared.class.FlatClass.{FlatClass}
use Rattle.sa_ast.specs.declared.pos.Pos.{Pos}
use Rattle.sa_ast.specs.declared.refusal.Rejection.{Rejection}
use Rattle.sa_ast.specs.declared.refusal.Rejection.TheVariants.{Failed, Refused}
use Rattle.sa_ast.specs.declared.refusal.Refusal.{Refusal}
use Rattle.sa_ast.specs.declared.rule.Rule.TheVariants as rule
use Rattle.sa_unify.specs.declared.names.Names.{Names}
use Rattle.sa_unify.specs.declared.written.WrittenEdge.{WrittenEdge}
use Rattle.sa_unify.specs.DeclaredEdges.{declared_edges, edge_of, ends_written, seen}
use Rattle.sa_unify.specs.Numbers.{AreNamesOf, class_place, kind_of_name, number_in}
use Rattle.sa_unify.specs.Supertypes.{misplaced}
use Rattle.sa_hierarchy.specs.Cycles.{HasNoCycle, IsBetween, RefusesCycle}
use Rattle.sa_hierarchy.proofs.Between.{first_along, none_along}
use Rattle.sa_subtypes.specs.Refusals.{AreEdgesRight, ClassEdge, RefusesEdges, ends_declared, kind_named, misplaced_in}
use Rattle.sa_subtypes.proofs.ClassFacts.{kind-named}

none_first : {A : Type 0} (xs : List A) → None ≡ slice_get xs 0 → xs ≡ []
none_first [] h = refl
none_first (x ∷ xs) h = cc

ends_seen : (written : List WrittenEdge) → map ends_declared (map edge_of written) ≡ map ends_written written
ends_seen [] = refl
ends_seen (e ∷ written) = ap (λ es. ends_written e ∷ es) (ends_seen written)

module _ (flat : FlatClass) (names : Names) (are : AreNamesOf flat.classes names) where
  kinds : kind_of_name names ≡ kind_named flat
  kinds = fun_ext (kind-named flat.classes names are)

  supertypes : misplaced (kind_of_name names) flat.classes ≡ misplaced_in flat
  supertypes = ap (λ kind. misplaced kind flat.classes) kinds

  pub refuses-supertype : (pos : Pos) (refusal : Refusal) → Some pos ≡ slice_get (misplaced (kind_of_name names) flat.classes) 0 → refusal ≡ record { rule = rule.SupertypeNotAbstract; pos = pos } → RefusesEdges flat (Refused refusal)
  refuses-supertype pos refusal first is = inl (record {
    first = ap (λ ps. slice_get ps 0) (sym supertypes) ∙ sym first ∙ ap (λ (r : Refusal). Some r.pos) (sym is);
    rule = ap (λ (r : Refusal). r.rule) is;
  })

  none_misplaced : None ≡ slice_get (misplaced (kind_of_name names) flat.classes) 0 → misplaced_in flat ≡ []
  none_misplaced none = sym supertypes ∙ none_first (misplaced (kind_of_name names) flat.classes) none

  module _ (written : List WrittenEdge) (all : seen written ≡ declared_edges (number_in names.places) flat.classes) where
    same : map ends_declared (declared_edges (class_place flat.classes 0) flat.classes) ≡ map ends_written written
    same = ap (λ number. map ends_declared (declared_edges number flat.classes)) (sym (fun_ext are.0)) ∙ ap (map ends_declared) (sym all) ∙ ends_seen written

    forth : (a b : ℕ) → IsBetween written a b → ClassEdge flat a b
    forth a b h = subst (λ ps. Contains ps (a, b)) (sym same) h

    back : (a b : ℕ) → ClassEdge flat a b → IsBetween written a b
    back a b h = subst (λ ps. Contains ps (a, b)) same h

    pub refuses-cycle : (fault : Rejection) → None ≡ slice_get (misplaced (kind_of_name names) flat.classes) 0 → RefusesCycle (IsBetween written) flat.classes fault → RefusesEdges flat fault
    refuses-cycle (Refused refusal) none cycle = inr (none_misplaced none, first_along (IsBetween written) (ClassEdge flat) forth back flat.classes refusal cycle)
    refuses-cycle (Failed why) none cycle = tt

    pub edges-right : None ≡ slice_get (misplaced (kind_of_name names) flat.classes) 0 → HasNoCycle (IsBetween written) flat.classes → AreEdgesRight flat
    edges-right none acyclic = record { supertypes = none_misplaced none; acyclic = none_along (IsBetween written) (ClassEdge flat) forth back flat.classes acyclic }

pub ruleset refusing = (refuses-supertype, refuses-cycle, edges-right)
