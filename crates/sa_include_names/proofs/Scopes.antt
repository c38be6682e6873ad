-- What names denote in a class, by its tables.
use Rattle.std.proofs.Common.{◌≡◌, ℕ, Bool, List, [], ◌∷◌, Option, None, Some, slice_get, refl, sym, ap, ◌∙◌}
use Rattle.std.proofs.Math.Path.{fun_ext}
use Rattle.sa_ast.specs.declared.class.Class.{Class}
use Rattle.sa_ast.specs.declared.pos.Pos.{Pos}
use Rattle.sa_ast.specs.declared.refusal.Refusal.{Refusal}
use Rattle.sa_ast.specs.declared.rule.Rule.TheVariants as rule
use Rattle.sa_include_names.specs.declared.names.ClassNumbers.{ClassNumbers}
use Rattle.sa_include_names.specs.declared.names.ParamNames.{ParamNames}
use Rattle.sa_include_names.specs.Headers.{misused_class, misused_in, misused_names}
use Rattle.sa_include_names.specs.Names.{hides, number_of}
use Rattle.sa_include_names.specs.Tables.{HasNumbers, HasParams, MisusedAt, NoneMisused, hidden_in, number_in}

pub class_is : (classes : List Class) (numbers : ClassNumbers) (arrays : List Bool) (params : ParamNames) (c : Class) (found : Option Pos) → found ≡ slice_get (misused_in classes (number_in numbers) arrays c.kind (hidden_in params) c) 0 → HasNumbers classes numbers → HasParams c.params params → found ≡ slice_get (misused_class classes arrays c) 0
class_is classes numbers arrays params c found is numbered named =
    is ∙ ap (λ f. slice_get (misused_in classes f arrays c.kind (hidden_in params) c) 0) (fun_ext numbered.each)
    ∙ ap (λ f. slice_get (misused_in classes (number_of classes) arrays c.kind f c) 0) (fun_ext named)

pub names-none : (classes : List Class) (arrays : List Bool) (found : Option Pos) → found ≡ slice_get (misused_names classes arrays) 0 → found ≡ None → NoneMisused classes arrays
names-none classes arrays found is none = record { none = by (misused_names classes arrays) (sym is ∙ none) }
  where
    by : (ps : List Pos) → slice_get ps 0 ≡ None → ps ≡ []
    by [] h = refl
    by (p ∷ ps) h = cc

pub misused-at : (classes : List Class) (arrays : List Bool) (found : Option Pos) (pos : Pos) (refusal : Refusal) → found ≡ slice_get (misused_names classes arrays) 0 → found ≡ Some pos → refusal ≡ record { rule = rule.ClassNotUsable; pos = pos } → MisusedAt classes arrays refusal
misused-at classes arrays found pos refusal is some refused = record {
  first = sym is ∙ some ∙ ap (λ (r : Refusal). Some r.pos) (sym refused);
  rule = ap (λ (r : Refusal). r.rule) refused;
}

pub ruleset scopes = (class_is)

pub ruleset misused_first = (names-none, misused-at)
