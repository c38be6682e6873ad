-- The classes of a program with the checks of its contracts in the bodies of their features.
use Rattle.std.specs.Prelude.{ℕ, ◌+◌, ◌==◌, List, [], ◌∷◌, ◌++◌, map, fold}
use Rattle.std.specs.Prelude.{Option, None, Some, is_some, if◌then◌else◌}
use Rattle.std.specs.Prelude.{Bool, true, false, not, ◌&&◌, ◌||◌, nat_eq, codes}
use Rattle.std.specs.List.{ends_with}
use Rattle.sa_ast.specs.declared.class.Access.{Access}
use Rattle.sa_ast.specs.declared.class.Access.TheVariants as access
use Rattle.sa_ast.specs.declared.class.Class.{Class}
use Rattle.sa_ast.specs.declared.class.Feature.{Feature}
use Rattle.sa_ast.specs.declared.class.FeatureBody.{FeatureBody}
use Rattle.sa_ast.specs.declared.class.FeatureBody.TheVariants as part
use Rattle.sa_ast.specs.declared.contract.Condition.{Condition}
use Rattle.sa_ast.specs.declared.contract.Contract.{Contract}
use Rattle.sa_ast.specs.declared.contract.Contract.TheVariants as contract
use Rattle.sa_ast.specs.declared.stmt.Stmt.{Stmt}
use Rattle.sa_contracts.specs.Assertions.{asserts_of, unless_void}
use Rattle.sa_contracts.specs.ExitChecks.{leaving}
use Rattle.sa_contracts.specs.InitialValues.{replaced, declared_by}

-- ---- what a feature has to keep

-- its `pre`, its `post`, and the invariant of the class that writes it, if it keeps that
pub record Duties : Type 0 where
  pub pre : Option Condition
  pub post : Option Condition
  pub invariant : Option Condition

-- the `pre` and the `post` that are written for a feature; of several, the last
abbrev pub clauses_after : ℕ → ℕ → Option Condition × Option Condition → Contract → Option Condition × Option Condition
clauses_after class feature before (contract.Clauses of at pre post) =
    if (of == class) && (at == feature) then (pre, post) else before
clauses_after class feature before (contract.Invariant of holds) = before

abbrev pub clauses_of : List Contract → ℕ → ℕ → Option Condition × Option Condition
clauses_of contracts class feature = fold (clauses_after class feature) (None, None) contracts

-- the invariant of a class; of several, the last
abbrev pub invariant_after : ℕ → Option Condition → Contract → Option Condition
invariant_after class before (contract.Clauses of at pre post) = before
invariant_after class before (contract.Invariant of holds) = if of == class then Some holds else before

abbrev pub invariant_of : List Contract → ℕ → Option Condition
invariant_of contracts class = fold (invariant_after class) None contracts

-- a name is that of an iter: it ends in `!`
abbrev pub is_iter_name : List ℕ → Bool
is_iter_name name = ends_with nat_eq name (codes "!")

abbrev pub is_public : Access → Bool
is_public access.Public = true
is_public _ = false

-- a public routine keeps the invariant of the class that writes it
abbrev pub keeps_invariant : Feature → Bool
keeps_invariant f = is_public f.access && not (is_iter_name f.name.name)

abbrev pub duties : Option Condition × Option Condition → Option Condition → Feature → Duties
duties both invariant f = record {
  pre = both.0;
  post = both.1;
  invariant = if keeps_invariant f then invariant else None;
}

-- what the contracts of a program say of the feature with this number in the class with this number
abbrev pub duties_of : List Contract → ℕ → ℕ → Feature → Duties
duties_of contracts class feature f = duties (clauses_of contracts class feature) (invariant_of contracts class) f

-- ---- a body

-- the `post` with variables in place of its `initial`s
abbrev pub checked_post : Option Condition → List Condition
checked_post None = []
checked_post (Some post) = record { test = replaced post.test []; pos = post.pos } ∷ []

-- the declarations of these variables
abbrev pub post_declared : Option Condition → List Stmt
post_declared None = []
post_declared (Some post) = declared_by post.test []

abbrev pub checked_invariant : Option Condition → List Condition
checked_invariant None = []
checked_invariant (Some invariant) = unless_void invariant ∷ []

-- what is checked where the feature returns, yields or ends without a value: the `post`, and after it the invariant
abbrev pub checked_conditions : Duties → List Condition
checked_conditions d = checked_post d.post ++ checked_invariant d.invariant

abbrev pub pre_asserted : Option Condition → List Stmt
pre_asserted None = []
pre_asserted (Some pre) = asserts_of (pre ∷ [])

-- execution may reach the end of a routine without a result
abbrev pub ends_without_value : Feature → Bool
ends_without_value f = not (is_some f.result) && not (is_iter_name f.name.name)

-- there the conditions are checked at its end too
abbrev pub end_checks : Feature → List Condition → List Stmt
end_checks f conditions = if ends_without_value f then asserts_of conditions else []

-- the `pre` is asserted, the `initial`s are saved, and then come the statements, each `return` and `yield` of which is checked
abbrev pub woven_body : Feature → Duties → List Stmt → List Stmt
woven_body f d body =
    pre_asserted d.pre ++ post_declared d.post
    ++ map (leaving (checked_conditions d) f.result) body
    ++ end_checks f (checked_conditions d)

-- ---- features and classes, by what each feature has to keep: by the number of its class, its own, and the feature

abbrev pub FeatureDuties : Type 0
FeatureDuties = ℕ → ℕ → Feature → Duties

abbrev pub has_duties : Duties → Bool
has_duties d = is_some d.pre || is_some d.post || is_some d.invariant

-- a routine or an iter that has something to keep has its body woven, and all else is unchanged
abbrev pub woven_part : Feature → Duties → FeatureBody → FeatureBody
woven_part f d (part.Routine body) = if has_duties d then part.Routine (woven_body f d body) else part.Routine body
woven_part f d other = other

abbrev pub woven_feature : Feature → Duties → Feature
woven_feature f d = record f { part = woven_part f d f.part }

-- the features of a class from a number on
abbrev pub woven_features : FeatureDuties → ℕ → ℕ → List Feature → List Feature
woven_features keeps class from [] = []
woven_features keeps class from (f ∷ more) =
    woven_feature f (keeps class from f) ∷ woven_features keeps class (from + 1) more

abbrev pub woven_class : FeatureDuties → ℕ → Class → Class
woven_class keeps number c = record c { features = woven_features keeps number 0 c.features }

-- the classes of a program from a number on
abbrev pub woven_classes : FeatureDuties → ℕ → List Class → List Class
woven_classes keeps from [] = []
woven_classes keeps from (c ∷ more) = woven_class keeps from c ∷ woven_classes keeps (from + 1) more
