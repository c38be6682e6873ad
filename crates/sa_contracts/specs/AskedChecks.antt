-- Which conditions and words `initial` of a program must be quiet, feature by feature.
use Rattle.std.specs.Prelude.{ℕ, ◌+◌, Bool, ◌&&◌, nat_eq, List, [], ◌∷◌, ◌++◌, map, Option, None, Some, if◌then◌else◌}
use Rattle.std.specs.List.{flat_map}
use Rattle.indexmap.specs.IndexMap.{get}
use Rattle.sa_ast.specs.declared.class.Class.{Class}
use Rattle.sa_ast.specs.declared.class.Feature.{Feature}
use Rattle.sa_ast.specs.declared.class.FeatureBody.{FeatureBody}
use Rattle.sa_ast.specs.declared.class.FeatureBody.TheVariants as part
use Rattle.sa_ast.specs.declared.contract.Condition.{Condition}
use Rattle.sa_ast.specs.declared.pos.Pos.{Pos}
use Rattle.sa_ast.specs.declared.stmt.BranchArm.{BranchArm}
use Rattle.sa_ast.specs.declared.stmt.CaseArm.{CaseArm}
use Rattle.sa_ast.specs.declared.stmt.Local.{Local}
use Rattle.sa_ast.specs.declared.stmt.Stmt.{Stmt}
use Rattle.sa_ast.specs.declared.stmt.Stmt.TheOpen.{Stmt-F}
use Rattle.sa_ast.specs.declared.stmt.Stmt.TheViews.{out-Stmt}
use Rattle.sa_ast.specs.declared.stmt.TypeArm.{TypeArm}
use Rattle.sa_contracts.specs.declared.checks.BodyChecks.{BodyChecks}
use Rattle.sa_contracts.specs.declared.checks.Checks.{Checks}
use Rattle.sa_contracts.specs.WovenClasses.{Duties, FeatureDuties, has_duties, post_declared}

-- ---- in a body

-- the position of a condition, if there is one
abbrev pub position_of : Option Condition → List Pos
position_of None = []
position_of (Some condition) = condition.pos ∷ []

-- those of the `pre`, of the `post` and of the invariant
abbrev pub positions_of : Duties → List Pos
positions_of d = position_of d.pre ++ position_of d.post ++ position_of d.invariant

abbrev pub name_positions : List Local → List Pos
name_positions names = map (λ (name : Local). name.pos) names

-- the positions at which a statement declares variables
abbrev pub declared_level : Stmt-F Stmt BranchArm CaseArm TypeArm → List Pos
declared_level (Stmt-F.Declare names ty value) = name_positions names
declared_level other = []

unfoldable pub declared_at : Stmt → List Pos
declared_at s = declared_level (out-Stmt s)

-- its conditions, by where they are written, and its words `initial`, by where the variables of the `post` are declared, in order
abbrev pub body_checks : Duties → BodyChecks
body_checks d = record { conditions = positions_of d; initials = flat_map declared_at (post_declared d.post) }

-- ---- in a program, in the order of the features

-- the checks of a feature, which is identified by the position of its name
pub record NamedChecks : Type 0 where
  pub name : Pos
  pub checks : BodyChecks

-- a routine or an iter that has something to keep has checks
abbrev pub part_checks : Pos → Duties → FeatureBody → List NamedChecks
part_checks name d (part.Routine body) = if has_duties d then record { name = name; checks = body_checks d } ∷ [] else []
part_checks name d other = []

abbrev pub feature_checks : Feature → Duties → List NamedChecks
feature_checks f d = part_checks f.name.pos d f.part

-- those of the features of a class from a number on
abbrev pub features_checks : FeatureDuties → ℕ → ℕ → List Feature → List NamedChecks
features_checks keeps class from [] = []
features_checks keeps class from (f ∷ more) =
    feature_checks f (keeps class from f) ++ features_checks keeps class (from + 1) more

-- those of the classes of a program from a number on
abbrev pub woven_checks : FeatureDuties → ℕ → List Class → List NamedChecks
woven_checks keeps from [] = []
woven_checks keeps from (c ∷ more) = features_checks keeps from 0 c.features ++ woven_checks keeps (from + 1) more

-- ---- which checks of a feature must be quiet

abbrev pub same_pos : Pos → Pos → Bool
same_pos a b = nat_eq a.file b.file && nat_eq a.at b.at

-- by the position of its name
abbrev pub Asked : Type 0
Asked = Pos → Option BodyChecks

abbrev pub asked_by : Checks → Asked
asked_by c name = get same_pos c.by_name name

abbrev pub nothing_asked : Asked
nothing_asked name = None

-- those of the first with this name in the list, or else a default
abbrev pub asked_first : List NamedChecks → Asked → Asked
asked_first [] others name = others name
asked_first (f ∷ more) others name = if same_pos f.name name then Some f.checks else asked_first more others name

-- just those of the list
abbrev pub asked : List NamedChecks → Asked
asked list = asked_first list nothing_asked
