-- The positions at which statements declare variables.
use Rattle.std.proofs.Common.{◌≡◌, ℕ, ◌+◌, ◌<◌, List, [], ◌∷◌, ◌++◌, Option, get_or, length, take, sym, ap, ◌∙◌, refl}
use Rattle.std.proofs.lemmas.List.{append-nil, map_more, take_more}
use Rattle.std.specs.List.{flat_map}
use Rattle.std.proofs.lemmas.Grind.{flat_map-append}
use Rattle.sa_ast.specs.declared.expr.Expr.{Expr}
use Rattle.sa_ast.specs.declared.pos.Pos.{Pos}
use Rattle.sa_ast.specs.declared.stmt.BranchArm.{BranchArm}
use Rattle.sa_ast.specs.declared.stmt.CaseArm.{CaseArm}
use Rattle.sa_ast.specs.declared.stmt.Local.{Local}
use Rattle.sa_ast.specs.declared.stmt.Stmt.{Stmt}
use Rattle.sa_ast.specs.declared.stmt.Stmt.TheOpen.{Stmt-F}
use Rattle.sa_ast.specs.declared.stmt.Stmt.TheVariants as s
use Rattle.sa_ast.specs.declared.stmt.Stmt.TheViews.{out-Stmt, roll-Stmt, out-roll-Stmt, roll-out-Stmt}
use Rattle.sa_ast.specs.declared.stmt.TypeArm.{TypeArm}
use Rattle.sa_ast.specs.declared.ty.Ty.{Ty}
use Rattle.sa_contracts.specs.AskedChecks.{declared_at, declared_level, name_positions}

declared-roll : (x : Stmt-F Stmt BranchArm CaseArm TypeArm) → declared_at (roll-Stmt x) ≡ declared_level x
unfolding declared_at
declared-roll x = ap declared_level (out-roll-Stmt x)

pub declared_at-Declare : (names : List Local) (ty : Option Ty) (value : Option Expr) → declared_at (s.Declare names ty value) ≡ name_positions names
declared_at-Declare names ty value = ap declared_at (sym (s.rolls-Declare names ty value)) ∙ declared-roll (Stmt-F.Declare names ty value)

level-other : (x : Stmt-F Stmt BranchArm CaseArm TypeArm) → ((names : List Local) (ty : Option Ty) (value : Option Expr) → x ≡ Stmt-F.Declare names ty value → ⊥) → declared_level x ≡ []
level-other (Stmt-F.Declare names ty value) other = absurd (other names ty value refl)
level-other _ other = refl

-- a statement that is no declaration
pub declared_at-other : (x : Stmt) → ((names : List Local) (ty : Option Ty) (value : Option Expr) → x ≡ s.Declare names ty value → ⊥) → declared_at x ≡ []
unfolding declared_at
declared_at-other x other =
    level-other (out-Stmt x) (λ names ty value is. other names ty value (sym (roll-out-Stmt x) ∙ ap roll-Stmt is ∙ s.rolls-Declare names ty value))

pub ruleset one = (declared_at-Declare, declared_at-other)

-- one name more, and one statement more
pub places_of-more : (names : List Local) (i : ℕ) (x : Local) → i < length names → x ≡ get_or names i x → name_positions (take (i + 1) names) ≡ name_positions (take i names) ++ x.pos ∷ []
places_of-more names i x within is =
    map_more (λ (name : Local). name.pos) names i x within ∙ ap (λ (name : Local). name_positions (take i names) ++ name.pos ∷ []) (sym is)

pub declared-more : (list : List Stmt) (i : ℕ) (x : Stmt) → i < length list → x ≡ get_or list i x → flat_map declared_at (take (i + 1) list) ≡ flat_map declared_at (take i list) ++ declared_at x
declared-more list i x within is =
    ap (flat_map declared_at) (take_more list i x within)
    ∙ flat_map-append declared_at (take i list) (get_or list i x ∷ [])
    ∙ ap (λ (ps : List Pos). flat_map declared_at (take i list) ++ ps) (append-nil (declared_at (get_or list i x)) ∙ ap declared_at (sym is))

pub ruleset names = (places_of-more)

pub ruleset all = (declared-more)
