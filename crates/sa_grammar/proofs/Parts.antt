-- What parts of classes spell, by names of its own: the types of such parts aren't exported, so they are taken from the relations of
-- the grammar, and so are the ways to make them.
use Rattle.std.specs.Prelude.{List, [], refl}
use Rattle.sa_ast.specs.declared.class.Access.TheVariants.{Public}
use Rattle.sa_ast.specs.declared.class.ClassKind.TheVariants.{Reference}
use Rattle.sa_ast.specs.declared.class.Feature.{Feature}
use Rattle.sa_ast.specs.declared.contract.Condition.{Condition}
use Rattle.sa_parser_expr.specs.Readings.{Spelling}
use Rattle.sa_parser.specs.declared.file.FileKind.TheVariants.{Program}
use Rattle.sa_parser.specs.Signatures.{IsSig}
use Rattle.sa_parser.specs.Conditions.{IsClauses, IsInvariant}
use Rattle.sa_parser.specs.Features as features
use Rattle.sa_parser.specs.Features.{Enclosing, IsPrivate, IsOptionalChanges, IsSharedParts, IsDeclared, IsCalled, IsMember}
use Rattle.sa_parser.specs.Classes.{IsAbstractHead}

-- what a relation gives
abbrev spelled_by : {A : Type 0} → Spelling A → Type 0
spelled_by {A = A} R = A

abbrev pub Signature : Type 0
Signature = spelled_by IsSig

abbrev pub Clauses : Type 0
Clauses = spelled_by (IsClauses Program)

abbrev pub SharedParts : Type 0
SharedParts = spelled_by IsSharedParts

abbrev pub Head : Type 0
Head = spelled_by IsAbstractHead

-- any class, of which only a type is needed
abbrev any_class : Enclosing
any_class = record { name = []; kind = Reference; file_kind = Program }

abbrev pub Declaration : Type 0
Declaration = spelled_by (IsMember any_class)

-- what comes after the words of access, as a member
abbrev behind_access : {m : Declaration} {A : Type 0} → (A → IsMember any_class [] m) → Declaration
behind_access {m = m} gives = m

abbrev pub called_of : Feature → Clauses → Declaration
called_of feature clauses =
    behind_access (λ (h : IsCalled any_class Public [] feature clauses). features.called features.IsPrivate.absent h)

abbrev pub variables_of : List Feature → Declaration
variables_of all =
    behind_access (λ (h : IsDeclared Public [] all). features.declared (features.private features.IsPrivate.absent) h)

abbrev pub invariant_of : Condition → Declaration
invariant_of holds = behind_access (λ (h : IsInvariant [] holds). features.invariant refl h)
