-- The subtypes of a program: the least relation that is reflexive and transitive, contains each declared edge at each instance, has `$OB`
-- as a supertype of every type, and relates bound types by the rule of their arguments and results. Positions of types don't count.
use Rattle.std.specs.Prelude.{◌≡◌, ℕ, Bool, true, false, cond, List, [], ◌∷◌, length, Option, Some, None, ◌⊎◌, Contains, nat_eq}
use Rattle.std.specs.Option.{option_map_or}
use Rattle.std.specs.Cmp.Lexicographic.{pointwise}
use Rattle.sa_ast.specs.declared.class.Class.{Class}
use Rattle.sa_ast.specs.declared.class.FlatClass.{FlatClass}
use Rattle.sa_ast.specs.declared.class.ClassKind.{ClassKind}
use Rattle.sa_ast.specs.declared.class.ClassKind.TheVariants as kind
use Rattle.sa_ast.specs.declared.ty.Mode.TheVariants.{In, Out, Inout, Once}
use Rattle.sa_ast.specs.declared.ty.Ty.{Ty}
use Rattle.sa_ast.specs.Types.{BareTy, Named, Same, Rout, Iter, no_types, type, BareArgs, no_args, arg, BareResult, no_result, gives, bare}
use Rattle.sa_subst.specs.AtTypes.{own_type, at_instance}
use Rattle.sa_subst.specs.Substitution.{place_of}

-- ---- what the classes declare

-- the first of the classes that has the name
abbrev pub class_named : List Class → List ℕ → Option Class
class_named [] name = None
class_named (c ∷ more) name = cond (pointwise nat_eq c.name.name name) (Some c) (class_named more name)

-- the class is the one of its name
abbrev pub IsClass : FlatClass → Class → Type 0
IsClass flat c = class_named flat.classes c.name.name ≡ Some c

-- a type of a class's header is a class: SAME, or the name of a class that is no parameter
abbrev pub IsClassIn : FlatClass → Class → BareTy → Type 0
IsClassIn flat c (Named name no_types) = (place_of c.params 0 name ≡ None) × ((d : Class) × (class_named flat.classes name ≡ Some d))
IsClassIn flat c (Named name (type t more)) = (d : Class) × (class_named flat.classes name ≡ Some d)
IsClassIn flat c Same = Unit {0}
IsClassIn flat c _ = ⊥

-- `class C < $A` declares C a subtype of $A, at each instance of C
abbrev pub DeclaresBelow : FlatClass → Class → BareTy → BareTy → Type 0
DeclaresBelow flat c s t =
    (given : List Ty) × (u : Ty)
    × (length given ≡ length c.params)
    × Contains c.below u
    × IsClassIn flat c (bare u)
    × (s ≡ bare (own_type c given))
    × (t ≡ bare (at_instance c given u))

-- `abstract class $A > C` declares C a subtype of $A, at each instance of $A
abbrev pub DeclaresAbove : FlatClass → Class → BareTy → BareTy → Type 0
DeclaresAbove flat c s t =
    (given : List Ty) × (u : Ty)
    × (length given ≡ length c.params)
    × Contains c.above u
    × IsClassIn flat c (bare u)
    × (s ≡ bare (at_instance c given u))
    × (t ≡ bare (own_type c given))

abbrev pub IsEdge : FlatClass → BareTy → BareTy → Type 0
IsEdge flat s t = (c : Class) × IsClass flat c × (DeclaresBelow flat c s t ⊎ DeclaresAbove flat c s t)

abbrev pub is_immutable_kind : ClassKind → Bool
is_immutable_kind kind.Immutable = true
is_immutable_kind _ = false

-- whether a type is an immutable class
abbrev pub is_immutable_type : FlatClass → BareTy → Bool
is_immutable_type flat (Named name args) = option_map_or (λ c. is_immutable_kind c.kind) (class_named flat.classes name) false
is_immutable_type flat _ = false

-- ---- the rules

-- `$OB`
abbrev pub top_name : List ℕ
top_name = 36 ∷ 79 ∷ 66 ∷ []

abbrev pub top : BareTy
top = Named top_name no_types

-- at an index of two bound types: the types are equal, or neither is an immutable class
abbrev pub MayOccur : (BareTy → Bool) → BareTy → BareTy → Type 0
MayOccur immutable s t = (s ≡ t) ⊎ ((immutable s ≡ false) × (immutable t ≡ false))

-- the least relation over these edges, where the immutable classes are these
mutual
  pub data Sub (Edge : BareTy → BareTy → Type 0) (immutable : BareTy → Bool) : BareTy → BareTy → Type 0 where
    itself : {t : BareTy} → Sub Edge immutable t t
    over : {s t u : BareTy} → Sub Edge immutable s t → Sub Edge immutable t u → Sub Edge immutable s u
    edge : {s t : BareTy} → Edge s t → Sub Edge immutable s t
    below_top : {s : BareTy} → Sub Edge immutable s top
    routine : {args others : BareArgs} {of other : BareResult} → SubArgs Edge immutable args others → SubResult Edge immutable of other
        → Sub Edge immutable (Rout args of) (Rout others other)
    iter : {args others : BareArgs} {of other : BareResult} → SubArgs Edge immutable args others → SubResult Edge immutable of other
        → Sub Edge immutable (Iter args of) (Iter others other)

  -- the arguments of a bound type and of a supertype: equally many, with equal modes; `in` and `once` are contravariant
  pub data SubArgs (Edge : BareTy → BareTy → Type 0) (immutable : BareTy → Bool) : BareArgs → BareArgs → Type 0 where
    none : SubArgs Edge immutable no_args no_args
    goes_in : {s t : BareTy} {args others : BareArgs} → MayOccur immutable s t → Sub Edge immutable t s → SubArgs Edge immutable args others
        → SubArgs Edge immutable (arg In s args) (arg In t others)
    goes_once : {s t : BareTy} {args others : BareArgs}
        → MayOccur immutable s t → Sub Edge immutable t s → SubArgs Edge immutable args others
        → SubArgs Edge immutable (arg Once s args) (arg Once t others)
    goes_both : {t : BareTy} {args others : BareArgs} → SubArgs Edge immutable args others
        → SubArgs Edge immutable (arg Inout t args) (arg Inout t others)
    goes_out : {s t : BareTy} {args others : BareArgs}
        → MayOccur immutable s t → Sub Edge immutable s t → SubArgs Edge immutable args others
        → SubArgs Edge immutable (arg Out s args) (arg Out t others)

  -- their results: both have one or neither has
  pub data SubResult (Edge : BareTy → BareTy → Type 0) (immutable : BareTy → Bool) : BareResult → BareResult → Type 0 where
    nothing : SubResult Edge immutable no_result no_result
    one : {s t : BareTy} → MayOccur immutable s t → Sub Edge immutable s t → SubResult Edge immutable (gives s) (gives t)

-- a type of the program is a subtype of another
abbrev pub IsSubtype : FlatClass → Ty → Ty → Type 0
IsSubtype flat s t = Sub (IsEdge flat) (is_immutable_type flat) (bare s) (bare t)
