-- The types of a class at given types.
use Rattle.std.specs.Prelude.{List}
use Rattle.sa_ast.specs.declared.class.Class.{Class}
use Rattle.sa_ast.specs.declared.ty.Ty.{Ty}
use Rattle.sa_ast.specs.declared.ty.Ty.TheVariants as ty
use Rattle.sa_subst.specs.Substitution.{given_for, substituted}

-- the type that a class is at these types
abbrev pub own_type : Class → List Ty → Ty
own_type c given = ty.Named c.name.name given c.name.pos

-- a type that is written in a class, with the given types substituted for the parameters, and the class's own type at them
-- for SAME
abbrev pub at_instance : Class → List Ty → Ty → Ty
at_instance c given = substituted (given_for c.params given) (own_type c given)
