-- Which types are abstract.
use Rattle.std.specs.Prelude.{Bool, false, ℕ, List, [], ◌∷◌, nat_eq}
use Rattle.sa_ast.specs.declared.ty.Ty.{Ty}
use Rattle.sa_ast.specs.Types.{BareTy, Named, bare}

-- the first byte of a name is `$`
abbrev pub begins_dollar : List ℕ → Bool
begins_dollar [] = false
begins_dollar (c ∷ more) = nat_eq c 36

-- the same of a type without positions
abbrev pub is_abstract_bare : BareTy → Bool
is_abstract_bare (Named name params) = begins_dollar name
is_abstract_bare _ = false

-- the name of the type begins with `$`
unfoldable pub is_abstract_type : Ty → Bool
is_abstract_type t = is_abstract_bare (bare t)
