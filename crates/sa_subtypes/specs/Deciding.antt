-- What the tables answer: whether declared edges lead from a class with its arguments to another.
use Rattle.std.specs.Prelude.{ℕ, zero, suc, ◌-◌, ◌||◌, ◌&&◌, not, Bool, false, nat_eq, List, [], ◌∷◌, length, Option, None, Some, slice_get}
use Rattle.sa_ast.specs.Types.{BareTy, BareTys, no_types, type, bare_tys}
use Rattle.sa_ast.specs.TypeEquality.{same_types}
use Rattle.sa_hierarchy.specs.declared.class_hierarchy.Ancestor.{Ancestor}
use Rattle.sa_hierarchy.specs.declared.links.ParentLink.{ParentLink}
use Rattle.sa_hierarchy.specs.Hierarchies.{Tables}
use Rattle.sa_hierarchy.specs.Lines.{in_line}
use Rattle.sa_subtypes.specs.Questions.{pair_fits}

-- ---- the lists

-- whether one of n numbers from one on passes the test
unfoldable pub some_place : (ℕ → Bool) → ℕ → ℕ → Bool
some_place test from zero = false
some_place test from (suc n) = test from || some_place test (suc from) n

module _ (w : Tables) where
  -- whether a class is an ancestor of another in its tree, at the same arguments
  unfoldable pub in_tree : ℕ → List BareTy → ℕ → List BareTy → Bool
  in_tree lower args upper above =
      not (nat_eq lower upper)
      && nat_eq (length args) (w.arity lower)
      && same_types (bare_tys args) (bare_tys above)
      && in_line w.links lower upper

  -- whether a pair leads from a class with these arguments to a class, or to one that has it as an ancestor in its tree
  unfoldable pub is_by : Ancestor → List BareTy → ℕ → List BareTy → Bool
  is_by entry args upper above =
      (nat_eq entry.upper upper || nat_eq (length above) (w.arity upper))
      && in_line w.links entry.upper upper
      && pair_fits args above (w.nodes entry.pair)

  abbrev pub entry_by : ℕ → List BareTy → ℕ → List BareTy → Option Ancestor → Bool
  entry_by root args upper above None = false
  entry_by root args upper above (Some entry) = nat_eq entry.class root && is_by entry args upper above

  -- the same of the pair at an index
  unfoldable pub place_by : ℕ → List BareTy → ℕ → List BareTy → ℕ → Bool
  place_by root args upper above place = entry_by root args upper above (slice_get w.above place)

  -- whether a pair of a root's list does
  abbrev pub range_by : ℕ → List BareTy → ℕ → List BareTy → Option (ℕ × ℕ) → Bool
  range_by root args upper above None = false
  range_by root args upper above (Some range) = some_place (place_by root args upper above) range.0 (range.1 - range.0)

  unfoldable pub list_by : ℕ → List BareTy → ℕ → List BareTy → Bool
  list_by root args upper above = range_by root args upper above (slice_get w.lists root)

  -- whether a pair of the list of the class's root does, if the class is the root or has as many arguments as parameters
  abbrev pub link_by : ℕ → List BareTy → ℕ → List BareTy → Option ParentLink → Bool
  link_by lower args upper above None = false
  link_by lower args upper above (Some link) =
      (nat_eq link.root lower || nat_eq (length args) (w.arity lower)) && list_by link.root args upper above

  unfoldable pub in_list : ℕ → List BareTy → ℕ → List BareTy → Bool
  in_list lower args upper above = link_by lower args upper above (slice_get w.links lower)

  -- whether edges lead from a class with these arguments to another
  unfoldable pub found_in : ℕ → List BareTy → ℕ → List BareTy → Bool
  found_in lower args upper above = in_tree lower args upper above || in_list lower args upper above

  -- the same if a name may be that of no class
  abbrev pub found_between : Option ℕ → List BareTy → Option ℕ → List BareTy → Bool
  found_between (Some lower) args (Some upper) above = found_in lower args upper above
  found_between (Some lower) args None above = false
  found_between None args upper above = false

-- the types in order
abbrev pub types_in : BareTys → List BareTy
types_in no_types = []
types_in (type t more) = t ∷ types_in more
