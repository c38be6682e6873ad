-- Whether a class is an ancestor of another in its tree, as a test.
use Rattle.std.specs.Prelude.{ℕ, zero, suc, ◌||◌, Bool, false, nat_eq, List, Option, None, Some, slice_get}
use Rattle.std.specs.Option.{option_map, option_map_or}
use Rattle.sa_hierarchy.specs.declared.links.ParentLink.{ParentLink}
use Rattle.sa_hierarchy.specs.Hierarchies.{depth_at}

-- the parent of a class, if it has one
abbrev pub parent_of : Option ParentLink → Option ℕ
parent_of None = None
parent_of (Some link) = option_map (λ (number : ℕ). link.parent) link.edge

-- whether the second class is the first or an ancestor of it in its tree, at most n classes up
unfoldable pub line_in : List ParentLink → ℕ → ℕ → ℕ → Bool
line_in links zero lower upper = nat_eq lower upper
line_in links (suc n) lower upper =
    nat_eq lower upper || option_map_or (λ parent. line_in links n parent upper) (parent_of (slice_get links lower)) false

abbrev pub in_line : List ParentLink → ℕ → ℕ → Bool
in_line links lower upper = line_in links (depth_at links lower) lower upper
