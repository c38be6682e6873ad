-- How many machine steps the module of a program may take, by the size of the program and the turns that it spends.
use Rattle.std.specs.Prelude.{ℕ, ◌+◌, ◌*◌, max, fold, List, ◌++◌, map, length}
use Rattle.sa_typed.specs.Nodes.{option_expr_nodes, stmts_nodes}
use Rattle.sa_semantics.specs.Program.{Feature, Program, SharedRow}

-- the greatest of these numbers, and 0 of none
abbrev pub greatest : List ℕ → ℕ
greatest = fold max 0

-- the nodes and the variables of a feature
abbrev pub feature_size : Feature → ℕ
feature_size f = stmts_nodes f.body + length f.vars

-- the nodes of a shared's initialiser, which has no variables
abbrev pub shared_size : SharedRow → ℕ
shared_size s = option_expr_nodes s.start

-- the size of the largest feature or initialiser
abbrev pub largest_feature : Program → ℕ
largest_feature p = greatest (map feature_size p.features ++ map shared_size p.shareds)

-- the attributes of the class that has most
abbrev pub most_attributes : Program → ℕ
most_attributes p = greatest (map (λ t. length t.attrs) p.types)

-- the bound of the program: the most machine steps for a turn
abbrev pub steps_a_turn : Program → ℕ
steps_a_turn p = 1000 + 1000000 * (largest_feature p + 1) * (most_attributes p + length p.types + 1)

-- the most machine steps for so many turns, and for the beginning, which counts as one more
abbrev pub steps_for : Program → (turns : ℕ) → ℕ
steps_for p turns = steps_a_turn p * (turns + 1)
