-- How the nodes of a pair are matched against the arguments of two types:
-- the binding of a variable, and whether each node is that of the types.
use Rattle.std.specs.Prelude.{◌≡◌, ℕ, zero, suc, ◌+◌, Bool, true, false, cond, ◌&&◌, nat_eq, List}
use Rattle.std.specs.Prelude.{[], ◌∷◌, ◌++◌, length, map, drop, slice_get, Option, Some, None}
use Rattle.std.specs.Option.{option_map, option_or}
use Rattle.std.specs.Cmp.Lexicographic.{pointwise}
use Rattle.sa_ast.specs.declared.ty.Mode.{Mode}
use Rattle.sa_ast.specs.TypeEquality.{same_mode, same_type}
use Rattle.sa_ast.specs.Types.{BareTy, Named, Same, Rout, Iter, BareTys, no_types, type, BareArgs}
use Rattle.sa_ast.specs.Types.{no_args, arg, BareResult, no_result, gives, bare, bare_tys}
use Rattle.sa_unify.specs.declared.pattern.Node.{Node}
use Rattle.sa_unify.specs.declared.pattern.Node.TheVariants as node
use Rattle.sa_subtypes.specs.declared.node_match.NodeMatch.{NodeMatch}
use Rattle.sa_subtypes.specs.declared.node_match.NodeMatch.TheVariants as beside
use Rattle.sa_subtypes.specs.declared.seek.SearchResult.{SearchResult}
use Rattle.sa_subtypes.specs.declared.seek.SearchResult.TheVariants as finding
use Rattle.sa_subtypes.specs.declared.part.TypePart.{TypePart}
use Rattle.sa_subtypes.specs.declared.part.TypePart.TheVariants as part
use Rattle.sa_subtypes.specs.declared.question.Question.{Question}
use Rattle.sa_unify.specs.Spelled.{count_types, count_args, count_result, written_args, written_result}
use Rattle.sa_unify.specs.Spelled.{nowhere, same_nodes, spelled, spelled_all, Item, a_type, a_mode}
use Rattle.sa_unify.specs.Terms.{Values, AreTerms, substitute}

-- ---- the terms of types

abbrev pub spelled_args : BareArgs → List Node
spelled_args = written_args nowhere same_nodes

abbrev pub spelled_result : BareResult → List Node
spelled_result = written_result nowhere same_nodes

-- a type or the mode of an argument as a term
abbrev pub term_of : Item → List Node
term_of (a_type t) = spelled t
term_of (a_mode m) = node.Passed m ∷ []

-- ---- whether two types are an instance of a pair

-- the nodes are those of a pair with as many arguments as the types have, and these are the types' with terms for the variables
abbrev pub IsPairFor : List Node → BareTys → BareTys → Type 0
IsPairFor nodes lower upper =
    (name : List ℕ) × (below : List Node) × (above : List Node) × (values : Values)
    × (nodes ≡ node.List (count_types lower) ∷ below ++ node.Class name (count_types upper) ∷ above)
    × AreTerms values
    × (substitute values below ≡ spelled_all lower)
    × (substitute values above ≡ spelled_all upper)

-- ---- one node

abbrev pub is_class : List ℕ → ℕ → Node → Bool
is_class name count (node.Class own other) = pointwise nat_eq own name && nat_eq other count
is_class name count _ = false

abbrev pub is_list : ℕ → Node → Bool
is_list count (node.List other) = nat_eq other count
is_list count _ = false

abbrev pub is_routine : ℕ → Node → Bool
is_routine count (node.Routine other) = nat_eq other count
is_routine count _ = false

abbrev pub is_iter : ℕ → Node → Bool
is_iter count (node.Iter other) = nat_eq other count
is_iter count _ = false

abbrev pub is_passed : Mode → Node → Bool
is_passed m (node.Passed other) = same_mode other m
is_passed m _ = false

-- whether it is the node with which the term of a type begins
abbrev pub is_type_head : BareTy → Node → Bool
is_type_head (Named name args) a = is_class name (count_types args) a
is_type_head Same a = is_list 0 a
is_type_head (Rout args of) a = is_routine (count_args args + count_result of) a
is_type_head (Iter args of) a = is_iter (count_args args + count_result of) a

abbrev pub is_head : Item → Node → Bool
is_head (a_type t) a = is_type_head t a
is_head (a_mode m) a = is_passed m a

-- the match of the head of nodes against an item: a variable, or the node with which the item begins, and the nodes after it
pub data Met : Type 0 where
  a_variable : ℕ → List Node → Met
  a_head : List Node → Met
  another : Met

abbrev pub headed : Bool → List Node → Met
headed true rest = a_head rest
headed false rest = another

abbrev pub node_meets : Item → List Node → Node → Met
node_meets i rest (node.Variable number) = a_variable number rest
node_meets i rest (node.Class name count) = headed (is_head i (node.Class name count)) rest
node_meets i rest (node.Routine count) = headed (is_head i (node.Routine count)) rest
node_meets i rest (node.Iter count) = headed (is_head i (node.Iter count)) rest
node_meets i rest (node.Passed mode) = headed (is_head i (node.Passed mode)) rest
node_meets i rest (node.List count) = headed (is_head i (node.List count)) rest

unfoldable pub meets : Item → List Node → Met
meets i [] = another
meets i (a ∷ rest) = node_meets i rest a

-- ---- matching nodes against types

-- the result so far: an item that was searched for, the nodes after the types, or a mismatch
pub data Seen : Type 0 where
  found : Item → Seen
  past : List Node → Seen
  unlike : Seen

abbrev pub seen_then : Seen → (List Node → Seen) → Seen
seen_then (found i) next = found i
seen_then (past rest) next = next rest
seen_then unlike next = unlike

-- at a variable it does what `visit` says of the item there
module _ (visit : ℕ → Item → List Node → Seen) where
  abbrev pub met_then : Item → (List Node → Seen) → Met → Seen
  met_then i inner (a_variable number rest) = visit number i rest
  met_then i inner (a_head rest) = inner rest
  met_then i inner another = unlike

  unfoldable pub walk_mode : Mode → List Node → Seen
  walk_mode m nodes = met_then (a_mode m) past (meets (a_mode m) nodes)

  unfoldable mutual
    pub walk_inside : BareTy → List Node → Seen
    walk_inside (Named name args) nodes = walk_all args nodes
    walk_inside Same nodes = past nodes
    walk_inside (Rout args of) nodes = seen_then (walk_args args nodes) (λ rest. walk_result of rest)
    walk_inside (Iter args of) nodes = seen_then (walk_args args nodes) (λ rest. walk_result of rest)

    pub walk_all : BareTys → List Node → Seen
    walk_all no_types nodes = past nodes
    walk_all (type t more) nodes =
        seen_then (met_then (a_type t) (λ rest. walk_inside t rest) (meets (a_type t) nodes)) (λ rest. walk_all more rest)

    pub walk_args : BareArgs → List Node → Seen
    walk_args no_args nodes = past nodes
    walk_args (arg m t more) nodes =
        seen_then (seen_then (walk_mode m nodes) (λ next. met_then (a_type t) (λ rest. walk_inside t rest) (meets (a_type t) next)))
        (λ rest. walk_args more rest)

    pub walk_result : BareResult → List Node → Seen
    walk_result no_result nodes = past nodes
    walk_result (gives t) nodes = met_then (a_type t) (λ rest. walk_inside t rest) (meets (a_type t) nodes)

  unfoldable pub walk : BareTy → List Node → Seen
  walk t nodes = met_then (a_type t) (λ rest. walk_inside t rest) (meets (a_type t) nodes)

  unfoldable pub walk_arg : Mode × BareTy → List Node → Seen
  walk_arg a nodes = seen_then (walk_mode a.0 nodes) (λ next. walk a.1 next)

-- ---- the binding of a variable

abbrev pub sought : Bool → Item → List Node → Seen
sought true i rest = found i
sought false i rest = past rest

-- searches for the item that the first occurrence of a variable matches; with no variable it goes past each
abbrev pub is_wanted : Option ℕ → ℕ → Bool
is_wanted None other = false
is_wanted (Some number) other = nat_eq other number

unfoldable pub seeking : Option ℕ → ℕ → Item → List Node → Seen
seeking wanted other i rest = sought (is_wanted wanted other) i rest

abbrev pub item_seen : Seen → Option Item
item_seen (found i) = Some i
item_seen (past rest) = None
item_seen unlike = None

unfoldable pub first_in : ℕ → BareTys → List Node → Option Item
first_in number types nodes = item_seen (walk_all (seeking (Some number)) types nodes)

abbrev pub is_number : ℕ → Node → Bool
is_number from (node.Variable number) = nat_eq number from
is_number from _ = false

-- whether nodes begin with n variables, numbered in order
unfoldable pub counts_up : ℕ → ℕ → List Node → Bool
counts_up from zero nodes = true
counts_up from (suc n) [] = false
counts_up from (suc n) (a ∷ nodes) = is_number from a && counts_up (suc from) n nodes

-- the binding of a variable in the first nodes, matched against these types; if the nodes are plain variables, it is the type at its number
abbrev pub value_below : Bool → List BareTy → List Node → ℕ → Option Item
value_below plain lower nodes number = cond plain (option_map a_type (slice_get lower number)) (first_in number (bare_tys lower) nodes)

-- the binding of a variable: the item that its first occurrence matches, in the subtype's nodes or else in the supertype's
unfoldable pub value_from : Bool → List BareTy → List BareTy → List Node → List Node → ℕ → Option Item
value_from plain lower upper nodes above number = option_or (value_below plain lower nodes number) (first_in number (bare_tys upper) above)

abbrev pub value_in : Question → ℕ → Option Item
value_in q = value_from q.plain (map bare q.lower.now) (map bare q.upper.now) q.nodes.now q.above.now

-- ---- whether the nodes are those of the types

abbrev pub same_item : Item → Item → Bool
same_item (a_type t) (a_type u) = same_type t u
same_item (a_type t) (a_mode m) = false
same_item (a_mode m) (a_type t) = false
same_item (a_mode m) (a_mode n) = same_mode m n

abbrev pub occurs : Option Item → Item → Bool
occurs None i = false
occurs (Some own) i = same_item own i

abbrev pub passed_if : Bool → List Node → Seen
passed_if true rest = past rest
passed_if false rest = unlike

-- goes past a variable if the item is its binding
unfoldable pub comparing : (ℕ → Option Item) → ℕ → Item → List Node → Seen
comparing value number i rest = passed_if (occurs (value number) i) rest

abbrev pub is_past : Seen → Bool
is_past (past rest) = true
is_past (found i) = false
is_past unlike = false

abbrev pub is_end : Seen → Bool
is_end (past []) = true
is_end (past (a ∷ rest)) = false
is_end (found i) = false
is_end unlike = false

-- the arguments of both types
unfoldable pub both_fit : (ℕ → Option Item) → List BareTy → List BareTy → List Node → List Node → Bool
both_fit value lower upper nodes above =
    is_past (walk_all (comparing value) (bare_tys lower) nodes) && is_end (walk_all (comparing value) (bare_tys upper) above)

abbrev pub class_fits : List BareTy → List BareTy → List Node → List Node → Node → Bool
class_fits lower upper nodes above (node.Class name count) =
    nat_eq count (length upper) && both_fit (value_from (counts_up 0 (length lower) nodes) lower upper nodes above) lower upper nodes above
class_fits lower upper nodes above _ = false

-- the nodes after the arguments of the subtype are a supertype that matches
unfoldable pub upper_fits : List BareTy → List BareTy → List Node → Seen → Bool
upper_fits lower upper nodes (past []) = false
upper_fits lower upper nodes (past (a ∷ above)) = class_fits lower upper nodes above a
upper_fits lower upper nodes (found i) = false
upper_fits lower upper nodes unlike = false

abbrev pub first_fits : List BareTy → List BareTy → List Node → Node → Bool
first_fits lower upper nodes (node.List count) =
    nat_eq count (length lower) && upper_fits lower upper nodes (walk_all (seeking None) (bare_tys lower) nodes)
first_fits lower upper nodes _ = false

unfoldable pub pair_fits : List BareTy → List BareTy → List Node → Bool
pair_fits lower upper [] = false
pair_fits lower upper (a ∷ nodes) = first_fits lower upper nodes a

-- ---- what the code finds

abbrev pub item_of : TypePart → Item
item_of (part.Typed t) = a_type (bare t.now)
item_of (part.Passed m) = a_mode m

abbrev pub met : List Node → NodeMatch → Met
met nodes (beside.Variable number next) = a_variable number (drop next nodes)
met nodes (beside.Head next) = a_head (drop next nodes)
met nodes beside.Another = another

abbrev pub seen : List Node → SearchResult → Seen
seen nodes (finding.Here p) = found (item_of p)
seen nodes (finding.Behind next) = past (drop next nodes)
seen nodes finding.Nothing = unlike

abbrev pub reached : List Node → Option ℕ → Seen
reached nodes None = unlike
reached nodes (Some next) = past (drop next nodes)
