-- Each step of the matching that the code does.
use Rattle.std.proofs.Common.{◌≡◌, ℕ, zero, suc, ◌+◌, ◌-◌, ◌*◌, ◌<◌, ◌≤◌, Bool, true, false, ◌&&◌, cond, nat_eq, List, [], ◌∷◌, length, get_or, drop, map, Option, Some, None, refl, sym, ap, ◌∙◌, arith}
use Rattle.std.specs.Prelude.{slice_get}
use Rattle.std.specs.Option.{option_map, option_or}
use Rattle.std.proofs.lemmas.Bool.Decides.{nat_tests}
use Rattle.std.proofs.lemmas.List.{drop_more, drop_all, length-map}
use Rattle.sa_ast.specs.declared.pos.Pos.{Pos}
use Rattle.sa_ast.specs.declared.ty.Mode.{Mode}
use Rattle.sa_ast.specs.declared.ty.ModeTy.{ModeTy}
use Rattle.sa_ast.specs.declared.ty.Ty.{Ty}
use Rattle.sa_ast.specs.declared.ty.Ty.TheVariants as ty
use Rattle.sa_ast.specs.Types.{BareTy, BareTys, bare, bare_arg, bare_tys, all_bare, all_bare_args, option_bare}
use Rattle.sa_ast.proofs.BareTypes.{bare-Named, bare-Same, bare-Rout, bare-Iter, bare_arg-parts}
use Rattle.sa_unify.specs.declared.pattern.Node.{Node}
use Rattle.sa_unify.specs.declared.pattern.Node.TheVariants as node
use Rattle.sa_subtypes.specs.Questions.{is_class, is_list, is_routine, is_iter, is_type_head, is_head, a_variable, a_head, another, headed, node_meets, meets, Seen, found, past, unlike, seen_then, met_then, walk_mode, walk_inside, walk_all, walk_args, walk_result, walk, walk_arg, sought, is_wanted, seeking, item_seen, first_in, value_below, value_from, is_number, counts_up, same_item, occurs, passed_if, comparing, is_past, is_end, both_fit, class_fits, upper_fits, first_fits, pair_fits}
use Rattle.sa_unify.specs.Spelled.{count_types, count_args, count_result, Item, a_type, a_mode}

-- ---- the whole

module _ (lower upper : List BareTy) where
  pub fits-empty : (nodes : List Node) → length nodes ≡ 0 → false ≡ pair_fits lower upper nodes
  unfolding pair_fits
  fits-empty [] h = refl
  fits-empty (a ∷ nodes) h = absurd (omega (arith, h))

  pub fits-first : (nodes rest : List Node) (a : Node) (r : Bool) → nodes ≡ a ∷ rest → r ≡ first_fits lower upper rest a → r ≡ pair_fits lower upper nodes
  unfolding pair_fits
  fits-first nodes rest a r e h = h ∙ sym (ap (pair_fits lower upper) e)

  pub fits-past : (nodes next : List Node) (w : Seen) (r : Bool) → past next ≡ w → r ≡ upper_fits lower upper nodes (past next) → r ≡ upper_fits lower upper nodes w
  fits-past nodes next w r e h = h ∙ ap (upper_fits lower upper nodes) e

  pub fits-found : (nodes : List Node) (w : Seen) (i : Item) → found i ≡ w → false ≡ upper_fits lower upper nodes w
  unfolding upper_fits
  fits-found nodes w i e = ap (upper_fits lower upper nodes) e

  pub fits-unlike : (nodes : List Node) (w : Seen) → unlike ≡ w → false ≡ upper_fits lower upper nodes w
  unfolding upper_fits
  fits-unlike nodes w e = ap (upper_fits lower upper nodes) e

  pub fits-end : (nodes all : List Node) (end : ℕ) → length all ≤ end → false ≡ upper_fits lower upper nodes (past (drop end all))
  unfolding upper_fits
  fits-end nodes all end h = sym (ap (λ l. upper_fits lower upper nodes (past l)) (drop_all end all h))

  pub fits-class : (nodes all above : List Node) (end : ℕ) (a : Node) (r : Bool) → end < length all → a ≡ get_or all end a → above ≡ drop (end + 1) all → r ≡ class_fits lower upper nodes above a → r ≡ upper_fits lower upper nodes (past (drop end all))
  unfolding upper_fits
  fits-class nodes all above end a r h e f k =
      let here : drop end all ≡ a ∷ above = drop_more all end a h ∙ ap (λ x. x ∷ drop (end + 1) all) (sym e) ∙ ap (λ l. a ∷ l) (sym f) in
      k ∙ sym (ap (λ l. upper_fits lower upper nodes (past l)) here)

pub ruleset pair_steps = (fits-empty, fits-first, fits-past, fits-found, fits-unlike, fits-end, fits-class)

pub ruleset counts = (length-map)

module _ (value : ℕ → Option Item) (lower upper : List BareTy) where
  pub fits-none : (nodes above : List Node) → unlike ≡ walk_all (comparing value) (bare_tys lower) nodes → false ≡ both_fit value lower upper nodes above
  unfolding both_fit
  fits-none nodes above e = ap (λ r. is_past r && is_end (walk_all (comparing value) (bare_tys upper) above)) e

  pub fits-both : (nodes above next : List Node) (r : Bool) → past next ≡ walk_all (comparing value) (bare_tys lower) nodes → r ≡ is_end (walk_all (comparing value) (bare_tys upper) above) → r ≡ both_fit value lower upper nodes above
  unfolding both_fit
  fits-both nodes above next r e h = h ∙ ap (λ s. is_past s && is_end (walk_all (comparing value) (bare_tys upper) above)) e

pub end-before : (nodes : List Node) (place : ℕ) → place < length nodes → false ≡ is_end (past (drop place nodes))
end-before [] place h = absurd (omega (arith, h))
end-before (a ∷ nodes) place h = sym (ap (λ l. is_end (past l)) (drop_more (a ∷ nodes) place a h))

pub end-following : (nodes : List Node) (place : ℕ) → length nodes ≤ place → true ≡ is_end (past (drop place nodes))
end-following nodes place h = sym (ap (λ l. is_end (past l)) (drop_all place nodes h))

pub end-past : (next : List Node) (w : Seen) (r : Bool) → past next ≡ w → r ≡ is_end (past next) → r ≡ is_end w
end-past next w r e h = h ∙ ap is_end e

pub end-none : (w : Seen) → unlike ≡ w → false ≡ is_end w
end-none w e = ap is_end e

pub ruleset ends = (fits-none, fits-both, end-before, end-following, end-past, end-none)

-- ---- the binding of a variable

pub occurs-Some : (o : Option Item) (i j : Item) (r : Bool) → Some i ≡ o → r ≡ same_item i j → r ≡ occurs o j
occurs-Some o i j r e h = h ∙ ap (λ x. occurs x j) e

pub occurs-None : (o : Option Item) (j : Item) → None ≡ o → false ≡ occurs o j
occurs-None o j e = ap (λ x. occurs x j) e

pub type-at : (types : List Ty) (n : ℕ) (t : Ty) → n < length types → t ≡ get_or types n t → Some (a_type (bare t)) ≡ option_map a_type (slice_get (map bare types) n)
type-at [] n t h e = absurd (omega (arith, h))
type-at (x ∷ types) zero t h e = ap (λ y. Some (a_type (bare y))) e
type-at (x ∷ types) (suc n) t h e = let less : n < length types = omega (arith, h) in type-at types n t less e

pub type-past : (types : List Ty) (n : ℕ) → length types ≤ n → None ≡ option_map a_type (slice_get (map bare types) n)
type-past [] n h = refl
type-past (x ∷ types) zero h = absurd (omega (arith, h))
type-past (x ∷ types) (suc n) h = let less : length types ≤ n = omega (arith, h) in type-past types n less

pub first-found : (number : ℕ) (types : BareTys) (nodes : List Node) (i : Item) → found i ≡ walk_all (seeking (Some number)) types nodes → Some i ≡ first_in number types nodes
unfolding first_in
first-found number types nodes i e = ap item_seen e

pub first-past : (number : ℕ) (types : BareTys) (nodes next : List Node) → past next ≡ walk_all (seeking (Some number)) types nodes → None ≡ first_in number types nodes
unfolding first_in
first-past number types nodes next e = ap item_seen e

pub first-unlike : (number : ℕ) (types : BareTys) (nodes : List Node) → unlike ≡ walk_all (seeking (Some number)) types nodes → None ≡ first_in number types nodes
unfolding first_in
first-unlike number types nodes e = ap item_seen e

pub below-plain : (plain : Bool) (lower : List BareTy) (nodes : List Node) (number : ℕ) (o : Option Item) → plain ≡ true → o ≡ option_map a_type (slice_get lower number) → o ≡ value_below plain lower nodes number
below-plain plain lower nodes number o e h = h ∙ sym (ap (λ b. cond b (option_map a_type (slice_get lower number)) (first_in number (bare_tys lower) nodes)) e)

pub below-other : (plain : Bool) (lower : List BareTy) (nodes : List Node) (number : ℕ) (o : Option Item) → plain ≡ false → o ≡ first_in number (bare_tys lower) nodes → o ≡ value_below plain lower nodes number
below-other plain lower nodes number o e h = h ∙ sym (ap (λ b. cond b (option_map a_type (slice_get lower number)) (first_in number (bare_tys lower) nodes)) e)

module _ (plain : Bool) (lower upper : List BareTy) (nodes above : List Node) (number : ℕ) where
  pub value-below : (i : Item) → Some i ≡ value_below plain lower nodes number → Some i ≡ value_from plain lower upper nodes above number
  unfolding value_from
  value-below i e = ap (λ x. option_or x (first_in number (bare_tys upper) above)) e

  pub value-above : (o : Option Item) → None ≡ value_below plain lower nodes number → o ≡ first_in number (bare_tys upper) above → o ≡ value_from plain lower upper nodes above number
  unfolding value_from
  value-above o e h = h ∙ ap (λ x. option_or x (first_in number (bare_tys upper) above)) e

pub ruleset values = (occurs-Some, occurs-None, type-at, type-past, first-found, first-past, first-unlike, below-plain, below-other, value-below, value-above)

-- ---- plain variables

module _ (count i : ℕ) (nodes : List Node) (whole : Bool) where
  pub count-short : whole ≡ counts_up i (count - i) (drop i nodes) → i < count → length nodes ≤ i → false ≡ whole
  unfolding counts_up
  count-short h k e =
      let n : count - i ≡ suc (count - (i + 1)) = omega (arith, k) in
      sym (h ∙ ap (λ l. counts_up i (count - i) l) (drop_all i nodes e) ∙ ap (λ m. counts_up i m []) n)

  count-step : (a : Node) → i < count → i < length nodes → a ≡ get_or nodes i a → counts_up i (count - i) (drop i nodes) ≡ (is_number i a && counts_up (i + 1) (count - (i + 1)) (drop (i + 1) nodes))
  unfolding counts_up
  count-step a k j e =
      let n : count - i ≡ suc (count - (i + 1)) = omega (arith, k) in
      let here : drop i nodes ≡ a ∷ drop (i + 1) nodes = drop_more nodes i a j ∙ ap (λ x. x ∷ drop (i + 1) nodes) (sym e) in
      let more : suc i ≡ i + 1 = omega arith in
      ap (λ l. counts_up i (count - i) l) here ∙ ap (λ m. counts_up i m (a ∷ drop (i + 1) nodes)) n ∙ ap (λ m. is_number i a && counts_up m (count - (i + 1)) (drop (i + 1) nodes)) more

  pub count-other : (a : Node) (r : Bool) → whole ≡ counts_up i (count - i) (drop i nodes) → i < count → i < length nodes → a ≡ get_or nodes i a → r ≡ is_number i a → r ≡ false → false ≡ whole
  count-other a r h k j e f g = sym (h ∙ count-step a k j e ∙ ap (λ b. b && counts_up (i + 1) (count - (i + 1)) (drop (i + 1) nodes)) (sym f ∙ g))

  pub count-next : (a : Node) (r : Bool) → whole ≡ counts_up i (count - i) (drop i nodes) → i < count → i < length nodes → a ≡ get_or nodes i a → r ≡ is_number i a → r ≡ true → whole ≡ counts_up (i + 1) (count - (i + 1)) (drop (i + 1) nodes)
  count-next a r h k j e f g = h ∙ count-step a k j e ∙ ap (λ b. b && counts_up (i + 1) (count - (i + 1)) (drop (i + 1) nodes)) (sym f ∙ g)

  pub count-end : whole ≡ counts_up i (count - i) (drop i nodes) → count ≤ i → true ≡ whole
  unfolding counts_up
  count-end h k = let n : count - i ≡ 0 = omega (arith, k) in sym (h ∙ ap (λ m. counts_up i m (drop i nodes)) n)

pub ruleset counting = (count-short, count-other, count-next, count-end)

-- ---- one node

module _ (i : Item) (nodes : List Node) (at : ℕ) where
  pub meets-end : length nodes ≤ at → another ≡ meets i (drop at nodes)
  unfolding meets
  meets-end h = sym (ap (meets i) (drop_all at nodes h))

  meets-at : (a : Node) → at < length nodes → a ≡ get_or nodes at a → meets i (drop at nodes) ≡ node_meets i (drop (at + 1) nodes) a
  unfolding meets
  meets-at a h e = ap (meets i) (drop_more nodes at a h ∙ ap (λ x. x ∷ drop (at + 1) nodes) (sym e))

  pub meets-variable : (a : Node) (number : ℕ) → at < length nodes → a ≡ get_or nodes at a → a ≡ node.Variable number → a_variable number (drop (at + 1) nodes) ≡ meets i (drop at nodes)
  meets-variable a number h e f = sym (meets-at a h e ∙ ap (node_meets i (drop (at + 1) nodes)) f)

  node-other : (a : Node) (rest : List Node) → ((number : ℕ) → a ≡ node.Variable number → ⊥) → node_meets i rest a ≡ headed (is_head i a) rest
  node-other (node.Variable number) rest h = absurd (h number refl)
  node-other (node.Class name count) rest h = refl
  node-other (node.Routine count) rest h = refl
  node-other (node.Iter count) rest h = refl
  node-other (node.Passed mode) rest h = refl
  node-other (node.List count) rest h = refl

  pub meets-is_head : (a : Node) (r : Bool) → at < length nodes → a ≡ get_or nodes at a → ((number : ℕ) → a ≡ node.Variable number → ⊥) → r ≡ is_head i a → r ≡ true → a_head (drop (at + 1) nodes) ≡ meets i (drop at nodes)
  meets-is_head a r h e f k g = sym (meets-at a h e ∙ node-other a (drop (at + 1) nodes) f ∙ ap (λ b. headed b (drop (at + 1) nodes)) (sym k ∙ g))

  pub meets-is_other : (a : Node) (r : Bool) → at < length nodes → a ≡ get_or nodes at a → ((number : ℕ) → a ≡ node.Variable number → ⊥) → r ≡ is_head i a → r ≡ false → another ≡ meets i (drop at nodes)
  meets-is_other a r h e f k g = sym (meets-at a h e ∙ node-other a (drop (at + 1) nodes) f ∙ ap (λ b. headed b (drop (at + 1) nodes)) (sym k ∙ g))

pub ruleset meeting = (meets-end, meets-variable, meets-is_head, meets-is_other)

module _ (t : Ty) (a : Node) (r : Bool) where
  pub head-Named : (name : List ℕ) (args : List Ty) (pos : Pos) (n : ℕ) → t ≡ ty.Named name args pos → n ≡ length args → r ≡ is_class name n a → r ≡ is_type_head (bare t) a
  head-Named name args pos n e f h =
      h ∙ ap (λ m. is_class name m a) (f ∙ sym (counted args)) ∙ sym (ap (λ x. is_type_head x a) (ap bare e ∙ bare-Named name args pos))
    where
      counted : (ts : List Ty) → count_types (all_bare ts) ≡ length ts
      counted [] = refl
      counted (x ∷ ts) = let more : count_types (all_bare ts) ≡ length ts = counted ts in omega (arith, more)

  pub head-Same : (pos : Pos) → t ≡ ty.Same pos → r ≡ is_list 0 a → r ≡ is_type_head (bare t) a
  head-Same pos e h = h ∙ sym (ap (λ x. is_type_head x a) (ap bare e ∙ bare-Same pos))

  pub head-Rout : (args s : List ModeTy) (of : Option Ty) (pos : Pos) → t ≡ ty.Rout args of pos → s ≡ args → r ≡ is_routine (count_args (all_bare_args s) + count_result (option_bare of)) a → r ≡ is_type_head (bare t) a
  head-Rout args s of pos e f h =
      h ∙ ap (λ l. is_routine (count_args (all_bare_args l) + count_result (option_bare of)) a) f ∙ sym (ap (λ x. is_type_head x a) (ap bare e ∙ bare-Rout args of pos))

  pub head-Iter : (args s : List ModeTy) (of : Option Ty) (pos : Pos) → t ≡ ty.Iter args of pos → s ≡ args → r ≡ is_iter (count_args (all_bare_args s) + count_result (option_bare of)) a → r ≡ is_type_head (bare t) a
  head-Iter args s of pos e f h =
      h ∙ ap (λ l. is_iter (count_args (all_bare_args l) + count_result (option_bare of)) a) f ∙ sym (ap (λ x. is_type_head x a) (ap bare e ∙ bare-Iter args of pos))

pub ruleset heads = (head-Named, head-Same, head-Rout, head-Iter)

-- ---- how many child nodes a bound type has

twice : (xs : List ModeTy) → count_args (all_bare_args xs) ≡ 2 * length xs
twice [] = refl
twice (x ∷ xs) = let more : count_args (all_bare_args xs) ≡ 2 * length xs = twice xs in omega (arith, more)

pub bound-None : (count n : ℕ) (args : List ModeTy) (of : Option Ty) (r : Bool) → of ≡ None → n ≡ length args → r ≡ nat_eq count (2 * n + 0) → r ≡ nat_eq count (count_args (all_bare_args args) + count_result (option_bare of))
bound-None count n args of r e f h =
    let same : 2 * n + 0 ≡ count_args (all_bare_args args) + 0 = omega (arith, f, twice args) in
    h ∙ ap (nat_eq count) (same ∙ ap (λ o. count_args (all_bare_args args) + count_result (option_bare o)) (sym e))

pub bound-Some : (count n : ℕ) (args : List ModeTy) (of : Option Ty) (t : Ty) (r : Bool) → of ≡ Some t → n ≡ length args → r ≡ nat_eq count (2 * n + 1) → r ≡ nat_eq count (count_args (all_bare_args args) + count_result (option_bare of))
bound-Some count n args of t r e f h =
    let same : 2 * n + 1 ≡ count_args (all_bare_args args) + 1 = omega (arith, f, twice args) in
    h ∙ ap (nat_eq count) (same ∙ ap (λ o. count_args (all_bare_args args) + count_result (option_bare o)) (sym e))

pub ruleset bound = (nat_tests, bound-None, bound-Some)

-- ---- at a variable

module _ (value : ℕ → Option Item) (number : ℕ) (nodes next : List Node) (b : Bool) where
  pub type-occurs : (t : BareTy) → a_variable number next ≡ meets (a_type t) nodes → b ≡ occurs (value number) (a_type t) → b ≡ true → past next ≡ walk (comparing value) t nodes
  unfolding walk comparing
  type-occurs t m e f = ap (λ c. passed_if c next) (sym (sym e ∙ f)) ∙ ap (met_then (comparing value) (a_type t) (λ rest. walk_inside (comparing value) t rest)) m

  pub type-differs : (t : BareTy) → a_variable number next ≡ meets (a_type t) nodes → b ≡ occurs (value number) (a_type t) → b ≡ false → unlike ≡ walk (comparing value) t nodes
  unfolding walk comparing
  type-differs t m e f = ap (λ c. passed_if c next) (sym (sym e ∙ f)) ∙ ap (met_then (comparing value) (a_type t) (λ rest. walk_inside (comparing value) t rest)) m

  pub mode-occurs : (k : Mode) → a_variable number next ≡ meets (a_mode k) nodes → b ≡ occurs (value number) (a_mode k) → b ≡ true → past next ≡ walk_mode (comparing value) k nodes
  unfolding walk_mode comparing
  mode-occurs k m e f = ap (λ c. passed_if c next) (sym (sym e ∙ f)) ∙ ap (met_then (comparing value) (a_mode k) past) m

  pub mode-differs : (k : Mode) → a_variable number next ≡ meets (a_mode k) nodes → b ≡ occurs (value number) (a_mode k) → b ≡ false → unlike ≡ walk_mode (comparing value) k nodes
  unfolding walk_mode comparing
  mode-differs k m e f = ap (λ c. passed_if c next) (sym (sym e ∙ f)) ∙ ap (met_then (comparing value) (a_mode k) past) m

module _ (wanted : Option ℕ) (number : ℕ) (nodes next : List Node) (b : Bool) where
  pub type-wanted : (t : BareTy) → a_variable number next ≡ meets (a_type t) nodes → b ≡ is_wanted wanted number → b ≡ true → found (a_type t) ≡ walk (seeking wanted) t nodes
  unfolding walk seeking
  type-wanted t m e f = ap (λ c. sought c (a_type t) next) (sym (sym e ∙ f)) ∙ ap (met_then (seeking wanted) (a_type t) (λ rest. walk_inside (seeking wanted) t rest)) m

  pub type-passed : (t : BareTy) → a_variable number next ≡ meets (a_type t) nodes → b ≡ is_wanted wanted number → b ≡ false → past next ≡ walk (seeking wanted) t nodes
  unfolding walk seeking
  type-passed t m e f = ap (λ c. sought c (a_type t) next) (sym (sym e ∙ f)) ∙ ap (met_then (seeking wanted) (a_type t) (λ rest. walk_inside (seeking wanted) t rest)) m

  pub mode-wanted : (k : Mode) → a_variable number next ≡ meets (a_mode k) nodes → b ≡ is_wanted wanted number → b ≡ true → found (a_mode k) ≡ walk_mode (seeking wanted) k nodes
  unfolding walk_mode seeking
  mode-wanted k m e f = ap (λ c. sought c (a_mode k) next) (sym (sym e ∙ f)) ∙ ap (met_then (seeking wanted) (a_mode k) past) m

  pub mode-passed : (k : Mode) → a_variable number next ≡ meets (a_mode k) nodes → b ≡ is_wanted wanted number → b ≡ false → past next ≡ walk_mode (seeking wanted) k nodes
  unfolding walk_mode seeking
  mode-passed k m e f = ap (λ c. sought c (a_mode k) next) (sym (sym e ∙ f)) ∙ ap (met_then (seeking wanted) (a_mode k) past) m

module _ (visit : ℕ → Item → List Node → Seen) where
  -- ---- at another node

  pub type-head : (t : BareTy) (nodes next : List Node) (r : Seen) → a_head next ≡ meets (a_type t) nodes → r ≡ walk_inside visit t next → r ≡ walk visit t nodes
  unfolding walk
  type-head t nodes next r m h = h ∙ ap (met_then visit (a_type t) (λ rest. walk_inside visit t rest)) m

  pub type-another : (t : BareTy) (nodes : List Node) → another ≡ meets (a_type t) nodes → unlike ≡ walk visit t nodes
  unfolding walk
  type-another t nodes m = ap (met_then visit (a_type t) (λ rest. walk_inside visit t rest)) m

  pub mode-head : (k : Mode) (nodes next : List Node) → a_head next ≡ meets (a_mode k) nodes → past next ≡ walk_mode visit k nodes
  unfolding walk_mode
  mode-head k nodes next m = ap (met_then visit (a_mode k) past) m

  pub mode-another : (k : Mode) (nodes : List Node) → another ≡ meets (a_mode k) nodes → unlike ≡ walk_mode visit k nodes
  unfolding walk_mode
  mode-another k nodes m = ap (met_then visit (a_mode k) past) m

  -- ---- the parts of a type

  pub inside-Named : (t : Ty) (name : List ℕ) (args s : List Ty) (pos : Pos) (nodes : List Node) (r : Seen) → t ≡ ty.Named name args pos → s ≡ args → r ≡ walk_all visit (all_bare s) nodes → r ≡ walk_inside visit (bare t) nodes
  unfolding walk_inside
  inside-Named t name args s pos nodes r e f h =
      h ∙ ap (λ l. walk_all visit (all_bare l) nodes) f ∙ sym (ap (λ x. walk_inside visit x nodes) (ap bare e ∙ bare-Named name args pos))

  pub inside-Same : (t : Ty) (pos : Pos) (nodes : List Node) → t ≡ ty.Same pos → past nodes ≡ walk_inside visit (bare t) nodes
  unfolding walk_inside
  inside-Same t pos nodes e = sym (ap (λ x. walk_inside visit x nodes) (ap bare e ∙ bare-Same pos))

  inside-Rout : (t : Ty) (args s : List ModeTy) (of : Option Ty) (pos : Pos) (nodes : List Node) (w : Seen) → t ≡ ty.Rout args of pos → s ≡ args → w ≡ walk_args visit (all_bare_args s) nodes → seen_then w (λ rest. walk_result visit (option_bare of) rest) ≡ walk_inside visit (bare t) nodes
  unfolding walk_inside
  inside-Rout t args s of pos nodes w e f h =
      ap (λ x. seen_then x (λ rest. walk_result visit (option_bare of) rest)) (h ∙ ap (λ l. walk_args visit (all_bare_args l) nodes) f) ∙ sym (ap (λ x. walk_inside visit x nodes) (ap bare e ∙ bare-Rout args of pos))

  inside-Iter : (t : Ty) (args s : List ModeTy) (of : Option Ty) (pos : Pos) (nodes : List Node) (w : Seen) → t ≡ ty.Iter args of pos → s ≡ args → w ≡ walk_args visit (all_bare_args s) nodes → seen_then w (λ rest. walk_result visit (option_bare of) rest) ≡ walk_inside visit (bare t) nodes
  unfolding walk_inside
  inside-Iter t args s of pos nodes w e f h =
      ap (λ x. seen_then x (λ rest. walk_result visit (option_bare of) rest)) (h ∙ ap (λ l. walk_args visit (all_bare_args l) nodes) f) ∙ sym (ap (λ x. walk_inside visit x nodes) (ap bare e ∙ bare-Iter args of pos))

  pub Rout-past : (t : Ty) (args s : List ModeTy) (of : Option Ty) (pos : Pos) (nodes next : List Node) (r : Seen) → t ≡ ty.Rout args of pos → s ≡ args → past next ≡ walk_args visit (all_bare_args s) nodes → r ≡ walk_result visit (option_bare of) next → r ≡ walk_inside visit (bare t) nodes
  Rout-past t args s of pos nodes next r e f h k = k ∙ inside-Rout t args s of pos nodes (past next) e f h

  pub Rout-found : (t : Ty) (args s : List ModeTy) (of : Option Ty) (pos : Pos) (nodes : List Node) (i : Item) → t ≡ ty.Rout args of pos → s ≡ args → found i ≡ walk_args visit (all_bare_args s) nodes → found i ≡ walk_inside visit (bare t) nodes
  Rout-found t args s of pos nodes i e f h = inside-Rout t args s of pos nodes (found i) e f h

  pub Rout-unlike : (t : Ty) (args s : List ModeTy) (of : Option Ty) (pos : Pos) (nodes : List Node) → t ≡ ty.Rout args of pos → s ≡ args → unlike ≡ walk_args visit (all_bare_args s) nodes → unlike ≡ walk_inside visit (bare t) nodes
  Rout-unlike t args s of pos nodes e f h = inside-Rout t args s of pos nodes unlike e f h

  pub Iter-past : (t : Ty) (args s : List ModeTy) (of : Option Ty) (pos : Pos) (nodes next : List Node) (r : Seen) → t ≡ ty.Iter args of pos → s ≡ args → past next ≡ walk_args visit (all_bare_args s) nodes → r ≡ walk_result visit (option_bare of) next → r ≡ walk_inside visit (bare t) nodes
  Iter-past t args s of pos nodes next r e f h k = k ∙ inside-Iter t args s of pos nodes (past next) e f h

  pub Iter-found : (t : Ty) (args s : List ModeTy) (of : Option Ty) (pos : Pos) (nodes : List Node) (i : Item) → t ≡ ty.Iter args of pos → s ≡ args → found i ≡ walk_args visit (all_bare_args s) nodes → found i ≡ walk_inside visit (bare t) nodes
  Iter-found t args s of pos nodes i e f h = inside-Iter t args s of pos nodes (found i) e f h

  pub Iter-unlike : (t : Ty) (args s : List ModeTy) (of : Option Ty) (pos : Pos) (nodes : List Node) → t ≡ ty.Iter args of pos → s ≡ args → unlike ≡ walk_args visit (all_bare_args s) nodes → unlike ≡ walk_inside visit (bare t) nodes
  Iter-unlike t args s of pos nodes e f h = inside-Iter t args s of pos nodes unlike e f h

  -- ---- an argument

  arg-is : (a : ModeTy) (nodes : List Node) (w : Seen) → w ≡ walk_mode visit a.mode nodes → seen_then w (λ next. walk visit (bare a.ty) next) ≡ walk_arg visit (bare_arg a) nodes
  unfolding walk_arg
  arg-is a nodes w h = ap (λ x. seen_then x (λ next. walk visit (bare a.ty) next)) h ∙ sym (ap (λ x. walk_arg visit x nodes) (bare_arg-parts a))

  pub arg-past : (a : ModeTy) (nodes next : List Node) (r : Seen) → past next ≡ walk_mode visit a.mode nodes → r ≡ walk visit (bare a.ty) next → r ≡ walk_arg visit (bare_arg a) nodes
  arg-past a nodes next r h k = k ∙ arg-is a nodes (past next) h

  pub arg-found : (a : ModeTy) (nodes : List Node) (i : Item) → found i ≡ walk_mode visit a.mode nodes → found i ≡ walk_arg visit (bare_arg a) nodes
  arg-found a nodes i h = arg-is a nodes (found i) h

  pub arg-unlike : (a : ModeTy) (nodes : List Node) → unlike ≡ walk_mode visit a.mode nodes → unlike ≡ walk_arg visit (bare_arg a) nodes
  arg-unlike a nodes h = arg-is a nodes unlike h

  -- ---- a result

  pub result-None : (of : Option Ty) (nodes : List Node) → of ≡ None → past nodes ≡ walk_result visit (option_bare of) nodes
  unfolding walk_result
  result-None of nodes e = sym (ap (λ o. walk_result visit (option_bare o) nodes) e)

  pub result-Some : (of : Option Ty) (t s : Ty) (nodes : List Node) (r : Seen) → of ≡ Some t → s ≡ t → r ≡ walk visit (bare s) nodes → r ≡ walk_result visit (option_bare of) nodes
  unfolding walk_result walk
  result-Some of t s nodes r e f h = h ∙ ap (λ x. walk visit (bare x) nodes) f ∙ sym (ap (λ o. walk_result visit (option_bare o) nodes) e)

  -- ---- several types

  all-step : (ts : List Ty) (i : ℕ) (t : Ty) (nodes : List Node) (w : Seen) → i < length ts → t ≡ get_or ts i t → w ≡ walk visit (bare t) nodes → walk_all visit (all_bare (drop i ts)) nodes ≡ seen_then w (λ rest. walk_all visit (all_bare (drop (i + 1) ts)) rest)
  unfolding walk_all walk
  all-step ts i t nodes w h e k =
      ap (λ l. walk_all visit (all_bare l) nodes) (drop_more ts i t h ∙ ap (λ x. x ∷ drop (i + 1) ts) (sym e)) ∙ ap (λ x. seen_then x (λ rest. walk_all visit (all_bare (drop (i + 1) ts)) rest)) (sym k)

  pub all-next : (ts : List Ty) (i : ℕ) (t : Ty) (nodes next : List Node) (whole : Seen) → whole ≡ walk_all visit (all_bare (drop i ts)) nodes → i < length ts → t ≡ get_or ts i t → past next ≡ walk visit (bare t) nodes → whole ≡ walk_all visit (all_bare (drop (i + 1) ts)) next
  all-next ts i t nodes next whole g h e k = g ∙ all-step ts i t nodes (past next) h e k

  pub all-found : (ts : List Ty) (i : ℕ) (t : Ty) (nodes : List Node) (j : Item) (whole : Seen) → whole ≡ walk_all visit (all_bare (drop i ts)) nodes → i < length ts → t ≡ get_or ts i t → found j ≡ walk visit (bare t) nodes → found j ≡ whole
  all-found ts i t nodes j whole g h e k = sym (g ∙ all-step ts i t nodes (found j) h e k)

  pub all-unlike : (ts : List Ty) (i : ℕ) (t : Ty) (nodes : List Node) (whole : Seen) → whole ≡ walk_all visit (all_bare (drop i ts)) nodes → i < length ts → t ≡ get_or ts i t → unlike ≡ walk visit (bare t) nodes → unlike ≡ whole
  all-unlike ts i t nodes whole g h e k = sym (g ∙ all-step ts i t nodes unlike h e k)

  pub all-end : (ts : List Ty) (i : ℕ) (nodes : List Node) (whole : Seen) → whole ≡ walk_all visit (all_bare (drop i ts)) nodes → length ts ≤ i → past nodes ≡ whole
  unfolding walk_all
  all-end ts i nodes whole g h = sym (g ∙ ap (λ l. walk_all visit (all_bare l) nodes) (drop_all i ts h))

  -- ---- several arguments

  args-step : (xs : List ModeTy) (i : ℕ) (a : ModeTy) (nodes : List Node) (w : Seen) → i < length xs → a ≡ get_or xs i a → w ≡ walk_arg visit (bare_arg a) nodes → walk_args visit (all_bare_args (drop i xs)) nodes ≡ seen_then w (λ rest. walk_args visit (all_bare_args (drop (i + 1) xs)) rest)
  unfolding walk_args walk_arg walk
  args-step xs i a nodes w h e k =
      ap (λ l. walk_args visit (all_bare_args l) nodes) (drop_more xs i a h ∙ ap (λ x. x ∷ drop (i + 1) xs) (sym e)) ∙ ap (λ x. seen_then x (λ rest. walk_args visit (all_bare_args (drop (i + 1) xs)) rest)) (sym k)

  pub args-next : (xs : List ModeTy) (i : ℕ) (a : ModeTy) (nodes next : List Node) (whole : Seen) → whole ≡ walk_args visit (all_bare_args (drop i xs)) nodes → i < length xs → a ≡ get_or xs i a → past next ≡ walk_arg visit (bare_arg a) nodes → whole ≡ walk_args visit (all_bare_args (drop (i + 1) xs)) next
  args-next xs i a nodes next whole g h e k = g ∙ args-step xs i a nodes (past next) h e k

  pub args-found : (xs : List ModeTy) (i : ℕ) (a : ModeTy) (nodes : List Node) (j : Item) (whole : Seen) → whole ≡ walk_args visit (all_bare_args (drop i xs)) nodes → i < length xs → a ≡ get_or xs i a → found j ≡ walk_arg visit (bare_arg a) nodes → found j ≡ whole
  args-found xs i a nodes j whole g h e k = sym (g ∙ args-step xs i a nodes (found j) h e k)

  pub args-unlike : (xs : List ModeTy) (i : ℕ) (a : ModeTy) (nodes : List Node) (whole : Seen) → whole ≡ walk_args visit (all_bare_args (drop i xs)) nodes → i < length xs → a ≡ get_or xs i a → unlike ≡ walk_arg visit (bare_arg a) nodes → unlike ≡ whole
  args-unlike xs i a nodes whole g h e k = sym (g ∙ args-step xs i a nodes unlike h e k)

  pub args-end : (xs : List ModeTy) (i : ℕ) (nodes : List Node) (whole : Seen) → whole ≡ walk_args visit (all_bare_args (drop i xs)) nodes → length xs ≤ i → past nodes ≡ whole
  unfolding walk_args
  args-end xs i nodes whole g h = sym (g ∙ ap (λ l. walk_args visit (all_bare_args l) nodes) (drop_all i xs h))

pub ruleset steps = (type-occurs, type-differs, mode-occurs, mode-differs, type-wanted, type-passed, mode-wanted, mode-passed, type-head, type-another, mode-head, mode-another)

pub ruleset insides = (inside-Named, inside-Same, Rout-past, Rout-found, Rout-unlike, Iter-past, Iter-found, Iter-unlike, arg-past, arg-found, arg-unlike, result-None, result-Some)

pub ruleset loops = (all-next, all-found, all-unlike, all-end, args-next, args-found, args-unlike, args-end)
