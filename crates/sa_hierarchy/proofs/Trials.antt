-- What the verifier checks of the tables, from its parts.
use Rattle.std.proofs.Common.{◌≡◌, ◌≢◌, ◌⊎◌, inl, inr, ℕ, zero, suc, ◌+◌, ◌-◌, ◌<◌, ◌≤◌, Bool, true, nat_eq, List, [], ◌∷◌, ◌++◌, Option, Some, None, slice_get, length, get_or, take, drop, refl, sym, ap, subst, ◌∙◌, append_assoc, arith, below_more}
use Rattle.std.proofs.lemmas.List.{append_cancel_left, append-nil, take-append-drop}
use Rattle.std.proofs.lemmas.Option.{none-some, slice_get_read, slice_get_within}
use Rattle.std.specs.Cmp.Lexicographic.{pointwise, bytes_decides}
use Rattle.std.proofs.Math.Seq.{drop-length}
use Rattle.sa_unify.specs.declared.declared.Edge.{Edge}
use Rattle.sa_hierarchy.specs.declared.class_hierarchy.Ancestor.{Ancestor}
use Rattle.sa_hierarchy.specs.declared.links.ParentLink.{ParentLink}
use Rattle.sa_unify.specs.declared.pattern.Node.{Node}
use Rattle.sa_unify.specs.declared.pattern.Node.TheVariants as node
use Rattle.sa_unify.specs.Terms.{following, IsComposed, SameInstances}
use Rattle.sa_hierarchy.specs.Hierarchies.{Tables, counts, kept, HasForm, IsBare, BeginsBare, GivesPair, GoesOn, GoesOnWith, InList, IsBelow, IsRoot, IsLinked, AreLinked, IsTriedLink, KeepsArgs, IsCovered, IsCoveredAt, AreCovered, IsGivenIn, IsCovering, IsListed, IsKeptEdge, IsOwn, HasOwn, IsSound, AreTriedLinks, AreTriedEdges, AreTriedLists, AreTried}
use Rattle.sa_unify.proofs.Compositions.{cut-first, cut-second}
use Rattle.sa_hierarchy.proofs.Pairs.{bare-gives}

-- ---- links

pub root-is : (class : ℕ) (link : ParentLink) → link.edge ≡ None → link.depth ≡ 0 → link.root ≡ class → link.jump ≡ class → IsRoot class link
root-is class link e d r j = record { edge = e; depth = d; root = r; jump = j }

pub below-near : (links : List ParentLink) (link parent : ParentLink) → slice_get links link.parent ≡ Some parent → link.depth ≡ parent.depth + 1 → link.root ≡ parent.root → link.jump ≡ link.parent → IsBelow links link
below-near links link parent is d r j = record { parent = parent; is = is; depth = d; root = r; jump = inl j }

pub below-far : (links : List ParentLink) (link parent far : ParentLink) → slice_get links link.parent ≡ Some parent → link.depth ≡ parent.depth + 1 → link.root ≡ parent.root → slice_get links parent.jump ≡ Some far → link.jump ≡ far.jump → IsBelow links link
below-far links link parent far is d r k j = record { parent = parent; is = is; depth = d; root = r; jump = inr (far, k, j) }

pub ruleset reads = (slice_get_read, root-is, below-near, below-far)

pub tried_root : (w : Tables) (class : ℕ) (link : ParentLink) → IsRoot class link → IsTriedLink w class link
tried_root w class link root = record {
  linked = inl root;
  keeps = λ number e. absurd (none-some number (sym root.edge ∙ e));
}

some_numbers : (m n : ℕ) → Some m ≡ Some n → m ≡ n
some_numbers m n e = cc

pub tried_below : (w : Tables) (links : List ParentLink) (class : ℕ) (link : ParentLink) (number : ℕ) → links ≡ w.links → link.edge ≡ Some number → IsBelow links link → KeepsArgs w class link number → IsTriedLink w class link
tried_below w links class link number same e below keeps = record {
  linked = inr (number, e, subst (λ l. IsBelow l link) same below);
  keeps = λ n f. subst (KeepsArgs w class link) (some_numbers number n (sym e ∙ f)) keeps;
}

pub keeps-args : (w : Tables) (class : ℕ) (link : ParentLink) (number : ℕ) (edges : List Edge) (edge : Edge) (nodes v own : List Node) (head : List ℕ) (n m other : ℕ) → edges ≡ w.edges → slice_get edges number ≡ Some edge → edge.lower ≡ class → edge.upper ≡ link.parent → own ≡ w.nodes edge.pair → own ≡ nodes → nodes ≡ v → v ≡ kept head n → head ≡ w.name link.parent → n ≡ m → m ≡ w.arity class → other ≡ w.arity link.parent → other ≡ m → KeepsArgs w class link number
keeps-args w class link number edges edge nodes v own head n m other same is lower upper a b c d e f g h k = record {
  edge = edge;
  declared = ap (λ l. slice_get l number) (sym same) ∙ is;
  begins = lower;
  ends = upper;
  keeps = sym a ∙ b ∙ c ∙ d ∙ ap (λ x. kept x n) e ∙ ap (kept (w.name link.parent)) (f ∙ g);
  arity = sym h ∙ k ∙ g;
}

-- ---- the form of a pair

cut-tail : (l m k nodes : List Node) → l ++ m ≡ nodes → nodes ≡ l ++ k → m ≡ k
cut-tail l m k nodes e f = append_cancel_left l m k (e ∙ f)

pub has-form : (nodes : List Node) (end last : ℕ) (a b : Node) (head name : List ℕ) (count above : ℕ) (r : Bool) → following (drop 0 nodes) 1 ≡ Some (drop end nodes) → end ≤ length nodes → end ≢ length nodes → end ≢ 0 → following (drop end nodes) 1 ≡ Some (drop last nodes) → last ≡ length nodes → a ≡ get_or nodes end a → a ≡ node.Class head above → b ≡ get_or nodes 0 b → b ≡ node.List count → r ≡ pointwise nat_eq head name → r ≡ true → HasForm nodes name above
has-form nodes end last a b head name count above r first within left some_terms second whole e is f begin g h =
    let less : end < length nodes = omega (arith, within, left) in
    let least : 1 ≤ end = omega (arith, some_terms) in
    let any : 0 < length nodes = omega (arith, less) in
    let one = cut-second nodes end count b first least any f begin in
    let two = cut-first nodes end above head a first less e is in
    let tail : drop end nodes ≡ node.Class head above ∷ drop (end + 1) nodes = cut-tail (take end nodes) (drop end nodes) (node.Class head above ∷ drop (end + 1) nodes) nodes (take-append-drop end nodes) two.0 in
    let zero_more : above + 0 ≡ above = omega arith in
    let gives : following (drop (end + 1) nodes) above ≡ Some [] = ap (following (drop (end + 1) nodes)) (sym zero_more) ∙ ap (λ l. following l 1) (sym tail) ∙ second ∙ ap Some (ap (λ n. drop n nodes) whole ∙ drop-length nodes) in
    subst (λ n. HasForm nodes n above) ((bytes_decides head name).0 (sym g ∙ h)) (record {
      count = count;
      args = take (end - 1) (drop 1 nodes);
      ends = drop (end + 1) nodes;
      is = one.0 ∙ ap (λ l. node.List count ∷ take (end - 1) (drop 1 nodes) ++ l) tail;
      given = one.1;
      gives = gives;
    })

pub ruleset forms = (has-form)

-- ---- variables in order

counts-append : (from n : ℕ) → counts from (suc n) ≡ counts from n ++ node.Variable (from + n) ∷ []
counts-append from zero = let e : from ≡ from + 0 = omega arith in ap (λ k. node.Variable k ∷ []) e
counts-append from (suc n) =
    let e : suc from + n ≡ from + suc n = omega arith in
    ap (λ l. node.Variable from ∷ l) (counts-append (suc from) n ∙ ap (λ k. counts (suc from) n ++ node.Variable k ∷ []) e)

pub counts-more : (before now after : List Node) (i : ℕ) → now ≡ before ++ counts 0 i → after ≡ now ++ node.Variable i ∷ [] → after ≡ before ++ counts 0 (i + 1)
counts-more before now after i e f =
    let s : suc i ≡ i + 1 = omega arith in
    let z : 0 + i ≡ i = omega arith in
    f ∙ ap (λ l. l ++ node.Variable i ∷ []) e ∙ append_assoc before (counts 0 i) (node.Variable i ∷ []) ∙ ap (λ l. before ++ l) (ap (λ k. counts 0 i ++ node.Variable k ∷ []) (sym z) ∙ sym (counts-append 0 i) ∙ ap (counts 0) s)

pub counts-none : (before : List Node) → before ≡ before ++ counts 0 0
counts-none before = sym (append-nil before)

pub ruleset counting = (counts-more, counts-none)

-- ---- lists

pub in-list : (w : Tables) (root place : ℕ) (lists : List (ℕ × ℕ)) (above : List Ancestor) (first end : ℕ) (entry : Ancestor) → lists ≡ w.lists → above ≡ w.above → slice_get lists root ≡ Some (first, end) → slice_get above place ≡ Some entry → first ≤ place → place < end → entry.class ≡ root → InList w root place entry
in-list w root place lists above first end entry l a range is from before owner = record {
  range = (first, end);
  list = ap (λ x. slice_get x root) (sym l) ∙ range;
  from = from;
  before = before;
  is = ap (λ x. slice_get x place) (sym a) ∙ is;
  owner = owner;
}

pub given-in : (w : Tables) (root upper : ℕ) (nodes : List Node) (place : ℕ) (entry : Ancestor) (l pair b own : List Node) → InList w root place entry → entry.upper ≡ upper → SameInstances l pair → l ≡ nodes → own ≡ w.nodes entry.pair → own ≡ b → b ≡ pair → IsGivenIn w root upper nodes
given-in w root upper nodes place entry l pair b own listed e same g is f h = record {
  place = place;
  both = entry;
  listed = listed;
  upper_is = e;
  same = subst (λ x. SameInstances x (w.nodes entry.pair)) g (subst (SameInstances l) (sym h ∙ sym f ∙ is) same);
}

module _ (w : Tables) (edge : Edge) (place : ℕ) (above : List Ancestor) (entry : Ancestor) (first second : List Node) (list : above ≡ w.above) (is : slice_get above place ≡ Some entry) (lower : first ≡ w.nodes edge.pair) (upper : second ≡ w.nodes entry.pair) where
  own : (found : Ancestor) → slice_get w.above place ≡ Some found → entry ≡ found
  own found h = some_entries entry found (sym is ∙ ap (λ l. slice_get l place) list ∙ h)
    where
      some_entries : (a b : Ancestor) → Some a ≡ Some b → a ≡ b
      some_entries a b e = cc

  at_pairs : (r : Option (List Node)) → IsComposed first second r → IsComposed (w.nodes edge.pair) (w.nodes entry.pair) r
  at_pairs r h = subst (λ l. IsComposed (w.nodes edge.pair) l r) upper (subst (λ l. IsComposed l second r) lower h)

  pub covered-None : IsComposed first second None → IsCoveredAt w edge place
  covered-None h = record { each = λ found e. inl (subst (λ (x : Ancestor). IsComposed (w.nodes edge.pair) (w.nodes x.pair) None) (own found e) (at_pairs None h)) }

  pub covered-Some : (nodes : List Node) → IsComposed first second (Some nodes) → IsGivenIn w edge.lower entry.upper nodes → IsCoveredAt w edge place
  covered-Some nodes h given = record { each = λ found e. inr (subst (IsCovered w edge) (own found e) both) }
    where
      both : IsCovered w edge entry
      both = record {
        place = given.place;
        both = given.both;
        listed = given.listed;
        upper = given.upper_is;
        gives = record { composed = nodes; gives = at_pairs (Some nodes) h; same = given.same };
      }

pub covers-none : (w : Tables) (edge : Edge) (first : ℕ) → AreCovered w edge first first
covers-none w edge first = record { each = λ place h k. absurd (omega (arith, h, k)) }

pub covers-more : (w : Tables) (edge : Edge) (first i : ℕ) → AreCovered w edge first i → IsCoveredAt w edge i → AreCovered w edge first (i + 1)
covers-more w edge first i all here = record { each = λ place h k. below_more (λ j. first ≤ j → IsCoveredAt w edge j) i (λ j less from. all.each j from less) (λ from. here) place k h }

pub covers-end : (w : Tables) (edge : Edge) (first i end : ℕ) → AreCovered w edge first i → end ≤ i → AreCovered w edge first end
covers-end w edge first i end all past = record { each = λ place h k. let less : place < i = omega (arith, k, past) in all.each place h less }

module _ (w : Tables) (edge : Edge) (above : ℕ) (links : List ParentLink) (link : ParentLink) (list : links ≡ w.links) (is : slice_get links edge.upper ≡ Some link) where
  covering-with : ((place : ℕ) (entry : Ancestor) → InList w link.root place entry → GoesOn w edge link.root above → IsComposed (w.nodes edge.pair) (w.nodes entry.pair) None ⊎ IsCovered w edge entry) → IsCovering w edge above
  covering-with covers = record {
    link = link;
    is = ap (λ l. slice_get l edge.upper) (sym list) ∙ is;
    covers = covers;
  }

  pub covering-ends : (GoesOn w edge link.root above → ⊥) → IsCovering w edge above
  covering-ends ends = covering-with (λ place entry h goes. absurd (ends goes))

  covering-range : (lists : List (ℕ × ℕ)) (first end : ℕ) → lists ≡ w.lists → slice_get lists link.root ≡ Some (first, end) → AreCovered w edge first end → IsCovering w edge above
  covering-range lists first end same range covered = covering-with (λ place entry h goes. in_range place entry h (ranges h.range (first, end) (sym h.list ∙ ap (λ l. slice_get l link.root) (sym same) ∙ range)))
    where
      ranges : (a b : ℕ × ℕ) → Some a ≡ Some b → a ≡ b
      ranges a b e = cc

      in_range : (place : ℕ) (entry : Ancestor) (h : InList w link.root place entry) → h.range ≡ (first, end) → IsComposed (w.nodes edge.pair) (w.nodes entry.pair) None ⊎ IsCovered w edge entry
      in_range place entry h e = (covered.each place (subst (λ (r : ℕ × ℕ). r.0 ≤ place) e h.from) (subst (λ (r : ℕ × ℕ). place < r.1) e h.before)).each entry h.is

  pub covering-goes : (lists : List (ℕ × ℕ)) (place : ℕ × ℕ) → lists ≡ w.lists → slice_get lists link.root ≡ Some place → AreCovered w edge place.0 place.1 → IsCovering w edge above
  covering-goes lists place same range covered = covering-range lists place.0 place.1 same range covered

pub is-listed : (w : Tables) (edge : Edge) (place : ℕ) (entry : Ancestor) → InList w edge.lower place entry → entry.pair ≡ edge.pair → entry.upper ≡ edge.upper → IsListed w edge
is-listed w edge place entry listed pair upper = record { place = place; entry = entry; listed = listed; pair = pair; upper = upper }

pub kept-tree : (w : Tables) (links : List ParentLink) (number n : ℕ) (edge : Edge) (link : ParentLink) → links ≡ w.links → slice_get links edge.lower ≡ Some link → link.edge ≡ Some n → n ≡ number → IsKeptEdge w number edge
kept-tree w links number n edge link same is e f = record {
  link = link;
  is = ap (λ l. slice_get l edge.lower) (sym same) ∙ is;
  kept = inl (e ∙ ap Some f);
}

pub kept-list : (w : Tables) (links : List ParentLink) (number : ℕ) (edge : Edge) (link : ParentLink) → links ≡ w.links → slice_get links edge.lower ≡ Some link → IsRoot edge.lower link → IsListed w edge → IsKeptEdge w number edge
kept-list w links number edge link same is root listed = record {
  link = link;
  is = ap (λ l. slice_get l edge.lower) (sym same) ∙ is;
  kept = inr (root, listed);
}

-- ---- the pairs of the lists

pub gives-pair : (first second both l m k b given g pair : List Node) → l ≡ first → m ≡ second → k ≡ both → IsComposed l m (Some given) → g ≡ given → SameInstances g pair → k ≡ b → b ≡ pair → GivesPair first second both
gives-pair first second both l m k b given g pair a c d h f same e i = record {
  composed = given;
  gives = subst (λ x. IsComposed first x (Some given)) c (subst (λ x. IsComposed x m (Some given)) a h);
  same = subst (λ x. SameInstances x both) f (subst (SameInstances g) (sym i ∙ sym e ∙ d) same);
}

pub has-own : (w : Tables) (entry : Ancestor) (above : List Ancestor) (own : Ancestor) → above ≡ w.above → slice_get above entry.own ≡ Some own → own.edge ≡ entry.edge → own.next ≡ None → HasOwn w entry
has-own w entry above own a is edge last = record {
  own = own;
  is = ap (λ l. slice_get l entry.own) (sym a) ∙ is;
  edge = edge;
  last = last;
}

pub goes-on-with : (w : Tables) (edge : Edge) (count : ℕ) (entry : Ancestor) (place before : ℕ) (second : Ancestor) (links : List ParentLink) (link : ParentLink) → links ≡ w.links → entry.next ≡ Some before → before < place → slice_get links edge.upper ≡ Some link → InList w link.root before second → GoesOn w edge link.root count → entry.upper ≡ second.upper → HasOwn w entry → GivesPair (w.nodes edge.pair) (w.nodes second.pair) (w.nodes entry.pair) → GoesOnWith w edge count entry place before
goes-on-with w edge count entry place before second links link l later less linked listed whole upper own gives = record {
  later = later;
  earlier = less;
  second = second;
  link = link;
  linked = ap (λ x. slice_get x edge.upper) (sym l) ∙ linked;
  listed = listed;
  whole = whole;
  upper = upper;
  own = own;
  gives = gives;
}

pub is-own : (w : Tables) (edge : Edge) (count : ℕ) (entry : Ancestor) → entry.next ≡ None → entry.pair ≡ edge.pair → entry.upper ≡ edge.upper → IsCovering w edge count → IsOwn w edge count entry
is-own w edge count entry last pair upper covering = record { last = last; pair = pair; upper = upper; covering = covering }

module _ (w : Tables) (place : ℕ) (entry : Ancestor) (edges : List Edge) (edge : Edge) (above count : ℕ) (nodes others : List Node) (name head : List ℕ) (list : edges ≡ w.edges) (is : slice_get edges entry.edge ≡ Some edge) (begins : edge.lower ≡ entry.class) (of_edge : nodes ≡ w.nodes edge.pair) (to : name ≡ w.name edge.upper) (form : HasForm nodes name above) (of_entry : others ≡ w.nodes entry.pair) (ends : head ≡ w.name entry.upper) (whole : HasForm others head count) where
  sound-with : IsOwn w edge above entry ⊎ ((before : ℕ) × GoesOnWith w edge above entry place before) → IsSound w place entry
  sound-with goes = record {
    edge = edge;
    declared = ap (λ l. slice_get l entry.edge) (sym list) ∙ is;
    begins = begins;
    above = above;
    form = subst (λ l. HasForm l (w.name edge.upper) above) of_edge (subst (λ n. HasForm nodes n above) to form);
    count = count;
    whole = subst (λ l. HasForm l (w.name entry.upper) count) of_entry (subst (λ n. HasForm others n count) ends whole);
    goes = goes;
  }

  pub sound-own : IsOwn w edge above entry → IsSound w place entry
  sound-own own = sound-with (inl own)

  pub sound-goes : (before : ℕ) → GoesOnWith w edge above entry place before → IsSound w place entry
  sound-goes before with = sound-with (inr (before, with))

-- ---- pairs without arguments

pub is-bare : (nodes : List Node) (a b : Node) (n m : ℕ) (head : List ℕ) → length nodes ≡ 2 → a ≡ get_or nodes 0 a → b ≡ get_or nodes 1 b → a ≡ node.List n → b ≡ node.Class head m → n ≡ 0 → m ≡ 0 → IsBare nodes
is-bare nodes a b n m head len e f is class zero_args zero_above = record { head = head; is = two nodes len e f ∙ ap (λ x. x ∷ b ∷ []) (is ∙ ap node.List zero_args) ∙ ap (λ x. node.List 0 ∷ x ∷ []) (class ∙ ap (node.Class head) zero_above) }
  where
    two : (l : List Node) → length l ≡ 2 → a ≡ get_or l 0 a → b ≡ get_or l 1 b → l ≡ a ∷ b ∷ []
    two [] h e f = absurd (omega (arith, h))
    two (x ∷ []) h e f = absurd (omega (arith, h))
    two (x ∷ (y ∷ [])) h e f = ap (λ z. z ∷ y ∷ []) (sym e) ∙ ap (λ z. a ∷ z ∷ []) (sym f)
    two (x ∷ (y ∷ (z ∷ l))) h e f = absurd (omega (arith, h))

pub begins-bare : (nodes : List Node) (a : Node) (n : ℕ) → 0 < length nodes → a ≡ get_or nodes 0 a → a ≡ node.List n → n ≡ 0 → BeginsBare nodes
begins-bare nodes a n any e is none = begin nodes any e
  where
    begin : (l : List Node) → 0 < length l → a ≡ get_or l 0 a → BeginsBare l
    begin [] h e = absurd (omega (arith, h))
    begin (x ∷ l) h e = record { rest = l; is = ap (λ z. z ∷ l) (sym e ∙ is ∙ ap node.List none) }

same-itself : (nodes : List Node) → SameInstances nodes nodes
same-itself nodes = record { same = λ f. ((λ i. i), (λ i. i)) }

pub passed-in : (w : Tables) (root upper : ℕ) (own : ℕ) (place : ℕ) (entry : Ancestor) → InList w root place entry → entry.pair ≡ own → entry.upper ≡ upper → IsGivenIn w root upper (w.nodes own)
passed-in w root upper own place entry listed same e = record {
  place = place;
  both = entry;
  listed = listed;
  upper_is = e;
  same = subst (λ p. SameInstances (w.nodes own) (w.nodes p)) (sym same) (same-itself (w.nodes own));
}

pub covered-passed : (w : Tables) (edge : Edge) (place : ℕ) (above : List Ancestor) (entry : Ancestor) (first second : List Node) → above ≡ w.above → slice_get above place ≡ Some entry → first ≡ w.nodes edge.pair → second ≡ w.nodes entry.pair → IsBare first → BeginsBare second → IsGivenIn w edge.lower entry.upper (w.nodes entry.pair) → IsCoveredAt w edge place
covered-passed w edge place above entry first second list is lower upper bare begins given =
    covered-Some w edge place above entry first second list is lower upper (w.nodes entry.pair) (subst (λ l. IsComposed first second (Some l)) upper (bare-gives first second begins.rest bare.head bare.is begins.is)) given

pub gives-passed : (first second both l m : List Node) → l ≡ first → m ≡ second → second ≡ both → IsBare l → BeginsBare m → GivesPair first second both
gives-passed first second both l m a b same bare begins = record {
  composed = second;
  gives = subst (λ x. IsComposed first x (Some x)) b (subst (λ x. IsComposed x m (Some m)) a (bare-gives l m begins.rest bare.head bare.is begins.is));
  same = subst (SameInstances second) same (same-itself second);
}

pub ruleset bares = (is-bare, begins-bare)

pub ruleset links = (tried_root, tried_below, keeps-args)

pub ruleset edges = (in-list, given-in, passed-in, covered-None, covered-Some, covered-passed, covering-ends, covering-goes, is-listed, kept-tree, kept-list)

pub ruleset entries = (gives-pair, gives-passed, has-own, goes-on-with, is-own, sound-own, sound-goes)

-- ---- all of a list

some_items : {A : Type 0} (a b : A) → Some a ≡ Some b → a ≡ b
some_items a b e = cc

-- what is true of the items before one and of that one is true of those before the next
pub all-more : {A : Type 0} (P : ℕ → A → Type 0) (xs : List A) (i : ℕ) (x : A) → ((k : ℕ) (a : A) → k < i → slice_get xs k ≡ Some a → P k a) → i < length xs → x ≡ get_or xs i x → P i x → (k : ℕ) (a : A) → k < i + 1 → slice_get xs k ≡ Some a → P k a
all-more {A = A} P xs i x all less is here k a under found =
    below_more (λ j. (b : A) → slice_get xs j ≡ Some b → P j b) i (λ j h b e. all j b h e) (λ b e. subst (P i) (some_items x b (sym (slice_get_read xs (length xs) i x refl less is) ∙ e)) here) k under a found

-- of all at the end
pub all-of : {A : Type 0} (P : ℕ → A → Type 0) (xs : List A) (i : ℕ) → ((k : ℕ) (a : A) → k < i → slice_get xs k ≡ Some a → P k a) → length xs ≤ i → (k : ℕ) (a : A) → slice_get xs k ≡ Some a → P k a
all-of P xs i all end k a found = let within = slice_get_within xs k a found in all k a (omega (arith, end, within)) found

-- the links, the edges and the pairs that were verified so far
pub record LinksSoFar (w : Tables) (links : List ParentLink) (n : ℕ) : Type 0 where
  pub each : (class : ℕ) (link : ParentLink) → class < n → slice_get links class ≡ Some link → IsTriedLink w class link

pub record EdgesSoFar (w : Tables) (edges : List Edge) (n : ℕ) : Type 0 where
  pub each : (number : ℕ) (edge : Edge) → number < n → slice_get edges number ≡ Some edge → IsKeptEdge w number edge

pub record ListsSoFar (w : Tables) (above : List Ancestor) (n : ℕ) : Type 0 where
  pub each : (place : ℕ) (entry : Ancestor) → place < n → slice_get above place ≡ Some entry → IsSound w place entry

pub links-none : (w : Tables) (links : List ParentLink) → LinksSoFar w links 0
links-none w links = record { each = λ class link h. absurd (omega (arith, h)) }

pub links-more : (w : Tables) (links : List ParentLink) (i n : ℕ) (x : ParentLink) → LinksSoFar w links i → i < length links → x ≡ get_or links i x → n ≡ i → IsTriedLink w n x → LinksSoFar w links (i + 1)
links-more w links i n x all less is e here = record { each = all-more (IsTriedLink w) links i x all.each less is (subst (λ k. IsTriedLink w k x) e here) }

pub links-all : (w : Tables) (links : List ParentLink) (i : ℕ) → LinksSoFar w links i → length links ≤ i → links ≡ w.links → AreTriedLinks w
links-all w links i all end e = record { each = λ class link h. all-of (IsTriedLink w) links i all.each end class link (ap (λ l. slice_get l class) e ∙ h) }

pub edges-none : (w : Tables) (edges : List Edge) → EdgesSoFar w edges 0
edges-none w edges = record { each = λ number edge h. absurd (omega (arith, h)) }

pub edges-more : (w : Tables) (edges : List Edge) (i n : ℕ) (x : Edge) → EdgesSoFar w edges i → i < length edges → x ≡ get_or edges i x → n ≡ i → IsKeptEdge w n x → EdgesSoFar w edges (i + 1)
edges-more w edges i n x all less is e here = record { each = all-more (IsKeptEdge w) edges i x all.each less is (subst (λ k. IsKeptEdge w k x) e here) }

pub edges-all : (w : Tables) (edges : List Edge) (i : ℕ) → EdgesSoFar w edges i → length edges ≤ i → edges ≡ w.edges → AreTriedEdges w
edges-all w edges i all end e = record { each = λ number edge h. all-of (IsKeptEdge w) edges i all.each end number edge (ap (λ l. slice_get l number) e ∙ h) }

pub lists-none : (w : Tables) (above : List Ancestor) → ListsSoFar w above 0
lists-none w above = record { each = λ place entry h. absurd (omega (arith, h)) }

pub lists-more : (w : Tables) (above : List Ancestor) (i n : ℕ) (x : Ancestor) → ListsSoFar w above i → i < length above → x ≡ get_or above i x → n ≡ i → IsSound w n x → ListsSoFar w above (i + 1)
lists-more w above i n x all less is e here = record { each = all-more (IsSound w) above i x all.each less is (subst (λ k. IsSound w k x) e here) }

pub lists-all : (w : Tables) (above : List Ancestor) (i : ℕ) → ListsSoFar w above i → length above ≤ i → above ≡ w.above → AreTriedLists w
lists-all w above i all end e = record { each = λ place entry h. all-of (IsSound w) above i all.each end place entry (ap (λ l. slice_get l place) e ∙ h) }

pub are-tried : (w : Tables) → AreTriedLinks w → AreTriedEdges w → AreTriedLists w → AreTried w
are-tried w links edges lists = record { links = links; edges = edges; lists = lists }

-- the trees that were verified
pub tried-linked : (w : Tables) (links : List ParentLink) → AreTried w → links ≡ w.links → AreLinked links
tried-linked w links tried e = record { linked = λ class link h. subst (λ l. IsLinked l class link) (sym e) ((tried.links.each class link (ap (λ l. slice_get l class) (sym e) ∙ h)).linked) }

pub ruleset tried = (are-tried)

pub ruleset linked = (tried-linked)

pub ruleset loops = (covers-none, covers-more, covers-end, links-none, links-more, links-all, edges-none, edges-more, edges-all, lists-none, lists-more, lists-all)
