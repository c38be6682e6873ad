-- What the tables say is what the edges lead to, if the verifier has accepted the tables.
use Rattle.std.proofs.Common.{◌≡◌, ◌⊎◌, inl, inr, ℕ, zero, suc, ◌<◌, List, Some, None, slice_get, refl, sym, ap, subst, ◌∙◌, arith}
use Rattle.std.proofs.lemmas.Option.{none-some}
use Rattle.sa_unify.specs.declared.declared.Edge.{Edge}
use Rattle.sa_hierarchy.specs.declared.class_hierarchy.Ancestor.{Ancestor}
use Rattle.sa_hierarchy.specs.declared.links.ParentLink.{ParentLink}
use Rattle.sa_unify.specs.declared.pattern.Node.{Node}
use Rattle.sa_unify.specs.Terms.{IsInstance, IsComposed}
use Rattle.sa_hierarchy.specs.Hierarchies.{Tables, At, class_at, AreArgs, pair_of, Step, Leads, by_edge, by_edges, Line, here, up, IsBelow, IsRoot, IsLinked, KeepsArgs, InList, HasForm, GoesOn, IsCovered, IsCovering, IsListed, IsKeptEdge, IsOwn, HasOwn, GoesOnWith, IsSound, AreTried, InLine, ByList, IsFound}
use Rattle.sa_hierarchy.proofs.Lines.{same-link, line-over, line-one, line-from, line-to, is-below, line-strict, line-root}
use Rattle.sa_hierarchy.proofs.Pairs.{form-parts, given-pair, between-composed, kept-instance, kept-parts}

some_edges : (l m : Edge) → Some l ≡ Some m → l ≡ m
some_edges l m e = cc

leads-over : {w : Tables} {s t u : At} → Leads w s t → Leads w t u → Leads w s u
leads-over (by_edge step) k = by_edges step k
leads-over (by_edges step h) k = by_edges step (leads-over h k)

leads-from : {w : Tables} {s s' t : At} → s ≡ s' → Leads w s' t → Leads w s t
leads-from {w = w} {t = t} e h = subst (λ x. Leads w x t) (sym e) h

leads-to : {w : Tables} {s t t' : At} → t' ≡ t → Leads w s t' → Leads w s t
leads-to {w = w} {s = s} e h = subst (λ x. Leads w s x) e h

-- the same from a class that is equal or that leads there
leads_or-from : {w : Tables} (c d n : ℕ) (args : List Node) (t : At) → (c ≡ d) ⊎ Leads w (class_at c n args) (class_at d n args) → Leads w (class_at d n args) t → Leads w (class_at c n args) t
leads_or-from c d n args t (inl e) h = leads-from (ap (λ x. class_at x n args) e) h
leads_or-from c d n args t (inr k) h = leads-over k h

leads_or-to : {w : Tables} (c d n : ℕ) (args : List Node) (s : At) → Leads w s (class_at c n args) → (c ≡ d) ⊎ Leads w (class_at c n args) (class_at d n args) → Leads w s (class_at d n args)
leads_or-to c d n args s h (inl e) = leads-to (ap (λ x. class_at x n args) e) h
leads_or-to c d n args s h (inr k) = leads-over h k

module _ (w : Tables) (tried : AreTried w) where
  linked : (class : ℕ) (link : ParentLink) → slice_get w.links class ≡ Some link → IsLinked w.links class link
  linked class link is = (tried.links.each class link is).linked

  keeps_args : (class number : ℕ) (link : ParentLink) → slice_get w.links class ≡ Some link → link.edge ≡ Some number → KeepsArgs w class link number
  keeps_args class number link is edge = (tried.links.each class link is).keeps number edge

  -- ---- the trees

  below : (c : ℕ) (link : ParentLink) (number : ℕ) → slice_get w.links c ≡ Some link → link.edge ≡ Some number → IsBelow w.links link
  below = is-below w.links linked

  -- along a line the classes have equally many parameters
  line-arity : {c u : ℕ} → Line w.links c u → w.arity u ≡ w.arity c
  line-arity here = refl
  line-arity {c = c} (up link number is edge rest) = line-arity rest ∙ (keeps_args c number link is edge).arity

  -- the edge to the parent leads to the same arguments
  parent-step : (c n : ℕ) (args : List Node) (link : ParentLink) (number : ℕ) → slice_get w.links c ≡ Some link → link.edge ≡ Some number → n ≡ w.arity c → AreArgs n args → Step w (class_at c n args) (class_at link.parent n args)
  parent-step c n args link number is edge count given =
      let keeps = keeps_args c number link is edge in
      let own : AreArgs (w.arity c) args = subst (λ k. AreArgs k args) count given in
      let kept = kept-instance (w.name link.parent) (w.arity c) args own in
      record {
        number = number;
        edge = keeps.edge;
        declared = keeps.declared;
        begins = keeps.begins;
        ends = keeps.ends;
        given = given;
        gives = given;
        instance = subst (λ k. IsInstance (w.nodes keeps.edge.pair) (pair_of k args (w.name link.parent) k args)) (sym count) (subst (λ l. IsInstance l (pair_of (w.arity c) args (w.name link.parent) (w.arity c) args)) (sym keeps.keeps) kept);
      }

  line-leads : {c u : ℕ} → Line w.links c u → (n : ℕ) (args : List Node) → n ≡ w.arity c → AreArgs n args → (c ≡ u) ⊎ Leads w (class_at c n args) (class_at u n args)
  line-leads here n args count given = inl refl
  line-leads {c = c} {u = u} (up link number is edge rest) n args count given = go (line-leads rest n args (count ∙ sym (keeps_args c number link is edge).arity) given)
    where
      step : Step w (class_at c n args) (class_at link.parent n args)
      step = parent-step c n args link number is edge count given

      go : (link.parent ≡ u) ⊎ Leads w (class_at link.parent n args) (class_at u n args) → (c ≡ u) ⊎ Leads w (class_at c n args) (class_at u n args)
      go (inl e) = inr (leads-to (ap (λ x. class_at x n args) e) (by_edge step))
      go (inr h) = inr (by_edges step h)

  -- ---- what the edges lead to is found

  -- what an edge gives that is represented in the tree
  record Parent (s t : At) : Type 0 where
    link : ParentLink
    number : ℕ
    is : slice_get w.links s.class ≡ Some link
    edge : link.edge ≡ Some number
    class : link.parent ≡ t.class
    arity : s.count ≡ w.arity s.class
    count : s.count ≡ t.count
    args : s.args ≡ t.args

  -- what one gives that is represented in a list
  record Root (s t : At) : Type 0 where
    edge : Edge
    lower : edge.lower ≡ s.class
    upper : edge.upper ≡ t.class
    root : (link : ParentLink) × (slice_get w.links edge.lower ≡ Some link) × (link.root ≡ edge.lower)
    listed : IsListed w edge
    given : AreArgs s.count s.args
    gives : AreArgs t.count t.args
    instance : IsInstance (w.nodes edge.pair) (pair_of s.count s.args (w.name t.class) t.count t.args)

  step-kept : (s t : At) → Step w s t → Parent s t ⊎ Root s t
  step-kept s t step = go kept.kept
    where
      kept : IsKeptEdge w step.number step.edge
      kept = tried.edges.each step.number step.edge step.declared

      is : slice_get w.links s.class ≡ Some kept.link
      is = ap (slice_get w.links) (sym step.begins) ∙ kept.is

      go : (kept.link.edge ≡ Some step.number) ⊎ (IsRoot step.edge.lower kept.link × IsListed w step.edge) → Parent s t ⊎ Root s t
      go (inl edge) =
          let keeps = keeps_args s.class step.number kept.link is edge in
          let same : step.edge ≡ keeps.edge = some_edges step.edge keeps.edge (sym step.declared ∙ keeps.declared) in
          let own = subst (λ l. IsInstance l (pair_of s.count s.args (w.name t.class) t.count t.args)) (ap (λ (e : Edge). w.nodes e.pair) same ∙ keeps.keeps) step.instance in
          let parts = kept-parts (w.name kept.link.parent) (w.arity s.class) s.count s.args (w.name t.class) t.count t.args step.given own in
          inl (record {
            link = kept.link;
            number = step.number;
            is = is;
            edge = edge;
            class = sym keeps.ends ∙ ap (λ (e : Edge). e.upper) (sym same) ∙ step.ends;
            arity = parts.count_is;
            count = parts.count_is ∙ sym parts.above_is;
            args = parts.args_same;
          })
      go (inr root) = inr (record {
        edge = step.edge;
        lower = step.begins;
        upper = step.ends;
        root = (kept.link, kept.is, (root.0).root);
        listed = root.1;
        given = step.given;
        gives = step.gives;
        instance = step.instance;
      })

  -- from a root with these arguments to a type, by a pair of the root's list
  record InRoot (root n : ℕ) (args : List Node) (u : At) : Type 0 where
    place : ℕ
    entry : Ancestor
    listed : InList w root place entry
    line : Line w.links entry.upper u.class
    ends : (entry.upper ≡ u.class) ⊎ (u.count ≡ w.arity u.class)
    head : List ℕ
    instance : IsInstance (w.nodes entry.pair) (pair_of n args head u.count u.args)

  by-root : (s u : At) (link : ParentLink) → slice_get w.links s.class ≡ Some link → (link.root ≡ s.class) ⊎ (s.count ≡ w.arity s.class) → InRoot link.root s.count s.args u → ByList w s u
  by-root s u link is whole h = record {
    link = link;
    is = is;
    whole = whole;
    place = h.place;
    entry = h.entry;
    listed = h.listed;
    line = h.line;
    ends = h.ends;
    head = h.head;
    instance = h.instance;
  }

  -- the class of an edge that is represented in a list is a root
  root-found : (s t u : At) (root : Root s t) → InRoot root.edge.lower s.count s.args u → ByList w s u
  root-found s t u root h =
      by-root s u root.root.0 (ap (slice_get w.links) (sym root.lower) ∙ root.root.1) (inl (root.root.2 ∙ root.lower)) (subst (λ x. InRoot x s.count s.args u) (sym root.root.2) h)

  found-step : (s t : At) → Parent s t ⊎ Root s t → IsFound w s t
  found-step s t (inl parent) = inl (record {
    line = line-to w.links parent.class (line-one w.links s.class parent.link parent.number parent.is parent.edge);
    apart = line-strict w.links linked s.class t.class parent.number parent.link parent.is parent.edge (line-to w.links parent.class here);
    arity = parent.arity;
    count = parent.count;
    args = parent.args;
  })
  found-step s t (inr root) =
      let listed = root.listed in
      let upper : listed.entry.upper ≡ t.class = listed.upper ∙ root.upper in
      inr (root-found s t t root (record {
        place = listed.place;
        entry = listed.entry;
        listed = listed.listed;
        line = line-to w.links upper here;
        ends = inl upper;
        head = w.name t.class;
        instance = subst (λ p. IsInstance (w.nodes p) (pair_of s.count s.args (w.name t.class) t.count t.args)) (sym listed.pair) root.instance;
      }))

  -- after an edge of the tree
  found-parent : (s t u : At) → Parent s t → IsFound w t u → IsFound w s u
  found-parent s t u parent (inl line) =
      let above = line-from w.links parent.class line.line in
      inl (record {
        line = line-over w.links (line-one w.links s.class parent.link parent.number parent.is parent.edge) above;
        apart = line-strict w.links linked s.class u.class parent.number parent.link parent.is parent.edge above;
        arity = parent.arity;
        count = parent.count ∙ line.count;
        args = parent.args ∙ line.args;
      })
  found-parent s t u parent (inr list) =
      let hangs = below s.class parent.link parent.number parent.is parent.edge in
      let same = same-link w.links t.class list.link hangs.parent list.is (ap (slice_get w.links) (sym parent.class) ∙ hangs.is) in
      let root : list.link.root ≡ parent.link.root = ap (λ (l : ParentLink). l.root) same ∙ sym hangs.root in
      inr (record {
        link = parent.link;
        is = parent.is;
        whole = inr parent.arity;
        place = list.place;
        entry = list.entry;
        listed = subst (λ x. InList w x list.place list.entry) root list.listed;
        line = list.line;
        ends = list.ends;
        head = list.head;
        instance = subst (λ l. IsInstance (w.nodes list.entry.pair) (pair_of s.count l list.head u.count u.args)) (sym parent.args) (subst (λ k. IsInstance (w.nodes list.entry.pair) (pair_of k t.args list.head u.count u.args)) (sym parent.count) list.instance);
      })

  -- after a pair of a list, in a tree
  entry-line : (root place : ℕ) (entry : Ancestor) (n : ℕ) (args : List Node) (head : List ℕ) (m : ℕ) (above : List Node) (u : At) → InList w root place entry → IsInstance (w.nodes entry.pair) (pair_of n args head m above) → InLine w (class_at entry.upper m above) u → InRoot root n args u
  entry-line root place entry n args head m above u listed instance line =
      let arity : u.count ≡ w.arity u.class = sym line.count ∙ line.arity ∙ sym (line-arity line.line) in
      record {
        place = place;
        entry = entry;
        listed = listed;
        line = line.line;
        ends = inr arity;
        head = head;
        instance = subst (λ l. IsInstance (w.nodes entry.pair) (pair_of n args head u.count l)) line.args (subst (λ k. IsInstance (w.nodes entry.pair) (pair_of n args head k above)) line.count instance);
      }

  -- after an edge that is verified with the list of the root of its supertype's class
  covered-list : (edge : Edge) (top : ℕ) → HasForm (w.nodes edge.pair) (w.name edge.upper) top → IsCovering w edge top → (n : ℕ) (args : List Node) (name : List ℕ) (m : ℕ) (meet : List Node) (u : At) → AreArgs n args → AreArgs m meet → IsInstance (w.nodes edge.pair) (pair_of n args name m meet) → ByList w (class_at edge.upper m meet) u → InRoot edge.lower n args u
  covered-list edge top form covering n args name m meet u given gives instance list = go (covering.covers list.place list.entry in_list (goes list.whole))
    where
      same : list.link ≡ covering.link
      same = same-link w.links edge.upper list.link covering.link list.is covering.is

      in_list : InList w covering.link.root list.place list.entry
      in_list = subst (λ (l : ParentLink). InList w l.root list.place list.entry) same list.listed

      above : m ≡ top
      above = (form-parts (w.nodes edge.pair) (w.name edge.upper) top form n args name m meet given instance).above_is

      goes : (list.link.root ≡ edge.upper) ⊎ (m ≡ w.arity edge.upper) → GoesOn w edge covering.link.root top
      goes (inl e) = inl (ap (λ (l : ParentLink). l.root) (sym same) ∙ e)
      goes (inr e) = inr (sym above ∙ e)

      go : IsComposed (w.nodes edge.pair) (w.nodes list.entry.pair) None ⊎ IsCovered w edge list.entry → InRoot edge.lower n args u
      go (inl apart) = absurd (given-pair (w.nodes edge.pair) (w.nodes list.entry.pair) None apart n args name m meet list.head u.count u.args given gives instance list.instance)
      go (inr covered) =
          let composed = covered.gives in
          let i = given-pair (w.nodes edge.pair) (w.nodes list.entry.pair) (Some composed.composed) composed.gives n args name m meet list.head u.count u.args given gives instance list.instance in
          record {
            place = covered.place;
            entry = covered.both;
            listed = covered.listed;
            line = line-from w.links covered.upper list.line;
            ends = ends list.ends;
            head = list.head;
            instance = (composed.same.same (pair_of n args list.head u.count u.args)).0 i;
          }
        where
          ends : (list.entry.upper ≡ u.class) ⊎ (u.count ≡ w.arity u.class) → (covered.both.upper ≡ u.class) ⊎ (u.count ≡ w.arity u.class)
          ends (inl e) = inl (covered.upper ∙ e)
          ends (inr e) = inr e

  -- the edge of a list's pair is verified so, since its own pair is in the list
  record Covering (edge : Edge) : Type 0 where
    top : ℕ
    form : HasForm (w.nodes edge.pair) (w.name edge.upper) top
    covers : IsCovering w edge top

  own-covering : (entry : Ancestor) (edge : Edge) → HasOwn w entry → slice_get w.edges entry.edge ≡ Some edge → Covering edge
  own-covering entry edge has declared = subst Covering same (go sound.goes)
    where
      sound : IsSound w entry.own has.own
      sound = tried.lists.each entry.own has.own has.is

      same : sound.edge ≡ edge
      same = some_edges sound.edge edge (sym sound.declared ∙ ap (slice_get w.edges) has.edge ∙ declared)

      go : IsOwn w sound.edge sound.above has.own ⊎ ((next : ℕ) × GoesOnWith w sound.edge sound.above has.own entry.own next) → Covering sound.edge
      go (inl own) = record { top = sound.above; form = sound.form; covers = own.covering }
      go (inr on) = absurd (none-some on.0 (sym has.last ∙ (on.1).later))

  -- what a pair of a list leads to, and what is found after that
  abbrev IsPassed : ℕ → Ancestor → Type 0
  IsPassed root entry = (n : ℕ) (args : List Node) (head : List ℕ) (m : ℕ) (above : List Node) (u : At) → AreArgs n args → AreArgs m above → IsInstance (w.nodes entry.pair) (pair_of n args head m above) → IsFound w (class_at entry.upper m above) u → InRoot root n args u

  -- by a list, if the pairs before it are known
  entry-list : (root place : ℕ) (entry : Ancestor) → ((other next : ℕ) (second : Ancestor) → next < place → InList w other next second → IsPassed other second) → InList w root place entry → (n : ℕ) (args : List Node) (head : List ℕ) (m : ℕ) (above : List Node) (u : At) → AreArgs n args → AreArgs m above → IsInstance (w.nodes entry.pair) (pair_of n args head m above) → ByList w (class_at entry.upper m above) u → InRoot root n args u
  entry-list root place entry earlier listed n args head m above u given gives instance list = subst (λ x. InRoot x n args u) (sound.begins ∙ listed.owner) (go sound.goes)
    where
      sound : IsSound w place entry
      sound = tried.lists.each place entry listed.is

      edge : Edge
      edge = sound.edge

      whole : (root : ℕ) → GoesOn w edge root sound.above → (k : ℕ) → k ≡ sound.above → (root ≡ edge.upper) ⊎ (k ≡ w.arity edge.upper)
      whole root (inl e) k same = inl e
      whole root (inr e) k same = inr (same ∙ e)

      go : IsOwn w edge sound.above entry ⊎ ((next : ℕ) × GoesOnWith w edge sound.above entry place next) → InRoot edge.lower n args u
      go (inl own) = covered-list edge sound.above sound.form own.covering n args head m above u given gives (subst (λ p. IsInstance (w.nodes p) (pair_of n args head m above)) own.pair instance) (subst (λ x. ByList w (class_at x m above) u) own.upper list)
      go (inr on) =
          let with = on.1 in
          let i = (with.gives.same.same (pair_of n args head m above)).1 instance in
          let mid = between-composed (w.nodes edge.pair) (w.nodes with.second.pair) (w.name edge.upper) sound.above sound.form n args head m above given with.gives.composed with.gives.gives i in
          let parts = form-parts (w.nodes edge.pair) (w.name edge.upper) sound.above sound.form n args (w.name edge.upper) mid.count mid.meet given mid.lower in
          let rest = earlier with.link.root on.0 with.second with.earlier with.listed mid.count mid.meet head m above u mid.terms gives mid.upper (inr (subst (λ x. ByList w (class_at x m above) u) with.upper list)) in
          let next = by-root (class_at edge.upper mid.count mid.meet) u with.link with.linked (whole with.link.root with.whole mid.count parts.above_is) rest in
          let own = own-covering entry edge with.own sound.declared in
          covered-list edge own.top own.form own.covers n args (w.name edge.upper) mid.count mid.meet u given mid.terms mid.lower next

  entry-found : (fuel root place : ℕ) (entry : Ancestor) → place < fuel → InList w root place entry → IsPassed root entry
  entry-found zero root place entry less listed n args head m above u given gives instance h = absurd (omega (arith, less))
  entry-found (suc k) root place entry less listed n args head m above u given gives instance (inl line) = entry-line root place entry n args head m above u listed instance line
  entry-found (suc k) root place entry less listed n args head m above u given gives instance (inr list) =
      entry-list root place entry (λ other next second before in_list. let under : next < k = omega (arith, less, before) in entry-found k other next second under in_list) listed n args head m above u given gives instance list

  -- after an edge of a list
  found-root : (s t u : At) → Root s t → IsFound w t u → IsFound w s u
  found-root s t u root h =
      let listed = root.listed in
      let upper : listed.entry.upper ≡ t.class = listed.upper ∙ root.upper in
      let own = subst (λ p. IsInstance (w.nodes p) (pair_of s.count s.args (w.name t.class) t.count t.args)) (sym listed.pair) root.instance in
      let less : listed.place < suc listed.place = omega arith in
      inr (root-found s t u root (entry-found (suc listed.place) root.edge.lower listed.place listed.entry less listed.listed s.count s.args (w.name t.class) t.count t.args u root.given root.gives own (subst (λ x. IsFound w (class_at x t.count t.args) u) (sym upper) h)))

  found-next : (s t u : At) → Parent s t ⊎ Root s t → IsFound w t u → IsFound w s u
  found-next s t u (inl parent) h = found-parent s t u parent h
  found-next s t u (inr root) h = found-root s t u root h

  pub leads-found : {s t : At} → Leads w s t → IsFound w s t
  leads-found {s = s} {t = t} (by_edge step) = found-step s t (step-kept s t step)
  leads-found {s = s} {t = u} (by_edges {t = t} step h) = found-next s t u (step-kept s t step) (leads-found h)

  -- ---- what is found the edges lead to

  -- each instance of a pair in a list
  record Given (entry : Ancestor) (n : ℕ) (args : List Node) (head : List ℕ) (m : ℕ) (above : List Node) : Type 0 where
    head_is : head ≡ w.name entry.upper
    leads : Leads w (class_at entry.class n args) (class_at entry.upper m above)

  abbrev IsGivenAt : Ancestor → Type 0
  IsGivenAt entry = (n : ℕ) (args : List Node) (head : List ℕ) (m : ℕ) (above : List Node) → AreArgs n args → AreArgs m above → IsInstance (w.nodes entry.pair) (pair_of n args head m above) → Given entry n args head m above

  -- from a class to what its root's list leads to
  from_root : (c root n : ℕ) (args : List Node) (link : ParentLink) (t : At) → slice_get w.links c ≡ Some link → root ≡ link.root → (root ≡ c) ⊎ (n ≡ w.arity c) → AreArgs n args → Leads w (class_at root n args) t → Leads w (class_at c n args) t
  from_root c root n args link t is e (inl same) given h = leads-from (ap (λ x. class_at x n args) (sym same)) h
  from_root c root n args link t is e (inr count) given h = leads_or-from c root n args t (line-leads (line-to w.links (sym e) (line-root w.links linked c link is)) n args count given) h

  -- one pair, if those before it are known
  given-entry : (place : ℕ) (entry : Ancestor) → ((next : ℕ) (second : Ancestor) → next < place → slice_get w.above next ≡ Some second → IsGivenAt second) → IsSound w place entry → IsGivenAt entry
  given-entry place entry earlier sound n args head m above given gives instance = go sound.goes
    where
      edge : Edge
      edge = sound.edge

      go : IsOwn w edge sound.above entry ⊎ ((next : ℕ) × GoesOnWith w edge sound.above entry place next) → Given entry n args head m above
      go (inl own) =
          let i = subst (λ p. IsInstance (w.nodes p) (pair_of n args head m above)) own.pair instance in
          let parts = form-parts (w.nodes edge.pair) (w.name edge.upper) sound.above sound.form n args head m above given i in
          let named : head ≡ w.name entry.upper = parts.head_is ∙ ap w.name (sym own.upper) in
          record {
            head_is = named;
            leads = by_edge (record {
              number = entry.edge;
              edge = edge;
              declared = sound.declared;
              begins = sound.begins;
              ends = sym own.upper;
              given = given;
              gives = gives;
              instance = subst (λ x. IsInstance (w.nodes edge.pair) (pair_of n args x m above)) named i;
            });
          }
      go (inr on) =
          let with = on.1 in
          let i = (with.gives.same.same (pair_of n args head m above)).1 instance in
          let mid = between-composed (w.nodes edge.pair) (w.nodes with.second.pair) (w.name edge.upper) sound.above sound.form n args head m above given with.gives.composed with.gives.gives i in
          let rest = earlier on.0 with.second with.earlier with.listed.is mid.count mid.meet head m above mid.terms gives mid.upper in
          let parts = form-parts (w.nodes edge.pair) (w.name edge.upper) sound.above sound.form n args (w.name edge.upper) mid.count mid.meet given mid.lower in
          let first : Step w (class_at entry.class n args) (class_at edge.upper mid.count mid.meet) = record {
            number = entry.edge;
            edge = edge;
            declared = sound.declared;
            begins = sound.begins;
            ends = refl;
            given = given;
            gives = mid.terms;
            instance = mid.lower;
          } in
          let second = from_root edge.upper with.second.class mid.count mid.meet with.link (class_at with.second.upper m above) with.linked with.listed.owner (whole with (with.whole) mid.count parts.above_is) mid.terms rest.leads in
          record {
            head_is = rest.head_is ∙ ap w.name (sym with.upper);
            leads = leads-to (ap (λ x. class_at x m above) (sym with.upper)) (by_edges first second);
          }
        where
          whole : (with : GoesOnWith w edge sound.above entry place on.0) → GoesOn w edge with.link.root sound.above → (k : ℕ) → k ≡ sound.above → (with.second.class ≡ edge.upper) ⊎ (k ≡ w.arity edge.upper)
          whole with (inl e) k same = inl (with.listed.owner ∙ e)
          whole with (inr e) k same = inr (same ∙ e)

  given-before : (fuel place : ℕ) (entry : Ancestor) → place < fuel → slice_get w.above place ≡ Some entry → IsGivenAt entry
  given-before zero place entry h is = absurd (omega (arith, h))
  given-before (suc k) place entry h is = given-entry place entry (λ next second less at_next. let under : next < k = omega (arith, h, less) in given-before k next second under at_next) (tried.lists.each place entry is)

  given-list : (root place : ℕ) (entry : Ancestor) → InList w root place entry → IsGivenAt entry
  given-list root place entry listed = let less : place < suc place = omega arith in given-before (suc place) place entry less listed.is

  pub found-leads : (s t : At) → AreArgs s.count s.args → AreArgs t.count t.args → IsFound w s t → Leads w s t
  found-leads s t given gives (inl line) = go (line-leads line.line s.count s.args line.arity given)
    where
      go : (s.class ≡ t.class) ⊎ Leads w (class_at s.class s.count s.args) (class_at t.class s.count s.args) → Leads w s t
      go (inl e) = absurd (line.apart e)
      go (inr h) = leads-to (ap (λ k. class_at t.class k s.args) line.count ∙ ap (λ l. class_at t.class t.count l) line.args) h
  found-leads s t given gives (inr list) = from_root s.class list.link.root s.count s.args list.link t list.is refl list.whole given (to list.ends)
    where
      all : Given list.entry s.count s.args list.head t.count t.args
      all = given-list list.link.root list.place list.entry list.listed s.count s.args list.head t.count t.args given gives list.instance

      first : Leads w (class_at list.link.root s.count s.args) (class_at list.entry.upper t.count t.args)
      first = leads-from (ap (λ x. class_at x s.count s.args) (sym list.listed.owner)) all.leads

      to : (list.entry.upper ≡ t.class) ⊎ (t.count ≡ w.arity t.class) → Leads w (class_at list.link.root s.count s.args) t
      to (inl e) = leads-to (ap (λ x. class_at x t.count t.args) e) first
      to (inr e) = leads_or-to list.entry.upper t.class t.count t.args (class_at list.link.root s.count s.args) first (line-leads list.line t.count t.args (e ∙ line-arity list.line) gives)
