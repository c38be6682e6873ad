-- Composition of two pairs: where the parts of their nodes are known, it is what unification of the joined nodes gives.
use Rattle.std.proofs.Common.{◌≡◌, ◌≢◌, ℕ, suc, ◌+◌, ◌-◌, ◌<◌, ◌≤◌, List, [], ◌∷◌, ◌++◌, Option, Some, None, length, get_or, take, drop, refl, sym, ap, subst, ◌∙◌, arith, add-one, drop-cons}
use Rattle.std.proofs.lemmas.List.{append_cancel_right, take-append-drop, take_all, length-drop}
use Rattle.sa_unify.specs.declared.pattern.Node.{Node}
use Rattle.sa_unify.specs.declared.pattern.Node.TheVariants as node
use Rattle.sa_unify.specs.Terms.{following, IsTerm, Values, AreTerms, substitute, IsInstance, IsGiven, IsJoined, Follows, IsComposed}
use Rattle.sa_unify.proofs.Differences.{slice-rest}
use Rattle.sa_unify.proofs.Terms.{behind_none, following-append, following-split, following-substitute, substitute-append, substitute-term, term-taken}

some_lists : (l m : List Node) → Some l ≡ Some m → l ≡ m
some_lists l m e = cc

-- if n terms begin one list each and the lists are equal, the terms are equal, and so is what follows
pub same_terms : (w u r s : List Node) (n : ℕ) → following w n ≡ Some [] → following u n ≡ Some [] → w ++ r ≡ u ++ s → (w ≡ u) × (r ≡ s)
same_terms w u r s n h k e =
    let zero_more : n ≡ n + 0 = omega arith in
    let left : following (w ++ r) n ≡ Some r = ap (following (w ++ r)) zero_more ∙ following-append w r n 0 h ∙ behind_none r in
    let right : following (u ++ s) n ≡ Some s = ap (following (u ++ s)) zero_more ∙ following-append u s n 0 k ∙ behind_none s in
    let rests : r ≡ s = some_lists r s (sym left ∙ ap (λ l. following l n) e ∙ right) in
    (append_cancel_right w u s (subst (λ l. w ++ l ≡ u ++ s) rests e), rests)

-- n terms at the head of a list are what was taken off it
terms-taken : (w rest : List Node) (n : ℕ) → following (w ++ rest) n ≡ Some rest → following w n ≡ Some []
terms-taken w rest n h =
    let split = following-split (w ++ rest) rest n h in
    subst (λ l. following l n ≡ Some []) (sym (append_cancel_right w split.0 rest split.1)) split.2

class_counts : (name other : List ℕ) (n m : ℕ) (l k : List Node) → node.Class name n ∷ l ≡ node.Class other m ∷ k → n ≡ m
class_counts name other n m l k e = cc

list_counts : (n m : ℕ) (l k : List Node) → node.List n ∷ l ≡ node.List m ∷ k → n ≡ m
list_counts n m l k e = cc

tails : (a b : Node) (l k : List Node) → a ∷ l ≡ b ∷ k → l ≡ k
tails a b l k e = cc

follows-at : {p q p' q' f : List Node} → p' ≡ p → q' ≡ q → Follows p q f → Follows p' q' f
follows-at {q = q} {p' = p'} {f = f} e d t = subst (λ l. Follows p' l f) (sym d) (subst (λ l. Follows l q f) (sym e) t)

module _ (below ends begins above : List Node) (name : List ℕ) (n m : ℕ) (term : IsTerm below) (terms : following begins m ≡ Some []) where
  substitute-first : (values : Values) → substitute values (below ++ node.Class name n ∷ ends) ≡ substitute values below ++ node.Class name n ∷ substitute values ends
  substitute-first values = substitute-append values below (node.Class name n ∷ ends)

  substitute-second : (values : Values) → substitute values (node.List m ∷ begins ++ above) ≡ node.List m ∷ substitute values begins ++ substitute values above
  substitute-second values = ap (λ l. node.List m ∷ l) (substitute-append values begins above)

  -- if the second follows the first, the counts are equal, and the arguments are unified
  meets : (lower upper : Values) → AreTerms lower → AreTerms upper → (f : List Node) → Follows (substitute lower (below ++ node.Class name n ∷ ends)) (substitute upper (node.List m ∷ begins ++ above)) f → (n ≡ m) × (substitute lower ends ≡ substitute upper begins) × (f ≡ substitute lower below ++ substitute upper above)
  meets lower upper g k f t =
      let first = same_terms (substitute lower below) t.lower (node.Class name n ∷ substitute lower ends) (node.Class t.name t.count ∷ t.args) 1 (substitute-term lower below g term) t.term (sym (substitute-first lower) ∙ t.begins) in
      let second : node.List m ∷ substitute upper begins ++ substitute upper above ≡ node.List t.count ∷ t.args ++ t.upper = sym (substitute-second upper) ∙ t.ends in
      let count : m ≡ t.count = list_counts m t.count (substitute upper begins ++ substitute upper above) (t.args ++ t.upper) second in
      let last = same_terms (substitute upper begins) t.args (substitute upper above) t.upper m (following-substitute upper k begins [] m terms) (ap (following t.args) count ∙ t.terms) (tails (node.List m) (node.List t.count) (substitute upper begins ++ substitute upper above) (t.args ++ t.upper) second) in
      (class_counts name t.name n t.count (substitute lower ends) t.args first.1 ∙ sym count, tails (node.Class name n) (node.Class t.name t.count) (substitute lower ends) t.args first.1 ∙ sym last.0, t.joins ∙ ap (λ l. l ++ t.upper) (sym first.0) ∙ ap (λ l. substitute lower below ++ l) (sym last.1))

  follows : n ≡ m → (lower upper : Values) → AreTerms lower → AreTerms upper → substitute lower ends ≡ substitute upper begins → (f : List Node) → f ≡ substitute lower below ++ substitute upper above → Follows (substitute lower (below ++ node.Class name n ∷ ends)) (substitute upper (node.List m ∷ begins ++ above)) f
  follows same lower upper g k e f h = record {
    lower = substitute lower below;
    name = name;
    count = m;
    args = substitute upper begins;
    upper = substitute upper above;
    term = substitute-term lower below g term;
    terms = following-substitute upper k begins [] m terms;
    begins = substitute-first lower ∙ ap (λ x. substitute lower below ++ node.Class name x ∷ substitute lower ends) same ∙ ap (λ l. substitute lower below ++ node.Class name m ∷ l) e;
    ends = substitute-second upper;
    joins = h;
  }

  given : (f : List Node) → IsGiven (below ++ node.Class name n ∷ ends) (node.List m ∷ begins ++ above) f → (lower : Values) × (upper : Values) × AreTerms lower × AreTerms upper × Follows (substitute lower (below ++ node.Class name n ∷ ends)) (substitute upper (node.List m ∷ begins ++ above)) f
  given f g = ((g.2).0, (g.3).0, (g.2).1, (g.3).1, follows-at ((g.2).2) ((g.3).2) g.4)

  composed-apart : (n ≡ m → ⊥) → IsComposed (below ++ node.Class name n ∷ ends) (node.List m ∷ begins ++ above) None
  composed-apart differ = record { same = λ f. (λ h. absurd h, λ g. let t = given f g in differ ((meets t.0 t.1 t.2 t.3 f t.4).0)) }

  composed-joined : n ≡ m → (r : Option (List Node)) → IsJoined below ends begins above r → IsComposed (below ++ node.Class name n ∷ ends) (node.List m ∷ begins ++ above) r
  composed-joined same None j = record { same = λ f. (λ h. absurd h, λ g. let t = given f g in j t.0 t.1 t.2 t.3 ((meets t.0 t.1 t.2 t.3 f t.4).1)) }
  composed-joined same (Some joined) j = record { same = λ f. (sound f, whole f) }
    where
      sound : (f : List Node) → IsInstance joined f → IsGiven (below ++ node.Class name n ∷ ends) (node.List m ∷ begins ++ above) f
      sound f i =
          let a = j.0 i.0 i.1 in
          (substitute a.0 (below ++ node.Class name n ∷ ends), substitute a.1 (node.List m ∷ begins ++ above), (a.0, a.2, refl), (a.1, a.3, refl), follows same a.0 a.1 a.2 a.3 a.4 f (sym i.2 ∙ a.5))

      whole : (f : List Node) → IsGiven (below ++ node.Class name n ∷ ends) (node.List m ∷ begins ++ above) f → IsInstance joined f
      whole f g =
          let t = given f g in
          let met = meets t.0 t.1 t.2 t.3 f t.4 in
          let a = j.1 t.0 t.1 t.2 t.3 met.1 in
          (a.0, a.1, a.2 ∙ sym met.2)

-- ---- the same of lists that are cut in such parts

pub composed_apart : (first second below ends begins above : List Node) (name : List ℕ) (n m : ℕ) → first ≡ below ++ node.Class name n ∷ ends → IsTerm below → second ≡ node.List m ∷ begins ++ above → following begins m ≡ Some [] → (n ≡ m → ⊥) → IsComposed first second None
composed_apart first second below ends begins above name n m f w s ws differ =
    subst (λ l. IsComposed l second None) (sym f) (subst (λ l. IsComposed (below ++ node.Class name n ∷ ends) l None) (sym s) (composed-apart below ends begins above name n m w ws differ))

pub composed_joined : (first second below ends begins above : List Node) (name : List ℕ) (n m : ℕ) (r : Option (List Node)) → first ≡ below ++ node.Class name n ∷ ends → IsTerm below → second ≡ node.List m ∷ begins ++ above → following begins m ≡ Some [] → n ≡ m → IsJoined below ends begins above r → IsComposed first second r
composed_joined first second below ends begins above name n m r f w s ws same j =
    subst (λ l. IsComposed l second r) (sym f) (subst (λ l. IsComposed (below ++ node.Class name n ∷ ends) l r) (sym s) (composed-joined below ends begins above name n m w ws same r j))

-- ---- the cuts

-- all that is after an index
pub rest-of : (l : List Node) (k : ℕ) → take (length l - k) (drop k l) ≡ drop k l
rest-of l k = let all : length (drop k l) ≤ length l - k = omega (arith, length-drop k l) in take_all (length l - k) (drop k l) all

pub cut-first : (nodes : List Node) (end count : ℕ) (name : List ℕ) (a : Node) → following (drop 0 nodes) 1 ≡ Some (drop end nodes) → end < length nodes → a ≡ get_or nodes end a → a ≡ node.Class name count → (nodes ≡ take end nodes ++ node.Class name count ∷ drop (end + 1) nodes) × IsTerm (take end nodes)
cut-first nodes end count name a h k e is =
    let rest : drop end nodes ≡ node.Class name count ∷ drop (end + 1) nodes = rw (add-one, drop-cons nodes end a k, ← e) (ap (λ x. x ∷ drop (suc end) nodes) is) in
    (sym (take-append-drop end nodes) ∙ ap (λ l. take end nodes ++ l) rest, term-taken (take end nodes) (drop end nodes) (ap (λ l. following l 1) (take-append-drop end nodes) ∙ h))

pub cut-second : (nodes : List Node) (end count : ℕ) (a : Node) → following (drop 0 nodes) 1 ≡ Some (drop end nodes) → 1 ≤ end → 0 < length nodes → a ≡ get_or nodes 0 a → a ≡ node.List count → (nodes ≡ node.List count ∷ take (end - 1) (drop 1 nodes) ++ drop end nodes) × (following (take (end - 1) (drop 1 nodes)) count ≡ Some [])
cut-second nodes end count a h least k e is =
    let whole : nodes ≡ node.List count ∷ drop 1 nodes = drop-cons nodes 0 a k ∙ ap (λ x. x ∷ drop 1 nodes) (sym e ∙ is) in
    let rest : take (end - 1) (drop 1 nodes) ++ drop end nodes ≡ drop 1 nodes = slice-rest nodes 1 end least in
    let plus : count + 0 ≡ count = omega arith in
    let inside : following (drop 1 nodes) count ≡ Some (drop end nodes) = ap (following (drop 1 nodes)) (sym plus) ∙ ap (λ l. following l 1) (sym whole) ∙ h in
    (whole ∙ ap (λ l. node.List count ∷ l) (sym rest), terms-taken (take (end - 1) (drop 1 nodes)) (drop end nodes) count (ap (λ l. following l count) rest ∙ inside))

-- ---- the same from what is known of two lists at the indices where they are cut

module _ (first second : List Node) (one two : ℕ) (a b : Node) (name : List ℕ) (n m : ℕ) (ends_one : following (drop 0 first) 1 ≡ Some (drop one first)) (ends_two : following (drop 0 second) 1 ≡ Some (drop two second)) (within : one ≤ length first) (left : one ≢ length first) (within_other : two ≤ length second) (some_terms : two ≢ 0) (at_one : a ≡ get_or first one a) (is_class : a ≡ node.Class name n) (at_first : b ≡ get_or second 0 b) (is_list : b ≡ node.List m) where
  cut_one : (first ≡ take one first ++ node.Class name n ∷ drop (one + 1) first) × IsTerm (take one first)
  cut_one = let less : one < length first = omega (arith, within, left) in cut-first first one n name a ends_one less at_one is_class

  cut_two : (second ≡ node.List m ∷ take (two - 1) (drop 1 second) ++ drop two second) × (following (take (two - 1) (drop 1 second)) m ≡ Some [])
  cut_two =
      let least : 1 ≤ two = omega (arith, some_terms) in
      let any : 0 < length second = omega (arith, within_other, some_terms) in
      cut-second second two m b ends_two least any at_first is_list

  pub composes-None : n ≢ m → IsComposed first second None
  composes-None differ = composed_apart first second (take one first) (drop (one + 1) first) (take (two - 1) (drop 1 second)) (drop two second) name n m cut_one.0 cut_one.1 cut_two.0 cut_two.1 differ

  pub composes-joined : (below ends begins above : List Node) (r : Option (List Node)) → n ≡ m → below ≡ take one first → ends ≡ drop (one + 1) first → begins ≡ take (two - 1) (drop 1 second) → above ≡ drop two second → IsJoined below ends begins above r → IsComposed first second r
  composes-joined below ends begins above r same e f g h joined =
      composed_joined first second (take one first) (drop (one + 1) first) (take (two - 1) (drop 1 second)) (drop two second) name n m r cut_one.0 cut_one.1 cut_two.0 cut_two.1 same
      (subst (λ l. IsJoined (take one first) (drop (one + 1) first) (take (two - 1) (drop 1 second)) l r) h
      (subst (λ l. IsJoined (take one first) (drop (one + 1) first) l above r) g
      (subst (λ l. IsJoined (take one first) l begins above r) f
      (subst (λ l. IsJoined l ends begins above r) e joined))))

pub ruleset composes = (composes-None, composes-joined)
