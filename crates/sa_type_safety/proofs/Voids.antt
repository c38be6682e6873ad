-- The void value of a type is of the type: no immutable class holds itself, so that the number of types is depth enough.
use Rattle.std.proofs.Common.{◌≡◌, ℕ, zero, suc, ◌+◌, ◌<◌, ◌≤◌, ◌++◌, inl, inr, Bool, true, false, not, ◌||◌, ◌==◌, if◌then◌else◌, cond, filter, replicate, pos, List, [], ◌∷◌, map, length, Some, slice_get, refl, sym, ap, subst, ◌∙◌, true≢false, eqb-true, arith}
use Rattle.std.proofs.lemmas.List.{length-map}
use Rattle.std.proofs.lemmas.Bool.{and_from, cases_Bool, cond-true, cond-false, cases_eq, eq-eqb, ne_eqb, not_from_false, or_left}
use Rattle.std.proofs.lemmas.Option.{none-some, same_Some, slice_get_within}
use Rattle.sa_typed.specs.declared.program.TypedProgram.{TypedProgram}
use Rattle.sa_typed.specs.declared.program.TypeDef.{TypeDef}
use Rattle.sa_graph.specs.Paths.{HasEdge, HasPath, by_edge, by_edges}
use Rattle.sa_typing.specs.Rows.{Rows, is_immutable, is_immutable_kind, is_type}
use Rattle.sa_typing.specs.Builtins.{bool_type, char_type, int_type}
use Rattle.sa_typing.specs.Layout.{Contains, ends_from, held, starts_from}
use Rattle.sa_typing.specs.WellTyped.{rows_of, IsWellTyped}
use Rattle.sa_semantics.specs.Program as program
use Rattle.sa_semantics.specs.Program.{program_of, void_in, void_of}
use Rattle.sa_semantics.specs.Value.{Value, Void, Int, Truth, Char, Imm, fields_of}
use Rattle.sa_type_safety.specs.Typing.{ObjectType, AreOf, HasType, attributes}
use Rattle.sa_type_safety.proofs.Facts.{one_of, some_that, all_at, same_immutable, same_attributes}
use Rattle.sa_type_safety.proofs.ExprType.{bool_is, char_is, int_is, layout_at, layout_of, seen, some_is}

-- ---- the types on the path, marked by their indices

abbrev mark : (ℕ → Bool) → ℕ → ℕ → Bool
mark marked k n = n == k || marked n

-- how many of the first numbers aren't marked
abbrev left : (ℕ → Bool) → ℕ → ℕ
left marked zero = 0
left marked (suc n) = cond (marked n) 0 1 + left marked n

module _ (marked : ℕ → Bool) (k : ℕ) where
  mark_other : (n : ℕ) → (n ≡ k → ⊥) → mark marked k n ≡ marked n
  mark_other n h = ap (λ b. b || marked n) (ne_eqb n k h)

  mark_it : mark marked k k ≡ true
  mark_it = or_left (k == k) (marked k) (eq-eqb k k refl)

  left_below : (n : ℕ) → n ≤ k → left (mark marked k) n ≡ left marked n
  left_below zero h = refl
  left_below (suc n) h =
      ap (λ b. cond b 0 1 + left (mark marked k) n) (mark_other n (λ e. omega (arith, e, h))) ∙ ap (λ m. cond (marked n) 0 1 + m) (left_below n (omega (arith, h)))

  here : (n : ℕ) → n ≡ k → marked k ≡ false → left (mark marked k) (suc n) + 1 ≡ left marked (suc n)
  here n e free =
      let marks : ◌≡◌ {A = ℕ} (cond (mark marked k n) 0 1) 0 = ap (λ b. cond b 0 1) (subst (λ m. mark marked k m ≡ true) (sym e) mark_it) in
      let frees : ◌≡◌ {A = ℕ} (cond (marked n) 0 1) 1 = ap (λ b. cond b 0 1) (subst (λ m. marked m ≡ false) (sym e) free) in
      omega (arith, marks, frees, left_below n (omega (arith, e)))

  there : (n : ℕ) → (n ≡ k → ⊥) → left (mark marked k) n + 1 ≡ left marked n → left (mark marked k) (suc n) + 1 ≡ left marked (suc n)
  there n other rest =
      let same : ◌≡◌ {A = ℕ} (cond (mark marked k n) 0 1) (cond (marked n) 0 1) = ap (λ b. cond b 0 1) (mark_other n other) in
      omega (arith, same, rest)

  -- one more is marked
  left_less : (n : ℕ) → marked k ≡ false → k < n → left (mark marked k) n + 1 ≡ left marked n
  left_less zero free h = absurd (omega (arith, h))
  left_less (suc n) free h =
      elim (cases_eq n k) as (λ x. left (mark marked k) (suc n) + 1 ≡ left marked (suc n))
      [ inl e ↦ here n e free | inr other ↦ there n other (left_less n free (omega (arith, h, other))) ]

none_left : (n : ℕ) → left (λ k. false) n ≡ n
none_left zero = refl
none_left (suc n) = omega (arith, none_left n)

-- ---- edges to the immutable classes of attributes

edge_in : (list : List ℕ) (n to : ℕ) (starts ends : List ℕ) (j : ℕ) → slice_get list j ≡ Some to → HasEdge (replicate (length list) n ++ starts) (list ++ ends) n to
edge_in [] n to starts ends j e = absurd (none-some to e)
edge_in (a ∷ more) n to starts ends zero e = (0, refl, e)
edge_in (a ∷ more) n to starts ends (suc j) e = let next = edge_in more n to starts ends j e in (suc next.0, next.1, next.2)

edge_after : (list : List ℕ) (n from to : ℕ) (starts ends : List ℕ) → HasEdge starts ends from to → HasEdge (replicate (length list) n ++ starts) (list ++ ends) from to
edge_after [] n from to starts ends edge = edge
edge_after (a ∷ more) n from to starts ends edge = let next = edge_after more n from to starts ends edge in (suc next.0, next.1, next.2)

filtered : (test : ℕ → Bool) (list : List ℕ) (i a : ℕ) → slice_get list i ≡ Some a → test a ≡ true → (j : ℕ) × (slice_get (filter test list) j ≡ Some a)
filtered test [] i a e h = absurd (none-some a e)
filtered test (b ∷ more) zero a e h =
    (0, ap (λ (list : List ℕ). slice_get list 0) (cond-true (test b) (b ∷ filter test more) (filter test more) (ap test (same_Some b a e) ∙ h)) ∙ e)
filtered test (b ∷ more) (suc i) a e h =
    let next = filtered test more i a e h in
    elim (cases_Bool (test b)) as (λ x. (j : ℕ) × (slice_get (filter test (b ∷ more)) j ≡ Some a)) [
      | inl is ↦ (suc next.0, ap (λ (list : List ℕ). slice_get list (suc next.0)) (cond-true (test b) (b ∷ filter test more) (filter test more) is) ∙ next.1)
      | inr other ↦ (next.0, ap (λ (list : List ℕ). slice_get list next.0) (cond-false (test b) (b ∷ filter test more) (filter test more) other) ∙ next.1)
    ]

module _ (w : Rows) where
  edge_from : (n : ℕ) (types : List TypeDef) (i : ℕ) (t : TypeDef) (j to : ℕ) → slice_get types i ≡ Some t → slice_get (held w t) j ≡ Some to → HasEdge (starts_from w n types) (ends_from w types) (n + i) to
  edge_from n [] i t j to e h = absurd (none-some t e)
  edge_from n (u ∷ more) zero t j to e h =
      subst (λ k. HasEdge (starts_from w n (u ∷ more)) (ends_from w (u ∷ more)) k to) (omega arith)
      (edge_in (held w u) n to (starts_from w (n + 1) more) (ends_from w more) j (subst (λ (x : TypeDef). slice_get (held w x) j ≡ Some to) (sym (same_Some u t e)) h))
  edge_from n (u ∷ more) (suc i) t j to e h =
      subst (λ k. HasEdge (starts_from w n (u ∷ more)) (ends_from w (u ∷ more)) k to) (omega arith)
      (edge_after (held w u) n (n + 1 + i) to (starts_from w (n + 1) more) (ends_from w more) (edge_from (n + 1) more i t j to e h))

  -- an immutable class holds those of its attributes
  holds_attribute : (ty : ℕ) (t : TypeDef) (a to : ℕ) → slice_get w.types ty ≡ Some t → is_immutable_kind t.kind ≡ true → slice_get t.attrs a ≡ Some to → is_immutable w to ≡ true → Contains w ty to
  holds_attribute ty t a to e imm at is =
      let there = filtered (is_immutable w) t.attrs a to at is in
      subst (λ n. HasEdge (starts_from w 0 w.types) (ends_from w w.types) n to) (omega arith)
      (edge_from 0 w.types ty t there.0 to e (ap (λ (list : List ℕ). slice_get list there.0) (cond-true (is_immutable_kind t.kind) (filter (is_immutable w) t.attrs) [] imm) ∙ there.1))

-- ---- the void value of a type

module _ (core : TypedProgram) (well : IsWellTyped core) (ks : List ObjectType) where
  -- a test of a type that goes wrong, since the type is immutable and the other isn't
  other_type : (ty given : ℕ) → is_immutable (rows_of core) ty ≡ false → is_immutable (rows_of core) given ≡ true → (ty == given) ≡ false
  other_type ty given loose is = ne_eqb ty given (λ e. true≢false (sym is ∙ sym (ap (is_immutable (rows_of core)) e) ∙ loose))

  abbrev void_else : ℕ → ℕ → Value
  void_else depth ty = if program.is_immutable (program_of core) ty then Imm ty (fields_of (map (void_in (program_of core) depth) (program.of_type (program_of core) (λ t. t.attrs) [] ty))) else Void

  void_loose : (depth ty : ℕ) → is_immutable (rows_of core) ty ≡ false → void_in (program_of core) depth ty ≡ Void
  void_loose zero ty loose = refl
  void_loose (suc depth) ty loose =
      cond-false (ty == bool_type) (Truth false) _ (other_type ty bool_type loose (bool_is core well).immutable)
      ∙ cond-false (ty == int_type) (Int (pos 0)) _ (other_type ty int_type loose (int_is core well).immutable)
      ∙ cond-false (ty == char_type) (Char 0) _ (other_type ty char_type loose (char_is core well).immutable)
      ∙ cond-false (program.is_immutable (program_of core) ty) _ Void (same_immutable core ty ∙ loose)

  loose_void : (depth ty : ℕ) → is_immutable (rows_of core) ty ≡ false → HasType (rows_of core) ks (void_in (program_of core) depth ty) ty
  loose_void depth ty loose = subst (λ v. HasType (rows_of core) ks v ty) (sym (void_loose depth ty loose)) loose

  voids_of : (depth : ℕ) (attrs : List ℕ) → ((i a : ℕ) → slice_get attrs i ≡ Some a → HasType (rows_of core) ks (void_in (program_of core) depth a) a) → AreOf (rows_of core) ks (fields_of (map (void_in (program_of core) depth) attrs)) attrs
  voids_of depth [] h = tt
  voids_of depth (a ∷ attrs) h = (h 0 a refl, voids_of depth attrs (λ i b e. h (suc i) b e))

  is_void : (depth ty : ℕ) (v : Value) → void_in (program_of core) (suc depth) ty ≡ v → HasType (rows_of core) ks v ty → HasType (rows_of core) ks (void_in (program_of core) (suc depth) ty) ty
  is_void depth ty v e h = subst (λ u. HasType (rows_of core) ks u ty) (sym e) h

  written_void : (depth ty : ℕ) → is_immutable (rows_of core) ty ≡ true → AreOf (rows_of core) ks (fields_of (map (void_in (program_of core) depth) (attributes (rows_of core) ty))) (attributes (rows_of core) ty) → HasType (rows_of core) ks (void_in (program_of core) (suc depth) ty) ty
  written_void depth ty imm are =
      elim (cases_Bool (ty == bool_type)) as (λ x. HasType (rows_of core) ks (void_in (program_of core) (suc depth) ty) ty) [
        | inl e ↦ is_void depth ty (Truth false) (cond-true (ty == bool_type) (Truth false) _ e) (eqb-true ty bool_type e)
        | inr b ↦ elim (cases_Bool (ty == int_type)) as (λ x. HasType (rows_of core) ks (void_in (program_of core) (suc depth) ty) ty) [
          | inl e ↦ is_void depth ty (Int (pos 0)) (cond-false (ty == bool_type) (Truth false) _ b ∙ cond-true (ty == int_type) (Int (pos 0)) _ e) (eqb-true ty int_type e)
          | inr i ↦ elim (cases_Bool (ty == char_type)) as (λ x. HasType (rows_of core) ks (void_in (program_of core) (suc depth) ty) ty) [
            | inl e ↦ is_void depth ty (Char 0) (cond-false (ty == bool_type) (Truth false) _ b ∙ cond-false (ty == int_type) (Int (pos 0)) _ i ∙ cond-true (ty == char_type) (Char 0) _ e) (eqb-true ty char_type e)
            | inr c ↦ is_void depth ty (Imm ty (fields_of (map (void_in (program_of core) depth) (program.of_type (program_of core) (λ t. t.attrs) [] ty))))
                (cond-false (ty == bool_type) (Truth false) _ b ∙ cond-false (ty == int_type) (Int (pos 0)) _ i ∙ cond-false (ty == char_type) (Char 0) _ c
                ∙ cond-true (program.is_immutable (program_of core) ty) (Imm ty (fields_of (map (void_in (program_of core) depth) (program.of_type (program_of core) (λ t. t.attrs) [] ty)))) Void (same_immutable core ty ∙ imm)) (
                  refl,
                  and_from (is_immutable (rows_of core) ty) _ imm (and_from (not (ty == bool_type)) _ (not_from_false (ty == bool_type) b) (and_from (not (ty == int_type)) _ (not_from_false (ty == int_type) i) (not_from_false (ty == char_type) c))),
                  subst (λ list. AreOf (rows_of core) ks (fields_of (map (void_in (program_of core) depth) list)) (attributes (rows_of core) ty)) (sym (same_attributes core ty)) are,
                )
          ]
        ]
      ]

  -- of an immutable class, where those of the immutable classes of its attributes are of these
  immutable_void : (depth ty : ℕ) → is_immutable (rows_of core) ty ≡ true → ((a to : ℕ) → slice_get (attributes (rows_of core) ty) a ≡ Some to → is_immutable (rows_of core) to ≡ true → is_type (rows_of core) to ≡ true → Contains (rows_of core) ty to → HasType (rows_of core) ks (void_in (program_of core) depth to) to) → HasType (rows_of core) ks (void_in (program_of core) (suc depth) ty) ty
  immutable_void depth ty imm on =
      let found = some_that (λ (t : TypeDef). is_immutable_kind t.kind) (slice_get core.types ty) imm in
      let attrs : attributes (rows_of core) ty ≡ found.0.attrs = seen core well (λ t. t.attrs) [] ty found.0 found.1 in
      written_void depth ty imm (voids_of depth (attributes (rows_of core) ty) (λ a to at. elim (cases_Bool (is_immutable (rows_of core) to)) as (λ x. HasType (rows_of core) ks (void_in (program_of core) depth to) to) [
        | inr loose ↦ loose_void depth to loose
        | inl is ↦ on a to at is (all_at (is_type (rows_of core)) found.0.attrs a to (layout_of core well found.0 (layout_at core well ty found.0 found.1)).attrs (subst (λ list. slice_get list a ≡ Some to) attrs at))
            (holds_attribute (rows_of core) ty found.0 a to found.1 found.2 (subst (λ list. slice_get list a ≡ Some to) attrs at) is)
      ]))

  -- each type that is marked leads to this one
  abbrev Lead : (ℕ → Bool) → ℕ → Type 0
  Lead marked ty = (n : ℕ) → marked n ≡ true → HasPath (Contains (rows_of core)) n ty

  lead_on : (marked : ℕ → Bool) (ty to : ℕ) → Lead marked ty → Contains (rows_of core) ty to → Lead (mark marked ty) to
  lead_on marked ty to leads edge n h =
      elim (one_of (n == ty) (marked n) h) as (λ x. HasPath (Contains (rows_of core)) n to)
      [ inl e ↦ subst (λ k. HasPath (Contains (rows_of core)) k to) (sym (eqb-true n ty e)) (by_edge edge) | inr is ↦ by_edges (leads n is) edge ]

  within : (ty : ℕ) → is_type (rows_of core) ty ≡ true → ty < length core.types
  within ty is = let found = some_is (slice_get core.types ty) is in slice_get_within core.types ty found.0 found.1

  unmarked : (marked : ℕ → Bool) (ty : ℕ) → Lead marked ty → ty < length core.types → marked ty ≡ false
  unmarked marked ty leads inside =
      elim (cases_Bool (marked ty)) as (λ x. marked ty ≡ false) [ inl on ↦ absurd (well.flat ty inside (leads ty on)) | inr is ↦ is ]

  -- at some depth, where no more types can come on the path than that
  void_has : (depth : ℕ) (marked : ℕ → Bool) (ty : ℕ) → left marked (length core.types) ≤ depth → Lead marked ty → is_type (rows_of core) ty ≡ true → HasType (rows_of core) ks (void_in (program_of core) depth ty) ty
  void_has zero marked ty le leads is =
      absurd (omega (arith, le, left_less marked ty (length core.types) (unmarked marked ty leads (within ty is)) (within ty is)))
  void_has (suc depth) marked ty le leads is =
      elim (cases_Bool (is_immutable (rows_of core) ty)) as (λ x. HasType (rows_of core) ks (void_in (program_of core) (suc depth) ty) ty) [
        | inr loose ↦ loose_void (suc depth) ty loose
        | inl imm ↦ immutable_void depth ty imm
            (λ a to at immutable there edge. void_has depth (mark marked ty) to
            (omega (arith, le, left_less marked ty (length core.types) (unmarked marked ty leads (within ty is)) (within ty is)))
            (lead_on marked ty to leads edge) there)
      ]

  pub void_is : (ty : ℕ) → is_type (rows_of core) ty ≡ true → HasType (rows_of core) ks (void_of (program_of core) ty) ty
  void_is ty is =
      subst (λ n. HasType (rows_of core) ks (void_in (program_of core) n ty) ty) (sym (length-map core.types program.type_row))
      (void_has (length core.types) (λ n. false) ty (omega (arith, none_left (length core.types))) (λ n h. absurd (true≢false (sym h))) is)
