-- The refusals of a program for its includes.
use Rattle.std.proofs.Common.{◌≡◌, ℕ, ◌||◌, ◌+◌, ◌<◌, ◌≤◌, true, false, Bool, List, [], Option, None, Some, length, get_or, slice_get, refl, sym, ap, subst, ◌∙◌, inl, inr, arith}
use Rattle.std.proofs.lemmas.List.Elements.{Contains-get_or}
use Rattle.std.proofs.lemmas.Option.{get_or_from_slice_get, slice_get_within}
use Rattle.std.specs.List.{Contains}
use Rattle.std.specs.Option.{option_or}
use Rattle.std.proofs.Math.Path.{fun_ext}
use Rattle.std.specs.Prelude.{IfSome, MatchOption, count_by, is_some}
use Rattle.sa_ast.specs.declared.class.FeatureModifier.{FeatureModifier}
use Rattle.sa_ast.specs.declared.class.Class.{Class}
use Rattle.sa_ast.specs.declared.class.Feature.{Feature}
use Rattle.sa_ast.specs.declared.class.Include.{Include}
use Rattle.sa_ast.specs.declared.class.ClassKind.{ClassKind}
use Rattle.sa_ast.specs.declared.pos.Pos.{Pos}
use Rattle.sa_ast.specs.declared.refusal.Refusal.{Refusal}
use Rattle.sa_ast.specs.declared.rule.Rule.TheVariants as rule
use Rattle.sa_ast.specs.declared.ty.ModeTy.{ModeTy}
use Rattle.sa_ast.specs.declared.ty.Ty.{Ty}
use Rattle.sa_ast.specs.declared.ty.Ty.TheOpen.{Ty-F}
use Rattle.sa_ast.specs.declared.ty.Ty.TheVariants as ty
use Rattle.sa_ast.specs.declared.ty.Ty.TheViews.{out-Ty, out-roll-Ty}
use Rattle.sa_include.specs.Firsts.{do_brought_clash, left_stub, staying_features, written_conflict}
use Rattle.sa_include_conflicts.specs.Sharing.{AreGrouped, IsFirstConflict, NoConflict, all_features}
use Rattle.sa_include_conflicts.specs.Staying.{all_stay}
use Rattle.sa_include_conflicts.specs.Stub.{IsFirstStub, NoStubLeft}
use Rattle.sa_include_conflicts.specs.declared.conflicts.Conflicts.{Conflicts}
use Rattle.sa_include_conflicts.specs.declared.features.ClassFeatures.{ClassFeatures}
use Rattle.sa_include.proofs.Conflicting.{a_brought_conflict, a_stub_left, a_written_conflict, no_brought_conflict, no_stub_left, no_written_conflict}
use Rattle.sa_include_names.specs.Includes.{HasOneArray, IsSecond, IsSecondArray, brings_array}
use Rattle.sa_include_names.specs.Names.{number_of}
use Rattle.sa_include_names.specs.Refusals.{AreIncludesRight, RefusesNames}
use Rattle.sa_include_names.specs.Tables.{number_in}
use Rattle.sa_include.specs.Flattened.{is_immutable}
use Rattle.sa_include.specs.declared.clause.CollectedFeatures.{CollectedFeatures}
use Rattle.sa_include.specs.declared.resolved.IncludeProgram.{IncludeProgram}
use Rattle.sa_include.specs.Resolved.{KnowsIncludes}
use Rattle.sa_include.specs.Refusals.{HasFeatures, IsClauseRefusal, IsFirstRefusal, IsGathered, IsOfChange, IsOfClause, IsOfType, IsVerdict, RefusesIncludes, at_name, first_refusal, pos_level, type_pos}

-- ---- a program

pub refused_by_names : (classes : List Class) (refusal : Refusal) → RefusesNames classes refusal → RefusesIncludes classes refusal
refused_by_names classes refusal names = inl names

pub refused_by_class : (classes : List Class) (refusal : Refusal) → AreIncludesRight classes → IsFirstRefusal classes refusal → RefusesIncludes classes refusal
refused_by_class classes refusal right first = inr (record { right = right; first = first })

pub ruleset refusing = (refused_by_names, refused_by_class)

-- ---- the features that a class writes

module _ (features : ClassFeatures) (conflicts : Conflicts) (stays : List Bool) (grouped : AreGrouped features conflicts) (known : stays ≡ all_stay features) where
  pub no_written : (first to : ℕ) → first ≡ length features.inherited.now → to ≡ length (all_features features) → NoConflict conflicts stays first to → None ≡ at_name rule.FeaturesConflict (written_conflict features.immutable features.inherited.now features.written.now)
  no_written first to is_first is_to none =
      sym (ap (at_name rule.FeaturesConflict) (no_written_conflict features conflicts stays grouped known first to is_first is_to none))

  pub a_written : (first to place : ℕ) (f : Feature) (refusal : Refusal) → first ≡ length features.inherited.now → IsFirstConflict conflicts stays first to place → slice_get (all_features features) place ≡ Some f → refusal ≡ record { rule = rule.FeaturesConflict; pos = f.name.pos } → Some refusal ≡ at_name rule.FeaturesConflict (written_conflict features.immutable features.inherited.now features.written.now)
  a_written first to place f refusal is_first found at is =
      ap Some is ∙ sym (ap (at_name rule.FeaturesConflict) (a_written_conflict features conflicts stays grouped known first to place f is_first found at))

  -- ---- the features that a class includes

  pub brought_conflict : (last : ℕ) (conflict : Option ℕ) → last ≡ length features.inherited.now → MatchOption conflict (NoConflict conflicts stays 0 last) (IsFirstConflict conflicts stays 0 last) → is_some conflict ≡ do_brought_clash features.immutable features.inherited.now features.written.now features.inherited.now
  brought_conflict last None is none = sym (no_brought_conflict features conflicts stays grouped known last is none)
  brought_conflict last (Some place) is first = sym (a_brought_conflict features conflicts stays grouped known last place is first)

pub ruleset written_conflicts = (no_written, a_written)

-- ---- stubs

module _ (features : ClassFeatures) (stays : List Bool) (known : stays ≡ all_stay features) (kind : ClassKind) where
  pub no_stub : NoStubLeft kind (all_features features) stays → None ≡ at_name rule.StubLeft (left_stub kind (staying_features features.immutable features.inherited.now features.written.now))
  no_stub none = sym (ap (at_name rule.StubLeft) (no_stub_left features stays known kind none))

  pub a_stub : (pos : Pos) (refusal : Refusal) → IsFirstStub kind (all_features features) stays pos → refusal ≡ record { rule = rule.StubLeft; pos = pos } → Some refusal ≡ at_name rule.StubLeft (left_stub kind (staying_features features.immutable features.inherited.now features.written.now))
  a_stub pos refusal found is =
      let left = a_stub_left features stays known kind pos found in
      ap Some (is ∙ ap (λ p. record { rule = rule.StubLeft; pos = p }) left.2) ∙ sym (ap (at_name rule.StubLeft) left.1)

pub ruleset stubs_left = (no_stub, a_stub)

-- ---- the first refusal of a class

module _ (classes : List Class) (c : Class) (features : ClassFeatures) (changes : Option Refusal) (has : HasFeatures c features) (of_change : IfSome changes (IsOfClause c.includes)) where
  abbrev inherited : List Feature
  inherited = features.inherited.now

  abbrev conflict : Option Feature
  conflict = written_conflict (is_immutable c.kind) inherited c.features

  abbrev stub : Option Refusal
  stub = at_name rule.StubLeft (left_stub c.kind (staying_features (is_immutable c.kind) inherited c.features))

  abbrev Due : Option Refusal → Type 0
  Due clauses = changes ≡ None → conflict ≡ None → IsClauseRefusal classes c (do_brought_clash (is_immutable c.kind) inherited c.features inherited) clauses

  verdict : (found clauses : Option Refusal) → Due clauses → found ≡ first_refusal c inherited changes clauses → IsVerdict classes c found
  verdict found clauses due is = record {
    inherited = inherited;
    no_includes = has.no_includes;
    changes = changes;
    of_change = of_change;
    clauses = clauses;
    of_clause = due;
    is = is;
  }

  conflict_is : written_conflict features.immutable inherited features.written.now ≡ conflict
  conflict_is = ap (λ b. written_conflict b inherited features.written.now) has.immutable ∙ ap (λ fs. written_conflict (is_immutable c.kind) inherited fs) has.written

  stub_is : left_stub c.kind (staying_features features.immutable inherited features.written.now) ≡ left_stub c.kind (staying_features (is_immutable c.kind) inherited c.features)
  stub_is = ap (λ b. left_stub c.kind (staying_features b inherited features.written.now)) has.immutable ∙ ap (λ fs. left_stub c.kind (staying_features (is_immutable c.kind) inherited fs)) has.written

  clash_is : do_brought_clash features.immutable inherited features.written.now inherited ≡ do_brought_clash (is_immutable c.kind) inherited c.features inherited
  clash_is = ap (λ b. do_brought_clash b inherited features.written.now inherited) has.immutable ∙ ap (λ fs. do_brought_clash (is_immutable c.kind) inherited fs inherited) has.written

  module _ {A : Type 0} where
    is_none : (o : Option A) → is_some o ≡ false → o ≡ None
    is_none None h = refl
    is_none (Some x) h = cc

    not_none : (o : Option A) → is_some o ≡ true → o ≡ None → ⊥
    not_none None h e = cc
    not_none (Some x) h e = cc

    or_some : (o p : Option A) → is_some o ≡ true → option_or o p ≡ o
    or_some None p h = cc
    or_some (Some x) p h = refl

  pub by_changes : is_some changes ≡ true → IsVerdict classes c changes
  by_changes some =
      verdict changes None (λ none. absurd (not_none changes some none))
      (sym (or_some changes (option_or (at_name rule.FeaturesConflict conflict) (option_or None stub)) some))

  module _ (unchanged : is_some changes ≡ false) (written : Option Refusal) (is_written : written ≡ at_name rule.FeaturesConflict (written_conflict features.immutable inherited features.written.now)) where
    written_is : written ≡ at_name rule.FeaturesConflict conflict
    written_is = is_written ∙ ap (at_name rule.FeaturesConflict) conflict_is

    -- if no renaming is refused
    following : (found clauses : Option Refusal) → Due clauses → found ≡ option_or written (option_or clauses stub) → IsVerdict classes c found
    following found clauses due is =
        verdict found clauses due
        (is ∙ ap (λ o. option_or o (option_or clauses stub)) written_is
        ∙ sym (ap (λ o. option_or o (option_or (at_name rule.FeaturesConflict conflict) (option_or clauses stub))) (is_none changes unchanged)))

    pub by_written : is_some written ≡ true → IsVerdict classes c written
    by_written some =
        following written None (λ h none. absurd (not_none written some (written_is ∙ ap (at_name rule.FeaturesConflict) none)))
        (sym (or_some written (option_or None stub) some))

    module _ (unwritten : is_some written ≡ false) (clause : Option Refusal) (is_clause : IsClauseRefusal classes c (do_brought_clash features.immutable inherited features.written.now inherited) clause) where
      due : Due clause
      due h g = subst (λ b. IsClauseRefusal classes c b clause) clash_is is_clause

      pub by_clause : is_some clause ≡ true → IsVerdict classes c clause
      by_clause some =
          following clause clause due
          (sym (or_some clause stub some) ∙ sym (ap (λ o. option_or o (option_or clause stub)) (is_none written unwritten)))

      pub by_stub : (found : Option Refusal) → is_some clause ≡ false → found ≡ at_name rule.StubLeft (left_stub c.kind (staying_features features.immutable inherited features.written.now)) → IsVerdict classes c found
      by_stub found unclaused is =
          following found clause due
          (is ∙ ap (at_name rule.StubLeft) stub_is ∙ sym (ap (λ o. option_or o stub) (is_none clause unclaused))
          ∙ sym (ap (λ o. option_or o (option_or clause stub)) (is_none written unwritten)))

pub ruleset verdicts = (by_changes, by_written, by_clause, by_stub)

-- ---- the class with a number

pub verdict_at : (classes : List Class) (number : ℕ) (class : Class) (judged found : Option Refusal) → slice_get classes number ≡ Some class → IsVerdict classes class judged → found ≡ judged → (c : Class) → slice_get classes number ≡ Some c → IsVerdict classes c found
verdict_at classes number class judged found at verdict same c at_c =
    subst (λ (d : Class). IsVerdict classes d found) (one (sym at ∙ at_c)) (subst (IsVerdict classes class) (sym same) verdict)
  where
    one : {x y : Class} → Some x ≡ Some y → x ≡ y
    one q = cc

pub has_features : (c : Class) (features : ClassFeatures) (among : List Feature) → features.immutable ≡ is_immutable c.kind → features.written.now ≡ c.features → features.inherited.now ≡ among → (c.includes ≡ [] → among ≡ []) → HasFeatures c features
has_features c features among immutable written is none = record { immutable = immutable; written = written; no_includes = λ h. is ∙ none h }

pub ruleset verdicts_at = (verdict_at, has_features)

-- ---- refusals of renamings and of clauses

-- what a list has at an index is in it
there : {A : Type 0} (xs : List A) (i : ℕ) (x : A) → slice_get xs i ≡ Some x → Contains xs x
there xs i x at = subst (Contains xs) (get_or_from_slice_get xs i x x at) (Contains-get_or xs i x (slice_get_within xs i x at))

item_there : {A : Type 0} (xs : List A) (i : ℕ) (x : A) → i < length xs → x ≡ get_or xs i x → Contains xs x
item_there xs i x lt is = subst (Contains xs) (sym is) (Contains-get_or xs i x lt)

pub of_this_change : (changes : List FeatureModifier) (i : ℕ) (change : FeatureModifier) (refusal : Refusal) → i < length changes → change ≡ get_or changes i change → refusal ≡ record { rule = rule.NoSuchIncludedFeature; pos = change.from.pos } → IsOfChange changes refusal
of_this_change changes i change refusal lt at is = record { change = change; has = item_there changes i change lt at; is = is }

pub of_this_clause : (clauses : List Include) (i : ℕ) (clause : Include) (earlier wrong : Option Refusal) → i < length clauses → clause ≡ get_or clauses i clause → IfSome earlier (IsOfClause clauses) → IfSome wrong (IsOfChange clause.changes) → IfSome (option_or earlier wrong) (IsOfClause clauses)
of_this_clause clauses i clause (Some refusal) wrong lt at before here = before
of_this_clause clauses i clause None None lt at before here = tt
of_this_clause clauses i clause None (Some refusal) lt at before here = record { clause = clause; has = item_there clauses i clause lt at; change = here }

pub of_this_type : (clauses : List Include) (i : ℕ) (clause : Include) (pos : Pos) (refusal : Refusal) → slice_get clauses i ≡ Some clause → pos ≡ type_pos clause.ty → refusal ≡ record { rule = rule.IncludedFeaturesConflict; pos = pos } → IsOfType clauses refusal
of_this_type clauses i clause pos refusal at is_pos is = record {
  clause = clause;
  has = there clauses i clause at;
  is = is ∙ ap (λ p. record { rule = rule.IncludedFeaturesConflict; pos = p }) is_pos;
}

-- ---- what is collected of the clauses up to an index

pub record IsGatheredUpTo (clauses : List Include) (place : ℕ) (features : List Feature) (refusal : Option Refusal) : Type 0 where
  pub none : place ≡ 0 → features ≡ []
  pub of_change : IfSome refusal (IsOfClause clauses)

pub none_gathered : (clauses : List Include) (features : List Feature) → features ≡ [] → IsGatheredUpTo clauses 0 features None
none_gathered clauses features is = record { none = λ h. is; of_change = tt }

pub more_gathered : (clauses items : List Include) (place : ℕ) (clause : Include) (old new : List Feature) (earlier wrong refusal : Option Refusal) → items ≡ clauses → IsGatheredUpTo clauses place old earlier → place < length items → clause ≡ get_or items place clause → IfSome wrong (IsOfChange clause.changes) → refusal ≡ option_or earlier wrong → IsGatheredUpTo clauses (place + 1) new refusal
more_gathered clauses items place clause old new earlier wrong refusal same so_far lt at here is = record {
  none = λ h. absurd (omega (arith, h));
  of_change =
      subst (λ o. IfSome o (IsOfClause clauses)) (sym is)
      (of_this_clause clauses place clause earlier wrong (subst (λ (cs : List Include). place < length cs) same lt)
      (subst (λ (cs : List Include). clause ≡ get_or cs place clause) same at) so_far.of_change here);
}

pub all_gathered : (c : Class) (clauses : List Include) (place : ℕ) (gathered : CollectedFeatures) → clauses ≡ c.includes → IsGatheredUpTo clauses place gathered.features.items gathered.refusal → place ≤ length clauses → IsGathered c gathered
all_gathered c clauses place gathered is so_far le = record {
  no_includes = λ none. let count : length clauses ≡ 0 = ap length (is ∙ none) in so_far.none (omega (arith, le, count));
  of_change = subst (λ is. IfSome gathered.refusal (IsOfClause is)) is so_far.of_change;
}

pub ruleset gathering = (none_gathered, more_gathered, all_gathered)

-- ---- the position of a type

pub pos-Named : (name : List ℕ) (given : List Ty) (pos : Pos) → type_pos (ty.Named name given pos) ≡ pos
unfolding type_pos
pos-Named name given pos = ap pos_level (ap out-Ty (sym (ty.rolls-Named name given pos)) ∙ out-roll-Ty (Ty-F.Named name given pos))

pub pos-Same : (pos : Pos) → type_pos (ty.Same pos) ≡ pos
unfolding type_pos
pos-Same pos = ap pos_level (ap out-Ty (sym (ty.rolls-Same pos)) ∙ out-roll-Ty (Ty-F.Same pos))

pub pos-Rout : (args : List ModeTy) (of : Option Ty) (pos : Pos) → type_pos (ty.Rout args of pos) ≡ pos
unfolding type_pos
pos-Rout args of pos = ap pos_level (ap out-Ty (sym (ty.rolls-Rout args of pos)) ∙ out-roll-Ty (Ty-F.Rout args of pos))

pub pos-Iter : (args : List ModeTy) (of : Option Ty) (pos : Pos) → type_pos (ty.Iter args of pos) ≡ pos
unfolding type_pos
pos-Iter args of pos = ap pos_level (ap out-Ty (sym (ty.rolls-Iter args of pos)) ∙ out-roll-Ty (Ty-F.Iter args of pos))

pub ruleset positions = (pos-Named, pos-Same, pos-Rout, pos-Iter)

-- ---- the refusal of a clause

module _ (classes : List Class) (c : Class) (conflict second : Option ℕ) (clash : Bool) (is_second : MatchOption second (HasOneArray classes c.includes) (IsSecondArray classes c.includes)) (is_clash : is_some conflict ≡ clash) where
  pub no_clause : (clause : Option ℕ) → is_some clause ≡ (is_some conflict || is_some second) → clause ≡ None → IsClauseRefusal classes c clash None
  no_clause clause is none = record {
    second = second;
    is_second = is_second;
    due = sym (ap is_some none) ∙ is ∙ ap (λ b. b || is_some second) is_clash;
    of_type = tt;
  }

  pub a_clause : (clause : Option ℕ) (place : ℕ) (refusal : Refusal) → is_some clause ≡ (is_some conflict || is_some second) → clause ≡ Some place → IsOfType c.includes refusal → IsClauseRefusal classes c clash (Some refusal)
  a_clause clause place refusal is some of_type = record {
    second = second;
    is_second = is_second;
    due = sym (ap is_some some) ∙ is ∙ ap (λ b. b || is_some second) is_clash;
    of_type = of_type;
  }

-- ---- the second clause with an array part

pub second_array : (program : IncludeProgram) (includes : List Include) (second : Option ℕ) → KnowsIncludes program → MatchOption second (count_by (brings_array (number_in program.includes.now.numbers) program.includes.now.arrays.items) includes ≤ 1) (IsSecond (brings_array (number_in program.includes.now.numbers) program.includes.now.arrays.items) includes) → MatchOption second (HasOneArray program.classes.now includes) (IsSecondArray program.classes.now includes)
second_array program includes second knows found = by second found
  where
    same : number_in program.includes.now.numbers ≡ number_of program.classes.now
    same = fun_ext knows.numbers.each

    by : (o : Option ℕ) → MatchOption o (count_by (brings_array (number_in program.includes.now.numbers) program.includes.now.arrays.items) includes ≤ 1) (IsSecond (brings_array (number_in program.includes.now.numbers) program.includes.now.arrays.items) includes) → MatchOption o (HasOneArray program.classes.now includes) (IsSecondArray program.classes.now includes)
    by None one = record {
      arrays = program.includes.now.arrays.items;
      marked = knows.arrays;
      one = subst (λ number. count_by (brings_array number program.includes.now.arrays.items) includes ≤ 1) same one;
    }
    by (Some place) is = record {
      arrays = program.includes.now.arrays.items;
      marked = knows.arrays;
      second = subst (λ number. IsSecond (brings_array number program.includes.now.arrays.items) includes place) same is;
    }

pub ruleset clauses_refused = (brought_conflict, no_clause, a_clause, second_array, of_this_type)
