-- The table of contracts, after one more contract.
use Rattle.std.proofs.Common.{◌≡◌, ℕ, ◌+◌, ◌<◌, Bool, true, false, cond, nat_eq, List, Option, None, Some, length, get_or, take, if◌then◌else◌, refl, sym, ap, ◌∙◌}
use Rattle.std.proofs.lemmas.List.Sums.{fold_more}
use Rattle.std.specs.Borrow.{Bor}
use Rattle.std.specs.Option.{option_copied}
use Rattle.indexmap.specs.IndexMap.{IndexMap, Updates, get}
use Rattle.sa_ast.specs.declared.class.Class.{Class}
use Rattle.sa_ast.specs.declared.class.Feature.{Feature}
use Rattle.sa_ast.specs.declared.contract.Condition.{Condition}
use Rattle.sa_ast.specs.declared.contract.Contract.{Contract}
use Rattle.sa_ast.specs.declared.contract.Contract.TheVariants as contract
use Rattle.sa_contracts.specs.declared.contracts.Clauses.{Clauses}
use Rattle.sa_contracts.specs.declared.contracts.ContractTable.{ContractTable}
use Rattle.sa_contracts.specs.AskedChecks.{asked, woven_checks}
use Rattle.sa_contracts.specs.ContractTables.{HasContracts, HasOneMore, clauses_in, duties_in, invariant_in, place, plain_clauses, same_key}
use Rattle.sa_contracts.specs.WovenClasses.{clauses_after, clauses_of, duties, duties_of, invariant_after, invariant_of, woven_classes}
use Rattle.sa_contracts.proofs.AskedLists.{same-asked}
use Rattle.sa_contracts.proofs.WovenLists.{same-classes}

chosen : (b : Bool) (value : Clauses) (found : Option Clauses) (pre post : Option Condition) → option_copied value.pre ≡ pre → option_copied value.post ≡ post → plain_clauses (cond b (Some value) found) ≡ cond b (pre, post) (plain_clauses found)
chosen true value found pre post is_pre is_post = λ i. (is_pre i, is_post i)
chosen false value found pre post is_pre is_post = refl

kept_or : (b : Bool) (holds : Condition) (value : Bor Condition) (found : Option (Bor Condition)) → value.now ≡ holds → option_copied (cond b (Some value) found) ≡ cond b (Some holds) (option_copied found)
kept_or true holds value found is = ap (λ (h : Condition). Some h) is
kept_or false holds value found is = refl

-- the clauses of a contract are put into the table
pub more-clauses : (table more : ContractTable) (c : Contract) (of at : ℕ) (pre post : Option Condition) (value : Clauses) → c ≡ contract.Clauses of at pre post → option_copied value.pre ≡ pre → option_copied value.post ≡ post → Updates same_key table.clauses more.clauses (place of at) (Some value) → more.invariants ≡ table.invariants → HasOneMore table more c
more-clauses table more c of at pre post value is is_pre is_post added kept = record {
  of_features = λ class feature.
      ap plain_clauses (added.0 (place class feature))
      ∙ chosen (same_key (place of at) (place class feature)) value (get same_key table.clauses (place class feature)) pre post is_pre is_post
      ∙ sym (ap (clauses_after class feature (clauses_in table class feature)) is);
  of_classes = λ class.
      let same : invariant_in more class ≡ invariant_in table class = cc in
      same ∙ sym (ap (invariant_after class (invariant_in table class)) is);
}

-- the invariant of a contract is put into the table
pub more-invariant : (table more : ContractTable) (c : Contract) (of : ℕ) (holds : Condition) (value : Bor Condition) → c ≡ contract.Invariant of holds → value.now ≡ holds → Updates nat_eq table.invariants more.invariants of (Some value) → more.clauses ≡ table.clauses → HasOneMore table more c
more-invariant table more c of holds value is is_value added kept = record {
  of_features = λ class feature.
      let same : clauses_in more class feature ≡ clauses_in table class feature = cc in
      same ∙ sym (ap (clauses_after class feature (clauses_in table class feature)) is);
  of_classes = λ class.
      ap option_copied (added.0 class)
      ∙ kept_or (nat_eq of class) holds value (get nat_eq table.invariants class) is_value
      ∙ sym (ap (invariant_after class (invariant_in table class)) is);
}

-- one contract more of a list
pub has-more : (table more : ContractTable) (contracts : List Contract) (i : ℕ) (c : Contract) → i < length contracts → c ≡ get_or contracts i c → HasContracts table (take i contracts) → HasOneMore table more c → HasContracts more (take (i + 1) contracts)
has-more table more contracts i c within is has one = record {
  of_features = λ class feature.
      one.of_features class feature
      ∙ ap (λ (before : Option Condition × Option Condition). clauses_after class feature before c) (has.of_features class feature)
      ∙ ap (clauses_after class feature (clauses_of (take i contracts) class feature)) is
      ∙ sym (fold_more (clauses_after class feature) (None, None) contracts i c within);
  of_classes = λ class.
      one.of_classes class
      ∙ ap (λ (before : Option Condition). invariant_after class before c) (has.of_classes class)
      ∙ ap (invariant_after class (invariant_of (take i contracts) class)) is
      ∙ sym (fold_more (invariant_after class) None contracts i c within);
}

-- the table has for each feature what the contracts say
same-duties : (table : ContractTable) (contracts : List Contract) → HasContracts table contracts → (class feature : ℕ) (f : Feature) → duties_in table class feature f ≡ duties_of contracts class feature f
same-duties table contracts has class feature f =
    ap (λ (c : Option Condition × Option Condition). duties c (invariant_in table class) f) (has.of_features class feature)
    ∙ ap (λ (holds : Option Condition). duties (clauses_of contracts class feature) holds f) (has.of_classes class)

-- classes are woven by the table as by the contracts, and the checks are the same
pub woven-by : (table : ContractTable) (contracts : List Contract) → HasContracts table contracts → (classes : List Class) → woven_classes (duties_in table) 0 classes ≡ woven_classes (duties_of contracts) 0 classes
woven-by table contracts has classes = same-classes (duties_in table) (duties_of contracts) (same-duties table contracts has) classes

pub asked-by : (table : ContractTable) (contracts : List Contract) → HasContracts table contracts → (classes : List Class) → asked (woven_checks (duties_in table) 0 classes) ≡ asked (woven_checks (duties_of contracts) 0 classes)
asked-by table contracts has classes = same-asked (duties_in table) (duties_of contracts) (same-duties table contracts has) classes

pub ruleset tables = (more-clauses, more-invariant, has-more)

pub ruleset classes = (woven-by, asked-by)
