-- The table by which the contracts of a program are found.
use Rattle.std.specs.Prelude.{◌≡◌, ℕ, ◌==◌, List, Bool, ◌&&◌, Option, None, Some, nat_eq}
use Rattle.std.specs.Option.{option_copied}
use Rattle.indexmap.specs.IndexMap.{get}
use Rattle.sa_ast.specs.declared.class.Feature.{Feature}
use Rattle.sa_ast.specs.declared.contract.Condition.{Condition}
use Rattle.sa_ast.specs.declared.contract.Contract.{Contract}
use Rattle.sa_contracts.specs.declared.contracts.Clauses.{Clauses}
use Rattle.sa_contracts.specs.declared.contracts.ContractTable.{ContractTable}
use Rattle.sa_contracts.specs.declared.contracts.FeatureContract.{FeatureContract}
use Rattle.sa_contracts.specs.declared.contracts.FeatureKey.{FeatureKey}
use Rattle.sa_contracts.specs.WovenClasses.{Duties, duties, clauses_after, clauses_of, invariant_after, invariant_of}

-- what a feature has to keep, as plain data
abbrev pub plain_duties : FeatureContract → Duties
plain_duties c = record {
  pre = option_copied c.pre;
  post = option_copied c.post;
  invariant = option_copied c.invariant;
}

abbrev pub same_key : FeatureKey → FeatureKey → Bool
same_key a b = (a.class == b.class) && (a.feature == b.feature)

abbrev pub place : ℕ → ℕ → FeatureKey
place class feature = record { class = class; feature = feature }

abbrev pub plain_clauses : Option Clauses → Option Condition × Option Condition
plain_clauses None = (None, None)
plain_clauses (Some c) = (option_copied c.pre, option_copied c.post)

-- the clauses that the table has for a feature, and the invariant that it has for a class
abbrev pub clauses_in : ContractTable → ℕ → ℕ → Option Condition × Option Condition
clauses_in table class feature = plain_clauses (get same_key table.clauses (place class feature))

abbrev pub invariant_in : ContractTable → ℕ → Option Condition
invariant_in table class = option_copied (get nat_eq table.invariants class)

abbrev pub duties_in : ContractTable → ℕ → ℕ → Feature → Duties
duties_in table class feature f = duties (clauses_in table class feature) (invariant_in table class) f

-- a table has what another has, after one more contract
pub record HasOneMore (table more : ContractTable) (contract : Contract) : Type 0 where
  pub of_features : (class feature : ℕ)
      → clauses_in more class feature ≡ clauses_after class feature (clauses_in table class feature) contract
  pub of_classes : (class : ℕ) → invariant_in more class ≡ invariant_after class (invariant_in table class) contract

-- the table has just what these contracts say
pub record HasContracts (table : ContractTable) (contracts : List Contract) : Type 0 where
  pub of_features : (class feature : ℕ) → clauses_in table class feature ≡ clauses_of contracts class feature
  pub of_classes : (class : ℕ) → invariant_in table class ≡ invariant_of contracts class
