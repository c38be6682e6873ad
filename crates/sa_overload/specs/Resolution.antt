-- Which candidate a call chooses.
use Rattle.std.specs.Prelude.{◌≡◌, ◌≢◌, ℕ, ◌<◌, ◌≤◌, ◌⊎◌, ◌&&◌, Bool, false, not, IsTrue, IsFalse, List, slice_get}
use Rattle.std.specs.Option.{option_map_or}
use Rattle.sa_subtypes.specs.declared.edges.SubtypeRelation.{SubtypeRelation}
use Rattle.sa_overload.specs.declared.fit.ActualArg.{ActualArg}
use Rattle.sa_overload.specs.declared.fit.CandidateSignature.{CandidateSignature}
use Rattle.sa_overload.specs.Fit.{is_fit}
use Rattle.sa_overload.specs.Specificity.{is_as_specific}

-- a call: the candidates of its name, its arguments, whether its context expects a result, and the subtype relation
pub record Call : Type 0 where
  pub cands : List CandidateSignature
  pub args : List ActualArg
  pub expects_result : Bool
  pub edges : SubtypeRelation

-- the call of these four
abbrev pub call_of : List CandidateSignature → List ActualArg → Bool → SubtypeRelation → Call
call_of cands args expects_result edges = record { cands = cands; args = args; expects_result = expects_result; edges = edges }

-- whether there is a candidate with this number, from 0, and it fits
abbrev pub fits_at : Call → ℕ → Bool
fits_at call k = option_map_or (is_fit call.edges call.args call.expects_result) (slice_get call.cands k) false

-- whether the first candidate is at least as specific as the second, by their numbers
abbrev pub is_before : Call → ℕ → ℕ → Bool
is_before call k j =
    option_map_or (λ one. option_map_or (is_as_specific call.edges one) (slice_get call.cands j) false) (slice_get call.cands k) false

-- no candidate fits
abbrev pub NoneFit : Call → Type 0
NoneFit call = (k : ℕ) → fits_at call k ≡ false

-- candidate k fits, and is at least as specific as every other one that fits
pub record Leads (call : Call) (k : ℕ) : Type 0 where
  pub fit : IsTrue (fits_at call k)
  pub first : (j : ℕ) → IsTrue (fits_at call j) → j ≢ k → IsTrue (is_before call k j)

-- candidate j fits, and another candidate k isn't as specific as it: k doesn't lead
pub record Objects (call : Call) (k j : ℕ) : Type 0 where
  pub other : j ≢ k
  pub fit : IsTrue (fits_at call j)
  pub following : IsFalse (is_before call k j)

-- candidate k leads, and no other one does
pub record Chosen (call : Call) (k : ℕ) : Type 0 where
  pub leads : Leads call k
  pub alone : (j : ℕ) → Leads call j → j ≡ k

-- whether the first candidate is strictly more specific than the second
abbrev pub is_strictly_before : Call → ℕ → ℕ → Bool
is_strictly_before call k j = is_before call k j && not (is_before call j k)

-- two candidates that fit, neither of them strictly more specific than the other
pub record Tied (call : Call) (i j : ℕ) : Type 0 where
  pub order : i < j
  pub left : IsTrue (fits_at call i)
  pub right : IsTrue (fits_at call j)
  pub no_less : IsFalse (is_strictly_before call i j)
  pub no_more : IsFalse (is_strictly_before call j i)

-- the first such pair, in the order of the first candidate and then of the second
pub record FirstTied (call : Call) (i j : ℕ) : Type 0 where
  pub tied : Tied call i j
  pub least : (k l : ℕ) → Tied call k l → i ≤ k
  pub next : (l : ℕ) → Tied call i l → j ≤ l

-- the first two candidates that fit
pub record FirstTwo (call : Call) (i j : ℕ) : Type 0 where
  pub order : i < j
  pub left : IsTrue (fits_at call i)
  pub right : IsTrue (fits_at call j)
  pub least : (k : ℕ) → IsTrue (fits_at call k) → i ≤ k
  pub next : (k : ℕ) → IsTrue (fits_at call k) → k ≢ i → j ≤ k

-- the pair that a call names for which several candidates fit and none is chosen: the first two that are tied, or the first
-- two that fit if no two are
abbrev pub NamesPair : Call → ℕ → ℕ → Type 0
NamesPair call i j = FirstTied call i j ⊎ (((k l : ℕ) → ¬ Tied call k l) × FirstTwo call i j)

-- no candidate is chosen
abbrev pub NoneChosen : Call → Type 0
NoneChosen call = (k : ℕ) → ¬ Chosen call k
