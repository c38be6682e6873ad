-- Two steps that are the same up to a fault, which raises an object in the one and stops the program in the other. There is no protect in
-- what they run, so that from there on both only go out to the program's end, the one through each loop, instance and routine. Each loop
-- that it leaves ends the instances of the running feature's sites: so the steps also keep the number of that feature.
use Rattle.std.proofs.Common.{◌≡◌, ℕ, zero, suc, Bool, true, false, if◌then◌else◌, List, Option, Some, None, refl, sym, subst}
use Rattle.sa_ast.specs.declared.fault_kind.FaultKind.{FaultKind}
use Rattle.sa_ast.specs.declared.pos.Pos.{Pos}
use Rattle.sa_semantics.specs.Value.{Value}
use Rattle.sa_semantics.specs.Sequence.{resolve_outcome, resolve, ◌>>=◌, ◌>>◌, stop, pure, look, change, or_stuck, Normal, Abrupt, OutOfTurns, GoesWrong, stuck, with_index}
use Rattle.sa_semantics.specs.State.{Continuation, Finished, Then, InLoop, SiteInstances, Empty, Entry, Instance, Activation, State, AbruptCause, Broke, Raised, Failed, InputFailed, Outcome, Completion, Yielding}
use Rattle.sa_semantics.specs.Steps.{Eval, take_turn, turn}
use Rattle.sa_semantics.specs.Protects.{IsUnguarded, AreUnguarded}

-- ---- continuations without protects

abbrev pub RestUnguarded : Continuation → Type 0
RestUnguarded Finished = Unit {0}
RestUnguarded (Then a rest) = IsUnguarded a × RestUnguarded rest
RestUnguarded (InLoop loop body inner rest) = AreUnguarded body × RestUnguarded inner × RestUnguarded rest

abbrev pub SitesUnguarded : SiteInstances → Type 0
SitesUnguarded Empty = Unit {0}
SitesUnguarded (Entry site i inside others) = RestUnguarded i.left × SitesUnguarded inside × SitesUnguarded others

abbrev pub FoundUnguarded : Option (Instance × SiteInstances) → Type 0
FoundUnguarded None = Unit {0}
FoundUnguarded (Some e) = RestUnguarded e.0.left × SitesUnguarded e.1

abbrev pub FlowUnguarded : Completion → Type 0
FlowUnguarded (Yielding v r) = RestUnguarded r
FlowUnguarded _ = Unit {0}

-- the activation is one of a feature, or of an initialiser, and its instances run no protect
abbrev pub Fits : Option ℕ → Activation → Type 0
Fits feature a = (a.feature ≡ feature) × SitesUnguarded a.sites

-- ---- the outcomes of two steps

pub data Halts (feature : Option ℕ) : AbruptCause → State → AbruptCause → State → Type 0 where
  both_broke : (s : State) → Fits feature s.here → Halts feature Broke s Broke s
  both_raised : (v : Value) (kind : FaultKind) (at : Pos) (s : State) → Fits feature s.here → Halts feature (Raised v kind at) s (Raised v kind at) s
  -- from here on the states are no longer the same
  parted : (v : Value) (kind : FaultKind) (at : Pos) (s t : State) → Fits feature s.here → s.output ≡ t.output → Halts feature (Raised v kind at) s (Failed kind at) t
  both_failed : (kind : FaultKind) (at : Pos) (s : State) → Halts feature (Failed kind at) s (Failed kind at) s
  both_in_fault : (s : State) → Halts feature InputFailed s InputFailed s

-- with a value of which P is known
pub data Meet (feature : Option ℕ) (A : Type 0) (P : A → Type 0) : Outcome A → Outcome A → Type 0 where
  give : (a : A) (s : State) → P a → Fits feature s.here → Meet feature A P (Normal a s) (Normal a s)
  halt : (c d : AbruptCause) (s t : State) → Halts feature c s d t → Meet feature A P (Abrupt c s) (Abrupt d t)
  exhaust : (s : State) → Meet feature A P (OutOfTurns s) (OutOfTurns s)
  stick : (s : State) → Meet feature A P (GoesWrong s) (GoesWrong s)

-- ---- the relation

-- from states of the one feature to states of the other
pub data AgreeIn (from to : Option ℕ) (A : Type 0) (P : A → Type 0) (f g : Eval A) : Type 0 where
  agree : ((s : State) → Fits from s.here → Meet to A P (f s) (g s)) → AgreeIn from to A P f g

abbrev pub Any : {A : Type 0} → A → Type 0
Any a = Unit {0}

abbrev pub Agree : {A : Type 0} → Option ℕ → Eval A → Eval A → Type 0
Agree feature f g = AgreeIn feature feature _ Any f g

-- what follows both where they stop
abbrev pub Passes : {B : Type 0} → Option ℕ → Option ℕ → (B → Type 0) → (AbruptCause → Eval B) → (AbruptCause → Eval B) → Type 0
Passes from to Q k l = (c d : AbruptCause) (s t : State) → Halts from c s d t → Meet to _ Q (k c s) (l d t)

pub meets : {from to : Option ℕ} {A : Type 0} {P : A → Type 0} {f g : Eval A} → AgreeIn from to A P f g → (s : State) → Fits from s.here → Meet to A P (f s) (g s)
meets (agree m) s fits = m s fits

-- ---- ways of composing steps

meet_resolved : {A B : Type 0} {via to : Option ℕ} {P : A → Type 0} {Q : B → Type 0} {o q : Outcome A} (h i : A → Eval B) (k l : AbruptCause → Eval B) → Meet via A P o q → ((a : A) → P a → (s : State) → Fits via s.here → Meet to B Q (h a s) (i a s)) → Passes via to Q k l → Meet to B Q (resolve_outcome o h k) (resolve_outcome q i l)
meet_resolved h i k l (give a s x fits) m n = m a x s fits
meet_resolved h i k l (halt c d s t e) m n = n c d s t e
meet_resolved h i k l (exhaust s) m n = exhaust s
meet_resolved h i k l (stick s) m n = stick s

pub agree_resolve : {from via to : Option ℕ} {A B : Type 0} {P : A → Type 0} {Q : B → Type 0} {f g : Eval A} {h i : A → Eval B} {k l : AbruptCause → Eval B} → AgreeIn from via A P f g → ((a : A) → P a → AgreeIn via to B Q (h a) (i a)) → Passes via to Q k l → AgreeIn from to B Q (resolve f h k) (resolve g i l)
unfolding resolve
agree_resolve {h = h} {i = i} {k = k} {l = l} x y z = agree (λ s fits. meet_resolved h i k l (meets x s fits) (λ a p t e. meets (y a p) t e) z)

passes_stop : {feature : Option ℕ} {B : Type 0} (Q : B → Type 0) → Passes feature feature Q stop stop
passes_stop Q c d s t e = halt c d s t e

-- with what is known of the value
pub agree_knowing : {from to : Option ℕ} {A B : Type 0} {P : A → Type 0} {Q : B → Type 0} {f g : Eval A} {h i : A → Eval B} → AgreeIn from to A P f g → ((a : A) → P a → AgreeIn to to B Q (h a) (i a)) → AgreeIn from to B Q (f >>= h) (g >>= i)
agree_knowing {Q = Q} x y = agree_resolve x y (passes_stop Q)

pub agree_then : {from to : Option ℕ} {A B : Type 0} {P : A → Type 0} {Q : B → Type 0} {f g : Eval A} {h i : A → Eval B} → AgreeIn from to A P f g → ((a : A) → AgreeIn to to B Q (h a) (i a)) → AgreeIn from to B Q (f >>= h) (g >>= i)
agree_then {Q = Q} x y = agree_resolve x (λ a p. y a) (passes_stop Q)

pub agree_before : {from to : Option ℕ} {A B : Type 0} {P : A → Type 0} {Q : B → Type 0} {f g : Eval A} {h i : Eval B} → AgreeIn from to A P f g → AgreeIn to to B Q h i → AgreeIn from to B Q (f >> h) (g >> i)
agree_before {Q = Q} x y = agree_resolve x (λ a p. y) (passes_stop Q)

-- a read of the state, and what follows it
pub agree_looking : {from to : Option ℕ} {A B : Type 0} {Q : B → Type 0} {see : State → A} (h i : A → Eval B) → ((s : State) → Fits from s.here → AgreeIn from to B Q (h (see s)) (i (see s))) → AgreeIn from to B Q (look see >>= h) (look see >>= i)
unfolding resolve
agree_looking h i y = agree (λ s fits. meets (y s fits) s fits)

-- a change of the state that enters or leaves a feature, and what follows it
pub agree_going : {from via to : Option ℕ} {B : Type 0} {Q : B → Type 0} {h i : Eval B} (next : State → State) → ((s : State) → Fits from s.here → Fits via (next s).here) → AgreeIn via to B Q h i → AgreeIn from to B Q (change next >> h) (change next >> i)
unfolding resolve
agree_going next e y = agree (λ s fits. meets y (next s) (e s fits))

pub agree_if : {from to : Option ℕ} {A : Type 0} {P : A → Type 0} (b : Bool) {f g h i : Eval A} → AgreeIn from to A P f g → AgreeIn from to A P h i → AgreeIn from to A P (if b then f else h) (if b then g else i)
agree_if true x y = x
agree_if false x y = y

meet_turned : {from to : Option ℕ} {A : Type 0} {P : A → Type 0} {f g : Eval A} → AgreeIn from to A P f g → (n : ℕ) (s : State) → Fits from s.here → Meet to A P (take_turn n f s) (take_turn n g s)
meet_turned x zero s fits = exhaust s
meet_turned x (suc n) s fits = meets x (record s { turns = n }) fits

pub agree_turn : {from to : Option ℕ} {A : Type 0} {P : A → Type 0} {f g : Eval A} → AgreeIn from to A P f g → AgreeIn from to A P (turn f) (turn g)
agree_turn x = agree (λ s fits. meet_turned x s.turns s fits)

-- ---- single steps

pub agree_pure_that : {feature : Option ℕ} {A : Type 0} {P : A → Type 0} (a : A) → P a → AgreeIn feature feature A P (pure a) (pure a)
agree_pure_that a x = agree (λ s fits. give a s x fits)

pub agree_pure : {feature : Option ℕ} {A : Type 0} (a : A) → Agree feature (pure a) (pure a)
agree_pure a = agree_pure_that a tt

halt_alike : {feature : Option ℕ} (c : AbruptCause) (s : State) → Fits feature s.here → Halts feature c s c s
halt_alike Broke s fits = both_broke s fits
halt_alike (Raised v kind at) s fits = both_raised v kind at s fits
halt_alike (Failed kind at) s fits = both_failed kind at s
halt_alike InputFailed s fits = both_in_fault s

pub agree_stop : {feature : Option ℕ} {A : Type 0} {P : A → Type 0} (c : AbruptCause) → AgreeIn feature feature A P (stop c) (stop c)
agree_stop c = agree (λ s fits. halt c c s s (halt_alike c s fits))

pub agree_stuck : {from to : Option ℕ} {A : Type 0} {P : A → Type 0} → AgreeIn from to A P stuck stuck
agree_stuck = agree (λ s fits. stick s)

pub agree_look : {feature : Option ℕ} {A : Type 0} (see : State → A) → Agree feature (look see) (look see)
agree_look see = agree (λ s fits. give (see s) s tt fits)

pub agree_change : {feature : Option ℕ} (next : State → State) → ((s : State) → Fits feature s.here → Fits feature (next s).here) → Agree feature (change next) (change next)
agree_change next e = agree (λ s fits. give tt (next s) tt (e s fits))

pub agree_or_stuck : {feature : Option ℕ} {A : Type 0} (o : Option A) → Agree feature (or_stuck o) (or_stuck o)
unfolding or_stuck
agree_or_stuck (Some a) = agree_pure a
agree_or_stuck None = agree_stuck

pub agree_or_stuck_same : {feature : Option ℕ} {A : Type 0} (o q : Option A) → q ≡ o → Agree feature (or_stuck o) (or_stuck q)
agree_or_stuck_same {feature} o q e = subst (λ x. Agree feature (or_stuck o) (or_stuck x)) (sym e) (agree_or_stuck o)

-- with what the option has
pub agree_some : {from to : Option ℕ} {A B : Type 0} {Q : B → Type 0} {h i : A → Eval B} (o : Option A) → ((a : A) → o ≡ Some a → AgreeIn from to B Q (h a) (i a)) → AgreeIn from to B Q (or_stuck o >>= h) (or_stuck o >>= i)
unfolding resolve or_stuck
agree_some (Some a) y = agree (λ s fits. meets (y a refl) s fits)
agree_some None y = agree (λ s fits. stick s)

pub agree_with_place : {feature : Option ℕ} {A : Type 0} (list : List A) (place : ℕ) (a : A) → Agree feature (with_index list place a) (with_index list place a)
agree_with_place list place a = agree_if _ (agree_pure _) agree_stuck
