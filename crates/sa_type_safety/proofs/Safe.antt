-- Steps that begin in well-typed states end in such, and never get stuck; and how they are composed.
use Rattle.std.proofs.Common.{◌≡◌, ℕ, zero, suc, Bool, true, false, if◌then◌else◌, List, [], ◌++◌, length, Option, Some, refl, sym, ap, subst, ◌∙◌, append-nil, append_assoc}
use Rattle.std.specs.Prelude.{IsTrue, nat_lt, set}
use Rattle.sa_typing.specs.declared.context.TypingContext.{TypingContext}
use Rattle.sa_typing.specs.Rows.{Rows}
use Rattle.sa_typing.specs.Contexts.{may_leave}
use Rattle.sa_typing.specs.Builtins.{ob_type}
use Rattle.sa_semantics.specs.Sequence.{resolve_outcome, resolve, ◌>>=◌, ◌>>◌, stop, pure, look, change, or_stuck, Normal, Abrupt, OutOfTurns, stuck, with_index}
use Rattle.sa_semantics.specs.State.{State, AbruptCause, Broke, Raised, Failed, InputFailed, Outcome}
use Rattle.sa_semantics.specs.Steps.{Eval, take_turn, turn}
use Rattle.sa_type_safety.specs.Typing.{ObjectType, heap_typing, HeapExtends, CodeEnv, HasType, StateWell}

-- ---- the heap typing grows

pub extends_refl : (ks : List ObjectType) → HeapExtends ks ks
extends_refl ks = record { more = []; is = sym (append-nil ks) }

pub extends_trans : {a b c : List ObjectType} → HeapExtends a b → HeapExtends b c → HeapExtends a c
extends_trans {a} x y = record { more = x.more ++ y.more; is = y.is ∙ ap (λ ks. ks ++ y.more) x.is ∙ append_assoc a x.more y.more }

-- ---- the point where something runs

pub record Point : Type 0 where
  pub local : CodeEnv
  pub place : TypingContext

abbrev pub IsAt : Rows → Point → State → Type 0
IsAt w x s = StateWell w x.local x.place s

-- ---- the outcomes of steps

-- a cause for which a step may stop at a point
abbrev pub AbruptCauseWell : Rows → Point → AbruptCause → State → Type 0
AbruptCauseWell w x Broke s = IsAt w x s × IsTrue (may_leave x.place)
AbruptCauseWell w x (Raised v kind at) s = IsAt w x s × HasType w (heap_typing s) v ob_type
AbruptCauseWell w x (Failed kind at) s = Unit {0}
AbruptCauseWell w x InputFailed s = Unit {0}

-- from a heap typing, at a point, with a value of which P is known
pub data SafeOutcome (w : Rows) (base : List ObjectType) (x : Point) (A : Type 0) (P : List ObjectType → A → Type 0) : Outcome A → Type 0 where
  give : (a : A) (s : State) → HeapExtends base (heap_typing s) → IsAt w x s → P (heap_typing s) a → SafeOutcome w base x A P (Normal a s)
  halt : (c : AbruptCause) (s : State) → HeapExtends base (heap_typing s) → AbruptCauseWell w x c s → SafeOutcome w base x A P (Abrupt c s)
  exhaust : (s : State) → SafeOutcome w base x A P (OutOfTurns s)

-- from the one point to the other, with each heap typing that extends this one
pub data SafeTo (w : Rows) (base : List ObjectType) (x y : Point) (A : Type 0) (P : List ObjectType → A → Type 0) (f : Eval A) : Type 0 where
  safe : ((s : State) → HeapExtends base (heap_typing s) → IsAt w x s → SafeOutcome w (heap_typing s) y A P (f s)) → SafeTo w base x y A P f

abbrev pub Safe : Rows → List ObjectType → Point → (A : Type 0) → (List ObjectType → A → Type 0) → Eval A → Type 0
Safe w base x A P f = SafeTo w base x x A P f

abbrev pub Any : {A : Type 0} → List ObjectType → A → Type 0
Any ks a = Unit {0}

-- what follows a stop at a point
abbrev pub Passes : {B : Type 0} → Rows → List ObjectType → Point → Point → (List ObjectType → B → Type 0) → (AbruptCause → Eval B) → Type 0
Passes {B} w base x y Q k = (c : AbruptCause) (s : State) → HeapExtends base (heap_typing s) → AbruptCauseWell w x c s → SafeOutcome w (heap_typing s) y B Q (k c s)

module _ {w : Rows} where
  pub ends : {base : List ObjectType} {x y : Point} {A : Type 0} {P : List ObjectType → A → Type 0} {f : Eval A} → SafeTo w base x y A P f → (s : State) → HeapExtends base (heap_typing s) → IsAt w x s → SafeOutcome w (heap_typing s) y A P (f s)
  ends (safe m) s e is = m s e is

  -- an outcome from a later heap typing is one from the earlier one
  pub ends_from : {a b : List ObjectType} {x : Point} {A : Type 0} {P : List ObjectType → A → Type 0} {o : Outcome A} → HeapExtends a b → SafeOutcome w b x A P o → SafeOutcome w a x A P o
  ends_from e (give a s g is p) = give a s (extends_trans e g) is p
  ends_from e (halt c s g is) = halt c s (extends_trans e g) is
  ends_from e (exhaust s) = exhaust s

  -- what is safe stays so with a later heap typing
  pub safe_later : {a b : List ObjectType} {x y : Point} {A : Type 0} {P : List ObjectType → A → Type 0} {f : Eval A} → HeapExtends a b → SafeTo w a x y A P f → SafeTo w b x y A P f
  safe_later e f = safe (λ s g is. ends f s (extends_trans e g) is)

  ends_that : {base : List ObjectType} {x : Point} {A : Type 0} {P Q : List ObjectType → A → Type 0} {o : Outcome A} → SafeOutcome w base x A P o → ((ks : List ObjectType) (a : A) → HeapExtends base ks → P ks a → Q ks a) → SafeOutcome w base x A Q o
  ends_that (give a s g is p) q = give a s g is (q _ a g p)
  ends_that (halt c s g is) q = halt c s g is
  ends_that (exhaust s) q = exhaust s

  -- with something else that is known of the value
  pub safe_that : {base : List ObjectType} {x y : Point} {A : Type 0} {P Q : List ObjectType → A → Type 0} {f : Eval A} → SafeTo w base x y A P f → ((ks : List ObjectType) (a : A) → HeapExtends base ks → P ks a → Q ks a) → SafeTo w base x y A Q f
  safe_that f q = safe (λ s g is. ends_that (ends f s g is) (λ ks a e. q ks a (extends_trans g e)))

  -- ---- ways of composing steps

  ends_resolved : {A B : Type 0} {base : List ObjectType} {y z : Point} {Q : List ObjectType → B → Type 0} {R : List ObjectType → A → Type 0} {o : Outcome A} (h : A → Eval B) (k : AbruptCause → Eval B) → SafeOutcome w base y A R o → ((ks : List ObjectType) (a : A) → HeapExtends base ks → R ks a → SafeTo w ks y z B Q (h a)) → Passes w base y z Q k → SafeOutcome w base z B Q (resolve_outcome o h k)
  ends_resolved h k (give a s g is p) m n = ends_from g (ends (m _ a g p) s (extends_refl _) is)
  ends_resolved h k (halt c s g is) m n = ends_from g (n c s g is)
  ends_resolved h k (exhaust s) m n = exhaust s

  pub safe_resolve : {base : List ObjectType} {x y z : Point} {A B : Type 0} {P : List ObjectType → A → Type 0} {Q : List ObjectType → B → Type 0} {f : Eval A} {h : A → Eval B} {k : AbruptCause → Eval B} → SafeTo w base x y A P f → ((ks : List ObjectType) (a : A) → HeapExtends base ks → P ks a → SafeTo w ks y z B Q (h a)) → Passes w base y z Q k → SafeTo w base x z B Q (resolve f h k)
  unfolding resolve
  safe_resolve {h = h} {k = k} f m n = safe (λ s g is. ends_resolved h k (ends f s g is) (λ ks a e p. m ks a (extends_trans g e) p) (λ c t e p. n c t (extends_trans g e) p))

  pub passes_stop : {base : List ObjectType} {x : Point} {B : Type 0} (Q : List ObjectType → B → Type 0) → Passes w base x x Q stop
  passes_stop Q c s g p = halt c s (extends_refl _) p

  -- a step, and another with its value
  pub safe_then : {base : List ObjectType} {x y : Point} {A B : Type 0} {P : List ObjectType → A → Type 0} {Q : List ObjectType → B → Type 0} {f : Eval A} {h : A → Eval B} → SafeTo w base x y A P f → ((ks : List ObjectType) (a : A) → HeapExtends base ks → P ks a → SafeTo w ks y y B Q (h a)) → SafeTo w base x y B Q (f >>= h)
  safe_then {Q = Q} f m = safe_resolve f m (passes_stop Q)

  -- a step, and another
  pub safe_before : {base : List ObjectType} {x y : Point} {A B : Type 0} {P : List ObjectType → A → Type 0} {Q : List ObjectType → B → Type 0} {f : Eval A} {h : Eval B} → SafeTo w base x y A P f → ((ks : List ObjectType) → HeapExtends base ks → SafeTo w ks y y B Q h) → SafeTo w base x y B Q (f >> h)
  safe_before {Q = Q} f m = safe_resolve f (λ ks a e p. m ks e) (passes_stop Q)

  -- a read of the state, and what follows it
  pub safe_looking : {base : List ObjectType} {x y : Point} {A B : Type 0} {Q : List ObjectType → B → Type 0} {see : State → A} (h : A → Eval B) → ((s : State) → HeapExtends base (heap_typing s) → IsAt w x s → SafeTo w (heap_typing s) x y B Q (h (see s))) → SafeTo w base x y B Q (look see >>= h)
  unfolding resolve
  safe_looking h m = safe (λ s g is. ends (m s g is) s (extends_refl _) is)

  -- a change of the state that goes to another point, and what follows it
  pub safe_going : {base : List ObjectType} {x y z : Point} {B : Type 0} {Q : List ObjectType → B → Type 0} {h : Eval B} (next : State → State) → ((s : State) → HeapExtends base (heap_typing s) → IsAt w x s → HeapExtends (heap_typing s) (heap_typing (next s)) × IsAt w y (next s)) → ((ks : List ObjectType) → HeapExtends base ks → SafeTo w ks y z B Q h) → SafeTo w base x z B Q (change next >> h)
  unfolding resolve
  safe_going next to m = safe (λ s g is. let there = to s g is in ends_from there.0 (ends (m _ (extends_trans g there.0)) (next s) (extends_refl _) there.1))

  pub safe_change : {base : List ObjectType} {x y : Point} (next : State → State) → ((s : State) → HeapExtends base (heap_typing s) → IsAt w x s → HeapExtends (heap_typing s) (heap_typing (next s)) × IsAt w y (next s)) → SafeTo w base x y (Unit {0}) Any (change next)
  safe_change next to = safe (λ s g is. let there = to s g is in give tt (next s) there.0 there.1 tt)

  pub safe_if : {base : List ObjectType} {x y : Point} {A : Type 0} {P : List ObjectType → A → Type 0} (b : Bool) {f g : Eval A} → (b ≡ true → SafeTo w base x y A P f) → (b ≡ false → SafeTo w base x y A P g) → SafeTo w base x y A P (if b then f else g)
  safe_if true f g = f refl
  safe_if false f g = g refl

  ends_turned : {base : List ObjectType} {x y : Point} {A : Type 0} {P : List ObjectType → A → Type 0} {f : Eval A} → SafeTo w base x y A P f → (n : ℕ) (s : State) → HeapExtends base (heap_typing s) → IsAt w x s → SafeOutcome w (heap_typing s) y A P (take_turn n f s)
  ends_turned f zero s g is = exhaust s
  ends_turned f (suc n) s g is = ends f (record s { turns = n }) g (record { objects = is.objects; shareds = is.shareds; here = is.here })

  pub safe_turn : {base : List ObjectType} {x y : Point} {A : Type 0} {P : List ObjectType → A → Type 0} {f : Eval A} → SafeTo w base x y A P f → SafeTo w base x y A P (turn f)
  safe_turn f = safe (λ s g is. ends_turned f s.turns s g is)

  -- ---- single steps

  pub safe_pure : {base : List ObjectType} {x : Point} {A : Type 0} {P : List ObjectType → A → Type 0} (a : A) → ((ks : List ObjectType) → HeapExtends base ks → P ks a) → Safe w base x A P (pure a)
  safe_pure a p = safe (λ s g is. give a s (extends_refl _) is (p _ g))

  pub safe_look : {base : List ObjectType} {x : Point} {A : Type 0} {P : List ObjectType → A → Type 0} {see : State → A} → ((s : State) → HeapExtends base (heap_typing s) → IsAt w x s → P (heap_typing s) (see s)) → Safe w base x A P (look see)
  safe_look p = safe (λ s g is. give _ s (extends_refl _) is (p s g is))

  pub safe_stop : {base : List ObjectType} {x : Point} {A : Type 0} {P : List ObjectType → A → Type 0} (c : AbruptCause) → ((s : State) → HeapExtends base (heap_typing s) → IsAt w x s → AbruptCauseWell w x c s) → Safe w base x A P (stop c)
  safe_stop c p = safe (λ s g is. halt c s (extends_refl _) (p s g is))

  -- what an option has that isn't none
  pub safe_some : {base : List ObjectType} {x : Point} {A : Type 0} {P : List ObjectType → A → Type 0} {o : Option A} (a : A) → o ≡ Some a → ((ks : List ObjectType) → HeapExtends base ks → P ks a) → Safe w base x A P (or_stuck o)
  unfolding or_stuck
  safe_some {base} {x} {A} {P} a e p = subst (λ q. Safe w base x A P (or_stuck q)) (sym e) (safe_pure a p)

  -- and what follows it
  pub safe_with : {base : List ObjectType} {x y : Point} {A B : Type 0} {Q : List ObjectType → B → Type 0} {o : Option A} (h : A → Eval B) (a : A) → o ≡ Some a → SafeTo w base x y B Q (h a) → SafeTo w base x y B Q (or_stuck o >>= h)
  unfolding resolve or_stuck
  safe_with {base} {x} {y} {A} {B} {Q} {o} h a e m = subst (λ q. SafeTo w base x y B Q (or_stuck q >>= h)) (sym e) (safe (λ s g is. ends m s g is))

  -- and a list with another element at an index that it has
  pub safe_placed : {base : List ObjectType} {x y : Point} {A B : Type 0} {Q : List ObjectType → B → Type 0} (list : List A) (place : ℕ) (a : A) (h : List A → Eval B) → nat_lt place (length list) ≡ true → SafeTo w base x y B Q (h (set list place a)) → SafeTo w base x y B Q (with_index list place a >>= h)
  unfolding resolve
  safe_placed {base} {x} {y} {A} {B} {Q} list place a h e m =
      subst (λ b. SafeTo w base x y B Q ((if b then pure (set list place a) else stuck) >>= h)) (sym e) (safe (λ s g is. ends m s g is))
