-- Two steps that are composed alike, of which the one runs what turns begin to a level, and the other to a greater one. Laws of all steps
-- are shown once for each way of composing steps.
use Rattle.std.proofs.Common.{◌≡◌, ℕ, zero, suc, ◌+◌, Bool, true, false, if◌then◌else◌, List, ◌++◌, Option, Some, None, refl}
use Rattle.sa_semantics.specs.Sequence.{resolve, ◌>>=◌, ◌>>◌, stop, pure, look, change, or_stuck, Normal, OutOfTurns, stuck, with_index}
use Rattle.sa_semantics.specs.State.{State, AbruptCause}
use Rattle.sa_semantics.specs.Steps.{Eval, turn}

abbrev pub more : ℕ → State → State
more d s = record s { turns = s.turns + d }

pub data AlikeIn : ℕ → (A : Type 0) → Eval A → Eval A → Type 1 where
  resolves : {level : ℕ} {A B : Type 0} {f g : Eval A} {h i : A → Eval B} {k l : AbruptCause → Eval B} → AlikeIn level A f g → ((a : A) → AlikeIn level B (h a) (i a)) → ((c : AbruptCause) → AlikeIn level B (k c) (l c)) → AlikeIn level B (resolve f h k) (resolve g i l)
  stops : {level : ℕ} {A : Type 0} (c : AbruptCause) → AlikeIn level A (stop c) (stop c)
  sticks : {level : ℕ} {A : Type 0} → AlikeIn level A stuck stuck
  -- a step that neither reads the turns nor spends any, and puts nothing
  moves : {level : ℕ} {A : Type 0} (see : State → A) (next : State → State) → ((d : ℕ) (s : State) → see (more d s) ≡ see s) → ((d : ℕ) (s : State) → next (more d s) ≡ more d (next s)) → ((s : State) → (next s).turns ≡ s.turns) → ((s : State) → (next s).output ≡ s.output) → AlikeIn level A (λ s. Normal (see s) (next s)) (λ s. Normal (see s) (next s))
  puts : {level : ℕ} (bytes : State → List ℕ) (next : State → State) → ((d : ℕ) (s : State) → next (more d s) ≡ more d (next s)) → ((s : State) → (next s).turns ≡ s.turns) → ((s : State) → (next s).output ≡ s.output ++ bytes s) → AlikeIn level (Unit {0}) (change next) (change next)
  -- the turn of what is run to a level, and one that begins nothing
  turns : {level : ℕ} {A : Type 0} {f g : Eval A} → AlikeIn level A f g → AlikeIn (suc level) A (turn f) (turn g)
  turns_alone : {level : ℕ} {A : Type 0} {f g : Eval A} → AlikeIn level A f g → AlikeIn level A (turn f) (turn g)
  -- the level 0
  ends : {A : Type 0} → AlikeIn zero A (λ s. OutOfTurns s) (λ s. OutOfTurns s)
  ends_first : {level : ℕ} {A : Type 0} {g : Eval A} → AlikeIn level A g g → AlikeIn zero A (λ s. OutOfTurns s) g

abbrev pub Alike : {A : Type 0} → ℕ → Eval A → Eval A → Type 1
Alike level f g = AlikeIn level _ f g

abbrev pub Steady : {A : Type 0} → ℕ → Eval A → Type 1
Steady level f = AlikeIn level _ f f

-- ---- ways of composing steps

pub alike_resolve : {level : ℕ} {A B : Type 0} {f g : Eval A} {h i : A → Eval B} {k l : AbruptCause → Eval B} → Alike level f g → ((a : A) → Alike level (h a) (i a)) → ((c : AbruptCause) → Alike level (k c) (l c)) → Alike level (resolve f h k) (resolve g i l)
alike_resolve a b c = resolves a b c

pub steady_stop : {level : ℕ} {A : Type 0} (c : AbruptCause) → Steady {A = A} level (stop c)
steady_stop c = stops c

pub alike_then : {level : ℕ} {A B : Type 0} {f g : Eval A} {h i : A → Eval B} → Alike level f g → ((a : A) → Alike level (h a) (i a)) → Alike level (f >>= h) (g >>= i)
alike_then a b = resolves a b stops

pub alike_before : {level : ℕ} {A B : Type 0} {f g : Eval A} {h i : Eval B} → Alike level f g → Alike level h i → Alike level (f >> h) (g >> i)
alike_before a b = resolves a (λ _. b) stops

pub alike_if : {level : ℕ} {A : Type 0} (b : Bool) {f g h i : Eval A} → Alike level f g → Alike level h i → Alike level (if b then f else h) (if b then g else i)
alike_if true a b = a
alike_if false a b = b

pub steady_pure : {level : ℕ} {A : Type 0} (a : A) → Steady level (pure a)
steady_pure a = moves (λ _. a) (λ s. s) (λ d s. refl) (λ d s. refl) (λ s. refl) (λ s. refl)

pub steady_look : {level : ℕ} {A : Type 0} (see : State → A) → ((d : ℕ) (s : State) → see (more d s) ≡ see s) → Steady level (look see)
steady_look see e = moves see (λ s. s) e (λ d s. refl) (λ s. refl) (λ s. refl)

pub steady_change : {level : ℕ} (f : State → State) → ((d : ℕ) (s : State) → f (more d s) ≡ more d (f s)) → ((s : State) → (f s).turns ≡ s.turns) → ((s : State) → (f s).output ≡ s.output) → Steady level (change f)
steady_change f a b c = moves (λ _. tt) f (λ d s. refl) a b c

pub steady_or_stuck : {level : ℕ} {A : Type 0} (o : Option A) → Steady level (or_stuck o)
unfolding or_stuck
steady_or_stuck (Some a) = steady_pure a
steady_or_stuck None = sticks

pub steady_stuck : {level : ℕ} {A : Type 0} → Steady {A = A} level stuck
steady_stuck = sticks

pub steady_with_place : {level : ℕ} {A : Type 0} (list : List A) (place : ℕ) (a : A) → Steady level (with_index list place a)
steady_with_place list place a = alike_if _ (steady_pure _) sticks
