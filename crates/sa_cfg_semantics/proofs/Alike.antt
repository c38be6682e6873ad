-- Two steps that are composed alike, of which the one runs what follows to a level, and the other to a greater one. The law of all steps is
-- shown once for each way of composing steps.
use Rattle.std.proofs.Common.{◌≡◌, ℕ, zero, suc, ◌-◌, ◌≤◌, nat_le, Bool, true, false, if◌then◌else◌, List, slice_get, Option, Some, None, refl, ap, ◌∙◌, arith}
use Rattle.sa_semantics.specs.Sequence.{resolve_outcome, resolve, ◌>>=◌, ◌>>◌, stop, pure, look, change, or_stuck, at_index, Normal, Abrupt, OutOfTurns, stuck, GoesWrong, with_index}
use Rattle.sa_semantics.specs.State as language
use Rattle.sa_semantics.specs.Steps as language_steps
use Rattle.sa_cfg_semantics.specs.Frames.{State, Cause, Faulted, InputFailed, Outcome}
use Rattle.sa_cfg_semantics.specs.Counting.{Eval, count, take_turn, turn, lifted, lift}

pub data AlikeIn : ℕ → (A : Type 0) → Eval A → Eval A → Type 1 where
  resolves : {level : ℕ} {A B : Type 0} {f g : Eval A} {h i : A → Eval B} {k l : Cause → Eval B} → AlikeIn level A f g → ((a : A) → AlikeIn level B (h a) (i a)) → ((c : Cause) → AlikeIn level B (k c) (l c)) → AlikeIn level B (resolve f h k) (resolve g i l)
  stops : {level : ℕ} {A : Type 0} (c : Cause) → AlikeIn level A (stop c) (stop c)
  sticks : {level : ℕ} {A : Type 0} → AlikeIn level A stuck stuck
  -- a step that counts no CFG step
  moves : {level : ℕ} {A : Type 0} (see : State → A) (next : State → State) → ((s : State) → (next s).steps ≡ s.steps) → AlikeIn level A (λ s. Normal (see s) (next s)) (λ s. Normal (see s) (next s))
  turns : {level : ℕ} {A : Type 0} {f g : Eval A} → AlikeIn level A f g → AlikeIn level A (turn f) (turn g)
  sees : {level : ℕ} {A : Type 0} (f : language_steps.Eval A) → AlikeIn level A (λ s. lifted s (f s.world)) (λ s. lifted s (f s.world))
  counts : {level : ℕ} (n : ℕ) → AlikeIn level (Unit {0}) (count n) (count n)
  -- a counted step, and then what is run to a level
  first : {level : ℕ} {A : Type 0} {f g : Eval A} → AlikeIn level A f g → AlikeIn (suc level) A (count 1 >> f) (count 1 >> g)
  -- the level 0
  ends : {A : Type 0} (g : Eval A) → AlikeIn zero A stuck (count 1 >> g)

abbrev pub Alike : {A : Type 0} → ℕ → Eval A → Eval A → Type 1
Alike level f g = AlikeIn level _ f g

abbrev pub Steady : {A : Type 0} → ℕ → Eval A → Type 1
Steady level f = AlikeIn level _ f f

-- ---- ways of composing steps

pub alike_resolve : {level : ℕ} {A B : Type 0} {f g : Eval A} {h i : A → Eval B} {k l : Cause → Eval B} → Alike level f g → ((a : A) → Alike level (h a) (i a)) → ((c : Cause) → Alike level (k c) (l c)) → Alike level (resolve f h k) (resolve g i l)
alike_resolve a b c = resolves a b c

pub steady_stop : {level : ℕ} {A : Type 0} (c : Cause) → Steady {A = A} level (stop c)
steady_stop c = stops c

pub alike_then : {level : ℕ} {A B : Type 0} {f g : Eval A} {h i : A → Eval B} → Alike level f g → ((a : A) → Alike level (h a) (i a)) → Alike level (f >>= h) (g >>= i)
alike_then a b = resolves a b stops

pub alike_before : {level : ℕ} {A B : Type 0} {f g : Eval A} {h i : Eval B} → Alike level f g → Alike level h i → Alike level (f >> h) (g >> i)
alike_before a b = resolves a (λ _. b) stops

pub alike_if : {level : ℕ} {A : Type 0} (b : Bool) {f g h i : Eval A} → Alike level f g → Alike level h i → Alike level (if b then f else h) (if b then g else i)
alike_if true a b = a
alike_if false a b = b

pub steady_pure : {level : ℕ} {A : Type 0} (a : A) → Steady level (pure a)
steady_pure a = moves (λ _. a) (λ s. s) (λ s. refl)

pub steady_look : {level : ℕ} {A : Type 0} (see : State → A) → Steady level (look see)
steady_look see = moves see (λ s. s) (λ s. refl)

pub steady_change : {level : ℕ} (f : State → State) → ((s : State) → (f s).steps ≡ s.steps) → Steady level (change f)
steady_change f a = moves (λ _. tt) f a

pub steady_or_stuck : {level : ℕ} {A : Type 0} (o : Option A) → Steady level (or_stuck o)
unfolding or_stuck
steady_or_stuck (Some a) = steady_pure a
steady_or_stuck None = sticks

pub steady_stuck : {level : ℕ} {A : Type 0} → Steady {A = A} level stuck
steady_stuck = sticks

pub steady_with_place : {level : ℕ} {A : Type 0} (list : List A) (place : ℕ) (a : A) → Steady level (with_index list place a)
steady_with_place list place a = alike_if _ (steady_pure _) sticks

pub steady_at_place : {level : ℕ} {A : Type 0} (list : List A) (place : ℕ) → Steady level (at_index list place)
steady_at_place list place = steady_or_stuck (slice_get list place)

pub steady_within : {level : ℕ} {A : Type 0} (f : language_steps.Eval A) → Steady level (lift f)
unfolding lift
steady_within f = sees f

-- ---- with as many levels as CFG steps are left, or more

-- no CFG step is added
abbrev pub Falls : {A : Type 0} → ℕ → Outcome A → Type 0
Falls n (Normal a s) = s.steps ≤ n
Falls n (Abrupt c s) = s.steps ≤ n
Falls n (OutOfTurns s) = s.steps ≤ n
Falls n (GoesWrong s) = s.steps ≤ n

abbrev pub Keeps : {A : Type 0} → State → Outcome A → Outcome A → Type 0
Keeps s o q = (q ≡ o) × Falls s.steps o

falls_from : {A : Type 0} (n m : ℕ) (o : Outcome A) → n ≤ m → Falls n o → Falls m o
falls_from n m (Normal a s) h e = omega (arith, h, e)
falls_from n m (Abrupt c s) h e = omega (arith, h, e)
falls_from n m (OutOfTurns s) h e = omega (arith, h, e)
falls_from n m (GoesWrong s) h e = omega (arith, h, e)

keeps_resolved : {A B : Type 0} (level : ℕ) (s : State) (o q : Outcome A) → s.steps ≤ level → Keeps s o q → (h i : A → Eval B) → (k l : Cause → Eval B) → ((a : A) (t : State) → t.steps ≤ level → Keeps t (h a t) (i a t)) → ((c : Cause) (t : State) → t.steps ≤ level → Keeps t (k c t) (l c t)) → Keeps s (resolve_outcome o h k) (resolve_outcome q i l)
keeps_resolved level s (Normal a t) q few e h i k l m n =
    let r = m a t (omega (arith, few, e.1)) in
    (ap (λ z. resolve_outcome z i l) e.0 ∙ r.0, falls_from t.steps s.steps (h a t) e.1 r.1)
keeps_resolved level s (Abrupt c t) q few e h i k l m n =
    let r = n c t (omega (arith, few, e.1)) in
    (ap (λ z. resolve_outcome z i l) e.0 ∙ r.0, falls_from t.steps s.steps (k c t) e.1 r.1)
keeps_resolved level s (OutOfTurns t) q few e h i k l m n = (ap (λ z. resolve_outcome z i l) e.0, e.1)
keeps_resolved level s (GoesWrong t) q few e h i k l m n = (ap (λ z. resolve_outcome z i l) e.0, e.1)

keeps_turned : {A : Type 0} (n : ℕ) (f g : Eval A) (s : State) → ((t : State) → t.steps ≡ s.steps → Keeps t (f t) (g t)) → Keeps s (take_turn n f s) (take_turn n g s)
keeps_turned zero f g s e = (refl, omega arith)
keeps_turned (suc n) f g s e = e (record s { world = record (s.world) { turns = n } }) refl

falls_if : {A : Type 0} (b : Bool) (n : ℕ) (o q : Outcome A) → Falls n o → Falls n q → Falls n (if b then o else q)
falls_if true n o q x y = x
falls_if false n o q x y = y

-- the state after a step of the language that leads to a world
abbrev following : State → language.State → State
following s w = record s { world = w; steps = s.steps - (s.world.turns - w.turns) }

abbrev enough : State → language.State → Bool
enough s w = nat_le (s.world.turns - w.turns) s.steps

falls_seen : {A : Type 0} (s : State) (o : language.Outcome A) → Falls s.steps (lifted s o)
falls_seen s (Normal a w) = falls_if (enough s w) s.steps (Normal a (following s w)) (GoesWrong s) (omega arith) (omega arith)
falls_seen s (Abrupt (language.Raised exception kind at) w) = omega arith
falls_seen s (Abrupt (language.Failed kind at) w) = falls_if (enough s w) s.steps (Abrupt (Faulted kind) (following s w)) (GoesWrong s) (omega arith) (omega arith)
falls_seen s (Abrupt language.InputFailed w) = falls_if (enough s w) s.steps (Abrupt InputFailed (following s w)) (GoesWrong s) (omega arith) (omega arith)
falls_seen s (Abrupt language.Broke w) = omega arith
falls_seen s (OutOfTurns w) = falls_if (enough s w) s.steps (OutOfTurns (following s w)) (GoesWrong s) (omega arith) (omega arith)
falls_seen s (GoesWrong w) = omega arith

falls_counted : (b : Bool) (n : ℕ) (s : State) → Falls {A = Unit {0}} s.steps (if b then Normal tt (record s { steps = s.steps - n }) else GoesWrong s)
falls_counted true n s = omega arith
falls_counted false n s = omega arith

keeps_first : {A : Type 0} (b : Bool) (level : ℕ) (s : State) (f g : Eval A) → s.steps ≤ suc level → ((t : State) → t.steps ≤ level → Keeps t (f t) (g t)) →
    Keeps s (resolve_outcome {A = Unit {0}} (if b then Normal tt (record s { steps = s.steps - 1 }) else GoesWrong s) (λ _. f) stop) (resolve_outcome {A = Unit {0}} (if b then Normal tt (record s { steps = s.steps - 1 }) else GoesWrong s) (λ _. g) stop)
keeps_first true level s f g few e =
    let t : State = record s { steps = s.steps - 1 } in
    let r = e t (omega (arith, few)) in
    (r.0, falls_from t.steps s.steps (f t) (omega arith) r.1)
keeps_first false level s f g few e = (refl, omega arith)

stuck_first : {A : Type 0} (k : ℕ) (s : State) (g : Eval A) → k ≤ 0 → resolve_outcome {A = Unit {0}} (if nat_le 1 k then Normal tt (record s { steps = k - 1 }) else GoesWrong s) (λ _. g) stop ≡ GoesWrong s
stuck_first zero s g few = refl
stuck_first (suc n) s g few = absurd (omega (arith, few))

-- Where no more CFG steps are left than the level, the greater one gives the same.
pub keeps : {level : ℕ} {A : Type 0} {f g : Eval A} → AlikeIn level A f g → (s : State) → s.steps ≤ level → Keeps s (f s) (g s)
unfolding resolve
keeps (resolves {level = level} {f = f} {g = g} {h = h} {i = i} {k = k} {l = l} a b c) s few = keeps_resolved level s (f s) (g s) few (keeps a s few) h i k l (λ x t less. keeps (b x) t less) (λ x t less. keeps (c x) t less)
keeps (stops c) s few = (refl, omega arith)
keeps sticks s few = (refl, omega arith)
keeps (moves see next a) s few = (refl, omega (arith, a s))
keeps (turns {f = f} {g = g} a) s few = keeps_turned s.world.turns f g s (λ t e. keeps a t (omega (arith, few, e)))
keeps (sees f) s few = (refl, falls_seen s (f s.world))
keeps (counts n) s few = (refl, falls_counted (nat_le n s.steps) n s)
keeps (first {level = level} {f = f} {g = g} a) s few = keeps_first (nat_le 1 s.steps) level s f g few (λ t less. keeps a t less)
keeps (ends g) s few = (stuck_first s.steps s g few, omega arith)
