-- The laws of all steps.
use Rattle.std.proofs.Common.{◌≡◌, ℕ, zero, suc, ◌+◌, ◌≤◌, List, [], ◌++◌, refl, sym, ap, subst, ◌∙◌, append_assoc, append-nil, arith}
use Rattle.sa_semantics.specs.Sequence.{resolve_outcome, resolve, Normal, Abrupt, OutOfTurns, GoesWrong, last_state}
use Rattle.sa_semantics.specs.State.{State, AbruptCause, Outcome}
use Rattle.sa_semantics.specs.Steps.{Eval, take_turn}
use Rattle.sa_semantics.specs.Law.{IsPrefix}
use Rattle.sa_semantics.proofs.Alike.{more, AlikeIn, resolves, stops, sticks, moves, puts, turns, turns_alone, ends, ends_first}

-- ---- outputs grow

same_prefix : (a b : List ℕ) → b ≡ a → IsPrefix a b
same_prefix a b e = ([], e ∙ sym (append-nil a))

prefix_trans : (a b c : List ℕ) → IsPrefix a b → IsPrefix b c → IsPrefix a c
prefix_trans a b c x y = (x.0 ++ y.0, y.1 ∙ ap (λ l. l ++ y.0) x.1 ∙ append_assoc a x.0 y.0)

-- the output from s on is that of the outcome
abbrev Extends : {A : Type 0} → State → Outcome A → Type 0
Extends s o = IsPrefix s.output (last_state o).output

extends_resolved : {A B : Type 0} (s : State) (o : Outcome A) (h : A → Eval B) (k : AbruptCause → Eval B) → Extends s o → ((a : A) (t : State) → Extends t (h a t)) → ((c : AbruptCause) (t : State) → Extends t (k c t)) → Extends s (resolve_outcome o h k)
extends_resolved s (Normal a t) h k e m n = prefix_trans s.output t.output _ e (m a t)
extends_resolved s (Abrupt c t) h k e m n = prefix_trans s.output t.output _ e (n c t)
extends_resolved s (OutOfTurns t) h k e m n = e
extends_resolved s (GoesWrong t) h k e m n = e

extends_turned : {A : Type 0} (n : ℕ) (f : Eval A) (s : State) → ((t : State) → Extends t (f t)) → Extends s (take_turn n f s)
extends_turned zero f s e = same_prefix _ _ refl
extends_turned (suc n) f s e = e (record s { turns = n })

pub extends : {level : ℕ} {A : Type 0} {f g : Eval A} → AlikeIn level A f g → (s : State) → Extends s (g s)
unfolding resolve
extends (resolves {g = g} {i = i} {l = l} a b c) s = extends_resolved s (g s) i l (extends a s) (λ x t. extends (b x) t) (λ x t. extends (c x) t)
extends (stops c) s = same_prefix _ _ refl
extends sticks s = same_prefix _ _ refl
extends (moves see next a b c e) s = same_prefix _ _ (e s)
extends (puts bytes next a b c) s = (bytes s, c s)
extends (turns {g = g} a) s = extends_turned s.turns g s (extends a)
extends (turns_alone {g = g} a) s = extends_turned s.turns g s (extends a)
extends ends s = same_prefix _ _ refl
extends (ends_first a) s = extends a s

-- ---- with more turns

-- the second is the first with d turns more, or its output extends that of the first where this ran out of turns
abbrev pub Keeps : {A : Type 0} → ℕ → Outcome A → Outcome A → Type 0
Keeps d (Normal a s) o = o ≡ Normal a (more d s)
Keeps d (Abrupt c s) o = o ≡ Abrupt c (more d s)
Keeps d (OutOfTurns s) o = Extends s o
Keeps d (GoesWrong s) o = o ≡ GoesWrong (more d s)

keeps_resolved : {A B : Type 0} (d : ℕ) (o q : Outcome A) → Keeps d o q → (h i : A → Eval B) → (k l : AbruptCause → Eval B) → ((a : A) (s : State) → Keeps d (h a s) (i a (more d s))) → ((c : AbruptCause) (s : State) → Keeps d (k c s) (l c (more d s))) → ((a : A) (t : State) → Extends t (i a t)) → ((c : AbruptCause) (t : State) → Extends t (l c t)) → Keeps d (resolve_outcome o h k) (resolve_outcome q i l)
keeps_resolved d (Normal a s) q e h i k l m n x y = subst (λ z. Keeps d (h a s) (resolve_outcome z i l)) (sym e) (m a s)
keeps_resolved d (Abrupt c s) q e h i k l m n x y = subst (λ z. Keeps d (k c s) (resolve_outcome z i l)) (sym e) (n c s)
keeps_resolved d (OutOfTurns s) q e h i k l m n x y = extends_resolved s q i l e x y
keeps_resolved d (GoesWrong s) q e h i k l m n x y = ap (λ z. resolve_outcome z i l) e

keeps_turned : {A : Type 0} (n : ℕ) (f g : Eval A) (d : ℕ) (s : State) → ((t : State) → Keeps d (f t) (g (more d t))) → ((t : State) → Extends t (g t)) → Keeps d (take_turn n f s) (take_turn (n + d) g (more d s))
keeps_turned zero f g d s e x = extends_turned (0 + d) g (more d s) x
keeps_turned (suc n) f g d s e x =
    let same : suc (n + d) ≡ suc n + d = omega arith in
    subst (λ k. Keeps d (f (record s { turns = n })) (take_turn k g (more d s))) same (e (record s { turns = n }))

pub keeps : {level : ℕ} {A : Type 0} {f g : Eval A} → AlikeIn level A f g → (d : ℕ) (s : State) → Keeps d (f s) (g (more d s))
unfolding resolve
keeps (resolves {f = f} {g = g} {h = h} {i = i} {k = k} {l = l} a b c) d s =
    keeps_resolved d (f s) (g (more d s)) (keeps a d s) h i k l (λ x t. keeps (b x) d t) (λ x t. keeps (c x) d t) (λ x t. extends (b x) t) (λ x t. extends (c x) t)
keeps (stops c) d s = refl
keeps sticks d s = refl
keeps (moves see next a b c e) d s = ap (λ x. Normal x (next (more d s))) (a d s) ∙ ap (Normal (see s)) (b d s)
keeps (puts bytes next a b c) d s = ap (Normal tt) (a d s)
keeps (turns {f = f} {g = g} a) d s = keeps_turned s.turns f g d s (keeps a d) (extends a)
keeps (turns_alone {f = f} {g = g} a) d s = keeps_turned s.turns f g d s (keeps a d) (extends a)
keeps ends d s = same_prefix _ _ refl
keeps (ends_first a) d s = extends a (more d s)

-- ---- out of turns

-- the outcome of a step from s has no more turns, and none where it ran out of them
abbrev pub IsFair : {A : Type 0} → State → Outcome A → Type 0
IsFair s (Normal a t) = t.turns ≤ s.turns
IsFair s (Abrupt c t) = t.turns ≤ s.turns
IsFair s (OutOfTurns t) = t.turns ≡ 0
IsFair s (GoesWrong t) = t.turns ≤ s.turns

fair_from : {A : Type 0} (s t : State) (o : Outcome A) → t.turns ≤ s.turns → IsFair t o → IsFair s o
fair_from s t (Normal a u) h k = omega (arith, h, k)
fair_from s t (Abrupt c u) h k = omega (arith, h, k)
fair_from s t (OutOfTurns u) h k = k
fair_from s t (GoesWrong u) h k = omega (arith, h, k)

fair_resolved : {A B : Type 0} (n : ℕ) (s : State) (o : Outcome A) (h : A → Eval B) (k : AbruptCause → Eval B) → s.turns ≤ n → IsFair s o → ((a : A) (t : State) → t.turns ≤ n → IsFair t (h a t)) → ((c : AbruptCause) (t : State) → t.turns ≤ n → IsFair t (k c t)) → IsFair s (resolve_outcome o h k)
fair_resolved n s (Normal a t) h k l e x y = fair_from s t (h a t) e (x a t (omega (arith, l, e)))
fair_resolved n s (Abrupt c t) h k l e x y = fair_from s t (k c t) e (y c t (omega (arith, l, e)))
fair_resolved n s (OutOfTurns t) h k l e x y = e
fair_resolved n s (GoesWrong t) h k l e x y = e

fair_turned : {A : Type 0} (m n : ℕ) (f : Eval A) (s : State) → s.turns ≡ m → m ≤ suc n → ((t : State) → t.turns ≤ n → IsFair t (f t)) → IsFair s (take_turn m f s)
fair_turned zero n f s e l x = e
fair_turned (suc m) n f s e l x = fair_from s (record s { turns = m }) _ (omega (arith, e)) (x (record s { turns = m }) (omega (arith, l)))

-- at a level no less than its turns, a step that is out of turns has none left
pub fair : {level : ℕ} {A : Type 0} {f g : Eval A} → AlikeIn level A f g → (s : State) → s.turns ≤ level → IsFair s (f s)
unfolding resolve
fair {level} (resolves {f = f} {h = h} {k = k} a b c) s l = fair_resolved level s (f s) h k l (fair a s l) (λ x t. fair (b x) t) (λ x t. fair (c x) t)
fair (stops c) s l = omega arith
fair sticks s l = omega arith
fair (moves see next a b c e) s l = omega (arith, c s)
fair (puts bytes next a b c) s l = omega (arith, b s)
fair (turns {level = n} {f = f} a) s l = fair_turned s.turns n f s refl l (fair a)
fair {level} (turns_alone {f = f} a) s l = fair_turned s.turns level f s refl (omega (arith, l)) (fair a)
fair ends s l = omega (arith, l)
fair (ends_first a) s l = omega (arith, l)
