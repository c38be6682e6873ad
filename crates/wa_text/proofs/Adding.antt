-- What is written after what, by the grammar of forms.
use Rattle.std.proofs.Common.{◌≡◌, ℕ, List, [], ◌∷◌, ◌++◌, Result, Ok, OnOk, sym, ap, subst, ◌∙◌, append_assoc}
use Rattle.std.proofs.lemmas.List.{append-nil}
use Rattle.std.proofs.lemmas.List.Concat.{flat_map-append}
use Rattle.std.proofs.lemmas.Result.{on_ok_weaker}
use Rattle.std.specs.Prelude.{flat_map}
use Rattle.std.specs.Global.{Vec}
use Rattle.std.specs.List.{FoldsTo, join_with_byte}
use denote.Ref.{Bor, MutBor}
use Rattle.failure.specs.declared.no_memory.NoMemory.{NoMemory}
use Rattle.wa_text.specs.Forms.{Form, nothing, ◌then◌, each}
use Rattle.wa_text.specs.Words.{Word, line, word}
use Rattle.wa_text.specs.Writing.{Adds, AddsWords, AddsLines, Leaves, following}

-- what holds of the same items by another form
pub Adds-as : {X : Type 0} {show : X → List ℕ} {A : Form X} {old new : List ℕ} (B : Form X) → ((other : List X) → B other → A other) → Adds show A old new → Adds show B old new
Adds-as {X} {show} {A} {old} {new} B from h = record {
  items = h.items;
  only = λ other spelled. h.only other (from other spelled);
  is = h.is;
}

-- nothing is written where no items are of the form
pub Adds-never : {X : Type 0} {show : X → List ℕ} (B : Form X) (old : List ℕ) → ((other : List X) → B other → ⊥) → Adds show B old old
Adds-never B old never = record {
  items = [];
  only = λ other spelled. absurd (never other spelled);
  is = sym (append-nil old);
}

pub Adds-nothing : {X : Type 0} {show : X → List ℕ} (old : List ℕ) → Adds show nothing old old
Adds-nothing old = record { items = []; only = λ other none. none; is = sym (append-nil old) }

-- one item
pub Adds-one : {X : Type 0} {show : X → List ℕ} (F : Form X) (x : X) (old new : List ℕ) → ((other : List X) → F other → other ≡ x ∷ []) → new ≡ old ++ show x → Adds show F old new
Adds-one {X} {show} F x old new only is = record {
  items = x ∷ [];
  only = only;
  is = is ∙ ap (λ (more : List ℕ). old ++ more) (sym (append-nil (show x)));
}

-- the one, and after it the other
pub Adds-then : {X : Type 0} {show : X → List ℕ} {A B : Form X} {old middle new : List ℕ} → Adds show A old middle → Adds show B middle new → Adds show (A then B) old new
Adds-then {X} {show} {A} {B} {old} {middle} {new} a b = record {
  items = a.items ++ b.items;
  only = λ other h. h.2 ∙ ap (λ (front : List X). front ++ h.1) (a.only h.0 h.3) ∙ ap (λ (back : List X). a.items ++ back) (b.only h.1 h.4);
  is = b.is
      ∙ ap (λ (text : List ℕ). text ++ flat_map show b.items) a.is
      ∙ append_assoc old (flat_map show a.items) (flat_map show b.items)
      ∙ ap (λ (more : List ℕ). old ++ more) (sym (flat_map-append show a.items b.items));
}

-- the last call's answer is returned as it is
pub Adds-last : {X : Type 0} {show : X → List ℕ} {T E : Type 0} {A : Form X} {old middle : List ℕ} (r : Result T E) (B : Form X) (new : List ℕ) → Adds show A old middle → OnOk r (Adds show B middle new) → OnOk r (Adds show (A then B) old new)
Adds-last r B new a = on_ok_weaker r (λ b. Adds-then a b)

-- ---- words and lines

joined : (w : Word) (words : List Word) → join_with_byte 32 (w ∷ words) ≡ w ++ flat_map following words
joined w [] = sym (append-nil w)
joined w (v ∷ words) = ap (λ (rest : List ℕ). w ++ 32 ∷ rest) (joined v words)

pub Adds-word : (w : Word) (old new : List ℕ) → new ≡ old ++ 32 ∷ w → AddsWords (word w) old new
Adds-word w old new is = Adds-one (word w) w old new (λ other same. same) is

-- a line of one word
pub Adds-word_line : (F : Form Word) (w : Word) (old begun new : List ℕ) → ((other : List Word) → F other → other ≡ w ∷ []) → begun ≡ old ++ w → new ≡ begun ++ 10 ∷ [] → AddsLines (line F) old new
Adds-word_line F w old begun new only begins ends =
    Adds-one (line F) (w ∷ []) old new (λ other h. h.2 ∙ ap (λ (words : List Word). words ∷ []) (only h.0 h.1)) (ends ∙ ap (λ (text : List ℕ). text ++ 10 ∷ []) begins ∙ append_assoc old w (10 ∷ []))

-- a line of a word, and words of a form after it
pub Adds-line : (A B : Form Word) (w : Word) (old begun middle new : List ℕ) → ((other : List Word) → A other → other ≡ w ∷ []) → begun ≡ old ++ w → AddsWords B begun middle → new ≡ middle ++ 10 ∷ [] → AddsLines (line (A then B)) old new
Adds-line A B w old begun middle new only begins h ends =
    Adds-one (line (A then B)) (w ∷ h.items) old new
    (λ other k. k.2 ∙ ap (λ (words : List Word). words ∷ []) (k.1.2 ∙ ap (λ (front : List Word). front ++ k.1.1) (only k.1.0 k.1.3) ∙ ap (λ (back : List Word). w ∷ back) (h.only k.1.1 k.1.4)))
    (ends
    ∙ ap (λ (text : List ℕ). text ++ 10 ∷ []) (h.is ∙ ap (λ (text : List ℕ). text ++ flat_map following h.items) begins ∙ append_assoc old w (flat_map following h.items) ∙ ap (λ (text : List ℕ). old ++ text) (sym (joined w h.items)))
    ∙ append_assoc old (join_with_byte 32 (w ∷ h.items)) (10 ∷ []))

pub Ok-line : {T E : Type 0} (r : Result T E) (w : Word) (B : Form Word) (old begun middle new : List ℕ) → begun ≡ old ++ w → AddsWords B begun middle → OnOk r (new ≡ middle ++ 10 ∷ []) → OnOk r (AddsLines (line (word w then B)) old new)
Ok-line r w B old begun middle new begins h = on_ok_weaker r (λ ends. Adds-line (word w) B w old begun middle new (λ other same. same) begins h ends)

-- ---- values one after another, each by a step

pub Adds-each : {X V : Type 0} {show : X → List ℕ} (F : V → Form X) (Step : List ℕ → V → List ℕ → Type 0) (vs : List V) (old new : List ℕ) → ((before : List ℕ) (v : V) (after : List ℕ) → Step before v after → Adds show (F v) before after) → FoldsTo Step old vs new → Adds show (each F vs) old new
Adds-each {X} {V} {show} F Step [] old new step h = subst (λ (end : List ℕ). Adds show (each F []) old end) h (Adds-nothing old)
Adds-each {X} {V} {show} F Step (v ∷ vs) old new step h = Adds-then (step old v h.0 h.1) (Adds-each F Step vs h.0 new step h.2)

-- each by a call
pub Adds-called : {X V : Type 0} {show : X → List ℕ} (F : V → Form X) (post : MutBor (Vec ℕ) → Bor V → Result (Unit {0}) NoMemory → MutBor (Vec ℕ) → Type 0) → ((old : MutBor (Vec ℕ)) (shown : Bor V) (new : MutBor (Vec ℕ)) → post old shown (Ok tt) new → Adds show (F shown.now) old.now.items new.now.items) → (before : List ℕ) (v : V) (after : List ℕ) → Leaves post before v after → Adds show (F v) before after
Adds-called {X} {V} {show} F post adds before v after h =
    subst (λ (end : List ℕ). Adds show (F v) before end) h.is_after
    (subst (λ (begin : List ℕ). Adds show (F v) begin h.new.now.items) h.is_before
    (subst (λ (x : V). Adds show (F x) h.old.now.items h.new.now.items) h.is_v
    (adds h.old h.shown h.new h.called)))

pub Adds-each-called : {X V : Type 0} {show : X → List ℕ} (F : V → Form X) (post : MutBor (Vec ℕ) → Bor V → Result (Unit {0}) NoMemory → MutBor (Vec ℕ) → Type 0) (given vs : List V) (old new : List ℕ) → given ≡ vs → ((old : MutBor (Vec ℕ)) (shown : Bor V) (new : MutBor (Vec ℕ)) → post old shown (Ok tt) new → Adds show (F shown.now) old.now.items new.now.items) → FoldsTo (Leaves post) old given new → Adds show (each F vs) old new
Adds-each-called {X} {V} {show} F post given vs old new same adds h =
    subst (λ (all : List V). Adds show (each F all) old new) same (Adds-each F (Leaves post) given old new (Adds-called F post adds) h)
