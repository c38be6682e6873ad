-- What is written after what, by the grammar of formats.
use Rattle.std.proofs.Common.{◌≡◌, ℕ, List, [], ◌∷◌, ◌++◌, length, map, Result, Ok, OnOk, refl, sym, ap, subst, ◌∙◌, append_assoc, inl}
use Rattle.std.proofs.lemmas.List.{append-nil, length-map}
use Rattle.std.proofs.lemmas.Result.{on_ok_weaker}
use Rattle.std.specs.Global.{Vec}
use Rattle.std.specs.List.{FoldsTo}
use denote.Ref.{Bor, MutBor}
use Rattle.failure.specs.declared.no_memory.NoMemory.{NoMemory}
use Rattle.wa_syntax.specs.Leb128.{Appends}
use Rattle.wa_syntax.specs.Formats.{Format, ◌then◌, exactly, each, vec, byte, u32}
use Rattle.wa_encode.proofs.Orders.{of_parts, unsigned_is}
use Rattle.wa_encode.specs.Spelling.{Extends, IsLeast, Adds, IsNumber, Leaves, AddsVector}

-- another format of the same bytes
pub Adds-as : {A : Format} {old new : List ℕ} (B : Format) → ((other : List ℕ) → B other → A other) → ((bytes : List ℕ) → A bytes → B bytes) → Adds A old new → Adds B old new
Adds-as {A} {old} {new} B from to h = record {
  bytes = h.bytes;
  least = λ other spelled.
      let found = h.least other (from other spelled) in
      (to h.bytes found.0, found.1);
  is = h.is;
}

-- a format of no bytes
pub Adds-never : {A : Format} {old new : List ℕ} (B : Format) → ((other : List ℕ) → B other → ⊥) → Adds A old new → Adds B old new
Adds-never {A} {old} {new} B never h = record {
  bytes = h.bytes;
  least = λ other spelled. absurd (never other spelled);
  is = h.is;
}

-- the very bytes
pub Adds-exactly : (wanted old new : List ℕ) → new ≡ old ++ wanted → Adds (exactly wanted) old new
Adds-exactly wanted old new is = record {
  bytes = wanted;
  least = λ other same. (refl, inl same);
  is = is;
}

pub Adds-byte : (b : ℕ) (old new : List ℕ) → new ≡ old ++ b ∷ [] → Adds (byte b) old new
Adds-byte b old new is = Adds-exactly (b ∷ []) old new is

pub Adds-nothing : (old : List ℕ) → Adds (exactly []) old old
Adds-nothing old = Adds-exactly [] old old (sym (append-nil old))

-- the one, and after it the other
pub Adds-then : {A B : Format} {old middle new : List ℕ} → Adds A old middle → Adds B middle new → Adds (A then B) old new
Adds-then {A} {B} {old} {middle} {new} a b = record {
  bytes = a.bytes ++ b.bytes;
  least = λ other h.
      let front = a.least h.0 h.3 in
      let back = b.least h.1 h.4 in
      ((a.bytes, b.bytes, refl, front.0, back.0), of_parts a.bytes b.bytes h.0 h.1 other h.2 front.1 back.1);
  is = b.is ∙ ap (λ (list : List ℕ). list ++ b.bytes) a.is ∙ append_assoc old a.bytes b.bytes;
}

-- a third one after two
pub Adds-following : {A B C : Format} {old middle new : List ℕ} → Adds (A then B) old middle → Adds C middle new → Adds (A then B then C) old new
Adds-following {A} {B} {C} {old} {middle} {new} ab c =
    Adds-as {A = (A then B) then C} (A then B then C)
    (λ other h. (h.0 ++ h.4.0, h.4.1, h.2 ∙ ap (λ (back : List ℕ). h.0 ++ back) h.4.2 ∙ sym (append_assoc h.0 h.4.0 h.4.1), (h.0, h.4.0, refl, h.3, h.4.3), h.4.4))
    (λ bytes h. (h.3.0, h.3.1 ++ h.1, h.2 ∙ ap (λ (front : List ℕ). front ++ h.1) h.3.2 ∙ append_assoc h.3.0 h.3.1 h.1, h.3.3, (h.3.1, h.1, refl, h.3.4, h.4)))
    (Adds-then ab c)

-- the last call's answer is returned as it is
pub Adds-last : {T E : Type 0} {A : Format} {old middle : List ℕ} (r : Result T E) (B : Format) (new : List ℕ) → Adds A old middle → OnOk r (Adds B middle new) → OnOk r (Adds (A then B) old new)
Adds-last r B new a = on_ok_weaker r (λ b. Adds-then a b)

-- a number
pub Adds-u32 : (n : ℕ) (old new : List ℕ) → Appends IsNumber old new n → Adds (u32 n) old new
Adds-u32 n old new h = record {
  bytes = h.0;
  least = λ other spelled. (h.1.spelling, unsigned_is 32 h.0 other n h.1 spelled);
  is = h.2;
}

-- values one after another, each by a step
pub Adds-each : {V : Type 0} (B : V → Format) (Step : List ℕ → V → List ℕ → Type 0) (vs : List V) (old new : List ℕ) → ((before : List ℕ) (v : V) (after : List ℕ) → Step before v after → Adds (B v) before after) → FoldsTo Step old vs new → Adds (each B vs) old new
Adds-each B Step [] old new step h = subst (λ (end : List ℕ). Adds (exactly []) old end) h (Adds-nothing old)
Adds-each B Step (v ∷ vs) old new step h = Adds-then (step old v h.0 h.1) (Adds-each B Step vs h.0 new step h.2)

pub Adds-each-map : {V W : Type 0} (B : W → Format) (f : V → W) (Step : List ℕ → V → List ℕ → Type 0) (vs : List V) (old new : List ℕ) → ((before : List ℕ) (v : V) (after : List ℕ) → Step before v after → Adds (B (f v)) before after) → FoldsTo Step old vs new → Adds (each B (map f vs)) old new
Adds-each-map B f Step [] old new step h = subst (λ (end : List ℕ). Adds (exactly []) old end) h (Adds-nothing old)
Adds-each-map B f Step (v ∷ vs) old new step h = Adds-then (step old v h.0 h.1) (Adds-each-map B f Step vs h.0 new step h.2)

-- a vector
pub Adds-vec : {V : Type 0} (B : V → Format) (Step : List ℕ → V → List ℕ → Type 0) (vs : List V) (old new : List ℕ) → ((before : List ℕ) (v : V) (after : List ℕ) → Step before v after → Adds (B v) before after) → AddsVector Step old new vs → Adds (vec B vs) old new
Adds-vec B Step vs old new step h = Adds-then (Adds-u32 (length vs) old h.0 h.1) (Adds-each B Step vs h.0 new step h.2)

pub Adds-vec-map : {V W : Type 0} (B : W → Format) (f : V → W) (Step : List ℕ → V → List ℕ → Type 0) (vs : List V) (old new : List ℕ) → ((before : List ℕ) (v : V) (after : List ℕ) → Step before v after → Adds (B (f v)) before after) → AddsVector Step old new vs → Adds (vec B (map f vs)) old new
Adds-vec-map B f Step vs old new step h =
    let count : Appends IsNumber old h.0 (length (map f vs)) = subst (λ (n : ℕ). Appends IsNumber old h.0 n) (sym (length-map vs f)) h.1 in
    Adds-then (Adds-u32 (length (map f vs)) old h.0 count) (Adds-each-map B f Step vs h.0 new step h.2)

-- each by a call
pub Adds-called : {V : Type 0} (B : V → Format) (post : MutBor (Vec ℕ) → Bor V → Result (Unit {0}) NoMemory → MutBor (Vec ℕ) → Type 0) → ((old : MutBor (Vec ℕ)) (shown : Bor V) (new : MutBor (Vec ℕ)) → post old shown (Ok tt) new → Adds (B shown.now) old.now.items new.now.items) → (before : List ℕ) (v : V) (after : List ℕ) → Leaves post before v after → Adds (B v) before after
Adds-called {V} B post adds before v after h =
    subst (λ (end : List ℕ). Adds (B v) before end) h.is_after
    (subst (λ (begin : List ℕ). Adds (B v) begin h.new.now.items) h.is_before
    (subst (λ (x : V). Adds (B x) h.old.now.items h.new.now.items) h.is_v
    (adds h.old h.shown h.new h.called)))

pub Adds-vec-called : {V : Type 0} (B : V → Format) (post : MutBor (Vec ℕ) → Bor V → Result (Unit {0}) NoMemory → MutBor (Vec ℕ) → Type 0) (given vs : List V) (old new : List ℕ) → given ≡ vs → ((old : MutBor (Vec ℕ)) (shown : Bor V) (new : MutBor (Vec ℕ)) → post old shown (Ok tt) new → Adds (B shown.now) old.now.items new.now.items) → AddsVector (Leaves post) old new given → Adds (vec B vs) old new
Adds-vec-called {V} B post given vs old new same adds h =
    subst (λ (all : List V). Adds (vec B all) old new) same (Adds-vec B (Leaves post) given old new (Adds-called B post adds) h)

-- from and to equal lists
pub Adds-between : {B : Format} {old new : List ℕ} (begun ended : List ℕ) → old ≡ begun → new ≡ ended → Adds B old new → Adds B begun ended
Adds-between {B} {old} {new} begun ended from to h = record {
  bytes = h.bytes;
  least = h.least;
  is = sym to ∙ h.is ∙ ap (λ (front : List ℕ). front ++ h.bytes) from;
}

pub Extends-from_Adds : {B : Format} {old new : List ℕ} (begun : List ℕ) → old ≡ begun → Adds B old new → Extends begun new
Extends-from_Adds {B} {old} {new} begun from h = (h.bytes, h.is ∙ ap (λ (front : List ℕ). front ++ h.bytes) from)

pub IsLeast-from_Adds : (B : Format) (new : List ℕ) → Adds B [] new → IsLeast B new
IsLeast-from_Adds B new h = subst (IsLeast B) (sym h.is) h.least
