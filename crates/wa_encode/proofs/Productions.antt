-- How what is written for the parts of a production makes the production.
use Rattle.std.proofs.Common.{◌≡◌, ◌≢◌, ℕ, zero, suc, ◌+◌, ◌≤◌, Option, List, [], ◌∷◌, ◌++◌, length, map, Result, Ok, OnOk, refl, sym, ap, subst, ◌∙◌, append_assoc, inl, inr, arith}
use Rattle.std.proofs.lemmas.List.{append-nil, length-append, length-map}
use Rattle.std.proofs.lemmas.Result.{on_ok_weaker}
use Rattle.std.specs.Global.{Vec}
use Rattle.std.specs.Str.{IsUtf8}
use denote.Ref.{Bor, MutBor}
use Rattle.failure.specs.declared.no_memory.NoMemory.{NoMemory}
use Rattle.wa_syntax.specs.declared.module.Module.{Module}
use Rattle.wa_syntax.specs.declared.module.ValTy.{ValTy}
use Rattle.wa_syntax.specs.declared.instr.Instr.{Instr, out-Instr}
use Rattle.wa_syntax.specs.declared.instr.Instr.TheOpen.{Instr-F}
use Rattle.wa_syntax.specs.declared.instr.Instr.TheVariants as variant
use Rattle.wa_syntax.specs.declared.instr.Instr.TheViews.{roll-Instr, out-roll-Instr}
use Rattle.wa_syntax.specs.Leb128.{IsUnsigned, Appends}
use Rattle.wa_syntax.specs.Formats.{Format, ◌then◌, each, vec, byte, name, sized}
use Rattle.wa_syntax.specs.BinaryInstructions.{IsBare, plain, conditional, instr_over, instr, blocktype}
use Rattle.wa_syntax.specs.Binary.{section, vecsec, customs, magic, version, SpellsModule}
use Rattle.wa_encode.specs.Spelling.{IsLeast, Adds, IsNumber, IsCounted, IsSection, Leaves, AddsVector, AddsVectorSection, else_end, sections}
use Rattle.wa_encode.proofs.Adding.{Adds-as, Adds-never, Adds-exactly, Adds-byte, Adds-then, Adds-following, Adds-u32, Adds-called, Adds-vec-called, Adds-vec-map, IsLeast-from_Adds}
use Rattle.wa_encode.proofs.Numbers.{shorter}
use Rattle.wa_encode.proofs.Orders.{IsOrFewer, no_more, of_none, of_parts, unsigned_is}

-- what is true of the value beside what is written
pub Adds-given : {B : Format} {old new : List ℕ} (P : Type 0) → Adds B old new → Adds (λ bytes. P × B bytes) old new
Adds-given {B} {old} {new} P h = record {
  bytes = h.bytes;
  least = λ other spelled.
      let found = h.least other spelled.1 in
      ((spelled.0, found.0), found.1);
  is = h.is;
}

-- ---- bytes

Adds-each-bytes : (text old new : List ℕ) → new ≡ old ++ text → Adds (each byte text) old new
Adds-each-bytes [] old new is = Adds-exactly [] old new is
Adds-each-bytes (b ∷ text) old new is =
    Adds-then (Adds-byte b old (old ++ b ∷ []) refl) (Adds-each-bytes text (old ++ b ∷ []) new (is ∙ sym (append_assoc old (b ∷ []) text)))

pub Adds-bytes : (text old new : List ℕ) → Appends IsCounted old new text → Adds (vec byte text) old new
Adds-bytes text old new h =
    let count : Appends IsNumber old (old ++ h.1.0) (length text) = (h.1.0, h.1.1, refl) in
    let is : new ≡ (old ++ h.1.0) ++ text = h.2 ∙ ap (λ (more : List ℕ). old ++ more) h.1.2 ∙ sym (append_assoc old h.1.0 text) in
    Adds-then (Adds-u32 (length text) old (old ++ h.1.0) count) (Adds-each-bytes text (old ++ h.1.0) new is)

pub Adds-bytes_of : (given text old new : List ℕ) → given ≡ text → Appends IsCounted old new given → Adds (vec byte text) old new
Adds-bytes_of given text old new same h =
    subst (λ (all : List ℕ). Adds (vec byte all) old new) same (Adds-bytes given old new h)

pub Adds-name : (text old new : List ℕ) → Appends IsCounted old new text → Adds (name text) old new
Adds-name text old new h = Adds-given (IsUtf8 text) (Adds-bytes text old new h)

-- what was written elsewhere, after its length
pub Adds-sized : (B : Format) (content old new : List ℕ) → Adds B [] content → Appends IsCounted old new content → Adds (sized B) old new
Adds-sized B content old new written h = record {
  bytes = h.0;
  least = λ other spelled.
      let found = IsLeast-from_Adds B content written spelled.0 spelled.1 in
      let count = shorter 32 spelled.2.0 (length spelled.0) (length content) spelled.2.3 (no_more content spelled.0 found.1) in
      let bytes_are : length h.0 ≡ length h.1.0 + length content = ap length h.1.2 ∙ length-append h.1.0 content in
      let other_is : length other ≡ length spelled.2.0 + length spelled.2.1 = ap length spelled.2.2 ∙ length-append spelled.2.0 spelled.2.1 in
      let content_is : length spelled.2.1 ≡ length spelled.0 = ap length spelled.2.4 in
      let order : IsOrFewer h.0 other = elim (found.1) [
        | inl same ↦
            let counted = subst (λ (n : ℕ). IsUnsigned 32 spelled.2.0 n) (ap length same) spelled.2.3 in
            let front = unsigned_is 32 h.1.0 spelled.2.0 (length content) h.1.1 counted in
            subst (λ (bytes : List ℕ). IsOrFewer bytes other) (sym h.1.2) (of_parts h.1.0 content spelled.2.0 spelled.2.1 other spelled.2.2 front (inl (spelled.2.4 ∙ same)))
        | inr less ↦
            inr (omega (arith, bytes_are, other_is, content_is, less, count.few, h.1.1.least count.bytes count.spelled))
      ] in
      ((content, found.0, (h.1.0, content, h.1.2, h.1.1.spelling, refl)), order);
  is = h.2;
}

-- ---- sections

pub Adds-section : (id : ℕ) (B : Format) (content old new : List ℕ) → Adds B [] content → Appends (IsSection id) old new content → Adds (section id B) old new
Adds-section id B content old new written h =
    let is : new ≡ (old ++ id ∷ []) ++ h.1.0 = h.2 ∙ ap (λ (more : List ℕ). old ++ more) h.1.2 ∙ sym (append_assoc old (id ∷ []) h.1.0) in
    Adds-then (Adds-byte id old (old ++ id ∷ []) refl) (Adds-sized B content (old ++ id ∷ []) new written (h.1.0, h.1.1, is))

nothing : {V : Type 0} (vs : List V) → length vs ≡ 0 → vs ≡ []
nothing [] none = refl
nothing (v ∷ vs) none = absurd (omega arith)

pub Adds-vecsec : {V W : Type 0} (id : ℕ) (B : W → Format) (Step : List ℕ → V → List ℕ → Type 0) (ws : List W) (vs : List V) (old new : List ℕ) → length ws ≡ length vs → ((content : List ℕ) → AddsVector Step [] content vs → Adds (vec B ws) [] content) → AddsVectorSection Step id old new vs → Adds (vecsec id B ws) old new
Adds-vecsec id B Step ws vs old new many written h = elim h [
  | inl none ↦
      let empty : length vs ≡ 0 = ap length none.0 in
      record {
        bytes = [];
        least = λ other spelled. (inl (nothing ws (many ∙ empty), refl), of_none other);
        is = none.1 ∙ sym (append-nil old);
      }
  | inr some ↦
      let found = Adds-section id (vec B ws) some.0 old new (written some.0 some.2) some.3 in
      record {
        bytes = found.bytes;
        least = λ other spelled. elim spelled [
          | inl none ↦
              absurd (let empty : length ws ≡ 0 = ap length none.0 in
              omega (arith, some.1, many))
          | inr there ↦
              let least = found.least other there in
              (inr least.0, least.1)
        ];
        is = found.is;
      }
]

-- each entry by a call
pub Adds-vecsec-called : {V : Type 0} (id : ℕ) (B : V → Format) (post : MutBor (Vec ℕ) → Bor V → Result (Unit {0}) NoMemory → MutBor (Vec ℕ) → Type 0) (given vs : List V) (old new : List ℕ) → given ≡ vs → ((old : MutBor (Vec ℕ)) (shown : Bor V) (new : MutBor (Vec ℕ)) → post old shown (Ok tt) new → Adds (B shown.now) old.now.items new.now.items) → AddsVectorSection (Leaves post) id old new given → Adds (vecsec id B vs) old new
Adds-vecsec-called {V} id B post given vs old new same adds h =
    subst (λ (all : List V). Adds (vecsec id B all) old new) same (Adds-vecsec id B (Leaves post) given given old new refl (λ content written. Adds-vec-called B post given given [] content refl adds written) h)

pub Adds-vecsec-map : {V W : Type 0} (id : ℕ) (B : W → Format) (f : V → W) (post : MutBor (Vec ℕ) → Bor V → Result (Unit {0}) NoMemory → MutBor (Vec ℕ) → Type 0) (given vs : List V) (old new : List ℕ) → given ≡ vs → ((old : MutBor (Vec ℕ)) (shown : Bor V) (new : MutBor (Vec ℕ)) → post old shown (Ok tt) new → Adds (B (f shown.now)) old.now.items new.now.items) → AddsVectorSection (Leaves post) id old new given → Adds (vecsec id B (map f vs)) old new
Adds-vecsec-map {V} {W} id B f post given vs old new same adds h =
    subst (λ (all : List V). Adds (vecsec id B (map f all)) old new) same (Adds-vecsec id B (Leaves post) (map f given) given old new (length-map given f) (λ content written. Adds-vec-map B f (Leaves post) given [] content (Adds-called (λ v. B (f v)) post adds) written) h)

pub Adds-customs : (old : List ℕ) → Adds customs old old
Adds-customs old = record {
  bytes = [];
  least = λ other spelled. (([], refl), of_none other);
  is = sym (append-nil old);
}

-- ---- instructions

pub Adds-plain : (op : ℕ) (old new : List ℕ) → op ≢ 63 → op ≢ 64 → Adds (byte op) old new → Adds (plain op) old new
Adds-plain op old new not_size not_grow h = record {
  bytes = h.bytes;
  least = λ other spelled. elim spelled [
    | inl bare ↦
        let found = h.least other bare.1 in
        (inl (bare.0, found.0), found.1)
    | inr memory ↦ absurd (omega (arith, memory.0.0, memory.0.1))
  ];
  is = h.is;
}

not_bare : (op : ℕ) → 63 ≤ op → op ≤ 64 → IsBare op → ⊥
not_bare op from to h = elim h [
  | inl a ↦ omega (arith, a.1)
  | inr h ↦ elim h [
    | inl b ↦ omega (arith, b)
    | inr h ↦ elim h [
      | inl c ↦ omega (arith, c.1)
      | inr h ↦ elim h [
        | inl d ↦ omega (arith, d.0)
        | inr h ↦ elim h [
          | inl e ↦ omega (arith, e.0)
          | inr h ↦ elim h [ inl f ↦ omega (arith, f) | inr g ↦ omega (arith, g.0) ]
        ]
      ]
    ]
  ]
]

pub Adds-plain-memory : (op : ℕ) (old new : List ℕ) → 63 ≤ op → op ≤ 64 → Adds (byte op then byte 0x00) old new → Adds (plain op) old new
Adds-plain-memory op old new from to h = record {
  bytes = h.bytes;
  least = λ other spelled. elim spelled [
    | inl bare ↦ absurd (not_bare op from to bare.0)
    | inr memory ↦
        let found = h.least other memory.1 in
        (inr (memory.0, found.0), found.1)
  ];
  is = h.is;
}

-- the end of an `if`, with no other branch
pub Adds-no_else : (Body : List Instr → Format) (branch : List Instr) (old new : List ℕ) → branch ≡ [] → Adds (byte 0x0b) old new → Adds (else_end Body branch) old new
Adds-no_else Body branch old new empty h = record {
  bytes = h.bytes;
  least = λ other spelled. elim spelled [
    | inl none ↦
        let found = h.least other none.1 in
        (inl (empty, found.0), found.1)
    | inr some ↦
        let found = h.least some.4.1 some.4.4 in
        let other_is : length other ≡ length some.0 + length some.1 = ap length some.2 ∙ length-append some.0 some.1 in
        let one : length some.0 ≡ 1 = ap length some.3 in
        let rest_is : length some.1 ≡ length some.4.0 + length some.4.1 = ap length some.4.2 ∙ length-append some.4.0 some.4.1 in
        (inl (empty, found.0), inr (omega (arith, no_more h.bytes some.4.1 found.1, one, other_is, rest_is)))
  ];
  is = h.is;
}

pub Adds-else : (Body : List Instr → Format) (branch : List Instr) (old new : List ℕ) → branch ≢ [] → Adds (byte 0x05 then Body branch then byte 0x0b) old new → Adds (else_end Body branch) old new
Adds-else Body branch old new some h = record {
  bytes = h.bytes;
  least = λ other spelled. elim spelled [
    | inl none ↦ absurd (some none.0)
    | inr there ↦
        let found = h.least other there in
        (inr found.0, found.1)
  ];
  is = h.is;
}

pub Adds-conditional : (Body : List Instr → Format) (t : Option ValTy) (body branch : List Instr) (old new : List ℕ) → Adds (byte 0x04 then blocktype t then Body body then else_end Body branch) old new → Adds (conditional Body t body branch) old new
Adds-conditional Body t body branch old new h =
    Adds-as {A = byte 0x04 then blocktype t then Body body then else_end Body branch} (conditional Body t body branch)
    (λ other spelled. elim spelled [
      | inl none ↦
          let b = none.1 in
          (b.0, b.1, b.2, b.3, (b.4.0, b.4.1, b.4.2, b.4.3, (b.4.4.0, b.4.4.1, b.4.4.2, b.4.4.3, inl (none.0, b.4.4.4))))
      | inr b ↦ (b.0, b.1, b.2, b.3, (b.4.0, b.4.1, b.4.2, b.4.3, (b.4.4.0, b.4.4.1, b.4.4.2, b.4.4.3, inr b.4.4.4)))
    ])
    (λ bytes b. elim (b.4.4.4) [
      | inl none ↦ inl (none.0, (b.0, b.1, b.2, b.3, (b.4.0, b.4.1, b.4.2, b.4.3, (b.4.4.0, b.4.4.1, b.4.4.2, b.4.4.3, none.1))))
      | inr some ↦ inr (b.0, b.1, b.2, b.3, (b.4.0, b.4.1, b.4.2, b.4.3, (b.4.4.0, b.4.4.1, b.4.4.2, b.4.4.3, some)))
    ])
    h

-- one layer of an instruction
pub layer_of : (i made : Instr) (layer : Instr-F Instr) → i ≡ made → roll-Instr layer ≡ made → out-Instr i ≡ layer
layer_of i made layer is rolls = ap out-Instr (is ∙ sym rolls) ∙ out-roll-Instr layer

-- an instruction that holds no others
Adds-instr : (i : Instr) (layer : Instr-F Instr) (old new : List ℕ) → out-Instr i ≡ layer → ((Body : List Instr → Format) → Adds (instr_over Body layer) old new) → (levels : ℕ) → Adds (instr levels i) old new
unfolding instr
Adds-instr i layer old new is h zero = subst (λ (l : Instr-F Instr). Adds (instr_over (λ body bytes. ⊥) l) old new) (sym is) (h (λ body bytes. ⊥))
Adds-instr i layer old new is h (suc levels) = subst (λ (l : Instr-F Instr). Adds (instr_over (each (instr levels)) l) old new) (sym is) (h (each (instr levels)))

pub Ok-instr : {T E : Type 0} (r : Result T E) (B : Format) (i made : Instr) (layer : Instr-F Instr) (old new : List ℕ) → i ≡ made → roll-Instr layer ≡ made → ((Body : List Instr → Format) → Adds B old new → Adds (instr_over Body layer) old new) → OnOk r (Adds B old new) → OnOk r ((levels : ℕ) → Adds (instr levels i) old new)
Ok-instr r B i made layer old new is rolls over h =
    on_ok_weaker {P = Adds B old new} {Q = (levels : ℕ) → Adds (instr levels i) old new} r (λ k. Adds-instr i layer old new (layer_of i made layer is rolls) (λ Body. over Body k)) h

-- one that holds others, which none does where no block may be open
pub Adds-holding : (i : Instr) (layer : Instr-F Instr) (old new : List ℕ) → out-Instr i ≡ layer → ((other : List ℕ) → instr_over (λ body bytes. ⊥) layer other → ⊥) → ((levels : ℕ) → Adds (instr_over (each (instr levels)) layer) old new) → (levels : ℕ) → Adds (instr levels i) old new
unfolding instr
Adds-holding i layer old new is never h zero = subst (λ (l : Instr-F Instr). Adds (instr_over (λ body bytes. ⊥) l) old new) (sym is) (Adds-never (instr_over (λ body bytes. ⊥) layer) never (h 0))
Adds-holding i layer old new is never h (suc levels) = subst (λ (l : Instr-F Instr). Adds (instr_over (each (instr levels)) l) old new) (sym is) (h levels)

pub Adds-Block : (i : Instr) (t : Option ValTy) (body : List Instr) (old new : List ℕ) → out-Instr i ≡ Instr-F.Block t body → ((levels : ℕ) → Adds (byte 0x02 then blocktype t then each (instr levels) body then byte 0x0b) old new) → (levels : ℕ) → Adds (instr levels i) old new
Adds-Block i t body old new is h = Adds-holding i (Instr-F.Block t body) old new is (λ other spelled. spelled.4.4.3) h

pub Adds-Loop : (i : Instr) (t : Option ValTy) (body : List Instr) (old new : List ℕ) → out-Instr i ≡ Instr-F.Loop t body → ((levels : ℕ) → Adds (byte 0x03 then blocktype t then each (instr levels) body then byte 0x0b) old new) → (levels : ℕ) → Adds (instr levels i) old new
Adds-Loop i t body old new is h = Adds-holding i (Instr-F.Loop t body) old new is (λ other spelled. spelled.4.4.3) h

pub Adds-If : (i : Instr) (t : Option ValTy) (body branch : List Instr) (old new : List ℕ) → out-Instr i ≡ Instr-F.If t (body, branch) → ((levels : ℕ) → Adds (byte 0x04 then blocktype t then each (instr levels) body then else_end (each (instr levels)) branch) old new) → (levels : ℕ) → Adds (instr levels i) old new
Adds-If i t body branch old new is h =
    Adds-holding i (Instr-F.If t (body, branch)) old new is
    (λ other spelled. elim spelled [ inl none ↦ none.1.4.4.3 | inr some ↦ some.4.4.3 ])
    (λ levels. Adds-conditional (each (instr levels)) t body branch old new (h levels))

-- the answers of the calls
pub Ok-expression : {T E : Type 0} (r : Result T E) (body : List Instr) (old middle new : List ℕ) → ((levels : ℕ) → Adds (each (instr levels) body) old middle) → OnOk r (Adds (byte 0x0b) middle new) → OnOk r ((levels : ℕ) → Adds (each (instr levels) body then byte 0x0b) old new)
Ok-expression r body old middle new h =
    on_ok_weaker {P = Adds (byte 0x0b) middle new} {Q = (levels : ℕ) → Adds (each (instr levels) body then byte 0x0b) old new} r (λ end levels. Adds-then (h levels) end)

pub Ok-no_else : {T E : Type 0} (r : Result T E) (branch : List Instr) (old new : List ℕ) → branch ≡ [] → OnOk r (Adds (byte 0x0b) old new) → OnOk r ((levels : ℕ) → Adds (else_end (each (instr levels)) branch) old new)
Ok-no_else r branch old new empty =
    on_ok_weaker {P = Adds (byte 0x0b) old new} {Q = (levels : ℕ) → Adds (else_end (each (instr levels)) branch) old new} r (λ end levels. Adds-no_else (each (instr levels)) branch old new empty end)

pub Ok-else : {T E : Type 0} (r : Result T E) (branch : List Instr) (old middle new : List ℕ) → branch ≢ [] → Adds (byte 0x05) old middle → OnOk r ((levels : ℕ) → Adds (each (instr levels) branch then byte 0x0b) middle new) → OnOk r ((levels : ℕ) → Adds (else_end (each (instr levels)) branch) old new)
Ok-else r branch old middle new some h =
    on_ok_weaker {P = (levels : ℕ) → Adds (each (instr levels) branch then byte 0x0b) middle new} {Q = (levels : ℕ) → Adds (else_end (each (instr levels)) branch) old new} r (λ end levels. Adds-else (each (instr levels)) branch old new some (Adds-then h (end levels)))

pub Ok-Block : {T E : Type 0} (r : Result T E) (i : Instr) (t : Option ValTy) (given body : List Instr) (old middle new : List ℕ) → i ≡ variant.Block t body → given ≡ body → Adds (byte 0x02 then blocktype t) old middle → OnOk r ((levels : ℕ) → Adds (each (instr levels) given then byte 0x0b) middle new) → OnOk r ((levels : ℕ) → Adds (instr levels i) old new)
Ok-Block r i t given body old middle new is same h =
    on_ok_weaker {P = (levels : ℕ) → Adds (each (instr levels) given then byte 0x0b) middle new} {Q = (levels : ℕ) → Adds (instr levels i) old new} r (λ end.
    Adds-Block i t body old new (layer_of i (variant.Block t body) (Instr-F.Block t body) is (variant.rolls-Block t body))
    (λ levels. subst (λ (instrs : List Instr). Adds (byte 0x02 then blocktype t then each (instr levels) instrs then byte 0x0b) old new) same (Adds-following h (end levels))))

pub Ok-Loop : {T E : Type 0} (r : Result T E) (i : Instr) (t : Option ValTy) (given body : List Instr) (old middle new : List ℕ) → i ≡ variant.Loop t body → given ≡ body → Adds (byte 0x03 then blocktype t) old middle → OnOk r ((levels : ℕ) → Adds (each (instr levels) given then byte 0x0b) middle new) → OnOk r ((levels : ℕ) → Adds (instr levels i) old new)
Ok-Loop r i t given body old middle new is same h =
    on_ok_weaker {P = (levels : ℕ) → Adds (each (instr levels) given then byte 0x0b) middle new} {Q = (levels : ℕ) → Adds (instr levels i) old new} r (λ end.
    Adds-Loop i t body old new (layer_of i (variant.Loop t body) (Instr-F.Loop t body) is (variant.rolls-Loop t body))
    (λ levels. subst (λ (instrs : List Instr). Adds (byte 0x03 then blocktype t then each (instr levels) instrs then byte 0x0b) old new) same (Adds-following h (end levels))))

pub Ok-If : {T E : Type 0} (r : Result T E) (i : Instr) (t : Option ValTy) (arms : List Instr × List Instr) (given other : List Instr) (old middle after new : List ℕ) → i ≡ variant.If t arms → given ≡ arms.0 → other ≡ arms.1 → Adds (byte 0x04 then blocktype t) old middle → ((levels : ℕ) → Adds (each (instr levels) given) middle after) → OnOk r ((levels : ℕ) → Adds (else_end (each (instr levels)) other) after new) → OnOk r ((levels : ℕ) → Adds (instr levels i) old new)
Ok-If r i t arms given other old middle after new is same same_branch h k =
    on_ok_weaker {P = (levels : ℕ) → Adds (else_end (each (instr levels)) other) after new} {Q = (levels : ℕ) → Adds (instr levels i) old new} r (λ end.
    Adds-If i t arms.0 arms.1 old new (layer_of i (variant.If t arms) (Instr-F.If t arms) is (variant.rolls-If t arms))
    (λ levels. subst (λ (instrs : List Instr). Adds (byte 0x04 then blocktype t then each (instr levels) arms.0 then else_end (each (instr levels)) instrs) old new) same_branch
    (subst (λ (instrs : List Instr). Adds (byte 0x04 then blocktype t then each (instr levels) instrs then else_end (each (instr levels)) other) old new) same (Adds-following h (Adds-then (k levels) (end levels))))))

-- ---- the module

pub Adds-module : (m : Module) (begun new : List ℕ) → begun ≡ 0x00 ∷ 0x61 ∷ 0x73 ∷ 0x6d ∷ 0x01 ∷ 0x00 ∷ 0x00 ∷ 0x00 ∷ [] → Adds (sections m) begun new → IsLeast (λ spelling. SpellsModule spelling m) new
Adds-module m begun new is h =
    let first : Adds magic [] (0x00 ∷ 0x61 ∷ 0x73 ∷ 0x6d ∷ []) = Adds-exactly (0x00 ∷ 0x61 ∷ 0x73 ∷ 0x6d ∷ []) [] (0x00 ∷ 0x61 ∷ 0x73 ∷ 0x6d ∷ []) refl in
    let second : Adds version (0x00 ∷ 0x61 ∷ 0x73 ∷ 0x6d ∷ []) begun = Adds-exactly (0x01 ∷ 0x00 ∷ 0x00 ∷ 0x00 ∷ []) (0x00 ∷ 0x61 ∷ 0x73 ∷ 0x6d ∷ []) begun is in
    IsLeast-from_Adds (magic then version then sections m) new (Adds-then first (Adds-then second h))
