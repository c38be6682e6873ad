-- Instructions that hold others, and instructions by their opcode.
use Rattle.std.proofs.Common.{◌≡◌, ℕ, zero, suc, ◌+◌, ◌-◌, ◌<◌, ◌≤◌, List, [], ◌∷◌, ◌++◌, drop, slice_get, slice_range, Option, Some, refl, sym, ap, subst, ◌∙◌, inl, inr, arith}
use Rattle.std.proofs.lemmas.List.{drop_more}
use Rattle.std.proofs.lemmas.List.Folds.{drop_split}
use Rattle.std.proofs.lemmas.Result.{IfOk-weaker, err_from_is_err_and}
use Rattle.std.specs.Prelude.{Result, Ok, Err, IsErrAnd, Bool, false, IsTrue, ◌↔◌}
use Rattle.wa_syntax.specs.declared.instr.Instr.{Instr, out-Instr}
use Rattle.wa_syntax.specs.declared.instr.Instr.TheOpen.{Instr-F}
use Rattle.wa_syntax.specs.declared.instr.Instr.TheViews.{roll-Instr}
use Rattle.wa_syntax.specs.declared.module.ValTy.{ValTy}
use Rattle.wa_syntax.specs.BinaryInstructions.{blocktype, conditional, instr_over, instr}
use Rattle.wa_syntax.specs.Formats.{Format, ◌then◌, each, byte}
use Rattle.wa_decode.specs.declared.fault.DecodeFault.{DecodeFault}
use Rattle.wa_decode.specs.declared.fault.DecodeFault.TheVariants.{NoMemory, Malformed}
use Rattle.wa_decode.specs.Reading.{Spelled, Reads, ReadsUpTo, Passes, Stops, following}
use Rattle.wa_decode.proofs.Arms.{Arm, HasFirst, first_byte}
use Rattle.wa_decode.proofs.Layers.{kind_of, following-none, behind_byte, instr-from, into-plain, no_more}
use Rattle.wa_decode.proofs.OneInstruction.{number, Stands, StopsAt, first_of, the_end, else_end, conditional-parts, instr-goes_on}
use Rattle.wa_decode.proofs.Places.{join, split, slice_range-append, byte_only, slice_get-get_or}
use Rattle.wa_decode.proofs.Reading.{pair, same_pair, after_read, as-ok, as-err}
use Rattle.wa_decode.proofs.Sequences.{GoesOn}
use Rattle.wa_decode.proofs.Tails.{Starts, starts-one, byte_starts}

-- ---- the opcode, and the rest after it

first_slice : (bytes : List ℕ) (at mid end op : ℕ) → Spelled (byte op) bytes at mid → mid ≤ end → slice_range bytes at end ≡ op ∷ slice_range bytes mid end
first_slice bytes at mid end op h forward =
    slice_range-append bytes at mid end h.forward forward ∙ ap (λ (front : List ℕ). front ++ slice_range bytes mid end) h.spelling

left_behind : {V : Type 0} {F : V → Format} {bytes : List ℕ} {at mid to op : ℕ} (w : V) → HasFirst F → Reads byte bytes at (Ok (op, mid)) → Spelled (F w) bytes at to → Spelled (following op F w) bytes mid to
left_behind {F = F} {bytes = bytes} {at = at} {mid = mid} {to = to} {op = op} w first h s =
    let c = first w (slice_range bytes at to) s.spelling in
    let rest = (after_read {w = c.0} h (first_byte w first s)).1 in
    record {
      forward = rest.forward;
      within = s.within;
      spelling = subst (F w) (first_slice bytes at mid to op h.found rest.forward) s.spelling;
    }

pub opcode-ok : {V : Type 0} {F : V → Format} {bytes : List ℕ} {at mid end op : ℕ} {v : V} → HasFirst F → Reads byte bytes at (Ok (op, mid)) → Reads (following op F) bytes mid (Ok (v, end)) → Reads F bytes at (Ok (v, end))
opcode-ok {F = F} {bytes = bytes} {at = at} {mid = mid} {end = end} {op = op} {v = v} first h k = record {
  found = record {
    forward = omega (arith, h.found.forward, k.found.forward);
    within = k.found.within;
    spelling = subst (F v) (sym (first_slice bytes at mid end op h.found k.found.forward)) k.found.spelling;
  };
  complete = λ w to s. k.complete w to (left_behind w first h s);
}

pub opcode-err : {V : Type 0} {F : V → Format} {bytes : List ℕ} {at mid op : ℕ} {e : DecodeFault} → HasFirst F → Reads byte bytes at (Ok (op, mid)) → Reads (following op F) bytes mid (Err e) → Reads F bytes at (Err e)
opcode-err first h k = record { found = tt; complete = λ w to s. k.complete w to (left_behind w first h s) }

-- whatever was read after it
pub opcode-any : {V : Type 0} {F : V → Format} {bytes : List ℕ} {at mid op : ℕ} {r : Result (V × ℕ) DecodeFault} → HasFirst F → Reads byte bytes at (Ok (op, mid)) → Reads (following op F) bytes mid r → Reads F bytes at r
opcode-any {F = F} {bytes = bytes} {at = at} {mid = mid} {op = op} {r = r} first h k = record {
  found = IfOk-weaker r (λ read. Spelled (following op F read.0) bytes mid read.1) (λ read. Spelled (F read.0) bytes at read.1)
      (λ read s.
      record {
        forward = omega (arith, h.found.forward, s.forward);
        within = s.within;
        spelling = subst (F read.0) (sym (first_slice bytes at mid read.1 op h.found s.forward)) s.spelling;
      })
      k.found;
  complete = λ w to s. k.complete w to (left_behind w first h s);
}

pub instr-first : (levels : ℕ) → HasFirst (instr levels)
unfolding instr
instr-first zero w s h =
    let f = first_of (λ body bytes. ⊥) (out-Instr w) s h in
    (f.c, f.starts)
instr-first (suc levels) w s h =
    let f = first_of (each (instr levels)) (out-Instr w) s h in
    (f.c, f.starts)

-- ---- a sequence, and what stops it

-- what is spelled begins with an `end` or an `else`
abbrev pub StopsFirst : {V : Type 0} → (V → Format) → Type 0
StopsFirst {V = V} D = (d : V) (bytes : List ℕ) (at end : ℕ) → Spelled (D d) bytes at end → Stops bytes at

pub end-stops_first : StopsFirst the_end
end-stops_first d bytes at end s = inl (byte_only s).0

pub else_end-stops_first : (Body : List Instr → Format) → StopsFirst (else_end Body)
else_end-stops_first Body d bytes at end s =
    elim s.spelling [
      | inl p ↦
          let one : Spelled (byte 0x0b) bytes at end = record { forward = s.forward; within = s.within; spelling = p.1 } in
          inl (byte_only one).0
      | inr p ↦
          let two : Spelled (byte 0x05 then Body d then byte 0x0b) bytes at end = record { forward = s.forward; within = s.within; spelling = p } in
          inr (byte_only (split two).first).0
    ]

pub stopped-ok : {U V : Type 0} {B : U → Format} {D : V → Format} {bytes : List ℕ} {at mid end : ℕ} {us : List U} {d : V} → StopsFirst D → ReadsUpTo B bytes at (Ok (us, mid)) → Reads D bytes mid (Ok (d, end)) → Reads (pair (each B) D) bytes at (Ok ((us, d), end))
stopped-ok {D = D} {bytes = bytes} {us = us} {d = d} stops h k = record {
  found = join h.found.0 k.found;
  complete = λ w to s.
      let parts = split s in
      let first = h.complete w.0 parts.mid parts.first (stops w.1 bytes parts.mid to parts.second) in
      let second = k.complete w.1 to (subst (λ (m : ℕ). Spelled (D w.1) bytes m to) (sym first.1) parts.second) in
      (same_pair us w.0 d w.1 first.0 second.0, second.1);
}

pub stopped-err : {U V : Type 0} {B : U → Format} {D : V → Format} {bytes : List ℕ} {at mid : ℕ} {us : List U} {e : DecodeFault} → StopsFirst D → ReadsUpTo B bytes at (Ok (us, mid)) → Reads D bytes mid (Err e) → Reads (pair (each B) D) bytes at (Err e)
stopped-err {D = D} {bytes = bytes} stops h k = record {
  found = tt;
  complete = λ w to s.
      let parts = split s in
      let first = h.complete w.0 parts.mid parts.first (stops w.1 bytes parts.mid to parts.second) in
      k.complete w.1 to (subst (λ (m : ℕ). Spelled (D w.1) bytes m to) (sym first.1) parts.second);
}

pub stopped-none : {U V : Type 0} {B : U → Format} (D : V → Format) {bytes : List ℕ} {at : ℕ} {e : DecodeFault} → StopsFirst D → ReadsUpTo B bytes at (Err e) → Reads (pair (each B) D) bytes at (Err e)
stopped-none D {bytes = bytes} stops h = record {
  found = tt;
  complete = λ w to s.
      let parts = split s in
      h.complete w.0 parts.mid parts.first (stops w.1 bytes parts.mid to parts.second);
}

-- ---- blocks, loops and conditionals

only-Block : (Body : List Instr → Format) (layer : Instr-F Instr) (s : List ℕ) → instr_over Body layer s → Starts 0x02 s → (u : Option ValTy × (List Instr × Unit {0})) × (layer ≡ Instr-F.Block u.0 u.1.0) × (byte 0x02 then pair blocktype (pair Body the_end) u) s
only-Block Body (Instr-F.Block t body) s h starts = ((t, (body, tt)), refl, h)
only-Block Body layer s h starts = absurd (omega (arith, kind_of Body layer 0x02 0x02 s (inr (inr (refl, inl (omega arith, omega arith)))) h starts))

pub arm-Block : (Body : List Instr → Format) → Arm (instr_over Body) (pair blocktype (pair Body the_end)) 0x02 (λ (u : Option ValTy × (List Instr × Unit {0})). Instr-F.Block u.0 u.1.0)
arm-Block Body = record { into = λ u s h. h; only = only-Block Body }

only-Loop : (Body : List Instr → Format) (layer : Instr-F Instr) (s : List ℕ) → instr_over Body layer s → Starts 0x03 s → (u : Option ValTy × (List Instr × Unit {0})) × (layer ≡ Instr-F.Loop u.0 u.1.0) × (byte 0x03 then pair blocktype (pair Body the_end) u) s
only-Loop Body (Instr-F.Loop t body) s h starts = ((t, (body, tt)), refl, h)
only-Loop Body layer s h starts = absurd (omega (arith, kind_of Body layer 0x03 0x03 s (inr (inr (refl, inl (omega arith, omega arith)))) h starts))

pub arm-Loop : (Body : List Instr → Format) → Arm (instr_over Body) (pair blocktype (pair Body the_end)) 0x03 (λ (u : Option ValTy × (List Instr × Unit {0})). Instr-F.Loop u.0 u.1.0)
arm-Loop Body = record { into = λ u s h. h; only = only-Loop Body }

conditional-whole : (Body : List Instr → Format) (t : Option ValTy) (first second : List Instr) (s : List ℕ) → (byte 0x04 then pair blocktype (pair Body (else_end Body)) (t, (first, second))) s → conditional Body t first second s
conditional-whole Body t first second s u =
    elim u.4.4.4 [
      | inl p ↦ inl (p.0, (u.0, u.1, u.2, u.3, (u.4.0, u.4.1, u.4.2, u.4.3, (u.4.4.0, u.4.4.1, u.4.4.2, u.4.4.3, p.1))))
      | inr q ↦ inr (u.0, u.1, u.2, u.3, (u.4.0, u.4.1, u.4.2, u.4.3, (u.4.4.0, u.4.4.1, u.4.4.2, u.4.4.3, q)))
    ]

only-If : (Body : List Instr → Format) (layer : Instr-F Instr) (s : List ℕ) → instr_over Body layer s → Starts 0x04 s → (u : Option ValTy × (List Instr × List Instr)) × (layer ≡ Instr-F.If u.0 u.1) × (byte 0x04 then pair blocktype (pair Body (else_end Body)) u) s
only-If Body (Instr-F.If t branches) s h starts = ((t, branches), refl, conditional-parts Body t branches.0 branches.1 s h)
only-If Body layer s h starts = absurd (omega (arith, kind_of Body layer 0x04 0x04 s (inr (inr (refl, inl (omega arith, omega arith)))) h starts))

pub arm-If : (Body : List Instr → Format) → Arm (instr_over Body) (pair blocktype (pair Body (else_end Body))) 0x04 (λ (u : Option ValTy × (List Instr × List Instr)). Instr-F.If u.0 u.1)
arm-If Body = record { into = λ u s h. conditional-whole Body u.0 u.1.0 u.1.1 s h; only = only-If Body }

-- ---- one level less within

pub level-ok : {bytes : List ℕ} {at end op : ℕ} (levels : ℕ) (layer : Instr-F Instr) (i : Instr) → 0 < levels → roll-Instr layer ≡ i → Reads (following op (instr_over (each (instr (levels - 1))))) bytes at (Ok (layer, end)) → Reads (following op (instr levels)) bytes at (Ok (i, end))
unfolding instr
level-ok zero layer i some is h = absurd (omega arith)
level-ok {bytes = bytes} {at = at} {end = end} {op = op} (suc levels) layer i some is h =
    let less : suc levels - 1 ≡ levels = omega arith in
    instr-from (each (instr levels)) layer i is (subst (λ (n : ℕ). Reads (following op (instr_over (each (instr n)))) bytes at (Ok (layer, end))) less h)

pub level-err : {bytes : List ℕ} {at op : ℕ} {e : DecodeFault} (levels : ℕ) → 0 < levels → Reads (following op (instr_over (each (instr (levels - 1))))) bytes at (Err e) → Reads (following op (instr levels)) bytes at (Err e)
unfolding instr
level-err zero some h = absurd (omega arith)
level-err {bytes = bytes} {at = at} {op = op} {e = e} (suc levels) some h =
    let less : suc levels - 1 ≡ levels = omega arith in
    as-err out-Instr (λ v s k. k) (subst (λ (n : ℕ). Reads (following op (instr_over (each (instr n)))) bytes at (Err e)) less h)

-- ---- where instructions stop

stops-at : (bytes : List ℕ) (at b : ℕ) → slice_get bytes at ≡ Some b → Starts b (drop at bytes)
stops-at bytes at b is =
    let here = slice_get-get_or bytes at b is in
    (drop (at + 1) bytes, drop_more bytes at 0 here.0 ∙ ap (λ (c : ℕ). c ∷ drop (at + 1) bytes) here.1)

pub instr-stops : (levels : ℕ) (bytes : List ℕ) → GoesOn (instr levels) bytes
instr-stops levels bytes v at end s stops =
    let whole : drop at bytes ≡ slice_range bytes at end ++ drop end bytes = drop_split bytes at end s.forward in
    let stop : StopsAt (drop at bytes) = elim stops [ inl is ↦ inl (stops-at bytes at 0x0b is) | inr is ↦ inr (stops-at bytes at 0x05 is) ] in
    (instr-goes_on levels).never v (slice_range bytes at end) (drop end bytes) s.spelling (subst StopsAt whole stop)

-- ---- the answers of the reader of a sequence

pub returned-up_to : {V : Type 0} {B : V → Format} {bytes : List ℕ} {at : ℕ} {e : DecodeFault} (r : Result (List V × ℕ) DecodeFault) → IsErrAnd r (λ fault. fault ≡ e) → ReadsUpTo B bytes at (Err e) → ReadsUpTo B bytes at r
returned-up_to {B = B} {bytes = bytes} {at = at} r is h =
    let failed = err_from_is_err_and r is in
    let whole : r ≡ Err failed.0 = failed.1 in
    subst (λ (answer : _). ReadsUpTo B bytes at answer) (sym whole) (subst (λ (fault : DecodeFault). ReadsUpTo B bytes at (Err fault)) (sym failed.2) h)

pub up_to-no_memory : {V : Type 0} (B : V → Format) (bytes : List ℕ) (at : ℕ) → ReadsUpTo B bytes at (Err NoMemory)
up_to-no_memory B bytes at = record { found = tt; complete = λ all end s stops. refl }

-- ---- no blocks where none may be open

-- what holds no instructions of its own
no_block : (layer : Instr-F Instr) (op : ℕ) (s : List ℕ) → 0x02 ≤ number layer → number layer ≤ 0x04 → instr_over (λ body bytes. ⊥) layer (op ∷ s) → ⊥
no_block (Instr-F.Block t body) op s from to h = h.4.4.3
no_block (Instr-F.Loop t body) op s from to h = h.4.4.3
no_block (Instr-F.If t branches) op s from to h = elim h [ inl p ↦ p.1.4.4.3 | inr p ↦ p.4.4.3 ]
no_block layer op s from to h = absurd (omega arith)

opening : (op : ℕ) → 0x02 ≤ op → op ≤ 0x04 → Stands op op
opening op from to = inr (inr (refl, inl (from, omega (arith, to))))

pub level-none : {bytes : List ℕ} {at op : ℕ} (levels : ℕ) → levels ≡ 0 → 0x02 ≤ op → op ≤ 0x04 → Reads (following op (instr levels)) bytes at (Err Malformed)
unfolding instr
level-none {op = op} zero is from to =
    following-none (instr zero) (λ w s h.
    let kind : number (out-Instr w) ≡ op = kind_of (λ body bytes. ⊥) (out-Instr w) op op (op ∷ s) (opening op from to) h (s, refl) in
    no_block (out-Instr w) op s (omega arith) (omega arith) h)
level-none (suc levels) is from to = absurd (omega arith)

-- ---- an `end` as a value of its own

pub end-ok : {bytes : List ℕ} {at end : ℕ} → Passes (byte 0x0b) bytes at (Ok end) → Reads the_end bytes at (Ok (tt, end))
end-ok h = record { found = h.found; complete = λ w to s. (refl, h.complete to s) }

pub end-err : {bytes : List ℕ} {at : ℕ} {e : DecodeFault} → Passes (byte 0x0b) bytes at (Err e) → Reads the_end bytes at (Err e)
end-err h = record { found = tt; complete = λ w to s. h.complete to s }

-- what holds instructions, and its end
pub body-ok : {Body : List Instr → Format} {bytes : List ℕ} {at end : ℕ} (body : List Instr) → Reads (pair Body the_end) bytes at (Ok ((body, tt), end)) → Reads (λ (b : List Instr). Body b then byte 0x0b) bytes at (Ok (body, end))
body-ok body = as-ok (λ (p : List Instr × Unit {0}). p.0) (λ (b : List Instr). (b, tt)) (λ b. refl) (λ b s h. h) (λ h. h)

pub body-err : {Body : List Instr → Format} {bytes : List ℕ} {at : ℕ} {e : DecodeFault} → Reads (pair Body the_end) bytes at (Err e) → Reads (λ (b : List Instr). Body b then byte 0x0b) bytes at (Err e)
body-err = as-err (λ (b : List Instr). (b, tt)) (λ b s h. h)

-- ---- what every opcode of a block, a loop or a conditional has after it

-- its type, a body, and the rest, which an `end` or an `else` begins
structured-parts : (Body : List Instr → Format) (layer : Instr-F Instr) (op : ℕ) (s : List ℕ) → 0x02 ≤ number layer → number layer ≤ 0x04 → instr_over Body layer (op ∷ s) → (u : Option ValTy × (List Instr × List Instr)) × pair blocktype (pair Body (else_end Body)) u s
structured-parts Body (Instr-F.Block t body) op s from to h =
    let u = behind_byte 0x02 op s h in
    ((t, (body, [])), (u.0, u.1, u.2, u.3, (u.4.0, u.4.1, u.4.2, u.4.3, inl (refl, u.4.4))))
structured-parts Body (Instr-F.Loop t body) op s from to h =
    let u = behind_byte 0x03 op s h in
    ((t, (body, [])), (u.0, u.1, u.2, u.3, (u.4.0, u.4.1, u.4.2, u.4.3, inl (refl, u.4.4))))
structured-parts Body (Instr-F.If t branches) op s from to h =
    ((t, branches), behind_byte 0x04 op s (conditional-parts Body t branches.0 branches.1 (op ∷ s) h))
structured-parts Body layer op s from to h = absurd (omega arith)

pub structured-err : {bytes : List ℕ} {at op : ℕ} {e : DecodeFault} (Body : List Instr → Format) → 0x02 ≤ op → op ≤ 0x04 → Reads (pair blocktype (pair Body (else_end Body))) bytes at (Err e) → Reads (following op (instr_over Body)) bytes at (Err e)
structured-err {bytes = bytes} {at = at} {op = op} Body from to h = record {
  found = tt;
  complete = λ w last s.
      let kind : number w ≡ op = kind_of Body w op op (op ∷ slice_range bytes at last) (opening op from to) s.spelling (slice_range bytes at last, refl) in
      let parts = structured-parts Body w op (slice_range bytes at last) (omega arith) (omega arith) s.spelling in
      h.complete parts.0 last (record { forward = s.forward; within = s.within; spelling = parts.1 });
}

-- ---- the second branch of a conditional, and the end

pub else_end-first : (Body : List Instr → Format) → HasFirst (else_end Body)
else_end-first Body w s h = elim h [ inl p ↦ (0x0b, ([], p.1)) | inr p ↦ (0x05, byte_starts 0x05 s p) ]

only-else : (Body : List Instr → Format) (w : List Instr) (s : List ℕ) → else_end Body w s → Starts 0x05 s → (u : List Instr × Unit {0}) × (w ≡ u.0) × (byte 0x05 then pair Body the_end u) s
only-else Body w s h starts =
    elim h [
      | inl p ↦ absurd (omega (arith, starts-one 0x05 0x0b s starts ([], p.1)))
      | inr p ↦ ((w, tt), refl, p)
    ]

pub arm-else : (Body : List Instr → Format) → Arm (else_end Body) (pair Body the_end) 0x05 (λ (u : List Instr × Unit {0}). u.0)
arm-else Body = record { into = λ u s h. inr h; only = only-else Body }

only-no_else : (Body : List Instr → Format) (w : List Instr) (s : List ℕ) → else_end Body w s → Starts 0x0b s → (u : Unit {0}) × (w ≡ []) × (byte 0x0b then no_more u) s
only-no_else Body w s h starts =
    elim h [
      | inl p ↦ (tt, p.0, (0x0b ∷ [], [], p.1, refl, refl))
      | inr p ↦ absurd (omega (arith, starts-one 0x0b 0x05 s starts (byte_starts 0x05 s p)))
    ]

pub arm-no_else : (Body : List Instr → Format) → Arm (else_end Body) no_more 0x0b (λ (u : Unit {0}). [])
arm-no_else Body = record { into = λ u s h. inl (refl, into-plain 0x0b s h); only = only-no_else Body }

-- a mark that is no `else` is an `end`, where there is an `end` or an `else`
pub mark-end : {bytes : List ℕ} {at mid mark : ℕ} → Stops bytes at → Reads byte bytes at (Ok (mark, mid)) → (mark ≡ 0x05 → ⊥) → mark ≡ 0x0b
mark-end stops h not_else =
    let here = (byte_only h.found).0 in
    elim stops [ inl end ↦ (cc) | inr els ↦ absurd (not_else (cc)) ]

-- a test that fails says that what it tests doesn't hold
pub not_true : {P : Type 0} (r : Bool) → (IsTrue r ↔ P) → r ≡ false → P → ⊥
not_true r decides is p =
    let yes_it_is : IsTrue r = decides.1 p in
    absurd (cc)

pub if_opcode : (op : ℕ) → 0x02 ≤ op → op ≤ 0x04 → (op ≡ 0x02 → ⊥) → (op ≡ 0x03 → ⊥) → op ≡ 0x04
if_opcode zero from to other third = absurd (omega arith)
if_opcode (suc zero) from to other third = absurd (omega arith)
if_opcode (suc (suc zero)) from to other third = absurd (other refl)
if_opcode (suc (suc (suc zero))) from to other third = absurd (third refl)
if_opcode (suc (suc (suc (suc zero)))) from to other third = refl
if_opcode (suc (suc (suc (suc (suc op))))) from to other third = absurd (omega arith)
